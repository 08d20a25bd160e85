use Rattle.std.proofs.Common.{◌≡◌, ◌∙◌, rules}
use Rattle.std.specs.Prelude.{count_by}
use Rattle.intervals.specs.Intervals.{missing}
use Rattle.intervals.proofs.Sums.{count_is}
use Rattle.intervals.proofs.fill.Checked.count_missing.Goals as goal

pub returns : goal.returns
returns c =
    let xs = c.args.self.now.intervals.now in
    let e : c.count.result ≡ count_by missing xs = search rules in
    e ∙ count_is missing xs

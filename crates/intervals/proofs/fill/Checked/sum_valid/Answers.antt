use Rattle.std.proofs.Common.{◌≡◌, cond, map, ◌∙◌, rules}
use Rattle.std.specs.Prelude.{sum}
use Rattle.intervals.specs.Intervals.{valid, wh_of}
use Rattle.intervals.proofs.Sums.{sum_is}
use Rattle.intervals.proofs.fill.Checked.sum_valid.Goals as goal

pub returns : goal.returns
returns c =
    let xs = c.args.self.now.intervals.now in
    let e : c.sum.result ≡ sum (map (λ x. cond (valid x) (wh_of x) 0) xs) = search rules in
    e ∙ sum_is valid wh_of xs

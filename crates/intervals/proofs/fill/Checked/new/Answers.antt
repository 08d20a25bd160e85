use Rattle.std.proofs.Common.{◌≡◌, Ok, rules}
use Rattle.intervals.specs.Intervals.{checked}
use Rattle.intervals.proofs.Known.{known}
use Rattle.intervals.proofs.fill.Checked.new.Goals as goal

pub invariant_of-result : goal.invariant_of-result
invariant_of-result c =
    let e : checked c.args.month.now c.args.intervals.now ≡ Ok tt = search rules in
    record { usable = (known c.args.month.now c.args.intervals.now e).usable }

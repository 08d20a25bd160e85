use Rattle.std.proofs.Common.{◌≡◌, ◌+◌, ◌*◌, ◌≤◌, drop}
use Rattle.intervals.specs.Intervals.{weights_from, weights_in}
use Rattle.intervals.proofs.fill.Checked.sum_weights.Given as goal

-- what is summed and what is left come to the whole
abbrev pub invariant-loop-place : goal.invariant-loop-place
invariant-loop-place l =
    (l.sum + weights_from l.self.month l.place (drop l.place l.self.intervals.now) ≡ weights_in l.self.month l.self.intervals.now) × (l.sum ≤ 4294967295 * l.place)

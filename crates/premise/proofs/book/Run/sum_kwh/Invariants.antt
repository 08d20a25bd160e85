use Rattle.std.proofs.Common.{◌≡◌, ◌+◌, ◌*◌, ◌≤◌, drop}
use Rattle.measures.specs.Entry.{total_kwh}
use Rattle.premise.proofs.book.Run.sum_kwh.Given as goal

-- what is summed and what is left come to the whole
abbrev pub invariant-loop-e : goal.invariant-loop-e
invariant-loop-e l =
    (l.sum + total_kwh (drop l.e-index l.self.entries.now) ≡ total_kwh l.self.entries.now) × (l.sum ≤ 4294967295 * l.e-index)

use Rattle.std.proofs.Common.{◌≡◌, ◌-◌, length, take}
use Rattle.desk.specs.Lists.{numbers_of}
use Rattle.desk.specs.Left.{left}
use Rattle.desk.proofs.Behind.{behind}
use Rattle.desk.proofs.numbers.numbers_of.Given as goal

-- the numbers so far and those of the fields that are left are the line's
abbrev pub invariant-loop-number : goal.invariant-loop-number
invariant-loop-number g l =
    (length l.number-items ≡ g.row.N)
    × (behind (take l.number-index l.number-items) (g.row.N - l.number-index) (left l.rest) ≡ numbers_of g.row.N l.fn.line)

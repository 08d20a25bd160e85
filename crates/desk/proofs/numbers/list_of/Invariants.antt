use Rattle.std.proofs.Common.{◌≡◌}
use Rattle.fields.specs.Pieces.{pieces}
use Rattle.desk.specs.Lists.{all_numbers}
use Rattle.desk.specs.Left.{left}
use Rattle.desk.proofs.Behind.{all_behind}
use Rattle.desk.proofs.numbers.list_of.Given as goal

-- the numbers so far and those of the fields that are left are the line's
abbrev pub invariant-loop-field : goal.invariant-loop-field
invariant-loop-field l =
    (goal.iterator-loop-field).can_next l.field-iterator
    × (goal.iterator-loop-field).is_finite l.field-iterator
    × (all_behind l.numbers.items (left l.field-iterator) ≡ all_numbers (pieces 32 l.line))

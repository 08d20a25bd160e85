-- The readings of a demand book.
--   mark_number m               the number that stands for the mark m
--   mark_of n                   the mark that the number n stands for
--   counts_as_estimated b e     whether the reading e counts as estimated, where b is the entry directly before it, if any
use Rattle.std.specs.Prelude.{ℕ, Bool, true, false, cond, ◌&&◌, ◌||◌, Some, None, Option, ◌==◌, nat_le}
use Rattle.demand.specs.declared.entry.Mark.{Mark}
use Rattle.demand.specs.declared.entry.Mark.TheVariants.{ReadAndReset, NotReset, Estimated}
use Rattle.demand.specs.declared.entry.DemandEntry.{DemandEntry}

abbrev pub mark_number : Mark → ℕ
mark_number ReadAndReset = 1
mark_number NotReset = 2
mark_number Estimated = 0

-- any number but 1 and 2 stands for an estimated reading
abbrev pub mark_of : ℕ → Mark
mark_of n = cond (n == 1) ReadAndReset (cond (n == 2) NotReset Estimated)

abbrev pub is_estimated : Mark → Bool
is_estimated ReadAndReset = false
is_estimated NotReset = false
is_estimated Estimated = true

abbrev pub is_not_reset : Mark → Bool
is_not_reset ReadAndReset = false
is_not_reset NotReset = true
is_not_reset Estimated = false

-- whether the meter, not reset before, may still show the reading before
abbrev pub shows_before : Option DemandEntry → DemandEntry → Bool
shows_before (Some b) e = is_not_reset b.mark && nat_le e.tenths b.tenths
shows_before None e = false

abbrev pub counts_as_estimated : Option DemandEntry → DemandEntry → Bool
counts_as_estimated b e = is_estimated e.mark || shows_before b e

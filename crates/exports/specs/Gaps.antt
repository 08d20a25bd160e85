-- The intervals of a month as C hands them in.
--   interval_of x, metered_of x   an interval from its numbers, and its numbers again
--   month_of ..                   the month that a list of intervals is filled by
--   too_long s                    the refusal of a list of over 3,360 intervals with s slots a day
use Rattle.std.specs.Prelude.{ℕ, cond, ◌||◌, List, ◌==◌}
use Rattle.std.specs.Borrow.{Bor}
use Rattle.measures.specs.Refusals.{bad_slots, not_whole_days}
use Rattle.intervals.specs.declared.interval.Interval.{Interval}
use Rattle.intervals.specs.declared.month.Month.{Month}
use Rattle.intervals.specs.Intervals.{mark_number, mark_of}
use Rattle.exports.specs.declared.gaps.Metered.{Metered}
use Rattle.exports.specs.declared.gaps.Span.{Span}

abbrev pub interval_of : Metered → Interval
interval_of x = record { wh = x.wh; weight = x.weight; mark = mark_of x.mark }

abbrev pub metered_of : Interval → Metered
metered_of x = record { wh = x.wh; weight = x.weight; mark = mark_number x.mark }

abbrev pub month_of : Span → Bor (List ℕ) → Bor (List ℕ) → Bor (List ℕ) → Month
month_of s weekday weekend holidays =
    record { slots = s.slots; first_day = s.first_day; weekday = weekday; weekend = weekend; holidays = holidays; total = s.total }

abbrev pub too_long : ℕ → ℕ
too_long slots = cond (slots == 24 || slots == 96) not_whole_days bad_slots

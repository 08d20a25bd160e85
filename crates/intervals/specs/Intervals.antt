-- The missing intervals of a month, filled so that the month comes to its register total. Intervals stand in order of
-- time: interval i is slot i % slots of day first day + i / slots.
--   mark_number k        the number that stands for the mark k
--   mark_of n            the mark that the number n stands for
--   valid x, missing x   told by the mark; lacking x: not valid
--   wh_in, valid_wh      the Wh of all intervals of a list, and of the valid ones
--   missing_in xs        how many intervals are missing
--   day_off m d          whether the day d uses the weekend reference: on a weekend, or a holiday
--   reference m i        the reference Wh at place i of the list, by its day and slot
--   weighed m xs         the intervals once each missing one has its reference as weight
--   weights_in m xs      the references of the missing intervals together
--   filled m xs          the intervals once the missing ones have their shares of what the valid ones leave of the total
--   whole_days, fits_day, rising_from, readable   what is asked of a list, a reference day, the holidays and an interval
--   checked m xs         the refusals of what was handed in
--   left_over ..         what is left for the missing intervals, and the refusals where it cannot be shared out
--   answer m xs          the number of intervals that are filled, or the first refusal
--   FilledUp m n xs ys   what holds of the intervals before and after
--   Usable m n           what a list of n intervals needs, or a place n
use Rattle.std.specs.Prelude.{◌≡◌, ℕ, ◌+◌, ◌-◌, ◌/◌, ◌%◌, ◌<◌, ◌≤◌, Bool, true, false, cond, not, ◌&&◌, ◌||◌, List, [], ◌∷◌, length, get_or, Ok, Err, Result, ◌==◌, nat_le, nat_lt, slice_index, slice_index_or}
use Rattle.std.specs.List.{list_all}
use Rattle.calendar.specs.Calendar.{last_day, weekend as weekend_day}
use Rattle.measures.specs.Refusals.{bad_slots, not_whole_days, bad_reference, bad_holidays, bad_readings, none_missing, over_total, no_weight}
use Rattle.sharing.specs.Sharing.{sum_of, shared}
use Rattle.intervals.specs.declared.interval.Mark.{Mark}
use Rattle.intervals.specs.declared.interval.Mark.TheVariants.{Valid, Missing, Filled}
use Rattle.intervals.specs.declared.interval.Interval.{Interval}
use Rattle.intervals.specs.declared.month.Month.{Month}

abbrev pub mark_number : Mark → ℕ
mark_number Valid = 0
mark_number Missing = 1
mark_number Filled = 2

-- 0 stands for valid and 1 for missing; on the way in any other number stands for filled
abbrev pub mark_of : ℕ → Mark
mark_of n = cond (n == 0) Valid (cond (n == 1) Missing Filled)

abbrev pub valid : Interval → Bool
valid x = mark_number x.mark == 0

abbrev pub missing : Interval → Bool
missing x = mark_number x.mark == 1

abbrev pub lacking : Interval → Bool
lacking x = not (valid x)

abbrev pub wh_of : Interval → ℕ
wh_of x = x.wh

abbrev pub weight_of : Interval → ℕ
weight_of x = x.weight

-- a missing interval takes the weight
abbrev pub weighed_by : ℕ → Interval → Interval
weighed_by w x = cond (missing x) (record { wh = x.wh; weight = w; mark = x.mark }) x

-- a valid interval, which takes no part in the sharing, would keep its mark
abbrev pub mark_after : Mark → Mark
mark_after Valid = Valid
mark_after Missing = Filled
mark_after Filled = Filled

abbrev pub with_share : Interval → ℕ → Interval
with_share x s = record { wh = s; weight = x.weight; mark = mark_after x.mark }

-- the Wh of all intervals, of the valid ones, and how many are missing
abbrev pub wh_in : List Interval → ℕ
wh_in xs = sum_of (λ _. true) wh_of xs

abbrev pub valid_wh : List Interval → ℕ
valid_wh xs = sum_of valid wh_of xs

abbrev pub missing_in : List Interval → ℕ
missing_in xs = sum_of missing (λ _. 1) xs

abbrev pub holiday : ℕ → List ℕ → Bool
holiday d [] = false
holiday d (h ∷ hs) = h == d || holiday d hs

abbrev pub day_off : Month → ℕ → Bool
day_off m d = weekend_day d || holiday d m.holidays.now

abbrev pub reference_day : Month → ℕ → List ℕ
reference_day m d = cond (day_off m d) m.weekend.now m.weekday.now

abbrev pub reference : Month → ℕ → ℕ
reference m i = slice_index (reference_day m (m.first_day + i / m.slots)) (i % m.slots)

-- the intervals from place i on
abbrev pub weighed_from : Month → ℕ → List Interval → List Interval
weighed_from m i [] = []
weighed_from m i (x ∷ xs) = weighed_by (reference m i) x ∷ weighed_from m (i + 1) xs

abbrev pub weighed : Month → List Interval → List Interval
weighed m xs = weighed_from m 0 xs

-- the references of the missing intervals together
abbrev pub weights_from : Month → ℕ → List Interval → ℕ
weights_from m i xs = sum_of missing weight_of (weighed_from m i xs)

abbrev pub weights_in : Month → List Interval → ℕ
weights_in m xs = weights_from m 0 xs

abbrev pub filled : Month → List Interval → List Interval
filled m xs = shared lacking weight_of with_share (m.total - valid_wh xs) (weighed m xs)

-- n intervals are 1 to 35 whole days, the last of them on the calendar
abbrev pub whole_days : ℕ → ℕ → ℕ → Bool
whole_days slots first n = n % slots == 0 && (nat_le 1 (n / slots) && (nat_le (n / slots) 35 && nat_le (first + n / slots - 1) last_day))

abbrev pub fits_day : ℕ → List ℕ → Bool
fits_day slots vs = length vs == slots && list_all (λ v. nat_le v 1000000) vs

-- days that rise strictly, the first of them not before d
abbrev pub rising_from : ℕ → List ℕ → Bool
rising_from d [] = true
rising_from d (h ∷ hs) = nat_le d h && rising_from (h + 1) hs

-- valid with at most 1,000,000 Wh, or missing
abbrev pub readable : Interval → Bool
readable x = (valid x && nat_le x.wh 1000000) || missing x

abbrev pub checked : Month → List Interval → Result (Unit {0}) ℕ
checked m xs =
    cond (not (m.slots == 24 || m.slots == 96)) (Err bad_slots)
    (cond (not (whole_days m.slots m.first_day (length xs))) (Err not_whole_days)
    (cond (not (fits_day m.slots m.weekday.now && fits_day m.slots m.weekend.now)) (Err bad_reference)
    (cond (not (rising_from 0 m.holidays.now)) (Err bad_holidays)
    (cond (not (list_all readable xs && nat_le m.total 1000000000)) (Err bad_readings)
    (Ok tt)))))

-- from the total, the number of gaps, the metered Wh and the weights of the gaps
abbrev pub left_over : ℕ → ℕ → ℕ → ℕ → Result ℕ ℕ
left_over total gaps metered weights =
    cond (gaps == 0) (Err none_missing)
    (cond (nat_lt total metered) (Err over_total)
    (cond (nat_lt metered total && weights == 0) (Err no_weight)
    (Ok (total - metered))))

-- a second result, unless the first is a refusal
abbrev pub then : {A B : Type 0} → Result A ℕ → Result B ℕ → Result B ℕ
then (Ok _) r = r
then (Err e) r = Err e

abbrev pub answer : Month → List Interval → Result ℕ ℕ
answer m xs = then (checked m xs) (then (left_over m.total (missing_in xs) (valid_wh xs) (weights_in m xs)) (Ok (missing_in xs)))

pub record FilledUp (m : Month) (n : ℕ) (xs ys : List Interval) : Type 0 where
  -- the Wh of all intervals sum to the register total
  pub whole : wh_in ys ≡ m.total
  -- no valid interval has changed
  pub kept : (k : ℕ) (d : Interval) → k < length xs → (get_or xs k d).mark ≡ Valid → slice_index_or ys k d ≡ slice_index_or xs k d
  -- each missing interval is marked as filled, and was weighed by the reference at its slot
  pub marked : (k : ℕ) (d : Interval) → k < length xs → (get_or xs k d).mark ≡ Missing → (get_or ys k d).mark ≡ Filled
  pub weighed : (k : ℕ) (d : Interval) → k < length xs → (get_or xs k d).mark ≡ Missing → (get_or ys k d).weight ≡ reference m k
  -- the answer is how many were missing
  pub counted : n ≡ missing_in xs
  pub same_length : length ys ≡ length xs

pub record Usable (m : Month) (n : ℕ) : Type 0 where
  pub few : n ≤ 3360
  pub some_slots : 0 < m.slots
  pub weekday_slots : length m.weekday.now ≡ m.slots
  pub weekend_slots : length m.weekend.now ≡ m.slots
  pub on_calendar : m.first_day + n / m.slots ≤ 36525

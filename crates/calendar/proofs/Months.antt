-- The months of the calendar: where each begins, and the one that a day lies in.
--   next_first, first_rises   the first days of the months, one after the other and in order
--   placed, lies_in           the month that month_of answers is the one that the day lies in
--   month_is, month_none      and the month that a day lies in is what it answers
--   begun_by, over_by         a day's month against any other month
--   month_rises               a later day lies in no earlier month
use Rattle.std.proofs.Common.{◌≡◌, ℕ, zero, suc, ◌+◌, ◌-◌, ◌<◌, ◌≤◌, ltb, Some, None, Option, sym, refl, ap, ⊎_elim, add-zero, add-suc, add-one, arith}
use Rattle.std.proofs.lemmas.Bool.{ltb-true, ltb-false, cond_both, cases_order, cases_lt}
use Rattle.calendar.specs.Calendar.{last_day, month_length, first_day_of, month_from, month_of, LiesIn, Placed}

pub next_first : (m : ℕ) → first_day_of (m + 1) ≡ first_day_of m + month_length m
unfolding first_day_of
next_first m = rw (add-one m)

rises_by : (n k : ℕ) → first_day_of k ≤ first_day_of (k + n)
unfolding first_day_of
rises_by zero k = rw add-zero (omega arith)
rises_by (suc n) k = rw add-suc (omega (arith, rises_by n k))

pub first_rises : (k m : ℕ) → k ≤ m → first_day_of k ≤ first_day_of m
first_rises k m h = let e : k + (m - k) ≡ m = omega arith in rw e at (rises_by (m - k) k)

-- what a search through the n months from month m on has found
abbrev Found : ℕ → ℕ → ℕ → Option ℕ → Type 0
Found n m d (Some k) = (k < m + n) × (first_day_of k ≤ first_day_of m + d) × (first_day_of m + d < first_day_of (k + 1))
Found n m d None = first_day_of (m + n) ≤ first_day_of m + d

found_later : (n m d : ℕ) → month_length m ≤ d → (r : Option ℕ) → Found n (m + 1) (d - month_length m) r → Found (suc n) m d r
found_later n m d h (Some k) f = (omega arith, omega (arith, next_first m), omega (arith, next_first m))
found_later n m d h None f = let e : m + suc n ≡ m + 1 + n = omega arith in rw e (omega (arith, next_first m))

found : (n m d : ℕ) → Found n m d (month_from n m d)
unfolding month_from
found zero m d = rw add-zero (omega arith)
found (suc n) m d =
    cond_both (ltb d (month_length m)) (Some m) (month_from n (m + 1) (d - month_length m)) (Found (suc n) m d)
    (λ e. (omega arith, omega arith, omega (arith, next_first m, ltb-true d (month_length m) e)))
    (λ e. found_later n m d (ltb-false d (month_length m) e) (month_from n (m + 1) (d - month_length m)) (found n (m + 1) (d - month_length m)))

-- a day lies in one month at most
one_month : (d k m : ℕ) → first_day_of k ≤ d → d < first_day_of (k + 1) → first_day_of m ≤ d → d < first_day_of (m + 1) → k ≡ m
one_month d k m a b c e =
    ⊎_elim (λ h. h) (⊎_elim (λ h. absurd (omega (arith, first_rises (k + 1) m (omega arith)))) (λ h. absurd (omega (arith, first_rises (m + 1) k (omega arith))))) (cases_order k m)

calendar_end : first_day_of 1200 ≡ last_day + 1
unfolding first_day_of
calendar_end = refl

placed_by : (d : ℕ) (r : Option ℕ) → Found 1200 0 d r → Placed d r
unfolding first_day_of
placed_by d (Some m) f =
    let from : first_day_of m ≤ d = omega arith in
    let to : d < first_day_of (m + 1) = omega arith in
    record {
      on_calendar = omega (arith, first_rises (m + 1) 1200 (omega arith), calendar_end);
      counted = omega arith;
      begun = from;
      not_over = to;
      only = λ k a b. one_month d k m a b from to;
    }
placed_by d None f = omega (arith, calendar_end)

pub placed : (d : ℕ) → Placed d (month_of d)
unfolding month_of
placed d = placed_by d (month_of d) (found 1200 0 d)

is_by : (d m : ℕ) (r : Option ℕ) → Placed d r → d ≤ last_day → first_day_of m ≤ d → d < first_day_of (m + 1) → r ≡ Some m
is_by d m (Some k) p h a b = ap Some (sym (p.only m a b))
is_by d m None p h a b = absurd (omega arith)

pub month_is : (d m : ℕ) → d ≤ last_day → first_day_of m ≤ d → d < first_day_of (m + 1) → month_of d ≡ Some m
month_is d m h a b = is_by d m (month_of d) (placed d) h a b

none_by : (d : ℕ) (r : Option ℕ) → Placed d r → last_day < d → r ≡ None
none_by d (Some m) p h = absurd (omega (arith, p.on_calendar))
none_by d None p h = refl

pub month_none : (d : ℕ) → last_day < d → month_of d ≡ None
month_none d h = none_by d (month_of d) (placed d) h

pub lies_in : (d m : ℕ) → month_of d ≡ Some m → LiesIn d m
lies_in d m e = rw e at (placed d)

-- the month of a day is not before one that has begun, and is before one that has not
pub begun_by : (d m k : ℕ) → LiesIn d m → first_day_of k ≤ d → k ≤ m
begun_by d m k l h =
    ⊎_elim (λ lt. absurd (omega (arith, first_rises (m + 1) k (omega arith), l.not_over))) (λ le. le) (cases_lt m k)

pub over_by : (d m k : ℕ) → LiesIn d m → d < first_day_of k → m < k
over_by d m k l h =
    ⊎_elim (λ lt. lt) (λ le. absurd (omega (arith, first_rises k m le, l.begun))) (cases_lt m k)

pub month_rises : (d e m n : ℕ) → d ≤ e → month_of d ≡ Some m → month_of e ≡ Some n → m ≤ n
month_rises d e m n h a b = begun_by e n m (lies_in e n b) (omega (arith, (lies_in d m a).begun))

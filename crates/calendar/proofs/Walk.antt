-- The walk through the table of the month lengths, in the cycle of four years that has the day.
use Rattle.std.proofs.Common.{◌≡◌, ℕ, zero, suc, ◌+◌, ◌-◌, ◌*◌, ◌/◌, ◌%◌, ◌<◌, ◌≤◌, List, get_or, Some, sym, refl, ap, ◌∙◌, le_of_suc-le-suc, not-suc-le-zero, add-zero, add-suc, zero-add, arith}
use native.Mathlib.Nat.{mul-add-mod_self_right}
use Rattle.calendar.specs.Calendar.{last_day, month_length, lengths_from, first_day_of, month_of, LiesIn}
use Rattle.calendar.proofs.Months.{next_first, month_is, lies_in}

-- the lengths come round every 48 months
length_again : (c i : ℕ) → month_length (c * 48 + i) ≡ month_length i
length_again c i =
    let a : (c * 48 + i) % 12 ≡ i % 12 = omega arith in
    let q : (c * 48 + i) / 12 ≡ c * 4 + i / 12 = omega arith in
    let b : (c * 48 + i) / 12 % 4 ≡ i / 12 % 4 = rw q (mul-add-mod_self_right c 4 (i / 12)) in
    rw (a, b)

first_again : (c i : ℕ) → first_day_of (c * 48 + i) ≡ first_day_of (c * 48) + first_day_of i
unfolding first_day_of
first_again c zero = let z : c * 48 + 0 ≡ c * 48 = omega arith in rw z (omega arith)
first_again c (suc i) = rw add-suc (omega (arith, first_again c i, length_again c i))

-- 48 months have 1461 days
first_of_cycle : (c : ℕ) → first_day_of (c * 48) ≡ c * 1461
unfolding first_day_of
first_of_cycle zero = refl
first_of_cycle (suc c) =
    let e : suc c * 48 ≡ c * 48 + 48 = omega arith in
    let s : first_day_of 48 ≡ 1461 = refl in
    rw e (omega (arith, first_again c 48, first_of_cycle c, s))

listed : (n m i : ℕ) → i < n → get_or (lengths_from n m) i 0 ≡ month_length (m + i)
listed zero m i h = absurd (not-suc-le-zero h)
listed (suc n) m zero h = rw add-zero
listed (suc n) m (suc i) h =
    let e : m + suc i ≡ m + 1 + i = omega arith in rw e (listed n (m + 1) i (le_of_suc-le-suc h))

-- an entry of the table is the length of its month, in every cycle
length_at : (t : List ℕ) (c i : ℕ) → t ≡ lengths_from 48 0 → i < 48 → get_or t i 0 ≡ month_length (c * 48 + i)
length_at t c i e h = rw e (listed 48 0 i h ∙ ap month_length (zero-add i) ∙ sym (length_again c i))

-- the walk has come to month i of cycle c: what is left of the day comes after that month's first day,
-- and less than the month's length leaves the day in this month
abbrev pub Reached : List ℕ → ℕ → ℕ → ℕ → ℕ → Type 0
Reached t day c i left =
    (left + first_day_of (c * 48 + i) ≡ day) × (day ≤ last_day → i < 48 → left < get_or t i 0 → (Some (c * 48 + i) ≡ month_of day) × LiesIn day (c * 48 + i))

reached : (t : List ℕ) (day c i left : ℕ) → t ≡ lengths_from 48 0 → left + first_day_of (c * 48 + i) ≡ day → Reached t day c i left
reached t day c i left e r = (
  r,
  λ on h lt.
      (let m : month_of day ≡ Some (c * 48 + i) = month_is day (c * 48 + i) on (omega arith) (omega (arith, next_first (c * 48 + i), length_at t c i e h)) in
      (sym m, lies_in day (c * 48 + i) m)),
)

pub reached_start : (t : List ℕ) (day : ℕ) → t ≡ lengths_from 48 0 → Reached t day (day / 1461) 0 (day % 1461)
reached_start t day e =
    let k : day / 1461 * 48 + 0 ≡ day / 1461 * 48 = omega arith in
    reached t day (day / 1461) 0 (day % 1461) e (rw k (omega (arith, first_of_cycle (day / 1461))))

pub reached_next : (t : List ℕ) (day c i left : ℕ) → t ≡ lengths_from 48 0 → i < 48 → get_or t i 0 ≤ left → Reached t day c i left → Reached t day c (i + 1) (left - get_or t i 0)
reached_next t day c i left e h le r =
    let a : c * 48 + (i + 1) ≡ (c * 48 + i) + 1 = omega arith in
    reached t day c (i + 1) (left - get_or t i 0) e (rw a (omega (arith, next_first (c * 48 + i), length_at t c i e h, r.0)))

-- no day is left past the cycle
pub reached_end : (t : List ℕ) (day i left : ℕ) → 48 ≤ i → i ≤ 48 → Reached t day (day / 1461) i left → ⊥
reached_end t day i left a b r =
    let k : day / 1461 * 48 + i ≡ suc (day / 1461) * 48 = omega arith in
    let f : left + first_day_of (suc (day / 1461) * 48) ≡ day = rw k at r.0 in
    omega (arith, first_of_cycle (suc (day / 1461)), f)

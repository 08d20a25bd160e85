-- What is known once nothing was refused.
use Rattle.std.proofs.Common.{◌≡◌, ℕ, zero, suc, ◌+◌, ◌-◌, ◌/◌, ◌%◌, ◌<◌, ◌≤◌, true, leb, ◌⊎◌, List, [], ◌∷◌, length, get_or, Ok, ap, ◌∙◌, ⊎_elim, arith}
use Rattle.std.proofs.lemmas.Bool.{leb-true, and_parts, cond_both}
use Rattle.std.proofs.lemmas.Bool.Decides.{nat_tests}
use Rattle.std.proofs.lemmas.Nat.{mul-le, div-add-mod'}
use Rattle.std.specs.List.{list_all}
use Rattle.intervals.specs.declared.interval.Interval.{Interval}
use Rattle.intervals.specs.declared.month.Month.{Month}
use Rattle.intervals.specs.Intervals.{readable, day_off, reference, missing_in, valid_wh, weights_in, checked, left_over, then, answer, Usable}

-- at most 35 days of at most 96 slots
pub few_intervals : (s n : ℕ) → (s ≡ 24) ⊎ (s ≡ 96) → n % s ≡ 0 → n / s ≤ 35 → n ≤ 3360
few_intervals s n e none d =
    let h : s ≤ 96 = ⊎_elim (λ q. omega arith) (λ q. omega arith) e in
    omega (arith, div-add-mod' n s, mul-le (n / s) s 35 96 d h)

some_slots : (s : ℕ) → (s ≡ 24) ⊎ (s ≡ 96) → 0 < s
some_slots s e = ⊎_elim (λ q. omega arith) (λ q. omega arith) e

within_at : (vs : List ℕ) (j : ℕ) → list_all (λ v. leb v 1000000) vs ≡ true → get_or vs j 0 ≤ 1000000
within_at [] j h = omega arith
within_at (v ∷ vs) zero h = leb-true v 1000000 (and_parts (leb v 1000000) (list_all (λ v. leb v 1000000) vs) h).0
within_at (v ∷ vs) (suc j) h = within_at vs j (and_parts (leb v 1000000) (list_all (λ v. leb v 1000000) vs) h).1

pub record Known (m : Month) (xs : List Interval) : Type 0 where
  pub usable : Usable m (length xs)
  pub light : (i : ℕ) → reference m i ≤ 1000000
  pub all_readable : list_all readable xs ≡ true
  pub total_within : m.total ≤ 1000000000

pub known : (m : Month) (xs : List Interval) → checked m xs ≡ Ok tt → Known m xs
known m xs h =
    let s = m.slots in
    let n = length xs in
    let slots : (s ≡ 24) ⊎ (s ≡ 96) = grind (arith, nat_tests) in
    let none_over : n % s ≡ 0 = grind (arith, nat_tests) in
    let most : n / s ≤ 35 = grind (arith, nat_tests) in
    let a : list_all (λ v. leb v 1000000) m.weekday.now ≡ true = grind (arith, nat_tests) in
    let b : list_all (λ v. leb v 1000000) m.weekend.now ≡ true = grind (arith, nat_tests) in
    record {
      usable = record {
        few = few_intervals s n slots none_over most;
        some_slots = some_slots s slots;
        weekday_slots = grind (arith, nat_tests);
        weekend_slots = grind (arith, nat_tests);
        on_calendar = grind (arith, nat_tests);
      };
      light = λ i. cond_both (day_off m (m.first_day + i / s)) m.weekend.now m.weekday.now (λ vs. get_or vs (i % s) 0 ≤ 1000000)
          (λ _. within_at m.weekend.now (i % s) b) (λ _. within_at m.weekday.now (i % s) a);
      all_readable = grind (arith, nat_tests);
      total_within = grind (arith, nat_tests);
    }

-- what is left, where it can be shared out
pub record Left (total metered weights left : ℕ) : Type 0 where
  pub within : metered ≤ total
  pub is : left ≡ total - metered
  pub none : weights ≡ 0 → left ≡ 0

pub left_known : (total gaps metered weights left : ℕ) → left_over total gaps metered weights ≡ Ok left → Left total metered weights left
left_known total gaps metered weights left h =
    record { within = grind (arith, nat_tests); is = grind (arith, nat_tests); none = λ z. grind (arith, nat_tests) }

pub answered : (m : Month) (xs : List Interval) (left : ℕ) → checked m xs ≡ Ok tt → left_over m.total (missing_in xs) (valid_wh xs) (weights_in m xs) ≡ Ok left → answer m xs ≡ Ok (missing_in xs)
answered m xs left h e =
    ap (λ r. then r (then (left_over m.total (missing_in xs) (valid_wh xs) (weights_in m xs)) (Ok (missing_in xs)))) h ∙ ap (λ r. then r (Ok (missing_in xs))) e

-- Days of which each comes after the one before it.
use Rattle.std.proofs.Common.{◌≡◌, ℕ, zero, suc, ◌+◌, ◌<◌, ◌≤◌, Bool, true, false, nat_lt, List, [], ◌∷◌, length, get_or, refl, sym, arith}
use Rattle.std.specs.List.{IsAllAdjacentAnswer}
use Rattle.std.proofs.lemmas.Bool.Decides.{nat_tests}
use Rattle.intervals.specs.Intervals.{rising_from}

all_rise : (xs : List ℕ) (d : ℕ) → d ≤ get_or xs 0 d → ((k : ℕ) (e : ℕ) → suc k < length xs → get_or xs k e < get_or xs (suc k) e) → rising_from d xs ≡ true
all_rise [] d low up = refl
all_rise (x ∷ []) d low up = grind (arith, nat_tests)
all_rise (x ∷ y ∷ ys) d low up =
    let rest : rising_from (x + 1) (y ∷ ys) ≡ true = all_rise (y ∷ ys) (x + 1) (omega (arith, up 0 0 (omega arith))) (λ k e h. up (suc k) e (omega (arith, h))) in
    grind (arith, nat_tests, rest)

one_falls : (xs : List ℕ) (d k : ℕ) → suc k < length xs → get_or xs (suc k) 0 ≤ get_or xs k 0 → rising_from d xs ≡ false
one_falls [] d k h down = absurd (omega (arith, h))
one_falls (x ∷ []) d k h down = absurd (omega (arith, h))
one_falls (x ∷ y ∷ ys) d zero h down = grind (arith, nat_tests, down)
one_falls (x ∷ y ∷ ys) d (suc k) h down =
    let rest : rising_from (x + 1) (y ∷ ys) ≡ false = one_falls (y ∷ ys) (x + 1) k (omega (arith, h)) down in
    grind (arith, nat_tests, rest)

pub rising_is : (xs : List ℕ) (r : Bool) → IsAllAdjacentAnswer (λ x y b. b ≡ nat_lt x y) xs r → r ≡ rising_from 0 xs
rising_is xs true a = sym (all_rise xs 0 (omega arith) (λ k e h. let up = a k e (omega (arith, h)) in grind (arith, nat_tests, up)))
rising_is xs false a = sym (one_falls xs 0 a.0 (omega (arith, a.1)) (let down = a.2 0 in grind (arith, nat_tests, down)))

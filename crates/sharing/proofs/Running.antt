-- The laws of running totals.
use Rattle.std.proofs.Common.{◌≡◌, ℕ, ◌+◌, ◌*◌, ◌/◌, ◌<◌, ◌≤◌, sym, ap, ◌∙◌, ⊎_elim, le_trans, add-mul, mul-le-mul_left, one-mul, mul-zero, div-mul-le_self, mul-div_cancel, arith}
use native.Mathlib.Nat.{lt-div-mul-add, div-eq_of_lt}
use Rattle.std.proofs.lemmas.Bool.{cond-true, cond-false, eq-eqb, ne_eqb, cases_eq}
use Rattle.std.proofs.lemmas.Nat.{le-div}
use Rattle.sharing.specs.Sharing.{running, RoundedDown}

pub running_none : (t w c : ℕ) → w ≡ 0 → running t w c ≡ 0
unfolding running
running_none t w c e = cond-true _ _ _ (eq-eqb w 0 e)

pub running_is : (t w c : ℕ) → (w ≡ 0 → ⊥) → running t w c ≡ t * c / w
unfolding running
running_is t w c n = cond-false _ _ _ (ne_eqb w 0 n)

-- a running total does not fall
pub running_up : (t w c d : ℕ) → c ≤ d → running t w c ≤ running t w d
running_up t w c d h = ⊎_elim
    (λ e. omega (arith, running_none t w c e, running_none t w d e))
    (λ n.
    let up : t * c / w ≤ t * d / w = le-div (t * c / w) (t * d) w (omega arith) (le_trans (div-mul-le_self (t * c) w) (mul-le-mul_left t h)) in
    omega (arith, running_is t w c n, running_is t w d n))
    (cases_eq w 0)

-- it begins at 0
pub running_start : (t w : ℕ) → running t w 0 ≡ 0
running_start t w = ⊎_elim
    (λ e. running_none t w 0 e)
    (λ n. let pos : 0 < w = omega arith in running_is t w 0 n ∙ rw (mul-zero t) (div-eq_of_lt pos))
    (cases_eq w 0)

-- it ends at the total, unless there is nothing to weigh by
pub running_end : (t w : ℕ) → (w ≡ 0 → t ≡ 0) → running t w w ≡ t
running_end t w none = ⊎_elim
    (λ e. running_none t w w e ∙ sym (none e))
    (λ n. let pos : 0 < w = omega arith in running_is t w w n ∙ mul-div_cancel t pos)
    (cases_eq w 0)

pub running_floor : (t w c : ℕ) → 0 < w → RoundedDown (running t w c) (t * c) w
running_floor t w c pos =
    let n : w ≡ 0 → ⊥ = λ e. omega arith in
    let up : (t * c / w + 1) * w ≡ t * c / w * w + w = add-mul (t * c / w) 1 w ∙ ap (λ k. t * c / w * w + k) (one-mul w) in
    rw (running_is t w c n) (record {
      not_above = div-mul-le_self (t * c) w;
      not_below = rw up (lt-div-mul-add pos);
    })

-- Sums over those that take part, as the library has them.
use Rattle.std.proofs.Common.{◌≡◌, ℕ, Bool, cond, List, map, sym, refl, ◌∙◌}
use Rattle.std.specs.Prelude.{sum, count_by}
use Rattle.std.proofs.lemmas.List.Sums.{sum-map}
use Rattle.std.proofs.lemmas.List.Recursion.{is_sum_by}
use Rattle.sharing.specs.Sharing.{sum_of}

module _ {R : Type 0} (part : R → Bool) where
  pub count_is : (xs : List R) → count_by part xs ≡ sum_of part (λ _. 1) xs
  count_is xs = sym (is_sum_by (sum_of part (λ _. 1)) _ refl (λ _ _. refl) xs)

  pub sum_is : (figure : R → ℕ) (xs : List R) → sum (map (λ x. cond (part x) (figure x) 0) xs) ≡ sum_of part figure xs
  sum_is figure xs = sum-map _ xs ∙ sym (is_sum_by (sum_of part figure) _ refl (λ _ _. refl) xs)

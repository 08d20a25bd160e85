-- The first of several answers.
use Rattle.std.proofs.Common.{◌≡◌, ℕ, zero, suc, ◌<◌, List, [], ◌∷◌, length, get_or, Some, None, Option, sym, refl, ap, ◌∙◌, suc-le-suc, zero-le, le_of_suc-le-suc, not-suc-le-zero}
use Rattle.estimating.specs.Tables.{first_then, first_among}
use Rattle.estimating.specs.Cases.{none_some}

module _ {A : Type 0} where
  pub first_then_none : (a : Option A) → first_then a None ≡ a
  first_then_none (Some x) = refl
  first_then_none None = refl

  -- the place of the first answer
  pub record Found (xs : List (Option A)) (x : A) : Type 0 where
    pub place : ℕ
    pub within : place < length xs
    pub here : get_or xs place None ≡ Some x
    pub before : (k : ℕ) → k < place → get_or xs k None ≡ None

  before_more : (xs : List (Option A)) (x : A) (f : Found xs x) (k : ℕ) → k < suc f.place → get_or (None ∷ xs) k None ≡ None
  before_more xs x f zero h = refl
  before_more xs x f (suc k) h = f.before k (le_of_suc-le-suc h)

  pub found : (xs : List (Option A)) (x : A) → first_among xs ≡ Some x → Found xs x
  found [] x e = none_some None x refl e
  found (Some y ∷ xs) x e = record { place = 0; within = suc-le-suc zero-le; here = e; before = λ k h. absurd (not-suc-le-zero h) }
  found (None ∷ xs) x e =
      let f = found xs x e in
      record { place = suc f.place; within = suc-le-suc f.within; here = f.here; before = before_more xs x f }

  pub found_first : (xs : List (Option A)) (x : A) (i : ℕ) → get_or xs i None ≡ Some x → ((k : ℕ) → k < i → get_or xs k None ≡ None) → first_among xs ≡ Some x
  found_first [] x i e b = e
  found_first (a ∷ xs) x zero e b = ap (λ z. first_then z (first_among xs)) e
  found_first (a ∷ xs) x (suc i) e b = ap (λ z. first_then z (first_among xs)) (b 0 (suc-le-suc zero-le)) ∙ found_first xs x i e (λ k h. b (suc k) (suc-le-suc h))

  pub none_found : (xs : List (Option A)) → first_among xs ≡ None → (i : ℕ) → get_or xs i None ≡ None
  none_found [] e i = refl
  none_found (Some y ∷ xs) e i = none_some (Some y) y (sym e) refl
  none_found (None ∷ xs) e zero = refl
  none_found (None ∷ xs) e (suc i) = none_found xs e i

  pub none_first : (xs : List (Option A)) → ((i : ℕ) → i < length xs → get_or xs i None ≡ None) → first_among xs ≡ None
  none_first [] n = refl
  none_first (a ∷ xs) n = ap (λ z. first_then z (first_among xs)) (n 0 (suc-le-suc zero-le)) ∙ none_first xs (λ i h. n (suc i) (suc-le-suc h))

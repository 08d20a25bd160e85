-- An answer or none, and where the answer of joined methods comes from.
use Rattle.std.specs.Prelude.{◌≡◌, ℕ, ◌⊎◌, Some, None, Option}
use Rattle.std.proofs.Common.{inl, inr, arith}
use Rattle.estimating.specs.Tables.{first_then}

-- there is not both none and one
pub none_some : {A : Type 0} {X : Type 0} (r : Option A) (x : A) → None ≡ r → r ≡ Some x → X
none_some r x n s = let z : ◌≡◌ {A = ℕ} 0 1 = cc in absurd (omega arith)

pub first_or_second : {A : Type 0} (f s : Option A) (b : A) → first_then f s ≡ Some b → (f ≡ Some b) ⊎ (s ≡ Some b)
first_or_second (Some a) s b e = inl e
first_or_second None s b e = inr e

-- Records copied one after the other.
use Rattle.std.proofs.Common.{ℕ, ◌+◌, ◌<◌, List, [], ◌∷◌, ◌++◌, length, get_or, take, set, sym, subst}
use Rattle.std.proofs.lemmas.List.{take_more, take_more_set}
use Rattle.std.proofs.lemmas.Slice.Zip.{all_zipped_more}
use Rattle.std.specs.List.{AllZip}

-- one record more
pub copied_more : {A B : Type 0} (R : A → B → Type 0) (xs : List A) (ys : List B) (i : ℕ) (x : A) (y : B) → i < length xs → i < length ys → R (get_or xs i x) y
    → AllZip R (take i xs) (take i ys) → AllZip R (take (i + 1) xs) (take (i + 1) (set ys i y))
copied_more R xs ys i x y lt in_ys r h =
    subst (λ zs. AllZip R zs (take (i + 1) (set ys i y))) (sym (take_more xs i x lt))
    (subst (AllZip R (take i xs ++ (get_or xs i x ∷ []))) (sym (take_more_set ys i y in_ys)) (all_zipped_more R (take i xs) (take i ys) (get_or xs i x) y h r))

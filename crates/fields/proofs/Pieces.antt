-- Bytes and the pieces that they fall into.
use Rattle.std.proofs.Common.{◌≡◌, ℕ, ◌+◌, ◌<◌, Bool, false, eqb, ltb, List, [], ◌∷◌, ◌++◌, length, get_or, take, drop, Some, None, sym, refl, ap, ◌∙◌, arith}
use Rattle.std.specs.List.{onto_first, position, position_or_len, AllByRecursion}
use Rattle.std.proofs.lemmas.List.Splits.{slice_split_none, slice_split_at, slice_split_first, join_with_byte-slice_split}
use Rattle.std.proofs.lemmas.List.Sums.{fails_before_first}
use Rattle.std.proofs.lemmas.List.Elements.{All-append, All-from_get_or, All-from_recursion, recursion_from_All}
use Rattle.std.proofs.lemmas.Bool.{cond_both, eq-eqb, ne_eqb, ltb-true, ltb-false}
use Rattle.std.proofs.lemmas.Option.{none-some}
use Rattle.fields.specs.Pieces.{pieces, joined_by, first_piece}

first_onto : (p : List ℕ) (b : ℕ) (ps : List (List ℕ)) → first_piece (p ∷ onto_first b ps) ≡ Some (p, onto_first b ps)
first_onto p b [] = refl
first_onto p b (q ∷ qs) = refl

-- behind a separator there is a piece
pub first_piece_of : (c : ℕ) (p bs : List ℕ) → first_piece (p ∷ pieces c bs) ≡ Some (p, pieces c bs)
first_piece_of c p [] = refl
first_piece_of c p (b ∷ bs) = cond_both (eqb b c) ([] ∷ pieces c bs) (onto_first b (pieces c bs)) (λ ps. first_piece (p ∷ ps) ≡ Some (p, ps)) (λ e. refl) (λ e. first_onto p b (pieces c bs))

-- the pieces, by where the first separator stands
module _ (c : ℕ) (bs : List ℕ) where
  abbrev is_sep : ℕ → Bool
  is_sep b = eqb b c

  pub place_found : (i : ℕ) → position is_sep bs ≡ Some i → (i < length bs) × (pieces c bs ≡ take i bs ∷ pieces c (drop (i + 1) bs))
  place_found i =
      let n = position_or_len is_sep bs in
      cond_both (ltb n (length bs)) (Some n) None (λ o. o ≡ Some i → (i < length bs) × (pieces c bs ≡ take i bs ∷ pieces c (drop (i + 1) bs)))
      (λ t e. let h : n < length bs = ltb-true n (length bs) t in let same : n ≡ i = cc in
      rw (← same) (h, slice_split_first is_sep bs 0 h))
      (λ _ e. absurd (none-some i e))

  pub none_found : position is_sep bs ≡ None → pieces c bs ≡ bs ∷ []
  none_found =
      let n = position_or_len is_sep bs in
      cond_both (ltb n (length bs)) (Some n) None (λ o. o ≡ None → pieces c bs ≡ bs ∷ [])
      (λ _ e. absurd (none-some n (sym e)))
      (λ f _. slice_split_none is_sep bs (λ k d h. fails_before_first is_sep bs k d (omega (arith, h, ltb-false n (length bs) f))))

-- the pieces make up the bytes again
pub rejoined : (c : ℕ) (bs : List ℕ) → joined_by c (pieces c bs) ≡ bs
rejoined c bs = join_with_byte-slice_split c bs

-- no byte is the separator
abbrev Other : ℕ → ℕ → Type 0
Other c b = eqb b c ≡ false

abbrev pub Free : ℕ → List ℕ → Type 0
Free c bs = AllByRecursion (Other c) bs

abbrev pub EachFree : ℕ → List (List ℕ) → Type 0
EachFree c ps = AllByRecursion (Free c) ps

pub piece_front : (c : ℕ) (p bs : List ℕ) → Free c p → pieces c (p ++ (c ∷ bs)) ≡ p ∷ pieces c bs
piece_front c p bs h = slice_split_at (λ b. eqb b c) p c bs (All-from_recursion (Other c) p h) (eq-eqb c c refl)

-- what was joined falls into its pieces again
pub parted : (c : ℕ) (p : List ℕ) (ps : List (List ℕ)) → EachFree c (p ∷ ps) → pieces c (joined_by c (p ∷ ps)) ≡ p ∷ ps
parted c p [] h = slice_split_none (λ b. eqb b c) p (All-from_recursion (Other c) p h.0)
parted c p (q ∷ ps) h = piece_front c p (joined_by c (q ∷ ps)) h.0 ∙ ap (λ (l : List (List ℕ)). p ∷ l) (parted c q ps h.1)

free_append : (d : ℕ) (p bs : List ℕ) → Free d p → Free d bs → Free d (p ++ bs)
free_append d p bs h g = recursion_from_All (Other d) (p ++ bs) (All-append (Other d) p bs (All-from_recursion (Other d) p h) (All-from_recursion (Other d) bs g))

pub free_joined : (c d : ℕ) (ps : List (List ℕ)) → eqb c d ≡ false → EachFree d ps → Free d (joined_by c ps)
free_joined c d [] e h = tt
free_joined c d (p ∷ []) e h = h.0
free_joined c d (p ∷ q ∷ ps) e h = free_append d p (c ∷ joined_by c (q ∷ ps)) h.0 (e, free_joined c d (q ∷ ps) e h.1)

pub free_by_index : (d : ℕ) (bs : List ℕ) → ((i : ℕ) → i < length bs → get_or bs i 0 ≡ d → ⊥) → Free d bs
free_by_index d bs h = recursion_from_All (Other d) bs (All-from_get_or (Other d) bs 0 (λ i l. ne_eqb (get_or bs i 0) d (h i l)))

-- The latest record that passes a test.
use Rattle.std.proofs.Common.{◌≡◌, ℕ, zero, suc, ◌+◌, ◌<◌, ◌≤◌, Bool, true, false, cond, List, [], ◌∷◌, ◌++◌, length, get_or, Some, None, Option, sym, refl, ap, ◌∙◌, subst, ⊎_elim, append_assoc, le_of_suc-le-suc, not-suc-le-zero, arith}
use Rattle.std.proofs.lemmas.Bool.{cond_both, both_ways, cases_order}
use Rattle.estimating.specs.Tables.{first_then}
use Rattle.estimating.specs.Cases.{none_some}
use Rattle.lookup.specs.Places.{record_at, found_at}
use Rattle.lookup.specs.Latest.{one_on, latest_place, latest, LatestAt, Latest, NonePasses, PlaceOrNone, LatestOrNone, newest_place, newest, Newest, NewestOrNone}

module _ {R : Type 0} where
  pub record_in : (book : List R) (i : ℕ) (d : R) → i < length book → record_at book i ≡ Some (get_or book i d)
  record_in [] i d h = absurd (not-suc-le-zero h)
  record_in (x ∷ book) zero d h = refl
  record_in (x ∷ book) (suc i) d h = record_in book i d (le_of_suc-le-suc h)

  pub record_off : (book : List R) (i : ℕ) → length book ≤ i → None ≡ record_at book i
  record_off [] i h = refl
  record_off (x ∷ book) zero h = absurd (not-suc-le-zero h)
  record_off (x ∷ book) (suc i) h = record_off book i (le_of_suc-le-suc h)

  pub same_record : (r : Option R) (x y : R) → r ≡ Some x → r ≡ Some y → x ≡ y
  same_record r x y e f = cc

  -- a book that ends in some records, once one more of them is parted from those before
  pub parted : (book front back before : List R) (x : R) → book ≡ front ++ back → front ≡ before ++ (x ∷ []) → book ≡ before ++ (x ∷ back)
  parted book front back before x e f = e ∙ ap (λ xs. xs ++ back) f ∙ append_assoc before (x ∷ []) back

module _ {R : Type 0} (test : R → Bool) where
  pub place_from : (front : List R) (x : R) (back : List R) → latest_place test back ≡ None → test x ≡ true → latest_place test (front ++ (x ∷ back)) ≡ Some (length front)
  place_from [] x back n t = rw (n, t) refl
  place_from (y ∷ front) x back n t = ap (λ p. first_then (one_on p) (cond (test y) (Some 0) None)) (place_from front x back n t)

  -- behind a record that passes, or does not, come those that do not
  none_more : (x : R) (book : List R) → test x ≡ false → NonePasses test book → NonePasses test (x ∷ book)
  none_more x book t n zero y e = ap test (sym (same_record (Some x) x y refl e)) ∙ t
  none_more x book t n (suc k) y e = n k y e

  none_behind : (x : R) (book : List R) → NonePasses test book → (k : ℕ) (y : R) → 0 < k → record_at (x ∷ book) k ≡ Some y → test y ≡ false
  none_behind x book n zero y p e = absurd (not-suc-le-zero p)
  none_behind x book n (suc k) y p e = n k y e

  behind_more : (x : R) (book : List R) (i : ℕ) (z : R) → LatestAt test book i z → (k : ℕ) (y : R) → suc i < k → record_at (x ∷ book) k ≡ Some y → test y ≡ false
  behind_more x book i z l zero y p e = absurd (not-suc-le-zero p)
  behind_more x book i z l (suc k) y p e = l.none_after k y (le_of_suc-le-suc p) e

  law_more : (x : R) (book : List R) (p : Option ℕ) → PlaceOrNone test book p → PlaceOrNone test (x ∷ book) (first_then (one_on p) (cond (test x) (Some 0) None))
  law_more x book (Some i) l = (l.0, record { stands = l.1.stands; passes = l.1.passes; none_after = behind_more x book i l.0 l.1 })
  law_more x book None n = cond_both (test x) (Some 0) None (PlaceOrNone test (x ∷ book))
      (λ t. (x, record { stands = refl; passes = t; none_after = none_behind x book n }))
      (λ t. none_more x book t n)

  -- the table finds the latest
  law_table : (book : List R) → PlaceOrNone test book (latest_place test book)
  law_table [] = λ k y e. none_some None y refl e
  law_table (x ∷ book) = law_more x book (latest_place test book) (law_table book)

  pub place_law : (book : List R) (p : Option ℕ) → p ≡ latest_place test book → PlaceOrNone test book p
  place_law book p e = let P : Option ℕ → Type 0 = PlaceOrNone test book in subst P (sym e) (law_table book)

  law_found : (book : List R) (p : Option ℕ) (r : Option R) → PlaceOrNone test book p → r ≡ found_at book p → LatestOrNone test book r
  law_found book (Some i) (Some x) l e =
      let same : l.0 ≡ x = same_record (record_at book i) l.0 x l.1.stands (sym e) in
      let P : R → Type 0 = LatestAt test book i in
      (i, subst P same l.1)
  law_found book (Some i) None l e = none_some (record_at book i) l.0 e l.1.stands
  law_found book None (Some x) n e = none_some None x refl (sym e)
  law_found book None None n e = n

  pub latest_law : (book : List R) (r : Option R) → r ≡ latest test book → LatestOrNone test book r
  latest_law book r e = law_found book (latest_place test book) r (law_table book) e

  same_place : (book : List R) (i : ℕ) (x : R) (p : Option ℕ) → LatestAt test book i x → PlaceOrNone test book p → p ≡ Some i
  same_place book i x (Some j) h l = ⊎_elim
      (λ same. ap Some (sym same))
      (⊎_elim
      (λ less. absurd (both_ways (test l.0) (h.none_after j l.0 less l.1.stands) l.1.passes))
      (λ more. absurd (both_ways (test x) (l.1.none_after i x more h.stands) h.passes)))
      (cases_order i j)
  same_place book i x None h n = absurd (both_ways (test x) (n i x h.stands) h.passes)

  -- there is only one
  pub place_only : (book : List R) (i : ℕ) (x : R) → LatestAt test book i x → latest_place test book ≡ Some i
  place_only book i x h = same_place book i x (latest_place test book) h (law_table book)

  pub latest_only : (book : List R) (x : R) → Latest test book x → latest test book ≡ Some x
  latest_only book x h = ap (found_at book) (place_only book h.0 x h.1) ∙ h.1.stands

module _ {R : Type 0} where
  pub newest_place_only : (book : List R) (i : ℕ) → i + 1 ≡ length book → Some i ≡ newest_place book
  newest_place_only [] i e = absurd (omega (arith, e))
  newest_place_only (x ∷ book) i e = let same : i ≡ length book = omega (arith, e) in ap Some same

  pub newest_place_last : (book : List R) (i : ℕ) → Some i ≡ newest_place book → i + 1 ≡ length book
  newest_place_last [] i e = none_some None i refl (sym e)
  newest_place_last (x ∷ book) i e = let same : i ≡ length book = cc in omega arith

  pub newest_law : (book : List R) (r : Option R) → r ≡ newest book → NewestOrNone book r
  newest_law [] (Some x) e = none_some None x refl (sym e)
  newest_law [] None e = refl
  newest_law (y ∷ book) (Some x) e = (length book, record { stands = sym e; is_last = omega arith })
  newest_law (y ∷ book) None e = none_some _ (get_or (y ∷ book) (length book) y) e (record_in (y ∷ book) (length book) y (omega arith))

  -- there is only one
  pub newest_only : (book : List R) (x : R) → Newest book x → newest book ≡ Some x
  newest_only book x h = ap (found_at book) (sym (newest_place_only book h.0 h.1.is_last)) ∙ h.1.stands

-- The six latest records that pass a test.
use Rattle.std.proofs.Common.{◌≡◌, ℕ, suc, ◌+◌, ◌-◌, ◌<◌, ◌≤◌, Bool, List, [], ◌∷◌, ◌++◌, length, take, drop, filter, sym, refl, ap, ◌∙◌, ⊎_elim, arith}
use Rattle.std.proofs.lemmas.List.{drop_at, take-append-drop, length-append}
use Rattle.std.proofs.lemmas.List.Elements.{filter-append}
use Rattle.std.proofs.lemmas.Bool.{cond-true, cond-false, cases_eq, cases_lt, cases_Bool}
use Rattle.lookup.specs.declared.six.Six.{Six}
use Rattle.lookup.specs.Six.{last_six, sum_up, six_latest, SixLatest}

module _ {R : Type 0} (test : R → Bool) where
  -- where six pass from a place on, those are the last six
  last_from : (book : List R) (i : ℕ) → length (filter test (drop i book)) ≡ 6 → last_six (filter test book) ≡ filter test (drop i book)
  last_from book i six =
      let front = filter test (take i book) in
      let rest = filter test (drop i book) in
      let parts : filter test book ≡ front ++ rest = ap (filter test) (sym (take-append-drop i book)) ∙ filter-append test (take i book) (drop i book) in
      let n : length front ≡ length (front ++ rest) - 6 = omega (arith, length-append front rest) in
      ap last_six parts ∙ drop_at front rest (length (front ++ rest) - 6) n

  last_all : (xs : List R) → length xs ≤ 6 → last_six xs ≡ xs
  last_all xs h = let z : length xs - 6 ≡ 0 = omega arith in rw z refl

  pub last_place : (book : List R) (i : ℕ) → length (filter test (drop i book)) ≤ 6 → (length (filter test (drop i book)) < 6 → i ≡ 0) → last_six (filter test book) ≡ filter test (drop i book)
  last_place book i h all = ⊎_elim
      (λ six. last_from book i six)
      (λ no. let z : i ≡ 0 = all (omega arith) in rw z (last_all (filter test book) (rw z at h)))
      (cases_eq (length (filter test (drop i book))) 6)

  length_kept_more : (x : R) (book : List R) → length (filter test (x ∷ book)) ≤ length (filter test book) + 1
  length_kept_more x book = ⊎_elim
      (λ t. omega (arith, ap length (cond-true _ (x ∷ filter test book) (filter test book) t)))
      (λ t. omega (arith, ap length (cond-false _ (x ∷ filter test book) (filter test book) t)))
      (cases_Bool (test x))

  -- from some place on pass so many, if so many pass at all
  pub place_of : (book : List R) (n : ℕ) → n ≤ length (filter test book) → (i : ℕ) × (i ≤ length book) × (length (filter test (drop i book)) ≡ n)
  place_of [] n h = (0, omega arith, omega arith)
  place_of (x ∷ book) n h = ⊎_elim
      (λ less. (0, omega arith, omega (arith, length_kept_more x book)))
      (λ rest. let at = place_of book n rest in (suc at.0, omega (arith, at.1), at.2))
      (cases_lt (length (filter test book)) n)

  module _ (used metered : R → ℕ) where
    -- what was summed up from a place on, six or all, is what the six latest come to
    six_from : (book : List R) (i : ℕ) (s : Six) → s ≡ sum_up used metered (filter test (drop i book)) → s.count ≤ 6 → (s.count < 6 → i ≡ 0) → s ≡ six_latest test used metered book
    six_from book i s now few all =
        let n : s.count ≡ length (filter test (drop i book)) = ap (λ (z : Six). z.count) now in
        now ∙ ap (sum_up used metered) (sym (last_place book i (rw n at few) (λ less. all (omega arith))))

    -- the same of a book that is the records before that place and those from it on
    pub six_law : (book front back : List R) (s : Six) → book ≡ front ++ back → s ≡ sum_up used metered (filter test back) → s.count ≤ 6 → (s.count < 6 → length front ≡ 0)
        → (s ≡ six_latest test used metered book) × SixLatest test used metered book s
    six_law book front back s e now few all =
        let d : drop (length front) book ≡ back = ap (drop (length front)) e ∙ drop_at front back (length front) refl in
        let at : s ≡ sum_up used metered (filter test (drop (length front) book)) = now ∙ ap (λ xs. sum_up used metered (filter test xs)) (sym d) in (
          six_from book (length front) s at few all,
          record {
            place = length front;
            in_book = omega (arith, ap length e, length-append front back);
            found = at;
            no_more = few;
            all = all;
          },
        )

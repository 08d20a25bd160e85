-- One record more, and what the shares come to.
use Rattle.std.proofs.Common.{◌≡◌, ℕ, zero, suc, ◌+◌, ◌-◌, ◌*◌, ◌<◌, ◌≤◌, Bool, true, false, cond, ◌&&◌, leb, List, [], ◌∷◌, ◌++◌, length, get_or, take, drop, set, Some, None, Ok, sym, refl, ap, ◌∙◌, ⊎_elim, append_assoc, le_of_suc-le-suc, not-suc-le-zero, arith, rules}
use Rattle.std.proofs.lemmas.List.{at_drop_more, drop_more, take_more, take_more_set, drop-set-lt, take_all}
use Rattle.std.proofs.lemmas.Bool.{cond-true, cond-false, cond_both, leb-true, le-leb, le-ltb, ne_eqb, and_parts, cases_Bool, cases_eq}
use Rattle.sharing.specs.Sharing.{sum_of, running, shared_from, shared, light, weighed, verdict, SharedOut}
use Rattle.sharing.proofs.Running.{running_up, running_start, running_end, running_floor}

module _ {R : Type 0} (part : R → Bool) (figure : R → ℕ) where
  -- a figure of one record more, which takes part or does not
  pub sum_yes : (x : R) (xs : List R) → part x ≡ true → sum_of part figure (x ∷ xs) ≡ figure x + sum_of part figure xs
  sum_yes x xs p = ap (λ n. n + sum_of part figure xs) (cond-true _ _ _ p)

  pub sum_no : (x : R) (xs : List R) → part x ≡ false → sum_of part figure (x ∷ xs) ≡ sum_of part figure xs
  sum_no x xs p = let z : cond (part x) (figure x) 0 ≡ 0 = cond-false _ _ _ p in omega arith

  pub left_yes : (xs : List R) (i : ℕ) (d : R) → i < length xs → part (get_or xs i d) ≡ true → sum_of part figure (drop i xs) ≡ figure (get_or xs i d) + sum_of part figure (drop (i + 1) xs)
  left_yes xs i d h p = at_drop_more (sum_of part figure) xs i d h ∙ sum_yes (get_or xs i d) (drop (i + 1) xs) p

  pub left_no : (xs : List R) (i : ℕ) (d : R) → i < length xs → part (get_or xs i d) ≡ false → sum_of part figure (drop i xs) ≡ sum_of part figure (drop (i + 1) xs)
  left_no xs i d h p = at_drop_more (sum_of part figure) xs i d h ∙ sum_no (get_or xs i d) (drop (i + 1) xs) p

  light_yes : (x : R) (xs : List R) → part x ≡ true → light part figure (x ∷ xs) ≡ (leb (figure x) 1000000 && light part figure xs)
  light_yes x xs p = ap (λ b. b && light part figure xs) (cond-true _ _ _ p)

  light_no : (x : R) (xs : List R) → part x ≡ false → light part figure (x ∷ xs) ≡ light part figure xs
  light_no x xs p = ap (λ b. b && light part figure xs) (cond-false _ _ _ p)

  -- weights within their limit sum to no more than a million each
  pub light_sum : (xs : List R) → light part figure xs ≡ true → sum_of part figure xs ≤ 1000000 * length xs
  light_sum [] l = omega arith
  light_sum (x ∷ xs) l = ⊎_elim
      (λ p.
      let b = and_parts (leb (figure x) 1000000) (light part figure xs) (sym (light_yes x xs p) ∙ l) in
      omega (arith, leb-true (figure x) 1000000 b.0, light_sum xs b.1, sum_yes x xs p))
      (λ p. omega (arith, light_sum xs (sym (light_no x xs p) ∙ l), sum_no x xs p))
      (cases_Bool (part x))

  -- what the weighing says of a list whose weights are within their limit, or are not
  pub weighed_yes : (xs : List R) → light part figure xs ≡ true → weighed part figure xs ≡ Some (sum_of part figure xs)
  weighed_yes xs l = cond-true _ _ _ l

  pub weighed_no : (xs : List R) → light part figure xs ≡ false → weighed part figure xs ≡ None
  weighed_no xs l = cond-false _ _ _ l

  pub weighed_known : (a : ℕ) (xs : List R) → Some a ≡ weighed part figure xs → (light part figure xs ≡ true) × (a ≡ sum_of part figure xs)
  weighed_known a xs e = ⊎_elim
      (λ l. let f : Some a ≡ Some (sum_of part figure xs) = e ∙ weighed_yes xs l in let q : a ≡ sum_of part figure xs = cc in (l, q))
      (λ l. let f : Some a ≡ None = e ∙ weighed_no xs l in let z : ◌≡◌ {A = ℕ} 0 1 = cc in absurd (omega arith))
      (cases_Bool (light part figure xs))

  pub verdict_ok : (total : ℕ) (xs : List R) → total ≤ 1000000000 → length xs ≤ 3360 → light part figure xs ≡ true → (sum_of part figure xs ≡ 0 → total ≡ 0) → Ok tt ≡ verdict part figure total xs
  verdict_ok total xs t n l none = ⊎_elim
      (λ e. let z : total ≡ 0 = none e in search (rules, le-leb total 1000000000 t, le-leb (length xs) 3360 n, l, le-ltb 0 total (omega arith)))
      (λ e. search (rules, le-leb total 1000000000 t, le-leb (length xs) 3360 n, l, ne_eqb (sum_of part figure xs) 0 e))
      (cases_eq (sum_of part figure xs) 0)

module _ {R : Type 0} (part : R → Bool) (weight : R → ℕ) (put : R → ℕ → R) (total w : ℕ) where
  part_yes : (x : R) (xs : List R) (c : ℕ) → part x ≡ true → shared_from part weight put total w c (x ∷ xs) ≡ put x (running total w (c + weight x) - running total w c) ∷ shared_from part weight put total w (c + weight x) xs
  part_yes x xs c p = simp p

  part_no : (x : R) (xs : List R) (c : ℕ) → part x ≡ false → shared_from part weight put total w c (x ∷ xs) ≡ x ∷ shared_from part weight put total w c xs
  part_no x xs c p = let z : c + 0 ≡ c = omega arith in simp (p, z)

  -- one record more has its share, or none: what is done and what is left still come to the same
  pub shared_yes : (xs : List R) (i : ℕ) (d : R) (c : ℕ) (y : R) → i < length xs → part (get_or xs i d) ≡ true
      → y ≡ put (get_or xs i d) (running total w (c + weight (get_or xs i d)) - running total w c)
      → take (i + 1) (set xs i y) ++ shared_from part weight put total w (c + weight (get_or xs i d)) (drop (i + 1) (set xs i y))
      ≡ take i xs ++ shared_from part weight put total w c (drop i xs)
  shared_yes xs i d c y h p q =
      let a : shared_from part weight put total w c (drop i xs) ≡ y ∷ shared_from part weight put total w (c + weight (get_or xs i d)) (drop (i + 1) xs) = ap (shared_from part weight put total w c) (drop_more xs i d h) ∙ part_yes (get_or xs i d) (drop (i + 1) xs) c p ∙ ap (λ z. z ∷ shared_from part weight put total w (c + weight (get_or xs i d)) (drop (i + 1) xs)) (sym q) in
      let b : take (i + 1) (set xs i y) ≡ take i xs ++ y ∷ [] = take_more_set xs i y h in
      let e : drop (i + 1) (set xs i y) ≡ drop (i + 1) xs = drop-set-lt (i + 1) xs i y (omega arith) in
      let f = append_assoc (take i xs) (y ∷ []) (shared_from part weight put total w (c + weight (get_or xs i d)) (drop (i + 1) xs)) in
      cc

  pub shared_no : (xs : List R) (i : ℕ) (d : R) (c : ℕ) → i < length xs → part (get_or xs i d) ≡ false
      → take (i + 1) xs ++ shared_from part weight put total w c (drop (i + 1) xs)
      ≡ take i xs ++ shared_from part weight put total w c (drop i xs)
  shared_no xs i d c h p =
      let a : shared_from part weight put total w c (drop i xs) ≡ get_or xs i d ∷ shared_from part weight put total w c (drop (i + 1) xs) = ap (shared_from part weight put total w c) (drop_more xs i d h) ∙ part_no (get_or xs i d) (drop (i + 1) xs) c p in
      let b : take (i + 1) xs ≡ take i xs ++ get_or xs i d ∷ [] = take_more xs i d h in
      let f = append_assoc (take i xs) (get_or xs i d ∷ []) (shared_from part weight put total w c (drop (i + 1) xs)) in
      cc

  pub length_shared : (xs : List R) (c : ℕ) → length (shared_from part weight put total w c xs) ≡ length xs
  length_shared [] c = refl
  length_shared (x ∷ xs) c = ap suc (length_shared xs (c + cond (part x) (weight x) 0))

  -- at each place stands the record with some share, if it takes part, and otherwise the record
  pub shared_place : (xs : List R) (c k : ℕ) (d : R) → k < length xs → (s : ℕ) × (get_or (shared_from part weight put total w c xs) k d ≡ cond (part (get_or xs k d)) (put (get_or xs k d) s) (get_or xs k d))
  shared_place [] c k d h = absurd (not-suc-le-zero h)
  shared_place (x ∷ xs) c zero d h = (running total w (c + weight x) - running total w c, refl)
  shared_place (x ∷ xs) c (suc k) d h = shared_place xs (c + cond (part x) (weight x) 0) k d (le_of_suc-le-suc h)

module _ {R : Type 0} (part : R → Bool) (weight : R → ℕ) (put : R → ℕ → R) (share : R → ℕ)
    (same_part : (x : R) (s : ℕ) → part (put x s) ≡ part x)
    (same_weight : (x : R) (s : ℕ) → weight (put x s) ≡ weight x)
    (takes : (x : R) (s : ℕ) → share (put x s) ≡ s)
    (total : ℕ) where
  -- the shares up to any place come to the running total there less the one at the start
  pub runs : (w : ℕ) (xs : List R) (c k : ℕ) → sum_of part share (take k (shared_from part weight put total w c xs)) + running total w c ≡ running total w (c + sum_of part weight (take k xs))
  runs w xs c zero = let z : c + 0 ≡ c = omega arith in rw z (omega arith)
  runs w [] c (suc k) = let z : c + 0 ≡ c = omega arith in rw z (omega arith)
  runs w (x ∷ xs) c (suc k) = ⊎_elim
      (λ p.
      let s : ℕ = running total w (c + weight x) - running total w c in
      let a : sum_of part share (take (suc k) (shared_from part weight put total w c (x ∷ xs))) ≡ s + sum_of part share (take k (shared_from part weight put total w (c + weight x) xs))
      = ap (λ ys. sum_of part share (take (suc k) ys)) (part_yes part weight put total w x xs c p) ∙ simp (same_part x s, p, takes x s) in
      let b = sum_yes part weight x (take k xs) p in
      let u = running_up total w c (c + weight x) (omega arith) in
      let ih = runs w xs (c + weight x) k in
      let g : c + sum_of part weight (take (suc k) (x ∷ xs)) ≡ (c + weight x) + sum_of part weight (take k xs) = omega (arith, b) in
      rw g (omega (arith, a, ih, u)))
      (λ p.
      let a : sum_of part share (take (suc k) (shared_from part weight put total w c (x ∷ xs))) ≡ sum_of part share (take k (shared_from part weight put total w c xs))
      = ap (λ ys. sum_of part share (take (suc k) ys)) (part_no part weight put total w x xs c p) ∙ sum_no part share x (take k (shared_from part weight put total w c xs)) p in
      let b : sum_of part weight (take (suc k) (x ∷ xs)) ≡ sum_of part weight (take k xs) = sum_no part weight x (take k xs) p in
      rw (a, b) (runs w xs c k))
      (cases_Bool (part x))

  -- from the first record on: the running total
  pub runs_first : (xs : List R) (k : ℕ) → sum_of part share (take k (shared part weight put total xs)) ≡ running total (sum_of part weight xs) (sum_of part weight (take k xs))
  runs_first xs k =
      let w = sum_of part weight xs in
      let c = sum_of part weight (take k xs) in
      let z : 0 + c ≡ c = omega arith in
      let r : sum_of part share (take k (shared part weight put total xs)) + running total w 0 ≡ running total w c = rw z at (runs w xs 0 k) in
      omega (arith, r, running_start total w)

  pub shared_out : (xs : List R) → (sum_of part weight xs ≡ 0 → total ≡ 0) → SharedOut part weight share total xs (shared part weight put total xs)
  shared_out xs none =
      let w = sum_of part weight xs in
      let ys = shared part weight put total xs in
      let n : length ys ≡ length xs = length_shared part weight put total w xs 0 in
      record {
        whole =
            (let a = ap (sum_of part share) (take_all (length xs) ys (omega (arith, n))) in
            let b = ap (sum_of part weight) (take_all (length xs) xs (omega arith)) in
            sym a ∙ runs_first xs (length xs) ∙ ap (running total w) b ∙ running_end total w none);
        run = λ k pos. rw (runs_first xs k) (running_floor total w (sum_of part weight (take k xs)) pos);
        bystanders = λ k d h p. let at = shared_place part weight put total w xs 0 k d h in at.1 ∙ cond-false _ _ _ p;
        same_length = n;
        same_part = λ k d h. (let at = shared_place part weight put total w xs 0 k d h in
            ap part at.1 ∙ cond_both (part (get_or xs k d)) (put (get_or xs k d) at.0) (get_or xs k d) (λ y. part y ≡ part (get_or xs k d)) (λ _. same_part (get_or xs k d) at.0) (λ _. refl));
        same_weight = λ k d h. (let at = shared_place part weight put total w xs 0 k d h in
            ap weight at.1 ∙ cond_both (part (get_or xs k d)) (put (get_or xs k d) at.0) (get_or xs k d) (λ y. weight y ≡ weight (get_or xs k d)) (λ _. same_weight (get_or xs k d) at.0) (λ _. refl));
      }

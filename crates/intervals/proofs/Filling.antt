-- What the sharing leaves, said of the intervals.
use Rattle.std.proofs.Common.{◌≡◌, ℕ, zero, suc, ◌+◌, ◌-◌, ◌<◌, ◌≤◌, Bool, true, false, cond, not, ◌&&◌, List, [], ◌∷◌, length, get_or, Ok, sym, refl, ap, ◌∙◌, le_of_suc-le-suc, not-suc-le-zero, add-zero, zero-add, arith}
use Rattle.std.proofs.lemmas.Bool.{and_parts, and_from}
use Rattle.std.specs.List.{list_all}
use Rattle.sharing.specs.Sharing.{sum_of, running, shared_from, shared, light, verdict, SharedOut}
use Rattle.sharing.proofs.Shares.{verdict_ok, shared_place}
use Rattle.intervals.specs.declared.interval.Interval.{Interval}
use Rattle.intervals.specs.declared.month.Month.{Month}
use Rattle.intervals.specs.Intervals.{valid, missing, lacking, wh_of, weight_of, weighed_by, with_share, readable, reference, weighed_from, weighed, weights_in, valid_wh, missing_in, filled, FilledUp}
use Rattle.intervals.proofs.Marks.{shared_at, lacking_missing, weighed_readable, weighed_valid, shared_valid, weighed_light, valid_kept, missing_marked, missing_weighed}
use Rattle.intervals.proofs.Known.{Known, Left}

-- over a list, weighing changes neither who is readable nor the Wh of the valid
readable_weighed : (m : Month) (xs : List Interval) (i : ℕ) → list_all readable (weighed_from m i xs) ≡ list_all readable xs
readable_weighed m [] i = refl
readable_weighed m (x ∷ xs) i =
    ap (λ b. b && list_all readable (weighed_from m (i + 1) xs)) (weighed_readable (reference m i) x) ∙ ap (λ b. readable x && b) (readable_weighed m xs (i + 1))

light_weighed : (m : Month) → ((k : ℕ) → reference m k ≤ 1000000) → (xs : List Interval) (i : ℕ) → list_all readable xs ≡ true → light lacking weight_of (weighed_from m i xs) ≡ true
light_weighed m h [] i q = refl
light_weighed m h (x ∷ xs) i q =
    let b = and_parts (readable x) (list_all readable xs) q in
    and_from _ _ (weighed_light (reference m i) (h i) x b.0) (light_weighed m h xs (i + 1) b.1)

valid_weighed : (m : Month) (xs : List Interval) (i : ℕ) → valid_wh (weighed_from m i xs) ≡ valid_wh xs
valid_weighed m [] i = refl
valid_weighed m (x ∷ xs) i = omega (arith, weighed_valid (reference m i) x, valid_weighed m xs (i + 1))

valid_shared : (t w : ℕ) (xs : List Interval) (c : ℕ) → valid_wh (shared_from lacking weight_of with_share t w c xs) ≡ valid_wh xs
valid_shared t w [] c = refl
valid_shared t w (x ∷ xs) c =
    omega (arith, shared_valid (running t w (c + weight_of x) - running t w c) x, valid_shared t w xs (c + cond (lacking x) (weight_of x) 0))

length_weighed : (m : Month) (xs : List Interval) (i : ℕ) → length (weighed_from m i xs) ≡ length xs
length_weighed m [] i = refl
length_weighed m (x ∷ xs) i = ap suc (length_weighed m xs (i + 1))

weighed_place : (m : Month) (xs : List Interval) (i k : ℕ) (d : Interval) → k < length xs → get_or (weighed_from m i xs) k d ≡ weighed_by (reference m (i + k)) (get_or xs k d)
weighed_place m [] i k d h = absurd (not-suc-le-zero h)
weighed_place m (x ∷ xs) i zero d h = rw add-zero
weighed_place m (x ∷ xs) i (suc k) d h =
    let e : i + suc k ≡ i + 1 + k = omega arith in rw e (weighed_place m xs (i + 1) k d (le_of_suc-le-suc h))

-- a figure over a readable list, of those that lack their Wh or are missing
lacking_sum : (figure : Interval → ℕ) (xs : List Interval) → list_all readable xs ≡ true → sum_of lacking figure xs ≡ sum_of missing figure xs
lacking_sum figure [] q = refl
lacking_sum figure (x ∷ xs) q =
    let b = and_parts (readable x) (list_all readable xs) q in
    omega (arith, ap (λ p. cond p (figure x) 0) (lacking_missing x b.0), lacking_sum figure xs b.1)

-- a figure of all, of those that pass a test and of the others
either : (p : Bool) (n : ℕ) → n ≡ cond p n 0 + cond (not p) n 0
either true n = omega arith
either false n = omega arith

both_sums : (part : Interval → Bool) (figure : Interval → ℕ) (xs : List Interval) → sum_of (λ _. true) figure xs ≡ sum_of part figure xs + sum_of (λ x. not (part x)) figure xs
both_sums part figure [] = refl
both_sums part figure (x ∷ xs) = omega (arith, either (part x) (figure x), both_sums part figure xs)

-- the intervals are xs, ws once they are weighed, and ys once what is left is shared out over them
module _ (m : Month) (xs ws : List Interval) (left : ℕ) (known : Known m xs) (rest : Left m.total (valid_wh xs) (weights_in m xs) left) (weighs : ws ≡ weighed m xs) where
  -- the sharing does not refuse
  pub accepted : Ok tt ≡ verdict lacking weight_of left ws
  accepted =
      let q : list_all readable (weighed m xs) ≡ true = readable_weighed m xs 0 ∙ known.all_readable in
      rw weighs (verdict_ok lacking weight_of left (weighed m xs)
      (omega (arith, rest.is, known.total_within))
      (omega (arith, length_weighed m xs 0, known.usable.few))
      (light_weighed m known.light xs 0 known.all_readable)
      (λ z. rest.none (sym (lacking_sum weight_of (weighed m xs) q) ∙ z)))

  module _ (ys : List Interval) (shares : ys ≡ shared lacking weight_of with_share left ws) where
    pub filled_is : ys ≡ filled m xs
    filled_is = rw (← rest.is, ← weighs) shares

    -- what stands at a place
    filled_place : (k : ℕ) (d : Interval) → k < length xs → (s : ℕ) × (get_or ys k d ≡ shared_at s (weighed_by (reference m k) (get_or xs k d)))
    filled_place k d h =
        let n : k < length ws = omega (arith, length_weighed m xs 0, ap length weighs) in
        let at = shared_place lacking weight_of with_share left (sum_of lacking weight_of ws) ws 0 k d n in
        let w : get_or ws k d ≡ weighed_by (reference m k) (get_or xs k d)
        = ap (λ zs. get_or zs k d) weighs ∙ weighed_place m xs 0 k d h ∙ ap (λ j. weighed_by (reference m j) (get_or xs k d)) (zero-add k) in
        (at.0, ap (λ zs. get_or zs k d) shares ∙ at.1 ∙ ap (shared_at at.0) w)

    pub filled_up : (n : ℕ) → n ≡ missing_in xs → SharedOut lacking weight_of wh_of left ws ys → FilledUp m n xs ys
    filled_up n counts out = record {
      whole = (let v : valid_wh ys ≡ valid_wh xs = ap valid_wh shares ∙ valid_shared left (sum_of lacking weight_of ws) ws 0 ∙ ap valid_wh weighs ∙ valid_weighed m xs 0 in
          omega (arith, both_sums valid wh_of ys, v, out.whole, rest.is, rest.within));
      kept = λ k d h q. (let at = filled_place k d h in at.1 ∙ valid_kept (reference m k) at.0 (get_or xs k d) q);
      marked = λ k d h q. (let at = filled_place k d h in ap (λ x. x.mark) at.1 ∙ missing_marked (reference m k) at.0 (get_or xs k d) q);
      weighed = λ k d h q. (let at = filled_place k d h in ap (λ x. x.weight) at.1 ∙ missing_weighed (reference m k) at.0 (get_or xs k d) q);
      counted = counts;
      same_length = out.same_length ∙ ap length weighs ∙ length_weighed m xs 0;
    }

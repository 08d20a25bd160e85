-- The kWh of lists of entries.
use Rattle.std.proofs.Common.{◌≡◌, ℕ, suc, ◌+◌, ◌<◌, true, false, cond, ◌⊎◌, List, [], ◌∷◌, ◌++◌, length, get_or, take, drop, set, sym, refl, ap, ◌∙◌, ⊎_elim, arith}
use Rattle.std.proofs.lemmas.List.{take-append-drop, take-take, take_more_set, drop-take}
use Rattle.std.proofs.lemmas.Bool.{cond-true, cond-false, cases_Bool, or_parts}
use Rattle.measures.specs.declared.entry.Entry.{Entry}
use Rattle.measures.specs.Entry.{total_kwh}
use Rattle.sharing.specs.Sharing.{sum_of}
use Rattle.sharing.specs.Entries.{entry_part, entry_kwh}
use Rattle.premise.specs.Books.{no_entry, is_estimated, any_estimated}

pub total_append : (es fs : List Entry) → total_kwh (es ++ fs) ≡ total_kwh es + total_kwh fs
total_append [] fs = omega arith
total_append (e ∷ es) fs = omega (arith, total_append es fs)

-- the entries up to a place, and one stretch more
pub take_add : (s k : ℕ) (b : List Entry) → take (s + k) b ≡ take s b ++ take k (drop s b)
take_add s k b =
    let t : take (s + k) b ≡ take s (take (s + k) b) ++ drop s (take (s + k) b) = sym (take-append-drop s (take (s + k) b)) in
    let u : take s (take (s + k) b) ≡ take s b = take-take s (s + k) b (omega arith) in
    let v : drop s (take (s + k) b) ≡ take k (drop s b) = drop-take s k b in
    cc

pub total_take_add : (s k : ℕ) (b : List Entry) → total_kwh (take (s + k) b) ≡ total_kwh (take s b) + total_kwh (take k (drop s b))
total_take_add s k b = ap total_kwh (take_add s k b) ∙ total_append (take s b) (take k (drop s b))

-- one entry written after the first n
pub total_set : (n : ℕ) (b : List Entry) (e : Entry) → n < length b → total_kwh (take (n + 1) (set b n e)) ≡ total_kwh (take n b) + e.kwh
total_set n b e h = ap total_kwh (take_more_set b n e h) ∙ total_append (take n b) (e ∷ []) ∙ (let z : e.kwh + 0 ≡ e.kwh = omega arith in ap (λ m. total_kwh (take n b) + m) z)

-- with no estimate among them, and no kWh but in estimates, entries hold none
pub none_estimated : (es : List Entry) → any_estimated es ≡ false → ((k : ℕ) → k < length es → ((get_or es k no_entry).kwh ≡ 0) ⊎ (is_estimated (get_or es k no_entry).kind ≡ true)) → total_kwh es ≡ 0
none_estimated [] n h = refl
none_estimated (e ∷ es) n h =
    let p = or_parts (is_estimated e.kind) (any_estimated es) n in
    let rest = none_estimated es p.1 (λ k l. h (suc k) (omega arith)) in
    ⊎_elim (λ z. omega (arith, z, rest)) (λ t. let z : ◌≡◌ {A = ℕ} 0 1 = (let f : true ≡ false = sym t ∙ p.0 in cc) in absurd (omega arith)) (h 0 (omega arith))

-- where those that take no part hold no kWh, the kWh of those that do are all
pub all_taking_part : (es : List Entry) → ((k : ℕ) → k < length es → entry_part (get_or es k no_entry) ≡ false → (get_or es k no_entry).kwh ≡ 0) → total_kwh es ≡ sum_of entry_part entry_kwh es
all_taking_part [] h = refl
all_taking_part (e ∷ es) h =
    let rest = all_taking_part es (λ k l. h (suc k) (omega arith)) in
    ⊎_elim
    (λ t. let c : cond (entry_part e) (entry_kwh e) 0 ≡ e.kwh = cond-true _ _ _ t in omega (arith, c, rest))
    (λ f. let c : cond (entry_part e) (entry_kwh e) 0 ≡ 0 = cond-false _ _ _ f in omega (arith, c, rest, h 0 (omega arith) f))
    (cases_Bool (entry_part e))

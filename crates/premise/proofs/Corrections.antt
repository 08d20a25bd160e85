-- The book after an advance was shared out over the open entries and the entry of the read.
use Rattle.std.proofs.Common.{◌≡◌, ℕ, suc, ◌+◌, ◌-◌, ◌<◌, ◌≤◌, true, cond, leb, List, [], ◌∷◌, ◌++◌, length, get_or, take, drop, set, Ok, sym, refl, ap, ◌∙◌, ⊎_elim, append_assoc, arith, length-drop}
use borrow.Rule.Slice.PartMut.{put_mid, post_of, Post-is}
use Rattle.std.proofs.lemmas.List.{take_more, take_more_set, take-set-le, drop-set-lt, drop-set-add, set_at, get_or_at, length-append, length_push, length-take-le, take_all, get_or_append_left, get_or_push}
use Rattle.std.proofs.lemmas.Bool.{cond-true, cond-false, le-leb, cases_Bool, cases_lt, and_from}
use Rattle.measures.specs.declared.entry.Entry.{Entry}
use Rattle.sharing.specs.Sharing.{sum_of, light, verdict}
use Rattle.sharing.specs.Entries.{entry_part, entry_weight}
use Rattle.sharing.proofs.Shares.{verdict_ok}
use Rattle.premise.specs.Books.{no_entry}
use Rattle.premise.specs.Files.{as_actual}

-- the open entries and the one after them
pub run_and_next : (s k n : ℕ) (b : List Entry) (new : Entry) → n ≡ s + k → n < length b → take (n + 1 - s) (drop s (set b n new)) ≡ take k (drop s b) ++ (new ∷ [])
run_and_next s k n b new e h =
    let long : k < length (drop s b) = omega (arith, length-drop s b) in
    let j : n + 1 - s ≡ k + 1 = omega (arith, e) in
    rw (j, e, drop-set-add s b k new) (take_more_set (drop s b) k new long)

-- the part is written back, and its last entry made an actual one
pub written_back : (s k n : ℕ) (b part : List Entry) (new : Entry) → n ≡ s + k → n < length b → length part ≡ k + 1
    → set (put_mid s (n + 1 - s) (set b n new) part) n (as_actual (get_or (put_mid s (n + 1 - s) (set b n new) part) n no_entry))
    ≡ take s b ++ (take k part ++ (as_actual (get_or part k no_entry) ∷ drop (n + 1) b))
written_back s k n b part new e h l =
    let before : take s (set b n new) ≡ take s b = take-set-le s b n new (omega arith) in
    let behind : post_of s (n + 1 - s) (set b n new) ≡ drop (n + 1) b = Post-is s (n + 1) (set b n new) (omega arith) ∙ drop-set-lt (n + 1) b n new (omega arith) in
    let last = get_or part k no_entry in
    let cut : part ≡ take k part ++ (last ∷ []) = sym (take_all (k + 1) part (omega arith)) ∙ take_more part k no_entry (omega arith) in
    let front = take s b ++ take k part in
    let long : length front ≡ n = omega (arith, length-append (take s b) (take k part), length-take-le s b (omega arith), length-take-le k part (omega arith)) in
    let apart : part ++ drop (n + 1) b ≡ take k part ++ (last ∷ drop (n + 1) b) = ap (λ p. p ++ drop (n + 1) b) cut ∙ append_assoc (take k part) (last ∷ []) (drop (n + 1) b) in
    let whole : put_mid s (n + 1 - s) (set b n new) part ≡ front ++ (last ∷ drop (n + 1) b)
    = ap (λ x. x ++ (part ++ post_of s (n + 1 - s) (set b n new))) before ∙ ap (λ x. take s b ++ (part ++ x)) behind ∙ ap (λ x. take s b ++ x) apart ∙ sym (append_assoc (take s b) (take k part) (last ∷ drop (n + 1) b)) in
    let there : get_or (front ++ (last ∷ drop (n + 1) b)) n no_entry ≡ last = get_or_at front last (drop (n + 1) b) no_entry n long in
    ap (λ x. set x n (as_actual (get_or x n no_entry))) whole
    ∙ ap (λ x. set (front ++ (last ∷ drop (n + 1) b)) n (as_actual x)) there
    ∙ set_at front last (drop (n + 1) b) (as_actual last) n long
    ∙ append_assoc (take s b) (take k part) (as_actual last ∷ drop (n + 1) b)

-- weights within their limit at each place
pub light_by : (es : List Entry) → ((k : ℕ) → k < length es → entry_weight (get_or es k no_entry) ≤ 1000000) → light entry_part entry_weight es ≡ true
light_by [] h = refl
light_by (e ∷ es) h =
    let rest = light_by es (λ k l. h (suc k) (omega arith)) in
    let here = le-leb (entry_weight e) 1000000 (h 0 (omega arith)) in
    and_from (cond (entry_part e) (leb (entry_weight e) 1000000) true) (light entry_part entry_weight es)
    (⊎_elim (λ p. cond-true _ _ _ p ∙ here) (λ p. cond-false _ _ _ p) (cases_Bool (entry_part e))) rest

pub sum_append : (figure : Entry → ℕ) (es fs : List Entry) → sum_of entry_part figure (es ++ fs) ≡ sum_of entry_part figure es + sum_of entry_part figure fs
sum_append figure [] fs = omega arith
sum_append figure (e ∷ es) fs = omega (arith, sum_append figure es fs)

-- an advance is always shared out over a run of light entries and an entry with a usage day
pub shares_out : (a : ℕ) (run : List Entry) (new : Entry) → a ≤ 1000000000 → length run ≤ 3359 → ((k : ℕ) → k < length run → entry_weight (get_or run k no_entry) ≤ 1000000)
    → entry_weight new ≤ 1000000 → 1 ≤ entry_weight new → entry_part new ≡ true → Ok tt ≡ verdict entry_part entry_weight a (run ++ (new ∷ []))
shares_out a run new few short lights light-new some takes =
    let at : (k : ℕ) → k < length (run ++ (new ∷ [])) → entry_weight (get_or (run ++ (new ∷ [])) k no_entry) ≤ 1000000
    = λ k l. ⊎_elim
    (λ h. rw (get_or_append_left run (new ∷ []) no_entry k h) (lights k h))
    (λ h. let e : length run ≡ k = omega (arith, length_push run new) in rw (get_or_push run new no_entry k e) light-new)
    (cases_lt k (length run)) in
    let one : sum_of entry_part entry_weight (new ∷ []) ≡ entry_weight new + 0 = ap (λ n. n + 0) (cond-true _ _ _ takes) in
    verdict_ok entry_part entry_weight a (run ++ (new ∷ [])) few (omega (arith, length_push run new)) (light_by (run ++ (new ∷ [])) at)
    (λ z. absurd (omega (arith, sum_append entry_weight run (new ∷ []), one)))

-- the answer of a read that shares out
pub shared_answer : (x y : List Entry) (n m t u : ℕ) → x ≡ y → n ≡ m → t ≡ u → ◌≡◌ {A = (ℕ × ℕ × ℕ) × List Entry} ((1, (get_or x n no_entry).kwh, t), x) ((1, (get_or y m no_entry).kwh, u), y)
shared_answer x y n m t u e f g = cc

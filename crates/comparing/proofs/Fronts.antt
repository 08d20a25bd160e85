-- What is compared is the text that was written to the front of the buffer.
use Rattle.std.proofs.Common.{◌≡◌, ℕ, Bool, List, ◌++◌, length, take, drop, Decides, eqb, sym, refl, ap, ◌∙◌, subst}
use Rattle.std.specs.Cmp.Lexicographic.{pointwise}
use Rattle.std.proofs.lemmas.Slice.Eq.{slice_eq-Decides}
use Rattle.std.proofs.lemmas.List.{take_at}
use Rattle.std.proofs.lemmas.Bool.Decides.{Decides-eqb}
use Rattle.listing.specs.Listing.{in_front}

pub front_compared : (text rest expected : List ℕ) → Decides (pointwise eqb (take (length text) (text ++ rest)) expected) (text ≡ expected)
front_compared text rest expected =
    let front = take (length text) (text ++ rest) in
    let same = slice_eq-Decides Decides-eqb front expected _ refl in
    subst (λ (x : List ℕ). Decides (pointwise eqb front expected) (x ≡ expected)) (take_at text rest (length text) refl) same

pub compared : (text before after expected : List ℕ) (n : ℕ) (r : Bool) → n ≡ length text → after ≡ in_front text before → r ≡ pointwise eqb (take n after) expected → Decides r (text ≡ expected)
compared text before after expected n r long written same =
    let front : take n after ≡ take (length text) (text ++ drop (length text) before) = ap (λ k. take k after) long ∙ ap (take (length text)) written in
    subst (λ (b : Bool). Decides b (text ≡ expected)) (sym (same ∙ ap (λ xs. pointwise eqb xs expected) front)) (front_compared text (drop (length text) before) expected)

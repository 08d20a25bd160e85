-- Texts that are written one after the other.
use Rattle.std.proofs.Common.{◌≡◌, ℕ, ◌+◌, ◌-◌, ◌≤◌, List, [], ◌++◌, length, take, drop, sym, refl, ap, ◌∙◌, append_assoc, subst, arith}
use Rattle.std.proofs.lemmas.List.{length-append, length-take-le, take_at, drop_at, drop-drop, take-append-drop}
use Rattle.listing.specs.declared.page.Page.{Page}
use borrow.Rule.Slice.PartMut.{put_mid, Post-is}
use Rattle.listing.specs.Put.{Put, Wrote}

-- nothing is written
put_none : (at : ℕ) (b : List ℕ) → Put at [] b at b
put_none at b =
    let z : at + 0 ≡ at = omega arith in
    record { end = sym z; bytes = sym (ap (λ k. take at b ++ drop k b) z ∙ take-append-drop at b) }

pub wrote_none : (p : Page) → Wrote [] p p
wrote_none p = record { same = refl; long = refl; put = put_none p.end p.buffer.now }

-- a text put over a part of a buffer
pub put_within : (at : ℕ) (t b : List ℕ) → Put at t b (at + length t) (put_mid at (at + length t - at) b t)
put_within at t b =
    record { end = refl; bytes = ap (λ x. take at b ++ (t ++ x)) (Post-is at (at + length t) b (omega arith)) }

-- a text, and another one where it ends
put_then : (at : ℕ) (s t b c d : List ℕ) (r q : ℕ) → at ≤ length b → Put at s b r c → Put r t c q d → Put at (s ++ t) b q d
put_then at s t b c d r q h p o =
    let front = take at b ++ s in
    let both = length-append s t in
    let far : at + length s + length t ≡ at + length (s ++ t) = omega (arith, both) in
    let after = drop (at + length (s ++ t)) b in
    let split : c ≡ front ++ drop (at + length s) b = p.bytes ∙ sym (append_assoc (take at b) s (drop (at + length s) b)) in
    let long : length front ≡ r = omega (arith, length-append (take at b) s, length-take-le at b h, p.end) in
    let before : take r c ≡ front = ap (take r) split ∙ take_at front (drop (at + length s) b) r long in
    let behind : drop r c ≡ drop (at + length s) b = ap (drop r) split ∙ drop_at front (drop (at + length s) b) r long in
    let rest : drop (r + length t) c ≡ after
    = sym (drop-drop (length t) r c) ∙ ap (drop (length t)) behind ∙ drop-drop (length t) (at + length s) b ∙ ap (λ k. drop k b) far in
    record {
      end = omega (arith, p.end, o.end, both);
      bytes = o.bytes ∙ ap (λ x. x ++ (t ++ drop (r + length t) c)) before ∙ ap (λ x. front ++ (t ++ x)) rest
          ∙ append_assoc (take at b) s (t ++ after) ∙ ap (λ x. take at b ++ x) (sym (append_assoc s t after));
    }

pub wrote_then : {p : Page} (s t : List ℕ) (q r : Page) → Wrote s p q → Wrote t q r → Wrote (s ++ t) p r
wrote_then {p} s t q r w v = record {
  same = v.same ∙ w.same;
  long = v.long ∙ w.long;
  put = put_then p.end s t p.buffer.now q.buffer.now r.buffer.now q.end r.end p.within w.put v.put;
}

pub wrote_as : {p : Page} (s t : List ℕ) (q : Page) → s ≡ t → Wrote s p q → Wrote t p q
wrote_as {p} s t q e w = subst (λ u. Wrote u p q) e w

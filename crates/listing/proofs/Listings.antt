-- A whole listing, from the texts that it is made of.
use Rattle.std.proofs.Common.{◌≡◌, ℕ, ◌+◌, List, [], ◌∷◌, ◌++◌, length, take, drop, ◌∙◌, arith}
use Rattle.sheets.specs.declared.notice.Notice.{Notice}
use Rattle.listing.specs.Refused.{section_letter, notice_line}
use Rattle.listing.specs.Listing.{fields, in_front}
use Rattle.listing.specs.declared.page.Page.{Page}
use Rattle.listing.specs.Put.{Wrote}
use Rattle.listing.proofs.Puts.{wrote_then}

-- four texts after one another
pub wrote_four : {a : Page} (s t u v : List ℕ) (b c d e : Page) → Wrote s a b → Wrote t b c → Wrote u c d → Wrote v d e → Wrote (s ++ (t ++ (u ++ v))) a e
wrote_four {a} s t u v b c d e p q r o = wrote_then s (t ++ (u ++ v)) b e p (wrote_then t (u ++ v) c e q (wrote_then u v d e r o))

-- a text from the front on, and the bytes x that are the page's
pub wrote_in_front : {p : Page} {x : List ℕ} (t : List ℕ) (q : Page) → Wrote t p q → p.end ≡ 0 → x ≡ q.buffer.now → x ≡ in_front t p.buffer.now
wrote_in_front {p} t q w z e =
    let k : p.end + length t ≡ length t = omega (arith, z) in
    e ∙ w.put.bytes ∙ (λ i. take (z i) p.buffer.now ++ (t ++ drop (k i) p.buffer.now))

-- the line of a refused sheet
pub notice_is : (n : Notice) (letter number : ℕ) → (letter ∷ []) ≡ section_letter n.section → number ≡ n.number → 88 ∷ 32 ∷ letter ∷ fields (n.line ∷ n.field ∷ number ∷ []) ≡ notice_line n
notice_is n letter number l k = λ i. 88 ∷ 32 ∷ (l i ++ fields (n.line ∷ n.field ∷ k i ∷ []))

-- The text of an opening and calls is read as these.
use Rattle.std.proofs.Common.{◌≡◌, ℕ, ◌+◌, ◌^◌, ◌<◌, ◌≤◌, Bool, true, false, cond, eqb, List, [], ◌∷◌, map, length, Some, Ok, Err, codes, decimal, sym, refl, ap, ◌∙◌, arith}
use Rattle.std.specs.Option.{ok_or}
use Rattle.std.proofs.lemmas.Slice.Eq.{bytes_eq-Decides}
use Rattle.std.proofs.lemmas.Bool.{cond-false, cond_both, both_ways, le-leb, le-ltb, ne_eqb}
use Rattle.measures.specs.declared.rate.Rate.{Rate}
use Rattle.measures.specs.declared.rate.Rate.TheVariants.{E12, Et1, Et2, EtSp, Ect1R, Ect2, NrS, NrL, Other}
use Rattle.measures.specs.Rate.{name_of}
use Rattle.premise.specs.declared.play.Call.{Call}
use Rattle.premise.specs.declared.play.Call.TheVariants.{Read, Miss, Move}
use Rattle.fields.specs.Numbers.{number_of}
use Rattle.fields.specs.Pieces.{pieces, first_piece}
use Rattle.fields.proofs.Named.{knows}
use Rattle.fields.proofs.Pieces.{Free, EachFree, first_piece_of, piece_front, parted, free_joined}
use Rattle.fields.proofs.Texts.{told, free_decimal}
use Rattle.sheets.specs.declared.fault.SectionFault.TheVariants.{Count, Missing, Line}
use Rattle.sheets.specs.declared.fault.SheetFault.TheVariants.{Premise, Calls, Rest}
use Rattle.premise.specs.declared.opening.Opening.{Opening}
use Rattle.sheets.specs.Lines.{line_fields, then, carried, call_at, opening_at, count_of}
use Rattle.sheets.specs.Sections.{line_at, within, count_at, premise_name, calls_name, premise_section, next_call, calls_of, calls_section, nothing_left, sheet_of}
use Rattle.sheets.specs.Texts.{opening_fields, call_fields, spaced, written, sheet_text, CallFits, CallsFit, OpeningFits, Fits}

-- bytes that are free of a separator, by a test that computes
abbrev free : ℕ → List ℕ → Bool
free d [] = true
free d (b ∷ bs) = cond (eqb b d) false (free d bs)

free_from : (d : ℕ) (bs : List ℕ) → free d bs ≡ true → Free d bs
free_from d [] e = tt
free_from d (b ∷ bs) e =
    cond_both (eqb b d) false (free d bs) (λ t. t ≡ true → Free d (b ∷ bs))
    (λ w f. absurd (both_ways false refl f))
    (λ w f. (w, free_from d bs f)) e

-- no rate's name has a space or a line's end
no_separator : (r : Rate) → (free 32 (name_of r) ≡ true) × (free 10 (name_of r) ≡ true)
no_separator E12 = (refl, refl)
no_separator Et1 = (refl, refl)
no_separator Et2 = (refl, refl)
no_separator EtSp = (refl, refl)
no_separator Ect1R = (refl, refl)
no_separator Ect2 = (refl, refl)
no_separator NrS = (refl, refl)
no_separator NrL = (refl, refl)
no_separator Other = (refl, refl)

number_back : (n : ℕ) → n < 2 ^ 32 → number_of (decimal n) ≡ Some n
number_back n h = sym (told (decimal n) (Some n) (refl, h))

-- the next line of a text
line_back : (n : ℕ) (l : List (List ℕ)) (ls : List (List (List ℕ))) → EachFree 10 l → line_at n (pieces 10 (written (l ∷ ls))) ≡ Ok (spaced l, pieces 10 (written ls))
line_back n l ls h =
    ap (λ p. ok_or p (Missing n)) (ap first_piece (piece_front 10 (spaced l) (written ls) (free_joined 32 10 l refl h)) ∙ first_piece_of 10 (spaced l) (written ls))

module _ (n k low high : ℕ) (name : List ℕ) (free-name : Free 32 name) (small : k < 2 ^ 32) (from : low ≤ k) (to : k ≤ high) where
  count_back : count_at n name low high (spaced (decimal k ∷ name ∷ [])) ≡ Ok k
  count_back =
      let parts = parted 32 (decimal k) (name ∷ []) (free_decimal 32 k small (omega arith), (free-name, tt)) in
      let same = (bytes_eq-Decides name name).1 refl in
      let number = number_back k small in
      let a = le-leb low k from in
      let b = le-leb k high to in
      ap (λ fs. ok_or (within low high (count_of name fs)) (Count n)) parts ∙ rw (same, number, a, b) refl

-- the opening
module _ (n : ℕ) (o : Opening) (f : OpeningFits o) where
  opening_free : (d : ℕ) → d < 48 → free d (name_of o.rate) ≡ true → EachFree d (opening_fields o)
  opening_free d h e = (free_from d (name_of o.rate) e, (free_decimal d o.digits f.digits h, (free_decimal d o.day f.day h, (free_decimal d o.register f.register h, (free_decimal d o.customer f.customer h, tt)))))

  opening_back : opening_at n (line_fields (spaced (opening_fields o))) ≡ Ok o
  opening_back =
      let parts = parted 32 (name_of o.rate) (decimal o.digits ∷ decimal o.day ∷ decimal o.register ∷ decimal o.customer ∷ []) (opening_free 32 (omega arith) (no_separator o.rate).0) in
      let a = knows o.rate in
      let b = number_back o.digits f.digits in
      let c = number_back o.day f.day in
      let d = number_back o.register f.register in
      let e = number_back o.customer f.customer in
      ap (opening_at n) parts ∙ rw (a, b, c, d, e) refl

letter : (d l : ℕ) → d < 48 → 48 ≤ l → eqb l d ≡ false
letter d l h g = ne_eqb l d (λ e. omega (arith, e, h, g))

-- a call
call_free : (d : ℕ) (c : Call) → d < 48 → CallFits c → EachFree d (call_fields c)
call_free d (Read day register) h f = ((letter d 82 h (omega arith), tt), (free_decimal d day f.0 h, (free_decimal d register f.1 h, tt)))
call_free d (Miss day) h f = ((letter d 77 h (omega arith), tt), (free_decimal d day f h, tt))
call_free d (Move customer) h f = ((letter d 67 h (omega arith), tt), (free_decimal d customer f h, tt))

call_parts : (c : Call) → CallFits c → line_fields (spaced (call_fields c)) ≡ call_fields c
call_parts (Read day register) f = parted 32 (codes "R") (decimal day ∷ decimal register ∷ []) (call_free 32 (Read day register) (omega arith) f)
call_parts (Miss day) f = parted 32 (codes "M") (decimal day ∷ []) (call_free 32 (Miss day) (omega arith) f)
call_parts (Move customer) f = parted 32 (codes "C") (decimal customer ∷ []) (call_free 32 (Move customer) (omega arith) f)

call_told_back : (n : ℕ) (c : Call) → CallFits c → call_at n (call_fields c) ≡ Ok c
call_told_back n (Read day register) f = let a = number_back day f.0 in let b = number_back register f.1 in rw (a, b) refl
call_told_back n (Miss day) f = let a = number_back day f in rw a refl
call_told_back n (Move customer) f = let a = number_back customer f in rw a refl

next_back : (n : ℕ) (c : Call) (ls : List (List (List ℕ))) → CallFits c → next_call n (pieces 10 (written (call_fields c ∷ ls))) ≡ Ok (c, pieces 10 (written ls))
next_back n c ls f =
    let rest = pieces 10 (written ls) in
    ap (λ r. then r (λ t. then (carried Line (call_at n (line_fields t.0))) (λ k. Ok (k, t.1)))) (line_back n (call_fields c) ls (call_free 10 c (omega arith) f))
    ∙ ap (λ r. then (carried Line r) (λ k. Ok (k, rest))) (ap (call_at n) (call_parts c f) ∙ call_told_back n c f)

calls_back : (n : ℕ) (cs : List Call) → CallsFit cs → calls_of (length cs) n (pieces 10 (written (map call_fields cs))) ≡ Ok (cs, [] ∷ [])
calls_back n [] f = refl
calls_back n (c ∷ cs) f =
    ap (λ r. then r (λ t. then (calls_of (length cs) (n + 1) t.1) (λ u. Ok (t.0 ∷ u.0, u.1)))) (next_back n c (map call_fields cs) f.0)
    ∙ ap (λ r. then r (λ u. Ok (c ∷ u.0, u.1))) (calls_back (n + 1) cs f.1)

-- the whole sheet
module _ (o : Opening) (cs : List Call) (f : Fits o cs) where
  abbrev count_fields : List (List ℕ)
  count_fields = decimal (length cs) ∷ calls_name ∷ []

  abbrev calls_lines : List (List (List ℕ))
  calls_lines = count_fields ∷ map call_fields cs

  few : length cs < 2 ^ 32
  few = omega (arith, f.few)

  premise_back : premise_section 1 (pieces 10 (sheet_text o cs)) ≡ Ok (o, pieces 10 (written calls_lines))
  premise_back =
      let rest = pieces 10 (written (opening_fields o ∷ calls_lines)) in
      let calls = pieces 10 (written calls_lines) in
      ap (λ r. then r (λ t. then (count_at 1 premise_name 1 1 t.0) (λ _. then (line_at 2 t.1) (λ u. then (carried Line (opening_at 2 (line_fields u.0))) (λ p. Ok (p, u.1))))))
      (line_back 1 (decimal 1 ∷ premise_name ∷ []) (opening_fields o ∷ calls_lines) (free_decimal 10 1 (omega arith) (omega arith), (free_from 10 premise_name refl, tt)))
      ∙ ap (λ r. then r (λ _. then (line_at 2 rest) (λ u. then (carried Line (opening_at 2 (line_fields u.0))) (λ p. Ok (p, u.1)))))
      (count_back 1 1 1 1 premise_name (free_from 32 premise_name refl) (omega arith) (omega arith) (omega arith))
      ∙ ap (λ r. then r (λ u. then (carried Line (opening_at 2 (line_fields u.0))) (λ p. Ok (p, u.1))))
      (line_back 2 (opening_fields o) calls_lines (opening_free 2 o f.opening 10 (omega arith) (no_separator o.rate).1))
      ∙ ap (λ r. then (carried Line r) (λ p. Ok (p, calls))) (opening_back 2 o f.opening)

  calls_section_back : calls_section 3 (pieces 10 (written calls_lines)) ≡ Ok (cs, [] ∷ [])
  calls_section_back =
      ap (λ r. then r (λ t. then (count_at 3 calls_name 0 240 t.0) (λ k. calls_of k 4 t.1)))
      (line_back 3 count_fields (map call_fields cs) (free_decimal 10 (length cs) few (omega arith), (free_from 10 calls_name refl, tt)))
      ∙ ap (λ r. then r (λ k. calls_of k 4 (pieces 10 (written (map call_fields cs)))))
      (count_back 3 (length cs) 0 240 calls_name (free_from 32 calls_name refl) few (omega arith) f.few)
      ∙ calls_back 4 cs f.calls

  pub sheet_back : sheet_of (sheet_text o cs) ≡ Ok (o, cs)
  sheet_back =
      cond-false _ _ _ (le-ltb 8192 (length (sheet_text o cs)) f.not_long)
      ∙ ap (λ r. then (carried Premise r) (λ t. then (carried Calls (calls_section 3 t.1)) (λ u. cond (nothing_left u.1) (Ok (t.0, u.0)) (Err Rest)))) premise_back
      ∙ ap (λ r. then (carried Calls r) (λ u. cond (nothing_left u.1) (Ok (o, u.0)) (Err Rest))) calls_section_back

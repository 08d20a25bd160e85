-- What was read is the text of what came of it.
use Rattle.std.proofs.Common.{◌≡◌, ℕ, zero, suc, ◌+◌, ◌^◌, ◌<◌, ◌≤◌, true, false, cond, ◌&&◌, eqb, ltb, leb, List, [], ◌∷◌, ◌++◌, map, length, get_or, is_ok, Some, None, Ok, Err, codes, decimal, Option, Result, sym, refl, ap, ◌∙◌, subst, arith}
use Rattle.std.specs.Option.{ok_or}
use Rattle.std.specs.Result.{result_unwrap_or}
use Rattle.std.specs.Str.{bytes_eq}
use Rattle.std.proofs.lemmas.Slice.Eq.{bytes_eq-Decides}
use Rattle.std.proofs.lemmas.Bool.{cond_both, both_ways, eqb-true, leb-true, ltb-false, and_parts}
use Rattle.measures.specs.declared.rate.Rate.{Rate}
use Rattle.measures.specs.Rate.{name_of}
use Rattle.premise.specs.declared.play.Call.{Call}
use Rattle.premise.specs.declared.play.Call.TheVariants.{Read, Miss, Move}
use Rattle.fields.specs.Numbers.{number_of}
use Rattle.fields.specs.Pieces.{pieces, first_piece, joined_by}
use Rattle.fields.specs.Rates.{rate_of}
use Rattle.std.proofs.lemmas.Option.{same_Some, none-some}
use Rattle.fields.proofs.Named.{names}
use Rattle.fields.proofs.Pieces.{rejoined}
use Rattle.fields.proofs.Texts.{tells}
use Rattle.sheets.specs.declared.fault.LineFault.TheVariants.{Form, Field}
use Rattle.sheets.specs.declared.fault.SectionFault.TheVariants.{Count, Missing, Line}
use Rattle.sheets.specs.declared.fault.SheetFault.TheVariants.{Long, Premise, Calls, Rest}
use Rattle.premise.specs.declared.opening.Opening.{Opening}
use Rattle.sheets.specs.Lines.{line_fields, with, then, carried, one_of, two_of, Said, read, miss, move, said_by, call_of, premise_of, number_at, rate_at, call_told, call_at, opening_told, opening_at, count_of, fault_at}
use Rattle.sheets.specs.Sections.{line_at, within, count_at, premise_name, calls_name, premise_section, next_call, calls_of, calls_section, nothing_left, sheet_of}
use Rattle.sheets.specs.Texts.{opening_fields, call_fields, sheet_lines, spaced, written, sheet_text, CallFits, CallsFit, OpeningFits, Fits}

-- what came before
module _ {A B : Type 0} where
  with_some : (x : Option A) (f : A → Option B) (b : B) → with x f ≡ Some b → (a : A) × (x ≡ Some a) × (f a ≡ Some b)
  with_some (Some a) f b e = (a, refl, e)
  with_some None f b e = absurd (none-some b e)

module _ {A E : Type 0} where
  pub ok_same : (a b : A) → ◌≡◌ {A = Result A E} (Ok a) (Ok b) → a ≡ b
  ok_same a b e = ap (λ (r : Result A E). result_unwrap_or r a) e

  pub err_ok : (f : E) (a : A) → Err f ≡ Ok a → ⊥
  err_ok f a e = both_ways true (ap is_ok (sym e)) refl

  some_from_ok : (f : E) (x : Option A) (a : A) → ok_or x f ≡ Ok a → x ≡ Some a
  some_from_ok f (Some b) a e = ap Some (ok_same b a e)
  some_from_ok f None a e = absurd (err_ok f a e)

module _ {A B E : Type 0} where
  then_ok : (r : Result A E) (f : A → Result B E) (b : B) → then r f ≡ Ok b → (a : A) × (r ≡ Ok a) × (f a ≡ Ok b)
  then_ok (Ok a) f b e = (a, refl, e)
  then_ok (Err x) f b e = absurd (err_ok x b e)

module _ {A E F : Type 0} where
  carried_ok : (g : E → F) (r : Result A E) (a : A) → carried g r ≡ Ok a → r ≡ Ok a
  carried_ok g (Ok b) a e = ap Ok (ok_same b a e)
  carried_ok g (Err x) a e = absurd (err_ok (g x) a e)

-- fields
first_is : (fs : List (List ℕ)) (t : List ℕ × List (List ℕ)) → first_piece fs ≡ Some t → fs ≡ t.0 ∷ t.1
first_is [] t e = absurd (none-some t e)
first_is (f ∷ []) t e = absurd (none-some t e)
first_is (f ∷ g ∷ fs) t e = ap (λ (u : List ℕ × List (List ℕ)). u.0 ∷ u.1) (same_Some _ t e)

one_is : (fs : List (List ℕ)) (f : List ℕ) → one_of fs ≡ Some f → fs ≡ f ∷ []
one_is [] f e = absurd (none-some f e)
one_is (g ∷ []) f e = ap (λ (l : List ℕ). l ∷ []) (same_Some g f e)
one_is (g ∷ h ∷ fs) f e = absurd (none-some f e)

two_is : (fs : List (List ℕ)) (t : List ℕ × List ℕ) → two_of fs ≡ Some t → fs ≡ t.0 ∷ t.1 ∷ []
two_is fs t e =
    let a = with_some (first_piece fs) (λ a. with (one_of a.1) (λ b. Some (a.0, b))) t e in
    let b = with_some (one_of a.0.1) (λ b. Some (a.0.0, b)) t a.2 in
    first_is fs a.0 a.1
    ∙ ap (λ (l : List (List ℕ)). a.0.0 ∷ l) (one_is a.0.1 b.0 b.1)
    ∙ ap (λ (u : List ℕ × List ℕ). u.0 ∷ u.1 ∷ []) (same_Some _ t b.2)

-- a field that tells a number is its text
module _ (n k : ℕ) (f : List ℕ) (m : ℕ) (e : number_at n k f ≡ Ok m) where
  number_is : (f ≡ decimal m) × (m < 2 ^ 32)
  number_is = tells f (Some m) (sym (some_from_ok (fault_at n k) (number_of f) m e))

rate_is : (n k : ℕ) (f : List ℕ) (r : Rate) → rate_at n k f ≡ Ok r → f ≡ name_of r
rate_is n k f r e = names f (Some r) (sym (some_from_ok (fault_at n k) (rate_of f) r e))

-- a call's line
abbrev said_fields : Said → List (List ℕ)
said_fields (read day register) = codes "R" ∷ day ∷ register ∷ []
said_fields (miss day) = codes "M" ∷ day ∷ []
said_fields (move customer) = codes "C" ∷ customer ∷ []

letter_is : (l : List ℕ) → length l ≡ 1 → l ≡ get_or l 0 0 ∷ []
letter_is [] h = absurd (omega (arith, h))
letter_is (b ∷ []) h = refl
letter_is (b ∷ c ∷ l) h = absurd (omega (arith, h))

said_is : (b : ℕ) (fs : List (List ℕ)) (s : Said) → said_by b fs ≡ Some s → (b ∷ []) ∷ fs ≡ said_fields s
said_is b fs s e =
    let P : Option Said → Type 0 = λ o. o ≡ Some s → (b ∷ []) ∷ fs ≡ said_fields s in
    cond_both (eqb b 82) (with (two_of fs) (λ t. Some (read t.0 t.1))) _ P
    (λ w g.
    let t = with_some (two_of fs) (λ t. Some (read t.0 t.1)) s g in
    (λ i. (eqb-true b 82 w i ∷ []) ∷ two_is fs t.0 t.1 i) ∙ ap said_fields (same_Some _ s t.2))
    (λ _. cond_both (eqb b 77) (with (one_of fs) (λ d. Some (miss d))) _ P
    (λ w g.
    let t = with_some (one_of fs) (λ d. Some (miss d)) s g in
    (λ i. (eqb-true b 77 w i ∷ []) ∷ one_is fs t.0 t.1 i) ∙ ap said_fields (same_Some _ s t.2))
    (λ _. cond_both (eqb b 67) (with (one_of fs) (λ d. Some (move d))) None P
    (λ w g.
    let t = with_some (one_of fs) (λ d. Some (move d)) s g in
    (λ i. (eqb-true b 67 w i ∷ []) ∷ one_is fs t.0 t.1 i) ∙ ap said_fields (same_Some _ s t.2))
    (λ _ g. absurd (none-some s g)))) e

call_of_is : (fs : List (List ℕ)) (s : Said) → call_of fs ≡ Some s → fs ≡ said_fields s
call_of_is fs s e =
    let t = with_some (first_piece fs) (λ t. cond (eqb (length t.0) 1) (said_by (get_or t.0 0 0) t.1) None) s e in
    let l = t.0.0 in
    let rest = t.0.1 in
    let P : Option Said → Type 0 = λ o. o ≡ Some s → l ∷ rest ≡ said_fields s in
    first_is fs t.0 t.1
    ∙ cond_both (eqb (length l) 1) (said_by (get_or l 0 0) rest) None P
    (λ w g. ap (λ (x : List ℕ). x ∷ rest) (letter_is l (eqb-true (length l) 1 w)) ∙ said_is (get_or l 0 0) rest s g)
    (λ w g. absurd (none-some s g)) t.2

-- the fields are those of the call, and its numbers fit
abbrev OfCall : List (List ℕ) → Call → Type 0
OfCall fs c = (fs ≡ call_fields c) × CallFits c

told_is : (n : ℕ) (s : Said) (c : Call) → call_told n s ≡ Ok c → OfCall (said_fields s) c
told_is n (read day register) c e =
    let a = then_ok (number_at n 2 day) (λ d. then (number_at n 3 register) (λ r. Ok (Read d r))) c e in
    let b = then_ok (number_at n 3 register) (λ r. Ok (Read a.0 r)) c a.2 in
    let x = number_is n 2 day a.0 a.1 in
    let y = number_is n 3 register b.0 b.1 in
    let P : Call → Type 0 = OfCall (said_fields (read day register)) in
    subst P (ok_same _ c b.2) (λ i. codes "R" ∷ x.0 i ∷ y.0 i ∷ [], (x.1, y.1))
told_is n (miss day) c e =
    let a = then_ok (number_at n 2 day) (λ d. Ok (Miss d)) c e in
    let x = number_is n 2 day a.0 a.1 in
    let P : Call → Type 0 = OfCall (said_fields (miss day)) in
    subst P (ok_same _ c a.2) (λ i. codes "M" ∷ x.0 i ∷ [], x.1)
told_is n (move customer) c e =
    let a = then_ok (number_at n 2 customer) (λ d. Ok (Move d)) c e in
    let x = number_is n 2 customer a.0 a.1 in
    let P : Call → Type 0 = OfCall (said_fields (move customer)) in
    subst P (ok_same _ c a.2) (λ i. codes "C" ∷ x.0 i ∷ [], x.1)

call_is : (n : ℕ) (fs : List (List ℕ)) (c : Call) → call_at n fs ≡ Ok c → OfCall fs c
call_is n fs c e =
    let s = then_ok (ok_or (call_of fs) (Form n)) (λ s. carried Field (call_told n s)) c e in
    let P : List (List ℕ) → Type 0 = λ l. OfCall l c in
    subst P (sym (call_of_is fs s.0 (some_from_ok (Form n) (call_of fs) s.0 s.1))) (told_is n s.0 c (carried_ok Field (call_told n s.0) c s.2))

-- a premise's line
abbrev five : List ℕ × List ℕ × List ℕ × List ℕ × List ℕ → List (List ℕ)
five t = t.0 ∷ t.1 ∷ t.2 ∷ t.3 ∷ t.4 ∷ []

premise_is : (fs : List (List ℕ)) (t : List ℕ × List ℕ × List ℕ × List ℕ × List ℕ) → premise_of fs ≡ Some t → fs ≡ five t
premise_is fs t e =
    let a = with_some (first_piece fs) _ t e in
    let b = with_some (first_piece a.0.1) _ t a.2 in
    let c = with_some (first_piece b.0.1) _ t b.2 in
    let d = with_some (two_of c.0.1) _ t c.2 in
    first_is fs a.0 a.1
    ∙ ap (λ (l : List (List ℕ)). a.0.0 ∷ l) (first_is a.0.1 b.0 b.1)
    ∙ ap (λ (l : List (List ℕ)). a.0.0 ∷ b.0.0 ∷ l) (first_is b.0.1 c.0 c.1)
    ∙ ap (λ (l : List (List ℕ)). a.0.0 ∷ b.0.0 ∷ c.0.0 ∷ l) (two_is c.0.1 d.0 d.1)
    ∙ ap five (same_Some _ t d.2)

abbrev OfOpening : List (List ℕ) → Opening → Type 0
OfOpening fs o = (fs ≡ opening_fields o) × OpeningFits o

opening_told_is : (n : ℕ) (t : List ℕ × List ℕ × List ℕ × List ℕ × List ℕ) (o : Opening) → opening_told n t ≡ Ok o → OfOpening (five t) o
opening_told_is n t o e =
    let a = then_ok (rate_at n 1 t.0) _ o e in
    let b = then_ok (number_at n 2 t.1) _ o a.2 in
    let c = then_ok (number_at n 3 t.2) _ o b.2 in
    let d = then_ok (number_at n 4 t.3) _ o c.2 in
    let k = then_ok (number_at n 5 t.4) _ o d.2 in
    let w = rate_is n 1 t.0 a.0 a.1 in
    let x = number_is n 2 t.1 b.0 b.1 in
    let y = number_is n 3 t.2 c.0 c.1 in
    let z = number_is n 4 t.3 d.0 d.1 in
    let v = number_is n 5 t.4 k.0 k.1 in
    let P : Opening → Type 0 = OfOpening (five t) in
    subst P (ok_same _ o k.2) (
      λ i. w i ∷ x.0 i ∷ y.0 i ∷ z.0 i ∷ v.0 i ∷ [],
      record { digits = x.1; day = y.1; register = z.1; customer = v.1 },
    )

opening_is : (n : ℕ) (fs : List (List ℕ)) (o : Opening) → opening_at n fs ≡ Ok o → OfOpening fs o
opening_is n fs o e =
    let t = then_ok (ok_or (premise_of fs) (Form n)) (λ t. carried Field (opening_told n t)) o e in
    let P : List (List ℕ) → Type 0 = λ l. OfOpening l o in
    subst P (sym (premise_is fs t.0 (some_from_ok (Form n) (premise_of fs) t.0 t.1))) (opening_told_is n t.0 o (carried_ok Field (opening_told n t.0) o t.2))

-- a line is its fields with spaces between
line_is : (l : List ℕ) (fs : List (List ℕ)) → line_fields l ≡ fs → l ≡ spaced fs
line_is l fs e = sym (rejoined 32 l) ∙ ap (joined_by 32) e

next_is : (n : ℕ) (ls : List (List ℕ)) (t : List ℕ × List (List ℕ)) → line_at n ls ≡ Ok t → ls ≡ t.0 ∷ t.1
next_is n ls t e = first_is ls t (some_from_ok (Missing n) (first_piece ls) t e)

-- a count line
within_is : (low high : ℕ) (x : Option ℕ) (k : ℕ) → within low high x ≡ Some k → (x ≡ Some k) × (low ≤ k) × (k ≤ high)
within_is low high (Some m) k e =
    let P : Option ℕ → Type 0 = λ o. o ≡ Some k → (Some m ≡ Some k) × (low ≤ k) × (k ≤ high) in
    cond_both (leb low m && leb m high) (Some m) None P
    (λ w g. let s = same_Some m k g in (g, omega (arith, s, leb-true low m (and_parts _ _ w).0), omega (arith, s, leb-true m high (and_parts _ _ w).1)))
    (λ w g. absurd (none-some k g)) e
within_is low high None k e = absurd (none-some k e)

count_is : (n low high : ℕ) (name l : List ℕ) (k : ℕ) → count_at n name low high l ≡ Ok k → (l ≡ spaced (decimal k ∷ name ∷ [])) × (low ≤ k) × (k ≤ high)
count_is n low high name l k e =
    let w = within_is low high (count_of name (line_fields l)) k (some_from_ok (Count n) _ k e) in
    let t = with_some (two_of (line_fields l)) (λ t. cond (bytes_eq t.1 name) (number_of t.0) None) k w.0 in
    let P : Option ℕ → Type 0 = λ o. o ≡ Some k → l ≡ spaced (decimal k ∷ name ∷ []) in (
      cond_both (bytes_eq t.0.1 name) (number_of t.0.0) None P
          (λ s g.
          line_is l _ (two_is (line_fields l) t.0 t.1)
          ∙ (λ i. spaced ((tells t.0.0 (Some k) (sym g)).0 i ∷ (bytes_eq-Decides t.0.1 name).0 s i ∷ [])))
          (λ s g. absurd (none-some k g)) t.2,
      w.1,
      w.2,
    )

-- the calls
abbrev call_text : Call → List ℕ
call_text c = spaced (call_fields c)

next_call_is : (n : ℕ) (ls : List (List ℕ)) (t : Call × List (List ℕ)) → next_call n ls ≡ Ok t → (ls ≡ call_text t.0 ∷ t.1) × CallFits t.0
next_call_is n ls t e =
    let a = then_ok (line_at n ls) _ t e in
    let b = then_ok (carried Line (call_at n (line_fields a.0.0))) _ t a.2 in
    let c = call_is n (line_fields a.0.0) b.0 (carried_ok Line _ b.0 b.1) in
    let P : Call × List (List ℕ) → Type 0 = λ u. (ls ≡ call_text u.0 ∷ u.1) × CallFits u.0 in
    subst P (ok_same _ t b.2) (next_is n ls a.0 a.1 ∙ ap (λ (l : List ℕ). l ∷ a.0.1) (line_is a.0.0 _ c.0), c.1)

abbrev OfCalls : ℕ → List (List ℕ) → List Call × List (List ℕ) → Type 0
OfCalls k ls t = (length t.0 ≡ k) × CallsFit t.0 × (ls ≡ map call_text t.0 ++ t.1)

calls_is : (k n : ℕ) (ls : List (List ℕ)) (t : List Call × List (List ℕ)) → calls_of k n ls ≡ Ok t → OfCalls k ls t
calls_is zero n ls t e =
    let P : List Call × List (List ℕ) → Type 0 = OfCalls 0 ls in
    subst P (ok_same _ t e) (refl, tt, refl)
calls_is (suc k) n ls t e =
    let a = then_ok (next_call n ls) _ t e in
    let b = then_ok (calls_of k (n + 1) a.0.1) _ t a.2 in
    let c = next_call_is n ls a.0 a.1 in
    let d = calls_is k (n + 1) a.0.1 b.0 b.1 in
    let P : List Call × List (List ℕ) → Type 0 = OfCalls (suc k) ls in
    subst P (ok_same _ t b.2) (ap suc d.0, (c.1, d.1), c.0 ∙ ap (λ (l : List (List ℕ)). call_text a.0.0 ∷ l) d.2)

-- the premise's section
premise_section_is : (ls : List (List ℕ)) (t : Opening × List (List ℕ)) → premise_section 1 ls ≡ Ok t → (ls ≡ spaced (decimal 1 ∷ premise_name ∷ []) ∷ spaced (opening_fields t.0) ∷ t.1) × OpeningFits t.0
premise_section_is ls t e =
    let a = then_ok (line_at 1 ls) _ t e in
    let b = then_ok (count_at 1 premise_name 1 1 a.0.0) _ t a.2 in
    let c = then_ok (line_at 2 a.0.1) _ t b.2 in
    let d = then_ok (carried Line (opening_at 2 (line_fields c.0.0))) _ t c.2 in
    let k = count_is 1 1 1 premise_name a.0.0 b.0 b.1 in
    let one : b.0 ≡ 1 = omega (arith, k.1, k.2) in
    let o = opening_is 2 (line_fields c.0.0) d.0 (carried_ok Line _ d.0 d.1) in
    let P : Opening × List (List ℕ) → Type 0 = λ u. (ls ≡ spaced (decimal 1 ∷ premise_name ∷ []) ∷ spaced (opening_fields u.0) ∷ u.1) × OpeningFits u.0 in
    subst P (ok_same _ t d.2) (
      next_is 1 ls a.0 a.1
          ∙ (λ i. (k.0 ∙ ap (λ m. spaced (decimal m ∷ premise_name ∷ [])) one) i ∷ next_is 2 a.0.1 c.0 c.1 i)
          ∙ ap (λ (l : List ℕ). spaced (decimal 1 ∷ premise_name ∷ []) ∷ l ∷ c.0.1) (line_is c.0.0 _ o.0),
      o.1,
    )

-- the calls' section
abbrev OfSection : List (List ℕ) → List Call × List (List ℕ) → Type 0
OfSection ls t = (ls ≡ spaced (decimal (length t.0) ∷ calls_name ∷ []) ∷ (map call_text t.0 ++ t.1)) × (length t.0 ≤ 240) × CallsFit t.0

calls_section_is : (ls : List (List ℕ)) (t : List Call × List (List ℕ)) → calls_section 3 ls ≡ Ok t → OfSection ls t
calls_section_is ls t e =
    let a = then_ok (line_at 3 ls) _ t e in
    let b = then_ok (count_at 3 calls_name 0 240 a.0.0) _ t a.2 in
    let k = count_is 3 0 240 calls_name a.0.0 b.0 b.1 in
    let c = calls_is b.0 4 a.0.1 t b.2 in (
      next_is 3 ls a.0 a.1
          ∙ (λ i. (k.0 ∙ ap (λ m. spaced (decimal m ∷ calls_name ∷ [])) (sym c.0)) i ∷ c.2 i),
      omega (arith, c.0, k.2),
      c.1,
    )

left_is : (ls : List (List ℕ)) → nothing_left ls ≡ true → ls ≡ [] ∷ []
left_is [] e = absurd (both_ways false refl e)
left_is ([] ∷ []) e = refl
left_is ([] ∷ q ∷ ps) e = absurd (both_ways false refl e)
left_is ((b ∷ p) ∷ ps) e = absurd (both_ways false refl e)

-- each line ends
ended : (ls : List (List (List ℕ))) → joined_by 10 (map spaced ls ++ ([] ∷ [])) ≡ written ls
ended [] = refl
ended (l ∷ []) = refl
ended (l ∷ m ∷ ls) = ap (λ (bs : List ℕ). spaced l ++ (10 ∷ bs)) (ended (m ∷ ls))

call_lines : (cs : List Call) → map call_text cs ≡ map spaced (map call_fields cs)
call_lines [] = refl
call_lines (c ∷ cs) = ap (λ (l : List (List ℕ)). call_text c ∷ l) (call_lines cs)

-- the whole sheet
module _ (bs : List ℕ) (t : Opening × List (List ℕ)) (u : List Call × List (List ℕ)) (first : premise_section 1 (pieces 10 bs) ≡ Ok t) (second : calls_section 3 t.1 ≡ Ok u) (none : nothing_left u.1 ≡ true) where
  lines_are : pieces 10 bs ≡ map spaced (sheet_lines t.0 u.0) ++ ([] ∷ [])
  lines_are =
      let o = t.0 in
      let cs = u.0 in
      (premise_section_is (pieces 10 bs) t first).0
      ∙ ap (λ (l : List (List ℕ)). spaced (decimal 1 ∷ premise_name ∷ []) ∷ spaced (opening_fields o) ∷ l) (calls_section_is t.1 u second).0
      ∙ (λ i. spaced (decimal 1 ∷ premise_name ∷ []) ∷ spaced (opening_fields o) ∷ spaced (decimal (length cs) ∷ calls_name ∷ []) ∷ (call_lines cs i ++ left_is u.1 none i))

  text_is : bs ≡ sheet_text t.0 u.0
  text_is = sym (rejoined 10 bs) ∙ ap (joined_by 10) lines_are ∙ ended (sheet_lines t.0 u.0)

  all_fits : length bs ≤ 8192 → Fits t.0 u.0
  all_fits small = record {
    opening = (premise_section_is (pieces 10 bs) t first).1;
    calls = (calls_section_is t.1 u second).2;
    few = (calls_section_is t.1 u second).1;
    not_long = omega (arith, small, ap length text_is);
  }

abbrev OfSheet : List ℕ → Opening × List Call → Type 0
OfSheet bs s = (bs ≡ sheet_text s.0 s.1) × Fits s.0 s.1

pub sheet_is : (bs : List ℕ) (s : Opening × List Call) → sheet_of bs ≡ Ok s → OfSheet bs s
sheet_is bs s e =
    cond_both (ltb 8192 (length bs)) (Err Long) _ (λ r. r ≡ Ok s → OfSheet bs s)
    (λ w g. absurd (err_ok Long s g))
    (λ w g.
    let t = then_ok (carried Premise (premise_section 1 (pieces 10 bs))) _ s g in
    let u = then_ok (carried Calls (calls_section 3 t.0.1)) _ s t.2 in
    let first = carried_ok Premise _ t.0 t.1 in
    let second = carried_ok Calls _ u.0 u.1 in
    cond_both (nothing_left u.0.1) (Ok (t.0.0, u.0.0)) (Err Rest) (λ r. r ≡ Ok s → OfSheet bs s)
    (λ none h.
    let P : Opening × List Call → Type 0 = OfSheet bs in
    subst P (ok_same _ s h) (text_is bs t.0 u.0 first second none, all_fits bs t.0 u.0 first second none (ltb-false 8192 (length bs) w)))
    (λ _ h. absurd (err_ok Rest s h)) u.2) e

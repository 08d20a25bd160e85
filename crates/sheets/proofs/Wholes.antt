-- A whole sheet from its sections.
use Rattle.std.proofs.Common.{◌≡◌, ℕ, ◌+◌, ◌<◌, ◌≤◌, false, cond, eqb, List, [], ◌∷◌, length, Ok, Err, Result, MatchResult, sym, refl, ap, ◌∙◌, inl, inr, ⊎_elim, arith}
use Rattle.std.proofs.lemmas.Bool.{cond-false, cond_both, ne_eqb, le-ltb}
use Rattle.std.proofs.lemmas.Result.{err_from_is_err_and}
use Rattle.std.specs.Result.{IsErrAnd}
use Rattle.premise.specs.declared.play.Call.{Call}
use Rattle.std.specs.List.{onto_first}
use Rattle.fields.specs.Pieces.{pieces}
use Rattle.sheets.specs.declared.fault.SectionFault.{SectionFault}
use Rattle.sheets.specs.declared.fault.SheetFault.{SheetFault}
use Rattle.sheets.specs.declared.fault.SheetFault.TheVariants.{Premise, Calls, Rest}
use Rattle.premise.specs.declared.opening.Opening.{Opening}
use Rattle.sheets.specs.Lines.{then, carried}
use Rattle.sheets.proofs.Forms.{err_ok}
use Rattle.sheets.specs.Sections.{premise_section, calls_section, nothing_left, sheet_of, OrMemory, SheetRefused}

behind_onto : (b : ℕ) (ps : List (List ℕ)) → nothing_left ([] ∷ onto_first b ps) ≡ false
behind_onto b [] = refl
behind_onto b (p ∷ ps) = refl

behind : (c : ℕ) (bs : List ℕ) → nothing_left ([] ∷ pieces c bs) ≡ false
behind c [] = refl
behind c (b ∷ bs) = cond_both (eqb b c) ([] ∷ pieces c bs) (onto_first b (pieces c bs)) (λ ps. nothing_left ([] ∷ ps) ≡ false) (λ e. refl) (λ e. behind_onto b (pieces c bs))

first_onto : (b : ℕ) (ps : List (List ℕ)) → nothing_left (onto_first b ps) ≡ false
first_onto b [] = refl
first_onto b (p ∷ ps) = refl

left_some : (c : ℕ) (bs : List ℕ) → 0 < length bs → nothing_left (pieces c bs) ≡ false
left_some c [] h = absurd (omega (arith, h))
left_some c (b ∷ bs) h = cond_both (eqb b c) ([] ∷ pieces c bs) (onto_first b (pieces c bs)) (λ ps. nothing_left ps ≡ false) (λ e. behind c bs) (λ e. first_onto b (pieces c bs))

-- nothing is left exactly at the end
pub at_end_is : (bs : List ℕ) → eqb (length bs) 0 ≡ nothing_left (pieces 10 bs)
at_end_is [] = refl
at_end_is (b ∷ bs) = ne_eqb (length (b ∷ bs)) 0 (λ e. omega (arith, e)) ∙ sym (left_some 10 (b ∷ bs) (omega arith))

-- what a call answered, from what it was told as above it
module _ {A E F : Type 0} (V : E → F) where
  abbrev pub Told : Result A F → Result A E → Type 0
  Told q r = MatchResult r (λ a. q ≡ Ok a) (λ e. IsErrAnd q (λ f. f ≡ V e))

  pub told_ok : (q : Result A F) (r : Result A E) (a : A) → Told q r → q ≡ Ok a → r ≡ Ok a
  told_ok q (Ok b) a t e = let s : b ≡ a = cc in ap Ok s
  told_ok q (Err x) a t e = let p = err_from_is_err_and q t in absurd (err_ok p.0 a (sym p.1 ∙ e))

  pub told_err : (q : Result A F) (r : Result A E) (f : F) → Told q r → q ≡ Err f → (e : E) × (f ≡ V e) × (r ≡ Err e)
  told_err q (Ok b) f t e = absurd (err_ok f b (sym e ∙ t))
  told_err q (Err x) f t e = let p = err_from_is_err_and q t in (x, cc, refl)

-- a sheet that is not too long, by its sections
module _ (bs : List ℕ) (small : length bs ≤ 8192) where
  abbrev finish : Opening → Result (List Call × List (List ℕ)) SectionFault → Result (Opening × List Call) SheetFault
  finish o r = then (carried Calls r) (λ u. cond (nothing_left u.1) (Ok (o, u.0)) (Err Rest))

  abbrev from_premise : Result (Opening × List (List ℕ)) SectionFault → Result (Opening × List Call) SheetFault
  from_premise r = then (carried Premise r) (λ t. finish t.0 (calls_section 3 t.1))

  sheet_is : from_premise (premise_section 1 (pieces 10 bs)) ≡ sheet_of bs
  sheet_is = sym (cond-false _ _ _ (le-ltb 8192 (length bs) small))

  module _ (o : Opening) (ls : List (List ℕ)) (n : ℕ) (read : (Ok (o, ls) ≡ premise_section 1 (pieces 10 bs)) × (n ≡ 2)) where
    calls_are : finish o (calls_section (n + 1) ls) ≡ sheet_of bs
    calls_are = ap (λ k. finish o (calls_section (k + 1) ls)) read.1 ∙ ap from_premise read.0 ∙ sheet_is

    pub calls_fault : (f : SectionFault) → OrMemory (calls_section (n + 1) ls) f → SheetRefused bs (Calls f)
    calls_fault f h = ⊎_elim (λ m. inl (ap Calls m)) (λ e. inr (ap (finish o) e ∙ calls_are)) h

-- A sheet is read exactly when it is a text.
use Rattle.std.proofs.Common.{◌≡◌, ℕ, List, IfOk, Ok, Err, vec_items, Result, sym, ap, ◌∙◌, ⊎_elim, MatchResult}
use Rattle.premise.specs.declared.play.Call.{Call}
use Rattle.sheets.specs.declared.fault.SectionFault.TheVariants.{Memory}
use Rattle.sheets.specs.declared.fault.SheetFault.{SheetFault}
use Rattle.sheets.specs.declared.fault.SheetFault.TheVariants.{Calls}
use Rattle.premise.specs.declared.opening.Opening.{Opening}
use Rattle.sheets.specs.declared.sheet.Sheet.{Sheet}
use Rattle.sheets.specs.Sections.{SheetRead, SheetRefused, sheet_of}
use Rattle.sheets.specs.Texts.{TextOf, NoTwoAlike}
use Rattle.sheets.proofs.Backs.{sheet_back}
use Rattle.sheets.proofs.Forms.{ok_same, err_ok, sheet_is}

module _ (bs : List ℕ) where
  abbrev Answered : Result Sheet SheetFault → Type 0
  Answered r = MatchResult r (λ s. SheetRead bs s.opening (vec_items s.calls)) (SheetRefused bs)

  pub text_law : (r : Result Sheet SheetFault) → Answered r → IfOk r (λ s. TextOf bs s.opening (vec_items s.calls))
  text_law (Ok s) h = sheet_is bs (s.opening, vec_items s.calls) (sym h)
  text_law (Err e) h = tt

  pub back_law : (r : Result Sheet SheetFault) → Answered r → (o : Opening) (cs : List Call) → TextOf bs o cs → MatchResult r (λ s. (s.opening ≡ o) × (vec_items s.calls ≡ cs)) (λ e. e ≡ Calls Memory)
  back_law (Ok s) h o cs f =
      let same = ok_same (s.opening, vec_items s.calls) (o, cs) (h ∙ ap sheet_of f.0 ∙ sheet_back o cs f.1) in
      (ap (λ (t : Opening × List Call). t.0) same, ap (λ (t : Opening × List Call). t.1) same)
  back_law (Err e) h o cs f = ⊎_elim (λ m. m) (λ x. absurd (err_ok e (o, cs) (x ∙ ap sheet_of f.0 ∙ sheet_back o cs f.1))) h

pub alike_law : NoTwoAlike
alike_law o p cs ds f g e =
    let same = ok_same (o, cs) (p, ds) (sym (sheet_back o cs f) ∙ ap sheet_of e ∙ sheet_back p ds g) in
    (ap (λ (t : Opening × List Call). t.0) same, ap (λ (t : Opening × List Call). t.1) same)

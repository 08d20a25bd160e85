-- The law over whole histories.
use Rattle.std.proofs.Common.{◌≡◌, ℕ, Bool, true, List, [], ◌∷◌, ◌++◌, Ok, Option, sym, refl, ap, ◌∙◌}
use Rattle.measures.specs.declared.entry.Entry.{Entry}
use Rattle.measures.specs.Dial.{turn_of}
use Rattle.estimating.specs.declared.basis.Question.{Question}
use Rattle.estimating.specs.declared.basis.Basis.{Basis}
use Rattle.premise.specs.declared.file.PremiseFile.{PremiseFile}
use Rattle.premise.specs.declared.happening.Happening.{Happening}
use Rattle.premise.specs.History.{registers, advances, Opened, Happens, Lived, next, Law, same_sums, Agree}
use Rattle.std.proofs.lemmas.Bool.{cond-true, eq-eqb}
use Rattle.premise.specs.Files.{fits, settled_total, settled_sum}
use Rattle.premise.proofs.Owning.{owned, owned_fits}
use Rattle.premise.proofs.Standing.{standing}
use Rattle.premise.proofs.Bills.{stands, call_billed}

module _ {M J : Type 0} (table : M → List Entry → Question → Option Basis) (higher : J → ℕ → ℕ → ℕ → Bool) where
  pub law_of : (f0 : PremiseFile M J) (b0 : List Entry) (es : List Happening) (f : PremiseFile M J) (b : List Entry) → Opened f0 b0 → Lived table higher f0 b0 es f b → Law table higher f0 b0 es f b
  law_of f0 b0 es f b o l =
      let s = standing table higher f0 b0 es f b o l in
      record {
        bills_meet_dial = s.dialled;
        one_entry_each = s.counted;
        settled_to_read = s.upto;
        own_book = owned_fits f b (owned table higher f0 b0 es f b o l);
        open_bills = s.bills;
        settled_stands = λ es1 es2 f1 b1 e l1 l2. stands table higher f1 b1 es2 f b l2;
        each_call = λ es1 f1 b1 e f2 b2 l1 h. call_billed table higher f0 es1 f1 b1 (standing table higher f0 b0 es1 f1 b1 o l1) e f2 b2 h;
      }

  -- with one call more
  pub law_next : (f0 : PremiseFile M J) (b0 : List Entry) (es : List Happening) (f : PremiseFile M J) (b : List Entry) (e : Happening) (f' : PremiseFile M J) (b' : List Entry) → Opened f0 b0 → Lived table higher f0 b0 es f b → Happens table higher f b e f' b' → Law table higher f0 b0 (es ++ (e ∷ [])) f' b'
  law_next f0 b0 es f b e f' b' o l h = law_of f0 b0 (es ++ (e ∷ [])) f' b' o (next e l h)

module _ {M J : Type 0} where
  -- the settled total is told
  pub told_total : (f : PremiseFile M J) (b : List Entry) (n : ℕ) → fits f b ≡ true → settled_total f b ≡ n → settled_sum f b ≡ Ok n
  told_total f b n h t = cond-true _ _ _ h ∙ ap Ok t

-- two files with the same registers hold the same totals
pub files_agree : {M J N K : Type 0} (table : M → List Entry → Question → Option Basis) (higher : J → ℕ → ℕ → ℕ → Bool) (table' : N → List Entry → Question → Option Basis) (higher' : K → ℕ → ℕ → ℕ → Bool)
    (f : PremiseFile M J) (b : List Entry) (g : PremiseFile N K) (c : List Entry) → Agree table higher table' higher' f b g c
files_agree table higher table' higher' f b g c f0 b0 es g0 c0 fs of lf og lg d p e =
    let one = law_of table higher f0 b0 es f b of lf in
    let two = law_of table' higher' g0 c0 fs g c og lg in
    let same : settled_total f b ≡ settled_total g c
    = one.bills_meet_dial
    ∙ ap (λ x. advances (turn_of x) f0.register (registers es)) d
    ∙ ap (λ x. advances (turn_of g0.dial) x (registers es)) p
    ∙ ap (advances (turn_of g0.dial) g0.register) e
    ∙ sym two.bills_meet_dial in
    let first = told_total f b (settled_total g c) one.own_book same in
    let second = told_total g c (settled_total g c) two.own_book refl in
    (same, (λ i. same_sums (first i) (second i)) ∙ ap Ok (eq-eqb (settled_total g c) (settled_total g c) refl))

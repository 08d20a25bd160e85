-- Calls that were played are a history.
use Rattle.std.proofs.Common.{◌≡◌, ℕ, Bool, List, [], ◌∷◌, ◌++◌, IfOk, Ok, Err, Option, Result, sym, refl, subst, append_assoc, MatchResult}
use Rattle.std.proofs.lemmas.List.{append-nil}
use Rattle.measures.specs.declared.entry.Entry.{Entry}
use Rattle.estimating.specs.declared.basis.Question.{Question}
use Rattle.estimating.specs.declared.basis.Basis.{Basis}
use Rattle.premise.specs.declared.happening.Happening.{Happening}
use Rattle.premise.specs.declared.play.Call.{Call}
use Rattle.premise.specs.declared.play.Call.TheVariants.{Read, Miss, Move}
use Rattle.premise.specs.declared.file.PremiseFile.{PremiseFile}
use Rattle.premise.specs.Plays.{called, played}
use Rattle.premise.specs.History.{Happens, Lived, start, next, KeepsLaw}
use Rattle.premise.proofs.Histories.{law_of}

-- what happened before, and then
abbrev pub joined : {M J : Type 0} → List Happening → List Happening × PremiseFile M J × List Entry → List Happening × PremiseFile M J × List Entry
joined hs t = (hs ++ t.0, t.1, t.2)

-- what follows of the value in an answer
pub made_by : {X E : Type 0} (r : Result X E) (P : X → Type 0) (Q : E → Type 0) (R : X → Type 0) → MatchResult r P Q → ((x : X) → P x → R x) → IfOk r R
made_by (Ok x) P Q R c f = f x c
made_by (Err e) P Q R c f = tt

module _ {M J : Type 0} (table : M → List Entry → Question → Option Basis) (higher : J → ℕ → ℕ → ℕ → Bool) where
  -- a call does what it says
  happens : (c : Call) (f : PremiseFile M J) (b : List Entry) → Happens table higher f b (called table higher c f b).0 (called table higher c f b).1 (called table higher c f b).2
  happens (Read day register) f b = refl
  happens (Miss day) f b = refl
  happens (Move customer) f b = (refl, refl)

  -- one history after another
  pub lived_append : {f : PremiseFile M J} {b : List Entry} {es : List Happening} {g : PremiseFile M J} {c : List Entry} (fs : List Happening) {h : PremiseFile M J} {d : List Entry} → Lived table higher f b es g c → Lived table higher g c fs h d → Lived table higher f b (es ++ fs) h d
  lived_append {f} {b} {es} {g} {c} fs l start = subst (λ (x : List Happening). Lived table higher f b x g c) (sym (append-nil es)) l
  lived_append {f} {b} {es} fs {h} {d} l (next {es = fs1} e m s) = subst (λ (x : List Happening). Lived table higher f b x h d) (append_assoc es fs1 (e ∷ [])) (next e (lived_append fs1 l m) s)

  pub lived_played : (cs : List Call) (f : PremiseFile M J) (b : List Entry) → Lived table higher f b (played table higher cs f b).0 (played table higher cs f b).1 (played table higher cs f b).2
  lived_played [] f b = start
  lived_played (c ∷ cs) f b =
      let o = called table higher c f b in
      let first : Lived table higher f b (o.0 ∷ []) o.1 o.2 = next o.0 start (happens c f b) in
      lived_append (played table higher cs o.1 o.2).0 first (lived_played cs o.1 o.2)

  -- what was played is a history, and keeps the law
  pub play_lived : (cs : List Call) (f : PremiseFile M J) (b : List Entry) (hs : List Happening) (f' : PremiseFile M J) (b' : List Entry) → (hs, f', b') ≡ played table higher cs f b → Lived table higher f b hs f' b'
  play_lived cs f b hs f' b' e = subst (λ (t : List Happening × PremiseFile M J × List Entry). Lived table higher f b t.0 t.1 t.2) (sym e) (lived_played cs f b)

  pub play_keeps : (f : PremiseFile M J) (b : List Entry) (hs : List Happening) (f' : PremiseFile M J) (b' : List Entry) → Lived table higher f b hs f' b' → KeepsLaw table higher f b hs f' b'
  play_keeps f b hs f' b' l f0 b0 es o before = law_of table higher f0 b0 (es ++ hs) f' b' o (lived_append hs before l)

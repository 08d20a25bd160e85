-- Each call that is played has one answer.
use Rattle.std.proofs.Common.{◌≡◌, ℕ, suc, Bool, List, [], ◌∷◌, length, Option, refl, ap}
use Rattle.measures.specs.declared.entry.Entry.{Entry}
use Rattle.estimating.specs.declared.basis.Question.{Question}
use Rattle.estimating.specs.declared.basis.Basis.{Basis}
use Rattle.premise.specs.declared.play.Call.{Call}
use Rattle.premise.specs.declared.file.PremiseFile.{PremiseFile}
use Rattle.premise.specs.Plays.{called, played}

module _ {M J : Type 0} (table : M → List Entry → Question → Option Basis) (higher : J → ℕ → ℕ → ℕ → Bool) where
  pub answers_counted : (cs : List Call) (f : PremiseFile M J) (b : List Entry) → length (played table higher cs f b).0 ≡ length cs
  answers_counted [] f b = refl
  answers_counted (c ∷ cs) f b = ap suc (answers_counted cs (called table higher c f b).1 (called table higher c f b).2)

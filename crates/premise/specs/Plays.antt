-- A list of calls played on a premise's file and its book.
--   called c f b    what happened when c was called, and file and book then
--   played cs f b   what happened when the calls cs were made one after the other, and file and book then
use Rattle.std.specs.Prelude.{ℕ, Bool, List, [], ◌∷◌, Option, Result}
use Rattle.measures.specs.declared.entry.Entry.{Entry}
use Rattle.estimating.specs.declared.basis.Question.{Question}
use Rattle.estimating.specs.declared.basis.Basis.{Basis}
use Rattle.premise.specs.declared.happening.Happening.{Happening}
use Rattle.premise.specs.declared.happening.Happening.TheVariants as told
use Rattle.premise.specs.declared.play.Call.{Call}
use Rattle.premise.specs.declared.play.Call.TheVariants.{Read, Miss, Move}
use Rattle.premise.specs.declared.file.PremiseFile.{PremiseFile}
use Rattle.premise.specs.Files.{reads, misses, moves}

module _ {M J : Type 0} where
  abbrev pub tell : {A : Type 0} → (A → Happening) → A × PremiseFile M J × List Entry → Happening × PremiseFile M J × List Entry
  tell what o = (what o.0, o.1, o.2)

  abbrev pub tell_move : ℕ → Result (Unit {0}) ℕ × PremiseFile M J → List Entry → Happening × PremiseFile M J × List Entry
  tell_move customer o b = (told.Move customer o.0, o.1, b)

  abbrev pub then_rest : Happening → List Happening × PremiseFile M J × List Entry → List Happening × PremiseFile M J × List Entry
  then_rest h t = (h ∷ t.0, t.1, t.2)

module _ {M J : Type 0} (table : M → List Entry → Question → Option Basis) (higher : J → ℕ → ℕ → ℕ → Bool) where
  abbrev pub called : Call → PremiseFile M J → List Entry → Happening × PremiseFile M J × List Entry
  called (Read day register) f b = tell (told.Read day register) (reads higher f b day register)
  called (Miss day) f b = tell (told.Miss day) (misses table f b day)
  called (Move customer) f b = tell_move customer (moves f customer) b

  abbrev pub played : List Call → PremiseFile M J → List Entry → List Happening × PremiseFile M J × List Entry
  played [] f b = ([], f, b)
  played (c ∷ cs) f b = then_rest (called c f b).0 (played cs (called c f b).1 (called c f b).2)

-- The words of a history, with one call more.
use Rattle.std.proofs.Common.{◌≡◌, ℕ, ◌+◌, List, [], ◌∷◌, ◌++◌, Ok, Err, refl, ap, arith}
use Rattle.premise.specs.declared.happening.Happening.{Happening}
use Rattle.premise.specs.declared.happening.Happening.TheVariants.{Read, Miss, Move}
use Rattle.premise.specs.History.{after, registers, last_of, advances}

pub after_append : {S : Type 0} (step : S → Happening → S) (s : S) (es fs : List Happening) → after step s (es ++ fs) ≡ after step (after step s es) fs
after_append step s [] fs = refl
after_append step s (e ∷ es) fs = after_append step (step s e) es fs

pub registers_append : (es fs : List Happening) → registers (es ++ fs) ≡ registers es ++ registers fs
registers_append [] fs = refl
registers_append (Read day register (Ok a) ∷ es) fs = ap (λ rs. register ∷ rs) (registers_append es fs)
registers_append (Read day register (Err n) ∷ es) fs = registers_append es fs
registers_append (Miss day r ∷ es) fs = registers_append es fs
registers_append (Move customer r ∷ es) fs = registers_append es fs

pub last_append : (p : ℕ) (rs ss : List ℕ) → last_of p (rs ++ ss) ≡ last_of (last_of p rs) ss
last_append p [] ss = refl
last_append p (r ∷ rs) ss = last_append r rs ss

pub advances_append : (t p : ℕ) (rs ss : List ℕ) → advances t p (rs ++ ss) ≡ advances t p rs + advances t (last_of p rs) ss
advances_append t p [] ss = omega arith
advances_append t p (r ∷ rs) ss = omega (arith, advances_append t r rs ss)

-- How the tables of methods join.
--   first_then f s   the first answer, or the second where there is none
--   first_among xs   the first of several answers
use Rattle.std.specs.Prelude.{List, [], ◌∷◌, Some, None, Option}

abbrev pub first_then : {A : Type 0} → Option A → Option A → Option A
first_then (Some a) s = Some a
first_then None s = s

abbrev pub first_among : {A : Type 0} → List (Option A) → Option A
first_among [] = None
first_among (a ∷ xs) = first_then a (first_among xs)

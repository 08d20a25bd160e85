-- The fields of a line, which have one space between, and the numbers that they write.
--   fields_of n bs    the fields of the line bs, where they are n
--   numbers_of n bs   the numbers that they write, where each writes one
--   list_of bs        the numbers of a line of any number of them, none where it is empty
use Rattle.std.specs.Prelude.{ℕ, cond, List, [], ◌∷◌, length, Some, None, Option, ◌==◌}
use Rattle.fields.specs.Pieces.{pieces}
use Rattle.fields.specs.Numbers.{number_of}

abbrev pub so_many : ℕ → List (List ℕ) → Option (List (List ℕ))
so_many n fs = cond (length fs == n) (Some fs) None

abbrev pub fields_of : ℕ → List ℕ → Option (List (List ℕ))
fields_of n bs = so_many n (pieces 32 bs)

abbrev pub onto : Option ℕ → Option (List ℕ) → Option (List ℕ)
onto None ns = None
onto (Some n) None = None
onto (Some n) (Some ns) = Some (n ∷ ns)

-- the number of each field, where each writes one
abbrev pub all_numbers : List (List ℕ) → Option (List ℕ)
all_numbers [] = Some []
all_numbers (f ∷ fs) = onto (number_of f) (all_numbers fs)

abbrev pub in_all : Option (List (List ℕ)) → Option (List ℕ)
in_all None = None
in_all (Some fs) = all_numbers fs

abbrev pub numbers_of : ℕ → List ℕ → Option (List ℕ)
numbers_of n bs = in_all (fields_of n bs)

abbrev pub list_of : List ℕ → Option (List ℕ)
list_of bs = cond (length bs == 0) (Some []) (all_numbers (pieces 32 bs))

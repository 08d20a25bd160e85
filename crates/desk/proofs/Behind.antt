-- The numbers of a line, one field after the other.
use Rattle.std.proofs.Common.{ℕ, List, ◌++◌, Option, option_map}
use Rattle.desk.specs.Lists.{so_many, all_numbers, in_all}

-- the numbers of so many fields, behind those that are read
abbrev pub behind : List ℕ → ℕ → List (List ℕ) → Option (List ℕ)
behind ns n fs = option_map (λ ms. ns ++ ms) (in_all (so_many n fs))

-- the numbers of all fields, behind those that are read
abbrev pub all_behind : List ℕ → List (List ℕ) → Option (List ℕ)
all_behind ns fs = option_map (λ ms. ns ++ ms) (all_numbers fs)

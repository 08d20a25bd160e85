-- Bytes parted at a separator.
--   pieces c bs   the bytes between the separators: one piece more than bs has separators
--   joined_by c   pieces in a row, with the separator between each two
--   first_piece   the first of some pieces and the others, where there are others
--   Cut c bs r    r is the first piece and what is behind its separator; none where there is one piece alone
use Rattle.std.specs.Prelude.{◌≡◌, ℕ, ◌+◌, List, [], ◌∷◌, length, drop, Some, None, Option, ◌==◌}
use Rattle.std.specs.List.{slice_split, join_with_byte}
use Rattle.std.specs.Borrow.{Bor}

abbrev pub pieces : ℕ → List ℕ → List (List ℕ)
pieces c bs = slice_split (λ b. b == c) bs

abbrev pub joined_by : ℕ → List (List ℕ) → List ℕ
joined_by c ps = join_with_byte c ps

-- the first piece and those behind it, where it is not alone
abbrev pub first_piece : List (List ℕ) → Option (List ℕ × List (List ℕ))
first_piece [] = None
first_piece (p ∷ []) = None
first_piece (p ∷ q ∷ ps) = Some (p, q ∷ ps)

abbrev pub Cut : ℕ → List ℕ → Option (Bor (List ℕ) × Bor (List ℕ)) → Type 0
Cut c bs (Some r) =
    (Some (r.0.now, pieces c r.1.now) ≡ first_piece (pieces c bs))
    × (length bs ≡ length r.0.now + 1 + length r.1.now)
    × (r.1.now ≡ drop (length r.0.now + 1) bs)
Cut c bs None = pieces c bs ≡ bs ∷ []

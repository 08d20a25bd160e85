-- The records of a book by their places, which are counted from 0.
--   held r                 what a reference points to, where there is one
--   record_at book i       the record at place i, where the book has one
--   found_at book p        the record at the place p, where there is such a place
--   record_before book i   the record directly before place i; none before the first
use Rattle.std.specs.Prelude.{ℕ, zero, suc, List, [], ◌∷◌, Some, None, Option}
use Rattle.std.specs.Borrow.{Bor}

abbrev pub held : {R : Type 0} → Option (Bor R) → Option R
held (Some r) = Some r.now
held None = None

abbrev pub record_at : {R : Type 0} → List R → ℕ → Option R
record_at [] i = None
record_at (x ∷ book) zero = Some x
record_at (x ∷ book) (suc i) = record_at book i

abbrev pub found_at : {R : Type 0} → List R → Option ℕ → Option R
found_at book (Some i) = record_at book i
found_at book None = None

abbrev pub record_before : {R : Type 0} → List R → ℕ → Option R
record_before book zero = None
record_before book (suc i) = record_at book i

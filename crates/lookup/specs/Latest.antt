-- The latest record of a book, by its place: the one with the greatest place that passes a test.
--   latest_place test book          its place, where one passes
--   latest test book                the record itself
--   LatestAt test book i x          the record x at place i passes, and no record after it does
--   Latest test book x              the same, at some place
--   PlaceOrNone test book p         p is the place of the latest record that passes, or none where none passes
--   LatestOrNone test book r        r is that record, or none where none passes
--   year_back_place .. w c d book   the place of the latest record for the customer c in the month of d, a year earlier
--   year_back .. w c d book         the record itself
--   newest_place book               the last place, where there is one
--   newest book                     the very last record
--   NewestAt book i x               the record x stands at place i, the last
--   Newest book x                   the same, at some place
--   NewestOrNone book r             r is the very last record, or none in an empty book
use Rattle.std.specs.Prelude.{◌≡◌, ℕ, suc, ◌+◌, ◌<◌, Bool, true, false, cond, List, [], ◌∷◌, length, Some, None, Option}
use Rattle.estimating.specs.Tables.{first_then}
use Rattle.lookup.specs.declared.fit.Whose.{Whose}
use Rattle.lookup.specs.Tests.{a_year_back}
use Rattle.lookup.specs.Places.{record_at, found_at}

-- the place in a book that has one record more in front
abbrev pub one_on : Option ℕ → Option ℕ
one_on (Some i) = Some (suc i)
one_on None = None

-- the latest of the records behind the first, otherwise the first
abbrev pub latest_place : {R : Type 0} → (R → Bool) → List R → Option ℕ
latest_place test [] = None
latest_place test (x ∷ book) = first_then (one_on (latest_place test book)) (cond (test x) (Some 0) None)

abbrev pub latest : {R : Type 0} → (R → Bool) → List R → Option R
latest test book = found_at book (latest_place test book)

pub record LatestAt {R : Type 0} (test : R → Bool) (book : List R) (i : ℕ) (x : R) : Type 0 where
  pub stands : record_at book i ≡ Some x
  pub passes : test x ≡ true
  pub none_after : (k : ℕ) (y : R) → i < k → record_at book k ≡ Some y → test y ≡ false

abbrev pub Latest : {R : Type 0} → (R → Bool) → List R → R → Type 0
Latest test book x = (i : ℕ) × LatestAt test book i x

abbrev pub NonePasses : {R : Type 0} → (R → Bool) → List R → Type 0
NonePasses {R} test book = (k : ℕ) (y : R) → record_at book k ≡ Some y → test y ≡ false

abbrev pub PlaceOrNone : {R : Type 0} → (R → Bool) → List R → Option ℕ → Type 0
PlaceOrNone {R} test book (Some i) = (x : R) × LatestAt test book i x
PlaceOrNone test book None = NonePasses test book

abbrev pub LatestOrNone : {R : Type 0} → (R → Bool) → List R → Option R → Type 0
LatestOrNone test book (Some x) = Latest test book x
LatestOrNone test book None = NonePasses test book

abbrev pub year_back_place : {R : Type 0} → (R → ℕ) → (R → ℕ) → Whose → ℕ → ℕ → List R → Option ℕ
year_back_place billed ends w c d book = latest_place (a_year_back billed ends w c d) book

abbrev pub year_back : {R : Type 0} → (R → ℕ) → (R → ℕ) → Whose → ℕ → ℕ → List R → Option R
year_back billed ends w c d book = latest (a_year_back billed ends w c d) book

abbrev pub newest_place : {R : Type 0} → List R → Option ℕ
newest_place [] = None
newest_place (x ∷ book) = Some (length book)

abbrev pub newest : {R : Type 0} → List R → Option R
newest book = found_at book (newest_place book)

pub record NewestAt {R : Type 0} (book : List R) (i : ℕ) (x : R) : Type 0 where
  pub stands : record_at book i ≡ Some x
  pub is_last : i + 1 ≡ length book

abbrev pub Newest : {R : Type 0} → List R → R → Type 0
Newest book x = (i : ℕ) × NewestAt book i x

abbrev pub NewestOrNone : {R : Type 0} → List R → Option R → Type 0
NewestOrNone book (Some x) = Newest book x
NewestOrNone book None = length book ≡ 0

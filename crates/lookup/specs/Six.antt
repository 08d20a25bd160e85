-- What the six latest records of a book that pass a test come to.
--   total figure xs   a figure summed over a list
--   last_six xs       the last six of a list, or all where it has fewer
--   six_latest ..     how many there are of the six latest that pass, with their usage days and their kWh
--   SixLatest .. r    r is of those that pass from some place on: six, or else all that the book has
use Rattle.std.specs.Prelude.{◌≡◌, ℕ, ◌+◌, ◌-◌, ◌<◌, ◌≤◌, Bool, List, [], ◌∷◌, length, drop, filter}
use Rattle.lookup.specs.declared.six.Six.{Six}

abbrev pub total : {R : Type 0} → (R → ℕ) → List R → ℕ
total figure [] = 0
total figure (x ∷ xs) = figure x + total figure xs

abbrev pub last_six : {R : Type 0} → List R → List R
last_six xs = drop (length xs - 6) xs

abbrev pub sum_up : {R : Type 0} → (R → ℕ) → (R → ℕ) → List R → Six
sum_up used metered xs = record { count = length xs; usage_days = total used xs; kwh = total metered xs }

abbrev pub six_latest : {R : Type 0} → (R → Bool) → (R → ℕ) → (R → ℕ) → List R → Six
six_latest test used metered book = sum_up used metered (last_six (filter test book))

pub record SixLatest {R : Type 0} (test : R → Bool) (used metered : R → ℕ) (book : List R) (r : Six) : Type 0 where
  pub place : ℕ
  pub in_book : place ≤ length book
  -- those that pass from the place on, and no others
  pub found : r ≡ sum_up used metered (filter test (drop place book))
  pub no_more : r.count ≤ 6
  -- fewer than six only where that is the whole book
  pub all : r.count < 6 → place ≡ 0

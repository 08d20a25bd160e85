-- The tests by which records are looked up.
--   pick w m n                 m for the customer's own records, n for anyone's
--   asked w c q                whether records of the customer c are looked at for the customer q
--   OfWhose w c q              the same as a statement
--   in_season s d              whether the day d is in the season s; never off the calendar
--   available u k              whether an estimate may be made from k kWh in u usage days
-- and of a record, by what it tells of its customer, its end day, its usage days and its kWh:
--   a_year_back .. w c d x     whether it is looked at for the customer c, and lies in the month of d, a year earlier
--   in_the_season .. w c s x   whether it is looked at for the customer c, lies in the season s, and is available
use Rattle.std.specs.Prelude.{◌≡◌, ℕ, Bool, true, false, ◌&&◌, Some, None, Option, ◌==◌, nat_le, nat_lt}
use Rattle.calendar.specs.declared.Season.{Season}
use Rattle.calendar.specs.declared.Season.TheVariants.{Summer, Winter}
use Rattle.calendar.specs.Calendar.{season_of, year_before}
use Rattle.lookup.specs.declared.fit.Whose.{Whose}
use Rattle.lookup.specs.declared.fit.Whose.TheVariants.{Customer, Anyone}

abbrev pub pick : Whose → ℕ → ℕ → ℕ
pick Customer m n = m
pick Anyone m n = n

abbrev pub asked : Whose → ℕ → ℕ → Bool
asked Customer c q = c == q
asked Anyone c q = true

abbrev pub OfWhose : Whose → ℕ → ℕ → Type 0
OfWhose Customer c q = c ≡ q
OfWhose Anyone c q = Unit {0}

abbrev pub same_season : Season → Option Season → Bool
same_season Summer (Some Summer) = true
same_season Summer (Some Winter) = false
same_season Winter (Some Summer) = false
same_season Winter (Some Winter) = true
same_season s None = false

abbrev pub in_season : Season → ℕ → Bool
in_season s d = same_season s (season_of d)

abbrev pub available : ℕ → ℕ → Bool
available u k = nat_le 1 u && (nat_le u 109 && nat_lt k 100000000)

abbrev pub a_year_back : {R : Type 0} → (R → ℕ) → (R → ℕ) → Whose → ℕ → ℕ → R → Bool
a_year_back billed ends w c d x = asked w (billed x) c && year_before (ends x) d

abbrev pub in_the_season : {R : Type 0} → (R → ℕ) → (R → ℕ) → (R → ℕ) → (R → ℕ) → Whose → ℕ → Season → R → Bool
in_the_season billed ends used metered w c s x = asked w (billed x) c && (in_season s (ends x) && available (used x) (metered x))

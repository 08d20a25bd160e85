-- The calendar of 2000 to 2099. Days are counted from 1 January 2000, and months from January 2000, both from 0.
--   last_day                31 December 2099
--   month_length m          how many days month m has
--   first_day_of m          the first day of month m
--   month_of d              the month of the day d; none off the calendar
--   LiesIn d m              the day d lies in month m and in no other
--   Placed d r              r is the month that the day d lies in, or none off the calendar
--   season_of d             the season of the day d; none off the calendar
--   InSummer y d            the day d lies in the summer of year y, 2000 being 0
--   Seasonal d r            r is summer in the summer of some year, else winter, or none off the calendar
--   year_before d e         whether the day d lies in the same month of the year as the day e, one year earlier
--   SameMonthNextYear d e   the same as a statement about the two months
--   weekend d               whether the day d is a Saturday or a Sunday
use Rattle.std.specs.Prelude.{◌≡◌, ℕ, zero, suc, ◌+◌, ◌-◌, ◌*◌, ◌/◌, ◌%◌, ◌<◌, ◌≤◌, Bool, false, cond, ◌&&◌, ◌||◌, List, [], ◌∷◌, Some, None, Option, ◌==◌, nat_le, nat_lt}
use Rattle.calendar.specs.declared.Season.{Season}
use Rattle.calendar.specs.declared.Season.TheVariants.{Summer, Winter}

abbrev pub last_day : ℕ
last_day = 36524

-- the length of month k of a year, January being 0
abbrev pub length_in : ℕ → Bool → ℕ
length_in k leap = cond (k == 1) (cond leap 29 28) (cond (k == 3 || (k == 5 || (k == 8 || k == 10))) 30 31)

-- every fourth year from 2000 on has a 29 February
abbrev pub month_length : ℕ → ℕ
month_length m = length_in (m % 12) (m / 12 % 4 == 0)

-- the lengths of n months, from month m on
abbrev pub lengths_from : ℕ → ℕ → List ℕ
lengths_from zero m = []
lengths_from (suc n) m = month_length m ∷ lengths_from n (m + 1)

unfoldable pub first_day_of : ℕ → ℕ
first_day_of zero = 0
first_day_of (suc m) = first_day_of m + month_length m

-- of the n months from month m on, the one that has the day d days after the start of month m
unfoldable pub month_from : ℕ → ℕ → ℕ → Option ℕ
month_from zero m d = None
month_from (suc n) m d = cond (nat_lt d (month_length m)) (Some m) (month_from n (m + 1) (d - month_length m))

unfoldable pub month_of : ℕ → Option ℕ
month_of d = month_from 1200 0 d

pub record LiesIn (d m : ℕ) : Type 0 where
  pub on_calendar : d ≤ last_day
  pub counted : m < 1200
  pub begun : first_day_of m ≤ d
  pub not_over : d < first_day_of (m + 1)
  pub only : (k : ℕ) → first_day_of k ≤ d → d < first_day_of (k + 1) → k ≡ m

-- a month found is the one that the day lies in, and none is found only after the last day
abbrev pub Placed : ℕ → Option ℕ → Type 0
Placed d (Some m) = LiesIn d m
Placed d None = last_day < d

-- summer is May through October, January being month 0 of a year
abbrev pub season_in : ℕ → Season
season_in m = cond (nat_le 4 (m % 12) && nat_le (m % 12) 9) Summer Winter

abbrev pub season_at : Option ℕ → Option Season
season_at (Some m) = Some (season_in m)
season_at None = None

abbrev pub season_of : ℕ → Option Season
season_of d = season_at (month_of d)

-- from 1 May on, and before 1 November
abbrev pub InSummer : ℕ → ℕ → Type 0
InSummer y d = (first_day_of (y * 12 + 4) ≤ d) × (d < first_day_of (y * 12 + 10))

-- a summer day lies in the summer of some year, a winter day in that of none
abbrev pub Seasonal : ℕ → Option Season → Type 0
Seasonal d (Some Summer) = (d ≤ last_day) × ((y : ℕ) × InSummer y d)
Seasonal d (Some Winter) = (d ≤ last_day) × ((y : ℕ) → InSummer y d → ⊥)
Seasonal d None = last_day < d

-- month n of the calendar comes one year after month m
abbrev pub year_apart : Option ℕ → Option ℕ → Bool
year_apart (Some m) (Some n) = m + 12 == n
year_apart (Some m) None = false
year_apart None n = false

abbrev pub year_before : ℕ → ℕ → Bool
year_before d e = year_apart (month_of d) (month_of e)

-- some month has the day d, and the month that comes twelve months later has the day e
abbrev pub SameMonthNextYear : ℕ → ℕ → Type 0
SameMonthNextYear d e = (m : ℕ) × ((month_of d ≡ Some m) × (month_of e ≡ Some (m + 12)))

-- day 0 was a Saturday
abbrev pub weekend : ℕ → Bool
weekend d = nat_le d last_day && (d % 7 == 0 || d % 7 == 1)

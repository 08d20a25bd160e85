-- The figures at the edges of the rules, as one table.
--   shares_of total xs   the shares of a total over records known by their weight and share alone
--   first_miss days      what the first miss of a premise on E-12 answers, so many days after its opening
--   Figures              the table
use Rattle.std.specs.Prelude.{◌≡◌, ℕ, ◌+◌, true, false, List, [], ◌∷◌, Some, Ok, Err, Result}
use Rattle.calendar.specs.declared.Season.TheVariants.{Summer, Winter}
use Rattle.calendar.specs.Calendar.{month_of, first_day_of, season_of}
use Rattle.measures.specs.declared.rate.Rate.TheVariants.{E12, Ect1R}
use Rattle.measures.specs.Dial.{advance_of}
use Rattle.sharing.specs.Sharing.{shared}
use Rattle.estimating.specs.Estimates.{estimate}
use Rattle.judging.specs.declared.ByHalf.{ByHalf}
use Rattle.judging.specs.Judgements.{half_higher}
use Rattle.premise.specs.declared.file.PremiseFile.{PremiseFile}
use Rattle.premise.specs.Files.{misses}
use Rattle.demand.specs.Demand.{demand_of}
use Rattle.ladder.specs.Ladder.{Standard, standard_table}
use Rattle.clerk.specs.Jobs.{blank_book, opened_by}

-- the shares of a total over records that are known by their weight and share alone
abbrev pub shares_of : ℕ → List (ℕ × ℕ) → List (ℕ × ℕ)
shares_of total xs = shared (λ _. true) (λ x. x.0) (λ x s. (x.0, s)) total xs

abbrev pub miss_on : Result (PremiseFile Standard ByHalf) ℕ → ℕ → Result (ℕ × ℕ × ℕ) ℕ
miss_on (Ok f) day = (misses standard_table f blank_book day).0
miss_on (Err number) day = Err number

abbrev pub first_miss : ℕ → Result (ℕ × ℕ × ℕ) ℕ
first_miss days = miss_on (opened_by (record { rate = E12; digits = 5; day = 100; register = 99500; customer = 7 })) (100 + days)

pub record Figures : Type 0 where
  -- 99,500 to 800 on five digits is 1,300
  pub past_all_nines : advance_of 5 99500 800 ≡ Ok 1300
  -- 350 kWh in 30 days give 361 for 31
  pub one_day_more : estimate (record { rung = 1; kwh = 350; days = 30 }) 31 ≡ 361
  -- 100 over 30, 30 and 31 is 32, 33 and 35
  pub three_months : shares_of 100 ((30, 0) ∷ (30, 0) ∷ (31, 0) ∷ []) ≡ (30, 32) ∷ (30, 33) ∷ (31, 35) ∷ []
  -- day 59 is 29 February 2000: it lies in month 1, 28 days after its first
  pub leap_day : month_of 59 ≡ Some 1
  pub leap_day_of_month : first_day_of 1 + 28 ≡ 59
  -- day 120 is winter, and 121 summer
  pub last_of_winter : season_of 120 ≡ Some Winter
  pub first_of_summer : season_of 121 ≡ Some Summer
  -- a first miss of 10 days is put off, and one of 11 gives 275
  pub put_off : first_miss 10 ≡ Ok (4, 0, 0)
  pub estimated : first_miss 11 ≡ Ok (3, 7, 275)
  -- against an open sum of 100, over 60 usage days, 150 is not considerably higher by half, and 151 is
  pub not_higher : half_higher 150 100 60 ≡ false
  pub higher : half_higher 151 100 60 ≡ true
  -- 600 kWh in 30 days on ECT-1R are 19 tenths of a kW
  pub by_load_factor : demand_of [] (record { customer = 7; end_day = 100; kwh = 600; usage_days = 30; rate = Ect1R; initial = false }) ≡ Ok (record { number = 6; tenths = 19 })

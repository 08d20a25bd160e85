-- The answers about demand. Each has its table, which gives one answer or none for each book and question, and above it what
-- the answer means.
--   number_for n w              the number of an answer that is n for the customer's own entries, and two more for anyone's
--   answer_of n e               the answer n from the reading e
--   answer_at n w q book p      the answer n from the reading at the place p, if it serves
--   Serves w q book i e         the reading e at place i is looked at for the customer, is not initial and does not count as
--                               estimated
--   short_initial q             answer 0, for an initial period of under 11 usage days
--   last_reading w book q       the answer from the book's very last entry
--   reading_year_back w book q  the answer from the latest entry of the same month, one year earlier
--   by_load_factor q            the answer from the kWh, by the load factor of the rate
--   On.. r                      r is that answer where its conditions are met, and none where they are not
use Rattle.std.specs.Prelude.{◌≡◌, ℕ, ◌+◌, ◌*◌, ◌/◌, ◌<◌, ◌≤◌, Bool, true, false, cond, not, ◌&&◌, List, Some, None, Option, ◌==◌, nat_lt}
use Rattle.calendar.specs.Calendar.{SameMonthNextYear}
use Rattle.measures.specs.Rate.{load_factor}
use Rattle.lookup.specs.declared.fit.Whose.{Whose}
use Rattle.lookup.specs.Tests.{pick, asked, OfWhose, a_year_back}
use Rattle.lookup.specs.Places.{record_at, record_before}
use Rattle.lookup.specs.Latest.{latest_place, LatestAt, newest_place, NewestAt}
use Rattle.demand.specs.declared.entry.DemandEntry.{DemandEntry}
use Rattle.demand.specs.declared.question.DemandQuestion.{DemandQuestion}
use Rattle.demand.specs.declared.question.DemandAnswer.{DemandAnswer}
use Rattle.demand.specs.Readings.{counts_as_estimated}

abbrev pub number_for : ℕ → Whose → ℕ
number_for n w = pick w n (n + 2)

abbrev pub answer_of : ℕ → DemandEntry → DemandAnswer
answer_of n e = record { number = n; tenths = e.tenths }

-- whether a reading serves, where b is the entry directly before it
abbrev pub serves : Whose → DemandQuestion → Option DemandEntry → DemandEntry → Bool
serves w q b e = asked w e.customer q.customer && (not e.initial && not (counts_as_estimated b e))

abbrev pub answer_if : ℕ → (DemandEntry → Bool) → Option DemandEntry → Option DemandAnswer
answer_if n test (Some e) = cond (test e) (Some (answer_of n e)) None
answer_if n test None = None

abbrev pub answer_at : ℕ → Whose → DemandQuestion → List DemandEntry → Option ℕ → Option DemandAnswer
answer_at n w q book (Some i) = answer_if n (serves w q (record_before book i)) (record_at book i)
answer_at n w q book None = None

pub record Serves (w : Whose) (q : DemandQuestion) (book : List DemandEntry) (i : ℕ) (e : DemandEntry) : Type 0 where
  pub stands : record_at book i ≡ Some e
  pub of_whose : OfWhose w e.customer q.customer
  pub not_initial : e.initial ≡ false
  pub not_estimated : counts_as_estimated (record_before book i) e ≡ false

abbrev pub short_initial : DemandQuestion → Option DemandAnswer
short_initial q = cond (q.initial && nat_lt q.usage_days 11) (Some (record { number = 0; tenths = 0 })) None

abbrev pub OnShortInitial : DemandQuestion → Option DemandAnswer → Type 0
OnShortInitial q (Some a) = (q.initial ≡ true) × (q.usage_days < 11) × (a ≡ record { number = 0; tenths = 0 })
OnShortInitial q None = q.initial ≡ true → q.usage_days < 11 → ⊥

abbrev pub last_reading : Whose → List DemandEntry → DemandQuestion → Option DemandAnswer
last_reading w book q = answer_at (number_for 1 w) w q book (newest_place book)

-- the very last entry serves
pub record ByLastReading (w : Whose) (book : List DemandEntry) (q : DemandQuestion) (e : DemandEntry) : Type 0 where
  pub place : ℕ
  pub is_last : NewestAt book place e
  pub is_served : Serves w q book place e

abbrev pub OnLastReading : Whose → List DemandEntry → DemandQuestion → Option DemandAnswer → Type 0
OnLastReading w book q (Some a) = (e : DemandEntry) × ByLastReading w book q e × (a ≡ answer_of (number_for 1 w) e)
OnLastReading w book q None = (e : DemandEntry) → ByLastReading w book q e → ⊥

-- whether an entry lies in the same month of the year as the question's end day, one year earlier
abbrev pub entry_year_back : Whose → DemandQuestion → DemandEntry → Bool
entry_year_back w q e = a_year_back (λ e. e.customer) (λ e. e.end_day) w q.customer q.end_day e

abbrev pub reading_year_back : Whose → List DemandEntry → DemandQuestion → Option DemandAnswer
reading_year_back w book q = answer_at (number_for 2 w) w q book (latest_place (entry_year_back w q) book)

-- the latest entry that is looked at in that month serves
pub record ByYearBack (w : Whose) (book : List DemandEntry) (q : DemandQuestion) (e : DemandEntry) : Type 0 where
  pub place : ℕ
  pub same_month : SameMonthNextYear e.end_day q.end_day
  pub is_latest : LatestAt (entry_year_back w q) book place e
  pub is_served : Serves w q book place e

abbrev pub OnYearBack : Whose → List DemandEntry → DemandQuestion → Option DemandAnswer → Type 0
OnYearBack w book q (Some a) = (e : DemandEntry) × ByYearBack w book q e × (a ≡ answer_of (number_for 2 w) e)
OnYearBack w book q None = (e : DemandEntry) → ByYearBack w book q e → ⊥

-- kWh × 1,000 over the hours of the usage days and a load factor of f percent, rounded down
abbrev pub answer_by_factor : Option ℕ → DemandQuestion → Option DemandAnswer
answer_by_factor (Some f) q =
    cond (q.usage_days == 0) None (Some (record { number = 6; tenths = q.kwh * 1000 / (24 * q.usage_days * f) }))
answer_by_factor None q = None

abbrev pub by_load_factor : DemandQuestion → Option DemandAnswer
by_load_factor q = answer_by_factor (load_factor q.rate) q

-- a demand of so many tenths of a kW, used to f percent all hours of the usage days, comes to no more than the kWh, and with
-- one tenth more it would
pub record ByLoadFactor (q : DemandQuestion) (f : ℕ) (t : ℕ) : Type 0 where
  pub factor : load_factor q.rate ≡ Some f
  pub some_days : 1 ≤ q.usage_days
  pub not_above : t * (24 * q.usage_days * f) ≤ q.kwh * 1000
  pub not_less : q.kwh * 1000 < (t + 1) * (24 * q.usage_days * f)

abbrev pub OnLoadFactor : DemandQuestion → Option DemandAnswer → Type 0
OnLoadFactor q (Some a) = (f : ℕ) × ByLoadFactor q f a.tenths × (a.number ≡ 6)
OnLoadFactor q None = (f : ℕ) → load_factor q.rate ≡ Some f → 1 ≤ q.usage_days → ⊥

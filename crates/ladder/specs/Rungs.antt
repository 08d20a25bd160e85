-- The rungs of the ladder. Each has its table, which gives one answer or none for each book and question, and above it
-- what the answer means.
--   rung_for n w              the number of a rung that is n for the customer's own entries, and three more for anyone's
--   IsAvailable e             an estimate may be made from the entry e
--   basis_of n e              the basis that the entry e gives on rung n
--   last_entry w book q       the answer from the book's very last entry
--   from_year_back w book q   the answer from the latest entry of the same month, one year earlier
--   seasonal w book q         the answer from the six latest entries of the season
--   class_figure q            the answer from the figure that the rate has for its class of premises
--   By.. w book q e           the entry e, or the entries, serve on that rung
--   On.. w book q r           r is the basis of what serves, or none where nothing does
use Rattle.std.specs.Prelude.{◌≡◌, ℕ, ◌+◌, ◌<◌, ◌≤◌, Bool, false, cond, not, ◌&&◌, List, length, drop, Some, None, filter, Option, ◌==◌, nat_le}
use Rattle.calendar.specs.declared.Season.{Season}
use Rattle.calendar.specs.Calendar.{season_of, SameMonthNextYear}
use Rattle.measures.specs.declared.entry.Entry.{Entry}
use Rattle.measures.specs.Entry.{total_kwh, total_usage_days}
use Rattle.measures.specs.Rate.{class_kwh}
use Rattle.estimating.specs.declared.basis.Question.{Question}
use Rattle.estimating.specs.declared.basis.Basis.{Basis}
use Rattle.lookup.specs.declared.fit.Whose.{Whose}
use Rattle.lookup.specs.declared.six.Six.{Six}
use Rattle.lookup.specs.Tests.{pick, asked, OfWhose, available, a_year_back, in_the_season}
use Rattle.lookup.specs.Latest.{latest, Latest, newest, Newest}
use Rattle.lookup.specs.Six.{six_latest}

abbrev pub rung_for : ℕ → Whose → ℕ
rung_for n w = pick w n (n + 3)

pub record IsAvailable (e : Entry) : Type 0 where
  pub some_days : 1 ≤ e.usage_days
  pub not_many_days : e.usage_days ≤ 109
  pub not_much : e.kwh < 100000000

abbrev pub entry_available : Entry → Bool
entry_available e = available e.usage_days e.kwh

abbrev pub basis_of : ℕ → Entry → Basis
basis_of n e = record { rung = n; kwh = e.kwh; days = e.usage_days }

-- the basis that an entry gives, if it passes a test
abbrev pub basis_if : (Entry → Bool) → ℕ → Option Entry → Option Basis
basis_if test n (Some e) = cond (test e) (Some (basis_of n e)) None
basis_if test n None = None

-- whether the very last entry serves
abbrev pub entry_serves : Whose → Question → Entry → Bool
entry_serves w q e = asked w e.customer q.customer && (entry_available e && not e.initial)

abbrev pub last_entry : Whose → List Entry → Question → Option Basis
last_entry w book q = basis_if (entry_serves w q) (rung_for 1 w) (newest book)

-- the very last entry is looked at for the customer, is available and not initial
pub record ByLastEntry (w : Whose) (book : List Entry) (q : Question) (e : Entry) : Type 0 where
  pub is_last : Newest book e
  pub of_whose : OfWhose w e.customer q.customer
  pub is_available : IsAvailable e
  pub not_initial : e.initial ≡ false

abbrev pub OnLastEntry : Whose → List Entry → Question → Option Basis → Type 0
OnLastEntry w book q (Some b) = (e : Entry) × ByLastEntry w book q e × (b ≡ basis_of (rung_for 1 w) e)
OnLastEntry w book q None = (e : Entry) → ByLastEntry w book q e → ⊥

-- whether an entry lies in the same month of the year as the question's end day, one year earlier
abbrev pub entry_year_back : Whose → Question → Entry → Bool
entry_year_back w q e = a_year_back (λ e. e.customer) (λ e. e.end_day) w q.customer q.end_day e

abbrev pub from_year_back : Whose → List Entry → Question → Option Basis
from_year_back w book q = basis_if entry_available (rung_for 2 w) (latest (entry_year_back w q) book)

-- the latest entry that is looked at in that month is available
pub record ByYearBack (w : Whose) (book : List Entry) (q : Question) (e : Entry) : Type 0 where
  pub of_whose : OfWhose w e.customer q.customer
  pub same_month : SameMonthNextYear e.end_day q.end_day
  pub is_latest : Latest (entry_year_back w q) book e
  pub is_available : IsAvailable e

abbrev pub OnYearBack : Whose → List Entry → Question → Option Basis → Type 0
OnYearBack w book q (Some b) = (e : Entry) × ByYearBack w book q e × (b ≡ basis_of (rung_for 2 w) e)
OnYearBack w book q None = (e : Entry) → ByYearBack w book q e → ⊥

-- whether an entry is available, and of a season
abbrev pub entry_in_season : Whose → Question → Season → Entry → Bool
entry_in_season w q s e = in_the_season (λ e. e.customer) (λ e. e.end_day) (λ e. e.usage_days) (λ e. e.kwh) w q.customer s e

-- six entries of 165 to 195 usage days together
abbrev pub basis_of_six : ℕ → Six → Option Basis
basis_of_six n six =
    cond (six.count == 6 && (nat_le 165 six.usage_days && nat_le six.usage_days 195))
    (Some (record { rung = n; kwh = six.kwh; days = six.usage_days })) None

abbrev pub in_season_of : Option Season → Whose → List Entry → Question → Option Basis
in_season_of (Some s) w book q = basis_of_six (rung_for 3 w) (six_latest (entry_in_season w q s) (λ e. e.usage_days) (λ e. e.kwh) book)
in_season_of None w book q = None

abbrev pub seasonal : Whose → List Entry → Question → Option Basis
seasonal w book q = in_season_of (season_of q.end_day) w book q

-- the entries es are the six that are available in the question's season from some place of the book on
pub record BySeason (w : Whose) (book : List Entry) (q : Question) (es : List Entry) : Type 0 where
  pub season : Season
  pub of_the_question : season_of q.end_day ≡ Some season
  pub place : ℕ
  pub are : es ≡ filter (entry_in_season w q season) (drop place book)
  pub six : length es ≡ 6
  pub not_few_days : 165 ≤ total_usage_days es
  pub not_many_days : total_usage_days es ≤ 195

abbrev pub OnSeasonal : Whose → List Entry → Question → Option Basis → Type 0
OnSeasonal w book q (Some b) =
    (es : List Entry) × BySeason w book q es × (b ≡ record { rung = rung_for 3 w; kwh = total_kwh es; days = total_usage_days es })
OnSeasonal w book q None = (es : List Entry) → BySeason w book q es → ⊥

-- so many kWh in one day
abbrev pub basis_a_day : Option ℕ → Option Basis
basis_a_day (Some k) = Some (record { rung = 7; kwh = k; days = 1 })
basis_a_day None = None

abbrev pub class_figure : Question → Option Basis
class_figure q = basis_a_day (class_kwh q.rate)

-- The demand of a period as C asks for it.
--   entry_of x             an entry of a demand book from its numbers
--   question_of p r        what is asked about a period on the rate r
--   demanded es p bs       the answer for the period p on the rate that the bytes bs name
--   too_long c             the refusal of a book of over 240 entries, for the customer c
--   number_in, tenths_in   the number of an answer, and its tenths where there is one
use Rattle.std.specs.Prelude.{ℕ, cond, not, List, Some, None, Ok, Err, Option, Result, ◌==◌}
use Rattle.measures.specs.Refusals.{no_customer, bad_field, long_demand_book}
use Rattle.measures.specs.declared.rate.Rate.{Rate}
use Rattle.fields.specs.Rates.{rate_of}
use Rattle.demand.specs.declared.entry.DemandEntry.{DemandEntry}
use Rattle.demand.specs.declared.question.DemandQuestion.{DemandQuestion}
use Rattle.demand.specs.declared.question.DemandAnswer.{DemandAnswer}
use Rattle.demand.specs.Readings.{mark_of}
use Rattle.demand.specs.Demand.{demand_of}
use Rattle.exports.specs.declared.demands.Reading.{Reading}
use Rattle.exports.specs.declared.demands.Period.{Period}

abbrev pub entry_of : Reading → DemandEntry
entry_of x =
    record { customer = x.customer; end_day = x.end_day; tenths = x.tenths; mark = mark_of x.mark; initial = not (x.initial == 0) }

abbrev pub question_of : Period → Rate → DemandQuestion
question_of p r =
    record { customer = p.customer; end_day = p.end_day; kwh = p.kwh; usage_days = p.usage_days; rate = r; initial = not (p.initial == 0) }

abbrev pub asked_on : Option Rate → List DemandEntry → Period → Result DemandAnswer ℕ
asked_on (Some r) es p = demand_of es (question_of p r)
asked_on None es p = Err bad_field

abbrev pub demanded : List DemandEntry → Period → List ℕ → Result DemandAnswer ℕ
demanded es p bs = asked_on (rate_of bs) es p

abbrev pub number_in : Result DemandAnswer ℕ → Result ℕ ℕ
number_in (Ok a) = Ok a.number
number_in (Err e) = Err e

abbrev pub tenths_in : Result DemandAnswer ℕ → ℕ → ℕ
tenths_in (Ok a) t = a.tenths
tenths_in (Err e) t = t

abbrev pub too_long : ℕ → ℕ
too_long customer = cond (customer == 0) no_customer long_demand_book

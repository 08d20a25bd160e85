-- The questions about demand.
--   good_figures q     whether the question's figures are within their bounds
--   WellAsked book q   nothing is wrong with the question and the book
use Rattle.std.specs.Prelude.{◌<◌, ◌≤◌, Bool, ◌&&◌, List, length, nat_le, nat_lt}
use Rattle.demand.specs.declared.entry.DemandEntry.{DemandEntry}
use Rattle.demand.specs.declared.question.DemandQuestion.{DemandQuestion}

abbrev pub good_figures : DemandQuestion → Bool
good_figures q = nat_lt q.kwh 100000000 && (nat_le q.end_day 36524 && (nat_le 1 q.usage_days && nat_le q.usage_days 109))

pub record WellAsked (book : List DemandEntry) (q : DemandQuestion) : Type 0 where
  pub some_customer : 1 ≤ q.customer
  pub not_long : length book ≤ 240
  pub not_much : q.kwh < 100000000
  pub on_calendar : q.end_day ≤ 36524
  pub some_days : 1 ≤ q.usage_days
  pub not_many_days : q.usage_days ≤ 109

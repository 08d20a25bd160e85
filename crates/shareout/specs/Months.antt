-- Months without a read, over which a dial's advance is shared out.
--   kwh_of ms            the kWh of all months
--   settled n p r ms     the advance of a dial of n digits from register p to r, or by which number it is refused
--   settled_months r ms  the months once it is shared out, as they were where it is refused
use Rattle.std.specs.Prelude.{ℕ, Bool, true, List, map, sum, Ok, Err, Result}
use Rattle.measures.specs.Dial.{advance_of}
use Rattle.sharing.specs.Sharing.{shared, verdict}
use Rattle.shareout.specs.declared.months.Month.{Month}

-- every month takes part, by its usage days
abbrev pub month_part : Month → Bool
month_part m = true

abbrev pub month_weight : Month → ℕ
month_weight m = m.usage_days

abbrev pub month_given : Month → ℕ → Month
month_given m s = record { usage_days = m.usage_days; kwh = s }

abbrev pub month_kwh : Month → ℕ
month_kwh m = m.kwh

abbrev pub kwh_of : List Month → ℕ
kwh_of ms = sum (map month_kwh ms)

abbrev pub told : ℕ → Result (Unit {0}) ℕ → Result ℕ ℕ
told a (Ok _) = Ok a
told a (Err e) = Err e

abbrev pub shared_advance : Result ℕ ℕ → List Month → Result ℕ ℕ
shared_advance (Ok a) ms = told a (verdict month_part month_weight a ms)
shared_advance (Err e) ms = Err e

abbrev pub settled : ℕ → ℕ → ℕ → List Month → Result ℕ ℕ
settled n p r ms = shared_advance (advance_of n p r) ms

abbrev pub settled_months : Result ℕ ℕ → List Month → List Month
settled_months (Ok a) ms = shared month_part month_weight month_given a ms
settled_months (Err e) ms = ms

-- The entries of a book: one billing period of a premise each.
--   kind_number k         the number that stands for the kind k
--   total_kwh es          the kWh of the entries es together
--   total_usage_days es   the usage days of the entries es together
use Rattle.std.specs.Prelude.{ℕ, ◌+◌, List, [], ◌∷◌}
use Rattle.measures.specs.declared.entry.Kind.{Kind}
use Rattle.measures.specs.declared.entry.Kind.TheVariants.{Actual, TrueUp, Estimated, PutOff, Corrected}
use Rattle.measures.specs.declared.entry.Entry.{Entry}

abbrev pub kind_number : Kind → ℕ
kind_number Actual = 1
kind_number TrueUp = 2
kind_number Estimated = 3
kind_number PutOff = 4
kind_number Corrected = 5

abbrev pub total_kwh : List Entry → ℕ
total_kwh [] = 0
total_kwh (e ∷ es) = e.kwh + total_kwh es

abbrev pub total_usage_days : List Entry → ℕ
total_usage_days [] = 0
total_usage_days (e ∷ es) = e.usage_days + total_usage_days es

-- The entries of a book as records that an advance is shared out over.
--   is_put_off k   an entry of this kind waits for the next one to take over its days
--   entry_part, entry_weight, entry_given, entry_kwh   what an entry tells and takes
use Rattle.std.specs.Prelude.{ℕ, Bool, true, false, cond, not}
use Rattle.measures.specs.declared.entry.Entry.{Entry}
use Rattle.measures.specs.declared.entry.Kind.{Kind}
use Rattle.measures.specs.declared.entry.Kind.TheVariants.{Actual, TrueUp, Estimated, PutOff, Corrected}

abbrev pub is_put_off : Kind → Bool
is_put_off Actual = false
is_put_off TrueUp = false
is_put_off Estimated = false
is_put_off PutOff = true
is_put_off Corrected = false

-- put-off entries take no part; the others weigh their usage days, and one that takes a share is corrected
abbrev pub entry_part : Entry → Bool
entry_part e = not (is_put_off e.kind)

abbrev pub entry_weight : Entry → ℕ
entry_weight e = e.usage_days

abbrev pub entry_given : Entry → ℕ → Entry
entry_given e s =
    record { customer = e.customer; end_day = e.end_day; days = e.days; usage_days = e.usage_days; kind = cond (is_put_off e.kind) PutOff Corrected; rung = 0; initial = e.initial; kwh = s }

abbrev pub entry_kwh : Entry → ℕ
entry_kwh e = e.kwh

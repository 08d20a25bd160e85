-- The entries of a book.
--   sound t es         each entry is one that a call could have written on a dial that turns at t
--   any_estimated es   one of the entries is estimated
--   corrections es     how many of the entries take part when an advance is shared out
--   waiting_days n b   the days of a put-off entry at the end of the first n entries, 0 where there is none
use Rattle.std.specs.Prelude.{ℕ, ◌+◌, ◌-◌, Bool, true, false, cond, ◌&&◌, List, [], ◌∷◌, nat_le, nat_lt, slice_index_or}
use Rattle.sharing.specs.Entries.{is_put_off, entry_part}
use Rattle.std.specs.List.{list_all, list_any}
use Rattle.measures.specs.declared.entry.Entry.{Entry}
use Rattle.measures.specs.declared.entry.Kind.{Kind}
use Rattle.measures.specs.declared.entry.Kind.TheVariants.{Actual, TrueUp, Estimated, PutOff, Corrected}

abbrev pub is_estimated : Kind → Bool
is_estimated Actual = false
is_estimated TrueUp = false
is_estimated Estimated = true
is_estimated PutOff = false
is_estimated Corrected = false

-- at most 109 days and usage days, and kWh below the turn
abbrev pub sound_entry : ℕ → Entry → Bool
sound_entry t e = nat_le e.days 109 && (nat_le e.usage_days 109 && nat_lt e.kwh t)

abbrev pub sound : ℕ → List Entry → Bool
sound t es = list_all (sound_entry t) es

abbrev pub any_estimated : List Entry → Bool
any_estimated es = list_any (λ e. is_estimated e.kind) es

abbrev pub corrections : List Entry → ℕ
corrections [] = 0
corrections (e ∷ es) = cond (entry_part e) 1 0 + corrections es

-- what stands where a list has no entry
abbrev pub no_entry : Entry
no_entry =
    record { customer = 0; end_day = 0; days = 0; usage_days = 0; kind = Actual; rung = 0; initial = false; kwh = 0 }

abbrev pub waiting_days : ℕ → List Entry → ℕ
waiting_days n b =
    cond (nat_lt 0 n && is_put_off (slice_index_or b (n - 1) no_entry).kind) (slice_index_or b (n - 1) no_entry).days 0

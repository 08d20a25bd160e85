-- Cases counted.
--   counted t ok   the tally t and one case more, which is as expected or not
--   sum_of t u     the cases of both tallies
--   is_good t      whether there are cases, and none differs
use Rattle.std.specs.Prelude.{ℕ, ◌+◌, ◌-◌, ◌^◌, Bool, ◌&&◌, ◌==◌, nat_lt, min, if◌then◌else◌}
use Rattle.tallies.specs.declared.tally.Tally.{Tally}

-- a count stops at the largest number of 32 bits
abbrev pub up_to_32_bits : ℕ → ℕ
up_to_32_bits n = min n (2 ^ 32 - 1)

abbrev pub counted : Tally → Bool → Tally
counted t ok = record { compared = up_to_32_bits (t.compared + 1); differing = (if ok then t.differing else up_to_32_bits (t.differing + 1)) }

abbrev pub sum_of : Tally → Tally → Tally
sum_of t u = record { compared = up_to_32_bits (t.compared + u.compared); differing = up_to_32_bits (t.differing + u.differing) }

abbrev pub is_good : Tally → Bool
is_good t = nat_lt 0 t.compared && (t.differing == 0)

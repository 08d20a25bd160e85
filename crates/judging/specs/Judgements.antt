-- Whether an advance a is considerably higher than the open sum u, over w usage days.
--   judged a u w          the three are within the bounds of a judgement: 8, 11 and 5 digits
--   half_higher a u w     higher by more than half
--   day_higher l a u w    higher by more than l kWh for each usage day
--   by_day_of l           the judgement with the limit l, or its refusal
use Rattle.std.specs.Prelude.{ℕ, ◌+◌, ◌*◌, Bool, cond, ◌&&◌, Ok, Err, Result, nat_le, nat_lt}
use Rattle.measures.specs.Refusals.{out_of_bounds}
use Rattle.judging.specs.declared.ByDay.{ByDay}

abbrev pub judged : ℕ → ℕ → ℕ → Bool
judged a u w = nat_lt a 100000000 && (nat_lt u 100000000000 && nat_lt w 100000)

abbrev pub half_higher : ℕ → ℕ → ℕ → Bool
half_higher a u w = judged a u w && nat_lt (3 * u) (2 * a)

abbrev pub day_higher : ℕ → ℕ → ℕ → ℕ → Bool
day_higher l a u w = judged a u w && nat_lt (u + l * w) a

abbrev pub by_day_of : ℕ → Result ByDay ℕ
by_day_of l = cond (nat_le 1 l && nat_le l 10000) (Ok (record { limit = l })) (Err out_of_bounds)

-- The estimate from a basis, for C.
--   estimated e d u   the estimate for u usage days from e kWh in d days, or the refusal of a basis beyond its bounds
use Rattle.std.specs.Prelude.{ℕ, cond, ◌&&◌, Ok, Err, Result, nat_le}
use Rattle.measures.specs.Refusals.{out_of_bounds}
use Rattle.estimating.specs.Estimates.{estimate}

abbrev pub estimated : ℕ → ℕ → ℕ → Result ℕ ℕ
estimated e d u =
    cond (nat_le e 1000000000 && (nat_le 1 d && nat_le d 999)) (Ok (estimate (record { rung = 90; kwh = e; days = d }) u)) (Err out_of_bounds)

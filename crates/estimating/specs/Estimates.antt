-- Estimates, and the basis that they are made from.
--   estimate b u     the kWh that the basis b gives for u usage days, rounded down
--   Lawful b         the bounds within which every energy method answers
--   Estimated b u r  r is the exact part of the basis, rounded down
use Rattle.std.specs.Prelude.{◌≡◌, ℕ, ◌+◌, ◌*◌, ◌/◌, ◌<◌, ◌≤◌, cond, Some, None, Option, ◌==◌}
use Rattle.estimating.specs.declared.basis.Basis.{Basis}

abbrev pub estimate : Basis → ℕ → ℕ
estimate b u = b.kwh * u / b.days

-- a basis of no days gives no estimate
abbrev pub estimate_or_none : Basis → ℕ → Option ℕ
estimate_or_none b u = cond (b.days == 0) None (Some (estimate b u))

-- n kWh for u usage days come no higher than the basis, a day for a day, and one more would
abbrev pub Estimated : Basis → ℕ → Option ℕ → Type 0
Estimated b u (Some n) = (n * b.days ≤ b.kwh * u) × (b.kwh * u < (n + 1) * b.days)
Estimated b u None = b.days ≡ 0

pub record Lawful (b : Basis) : Type 0 where
  pub rung_low : 1 ≤ b.rung
  pub rung_high : b.rung ≤ 99
  pub kwh_high : b.kwh ≤ 1000000000
  pub days_low : 1 ≤ b.days
  pub days_high : b.days ≤ 999

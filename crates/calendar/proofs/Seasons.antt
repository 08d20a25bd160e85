-- The season of a day, in the words of the calendar.
use Rattle.std.proofs.Common.{ℕ, ◌+◌, ◌*◌, ◌/◌, ◌%◌, ◌<◌, ◌≤◌, ◌&&◌, leb, Some, None, Option, arith}
use Rattle.std.proofs.lemmas.Bool.{leb-true, le-leb, cond_both, both_ways, and_parts, and_from}
use Rattle.calendar.specs.Calendar.{month_of, LiesIn, Placed, season_at, season_of, InSummer, Seasonal}
use Rattle.calendar.specs.declared.Season.TheVariants.{Summer, Winter}
use Rattle.calendar.proofs.Months.{placed, first_rises, begun_by, over_by}

summer_day : (d m : ℕ) → LiesIn d m → 4 ≤ m % 12 → m % 12 ≤ 9 → Seasonal d (Some Summer)
summer_day d m l a b = (
  l.on_calendar,
  (
    m / 12,
    (
      omega (arith, first_rises (m / 12 * 12 + 4) m (omega arith), l.begun),
      omega (arith, first_rises (m + 1) (m / 12 * 12 + 10) (omega arith), l.not_over),
    ),
  ),
)

summer_month : (d m y : ℕ) → LiesIn d m → InSummer y d → (4 ≤ m % 12) × (m % 12 ≤ 9)
summer_month d m y l s =
    let a : y * 12 + 4 ≤ m = begun_by d m (y * 12 + 4) l s.0 in
    let b : m < y * 12 + 10 = over_by d m (y * 12 + 10) l s.1 in
    (omega arith, omega arith)

seasonal_by : (d : ℕ) (r : Option ℕ) → Placed d r → Seasonal d (season_at r)
seasonal_by d (Some m) l =
    cond_both (leb 4 (m % 12) && leb (m % 12) 9) Summer Winter (λ s. Seasonal d (Some s))
    (λ e. let p = and_parts (leb 4 (m % 12)) (leb (m % 12) 9) e in
    summer_day d m l (leb-true 4 (m % 12) p.0) (leb-true (m % 12) 9 p.1))
    (λ e. (
      l.on_calendar,
      λ y s. let p = summer_month d m y l s in
          both_ways (leb 4 (m % 12) && leb (m % 12) 9) e (and_from (leb 4 (m % 12)) (leb (m % 12) 9) (le-leb 4 (m % 12) p.0) (le-leb (m % 12) 9 p.1)),
    ))
seasonal_by d None l = l

pub seasonal : (d : ℕ) → Seasonal d (season_of d)
seasonal d = seasonal_by d (month_of d) (placed d)

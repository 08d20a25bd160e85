-- What the tests by which records are looked up mean.
use Rattle.std.proofs.Common.{◌≡◌, ℕ, ◌+◌, true, Some, None, Option, sym, refl, ap}
use Rattle.std.proofs.lemmas.Bool.{eqb-true, eq-eqb, false≢true}
use Rattle.calendar.specs.Calendar.{month_of, year_apart, year_before, SameMonthNextYear}
use Rattle.lookup.specs.declared.fit.Whose.{Whose}
use Rattle.lookup.specs.declared.fit.Whose.TheVariants.{Customer, Anyone}
use Rattle.lookup.specs.Tests.{asked, OfWhose}

pub asked_means : (w : Whose) (c q : ℕ) → asked w c q ≡ true → OfWhose w c q
asked_means Customer c q t = eqb-true c q t
asked_means Anyone c q t = tt

pub asked_from : (w : Whose) (c q : ℕ) → OfWhose w c q → asked w c q ≡ true
asked_from Customer c q e = eq-eqb c q e
asked_from Anyone c q e = refl

apart_means : (m n : Option ℕ) → year_apart m n ≡ true → (k : ℕ) × ((m ≡ Some k) × (n ≡ Some (k + 12)))
apart_means (Some m) (Some n) t = (m, (refl, ap Some (sym (eqb-true (m + 12) n t))))
apart_means (Some m) None t = absurd (false≢true t)
apart_means None n t = absurd (false≢true t)

pub year_before_means : (d e : ℕ) → year_before d e ≡ true → SameMonthNextYear d e
year_before_means d e t = apart_means (month_of d) (month_of e) t

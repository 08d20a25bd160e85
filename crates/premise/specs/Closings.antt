-- The period that a call closes on a day, or why none may be closed: `may` is what the rules say of it.
--   EndsOn p f b day              p is the period of the file f and its book b that ends on that day
--   GivesPeriod may f b day r     r is that period where one may be closed, and otherwise the refusal
--   GivesPeriodBy may f b day r   the same with the advance of a read
use Rattle.std.specs.Prelude.{◌≡◌, ℕ, ◌-◌, List, Ok, Err, Result, MatchResult}
use Rattle.measures.specs.declared.entry.Entry.{Entry}
use Rattle.premise.specs.declared.file.PremiseFile.{PremiseFile}
use Rattle.premise.specs.declared.period.Period.{Period}

module _ {M J : Type 0} where
  abbrev pub EndsOn : Period M J → PremiseFile M J → List Entry → ℕ → Type 0
  EndsOn p f b day = (p.own.file.now ≡ f) × (p.own.book.now ≡ b) × (p.day ≡ day)

  abbrev pub GivesPeriod : Result ℕ ℕ → PremiseFile M J → List Entry → ℕ → Result (Period M J) ℕ → Type 0
  GivesPeriod may f b day r = MatchResult r (λ p. EndsOn p f b day × (may ≡ Ok (day - f.day))) (λ e. may ≡ Err e)

  abbrev pub GivesPeriodBy : Result (ℕ × ℕ) ℕ → PremiseFile M J → List Entry → ℕ → Result (Period M J × ℕ) ℕ → Type 0
  GivesPeriodBy may f b day r = MatchResult r (λ pa. EndsOn pa.0 f b day × (may ≡ Ok (day - f.day, pa.1))) (λ e. may ≡ Err e)

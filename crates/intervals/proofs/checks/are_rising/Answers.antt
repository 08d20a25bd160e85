use Rattle.std.proofs.Common.{nat_lt, rules, refl}
use Rattle.std.proofs.lemmas.Fn.{always_returns_same}
use Rattle.intervals.proofs.Rising.{rising_is}
use Rattle.intervals.proofs.checks.are_rising.Goals as goal

pub returns : goal.returns
returns c = rising_is c.args.days.now c.is_sorted_by.result (c.is_sorted_by.ensures.cases nat_lt (always_returns_same _ _ _ (λ a r f k. (search rules, refl))))

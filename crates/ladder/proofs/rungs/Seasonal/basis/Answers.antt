use Rattle.std.proofs.Common.{ap, arith, rules}
use Rattle.measures.specs.declared.entry.Entry.{Entry}
use Rattle.lookup.specs.declared.six.Six.{Six}
use Rattle.ladder.specs.Meanings.{six_kwh_few}
use Rattle.ladder.proofs.rungs.Seasonal.basis.Goals as goal

pub overflow_cast-result : goal.overflow_cast-result
overflow_cast-result c =
    let few = six_kwh_few (λ (e : Entry). e.customer) (λ e. e.end_day) (λ e. e.usage_days) (λ e. e.kwh) c.of-of_customer.result.whose c.of-of_customer.result.customer c.in_ok-season.season c.args.book.now in
    omega (arith, few, ap (λ (s : Six). s.kwh) c.seasonal_sum-six.ensures.answer)

pub returns-then-six-le-MOST_DAYS : goal.returns-then-six-le-MOST_DAYS
returns-then-six-le-MOST_DAYS c = rw (← c.of-of_customer.ensures.whose, ← c.of-of_customer.ensures.customer) (search rules)

pub returns : goal.returns
returns c = rw (← c.of-of_customer.ensures.whose, ← c.of-of_customer.ensures.customer) (search rules)

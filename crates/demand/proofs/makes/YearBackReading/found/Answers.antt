use Rattle.std.proofs.Common.{rules}
use Rattle.demand.proofs.makes.YearBackReading.found.Goals as goal

pub returns : goal.returns
returns c = rw (← c.of-of_customer.ensures.whose, ← c.of-of_customer.ensures.customer) (search rules)

use Rattle.std.proofs.Common.{rules}
use Rattle.demand.proofs.makes.LoadFactorMethod.answer.Goals as goal

pub returns-clause-meaning : goal.returns-clause-meaning
returns-clause-meaning c = rw (c.from.ensures, c.from-hours.ensures, c.from-2.ensures) (search rules)

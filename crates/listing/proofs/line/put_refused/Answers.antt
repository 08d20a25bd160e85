use Rattle.std.proofs.Common.{arith}
use Rattle.listing.proofs.Lines.{refused_few}
use Rattle.listing.proofs.line.put_refused.Goals as goal

pub lettered-requires : goal.lettered-requires
lettered-requires c = omega (arith, c.requires, c.from.ensures, refused_few c.from.result (omega (arith, c.from.ensures)))

pub returns-clause-few : goal.returns-clause-few
returns-clause-few c = omega (arith, c.lettered.ensures.put.end, refused_few c.from.result (omega (arith, c.from.ensures)))

use Rattle.std.proofs.Common.{decimal, arith}
use Rattle.listing.proofs.Numbers.{three_at_most}
use Rattle.listing.proofs.Puts.{wrote_then}
use Rattle.listing.proofs.list.put_count.Goals as goal

pub number-requires : goal.number-requires
number-requires c = omega (arith, c.requires.room, three_at_most c.args.count (omega (arith, c.requires.count)))

pub text-requires : goal.text-requires
text-requires c = omega (arith, c.requires.room, c.number.ensures.put.end, c.number.ensures.long, three_at_most c.args.count (omega (arith, c.requires.count)))

pub returns-clause-text : goal.returns-clause-text
returns-clause-text c = wrote_then (decimal c.args.count) c.args.name.now c.number.new.self c.text.new.self c.number.ensures c.text.ensures

pub returns-clause-few : goal.returns-clause-few
returns-clause-few c = omega (arith, c.text.ensures.put.end, c.number.ensures.put.end, three_at_most c.args.count (omega (arith, c.requires.count)))

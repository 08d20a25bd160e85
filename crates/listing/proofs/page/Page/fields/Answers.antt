use Rattle.std.proofs.Common.{arith}
use Rattle.listing.proofs.Lines.{fields_left, put_field}
use Rattle.listing.proofs.page.Page.fields.Goals as goal

pub byte-requires : goal.byte-requires
byte-requires c = omega (arith, c.loop-n.invariant.1, fields_left c.args.numbers.now c.loop-n.n-index c.loop-n-test.true)

pub loop-n-preserved : goal.loop-n-preserved
loop-n-preserved c =
    let ns = c.args.numbers.now in
    let i = c.loop-n.n-index in
    let left = fields_left ns i c.loop-n-test.true in (
      λ r rest. c.loop-n.invariant.0 r (put_field ns i c.loop-n-test.true c.loop-n.self c.byte.new.self c.number.new.self r c.byte.ensures c.number.ensures rest),
      omega (arith, c.loop-n.invariant.1, left, c.byte.ensures.put.end, c.byte.ensures.long, c.number.ensures.put.end, c.number.ensures.long),
    )

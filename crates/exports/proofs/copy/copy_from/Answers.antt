use Rattle.std.proofs.Common.{◌<◌, length, subst, arith}
use Rattle.exports.proofs.Copies.{copied_more}
use Rattle.exports.proofs.copy.copy_from.Goals as goal

pub loop-place-preserved : goal.loop-place-preserved
loop-place-preserved g c =
    let xs = c.args.from.now in
    let i = c.loop-place.place in
    let y = c.from.result in
    let in-to : i < length c.loop-place.to = omega (arith, c.loop-place-test.true, c.requires, c.loop-place.auto.to) in
    let gives = subst (λ x. g.B.From.from_gives x y) c.index-from-place.is c.from.ensures in
    copied_more g.B.From.from_gives xs c.loop-place.to i c.index-from-place.result y c.loop-place-test.true in-to gives c.loop-place.invariant

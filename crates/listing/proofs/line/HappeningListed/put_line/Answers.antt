use Rattle.std.proofs.Common.{arith}
use Rattle.listing.proofs.Lines.{read_few, miss_few}
use Rattle.listing.proofs.line.HappeningListed.put_line.Goals as goal

pub lettered-requires : goal.lettered-requires
lettered-requires c =
    let a = c.in-Read-default-default-Ok in
    let kind = c.from in
    let corrected = c.from-in-Read-default-default-Ok in
    omega (arith, c.requires, read_few kind.result a.kwh corrected.result (omega (arith, kind.ensures)) (omega arith) (omega (arith, corrected.ensures)))

pub lettered-requires-in-Miss-default-Ok : goal.lettered-requires-in-Miss-default-Ok
lettered-requires-in-Miss-default-Ok c =
    let a = c.in-Miss-default-Ok in
    let kind = c.from-in-Miss-default-Ok in
    let rung = c.from-in-Miss-default-Ok-2 in
    omega (arith, c.requires, miss_few kind.result rung.result a.kwh (omega (arith, kind.ensures)) (omega (arith, rung.ensures)) (omega arith))

pub returns-in-Read-default-default-Ok-clause-few : goal.returns-in-Read-default-default-Ok-clause-few
returns-in-Read-default-default-Ok-clause-few c =
    let a = c.in-Read-default-default-Ok in
    let kind = c.from in
    let corrected = c.from-in-Read-default-default-Ok in
    omega (arith, c.lettered.ensures.put.end, read_few kind.result a.kwh corrected.result (omega (arith, kind.ensures)) (omega arith) (omega (arith, corrected.ensures)))

pub returns-in-Miss-default-Ok-clause-few : goal.returns-in-Miss-default-Ok-clause-few
returns-in-Miss-default-Ok-clause-few c =
    let a = c.in-Miss-default-Ok in
    let kind = c.from-in-Miss-default-Ok in
    let rung = c.from-in-Miss-default-Ok-2 in
    omega (arith, c.lettered-in-Miss-default-Ok.ensures.put.end, miss_few kind.result rung.result a.kwh (omega (arith, kind.ensures)) (omega (arith, rung.ensures)) (omega arith))

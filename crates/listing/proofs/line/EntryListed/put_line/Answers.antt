use Rattle.std.proofs.Common.{ℕ, List, ◌++◌, decimal, subst, arith}
use Rattle.listing.specs.Listing.{fields}
use Rattle.listing.specs.Put.{Wrote}
use Rattle.listing.proofs.Numbers.{ten_at_most}
use Rattle.listing.proofs.Puts.{wrote_then}
use Rattle.listing.proofs.line.EntryListed.put_line.Goals as goal

pub number-requires : goal.number-requires
number-requires c = omega (arith, c.requires, ten_at_most c.args.self.now.customer (omega arith))

pub fields-requires : goal.fields-requires
fields-requires c = omega (arith, c.requires, c.numbers_of.ensures.few, ten_at_most c.args.self.now.customer (omega arith), c.number.ensures.put.end, c.number.ensures.long)

pub returns-clause-text : goal.returns-clause-text
returns-clause-text c =
    let customer = c.args.self.now.customer in
    let p = c.args.page.now in
    let q = c.fields.new.self in
    subst (λ (ns : List ℕ). Wrote (decimal customer ++ fields ns) p q) c.numbers_of.ensures.value (wrote_then (decimal customer) (fields c.numbers_of.result) c.number.new.self q c.number.ensures c.fields.ensures)

pub returns-clause-few : goal.returns-clause-few
returns-clause-few c = omega (arith, c.numbers_of.ensures.few, ten_at_most c.args.self.now.customer (omega arith), c.number.ensures.put.end, c.fields.ensures.put.end)

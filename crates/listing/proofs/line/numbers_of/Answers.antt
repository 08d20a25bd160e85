use Rattle.std.proofs.Common.{[], ◌∷◌, arith, rules}
use Rattle.listing.proofs.Lines.{entry_few}
use Rattle.listing.proofs.line.numbers_of.Goals as goal

pub returns-clause-few : goal.returns-clause-few
returns-clause-few c =
    let ns = c.from.result ∷ c.from-2.result ∷ c.from-3.result ∷ c.from-5.result ∷ c.from-6.result ∷ c.from-7.result ∷ c.args.e.kwh ∷ [] in
    entry_few c.args.e ns (search rules) (omega arith) (omega arith) (omega arith) (omega arith) (omega arith)

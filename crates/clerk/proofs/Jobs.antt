-- The law over whole histories holds of what a sheet tells.
use Rattle.std.proofs.Common.{ℕ, List}
use Rattle.premise.specs.Plays.{played}
use Rattle.premise.proofs.Histories.{law_of}
use Rattle.premise.proofs.Plays.{lived_played}
use Rattle.ladder.specs.Ladder.{standard_rungs}
use Rattle.ladder.specs.Ladder.{standard_table}
use Rattle.clerk.specs.Jobs.{by_half, blank_book, LawfulSheet}

pub lawful : (bs : List ℕ) → LawfulSheet bs
lawful bs o cs f e a =
    let t = played standard_table by_half cs f blank_book in
    law_of standard_table by_half f blank_book t.0 t.1 t.2
    (record { method = standard_rungs; judgement = record {}; rate = o.rate; digits = o.digits; day = o.day; register = o.register; customer = o.customer; accepts = a })
    (lived_played standard_table by_half cs f blank_book)

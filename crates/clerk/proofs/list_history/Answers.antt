use Rattle.std.proofs.Common.{◌≡◌, List, [], length, vec_items, ap, ◌∙◌, arith}
use Rattle.measures.specs.declared.entry.Entry.{Entry}
use Rattle.premise.specs.declared.happening.Happening.{Happening}
use Rattle.premise.specs.declared.file.PremiseFile.{PremiseFile}
use Rattle.premise.specs.History.{start}
use Rattle.judging.specs.declared.ByHalf.{ByHalf}
use Rattle.ladder.specs.Ladder.{Standard, standard_table}
use Rattle.clerk.specs.Jobs.{by_half, blank_book}
use Rattle.clerk.proofs.Counts.{answers_counted}
use Rattle.clerk.proofs.list_history.Goals as goal

pub list_played-requires-clause-own : goal.list_played-requires-clause-own
list_played-requires-clause-own c = (c.in_ok-happened-in-Ok.ensures.history c.in-Ok.file blank_book [] c.in-Ok.ensures.opened start).own_book

pub list_played-requires-clause-few : goal.list_played-requires-clause-few
list_played-requires-clause-few c =
    let items : length (vec_items c.in_ok-happened-in-Ok.happened) ≡ length c.args.calls.now
    = ap (λ (t : List Happening × PremiseFile Standard ByHalf × List Entry). length t.0) c.in_ok-happened-in-Ok.ensures.answer ∙ answers_counted standard_table by_half c.args.calls.now c.in-Ok.file blank_book in
    omega (arith, c.as_slice.ensures, items, c.requires.few)

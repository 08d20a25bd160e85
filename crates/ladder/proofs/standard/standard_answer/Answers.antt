use Rattle.std.proofs.Common.{◌≡◌, ◌∙◌}
use Rattle.ladder.specs.Ladder.{standard}
use Rattle.ladder.proofs.Ladders.{table_standard, standard_law}
use Rattle.ladder.proofs.standard.standard_answer.Goals as goal

pub returns : goal.returns
returns c =
    let book = c.args.book.now in
    let q = c.args.question.now in
    let e : c.answer.result ≡ standard book q = c.answer.ensures ∙ table_standard c.standard_method.result book q c.standard_method.ensures.answer in
    record { answer = e; ladder = standard_law book q c.answer.result e }

use Rattle.std.proofs.Common.{ap, ◌∙◌}
use Rattle.premise.specs.History.{same_sums}
use Rattle.premise.proofs.Histories.{files_agree}
use Rattle.premise.proofs.calls.settled_alike.Goals as goal

pub returns : goal.returns
returns g c = record {
  answer = c.same_sums.ensures ∙ ap (λ x. same_sums x c.sum_settled-2.result) c.sum_settled.ensures ∙ ap (same_sums _) c.sum_settled-2.ensures;
  agree = files_agree g.M.Method.table g.J.Judgement.higher g.N.Method.table g.K.Judgement.higher c.args.file.now c.args.book.now c.args.other.now c.args.other_book.now;
}

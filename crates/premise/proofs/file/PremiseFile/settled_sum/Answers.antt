use Rattle.std.proofs.Common.{◌∙◌}
use Rattle.premise.proofs.Histories.{law_of, told_total}
use Rattle.premise.proofs.file.PremiseFile.settled_sum.Goals as goal

pub returns : goal.returns
returns g c = record {
  answer = c.sum_settled.ensures;
  history = λ f0 b0 es o l.
      let law = law_of g.M.Method.table g.J.Judgement.higher f0 b0 es c.args.self.now c.args.book.now o l in
      c.sum_settled.ensures ∙ told_total c.args.self.now c.args.book.now _ law.own_book law.bills_meet_dial;
}

use Rattle.premise.proofs.Histories.{law_next}
use Rattle.premise.proofs.file.PremiseFile.miss.Goals as goal

pub returns : goal.returns
returns g c = record {
  meaning = c.close_missed.ensures;
  history = λ f0 b0 es o l. law_next g.M.Method.table g.J.Judgement.higher f0 b0 es _ _ _ _ _ o l c.close_missed.ensures;
}

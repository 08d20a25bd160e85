use Rattle.std.proofs.Common.{refl}
use Rattle.premise.proofs.Histories.{law_next}
use Rattle.premise.proofs.file.PremiseFile.move_in.Goals as goal

pub returns : goal.returns
returns g c = record {
  meaning = c.change_customer.ensures;
  history = λ b f0 b0 es o l. law_next g.M.Method.table g.J.Judgement.higher f0 b0 es _ b _ _ b o l (c.change_customer.ensures, refl);
}

use Rattle.fields.proofs.Texts.{told}
use Rattle.fields.proofs.number.number_of.Goals as goal

pub returns-clause-answer : goal.returns-clause-answer
returns-clause-answer c = told c.args.field.now c.written.result c.written.ensures

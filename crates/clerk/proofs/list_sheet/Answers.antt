use Rattle.clerk.proofs.Jobs.{lawful}
use Rattle.clerk.proofs.list_sheet.Goals as goal

pub returns-clause-history : goal.returns-clause-history
returns-clause-history c = lawful c.args.sheet.now

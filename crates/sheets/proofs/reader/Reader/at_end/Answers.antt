use Rattle.std.proofs.Common.{◌∙◌}
use Rattle.sheets.proofs.Wholes.{at_end_is}
use Rattle.sheets.proofs.reader.Reader.at_end.Goals as goal

pub returns : goal.returns
returns c = c.is_empty.ensures ∙ at_end_is c.args.self.now.rest.now

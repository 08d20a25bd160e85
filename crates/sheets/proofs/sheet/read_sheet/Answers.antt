use Rattle.sheets.proofs.Laws.{text_law, back_law, alike_law}
use Rattle.sheets.proofs.sheet.read_sheet.Goals as goal

pub returns-clause-text : goal.returns-clause-text
returns-clause-text c = text_law c.args.bytes.now c.read_lines.result c.read_lines.ensures

pub returns-clause-back : goal.returns-clause-back
returns-clause-back c = back_law c.args.bytes.now c.read_lines.result c.read_lines.ensures

pub returns-clause-alike : goal.returns-clause-alike
returns-clause-alike c = alike_law

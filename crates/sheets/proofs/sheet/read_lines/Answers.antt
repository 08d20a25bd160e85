use Rattle.std.proofs.Common.{◌≡◌, Ok}
use Rattle.std.proofs.lemmas.Result.{err_from_is_err_and, MatchResult-at_ok, MatchResult-at_err}
use Rattle.fields.specs.Pieces.{pieces}
use Rattle.sheets.specs.declared.fault.SheetFault.TheVariants.{Premise, Calls}
use Rattle.sheets.specs.Sections.{lines_left, premise_section}
use Rattle.sheets.proofs.Wholes.{told_ok, told_err, calls_fault}
use Rattle.sheets.proofs.sheet.read_lines.Goals as goal
use Rattle.sheets.proofs.sheet.read_lines.Goals.{In_ok-opening}

-- the premise's section was read
opened : (c : goal.In_ok-opening) → (Ok (c.in_ok-opening.opening, lines_left c.premise.new.self) ≡ premise_section 1 (pieces 10 c.args.bytes.now)) × (c.premise.new.self.line ≡ 2)
opened c = MatchResult-at_ok _ _ c.in_ok-opening.opening (told_ok Premise c.map_err.result c.premise.result c.in_ok-opening.opening c.map_err.ensures.cases c.in_ok-opening.was) c.premise.ensures.found

pub returns-in_err-calls : goal.returns-in_err-calls
returns-in_err-calls c =
    let p = err_from_is_err_and c.from_residual-in_err-calls.result c.from_residual-in_err-calls.ensures.1 in
    let r = c.premise.new.self in
    let t = told_err Calls c.map_err-2.result c.calls.result c.in_err-calls.field-0.0 c.map_err-2.ensures.cases c.in_err-calls.was in
    rw (p.1, p.2, t.1) (calls_fault c.args.bytes.now c.if-bytes-gt-MOST_BYTES.false c.in_ok-opening.opening (lines_left r) r.line (opened (goal.at.returns-in_err-calls c).In_ok-opening) t.0 (MatchResult-at_err _ _ t.0 t.2 c.calls.ensures.found))

-- What is told of a refused sheet: the section, the line, the field and the number of the refusal.
--   notice_of e   of the fault e; nothing where there was no memory
use Rattle.std.specs.Prelude.{ℕ, Some, None, Option}
use Rattle.measures.specs.Refusals.{bad_field, bad_line, bad_count, bad_sheet}
use Rattle.sheets.specs.declared.fault.LineFault.{LineFault}
use Rattle.sheets.specs.declared.fault.LineFault.TheVariants.{Form, Field}
use Rattle.sheets.specs.declared.fault.SectionFault.{SectionFault}
use Rattle.sheets.specs.declared.fault.SectionFault.TheVariants.{Count, Missing, Line, Memory}
use Rattle.sheets.specs.declared.fault.SheetFault.{SheetFault}
use Rattle.sheets.specs.declared.fault.SheetFault.TheVariants.{Long, Premise, Calls, Rest}
use Rattle.sheets.specs.declared.notice.Section.{Section}
use Rattle.sheets.specs.declared.notice.Section.TheVariants as part
use Rattle.sheets.specs.declared.notice.Notice.{Notice}

abbrev pub notice : Section → ℕ → ℕ → ℕ → Option Notice
notice section line field number = Some (record { section = section; line = line; field = field; number = number })

-- the field is 0 but for a field that is no number or rate name
abbrev pub line_notice : Section → LineFault → Option Notice
line_notice s (Form n) = notice s n 0 bad_line
line_notice s (Field f) = notice s f.line f.field bad_field

abbrev pub section_notice : Section → SectionFault → Option Notice
section_notice s (Count n) = notice s n 0 bad_count
section_notice s (Missing n) = notice s n 0 bad_count
section_notice s (Line f) = line_notice s f
section_notice s Memory = None

-- the sheet as a whole has line 0
abbrev pub sheet_notice : Option Notice
sheet_notice = notice part.Sheet 0 0 bad_sheet

abbrev pub notice_of : SheetFault → Option Notice
notice_of Long = sheet_notice
notice_of (Premise f) = section_notice part.Premise f
notice_of (Calls f) = section_notice part.Calls f
notice_of Rest = sheet_notice

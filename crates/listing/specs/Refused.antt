-- The line that stands in place of a listing where a sheet is refused.
--   section_letter s    P for the premise, C for the calls, S for the sheet as a whole
--   notice_line n       X, the letter of the section, the line and the field in it, and the refusal's number
--   sheet_refused n k   how many bytes are written to a buffer of k bytes, or the refusal
use Rattle.std.specs.Prelude.{ℕ, cond, List, [], ◌∷◌, ◌++◌, length, Ok, Err, codes, Result, nat_lt}
use Rattle.measures.specs.Refusals.{may_not_fit}
use Rattle.sheets.specs.declared.notice.Notice.{Notice}
use Rattle.sheets.specs.declared.notice.Section.{Section}
use Rattle.sheets.specs.declared.notice.Section.TheVariants.{Premise, Calls, Sheet}
use Rattle.listing.specs.Listing.{space, fields}

abbrev pub section_letter : Section → List ℕ
section_letter Premise = codes "P"
section_letter Calls = codes "C"
section_letter Sheet = codes "S"

abbrev pub notice_line : Notice → List ℕ
notice_line n = codes "X" ++ (space ∷ (section_letter n.section ++ fields (n.line ∷ n.field ∷ n.number ∷ [])))

abbrev pub sheet_refused : Notice → ℕ → Result ℕ ℕ
sheet_refused n k = cond (nat_lt k 16384) (Err may_not_fit) (Ok (length (notice_line n)))

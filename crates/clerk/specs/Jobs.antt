-- A sheet and its listing.
--   blank_book             240 places, none of them in use
--   history_listing o cs   the listing of the calls cs on a file that was opened with o, or the line of its refusal
--   sheet_listing bs       the listing of a sheet, or the line of its refusal
--   LawfulSheet bs         the law over whole histories holds of the history that the sheet bs is the text of
--   Listed t b b' n        the n bytes of the text t, at most 15,624, are in front of the buffer, which keeps its other bytes
--   Answers t b b' r       the text t is listed, or there is no listing, and r tells which
use Rattle.std.specs.Prelude.{◌≡◌, ℕ, ◌<◌, ◌≤◌, Bool, false, List, [], length, take, replicate, Some, None, Ok, Err, Option, Result, MatchResult}
use Rattle.measures.specs.declared.entry.Entry.{Entry}
use Rattle.measures.specs.declared.entry.Kind.TheVariants.{Actual}
use Rattle.ladder.specs.Ladder.{Standard, standard_rungs, standard_table}
use Rattle.judging.specs.declared.ByHalf.{ByHalf}
use Rattle.judging.specs.Judgements.{half_higher}
use Rattle.premise.specs.declared.file.PremiseFile.{PremiseFile}
use Rattle.premise.specs.declared.happening.Happening.{Happening}
use Rattle.premise.specs.declared.play.Call.{Call}
use Rattle.premise.specs.Files.{in_use, opens}
use Rattle.premise.specs.History.{Law}
use Rattle.premise.specs.Plays.{played}
use Rattle.sheets.specs.declared.fault.SheetFault.{SheetFault}
use Rattle.premise.specs.declared.opening.Opening.{Opening}
use Rattle.sheets.specs.declared.notice.Notice.{Notice}
use Rattle.sheets.specs.declared.notice.Section.TheVariants.{Premise}
use Rattle.sheets.specs.Notices.{notice_of}
use Rattle.sheets.specs.Sections.{sheet_of}
use Rattle.listing.specs.Listing.{listing, in_front}
use Rattle.listing.specs.Refused.{notice_line}
use Rattle.clerk.specs.declared.Unlisted.{Unlisted}
use Rattle.clerk.specs.declared.Unlisted.TheVariants.{Memory, Buffer}

abbrev pub by_half : ByHalf → ℕ → ℕ → ℕ → Bool
by_half _ a u w = half_higher a u w

abbrev pub blank_book : List Entry
blank_book = replicate 240 (record { customer = 0; end_day = 0; days = 0; usage_days = 0; kind = Actual; rung = 0; initial = false; kwh = 0 })

-- what happened, and the entries in use
abbrev pub played_listing : List Happening × PremiseFile Standard ByHalf × List Entry → List ℕ
played_listing t = listing t.0 (take (in_use t.1) t.2)

-- a refused opening is told at the second line
abbrev pub opening_notice : ℕ → Notice
opening_notice number = record { section = Premise; line = 2; field = 0; number = number }

abbrev pub opened_listing : Result (PremiseFile Standard ByHalf) ℕ → List Call → List ℕ
opened_listing (Ok f) cs = played_listing (played standard_table by_half cs f blank_book)
opened_listing (Err number) cs = notice_line (opening_notice number)

abbrev pub opened_by : Opening → Result (PremiseFile Standard ByHalf) ℕ
opened_by o = opens standard_rungs (record {}) o.rate o.digits o.day o.register o.customer blank_book

abbrev pub history_listing : Opening → List Call → List ℕ
history_listing o cs = opened_listing (opened_by o) cs

abbrev pub told_line : Option Notice → List ℕ
told_line (Some n) = notice_line n
told_line None = []

abbrev pub read_listing : Result (Opening × List Call) SheetFault → List ℕ
read_listing (Ok t) = history_listing t.0 t.1
read_listing (Err fault) = told_line (notice_of fault)

abbrev pub sheet_listing : List ℕ → List ℕ
sheet_listing bs = read_listing (sheet_of bs)

abbrev pub LawfulSheet : List ℕ → Type 0
LawfulSheet bs =
    (o : Opening) (cs : List Call) (f : PremiseFile Standard ByHalf) → sheet_of bs ≡ Ok (o, cs) → opened_by o ≡ Ok f
    → Law standard_table by_half f blank_book (played standard_table by_half cs f blank_book).0 (played standard_table by_half cs f blank_book).1 (played standard_table by_half cs f blank_book).2

abbrev pub Listed : List ℕ → List ℕ → List ℕ → ℕ → Type 0
Listed text before after n = (n ≡ length text) × (after ≡ in_front text before) × (16384 ≤ length before) × (n ≤ 15624)

-- there is no memory, or the buffer is too short; it stays as it was
abbrev pub NotListed : List ℕ → List ℕ → Unlisted → Type 0
NotListed before after Memory = (after ≡ before) × (16384 ≤ length before)
NotListed before after Buffer = (after ≡ before) × (length before < 16384)

abbrev pub Answers : List ℕ → List ℕ → List ℕ → Result ℕ Unlisted → Type 0
Answers text before after result = MatchResult result (Listed text before after) (NotListed before after)

-- The sections of a sheet, line by line.
--   lines_left r           the lines that the reader r has still to read, with what stands behind the last line end
--   line_at n ls           the next line, which is the line n, and those behind it; a line without its end is missing
--   count_at n .. l        the count on the line n, before a section's name and within its bounds
--   premise_section n ls   the opening, and the lines behind its section, whose count line is the line n
--   calls_section n ls     the calls, and the lines behind their section, whose count line is the line n
--   sheet_of bs            the opening and the calls of a whole sheet
use Rattle.std.specs.Prelude.{◌≡◌, ℕ, zero, suc, ◌+◌, Bool, true, false, cond, ◌&&◌, ◌⊎◌, List, [], ◌∷◌, length, Some, None, Ok, Err, codes, Option, Result, MatchResult, nat_le, nat_lt, vec_items}
use Rattle.std.specs.Global.{Vec}
use Rattle.std.specs.Option.{ok_or}
use Rattle.premise.specs.declared.play.Call.{Call}
use Rattle.fields.specs.Pieces.{pieces, first_piece}
use Rattle.sheets.specs.declared.fault.SectionFault.{SectionFault}
use Rattle.sheets.specs.declared.fault.SectionFault.TheVariants.{Count, Missing, Line, Memory}
use Rattle.sheets.specs.declared.fault.SheetFault.{SheetFault}
use Rattle.sheets.specs.declared.fault.SheetFault.TheVariants.{Long, Premise, Calls, Rest}
use Rattle.premise.specs.declared.opening.Opening.{Opening}
use Rattle.sheets.specs.declared.line.Line as text
use Rattle.sheets.specs.declared.reader.Reader.{Reader}
use Rattle.sheets.specs.Lines.{line_fields, then, carried, call_at, opening_at, count_of}

abbrev pub lines_left : Reader → List (List ℕ)
lines_left r = pieces 10 r.rest.now

abbrev pub line_at : ℕ → List (List ℕ) → Result (List ℕ × List (List ℕ)) SectionFault
line_at n ls = ok_or (first_piece ls) (Missing n)

-- the bytes of a line that was read
abbrev pub line_held : {F : Type 0} → Result text.Line F → Result (List ℕ) F
line_held (Ok l) = Ok l.text.now
line_held (Err e) = Err e

abbrev pub within : ℕ → ℕ → Option ℕ → Option ℕ
within low high (Some n) = cond (nat_le low n && nat_le n high) (Some n) None
within low high None = None

abbrev pub count_at : ℕ → List ℕ → ℕ → ℕ → List ℕ → Result ℕ SectionFault
count_at n name low high l = ok_or (within low high (count_of name (line_fields l))) (Count n)

abbrev pub premise_name : List ℕ
premise_name = codes "PREMISE"

abbrev pub calls_name : List ℕ
calls_name = codes "CALLS"

abbrev pub premise_section : ℕ → List (List ℕ) → Result (Opening × List (List ℕ)) SectionFault
premise_section n ls =
    then (line_at n ls) (λ t.
    then (count_at n premise_name 1 1 t.0) (λ _.
    then (line_at (n + 1) t.1) (λ u.
    then (carried Line (opening_at (n + 1) (line_fields u.0))) (λ o.
    Ok (o, u.1)))))

-- the call on the next line, which is the line n
abbrev pub next_call : ℕ → List (List ℕ) → Result (Call × List (List ℕ)) SectionFault
next_call n ls =
    then (line_at n ls) (λ t.
    then (carried Line (call_at n (line_fields t.0))) (λ c.
    Ok (c, t.1)))

-- k calls from the line n on
abbrev pub calls_of : ℕ → ℕ → List (List ℕ) → Result (List Call × List (List ℕ)) SectionFault
calls_of zero n ls = Ok ([], ls)
calls_of (suc k) n ls =
    then (next_call n ls) (λ t.
    then (calls_of k (n + 1) t.1) (λ u.
    Ok (t.0 ∷ u.0, u.1)))

abbrev pub calls_section : ℕ → List (List ℕ) → Result (List Call × List (List ℕ)) SectionFault
calls_section n ls =
    then (line_at n ls) (λ t.
    then (count_at n calls_name 0 240 t.0) (λ k.
    calls_of k (n + 1) t.1))

-- whether nothing stands behind the last line end
abbrev pub nothing_left : List (List ℕ) → Bool
nothing_left [] = false
nothing_left ([] ∷ []) = true
nothing_left ([] ∷ q ∷ ps) = false
nothing_left ((b ∷ p) ∷ ps) = false

abbrev pub sheet_of : List ℕ → Result (Opening × List Call) SheetFault
sheet_of bs =
    cond (nat_lt 8192 (length bs)) (Err Long)
    (then (carried Premise (premise_section 1 (pieces 10 bs))) (λ t.
    then (carried Calls (calls_section 3 t.1)) (λ u.
    cond (nothing_left u.1) (Ok (t.0, u.0)) (Err Rest))))

-- reading that left the reader as r found what the section says
abbrev pub ReadTo : {A F : Type 0} → Reader → Result (A × List (List ℕ)) F → A → Type 0
ReadTo r expected a = Ok (a, lines_left r) ≡ expected

-- reading that ended by a fault found the section's, or had no memory
abbrev pub OrMemory : {A : Type 0} → Result A SectionFault → SectionFault → Type 0
OrMemory expected e = (e ≡ Memory) ⊎ (Err e ≡ expected)

-- reading that ended found the calls that the section says, or had no memory
abbrev pub CallsRead : Reader → Result (List Call × List (List ℕ)) SectionFault → Result (Vec Call) SectionFault → Type 0
CallsRead r expected result = MatchResult result (λ v. ReadTo r expected (vec_items v)) (OrMemory expected)

-- reading that took n lines, or ended by a fault, did as the section says
abbrev pub SectionRead : {A F : Type 0} → Reader → ℕ → Result (A × List (List ℕ)) F → Result A F → Type 0
SectionRead r n expected result = MatchResult result (λ a. ReadTo r expected a × (r.line ≡ n)) (λ e. Err e ≡ expected)

-- a whole sheet was read as the rules say, or there was no memory for its calls
abbrev pub SheetRead : List ℕ → Opening → List Call → Type 0
SheetRead bs o cs = Ok (o, cs) ≡ sheet_of bs

abbrev pub SheetRefused : List ℕ → SheetFault → Type 0
SheetRefused bs e = (e ≡ Calls Memory) ⊎ (Err e ≡ sheet_of bs)

-- a refusal puts the reader back
abbrev pub Back : {A F : Type 0} → Result A F → Reader → Reader → Type 0
Back (Ok _) before after = Unit {0}
Back (Err _) before after = after ≡ before

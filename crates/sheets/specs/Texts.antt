-- Sheets as text.
--   opening_fields o   the fields of a premise's line
--   call_fields c      the fields of a call's line: its letter and its numbers
--   sheet_lines o cs   the lines of a sheet, each by its fields
--   sheet_text o cs    the bytes of a sheet: one space between fields, and each line ended
--   TextOf bs o cs     bs is that text, within the limits of a sheet
--   Fits o cs          numbers of 32 bits, at most 240 calls, and at most 8,192 bytes
use Rattle.std.specs.Prelude.{◌≡◌, ℕ, ◌^◌, ◌<◌, ◌≤◌, List, [], ◌∷◌, ◌++◌, map, length, codes, decimal}
use Rattle.measures.specs.Rate.{name_of}
use Rattle.premise.specs.declared.play.Call.{Call}
use Rattle.premise.specs.declared.play.Call.TheVariants.{Read, Miss, Move}
use Rattle.fields.specs.Pieces.{joined_by}
use Rattle.premise.specs.declared.opening.Opening.{Opening}
use Rattle.sheets.specs.Sections.{premise_name, calls_name}

abbrev pub opening_fields : Opening → List (List ℕ)
opening_fields o = name_of o.rate ∷ decimal o.digits ∷ decimal o.day ∷ decimal o.register ∷ decimal o.customer ∷ []

abbrev pub call_fields : Call → List (List ℕ)
call_fields (Read day register) = codes "R" ∷ decimal day ∷ decimal register ∷ []
call_fields (Miss day) = codes "M" ∷ decimal day ∷ []
call_fields (Move customer) = codes "C" ∷ decimal customer ∷ []

abbrev pub sheet_lines : Opening → List Call → List (List (List ℕ))
sheet_lines o cs =
    (decimal 1 ∷ premise_name ∷ [])
    ∷ opening_fields o
    ∷ (decimal (length cs) ∷ calls_name ∷ [])
    ∷ map call_fields cs

-- one space between fields
abbrev pub spaced : List (List ℕ) → List ℕ
spaced fs = joined_by 32 fs

-- LF ends each line
abbrev pub written : List (List (List ℕ)) → List ℕ
written [] = []
written (l ∷ ls) = spaced l ++ (10 ∷ written ls)

abbrev pub sheet_text : Opening → List Call → List ℕ
sheet_text o cs = written (sheet_lines o cs)

abbrev pub CallFits : Call → Type 0
CallFits (Read day register) = (day < 2 ^ 32) × (register < 2 ^ 32)
CallFits (Miss day) = day < 2 ^ 32
CallFits (Move customer) = customer < 2 ^ 32

abbrev pub CallsFit : List Call → Type 0
CallsFit [] = Unit {0}
CallsFit (c ∷ cs) = CallFits c × CallsFit cs

pub record OpeningFits (o : Opening) : Type 0 where
  pub digits : o.digits < 2 ^ 32
  pub day : o.day < 2 ^ 32
  pub register : o.register < 2 ^ 32
  pub customer : o.customer < 2 ^ 32

pub record Fits (o : Opening) (cs : List Call) : Type 0 where
  pub opening : OpeningFits o
  pub calls : CallsFit cs
  pub few : length cs ≤ 240
  pub not_long : length (sheet_text o cs) ≤ 8192

-- the bytes are the text of an opening and calls
abbrev pub TextOf : List ℕ → Opening → List Call → Type 0
TextOf bs o cs = (bs ≡ sheet_text o cs) × Fits o cs

-- no two histories have one text
abbrev pub NoTwoAlike : Type 0
NoTwoAlike = (o p : Opening) (cs ds : List Call) → Fits o cs → Fits p ds → sheet_text o cs ≡ sheet_text p ds → (o ≡ p) × (cs ≡ ds)

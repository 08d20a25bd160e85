-- The lines of a sheet, by their fields.
--   line_fields l      the fields of a line, which a space parts
--   one_of fs          the only field; none where there are others
--   two_of fs          the two fields; none where there are more or fewer
--   premise_of fs      the five fields of a premise's line
--   call_of fs         the fields of a call's line, by its letter
--   number_at n k f    the number that the field k of line n tells, or its fault
--   opening_at n fs    the opening that line n tells, or the line's fault
--   call_at n fs       the call that line n tells, or the line's fault
--   count_of name fs   the count before a name
use Rattle.std.specs.Prelude.{ℕ, cond, List, [], ◌∷◌, length, Some, None, Ok, Err, Option, Result, ◌==◌, slice_index}
use Rattle.std.specs.Borrow.{Bor}
use Rattle.std.specs.Option.{ok_or}
use Rattle.std.specs.Str.{bytes_eq}
use Rattle.measures.specs.declared.rate.Rate.{Rate}
use Rattle.premise.specs.declared.play.Call.{Call}
use Rattle.premise.specs.declared.play.Call.TheVariants as call
use Rattle.fields.specs.Numbers.{number_of}
use Rattle.fields.specs.Pieces.{pieces, first_piece}
use Rattle.fields.specs.Rates.{rate_of}
use Rattle.sheets.specs.declared.fault.FieldFault.{FieldFault}
use Rattle.sheets.specs.declared.fault.LineFault.{LineFault}
use Rattle.sheets.specs.declared.fault.LineFault.TheVariants.{Form, Field}
use Rattle.sheets.specs.declared.line.CallLine.{CallLine}
use Rattle.sheets.specs.declared.line.CallLine.TheVariants as told
use Rattle.sheets.specs.declared.line.PremiseLine.{PremiseLine}
use Rattle.premise.specs.declared.opening.Opening.{Opening}

abbrev pub line_fields : List ℕ → List (List ℕ)
line_fields l = pieces 32 l

-- go on with what there is
abbrev pub with : {A B : Type 0} → Option A → (A → Option B) → Option B
with (Some a) f = f a
with None f = None

abbrev pub then : {A B E : Type 0} → Result A E → (A → Result B E) → Result B E
then (Ok a) f = f a
then (Err e) f = Err e

-- a fault carried whole in the fault above it
abbrev pub carried : {A E F : Type 0} → (E → F) → Result A E → Result A F
carried f (Ok a) = Ok a
carried f (Err e) = Err (f e)

abbrev pub one_of : List (List ℕ) → Option (List ℕ)
one_of [] = None
one_of (f ∷ []) = Some f
one_of (f ∷ g ∷ fs) = None

abbrev pub two_of : List (List ℕ) → Option (List ℕ × List ℕ)
two_of fs = with (first_piece fs) (λ a. with (one_of a.1) (λ b. Some (a.0, b)))

abbrev pub field_held : Option (Bor (List ℕ)) → Option (List ℕ)
field_held (Some r) = Some r.now
field_held None = None

abbrev pub fields_held : Option (Bor (List ℕ) × Bor (List ℕ)) → Option (List ℕ × List ℕ)
fields_held (Some r) = Some (r.0.now, r.1.now)
fields_held None = None

-- the fields of a call's line
pub data Said : Type 0 where
  read : List ℕ → List ℕ → Said
  miss : List ℕ → Said
  move : List ℕ → Said

-- the bytes of the letters
abbrev pub R : ℕ
R = 82

abbrev pub M : ℕ
M = 77

abbrev pub C : ℕ
C = 67

abbrev pub said_by : ℕ → List (List ℕ) → Option Said
said_by letter fs =
    cond (letter == R) (with (two_of fs) (λ t. Some (read t.0 t.1)))
    (cond (letter == M) (with (one_of fs) (λ day. Some (miss day)))
    (cond (letter == C) (with (one_of fs) (λ customer. Some (move customer))) None))

-- the letter is the whole first field
abbrev pub call_of : List (List ℕ) → Option Said
call_of fs = with (first_piece fs) (λ t. cond (length t.0 == 1) (said_by (slice_index t.0 0) t.1) None)

abbrev pub call_line_held : Option CallLine → Option Said
call_line_held (Some (told.Read day register)) = Some (read day.now register.now)
call_line_held (Some (told.Miss day)) = Some (miss day.now)
call_line_held (Some (told.Move customer)) = Some (move customer.now)
call_line_held None = None

abbrev pub premise_of : List (List ℕ) → Option (List ℕ × List ℕ × List ℕ × List ℕ × List ℕ)
premise_of fs =
    with (first_piece fs) (λ rate.
    with (first_piece rate.1) (λ digits.
    with (first_piece digits.1) (λ day.
    with (two_of day.1) (λ last.
    Some (rate.0, digits.0, day.0, last.0, last.1)))))

abbrev pub premise_line_held : Option PremiseLine → Option (List ℕ × List ℕ × List ℕ × List ℕ × List ℕ)
premise_line_held (Some p) = Some (p.rate.now, p.digits.now, p.day.now, p.register.now, p.customer.now)
premise_line_held None = None

abbrev pub fault_at : ℕ → ℕ → FieldFault
fault_at n k = record { line = n; field = k }

abbrev pub number_at : ℕ → ℕ → List ℕ → Result ℕ FieldFault
number_at n k f = ok_or (number_of f) (fault_at n k)

abbrev pub rate_at : ℕ → ℕ → List ℕ → Result Rate FieldFault
rate_at n k f = ok_or (rate_of f) (fault_at n k)

-- a call's letter is its field 1
abbrev pub call_told : ℕ → Said → Result Call FieldFault
call_told n (read day register) = then (number_at n 2 day) (λ d. then (number_at n 3 register) (λ r. Ok (call.Read d r)))
call_told n (miss day) = then (number_at n 2 day) (λ d. Ok (call.Miss d))
call_told n (move customer) = then (number_at n 2 customer) (λ c. Ok (call.Move c))

abbrev pub call_at : ℕ → List (List ℕ) → Result Call LineFault
call_at n fs = then (ok_or (call_of fs) (Form n)) (λ s. carried Field (call_told n s))

abbrev pub opening_told : ℕ → List ℕ × List ℕ × List ℕ × List ℕ × List ℕ → Result Opening FieldFault
opening_told n t =
    then (rate_at n 1 t.0) (λ rate.
    then (number_at n 2 t.1) (λ digits.
    then (number_at n 3 t.2) (λ day.
    then (number_at n 4 t.3) (λ register.
    then (number_at n 5 t.4) (λ customer.
    Ok (record { rate = rate; digits = digits; day = day; register = register; customer = customer }))))))

abbrev pub opening_at : ℕ → List (List ℕ) → Result Opening LineFault
opening_at n fs = then (ok_or (premise_of fs) (Form n)) (λ t. carried Field (opening_told n t))

abbrev pub count_of : List ℕ → List (List ℕ) → Option ℕ
count_of name fs = with (two_of fs) (λ t. cond (bytes_eq t.1 name) (number_of t.0) None)

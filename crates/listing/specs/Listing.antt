-- What happened on a premise's file and its entries, as text.
--   fields ns          the fields of a line after its first: each after one space, and LF at the end
--   refused_line n     N and the number of a refusal
--   answer_line h      the letter of a call and what it answered, or the line of its refusal
--   mark_number b      1 for an initial entry, otherwise 0
--   entry_numbers e    what an entry holds beside the customer, the kind and the initial mark by their numbers
--   entry_line e       the customer of an entry and those numbers
--   lines line xs      the lines of a list, one after the other
--   count_line n name  the line that says how many of a name follow
--   listing hs es      the whole text
--   listed hs es n     how many bytes are written to a buffer of n bytes, or the refusal
--   in_front t b       the text t, and after it what the bytes b had there
use Rattle.std.specs.Prelude.{ℕ, Bool, cond, ◌||◌, List, [], ◌∷◌, ◌++◌, length, drop, Ok, Err, codes, decimal, Result, nat_lt}
use Rattle.measures.specs.Entry.{kind_number}
use Rattle.measures.specs.Refusals.{may_not_fit}
use Rattle.measures.specs.declared.entry.Entry.{Entry}
use Rattle.premise.specs.declared.happening.Happening.{Happening}
use Rattle.premise.specs.declared.happening.Happening.TheVariants.{Read, Miss, Move}

abbrev pub space : ℕ
space = 32

abbrev pub line_feed : ℕ
line_feed = 10

abbrev pub fields : List ℕ → List ℕ
fields [] = line_feed ∷ []
fields (n ∷ ns) = space ∷ (decimal n ++ fields ns)

abbrev pub refused_line : ℕ → List ℕ
refused_line number = codes "N" ++ fields (number ∷ [])

abbrev pub answer_line : Happening → List ℕ
answer_line (Read day register (Ok (kind, kwh, corrected))) = codes "R" ++ fields (kind ∷ kwh ∷ corrected ∷ [])
answer_line (Read day register (Err number)) = refused_line number
answer_line (Miss day (Ok (kind, rung, kwh))) = codes "M" ++ fields (kind ∷ rung ∷ kwh ∷ [])
answer_line (Miss day (Err number)) = refused_line number
answer_line (Move customer (Ok _)) = codes "C" ++ fields []
answer_line (Move customer (Err number)) = refused_line number

abbrev pub mark_number : Bool → ℕ
mark_number initial = cond initial 1 0

abbrev pub entry_numbers : Entry → List ℕ
entry_numbers e = e.end_day ∷ e.days ∷ e.usage_days ∷ kind_number e.kind ∷ e.rung ∷ mark_number e.initial ∷ e.kwh ∷ []

abbrev pub entry_line : Entry → List ℕ
entry_line e = decimal e.customer ++ fields (entry_numbers e)

abbrev pub lines : {X : Type 0} → (X → List ℕ) → List X → List ℕ
lines line [] = []
lines line (x ∷ xs) = line x ++ lines line xs

abbrev pub count_line : ℕ → List ℕ → List ℕ
count_line n name = decimal n ++ (space ∷ (name ++ (line_feed ∷ [])))

abbrev pub listing : List Happening → List Entry → List ℕ
listing hs es = count_line (length hs) (codes "ANSWERS") ++ (lines answer_line hs ++ (count_line (length es) (codes "ENTRIES") ++ lines entry_line es))

-- refused where the buffer has under 16,384 bytes, or over 240 answers or entries are to be listed
abbrev pub listed : List Happening → List Entry → ℕ → Result ℕ ℕ
listed hs es n = cond (nat_lt n 16384 || (nat_lt 240 (length hs) || nat_lt 240 (length es))) (Err may_not_fit) (Ok (length (listing hs es)))

abbrev pub in_front : List ℕ → List ℕ → List ℕ
in_front t b = t ++ drop (length t) b

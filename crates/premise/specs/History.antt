-- The history of a premise's file and of the one book that it was opened with: what was called and answered, and what
-- holds of every history. `table` is what the file's method means, `higher` what its judgement means.
--   Happening               a call with what it received and what it answered
--   Opened f b              the file f was opened with the book b
--   Happens f b e f' b'     the call e on the file f and the book b leaves f' and b'
--   Lived f b es f' b'      the calls es, one after the other and nothing else, lead from f and b to f' and b'
--   accepted es             how many reads and misses were accepted; accepted_to_read es: of them, up to the last accepted read
--   registers es            the registers that were accepted, in their order
--   advances t p rs         how far a dial that turns at t goes from p to the first of the registers rs, and on to each next
--   Law f0 b0 es f b        what holds after every history es of a file opened as f0 with b0
--   KeepsLaw f b es f' b'   the calls es lead from f and b to f' and b', and the law holds after every history that they end
use Rattle.std.specs.Prelude.{◌≡◌, ℕ, ◌+◌, ◌-◌, ◌<◌, ◌≤◌, Bool, true, false, cond, ◌⊎◌, List, [], ◌∷◌, ◌++◌, length, get_or, take, drop, Some, None, Ok, Err, Option, Result, ◌==◌, ◌≢◌, slice_index_or}
use Rattle.measures.specs.Refusals.{no_answer, past_dial}
use Rattle.measures.specs.declared.rate.Rate.{Rate}
use Rattle.measures.specs.declared.entry.Entry.{Entry}
use Rattle.measures.specs.declared.entry.Kind.TheVariants.{Actual, TrueUp, Estimated, PutOff, Corrected}
use Rattle.measures.specs.Dial.{turn_of, advance}
use Rattle.measures.specs.Entry.{kind_number, total_usage_days}
use Rattle.sharing.specs.Sharing.{SharedOut}
use Rattle.sharing.specs.Entries.{entry_part, entry_weight, entry_kwh}
use Rattle.estimating.specs.declared.basis.Question.{Question}
use Rattle.estimating.specs.declared.basis.Basis.{Basis}
use Rattle.estimating.specs.Estimates.{estimate}
use Rattle.premise.specs.declared.happening.Happening.{Happening}
use Rattle.premise.specs.declared.happening.Happening.TheVariants.{Read, Miss, Move}
use Rattle.premise.specs.declared.file.PremiseFile.{PremiseFile}
use Rattle.premise.specs.Books.{no_entry, any_estimated, corrections, waiting_days}
use Rattle.premise.specs.Files.{fits, in_use, open_run, open_sum, settled_total, settled_sum, opens, reads, misses, moves}

-- the registers that were accepted
abbrev pub registers : List Happening → List ℕ
registers [] = []
registers (Read day register (Ok a) ∷ es) = register ∷ registers es
registers (Read day register (Err n) ∷ es) = registers es
registers (Miss day r ∷ es) = registers es
registers (Move customer r ∷ es) = registers es

-- what calls make of a state, one after the other
abbrev pub after : {S : Type 0} → (S → Happening → S) → S → List Happening → S
after step s [] = s
after step s (e ∷ es) = after step (step s e) es

-- how many reads and misses were accepted, and how many of them up to the last accepted read
abbrev pub place_step : ℕ × ℕ → Happening → ℕ × ℕ
place_step p (Read day register (Ok a)) = (p.0 + 1, p.0 + 1)
place_step p (Read day register (Err n)) = p
place_step p (Miss day (Ok a)) = (p.0 + 1, p.1)
place_step p (Miss day (Err n)) = p
place_step p (Move customer r) = p

abbrev pub accepted : List Happening → ℕ
accepted es = (after place_step (0, 0) es).0

abbrev pub accepted_to_read : List Happening → ℕ
accepted_to_read es = (after place_step (0, 0) es).1

-- whose the premise is, from whose it was
abbrev pub customer_step : ℕ → Happening → ℕ
customer_step c (Read day register r) = c
customer_step c (Miss day r) = c
customer_step c (Move customer (Ok a)) = customer
customer_step c (Move customer (Err n)) = c

abbrev pub customer_after : ℕ → List Happening → ℕ
customer_after c es = after customer_step c es

-- the day last closed
abbrev pub day_step : ℕ → Happening → ℕ
day_step d (Read day register (Ok a)) = day
day_step d (Read day register (Err n)) = d
day_step d (Miss day (Ok a)) = day
day_step d (Miss day (Err n)) = d
day_step d (Move customer r) = d

abbrev pub day_after : ℕ → List Happening → ℕ
day_after d es = after day_step d es

-- whether the next entry is the first since the opening or a move
abbrev pub initial_step : Bool → Happening → Bool
initial_step i (Read day register (Ok a)) = false
initial_step i (Read day register (Err n)) = i
initial_step i (Miss day (Ok a)) = false
initial_step i (Miss day (Err n)) = i
initial_step i (Move customer (Ok a)) = true
initial_step i (Move customer (Err n)) = i

abbrev pub initial_after : Bool → List Happening → Bool
initial_after i es = after initial_step i es

-- the last of some registers, or the one before them
abbrev pub last_of : ℕ → List ℕ → ℕ
last_of p [] = p
last_of p (r ∷ rs) = last_of r rs

abbrev pub advances : ℕ → ℕ → List ℕ → ℕ
advances t p [] = 0
advances t p (r ∷ rs) = advance t p r + advances t r rs

module _ {M J : Type 0} where
  pub record Opened (f : PremiseFile M J) (b : List Entry) : Type 0 where
    pub method : M
    pub judgement : J
    pub rate : Rate
    pub digits : ℕ
    pub day : ℕ
    pub register : ℕ
    pub customer : ℕ
    pub accepts : opens method judgement rate digits day register customer b ≡ Ok f

  -- the entry e closes a period of the customer's, from the day last closed to the day
  pub record Closes (f0 : PremiseFile M J) (es : List Happening) (day : ℕ) (e : Entry) : Type 0 where
    pub customer : e.customer ≡ customer_after f0.customer es
    pub end_day : e.end_day ≡ day
    pub days : e.days ≡ day - day_after f0.day es
    pub initial : e.initial ≡ initial_after true es

module _ {M : Type 0} (table : M → List Entry → Question → Option Basis) where
  -- the method's figure for the entry e that closed its period with the entries before it in use
  pub record Figured (m : M) (rate : Rate) (before : List Entry) (e : Entry) : Type 0 where
    pub basis : Basis
    pub answer : table m before (record { customer = e.customer; start_day = e.end_day - e.days; end_day = e.end_day; rate = rate }) ≡ Some basis
    pub rung : e.rung ≡ basis.rung
    pub kwh : e.kwh ≡ estimate basis e.usage_days

  -- a missed period's entry is put off, an initial one of under 11 days, or else estimated: for its days and the put-off
  -- days directly before it, it has its method's figure
  pub data MissedBill (m : M) (rate : Rate) (before : List Entry) (waiting : ℕ) (e : Entry) : Type 0 where
    put_off : e.initial ≡ true → e.days < 11 → e.kind ≡ PutOff → e.usage_days ≡ 0 → e.rung ≡ 0 → e.kwh ≡ 0 → MissedBill m rate before waiting e
    estimated : (e.initial ≡ true → 11 ≤ e.days) → e.kind ≡ Estimated → e.usage_days ≡ e.days + waiting → Figured m rate before e → MissedBill m rate before waiting e

  -- the same of the entry at place k of the book
  abbrev pub BillAt : M → Rate → List Entry → ℕ → Type 0
  BillAt m rate b k = MissedBill m rate (take k b) (waiting_days k b) (slice_index_or b k no_entry)

module _ {M J : Type 0} (table : M → List Entry → Question → Option Basis) where
  -- an accepted miss adds one entry, and the open sum stays below the dial's turn
  pub record Missed (f0 : PremiseFile M J) (es : List Happening) (f : PremiseFile M J) (b : List Entry) (day : ℕ) (a : ℕ × ℕ × ℕ) (f' : PremiseFile M J) (b' : List Entry) : Type 0 where
    pub closes : Closes f0 es day (slice_index_or b' (in_use f) no_entry)
    pub told : a ≡ (kind_number (get_or b' (in_use f) no_entry).kind, (get_or b' (in_use f) no_entry).rung, (get_or b' (in_use f) no_entry).kwh)
    pub bill : BillAt table f0.method f0.rate b' (in_use f)
    pub others : (k : ℕ) → (k ≢ in_use f) → slice_index_or b' k no_entry ≡ slice_index_or b k no_entry
    pub below_turn : (get_or b' (in_use f) no_entry).kind ≡ Estimated → open_sum f b + (get_or b' (in_use f) no_entry).kwh < turn_of f0.dial

  -- a refused miss does nothing; it tells that there is no answer only where the method's table has none, and that the
  -- open sum would reach the dial's turn only where the estimate does that
  pub record NotMissed (f0 : PremiseFile M J) (es : List Happening) (f : PremiseFile M J) (b : List Entry) (day n : ℕ) (f' : PremiseFile M J) (b' : List Entry) : Type 0 where
    pub same_file : f' ≡ f
    pub same_book : b' ≡ b
    pub unanswered : n ≡ no_answer → table f0.method (take (in_use f) b) (record { customer = customer_after f0.customer es; start_day = day_after f0.day es; end_day = day; rate = f0.rate }) ≡ None
    pub past_turn : n ≡ past_dial
        → (basis : Basis)
        × ((table f0.method (take (in_use f) b) (record { customer = customer_after f0.customer es; start_day = day_after f0.day es; end_day = day; rate = f0.rate }) ≡ Some basis)
        × (turn_of f0.dial ≤ open_sum f b + estimate basis ((day - day_after f0.day es) + waiting_days (in_use f) b)))

module _ {M J : Type 0} where
  -- the advance of a read stands on its own entry: the open entries stay as they are, and with them it comes to the advance
  pub record TruedUp (f : PremiseFile M J) (b : List Entry) (a : ℕ) (answer : ℕ × ℕ × ℕ) (b' : List Entry) : Type 0 where
    pub stand : take (in_use f) b' ≡ take (in_use f) b
    pub rest : open_sum f b + (get_or b' (in_use f) no_entry).kwh ≡ a
    pub kind : (get_or b' (in_use f) no_entry).kind ≡ cond (any_estimated (open_run f b)) TrueUp Actual
    pub none_corrected : answer.2 ≡ 0

  -- the advance of a read is shared out by usage days over the open entries and its own
  pub record IsSharedOut (f : PremiseFile M J) (b : List Entry) (a : ℕ) (answer : ℕ × ℕ × ℕ) (b' : List Entry) : Type 0 where
    pub new : Entry
    pub new_weight : new.usage_days ≡ (get_or b' (in_use f) no_entry).usage_days
    pub new_kind : new.kind ≡ Actual
    pub shares : SharedOut entry_part entry_weight entry_kwh a (open_run f b ++ (new ∷ [])) (take (length (open_run f b) + 1) (drop f.settled b'))
    pub kind : (get_or b' (in_use f) no_entry).kind ≡ Actual
    pub corrected : (k : ℕ) → f.settled ≤ k → k < in_use f → entry_part (slice_index_or b k no_entry) ≡ true → ((get_or b' k no_entry).kind ≡ Corrected) × ((get_or b' k no_entry).rung ≡ 0)
    pub count : answer.2 ≡ corrections (open_run f b)

module _ {M J : Type 0} (higher : J → ℕ → ℕ → ℕ → Bool) where
  -- an accepted read adds one entry, and shares its advance out exactly when estimates are open and it is below the open
  -- sum or judged considerably higher
  pub record ReadBill (f0 : PremiseFile M J) (es : List Happening) (f : PremiseFile M J) (b : List Entry) (day register : ℕ) (a : ℕ × ℕ × ℕ) (f' : PremiseFile M J) (b' : List Entry) : Type 0 where
    pub advanced : ℕ
    pub advanced_is : advanced ≡ advance (turn_of f0.dial) (last_of f0.register (registers es)) register
    pub closes : Closes f0 es day (slice_index_or b' (in_use f) no_entry)
    pub usage : (get_or b' (in_use f) no_entry).usage_days ≡ (get_or b' (in_use f) no_entry).days + waiting_days (in_use f) b
    pub no_rung : (get_or b' (in_use f) no_entry).rung ≡ 0
    pub told : (a.0 ≡ kind_number (get_or b' (in_use f) no_entry).kind) × (a.1 ≡ (get_or b' (in_use f) no_entry).kwh)
    pub shared : any_estimated (open_run f b) ≡ true
        → (advanced < open_sum f b) ⊎ (higher f0.judgement advanced (open_sum f b) (total_usage_days (open_run f b) + (get_or b' (in_use f) no_entry).usage_days) ≡ true)
        → IsSharedOut f b advanced a b'
    pub trued_up : (any_estimated (open_run f b) ≡ false) ⊎ ((open_sum f b ≤ advanced) × (higher f0.judgement advanced (open_sum f b) (total_usage_days (open_run f b) + (get_or b' (in_use f) no_entry).usage_days) ≡ false))
        → TruedUp f b advanced a b'

module _ {M J : Type 0} (table : M → List Entry → Question → Option Basis) (higher : J → ℕ → ℕ → ℕ → Bool) where
  abbrev pub Happens : PremiseFile M J → List Entry → Happening → PremiseFile M J → List Entry → Type 0
  Happens f b (Read day register r) f' b' = (r, f', b') ≡ reads higher f b day register
  Happens f b (Miss day r) f' b' = (r, f', b') ≡ misses table f b day
  Happens f b (Move customer r) f' b' = ((r, f') ≡ moves f customer) × (b' ≡ b)

  pub data Lived : PremiseFile M J → List Entry → List Happening → PremiseFile M J → List Entry → Type 0 where
    start : {f : PremiseFile M J} {b : List Entry} → Lived f b [] f b
    next : {f0 : PremiseFile M J} {b0 : List Entry} {es : List Happening} {f : PremiseFile M J} {b : List Entry} {f' : PremiseFile M J} {b' : List Entry} (e : Happening)
        → Lived f0 b0 es f b → Happens f b e f' b' → Lived f0 b0 (es ++ (e ∷ [])) f' b'

  -- what a call does after the history es; a refused one does nothing
  abbrev pub Billed : PremiseFile M J → List Happening → PremiseFile M J → List Entry → Happening → PremiseFile M J → List Entry → Type 0
  Billed f0 es f b (Read day register (Ok a)) f' b' = ReadBill higher f0 es f b day register a f' b'
  Billed f0 es f b (Read day register (Err n)) f' b' = (f' ≡ f) × (b' ≡ b)
  Billed f0 es f b (Miss day (Ok a)) f' b' = Missed table f0 es f b day a f' b'
  Billed f0 es f b (Miss day (Err n)) f' b' = NotMissed table f0 es f b day n f' b'
  Billed f0 es f b (Move customer (Ok a)) f' b' = (b' ≡ b) × (in_use f ≡ f.settled)
  Billed f0 es f b (Move customer (Err n)) f' b' = (f' ≡ f) × (b' ≡ b)

  pub record Law (f0 : PremiseFile M J) (b0 : List Entry) (es : List Happening) (f : PremiseFile M J) (b : List Entry) : Type 0 where
    -- the kWh of the entries up to the last accepted read are the sum of the dial's advances
    pub bills_meet_dial : settled_total f b ≡ advances (turn_of f0.dial) f0.register (registers es)
    -- there is one entry for each accepted read or miss, and so it is up to the last accepted read
    pub one_entry_each : in_use f ≡ accepted es
    pub settled_to_read : f.settled ≡ accepted_to_read es
    -- the book passes the file's check, so no call is refused for it
    pub own_book : fits f b ≡ true
    -- each open entry is put off or holds its method's figure
    pub open_bills : (k : ℕ) → f.settled ≤ k → k < in_use f → BillAt table f0.method f0.rate b k
    -- no call since has changed an entry up to an earlier accepted read
    pub settled_stands : (es1 es2 : List Happening) (f1 : PremiseFile M J) (b1 : List Entry) → es ≡ es1 ++ es2 → Lived f0 b0 es1 f1 b1 → Lived f1 b1 es2 f b
        → (f1.settled ≤ f.settled) × (take f1.settled b ≡ take f1.settled b1)
    -- every call of the history, and any next one, bills as it should
    pub each_call : (es1 : List Happening) (f1 : PremiseFile M J) (b1 : List Entry) (e : Happening) (f2 : PremiseFile M J) (b2 : List Entry) → Lived f0 b0 es1 f1 b1 → Happens f1 b1 e f2 b2 → Billed f0 es1 f1 b1 e f2 b2

  -- after every history of a file opened with one book, to which this call is added
  abbrev pub KeepsLaw : PremiseFile M J → List Entry → List Happening → PremiseFile M J → List Entry → Type 0
  KeepsLaw f b more f' b' =
      (f0 : PremiseFile M J) (b0 : List Entry) (es : List Happening) → Opened f0 b0 → Lived f0 b0 es f b → Law f0 b0 (es ++ more) f' b'

-- whether two sums are the same, or the first refusal of them
abbrev pub same_sums : Result ℕ ℕ → Result ℕ ℕ → Result Bool ℕ
same_sums (Ok m) (Ok n) = Ok (m == n)
same_sums (Ok m) (Err e) = Err e
same_sums (Err e) y = Err e

-- two files of any makes that were opened on the same dial and register, and have accepted the same registers in the same
-- order, hold the same kWh up to their last accepted reads
module _ {M J N K : Type 0} (table : M → List Entry → Question → Option Basis) (higher : J → ℕ → ℕ → ℕ → Bool)
    (table' : N → List Entry → Question → Option Basis) (higher' : K → ℕ → ℕ → ℕ → Bool) where
  abbrev pub Agree : PremiseFile M J → List Entry → PremiseFile N K → List Entry → Type 0
  Agree f b g c =
      (f0 : PremiseFile M J) (b0 : List Entry) (es : List Happening) (g0 : PremiseFile N K) (c0 : List Entry) (fs : List Happening)
      → Opened f0 b0 → Lived table higher f0 b0 es f b → Opened g0 c0 → Lived table' higher' g0 c0 fs g c
      → f0.dial ≡ g0.dial → f0.register ≡ g0.register → registers es ≡ registers fs → (settled_total f b ≡ settled_total g c) × (same_sums (settled_sum f b) (settled_sum g c) ≡ Ok true)

-- What the calls of a premise's file answer, and what file and book then hold. `table` is what the file's method means,
-- `higher` what its judgement means.
--   in_use f                      how many entries of the book are in use, its first
--   open_run f b                  the open entries, those after the last accepted read
--   open_sum f b                  their kWh: the carry-over
--   settled_total f b             the kWh of the entries up to the last accepted read
--   usage_days_of f b day         the usage days of a period that ends on that day: its days and the put-off days before it
--   fits f b                      the book is as long as at the opening, and each entry in use is sound
--   opens, reads, misses, moves   the outcome of each call
use Rattle.std.specs.Prelude.{ℕ, ◌+◌, ◌-◌, ◌<◌, Bool, true, false, cond, ◌&&◌, ◌||◌, List, [], ◌∷◌, ◌++◌, length, get_or, take, drop, Some, None, Ok, Err, Option, Result, ◌==◌, nat_le, nat_lt, slice_index_or, slice_set}
use Rattle.std.specs.Borrow.{Bor}
use Rattle.calendar.specs.Calendar.{last_day}
use Rattle.measures.specs.Refusals.{off_calendar, no_customer, bad_places, off_dial, not_the_book, off_period, book_full, no_answer, past_dial, open_entries, same_customer}
use Rattle.measures.specs.declared.dial.Dial.{Dial}
use Rattle.measures.specs.declared.rate.Rate.{Rate}
use Rattle.measures.specs.declared.entry.Entry.{Entry}
use Rattle.measures.specs.declared.entry.Kind.{Kind}
use Rattle.measures.specs.declared.entry.Kind.TheVariants.{Actual, TrueUp, Estimated, PutOff}
use Rattle.measures.specs.Dial.{dial_of, turn_of, advance_on}
use Rattle.measures.specs.Entry.{kind_number, total_kwh, total_usage_days}
use Rattle.sharing.specs.Sharing.{shared}
use Rattle.sharing.specs.Entries.{entry_part, entry_weight, entry_given}
use Rattle.estimating.specs.declared.basis.Question.{Question}
use Rattle.estimating.specs.declared.basis.Basis.{Basis}
use Rattle.estimating.specs.Estimates.{estimate}
use Rattle.premise.specs.declared.condition.Condition.{Condition}
use Rattle.premise.specs.declared.condition.Condition.TheVariants.{Fresh, Settled, Waiting, Carrying}
use Rattle.premise.specs.declared.event.Event.{Event}
use Rattle.premise.specs.declared.event.Event.TheVariants.{Read, Miss, Move}
use Rattle.premise.specs.declared.period.Billing.{Billing}
use Rattle.premise.specs.declared.period.Billing.TheVariants.{Alone, Shared}
use Rattle.premise.specs.declared.file.PremiseFile.{PremiseFile}
use Rattle.premise.specs.Books.{no_entry, sound, any_estimated, corrections, waiting_days}

-- how many entries are open
abbrev pub open_count : Condition → ℕ
open_count Fresh = 0
open_count Settled = 0
open_count Waiting = 1
open_count (Carrying n) = n

-- the next entry is the first since the opening or a move
abbrev pub is_fresh : Condition → Bool
is_fresh Fresh = true
is_fresh Settled = false
is_fresh Waiting = false
is_fresh (Carrying n) = false

-- an entry is open
abbrev pub has_open : Condition → Bool
has_open Fresh = false
has_open Settled = false
has_open Waiting = true
has_open (Carrying n) = true

-- an initial period under 11 days is put off
abbrev pub puts_off : Condition → ℕ → Bool
puts_off c days = is_fresh c && nat_lt days 11

-- what a file waits for once a period of so many days was missed
abbrev pub missed : Condition → ℕ → Condition
missed Fresh days = cond (nat_lt days 11) Waiting (Carrying 1)
missed Settled days = Carrying 1
missed Waiting days = Carrying 2
missed (Carrying n) days = Carrying (n + 1)

abbrev pub with_advance : Result ℕ ℕ → ℕ → Result (ℕ × ℕ) ℕ
with_advance (Ok days) a = Ok (days, a)
with_advance (Err e) a = Err e

abbrev pub as_actual : Entry → Entry
as_actual e =
    record { customer = e.customer; end_day = e.end_day; days = e.days; usage_days = e.usage_days; kind = Actual; rung = e.rung; initial = e.initial; kwh = e.kwh }

-- the file can count one entry more
abbrev pub Room : Event → ℕ → Type 0
Room (Read day register) n = n < 255
Room (Miss day days) n = n < 255
Room (Move customer) n = Unit {0}

-- what a lent answer holds
abbrev pub seen : {X E : Type 0} → Result (Bor X) E → Result X E
seen (Ok r) = Ok r.now
seen (Err e) = Err e

module _ {M J : Type 0} where
  abbrev pub in_use : PremiseFile M J → ℕ
  in_use f = f.settled + open_count f.condition

  abbrev pub open_run : PremiseFile M J → List Entry → List Entry
  open_run f b = take (open_count f.condition) (drop f.settled b)

  abbrev pub open_sum : PremiseFile M J → List Entry → ℕ
  open_sum f b = total_kwh (open_run f b)

  -- no file has more entries in use than its book has places: that test is for a book of another file
  abbrev pub fits : PremiseFile M J → List Entry → Bool
  fits f b = length b == f.places && (nat_le (in_use f) (length b) && sound (turn_of f.dial) (take (in_use f) b))

  abbrev pub used_part : PremiseFile M J → List Entry → Result (List Entry) ℕ
  used_part f b = cond (fits f b) (Ok (take (in_use f) b)) (Err not_the_book)

  abbrev pub open_part : PremiseFile M J → List Entry → Result (List Entry) ℕ
  open_part f b = cond (fits f b) (Ok (open_run f b)) (Err not_the_book)

  abbrev pub carry_over : PremiseFile M J → List Entry → Result ℕ ℕ
  carry_over f b = cond (fits f b) (Ok (open_sum f b)) (Err not_the_book)

  -- the kWh of the entries up to the last accepted read
  abbrev pub settled_total : PremiseFile M J → List Entry → ℕ
  settled_total f b = total_kwh (take f.settled b)

  abbrev pub settled_sum : PremiseFile M J → List Entry → Result ℕ ℕ
  settled_sum f b = cond (fits f b) (Ok (settled_total f b)) (Err not_the_book)

  -- the day is 1 to 99 days after the day last closed
  abbrev pub next_period : PremiseFile M J → ℕ → Bool
  next_period f day = nat_lt f.day day && nat_le day (f.day + 99)

  -- the days of a period that may be closed
  abbrev pub may_close : PremiseFile M J → List Entry → ℕ → Result ℕ ℕ
  may_close f b day =
      cond (next_period f day) (cond (nat_lt (in_use f) (length b)) (Ok (day - f.day)) (Err book_full)) (Err off_period)

  abbrev pub may_miss : PremiseFile M J → List Entry → ℕ → Result ℕ ℕ
  may_miss f b day = cond (fits f b) (cond (nat_le day last_day) (may_close f b day) (Err off_calendar)) (Err not_the_book)

  abbrev pub then_close : Result ℕ ℕ → PremiseFile M J → List Entry → ℕ → Result (ℕ × ℕ) ℕ
  then_close (Ok a) f b day = with_advance (may_close f b day) a
  then_close (Err e) f b day = Err e

  -- the days of a period that may be closed by a read, and the advance of its register
  abbrev pub may_read : PremiseFile M J → List Entry → ℕ → ℕ → Result (ℕ × ℕ) ℕ
  may_read f b day register =
      cond (fits f b)
      (cond (nat_le day last_day) (then_close (advance_on f.dial f.register register) f b day) (Err off_calendar))
      (Err not_the_book)

  abbrev pub usage_days_of : PremiseFile M J → List Entry → ℕ → ℕ
  usage_days_of f b day = (day - f.day) + waiting_days (in_use f) b

  -- the entry of a period that ends on a day
  abbrev pub closing : PremiseFile M J → List Entry → ℕ → Kind → ℕ → ℕ → Entry
  closing f b day kind rung kwh =
      record { customer = f.customer; end_day = day; days = day - f.day; usage_days = usage_days_of f b day; kind = kind; rung = rung; initial = is_fresh f.condition; kwh = kwh }

  -- a put-off entry has no usage days: the next entry takes them over
  abbrev pub putting_off : PremiseFile M J → ℕ → Entry
  putting_off f day =
      record { customer = f.customer; end_day = day; days = day - f.day; usage_days = 0; kind = PutOff; rung = 0; initial = is_fresh f.condition; kwh = 0 }

  -- the file after an accepted read, miss or move
  abbrev pub settling : PremiseFile M J → ℕ → ℕ → ℕ → PremiseFile M J
  settling f more day register =
      record { method = f.method; judgement = f.judgement; rate = f.rate; dial = f.dial; places = f.places; settled = f.settled + more; condition = Settled; day = day; register = register; customer = f.customer }

  abbrev pub after_read : PremiseFile M J → ℕ → ℕ → PremiseFile M J
  after_read f day register = settling f (open_count f.condition + 1) day register

  abbrev pub after_miss : PremiseFile M J → ℕ → ℕ → PremiseFile M J
  after_miss f day days =
      record { method = f.method; judgement = f.judgement; rate = f.rate; dial = f.dial; places = f.places; settled = f.settled; condition = missed f.condition days; day = day; register = f.register; customer = f.customer }

  abbrev pub after_move : PremiseFile M J → ℕ → PremiseFile M J
  after_move f customer =
      record { method = f.method; judgement = f.judgement; rate = f.rate; dial = f.dial; places = f.places; settled = f.settled; condition = Fresh; day = f.day; register = f.register; customer = customer }

  abbrev pub entered : PremiseFile M J → Event → Result (Unit {0}) ℕ × PremiseFile M J
  entered f (Read day register) = (Ok tt, after_read f day register)
  entered f (Miss day days) = (Ok tt, after_miss f day days)
  entered f (Move customer) = cond (has_open f.condition) (Err open_entries, f) (Ok tt, after_move f customer)

  abbrev pub moves : PremiseFile M J → ℕ → Result (Unit {0}) ℕ × PremiseFile M J
  moves f customer =
      cond (customer == 0) (Err no_customer, f)
      (cond (has_open f.condition) (Err open_entries, f)
      (cond (customer == f.customer) (Err same_customer, f) (Ok tt, after_move f customer)))

  -- the open entries and the entry of the read, once the advance is shared out over them
  abbrev pub shared_run : PremiseFile M J → List Entry → ℕ → ℕ → List Entry
  shared_run f b day a = shared entry_part entry_weight entry_given a (open_run f b ++ (closing f b day Actual 0 0 ∷ []))

  -- the book then: the open entries are corrected, and the entry of the read is an actual one
  abbrev pub corrected_book : PremiseFile M J → List Entry → ℕ → ℕ → List Entry
  corrected_book f b day a =
      take f.settled b
      ++ (take (open_count f.condition) (shared_run f b day a)
      ++ (as_actual (slice_index_or (shared_run f b day a) (open_count f.condition) no_entry) ∷ drop (in_use f + 1) b))

  -- with no estimate open a read bills its advance; else it shares it out where it is below the open sum or judged
  -- considerably higher, and otherwise trues up to it
  abbrev pub billing : (J → ℕ → ℕ → ℕ → Bool) → PremiseFile M J → List Entry → ℕ → ℕ → Billing
  billing higher f b day a =
      cond (any_estimated (open_run f b))
      (cond (nat_lt a (open_sum f b) || higher f.judgement a (open_sum f b) (total_usage_days (open_run f b) + usage_days_of f b day)) Shared (Alone TrueUp (a - open_sum f b)))
      (Alone Actual a)

  abbrev pub billed : Billing → PremiseFile M J → List Entry → ℕ → ℕ → (ℕ × ℕ × ℕ) × List Entry
  billed (Alone kind kwh) f b day a = ((kind_number kind, kwh, 0), slice_set b (in_use f) (closing f b day kind 0 kwh))
  billed Shared f b day a =
      ((1, (get_or (corrected_book f b day a) (in_use f) no_entry).kwh, corrections (open_run f b)), corrected_book f b day a)

  -- an answer, and file and book then
  abbrev pub read_accepted : (ℕ × ℕ × ℕ) × List Entry → PremiseFile M J → Result (ℕ × ℕ × ℕ) ℕ × PremiseFile M J × List Entry
  read_accepted ab f = (Ok ab.0, f, ab.1)

  abbrev pub read_with : (J → ℕ → ℕ → ℕ → Bool) → Result (ℕ × ℕ) ℕ → PremiseFile M J → List Entry → ℕ → ℕ → Result (ℕ × ℕ × ℕ) ℕ × PremiseFile M J × List Entry
  read_with higher (Ok da) f b day register = read_accepted (billed (billing higher f b day da.1) f b day da.1) (after_read f day register)
  read_with higher (Err e) f b day register = (Err e, f, b)

  abbrev pub reads : (J → ℕ → ℕ → ℕ → Bool) → PremiseFile M J → List Entry → ℕ → ℕ → Result (ℕ × ℕ × ℕ) ℕ × PremiseFile M J × List Entry
  reads higher f b day register = read_with higher (may_read f b day register) f b day register

  -- what is asked of the method for a period that ends on a day
  abbrev pub question : PremiseFile M J → ℕ → Question
  question f day = record { customer = f.customer; start_day = f.day; end_day = day; rate = f.rate }

  -- the figure of a missed period: kind, rung and kWh
  abbrev pub figure_from : Option Basis → PremiseFile M J → List Entry → ℕ → Result (ℕ × ℕ) ℕ
  figure_from (Some basis) f b day =
      cond (nat_lt (open_sum f b + estimate basis (usage_days_of f b day)) (turn_of f.dial)) (Ok (basis.rung, estimate basis (usage_days_of f b day))) (Err past_dial)
  figure_from None f b day = Err no_answer

  abbrev pub miss_estimated : Result (ℕ × ℕ) ℕ → PremiseFile M J → List Entry → ℕ → Result (ℕ × ℕ × ℕ) ℕ × PremiseFile M J × List Entry
  miss_estimated (Ok rk) f b day =
      (Ok (3, rk.0, rk.1), after_miss f day (day - f.day), slice_set b (in_use f) (closing f b day Estimated rk.0 rk.1))
  miss_estimated (Err e) f b day = (Err e, f, b)

  abbrev pub miss_with : (M → List Entry → Question → Option Basis) → Result ℕ ℕ → PremiseFile M J → List Entry → ℕ → Result (ℕ × ℕ × ℕ) ℕ × PremiseFile M J × List Entry
  miss_with table (Ok days) f b day =
      cond (puts_off f.condition days)
      (Ok (4, 0, 0), after_miss f day days, slice_set b (in_use f) (putting_off f day))
      (miss_estimated (figure_from (table f.method (take (in_use f) b) (question f day)) f b day) f b day)
  miss_with table (Err e) f b day = (Err e, f, b)

  abbrev pub misses : (M → List Entry → Question → Option Basis) → PremiseFile M J → List Entry → ℕ → Result (ℕ × ℕ × ℕ) ℕ × PremiseFile M J × List Entry
  misses table f b day = miss_with table (may_miss f b day) f b day

  -- the file as it is opened
  abbrev pub opened : M → J → Rate → Dial → ℕ → ℕ → ℕ → ℕ → PremiseFile M J
  opened m j rate dial day register customer places =
      record { method = m; judgement = j; rate = rate; dial = dial; places = places; settled = 0; condition = Fresh; day = day; register = register; customer = customer }

  abbrev pub open_on : M → J → Rate → Result Dial ℕ → ℕ → ℕ → ℕ → ℕ → Result (PremiseFile M J) ℕ
  open_on m j rate (Ok dial) day register customer places =
      cond (nat_le day last_day)
      (cond (nat_lt register (turn_of dial))
      (cond (customer == 0) (Err no_customer)
      (cond (nat_le 1 places && nat_le places 240) (Ok (opened m j rate dial day register customer places)) (Err bad_places)))
      (Err off_dial))
      (Err off_calendar)
  open_on m j rate (Err e) day register customer places = Err e

  abbrev pub opens : M → J → Rate → ℕ → ℕ → ℕ → ℕ → List Entry → Result (PremiseFile M J) ℕ
  opens m j rate digits day register customer b = open_on m j rate (dial_of digits) day register customer (length b)

-- The dial of a meter.
--   digits_of d     how many digits the dial d has
--   turn_of d       the number at which it is back at 0; its registers are the numbers below
--   advance t p r   how far a dial that turns at t went from register p to register r
--   Brings t p r a  the number a below t, and no other, brings such a dial from p to r
use Rattle.std.specs.Prelude.{◌≡◌, ℕ, ◌+◌, ◌-◌, ◌%◌, ◌^◌, ◌<◌, ◌≤◌, cond, ◌&&◌, Ok, Err, Result, ◌==◌, ◌≢◌, nat_le, nat_lt}
use Rattle.measures.specs.declared.dial.Dial.{Dial}
use Rattle.measures.specs.declared.dial.Dial.TheVariants.{Four, Five, Six, Seven, Eight}
use Rattle.measures.specs.Refusals.{bad_digits, off_dial}

abbrev pub digits_of : Dial → ℕ
digits_of Four = 4
digits_of Five = 5
digits_of Six = 6
digits_of Seven = 7
digits_of Eight = 8

abbrev pub turn_of : Dial → ℕ
turn_of d = 10 ^ digits_of d

abbrev pub dial_of : ℕ → Result Dial ℕ
dial_of n =
    cond (n == 4) (Ok Four) (cond (n == 5) (Ok Five) (cond (n == 6) (Ok Six) (cond (n == 7) (Ok Seven) (cond (n == 8) (Ok Eight) (Err bad_digits)))))

-- a dial that was found has the digits asked for, and none is refused that has them
abbrev pub Shows : ℕ → Result Dial ℕ → Type 0
Shows n (Ok d) = digits_of d ≡ n
Shows n (Err e) = (e ≡ bad_digits) × ((d : Dial) → digits_of d ≢ n)

abbrev pub advance : ℕ → ℕ → ℕ → ℕ
advance t p r = (t - p + r) % t

pub record Brings (t p r a : ℕ) : Type 0 where
  pub below : a < t
  pub arrives : (p + a) % t ≡ r
  pub only : (b : ℕ) → b < t → (p + b) % t ≡ r → b ≡ a

-- the advance between two registers, or a refusal where one is off the dial
abbrev pub advance_on : Dial → ℕ → ℕ → Result ℕ ℕ
advance_on d p r = cond (nat_lt p (turn_of d) && nat_lt r (turn_of d)) (Ok (advance (turn_of d) p r)) (Err off_dial)

abbrev pub Advances : Dial → ℕ → ℕ → Result ℕ ℕ → Type 0
Advances d p r (Ok a) = Brings (turn_of d) p r a
Advances d p r (Err e) = (e ≡ off_dial) × (p < turn_of d → r < turn_of d → ⊥)

-- the same where the dial is known by its digits alone
abbrev pub on_dial : Result Dial ℕ → ℕ → ℕ → Result ℕ ℕ
on_dial (Ok d) p r = advance_on d p r
on_dial (Err e) p r = Err e

abbrev pub advance_of : ℕ → ℕ → ℕ → Result ℕ ℕ
advance_of n p r = on_dial (dial_of n) p r

-- an answer is the one advance of a dial of n digits; a refusal of the digits comes before one of a register
abbrev pub Advanced : ℕ → ℕ → ℕ → Result ℕ ℕ → Type 0
Advanced n p r (Ok a) = (4 ≤ n) × (n ≤ 8) × Brings (10 ^ n) p r a
Advanced n p r (Err e) =
    (e ≡ cond (nat_le 4 n && nat_le n 8) off_dial bad_digits) × (4 ≤ n → n ≤ 8 → p < 10 ^ n → r < 10 ^ n → ⊥)

use Rattle.std.proofs.Common.{◌≡◌, ℕ, ◌+◌, ◌*◌, ◌^◌, ◌<◌, List, length, get_or, take, decimal, sym, ap, ◌∙◌, subst, arith}
use Rattle.std.specs.Str.Parse.{digits_value, AllDigits}
use Rattle.std.proofs.lemmas.List.{take_all}
use Rattle.std.proofs.lemmas.Str.{digit_value_digit}
use Rattle.std.proofs.lemmas.Int.Digits.{digits_value_more, digits_more}
use Rattle.fields.proofs.Texts.{some_byte, zero_alone, digit_byte, front_within, text_of_value}
use Rattle.fields.proofs.number.written.Goals as goal
use Rattle.fields.proofs.number.written.Goals.{Else-not-is_ascii_digit, in_default, in_default-2}

pub returns-in-empty : goal.returns-in-empty
returns-in-empty c n small e = omega (arith, some_byte c.args.field.now n small e)

pub returns-in-empty-2 : goal.returns-in-empty-2
returns-in-empty-2 c n small e = omega (arith, zero_alone c.args.field.now n small e (omega arith))

pub returns-then-not-is_ascii_digit : goal.returns-then-not-is_ascii_digit
returns-then-not-is_ascii_digit c n small e =
    let d = digit_byte c.args.field.now n small e c.loop-byte.byte-index c.loop-byte-test.true in
    omega (arith, d.0, d.1, c.if-not-is_ascii_digit.ensures.cases)

-- at a digit: what is written so far, and with it
more : (c : Else-not-is_ascii_digit) → digits_value 10 (take (c.loop-byte.byte-index + 1) c.args.field.now) + 48 ≡ c.loop-byte.number * 10 + get_or c.args.field.now c.loop-byte.byte-index 0
more c =
    let bs = c.args.field.now in
    let i = c.loop-byte.byte-index in
    omega (arith, digits_value_more 10 bs i c.loop-byte-test.true, c.loop-byte.invariant.0, digit_value_digit (get_or bs i 0) c.if-not-is_ascii_digit.ensures.cases)

-- the bytes so far with a digit are no more than the number that the field writes
within : (c : Else-not-is_ascii_digit) (n : ℕ) → n < 2 ^ 32 → c.args.field.now ≡ decimal n → c.loop-byte.number * 10 + get_or c.args.field.now c.loop-byte.byte-index 0 < 2 ^ 32 + 48
within c n small e = omega (arith, more c, front_within c.args.field.now n small e (c.loop-byte.byte-index + 1))

pub returns-in_err-checked_mul : goal.returns-in_err-checked_mul
returns-in_err-checked_mul c =
    let p = (goal.at.returns-in_err-checked_mul c).Else-not-is_ascii_digit in
    rw c.from_residual.ensures (λ n small e. omega (arith, within p n small e, c.if-not-is_ascii_digit.ensures.cases.0, c.in_err-checked_mul.ensures))

pub returns-in_err-number : goal.returns-in_err-number
returns-in_err-number c =
    let p = (goal.at.returns-in_err-number c).Else-not-is_ascii_digit in
    rw c.from_residual-in_err-number.ensures (λ n small e. omega (arith, within p n small e, c.if-not-is_ascii_digit.ensures.cases.0, c.in_ok-checked_mul.ensures, c.in_err-number.ensures))

pub loop-byte-preserved : goal.loop-byte-preserved
loop-byte-preserved c =
    let p = (goal.at.loop-byte-preserved c).Else-not-is_ascii_digit in
    (omega (arith, more p, c.if-not-is_ascii_digit.ensures.cases.0, c.in_ok-checked_mul.ensures, c.in_ok-number.ensures), digits_more 10 c.args.field.now c.loop-byte.byte-index c.loop-byte-test.true c.loop-byte.invariant.1 c.if-not-is_ascii_digit.ensures.bound, omega (arith, c.in_ok-number.ensures))

pub returns : goal.returns
returns c =
    let bs = c.args.field.now in
    let i = c.loop-byte.byte-index in
    let all : take i bs ≡ bs = take_all i bs c.loop-byte-test.false in
    let ds : AllDigits 10 bs = subst (λ (t : List ℕ). AllDigits 10 t) all c.loop-byte.invariant.1 in
    let v : c.loop-byte.number ≡ digits_value 10 bs = c.loop-byte.invariant.0 ∙ ap (digits_value 10) all in
    let some : 0 < length bs = omega arith in
    let alone : get_or bs 0 0 ≡ 48 → length bs ≡ 1 = elim c.if-field-lt2.branch [ in_default w ↦ λ z. omega (arith, z) | in_default-2 w ↦ λ z. omega (arith, z) ] in
    (text_of_value bs ds some alone (omega (arith, v, c.loop-byte.invariant.2)) ∙ ap decimal (sym v), c.loop-byte.invariant.2)

-- The decimal text of a number of 32 bits.
use Rattle.std.proofs.Common.{◌≡◌, ℕ, zero, suc, ◌+◌, ◌*◌, ◌/◌, ◌%◌, ◌^◌, ◌<◌, ◌≤◌, [], ◌∷◌, length, decimal, Some, None, Option, unwrap_or, sym, ap, ◌∙◌, arith}
use Rattle.std.specs.Option.{IfNone, IfSome}
use Rattle.std.proofs.lemmas.List.{length-append}
use Rattle.std.proofs.lemmas.Fmt.{decimal_digit, decimal_step, length-decimal-le}

one_more : (n : ℕ) → n < 2 ^ 32 → 10 ≤ n → length (decimal n) ≡ length (decimal (n / 10)) + 1
one_more n h l = ap length (decimal_step n l (omega arith)) ∙ length-append (decimal (n / 10)) ((48 + n % 10) ∷ [])

pub ten_at_most : (n : ℕ) → n < 2 ^ 32 → length (decimal n) ≤ 10
ten_at_most n h = length-decimal-le 10 n (omega arith) (omega arith) (omega arith)

pub five_at_most : (n : ℕ) → n < 2 ^ 16 → length (decimal n) ≤ 5
five_at_most n h = length-decimal-le 5 n (omega arith) (omega arith) (omega arith)

pub three_at_most : (n : ℕ) → n < 2 ^ 8 → length (decimal n) ≤ 3
three_at_most n h = length-decimal-le 3 n (omega arith) (omega arith) (omega arith)

pub one_digit : (n : ℕ) → n < 10 → length (decimal n) ≡ 1
one_digit n h = ap length (decimal_digit n h)

digits_at : (k n : ℕ) → n < 2 ^ 32 → 10 ^ k ≤ n → n < 10 * 10 ^ k → length (decimal n) ≡ k + 1
digits_at zero n small low high = one_digit n (omega (arith, high))
digits_at (suc k) n small low high = omega (arith, low, high, one_more n small (omega (arith, low)), digits_at k (n / 10) (omega (arith, small)) (omega (arith, low)) (omega (arith, high)))

-- the logarithm counts the digits after the first
pub digits_counted : (n : ℕ) (o : Option ℕ) → n < 2 ^ 32 → IfNone o (n ≡ 0) → IfSome o (λ k. 10 ^ k ≤ n) → IfSome o (λ k. n < 10 * 10 ^ k) → unwrap_or o 0 + 1 ≡ length (decimal n)
digits_counted n (Some k) small none low high = sym (digits_at k n small low high)
digits_counted n None small none low high = sym (one_digit n (omega (arith, none)))

-- Numbers as fields write them.
--   number_of bs  the number that the digits of bs write, where it has 32 bits and bs is its decimal text
--   Tells bs r    r is the number of 32 bits whose decimal text is bs, and none where there is no such number
use Rattle.std.specs.Prelude.{◌≡◌, ℕ, ◌^◌, ◌<◌, cond, ◌&&◌, List, Some, None, decimal, Option, ◌≢◌, nat_lt}
use Rattle.std.specs.Str.Parse.{digits_value}
use Rattle.std.specs.Str.{bytes_eq}

abbrev pub number_of : List ℕ → Option ℕ
number_of bs = cond (nat_lt (digits_value 10 bs) (2 ^ 32) && bytes_eq bs (decimal (digits_value 10 bs))) (Some (digits_value 10 bs)) None

abbrev pub Tells : List ℕ → Option ℕ → Type 0
Tells bs (Some n) = (bs ≡ decimal n) × (n < 2 ^ 32)
Tells bs None = (n : ℕ) → n < 2 ^ 32 → bs ≢ decimal n

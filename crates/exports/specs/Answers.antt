-- What a call answers to C.
--   answered r   the number of an accepted call, and the number of a refusal, negative
use Rattle.std.specs.Prelude.{ℕ, ℤ, pos, neg_ℤ, Ok, Err, Result}

abbrev pub answered : Result ℕ ℕ → ℤ
answered (Ok n) = pos n
answered (Err e) = neg_ℤ (pos e)

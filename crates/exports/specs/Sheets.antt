-- The listing of a sheet, for C.
--   ListedFor t b b' r   r is the number of bytes of the text t, which is in front of the buffer; or the buffer is too
--                         short or there is no memory, as r tells, and it stays as it was
use Rattle.std.specs.Prelude.{◌≡◌, ℕ, ◌<◌, ◌≤◌, List, length, ℤ, Ok, Err}
use Rattle.measures.specs.Refusals.{may_not_fit}
use Rattle.listing.specs.Listing.{in_front}
use Rattle.exports.specs.Answers.{answered}

abbrev pub no_memory : ℕ
no_memory = 255

-- the three ways that a call can end
pub data ListedFor (text before after : List ℕ) (r : ℤ) : Type 0 where
  listed : 16384 ≤ length before → r ≡ answered (Ok (length text)) → after ≡ in_front text before → ListedFor text before after r
  too_short : length before < 16384 → r ≡ answered (Err may_not_fit) → after ≡ before → ListedFor text before after r
  unlisted : 16384 ≤ length before → r ≡ answered (Err no_memory) → after ≡ before → ListedFor text before after r

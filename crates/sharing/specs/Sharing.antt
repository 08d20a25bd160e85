-- A total shared out over a list of records. Of a record, `part` tells whether it takes part, `weight` its weight,
-- `put` the record once it has taken a share, and `share` the share that it holds.
--   sum_of part figure xs    a figure summed over those of the records that take part
--   running total w c        what the records get together whose weights come to c of w: the exact part, rounded down
--   shared .. total xs       the records once each that takes part has its share
--   verdict .. total xs      whether the total is shared out, or by which number it is refused
--   RoundedDown q n d        q is n / d rounded down
--   SharedOut .. xs ys       what holds of the records before and after
use Rattle.std.specs.Prelude.{◌≡◌, ℕ, ◌+◌, ◌-◌, ◌*◌, ◌/◌, ◌<◌, ◌≤◌, Bool, true, false, cond, ◌&&◌, List, [], ◌∷◌, length, take, Some, None, Ok, Err, Option, Result, ◌==◌, nat_le, nat_lt, slice_index_or}
use Rattle.measures.specs.Refusals.{no_weight, sharing_limits}

abbrev pub sum_of : {R : Type 0} → (R → Bool) → (R → ℕ) → List R → ℕ
sum_of part figure [] = 0
sum_of part figure (x ∷ xs) = cond (part x) (figure x) 0 + sum_of part figure xs

unfoldable pub running : ℕ → ℕ → ℕ → ℕ
running total w c = cond (w == 0) 0 (total * c / w)

-- the records from a place on, where the weights before it come to c: a record's share is its running total less the
-- one before it
abbrev pub shared_from : {R : Type 0} → (R → Bool) → (R → ℕ) → (R → ℕ → R) → ℕ → ℕ → ℕ → List R → List R
shared_from part weight put total w c [] = []
shared_from part weight put total w c (x ∷ xs) =
    cond (part x) (put x (running total w (c + weight x) - running total w c)) x
    ∷ shared_from part weight put total w (c + cond (part x) (weight x) 0) xs

abbrev pub shared : {R : Type 0} → (R → Bool) → (R → ℕ) → (R → ℕ → R) → ℕ → List R → List R
shared part weight put total xs = shared_from part weight put total (sum_of part weight xs) 0 xs

-- each weight that takes part is at most 1,000,000
abbrev pub light : {R : Type 0} → (R → Bool) → (R → ℕ) → List R → Bool
light part weight [] = true
light part weight (x ∷ xs) = cond (part x) (nat_le (weight x) 1000000) true && light part weight xs

abbrev pub weighed : {R : Type 0} → (R → Bool) → (R → ℕ) → List R → Option ℕ
weighed part weight xs = cond (light part weight xs) (Some (sum_of part weight xs)) None

-- beyond the limits comes before nothing to weigh by
abbrev pub verdict : {R : Type 0} → (R → Bool) → (R → ℕ) → ℕ → List R → Result (Unit {0}) ℕ
verdict part weight total xs =
    cond (nat_le total 1000000000 && (nat_le (length xs) 3360 && light part weight xs))
    (cond (sum_of part weight xs == 0 && nat_lt 0 total) (Err no_weight) (Ok tt))
    (Err sharing_limits)

pub record RoundedDown (q n d : ℕ) : Type 0 where
  pub not_above : q * d ≤ n
  pub not_below : n < (q + 1) * d

pub record SharedOut {R : Type 0} (part : R → Bool) (weight share : R → ℕ) (total : ℕ) (xs ys : List R) : Type 0 where
  -- the shares of those taking part sum to the total
  pub whole : sum_of part share ys ≡ total
  -- up to any place, they sum to the exact part rounded down
  pub run : (k : ℕ) → 0 < sum_of part weight xs → RoundedDown (sum_of part share (take k ys)) (total * sum_of part weight (take k xs)) (sum_of part weight xs)
  -- whoever takes no part stays as it is
  pub bystanders : (k : ℕ) (d : R) → k < length xs → part (slice_index_or xs k d) ≡ false → slice_index_or ys k d ≡ slice_index_or xs k d
  -- taking a share changes neither who takes part nor a weight
  pub same_length : length ys ≡ length xs
  pub same_part : (k : ℕ) (d : R) → k < length xs → part (slice_index_or ys k d) ≡ part (slice_index_or xs k d)
  pub same_weight : (k : ℕ) (d : R) → k < length xs → weight (slice_index_or ys k d) ≡ weight (slice_index_or xs k d)

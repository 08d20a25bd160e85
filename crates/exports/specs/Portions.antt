-- The records that C hands in to share a total out over.
--   portion_takes_part, portion_weight, portion_given, portion_share   what such a record tells and takes
--   nothing_more r   an accepted call that has nothing to tell answers 0
use Rattle.std.specs.Prelude.{ℕ, Bool, not, Ok, Err, Result, ◌==◌}
use Rattle.exports.specs.declared.portions.Portion.{Portion}

abbrev pub portion_takes_part : Portion → Bool
portion_takes_part p = not (p.takes_part == 0)

abbrev pub portion_weight : Portion → ℕ
portion_weight p = p.weight

abbrev pub portion_given : Portion → ℕ → Portion
portion_given p s = record { takes_part = p.takes_part; weight = p.weight; share = s }

abbrev pub portion_share : Portion → ℕ
portion_share p = p.share

abbrev pub nothing_more : Result (Unit {0}) ℕ → Result ℕ ℕ
nothing_more (Ok _) = Ok 0
nothing_more (Err e) = Err e

-- The standard method: the seven rungs, asked one after the other.
--   Standard               the type of the method
--   standard_rungs         the rungs in the order in which they are asked
--   standard_table m       what such rungs answer
--   standard book q        the answer of the first rung that has one
--   rung_answers book q    what each rung by itself answers, in order
--   rung_answer n book q   what rung n by itself answers
--   ByRung n book q b      rung n answers b, and no rung before it answers
--   ByTheLadder book q r   r is by rung n exactly when rung n is the first to answer, and none when none does
use Rattle.std.specs.Prelude.{◌≡◌, ℕ, ◌-◌, ◌<◌, ◌≤◌, List, [], ◌∷◌, Some, None, Option, slice_index_or}
use Rattle.measures.specs.declared.entry.Entry.{Entry}
use Rattle.estimating.specs.declared.basis.Question.{Question}
use Rattle.estimating.specs.declared.basis.Basis.{Basis}
use Rattle.estimating.specs.Tables.{first_then}
use Rattle.estimating.specs.declared.first_then.FirstThen.{FirstThen}
use Rattle.ladder.specs.declared.rungs.LastEntry.{LastEntry}
use Rattle.ladder.specs.declared.rungs.YearBack.{YearBack}
use Rattle.ladder.specs.declared.rungs.Seasonal.{Seasonal}
use Rattle.ladder.specs.declared.rungs.ClassFigure.{ClassFigure}
use Rattle.lookup.specs.declared.fit.Whose.TheVariants.{Customer, Anyone}
use Rattle.ladder.specs.Rungs.{last_entry, from_year_back, seasonal, class_figure}

abbrev pub Standard : Type 0
Standard = FirstThen LastEntry (FirstThen YearBack (FirstThen Seasonal (FirstThen LastEntry (FirstThen YearBack (FirstThen Seasonal ClassFigure)))))

abbrev pub standard_rungs : Standard
standard_rungs = record {
  first = record { whose = Customer };
  second = record {
    first = record { whose = Customer };
    second = record {
      first = record { whose = Customer };
      second = record {
        first = record { whose = Anyone };
        second = record {
          first = record { whose = Anyone };
          second = record { first = record { whose = Anyone }; second = record {} };
        };
      };
    };
  };
}

-- what such rungs answer, asked in turn
abbrev pub standard_table : Standard → List Entry → Question → Option Basis
standard_table m book q =
    first_then (last_entry m.first.whose book q)
    (first_then (from_year_back m.second.first.whose book q)
    (first_then (seasonal m.second.second.first.whose book q)
    (first_then (last_entry m.second.second.second.first.whose book q)
    (first_then (from_year_back m.second.second.second.second.first.whose book q)
    (first_then (seasonal m.second.second.second.second.second.first.whose book q) (class_figure q))))))

abbrev pub standard : List Entry → Question → Option Basis
standard book q =
    first_then (last_entry Customer book q)
    (first_then (from_year_back Customer book q)
    (first_then (seasonal Customer book q)
    (first_then (last_entry Anyone book q)
    (first_then (from_year_back Anyone book q)
    (first_then (seasonal Anyone book q) (class_figure q))))))

abbrev pub rung_answers : List Entry → Question → List (Option Basis)
rung_answers book q =
    last_entry Customer book q ∷ (from_year_back Customer book q ∷ (seasonal Customer book q
    ∷ (last_entry Anyone book q ∷ (from_year_back Anyone book q ∷ (seasonal Anyone book q
    ∷ (class_figure q ∷ []))))))

abbrev pub rung_answer : ℕ → List Entry → Question → Option Basis
rung_answer n book q = slice_index_or (rung_answers book q) (n - 1) None

pub record ByRung (n : ℕ) (book : List Entry) (q : Question) (b : Basis) : Type 0 where
  pub low : 1 ≤ n
  pub high : n ≤ 7
  pub answers : rung_answer n book q ≡ Some b
  pub none_before : (k : ℕ) → 1 ≤ k → k < n → rung_answer k book q ≡ None

pub record ByTheLadder (book : List Entry) (q : Question) (r : Option Basis) : Type 0 where
  -- each rung's answers bear its own number
  pub numbered : (n : ℕ) (b : Basis) → 1 ≤ n → n ≤ 7 → rung_answer n book q ≡ Some b → b.rung ≡ n
  -- an answer is of the rung that it bears, the first that has one
  pub answered : (b : Basis) → r ≡ Some b → ByRung b.rung book q b
  pub first_answers : (n : ℕ) (b : Basis) → ByRung n book q b → r ≡ Some b
  -- none exactly when no rung has one
  pub none_answers : r ≡ None → (n : ℕ) → 1 ≤ n → n ≤ 7 → rung_answer n book q ≡ None
  pub no_answer : ((n : ℕ) → 1 ≤ n → n ≤ 7 → rung_answer n book q ≡ None) → r ≡ None

-- The demand of a period: the answers, asked one after the other.
--   demand_makes               the methods in the order in which they are asked
--   first_answer book q        the answer of the first method that has one
--   demand_of book q           that answer, or the number of a refusal
--   answers_by_number book q   what each answer by itself is, in order; there is no answer 5
--   answer_by n book q         what answer n by itself is
--   ByAnswer n book q a        answer n is a, and there is no answer before it
--   ByTheAnswers book q r      r is by answer n exactly when n is the first that there is, and 14 when there is none
use Rattle.std.specs.Prelude.{◌≡◌, ℕ, ◌<◌, cond, List, [], ◌∷◌, length, Some, None, Ok, Err, Option, Result, ◌==◌, nat_lt, slice_index_or}
use Rattle.measures.specs.Refusals.{no_customer, no_answer, long_demand_book, bad_figures}
use Rattle.estimating.specs.declared.first_then.FirstThen.{FirstThen}
use Rattle.estimating.specs.Tables.{first_then}
use Rattle.lookup.specs.declared.fit.Whose.TheVariants.{Customer, Anyone}
use Rattle.demand.specs.declared.entry.DemandEntry.{DemandEntry}
use Rattle.demand.specs.declared.question.DemandQuestion.{DemandQuestion}
use Rattle.demand.specs.declared.question.DemandAnswer.{DemandAnswer}
use Rattle.demand.specs.declared.makes.ShortInitial.{ShortInitial}
use Rattle.demand.specs.declared.makes.LastReading.{LastReading}
use Rattle.demand.specs.declared.makes.YearBackReading.{YearBackReading}
use Rattle.demand.specs.declared.makes.LoadFactor.{LoadFactor}
use Rattle.demand.specs.Questions.{good_figures, WellAsked}
use Rattle.demand.specs.Answers.{short_initial, last_reading, reading_year_back, by_load_factor}

abbrev pub demand_makes : FirstThen ShortInitial (FirstThen LastReading (FirstThen YearBackReading (FirstThen LastReading (FirstThen YearBackReading LoadFactor))))
demand_makes = record {
  first = record {};
  second = record {
    first = record { whose = Customer };
    second = record {
      first = record { whose = Customer };
      second = record { first = record { whose = Anyone }; second = record { first = record { whose = Anyone }; second = record {} } };
    };
  };
}

abbrev pub first_answer : List DemandEntry → DemandQuestion → Option DemandAnswer
first_answer book q =
    first_then (short_initial q)
    (first_then (last_reading Customer book q)
    (first_then (reading_year_back Customer book q)
    (first_then (last_reading Anyone book q)
    (first_then (reading_year_back Anyone book q) (by_load_factor q)))))

abbrev pub or_refused : Option DemandAnswer → Result DemandAnswer ℕ
or_refused (Some a) = Ok a
or_refused None = Err no_answer

abbrev pub demand_of : List DemandEntry → DemandQuestion → Result DemandAnswer ℕ
demand_of book q =
    cond (q.customer == 0) (Err no_customer)
    (cond (nat_lt 240 (length book)) (Err long_demand_book)
    (cond (good_figures q) (or_refused (first_answer book q)) (Err bad_figures)))

abbrev pub answers_by_number : List DemandEntry → DemandQuestion → List (Option DemandAnswer)
answers_by_number book q =
    short_initial q ∷ (last_reading Customer book q ∷ (reading_year_back Customer book q
    ∷ (last_reading Anyone book q ∷ (reading_year_back Anyone book q ∷ (None ∷ (by_load_factor q ∷ []))))))

abbrev pub answer_by : ℕ → List DemandEntry → DemandQuestion → Option DemandAnswer
answer_by n book q = slice_index_or (answers_by_number book q) n None

pub record ByAnswer (n : ℕ) (book : List DemandEntry) (q : DemandQuestion) (a : DemandAnswer) : Type 0 where
  pub answers : answer_by n book q ≡ Some a
  pub none_before : (k : ℕ) → k < n → answer_by k book q ≡ None

pub record ByTheAnswers (book : List DemandEntry) (q : DemandQuestion) (r : Result DemandAnswer ℕ) : Type 0 where
  -- each answer bears its own number
  pub numbered : (n : ℕ) (a : DemandAnswer) → answer_by n book q ≡ Some a → a.number ≡ n
  -- an answer is the one that it says, the first that there is
  pub answered : (a : DemandAnswer) → r ≡ Ok a → WellAsked book q × ByAnswer a.number book q a
  pub first_answers : WellAsked book q → (n : ℕ) (a : DemandAnswer) → ByAnswer n book q a → r ≡ Ok a
  -- 14 exactly when there is none
  pub none_answers : r ≡ Err no_answer → WellAsked book q × ((n : ℕ) → answer_by n book q ≡ None)
  pub refused : WellAsked book q → ((n : ℕ) → answer_by n book q ≡ None) → r ≡ Err no_answer

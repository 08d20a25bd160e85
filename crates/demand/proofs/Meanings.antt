-- What the tables of the answers mean.
use Rattle.std.proofs.Common.{◌≡◌, ℕ, Bool, true, not, ◌&&◌, List, Some, None, Option, sym, refl, ap, ◌∙◌, ⊎_elim}
use Rattle.std.proofs.lemmas.Bool.{cond-true, cond-false, cases_Bool, and_parts, and_from, not-true, not_from_false}
use Rattle.calendar.specs.Calendar.{year_before}
use Rattle.estimating.specs.Cases.{none_some}
use Rattle.lookup.specs.declared.fit.Whose.{Whose}
use Rattle.lookup.specs.Tests.{asked}
use Rattle.lookup.specs.Places.{record_at, record_before}
use Rattle.lookup.specs.Latest.{latest_place, newest_place}
use Rattle.lookup.proofs.Tests.{asked_means, asked_from, year_before_means}
use Rattle.lookup.proofs.Lookups.{place_law, place_only, newest_place_last, newest_place_only, same_record}
use Rattle.demand.specs.declared.entry.DemandEntry.{DemandEntry}
use Rattle.demand.specs.declared.question.DemandQuestion.{DemandQuestion}
use Rattle.demand.specs.declared.question.DemandAnswer.{DemandAnswer}
use Rattle.demand.specs.Readings.{counts_as_estimated}
use Rattle.demand.specs.Answers.{number_for, answer_of, serves, answer_if, answer_at, Serves, last_reading, OnLastReading, entry_year_back, reading_year_back, OnYearBack}

-- an answer comes from a reading that passes
answer_from : (n : ℕ) (test : DemandEntry → Bool) (o : Option DemandEntry) (a : DemandAnswer) → Some a ≡ answer_if n test o → (e : DemandEntry) × (o ≡ Some e) × (test e ≡ true) × (a ≡ answer_of n e)
answer_from n test (Some e) a s = ⊎_elim
    (λ t. (let f : Some a ≡ Some (answer_of n e) = s ∙ cond-true _ _ _ t in let same : a ≡ answer_of n e = cc in (e, refl, t, same)))
    (λ t. none_some (answer_if n test (Some e)) a (sym (cond-false _ _ _ t)) (sym s))
    (cases_Bool (test e))
answer_from n test None a s = none_some None a refl (sym s)

module _ (n : ℕ) (w : Whose) (q : DemandQuestion) (book : List DemandEntry) where
  -- an answer comes from a place whose reading serves
  answer_at_means : (p : Option ℕ) (a : DemandAnswer) → Some a ≡ answer_at n w q book p → (i : ℕ) × (e : DemandEntry) × (p ≡ Some i) × Serves w q book i e × (a ≡ answer_of n e)
  answer_at_means (Some i) a s =
      let b = record_before book i in
      let f = answer_from n (serves w q b) (record_at book i) a s in
      let e = f.0 in
      let t = and_parts (asked w e.customer q.customer) (not e.initial && not (counts_as_estimated b e)) f.2 in
      let u = and_parts (not e.initial) (not (counts_as_estimated b e)) t.1 in (
        i,
        e,
        refl,
        record {
          stands = f.1;
          of_whose = asked_means w e.customer q.customer t.0;
          not_initial = not-true e.initial u.0;
          not_estimated = not-true (counts_as_estimated b e) u.1;
        },
        f.3,
      )
  answer_at_means None a s = none_some None a refl (sym s)

  -- and such a place gives it
  answer_at_given : (p : Option ℕ) (i : ℕ) (e : DemandEntry) → p ≡ Some i → Serves w q book i e → answer_at n w q book p ≡ Some (answer_of n e)
  answer_at_given p i e is h =
      ap (answer_at n w q book) is ∙ ap (answer_if n (serves w q (record_before book i))) h.stands ∙ cond-true _ _ _
      (and_from _ _ (asked_from w e.customer q.customer h.of_whose)
      (and_from _ _ (not_from_false e.initial h.not_initial) (not_from_false (counts_as_estimated (record_before book i) e) h.not_estimated)))

pub last_reading_law : (w : Whose) (book : List DemandEntry) (q : DemandQuestion) (r : Option DemandAnswer) → r ≡ last_reading w book q → OnLastReading w book q r
last_reading_law w book q (Some a) s =
    let f = answer_at_means (number_for 1 w) w q book (newest_place book) a s in
    (f.1, record { place = f.0; is_last = record { stands = f.3.stands; is_last = newest_place_last book f.0 (sym f.2) }; is_served = f.3 }, f.4)
last_reading_law w book q None s = λ e h.
    none_some (last_reading w book q) (answer_of (number_for 1 w) e) s
    (answer_at_given (number_for 1 w) w q book (newest_place book) h.place e (sym (newest_place_only book h.place h.is_last.is_last)) h.is_served)

pub year_back_law : (w : Whose) (book : List DemandEntry) (q : DemandQuestion) (r : Option DemandAnswer) → r ≡ reading_year_back w book q → OnYearBack w book q r
year_back_law w book q (Some a) s =
    let test = entry_year_back w q in
    let f = answer_at_means (number_for 2 w) w q book (latest_place test book) a s in
    let e = f.1 in
    let l = place_law test book (Some f.0) (sym f.2) in
    let same : l.0 ≡ e = same_record (record_at book f.0) l.0 e l.1.stands f.3.stands in
    let passes = ap test (sym same) ∙ l.1.passes in
    let t = and_parts (asked w e.customer q.customer) (year_before e.end_day q.end_day) passes in (
      e,
      record {
        place = f.0;
        same_month = year_before_means e.end_day q.end_day t.1;
        is_latest = record { stands = f.3.stands; passes = passes; none_after = l.1.none_after };
        is_served = f.3;
      },
      f.4,
    )
year_back_law w book q None s = λ e h.
    none_some (reading_year_back w book q) (answer_of (number_for 2 w) e) s
    (answer_at_given (number_for 2 w) w q book (latest_place (entry_year_back w q) book) h.place e (place_only (entry_year_back w q) book h.place e h.is_latest) h.is_served)

-- The call answers by the first answer that there is.
use Rattle.std.proofs.Common.{◌≡◌, ℕ, zero, suc, Bool, true, false, cond, ◌&&◌, eqb, ltb, leb, ◌⊎◌, List, length, get_or, Some, None, Ok, Err, Option, Result, sym, refl, ap, ◌∙◌, inl, inr, ⊎_elim, arith}
use Rattle.std.specs.Option.{ok_or}
use Rattle.std.proofs.lemmas.Bool.{cond-true, cond-false, cases_Bool, and_parts, and_from, leb-true, ltb-true, ltb-false, eqb-false, le-leb, lt-ltb, le-ltb, ne_eqb}
use Rattle.measures.specs.Refusals.{no_answer}
use Rattle.measures.specs.Rate.{load_factor}
use Rattle.estimating.specs.declared.first_then.FirstThen.{FirstThen}
use Rattle.estimating.specs.Tables.{first_then, first_among}
use Rattle.estimating.specs.Cases.{none_some}
use Rattle.estimating.proofs.Firsts.{first_then_none, found, found_first, none_found, none_first}
use Rattle.lookup.specs.declared.fit.Whose.{Whose}
use Rattle.lookup.specs.declared.fit.Whose.TheVariants.{Customer, Anyone}
use Rattle.demand.specs.declared.entry.DemandEntry.{DemandEntry}
use Rattle.demand.specs.declared.question.DemandQuestion.{DemandQuestion}
use Rattle.demand.specs.declared.question.DemandAnswer.{DemandAnswer}
use Rattle.demand.specs.declared.makes.ShortInitial.{ShortInitial}
use Rattle.demand.specs.declared.makes.LastReading.{LastReading}
use Rattle.demand.specs.declared.makes.YearBackReading.{YearBackReading}
use Rattle.demand.specs.declared.makes.LoadFactor.{LoadFactor}
use Rattle.demand.specs.Questions.{good_figures, WellAsked}
use Rattle.demand.specs.Answers.{number_for, short_initial, last_reading, reading_year_back, answer_by_factor, by_load_factor}
use Rattle.demand.specs.Demand.{demand_makes, first_answer, or_refused, demand_of, answers_by_number, answer_by, ByTheAnswers}
use Rattle.demand.proofs.Meanings.{last_reading_law, year_back_law}

-- each answer bears its number
number_if : (b : Bool) (x a : DemandAnswer) → cond b (Some x) None ≡ Some a → a.number ≡ x.number
number_if true x a e = let same : x ≡ a = cc in sym (ap (λ (z : DemandAnswer). z.number) same)
number_if false x a e = none_some None a refl e

last_number : (w : Whose) (book : List DemandEntry) (q : DemandQuestion) (a : DemandAnswer) → last_reading w book q ≡ Some a → a.number ≡ number_for 1 w
last_number w book q a e = ap (λ (z : DemandAnswer). z.number) (last_reading_law w book q (Some a) (sym e)).2

year_back_number : (w : Whose) (book : List DemandEntry) (q : DemandQuestion) (a : DemandAnswer) → reading_year_back w book q ≡ Some a → a.number ≡ number_for 2 w
year_back_number w book q a e = ap (λ (z : DemandAnswer). z.number) (year_back_law w book q (Some a) (sym e)).2

unless_number : (b : Bool) (x a : DemandAnswer) → cond b None (Some x) ≡ Some a → a.number ≡ x.number
unless_number true x a e = none_some None a refl e
unless_number false x a e = let same : x ≡ a = cc in sym (ap (λ (z : DemandAnswer). z.number) same)

factor_number : (o : Option ℕ) (q : DemandQuestion) (a : DemandAnswer) → answer_by_factor o q ≡ Some a → a.number ≡ 6
factor_number (Some f) q a e = unless_number (eqb q.usage_days 0) _ a e
factor_number None q a e = none_some None a refl e

number : (book : List DemandEntry) (q : DemandQuestion) (n : ℕ) (a : DemandAnswer) → answer_by n book q ≡ Some a → a.number ≡ n
number book q zero a e = number_if (q.initial && ltb q.usage_days 11) _ a e
number book q (suc zero) a e = last_number Customer book q a e
number book q (suc (suc zero)) a e = year_back_number Customer book q a e
number book q (suc (suc (suc zero))) a e = last_number Anyone book q a e
number book q (suc (suc (suc (suc zero)))) a e = year_back_number Anyone book q a e
number book q (suc (suc (suc (suc (suc zero))))) a e = none_some None a refl e
number book q (suc (suc (suc (suc (suc (suc zero)))))) a e = factor_number (load_factor q.rate) q a e
number book q (suc (suc (suc (suc (suc (suc (suc n))))))) a e = none_some None a refl e

-- what such methods answer, asked in turn
abbrev in_turn : FirstThen ShortInitial (FirstThen LastReading (FirstThen YearBackReading (FirstThen LastReading (FirstThen YearBackReading LoadFactor)))) → List DemandEntry → DemandQuestion → Option DemandAnswer
in_turn m book q =
    first_then (short_initial q)
    (first_then (last_reading m.second.first.whose book q)
    (first_then (reading_year_back m.second.second.first.whose book q)
    (first_then (last_reading m.second.second.second.first.whose book q)
    (first_then (reading_year_back m.second.second.second.second.first.whose book q) (by_load_factor q)))))

pub in_turn_first : (m : _) (book : List DemandEntry) (q : DemandQuestion) → m ≡ demand_makes → in_turn m book q ≡ first_answer book q
in_turn_first m book q e = ap (λ z. in_turn z book q) e

-- the library's word for the same
pub refused_is : (r : Option DemandAnswer) → ok_or r no_answer ≡ or_refused r
refused_is (Some a) = refl
refused_is None = refl

first_answer_is : (book : List DemandEntry) (q : DemandQuestion) → first_answer book q ≡ first_among (answers_by_number book q)
first_answer_is book q =
    ap (λ z. first_then (short_initial q) (first_then (last_reading Customer book q) (first_then (reading_year_back Customer book q) (first_then (last_reading Anyone book q) (first_then (reading_year_back Anyone book q) z))))) (sym (first_then_none (by_load_factor q)))

-- well asked, the call has the first answer
figures_mean : (book : List DemandEntry) (q : DemandQuestion) → eqb q.customer 0 ≡ false → ltb 240 (length book) ≡ false → good_figures q ≡ true → WellAsked book q
figures_mean book q c l g =
    let a = and_parts (ltb q.kwh 100000000) (leb q.end_day 36524 && (leb 1 q.usage_days && leb q.usage_days 109)) g in
    let b = and_parts (leb q.end_day 36524) (leb 1 q.usage_days && leb q.usage_days 109) a.1 in
    let d = and_parts (leb 1 q.usage_days) (leb q.usage_days 109) b.1 in
    let not-zero = eqb-false q.customer 0 c in
    record {
      some_customer = omega (arith, not-zero);
      not_long = ltb-false 240 (length book) l;
      not_much = ltb-true q.kwh 100000000 a.0;
      on_calendar = leb-true q.end_day 36524 b.0;
      some_days = leb-true 1 q.usage_days d.0;
      not_many_days = leb-true q.usage_days 109 d.1;
    }

asked_well : (book : List DemandEntry) (q : DemandQuestion) → WellAsked book q → demand_of book q ≡ or_refused (first_answer book q)
asked_well book q h =
    let c : eqb q.customer 0 ≡ false = ne_eqb q.customer 0 (λ z. absurd (omega (arith, z, h.some_customer))) in
    cond-false _ _ _ c ∙ cond-false _ _ _ (le-ltb 240 (length book) h.not_long) ∙ cond-true _ _ _
    (and_from _ _ (lt-ltb q.kwh 100000000 h.not_much)
    (and_from _ _ (le-leb q.end_day 36524 h.on_calendar)
    (and_from _ _ (le-leb 1 q.usage_days h.some_days) (le-leb q.usage_days 109 h.not_many_days))))

-- otherwise it is refused, and not by 14
abbrev Otherwise : List DemandEntry → DemandQuestion → Type 0
Otherwise book q = (n : ℕ) × (demand_of book q ≡ Err n) × (n ≡ no_answer → ⊥)

asked_either : (book : List DemandEntry) (q : DemandQuestion) → WellAsked book q ⊎ Otherwise book q
asked_either book q = ⊎_elim
    (λ c. inr (_, cond-true _ _ _ c, λ z. absurd (omega (arith, z))))
    (λ c. ⊎_elim
    (λ l. inr (_, cond-false _ _ _ c ∙ cond-true _ _ _ l, λ z. absurd (omega (arith, z))))
    (λ l. ⊎_elim
    (λ g. inl (figures_mean book q c l g))
    (λ g. inr (_, cond-false _ _ _ c ∙ cond-false _ _ _ l ∙ cond-false _ _ _ g, λ z. absurd (omega (arith, z))))
    (cases_Bool (good_figures q)))
    (cases_Bool (ltb 240 (length book))))
    (cases_Bool (eqb q.customer 0))

ok_or_err : {X : Type 0} (r : Result DemandAnswer ℕ) (a : DemandAnswer) (n : ℕ) → r ≡ Ok a → r ≡ Err n → X
ok_or_err r a n s e = let z : ◌≡◌ {A = ℕ} 0 1 = cc in absurd (omega arith)

ok_is_some : (o : Option DemandAnswer) (a : DemandAnswer) → or_refused o ≡ Ok a → o ≡ Some a
ok_is_some (Some b) a e = let same : b ≡ a = cc in ap Some same
ok_is_some None a e = ok_or_err (Err no_answer) a no_answer e refl

err_is_none : (o : Option DemandAnswer) → or_refused o ≡ Err no_answer → o ≡ None
err_is_none (Some b) e = ok_or_err (Ok b) b no_answer refl e
err_is_none None e = refl

answered_well : (book : List DemandEntry) (q : DemandQuestion) (a : DemandAnswer) → demand_of book q ≡ Ok a → WellAsked book q × (first_answer book q ≡ Some a)
answered_well book q a s = ⊎_elim
    (λ h. (h, ok_is_some (first_answer book q) a (sym (asked_well book q h) ∙ s)))
    (λ o. ok_or_err (demand_of book q) a o.0 s o.1)
    (asked_either book q)

refused_well : (book : List DemandEntry) (q : DemandQuestion) → demand_of book q ≡ Err no_answer → WellAsked book q × (first_answer book q ≡ None)
refused_well book q s = ⊎_elim
    (λ h. (h, err_is_none (first_answer book q) (sym (asked_well book q h) ∙ s)))
    (λ o. absurd (o.2 (let e = o.1 in let same : o.0 ≡ no_answer = cc in same)))
    (asked_either book q)

pub demand_law : (book : List DemandEntry) (q : DemandQuestion) (r : Result DemandAnswer ℕ) → r ≡ demand_of book q → ByTheAnswers book q r
demand_law book q r is =
    let xs = answers_by_number book q in
    let first : first_answer book q ≡ first_among xs = first_answer_is book q in
    record {
      numbered = number book q;
      answered = λ a s.
          (let w = answered_well book q a (sym is ∙ s) in
          let f = found xs a (sym first ∙ w.1) in
          let at : a.number ≡ f.place = number book q f.place a f.here in
          (w.0, record { answers = ap (λ i. get_or xs i None) at ∙ f.here; none_before = λ k less. f.before k (omega (arith, at, less)) }));
      first_answers = λ h n a by.
          is ∙ asked_well book q h ∙ ap or_refused (first ∙ found_first xs a n by.answers by.none_before);
      none_answers = λ s. (let w = refused_well book q (sym is ∙ s) in (w.0, none_found xs (sym first ∙ w.1)));
      refused = λ h none. is ∙ asked_well book q h ∙ ap or_refused (first ∙ none_first xs (λ i less. none i));
    }

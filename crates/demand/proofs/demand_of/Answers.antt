use Rattle.std.proofs.Common.{◌≡◌, ℕ, Err, Result, ap, ◌∙◌, rules}
use Rattle.demand.specs.declared.question.DemandAnswer.{DemandAnswer}
use Rattle.demand.specs.Demand.{first_answer, or_refused, demand_of}
use Rattle.demand.proofs.Firsts.{in_turn_first, refused_is, demand_law}
use Rattle.demand.proofs.demand_of.Goals as goal

pub returns-then-question-eq0 : goal.returns-then-question-eq0
returns-then-question-eq0 c =
    let e : ◌≡◌ {A = Result DemandAnswer ℕ} (Err 4) (demand_of c.args.book.now c.args.question.now) = search rules in
    record { answer = e; first = demand_law c.args.book.now c.args.question.now (Err 4) e }

pub returns-then-book-gt-MOST_ENTRIES : goal.returns-then-book-gt-MOST_ENTRIES
returns-then-book-gt-MOST_ENTRIES c =
    let e : ◌≡◌ {A = Result DemandAnswer ℕ} (Err 31) (demand_of c.args.book.now c.args.question.now) = search rules in
    record { answer = e; first = demand_law c.args.book.now c.args.question.now (Err 31) e }

pub returns-then-not-has_good_figures : goal.returns-then-not-has_good_figures
returns-then-not-has_good_figures c =
    let e : ◌≡◌ {A = Result DemandAnswer ℕ} (Err 32) (demand_of c.args.book.now c.args.question.now) = search rules in
    record { answer = e; first = demand_law c.args.book.now c.args.question.now (Err 32) e }

pub returns : goal.returns
returns c =
    let book = c.args.book.now in
    let q = c.args.question.now in
    let f : c.ok_or.result ≡ or_refused (first_answer book q)
    = c.ok_or.ensures.value ∙ refused_is c.answer.result ∙ ap or_refused (c.answer.ensures ∙ in_turn_first c.demand_method.result book q c.demand_method.ensures.answer) in
    let e : c.ok_or.result ≡ demand_of book q = search (rules, f) in
    record { answer = e; first = demand_law book q c.ok_or.result e }

-- The ladder answers by the first rung that has an answer.
use Rattle.std.proofs.Common.{◌≡◌, ℕ, zero, suc, ◌+◌, ◌-◌, List, get_or, Some, None, Option, sym, refl, ap, ◌∙◌, arith}
use Rattle.measures.specs.declared.entry.Entry.{Entry}
use Rattle.measures.specs.Rate.{class_kwh}
use Rattle.estimating.specs.declared.basis.Question.{Question}
use Rattle.estimating.specs.declared.basis.Basis.{Basis}
use Rattle.estimating.specs.Tables.{first_then, first_among}
use Rattle.lookup.specs.declared.fit.Whose.{Whose}
use Rattle.lookup.specs.declared.fit.Whose.TheVariants.{Customer, Anyone}
use Rattle.ladder.specs.Rungs.{rung_for, last_entry, from_year_back, seasonal, basis_a_day, class_figure}
use Rattle.ladder.specs.Ladder.{standard_rungs, standard_table, standard, rung_answers, ByTheLadder}
use Rattle.estimating.specs.Cases.{none_some}
use Rattle.estimating.proofs.Firsts.{first_then_none, found, found_first, none_found, none_first}
use Rattle.ladder.specs.Meanings.{last_entry_law, year_back_law, seasonal_law}

-- each rung's answers bear its number
last_entry_number : (w : Whose) (book : List Entry) (q : Question) (b : Basis) → last_entry w book q ≡ Some b → b.rung ≡ rung_for 1 w
last_entry_number w book q b e = ap (λ (b : Basis). b.rung) (last_entry_law w book q (Some b) (sym e)).2

year_back_number : (w : Whose) (book : List Entry) (q : Question) (b : Basis) → from_year_back w book q ≡ Some b → b.rung ≡ rung_for 2 w
year_back_number w book q b e = ap (λ (b : Basis). b.rung) (year_back_law w book q (Some b) (sym e)).2

seasonal_number : (w : Whose) (book : List Entry) (q : Question) (b : Basis) → seasonal w book q ≡ Some b → b.rung ≡ rung_for 3 w
seasonal_number w book q b e = ap (λ (b : Basis). b.rung) (seasonal_law w book q (Some b) (sym e)).2

class_number : (o : Option ℕ) (b : Basis) → basis_a_day o ≡ Some b → b.rung ≡ 7
class_number (Some k) b e = let same : record { rung = 7; kwh = k; days = 1 } ≡ b = cc in sym (ap (λ (b : Basis). b.rung) same)
class_number None b e = none_some None b refl e

number : (book : List Entry) (q : Question) (i : ℕ) (b : Basis) → get_or (rung_answers book q) i None ≡ Some b → b.rung ≡ i + 1
number book q zero b e = last_entry_number Customer book q b e
number book q (suc zero) b e = year_back_number Customer book q b e
number book q (suc (suc zero)) b e = seasonal_number Customer book q b e
number book q (suc (suc (suc zero))) b e = last_entry_number Anyone book q b e
number book q (suc (suc (suc (suc zero)))) b e = year_back_number Anyone book q b e
number book q (suc (suc (suc (suc (suc zero))))) b e = seasonal_number Anyone book q b e
number book q (suc (suc (suc (suc (suc (suc zero)))))) b e = class_number (class_kwh q.rate) b e
number book q (suc (suc (suc (suc (suc (suc (suc i))))))) b e = none_some None b refl e

pub table_standard : (m : _) (book : List Entry) (q : Question) → m ≡ standard_rungs → standard_table m book q ≡ standard book q
table_standard m book q e = ap (λ z. standard_table z book q) e

standard_is : (book : List Entry) (q : Question) → standard book q ≡ first_among (rung_answers book q)
standard_is book q =
    ap (λ z. first_then (last_entry Customer book q) (first_then (from_year_back Customer book q) (first_then (seasonal Customer book q) (first_then (last_entry Anyone book q) (first_then (from_year_back Anyone book q) (first_then (seasonal Anyone book q) z)))))) (sym (first_then_none (class_figure q)))

pub standard_law : (book : List Entry) (q : Question) (r : Option Basis) → r ≡ standard book q → ByTheLadder book q r
standard_law book q r e =
    let xs = rung_answers book q in
    let is : r ≡ first_among xs = e ∙ standard_is book q in
    record {
      numbered = λ n b low high a. (let m = number book q (n - 1) b a in omega arith);
      answered = λ b s.
          (let f = found xs b (sym is ∙ s) in
          let m = number book q f.place b f.here in
          let at : b.rung - 1 ≡ f.place = omega arith in
          record {
            low = omega arith;
            high = omega (arith, f.within);
            answers = ap (λ i. get_or xs i None) at ∙ f.here;
            none_before = λ k low less. f.before (k - 1) (omega arith);
          });
      first_answers = λ n b h.
          is ∙ found_first xs b (n - 1) h.answers
          (λ k less. (let back : k + 1 - 1 ≡ k = omega arith in ap (λ i. get_or xs i None) (sym back) ∙ h.none_before (k + 1) (omega arith) (omega arith)));
      none_answers = λ none n low high. none_found xs (sym is ∙ none) (n - 1);
      no_answer = λ none.
          is ∙ none_first xs
          (λ i less. (let back : i + 1 - 1 ≡ i = omega arith in ap (λ k. get_or xs k None) (sym back) ∙ none (i + 1) (omega arith) (omega arith)));
    }

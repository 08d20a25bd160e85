use Rattle.std.proofs.Common.{◌≡◌, map, sym, refl, ◌∙◌, rules}
use Rattle.std.specs.Prelude.{sum}
use Rattle.std.proofs.lemmas.List.Sums.{sum-map}
use Rattle.std.proofs.lemmas.List.Recursion.{is_sum_by}
use Rattle.measures.specs.Entry.{total_usage_days}
use Rattle.premise.proofs.book.Run.usage_days.Goals as goal

pub returns : goal.returns
returns c =
    let es = c.args.self.now.entries.now in
    let e : c.sum.result ≡ sum (map (λ e. e.usage_days) es) = search rules in
    e ∙ sum-map _ es ∙ sym (is_sum_by total_usage_days _ refl (λ _ _. refl) es)

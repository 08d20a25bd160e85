use Rattle.std.proofs.Common.{◌≡◌, sym, refl, ◌∙◌, rules}
use Rattle.std.specs.Prelude.{count_by}
use Rattle.std.proofs.lemmas.List.Recursion.{is_sum_by}
use Rattle.sharing.specs.Entries.{entry_part}
use Rattle.premise.specs.Books.{corrections}
use Rattle.premise.proofs.book.Run.count_corrections.Goals as goal

pub returns : goal.returns
returns c =
    let es = c.args.self.now.entries.now in
    let e : c.count.result ≡ count_by entry_part es = search rules in
    e ∙ sym (is_sum_by corrections _ refl (λ _ _. refl) es)

-- The kWh of all months, as the library sums them and as shares are summed.
use Rattle.std.proofs.Common.{◌≡◌, List, map, sym, refl, ◌∙◌}
use Rattle.std.specs.Prelude.{sum}
use Rattle.std.proofs.lemmas.List.Sums.{sum-map}
use Rattle.std.proofs.lemmas.List.Recursion.{is_sum_by}
use Rattle.sharing.specs.Sharing.{sum_of}
use Rattle.shareout.specs.declared.months.Month.{Month}
use Rattle.shareout.specs.Months.{month_part, month_kwh}

pub shares_are_kwh : (ms : List Month) → sum_of month_part month_kwh ms ≡ sum (map month_kwh ms)
shares_are_kwh ms = is_sum_by (sum_of month_part month_kwh) _ refl (λ _ _. refl) ms ∙ sym (sum-map month_kwh ms)

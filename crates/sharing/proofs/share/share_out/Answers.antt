use Rattle.std.proofs.Common.{◌≡◌, ◌≤◌, true, length, Some, ◌∙◌, ⊎_elim, arith, rules}
use Rattle.sharing.specs.Sharing.{sum_of, light, weighed}
use Rattle.sharing.proofs.Shares.{light_sum, weighed_known, shared_out}
use Rattle.sharing.proofs.share.share_out.Goals as goal
use Rattle.sharing.proofs.share.share_out.Goals.{In_ok-all}
use Rattle.sharing.proofs.share.share_out.Given.{Over}

-- the weights are within their limits, and `all` is their sum
known : (g : Over) (c : goal.In_ok-all g) → (light g.R.Shares.part g.R.Shares.weighs c.args.records.now ≡ true) × (c.in_ok-all.all ≡ sum_of g.R.Shares.part g.R.Shares.weighs c.args.records.now)
known g c =
    let e : Some c.in_ok-all.all ≡ weighed g.R.Shares.part g.R.Shares.weighs c.args.records.now = search rules in
    weighed_known g.R.Shares.part g.R.Shares.weighs c.in_ok-all.all c.args.records.now e

pub give-requires-clause-limit : goal.give-requires-clause-limit
give-requires-clause-limit g c =
    let k = known g (goal.at.give-requires-clause-limit g c).In_ok-all in
    let few : length c.args.records.now ≤ 3360 = omega arith in
    omega (arith, k.1, light_sum g.R.Shares.part g.R.Shares.weighs c.args.records.now k.0)

pub returns-clause-promise : goal.returns-clause-promise
returns-clause-promise g c =
    let m = g.R.Shares in
    let met = g.met.R.Shares in
    let old = c.args.records.now in
    let k = known g (goal.at.returns-clause-promise g c).In_ok-all in
    let none : sum_of m.part m.weighs old ≡ 0 → c.args.total ≡ 0
    = λ e. ⊎_elim (λ h. omega (arith, h.1)) (λ h. absurd (h (k.1 ∙ e))) c.else-all-eq0.either in
    λ _. rw c.give.ensures (shared_out m.part m.weighs m.given m.holds met.same_part met.same_weight met.takes c.args.total old none)

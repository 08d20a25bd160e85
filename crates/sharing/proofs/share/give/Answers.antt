use Rattle.std.proofs.Common.{◌≡◌, ◌+◌, ◌-◌, ◌<◌, ◌≤◌, true, false, length, get_or, drop, sym, ap, ◌∙◌, arith}
use Rattle.std.proofs.lemmas.List.{set-get_or, drop-set-lt}
use Rattle.sharing.specs.Sharing.{sum_of, running, shared_from}
use Rattle.sharing.proofs.Running.{running_up, running_start}
use Rattle.sharing.proofs.Shares.{left_yes, left_no, shared_yes, shared_no}
use Rattle.sharing.proofs.share.give.Goals as goal
use Rattle.sharing.proofs.share.give.Given.{Over}
use Rattle.sharing.proofs.share.give.Goals.{then-due, else-due}

pub loop-r-init : goal.loop-r-init
loop-r-init g c =
    let m = g.R.Shares in
    (ap (λ w. shared_from m.part m.weighs m.given c.args.total w 0 c.args.records.now) c.requires.weights, omega (arith, c.requires.weights), sym (running_start c.args.total c.args.all))

-- the weight of a record that takes part is within what is left
within : (g : Over) (c : goal.After-from-weight g) → c.loop-r.weighed + c.from-weight.result ≤ c.args.all
within g c =
    let m = g.R.Shares in
    let s = left_yes m.part m.weighs c.loop-r.records c.loop-r.r-index c.r-item.result (omega arith) (sym c.takes_part-due.ensures ∙ c.if-due.true) in
    omega (arith, c.loop-r.invariant.1, s, c.from-weight.ensures, c.weight.ensures)

pub running_total-up_to-requires : goal.running_total-up_to-requires
running_total-up_to-requires g c = record { total = c.requires.total; part = within g c; limit = c.requires.limit }

pub overflow_sub-up_to : goal.overflow_sub-up_to
overflow_sub-up_to g c =
    omega (arith, running_up c.args.total c.args.all c.loop-r.weighed (c.loop-r.weighed + c.from-weight.result) (omega arith), c.loop-r.invariant.2, c.running_total-up_to.ensures)

pub loop-r-preserved : goal.loop-r-preserved
loop-r-preserved g c =
    let m = g.R.Shares in
    let xs = c.loop-r.records in
    let i = c.loop-r.r-index in
    let x = c.r-item.result in
    let lt : i < length xs = omega arith in
    elim c.if-due.branch [
      | then-due w ↦
          let p : m.part (get_or xs i x) ≡ true = sym c.takes_part-due.ensures ∙ w.if-due.true in
          let q : w.take_share.new.self ≡ m.given (get_or xs i x) (running c.args.total c.args.all (c.loop-r.weighed + m.weighs (get_or xs i x)) - running c.args.total c.args.all c.loop-r.weighed) = cc in
          let a = shared_yes m.part m.weighs m.given c.args.total c.args.all xs i x c.loop-r.weighed w.take_share.new.self lt p q in
          let e = drop-set-lt (i + 1) xs i w.take_share.new.self (omega arith) in
          let s = left_yes m.part m.weighs xs i x lt p in
          let d : drop (i + 1) c.if-due.records ≡ drop (i + 1) xs = cc in
          (cc, omega (arith, c.loop-r.invariant.1, s, ap (sum_of m.part m.weighs) d), cc)
      | else-due w ↦
          let p : m.part (get_or xs i x) ≡ false = sym c.takes_part-due.ensures ∙ w.if-due.false in
          let a = shared_no m.part m.weighs m.given c.args.total c.args.all xs i x c.loop-r.weighed lt p in
          let s = left_no m.part m.weighs xs i x lt p in
          let r : c.if-due.records ≡ xs = w.records-is ∙ set-get_or xs i x in
          let d : drop (i + 1) c.if-due.records ≡ drop (i + 1) xs = ap (drop (i + 1)) r in
          (cc, omega (arith, c.loop-r.invariant.1, s, ap (sum_of m.part m.weighs) d), cc)
    ]

use Rattle.std.proofs.Common.{◌≡◌, Ok, is_ok, sym, ap, ◌∙◌}
use Rattle.intervals.specs.Intervals.{valid_wh, weights_in, missing_in, checked, left_over}
use Rattle.intervals.proofs.Known.{Known, known, Left, left_known, answered}
use Rattle.intervals.proofs.Filling.{accepted, filled_is, filled_up}
use Rattle.intervals.proofs.fill.fill.Goals as goal
use Rattle.intervals.proofs.fill.fill.Goals.{After-share_out, In_ok-known, In_ok-left}

-- what the checks leave known, and what is left to share
check_is : (c : In_ok-known) → checked c.args.month.now c.args.intervals.now ≡ Ok tt
check_is c = c.in_ok-known.ensures.2

checks_passed : (c : In_ok-known) → Known c.args.month.now c.args.intervals.now
checks_passed c = known c.args.month.now c.args.intervals.now (check_is c)

left_is : (c : In_ok-left) → left_over c.args.month.now.total (missing_in c.args.intervals.now) (valid_wh c.args.intervals.now) (weights_in c.args.month.now c.args.intervals.now) ≡ Ok c.in_ok-left.left
left_is c =
    let m = c.in_ok-known.ensures.0 in
    let xs = c.in_ok-known.ensures.1 in
    let e : c.count_missing-missing.result ≡ missing_in c.args.intervals.now = c.count_missing-missing.ensures ∙ ap missing_in xs in
    let f : c.sum_valid.result ≡ valid_wh c.args.intervals.now = c.sum_valid.ensures ∙ ap valid_wh xs in
    let g : c.sum_weights.result ≡ weights_in c.args.month.now c.args.intervals.now = rw (← m, ← xs) c.sum_weights.ensures in
    rw (← e, ← f, ← g) (sym c.in_ok-left.ensures)

rest : (c : In_ok-left) → Left c.args.month.now.total (valid_wh c.args.intervals.now) (weights_in c.args.month.now c.args.intervals.now) c.in_ok-left.left
rest c = left_known _ _ _ _ _ (left_is c)

pub weigh-requires : goal.weigh-requires
weigh-requires c = (checks_passed (goal.at.weigh-requires c).In_ok-known).usable

-- what is left is shared out
shared_out : (c : After-share_out) → Known c.args.month.now c.args.intervals.now → Left c.args.month.now.total (valid_wh c.args.intervals.now) (weights_in c.args.month.now c.args.intervals.now) c.in_ok-left.left → c.share_out.result ≡ Ok tt
shared_out c k r =
    c.share_out.ensures.answer ∙ sym (accepted c.args.month.now c.args.intervals.now c.weigh.new.intervals c.in_ok-left.left k r c.weigh.ensures)

pub unwrap-requires : goal.unwrap-requires
unwrap-requires c =
    let at = goal.at.unwrap-requires c in
    ap is_ok (shared_out at.After-share_out (checks_passed at.In_ok-known) (rest at.In_ok-left))

pub returns : goal.returns
returns c =
    let m = c.args.month.now in
    let xs = c.args.intervals.now in
    let ws = c.weigh.new.intervals in
    let ys = c.share_out.new.records in
    let left = c.in_ok-left.left in
    let k = checks_passed (goal.at.returns c).In_ok-known in
    let r = rest (goal.at.returns c).In_ok-left in
    let ok = shared_out (goal.at.returns c).After-share_out k r in
    let n : c.count_missing-missing.result ≡ missing_in xs = c.count_missing-missing.ensures ∙ ap missing_in c.in_ok-known.ensures.1 in
    let shares = rw ok at c.share_out.ensures.after in
    record {
      answer = ap Ok n ∙ sym (answered m xs left (check_is (goal.at.returns c).In_ok-known) (left_is (goal.at.returns c).In_ok-left));
      after = filled_is m xs ws left k r c.weigh.ensures ys shares;
      promise = filled_up m xs ws left k r c.weigh.ensures ys shares c.count_missing-missing.result n (c.share_out.ensures.promise (ap is_ok ok));
    }

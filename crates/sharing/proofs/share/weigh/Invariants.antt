use Rattle.std.proofs.Common.{◌≡◌, ◌+◌, ◌*◌, ◌≤◌, drop}
use Rattle.sharing.specs.Sharing.{sum_of, light}
use Rattle.sharing.proofs.share.weigh.Given as goal

-- what is summed and what is left come to the whole; no weight so far is beyond its limit
abbrev pub invariant-loop-record : goal.invariant-loop-record
invariant-loop-record g l =
    let m = g.R.Shares in
    (l.sum + sum_of m.part m.weighs (drop l.record-index l.records) ≡ sum_of m.part m.weighs l.records)
    × (l.sum ≤ 1000000 * l.record-index)
    × (light m.part m.weighs (drop l.record-index l.records) ≡ light m.part m.weighs l.records)

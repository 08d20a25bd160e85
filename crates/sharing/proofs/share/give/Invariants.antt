use Rattle.std.proofs.Common.{◌≡◌, ◌+◌, ◌++◌, take, drop}
use Rattle.sharing.specs.Sharing.{sum_of, running, shared_from, shared}
use Rattle.sharing.proofs.share.give.Given as goal

-- the records so far are shared out, and what is left gives the rest
abbrev pub invariant-loop-r : goal.invariant-loop-r
invariant-loop-r g l =
    let m = g.R.Shares in
    (take l.r-index l.records ++ shared_from m.part m.weighs m.given l.total l.all l.weighed (drop l.r-index l.records)
    ≡ shared m.part m.weighs m.given l.total l.initial.records)
    × (l.weighed + sum_of m.part m.weighs (drop l.r-index l.records) ≡ l.all)
    × (l.handed ≡ running l.total l.all l.weighed)

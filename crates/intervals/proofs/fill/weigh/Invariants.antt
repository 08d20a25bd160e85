use Rattle.std.proofs.Common.{◌≡◌, ◌++◌, take, drop}
use Rattle.intervals.specs.Intervals.{weighed_from, weighed}
use Rattle.intervals.proofs.fill.weigh.Given as goal

-- the intervals so far are weighed, and what is left gives the rest
abbrev pub invariant-loop-place : goal.invariant-loop-place
invariant-loop-place l =
    take l.place l.intervals ++ weighed_from l.month l.place (drop l.place l.intervals) ≡ weighed l.month l.initial.intervals

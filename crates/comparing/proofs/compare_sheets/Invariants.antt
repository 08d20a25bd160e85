use Rattle.std.proofs.Common.{◌≡◌, ◌-◌, ◌^◌, min}
use Rattle.comparing.proofs.compare_sheets.Given as goal

-- each case so far is counted
abbrev pub invariant-loop-case : goal.invariant-loop-case
invariant-loop-case l = l.tally.compared ≡ min l.case-index (2 ^ 32 - 1)

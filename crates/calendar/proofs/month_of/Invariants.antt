use Rattle.calendar.proofs.Walk.{Reached}
use Rattle.calendar.proofs.month_of.Given as goal

abbrev pub invariant-loop-i : goal.invariant-loop-i
invariant-loop-i l = Reached l.length-items l.day l.cycle l.i l.left

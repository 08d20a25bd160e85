use Rattle.std.proofs.Common.{◌/◌, sym, arith}
use Rattle.calendar.proofs.Months.{month_none}
use Rattle.calendar.proofs.Walk.{reached_start, reached_next, reached_end}
use Rattle.calendar.proofs.month_of.Goals as goal

pub returns-then-day-gt-LAST_DAY-clause-answer : goal.returns-then-day-gt-LAST_DAY-clause-answer
returns-then-day-gt-LAST_DAY-clause-answer c = sym (month_none c.args.day (omega arith))

pub loop-i-init : goal.loop-i-init
loop-i-init c = reached_start c.month_lengths-lengths.result c.args.day c.month_lengths-lengths.ensures

pub loop-i-preserved : goal.loop-i-preserved
loop-i-preserved c =
    reached_next c.month_lengths-lengths.result c.args.day (c.args.day / 1461) c.loop-i.i c.loop-i.left c.month_lengths-lengths.ensures
    c.loop-i-test.true (omega arith) c.loop-i.invariant

pub unreachable-requires : goal.unreachable-requires
unreachable-requires c =
    reached_end c.month_lengths-lengths.result c.args.day c.loop-i.i c.loop-i.left c.loop-i-test.false c.loop-i.auto.i-end c.loop-i.invariant

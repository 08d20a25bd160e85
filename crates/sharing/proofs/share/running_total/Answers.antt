use Rattle.std.proofs.Common.{sym}
use Rattle.sharing.proofs.Running.{running_is, running_none}
use Rattle.sharing.proofs.share.running_total.Goals as goal

pub returns-then-all-eq0 : goal.returns-then-all-eq0
returns-then-all-eq0 c = sym (running_none c.args.total c.args.all c.args.weighed c.if-all-eq0.true)

pub returns : goal.returns
returns c = rw c.from.ensures (sym (running_is c.args.total c.args.all c.args.weighed c.if-all-eq0.false))

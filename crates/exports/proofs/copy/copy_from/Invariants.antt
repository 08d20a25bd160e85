use Rattle.std.proofs.Common.{take}
use Rattle.std.specs.List.{AllZip}
use Rattle.exports.proofs.copy.copy_from.Given as goal

-- the records so far are copied
abbrev pub invariant-loop-place : goal.invariant-loop-place
invariant-loop-place g l = AllZip g.B.From.from_gives (take l.place l.from) (take l.place l.to)

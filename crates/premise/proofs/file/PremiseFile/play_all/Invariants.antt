use Rattle.std.proofs.Common.{◌≡◌, ◌≤◌, length, drop, vec_items, vec_len, vec_capacity}
use Rattle.premise.specs.Plays.{played}
use Rattle.premise.proofs.Plays.{joined}
use Rattle.premise.proofs.file.PremiseFile.play_all.Given as goal

-- what happened so far, and what is left to play, come to the whole
abbrev pub invariant-loop-call : goal.invariant-loop-call
invariant-loop-call g l =
    (joined (vec_items l.happened) (played g.M.Method.table g.J.Judgement.higher (drop l.call-index l.calls) l.self l.book)
    ≡ played g.M.Method.table g.J.Judgement.higher l.calls l.initial.self l.initial.book)
    × (vec_len l.happened ≡ l.call-index)
    × (length l.calls ≤ vec_capacity l.happened)

use Rattle.std.proofs.Common.{vec_items}
use Rattle.premise.proofs.Plays.{made_by, play_lived, play_keeps}
use Rattle.premise.proofs.file.PremiseFile.play.Goals as goal

pub returns : goal.returns
returns g c =
    let t = g.M.Method.table in
    let h = g.J.Judgement.higher in
    let f = c.args.self.now in
    let b = c.args.book.now in
    let f' = c.play_all.new.self in
    let b' = c.play_all.new.book in
    record {
      answer = c.play_all.ensures;
      lived = made_by c.play_all.result _ _ _ c.play_all.ensures (λ v e. play_lived t h c.args.calls.now f b (vec_items v) f' b' e);
      history = made_by c.play_all.result _ _ _ c.play_all.ensures (λ v e. play_keeps t h f b (vec_items v) f' b' (play_lived t h c.args.calls.now f b (vec_items v) f' b' e));
    }

use Rattle.ladder.specs.Meanings.{seasonal_law}
use Rattle.ladder.proofs.rungs.SeasonalMethod.answer.Goals as goal

pub returns : goal.returns
returns c =
    let e = c.basis.ensures in
    record { answer = e; meaning = seasonal_law c.args.self.now.whose c.args.book.now c.args.question.now c.basis.result e }

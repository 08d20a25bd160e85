use Rattle.ladder.specs.Meanings.{year_back_law}
use Rattle.ladder.proofs.rungs.YearBackMethod.answer.Goals as goal

pub returns : goal.returns
returns c =
    let e = c.basis.ensures in
    record { answer = e; meaning = year_back_law c.args.self.now.whose c.args.book.now c.args.question.now c.basis.result e }

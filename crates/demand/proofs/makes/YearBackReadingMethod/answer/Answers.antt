use Rattle.demand.proofs.Meanings.{year_back_law}
use Rattle.demand.proofs.makes.YearBackReadingMethod.answer.Goals as goal

pub returns : goal.returns
returns c =
    let e = c.found.ensures in
    record { answer = e; meaning = year_back_law c.args.self.now.whose c.args.book.now c.args.question.now c.found.result e }

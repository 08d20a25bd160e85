use Rattle.std.proofs.Common.{ap, ◌∙◌}
use Rattle.std.proofs.lemmas.Slice.Zip.{AllZip-map}
use Rattle.demand.specs.Demand.{demand_of}
use Rattle.exports.specs.Demands.{entry_of}
use Rattle.exports.proofs.demands.demand_in.Goals as goal

pub returns : goal.returns
returns c = c.demand_of.ensures.answer ∙ ap (λ es. demand_of es c.args.question.now) (AllZip-map entry_of c.args.book.now c.copy_from.new.to c.copy_from.ensures)

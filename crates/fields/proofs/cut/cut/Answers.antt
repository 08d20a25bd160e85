use Rattle.std.proofs.Common.{◌+◌, take, drop, sym, ap, ◌∙◌, arith, length-drop}
use Rattle.std.proofs.lemmas.List.{take_rest, length-take-le}
use Rattle.fields.specs.Pieces.{first_piece}
use Rattle.fields.proofs.Pieces.{first_piece_of, place_found, none_found}
use Rattle.fields.proofs.cut.cut.Goals as goal

pub returns-in_err-at : goal.returns-in_err-at
returns-in_err-at c = rw c.from_residual.ensures (none_found c.args.separator c.args.bytes.now (sym c.place_of.ensures ∙ c.in_err-at.was))

pub returns : goal.returns
returns c =
    let bs = c.args.bytes.now in
    let sep = c.args.separator in
    let i = c.in_ok-at.at in
    let found = place_found sep bs i (sym c.place_of.ensures ∙ c.in_ok-at.was) in
    let front = length-take-le i bs (omega (arith, found.0)) in
    simp take_rest (
      sym (ap first_piece found.1 ∙ first_piece_of sep (take i bs) (drop (i + 1) bs)),
      omega (arith, front, length-drop (i + 1) bs, found.0),
      ap (λ n. drop (n + 1) bs) (sym front),
    )

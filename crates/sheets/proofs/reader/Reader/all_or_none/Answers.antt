use Rattle.std.proofs.Common.{Err, ap, ◌∙◌, refl, subst}
use Rattle.std.proofs.lemmas.Result.{err_from_is_err_and}
use Rattle.std.specs.Fn.{FnOnceReturnsAtMut}
use Rattle.sheets.proofs.reader.Reader.all_or_none.Goals as goal

pub returns-in_err-value-clause-found : goal.returns-in_err-value-clause-found
returns-in_err-value-clause-found g c =
    let gave : FnOnceReturnsAtMut g.F.FnOnce c.args.step c.args.self.now c.step.result c.step.new.arg2 = record { shown = _; shows = refl; left = _; met = c.step.ensures; leaves = refl } in
    let f = err_from_is_err_and c.from_residual.result c.from_residual.ensures.1 in
    rw (f.1 ∙ ap Err f.2) (c.step.new.arg2, subst (λ r. FnOnceReturnsAtMut g.F.FnOnce c.args.step c.args.self.now r c.step.new.arg2) c.in_err-value.was gave)

pub returns-clause-found : goal.returns-clause-found
returns-clause-found g c =
    let gave : FnOnceReturnsAtMut g.F.FnOnce c.args.step c.args.self.now c.step.result c.step.new.arg2 = record { shown = _; shows = refl; left = _; met = c.step.ensures; leaves = refl } in
    rw c.accept.ensures (subst (λ r. FnOnceReturnsAtMut g.F.FnOnce c.args.step c.args.self.now r c.step.new.arg2) c.in_ok-value.was gave)

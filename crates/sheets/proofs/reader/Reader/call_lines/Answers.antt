use Rattle.std.proofs.Common.{◌≡◌, ◌+◌, ◌-◌, Err, vec_items, ap, ◌∙◌, inr, arith}
use Rattle.std.proofs.lemmas.Result.{err_from_is_err_and}
use Rattle.sheets.specs.Sections.{lines_left, calls_of}
use Rattle.sheets.proofs.Steps.{after_calls, call_more, call_fault}
use Rattle.sheets.proofs.reader.Reader.call_lines.Goals as goal

pub returns-in_err-call : goal.returns-in_err-call
returns-in_err-call c =
    let l = c.loop in
    let e = c.in_err-call.field-0.0 in
    let f = err_from_is_err_and c.from_residual-in_err-call.result c.from_residual-in_err-call.ensures.1 in
    let q = call_fault c.args.count l.counter (l.self.line + 1) (lines_left l.self) (vec_items l.calls) e c.loop-test.true c.in_err-call.ensures.found ∙ l.invariant.0 in
    rw (f.1 ∙ ap Err f.2) (record { found = inr q })

pub loop-preserved : goal.loop-preserved
loop-preserved c =
    let l = c.loop in
    let r = c.one_call.new.self in
    let h = c.in_ok-call.ensures.found in
    let left = c.args.count - (l.counter + 1) in
    let n : r.line + 1 ≡ l.self.line + 1 + 1 = ap (λ m. m + 1) h.1 in (
      (λ i. after_calls (c.push_reserved.ensures.items i) (calls_of left (n i) (lines_left r)))
          ∙ call_more c.args.count l.counter (l.self.line + 1) (lines_left l.self) (vec_items l.calls) c.in_ok-call.call (lines_left r) c.loop-test.true h.0
          ∙ l.invariant.0,
      omega (arith, l.invariant.1, c.push_reserved.ensures.len),
      omega (arith, l.invariant.2, c.push_reserved.ensures.capacity),
    )

use Rattle.std.proofs.Common.{ℕ, List, sym, ◌∙◌, subst, arith}
use Rattle.std.proofs.lemmas.List.{at_drop_all}
use Rattle.listing.specs.Listing.{lines}
use Rattle.listing.specs.Put.{Wrote}
use Rattle.listing.proofs.Lines.{put_line, times_more}
use Rattle.listing.proofs.Puts.{wrote_none}
use Rattle.listing.proofs.line.put_lines.Goals as goal

pub loop-record-preserved : goal.loop-record-preserved
loop-record-preserved g c =
    let m = g.L.Listed in
    let xs = c.args.records.now in
    let i = c.loop-record.record-index in
    let p = c.loop-record.page in (
      λ r rest. c.loop-record.invariant.0 r (put_line m.line xs i c.record-item.result c.record-item.is c.loop-record-test.true p c.put_line.new.page r c.put_line.ensures.text rest),
      omega (arith, c.loop-record.invariant.1, c.put_line.ensures.few, times_more m.longest i),
      c.put_line.ensures.text.long ∙ c.loop-record.invariant.2,
    )

pub returns-clause-text : goal.returns-clause-text
returns-clause-text g c =
    let m = g.L.Listed in
    let p = c.loop-record.page in
    let none = at_drop_all (lines m.line) c.args.records.now c.loop-record.record-index c.loop-record-test.false in
    c.loop-record.invariant.0 p (subst (λ (t : List ℕ). Wrote t p p) (sym none) (wrote_none p))

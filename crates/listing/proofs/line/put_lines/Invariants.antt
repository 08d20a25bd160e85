use Rattle.std.proofs.Common.{◌≡◌, ◌+◌, ◌*◌, ◌≤◌, length, drop}
use Rattle.listing.specs.Listing.{lines}
use Rattle.listing.specs.Put.{Wrote}
use Rattle.listing.specs.declared.page.Page.{Page}
use Rattle.listing.proofs.line.put_lines.Given as goal

-- what is left gives the text, and no line so far was too long
abbrev pub invariant-loop-record : goal.invariant-loop-record
invariant-loop-record g l =
    let m = g.L.Listed in
    ((r : Page) → Wrote (lines m.line (drop l.record-index l.records)) l.page r → Wrote (lines m.line l.records) l.initial.page r)
    × (l.page.end ≤ l.initial.page.end + m.longest * l.record-index)
    × (length l.page.buffer.now ≡ length l.initial.page.buffer.now)

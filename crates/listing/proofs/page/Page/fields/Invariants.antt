use Rattle.std.proofs.Common.{◌+◌, ◌≤◌, length, drop}
use Rattle.listing.specs.Listing.{fields}
use Rattle.listing.specs.Put.{Wrote}
use Rattle.listing.specs.declared.page.Page.{Page}
use Rattle.listing.proofs.page.Page.fields.Given as goal

-- what is left gives the text, and there is room for it
abbrev pub invariant-loop-n : goal.invariant-loop-n
invariant-loop-n l =
    ((r : Page) → Wrote (fields (drop l.n-index l.numbers)) l.self r → Wrote (fields l.numbers) l.initial.self r)
    × (l.self.end + length (fields (drop l.n-index l.numbers)) ≤ length l.self.buffer.now)

use Rattle.std.proofs.Common.{◌≤◌, [], ◌∷◌, length, refl, arith, rules}
use Rattle.listing.specs.Listing.{fields}
use Rattle.listing.specs.Refused.{notice_line}
use Rattle.listing.proofs.Lines.{place_few}
use Rattle.listing.proofs.Listings.{notice_is, wrote_in_front}
use Rattle.listing.proofs.Puts.{wrote_as, wrote_then}
use Rattle.listing.proofs.refused.list_refusal.Goals as goal
use Rattle.listing.proofs.refused.list_refusal.Goals.{After-from}

few : (c : goal.After-from) → length (fields (c.args.notice.line ∷ c.args.notice.field ∷ c.from.result ∷ [])) ≤ 27
few c = place_few c.args.notice.line c.args.notice.field c.from.result (omega arith) (omega arith) (omega (arith, c.from.ensures))

pub lettered-requires : goal.lettered-requires
lettered-requires c = omega (arith, c.if-buffer-lt-LEAST_BUFFER.false, c.text.ensures.put.end, c.text.ensures.long, few (goal.at.lettered-requires c).After-from)

pub returns-clause-after : goal.returns-clause-after
returns-clause-after c =
    let n = c.args.notice in
    let ns = n.line ∷ n.field ∷ c.from.result ∷ [] in
    let q = c.lettered.new.self in
    let letter = c.letter_of.result in
    wrote_in_front (notice_line n) q
    (wrote_as (88 ∷ 32 ∷ letter ∷ fields ns) (notice_line n) q (notice_is n letter c.from.result c.letter_of.ensures c.from.ensures)
    (wrote_then (88 ∷ 32 ∷ []) (letter ∷ fields ns) c.text.new.self q c.text.ensures c.lettered.ensures))
    refl
    (search rules)

pub returns-clause-room : goal.returns-clause-room
returns-clause-room c = omega (arith, c.text.ensures.put.end, c.lettered.ensures.put.end, few (goal.at.returns-clause-room c).After-from)

use Rattle.std.proofs.Common.{length, codes, refl, rules}
use Rattle.listing.specs.Listing.{listing, count_line, lines, answer_line, entry_line}
use Rattle.listing.proofs.Listings.{wrote_four, wrote_in_front}
use Rattle.listing.proofs.list.list.Goals as goal

pub returns-clause-after : goal.returns-clause-after
returns-clause-after c =
    let hs = c.args.happened.now in
    let es = c.args.entries.now in
    wrote_in_front (listing hs es) c.put_lines-2.new.page
    (wrote_four (count_line (length hs) (codes "ANSWERS")) (lines answer_line hs) (count_line (length es) (codes "ENTRIES")) (lines entry_line es)
    c.put_count.new.page c.put_lines.new.page c.put_count-2.new.page c.put_lines-2.new.page
    c.put_count.ensures.text c.put_lines.ensures.text c.put_count-2.ensures.text c.put_lines-2.ensures.text)
    refl
    (search rules)

use Rattle.std.proofs.Common.{[], ◌∷◌}
use Rattle.listing.specs.Listing.{fields}
use Rattle.listing.proofs.Puts.{wrote_then}
use Rattle.listing.proofs.page.Page.lettered.Goals as goal

pub returns : goal.returns
returns c = wrote_then (c.args.letter ∷ []) (fields c.args.numbers.now) c.byte.new.self c.fields.new.self c.byte.ensures c.fields.ensures

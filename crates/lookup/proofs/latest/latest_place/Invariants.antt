use Rattle.std.proofs.Common.{◌≡◌, List, ◌++◌, None}
use Rattle.lookup.specs.Latest.{latest_place}
use Rattle.lookup.proofs.latest.latest_place.Given as goal

-- the book is the records that are left and those behind them, of which none passes
abbrev pub invariant-loop-place : goal.invariant-loop-place
invariant-loop-place g l =
    (back : List g.row.R.Denot)
    × (l.place-iterator.iter.count ≡ 0)
    × (l.book ≡ l.place-iterator.iter.iter.rest.now ++ back)
    × (latest_place (g.F.Fit.fits l.fit) back ≡ None)

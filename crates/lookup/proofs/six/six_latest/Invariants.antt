use Rattle.std.proofs.Common.{◌≡◌, ◌*◌, ◌<◌, ◌≤◌, List, ◌++◌, filter}
use Rattle.lookup.specs.Six.{sum_up}
use Rattle.lookup.proofs.six.six_latest.Given as goal

-- the book is the front and records behind it of which fewer than six pass, which are summed up
abbrev pub invariant-loop-last : goal.invariant-loop-last
invariant-loop-last g l =
    (back : List g.row.R.Denot) × (l.book ≡ l.last-iterator.iter.rest.now ++ back)
    × (l.six ≡ sum_up g.R.TellsUse.used g.R.TellsUse.metered (filter (g.F.Fit.fits l.fit) back))
    × (l.six.count < 6)
    × (l.six.usage_days ≤ 65535 * l.six.count)
    × (l.six.kwh ≤ 4294967295 * l.six.count)

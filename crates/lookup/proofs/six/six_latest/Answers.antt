use Rattle.std.proofs.Common.{◌≡◌, ◌+◌, ◌∷◌, ◌++◌, filter, arith, rules}
use Rattle.lookup.specs.Six.{sum_up}
use Rattle.lookup.proofs.Lookups.{parted}
use Rattle.lookup.proofs.Sixes.{six_law}
use Rattle.lookup.specs.declared.six.Six.{Six}
use Rattle.lookup.proofs.six.six_latest.Goals as goal

pub returns-then-six-eq-SIX-clause-found : goal.returns-then-six-eq-SIX-clause-found
returns-then-six-eq-SIX-clause-found g c =
    let s : Six = record { count = c.loop-last.six.count + 1; usage_days = c.loop-last.six.usage_days + c.from.result; kwh = c.loop-last.six.kwh + c.from-then-fit.result } in
    let test = g.F.Fit.fits c.args.fit.now in
    let back = c.in-Some.last.now ∷ c.loop-last.invariant.0 in
    let apart : c.args.book.now ≡ c.next.new.self.iter.rest.now ++ back = parted _ _ _ _ _ c.loop-last.invariant.1 c.in-Some.ensures.steps in
    let added : s ≡ sum_up g.R.TellsUse.used g.R.TellsUse.metered (filter test back) = search rules in
    (six_law test g.R.TellsUse.used g.R.TellsUse.metered c.args.book.now c.next.new.self.iter.rest.now back s apart added (omega arith) (λ less. absurd (omega arith))).1

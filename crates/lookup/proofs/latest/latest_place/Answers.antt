use Rattle.std.proofs.Common.{◌≡◌, [], ◌∷◌, ◌++◌, length, Some, None, sym, ap, ◌∙◌, arith}
use Rattle.std.proofs.lemmas.List.{nil_from_length}
use Rattle.lookup.specs.Latest.{latest_place}
use Rattle.lookup.proofs.Lookups.{parted, place_from, place_law}
use Rattle.lookup.proofs.latest.latest_place.Goals as goal

pub returns-then-fit : goal.returns-then-fit
returns-then-fit g c =
    let test = g.F.Fit.fits c.args.fit.now in
    let front = c.next.new.self.iter.iter.rest.now in
    let x = c.in-Some.record.now in
    let back = c.loop-place.invariant.0 in
    let apart : c.args.book.now ≡ front ++ (x ∷ back) = parted _ _ _ _ _ c.loop-place.invariant.2 c.in-Some.ensures.steps.1.0 in
    let found = place_from test front x back c.loop-place.invariant.3 (sym c.if-fit.ensures) in
    let place : c.in-Some.place ≡ length front = omega (arith, c.loop-place.invariant.1, c.in-Some.ensures.steps.1.1) in
    let e : Some c.in-Some.place ≡ latest_place test c.args.book.now = ap Some place ∙ sym (ap (latest_place test) apart ∙ found) in
    record { answer = e; found = place_law test c.args.book.now (Some c.in-Some.place) e }

pub returns-clause-found : goal.returns-clause-found
returns-clause-found g c =
    let test = g.F.Fit.fits c.args.fit.now in
    let none : c.loop-place.place-iterator.iter.iter.rest.now ≡ [] = nil_from_length _ c.in-None.ensures.steps.1.0 in
    let e : latest_place test c.args.book.now ≡ None = ap (latest_place test) (c.loop-place.invariant.2 ∙ ap (λ xs. xs ++ c.loop-place.invariant.0) none) ∙ c.loop-place.invariant.3 in
    place_law test c.args.book.now None (sym e)

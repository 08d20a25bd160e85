use Rattle.std.proofs.Common.{◌≡◌, ℕ, ◌+◌, ◌-◌, ◌<◌, ◌≤◌, ltb, leb, [], ◌∷◌, ◌++◌, length, get_or, take, drop, set, Ok, is_ok, sym, refl, ap, ◌∙◌, arith, length-drop, length-take}
use Rattle.std.proofs.lemmas.List.{get_or-take, get_or-drop, length_push, length-take-le}
use Rattle.std.proofs.lemmas.Bool.{leb-true, ltb-true, and_parts}
use Rattle.measures.specs.declared.entry.Kind.TheVariants.{Actual}
use Rattle.sharing.specs.Sharing.{sum_of, shared, verdict}
use Rattle.sharing.specs.Entries.{entry_part, entry_weight, entry_given}
use Rattle.sharing.proofs.Shares.{length_shared}
use Rattle.premise.specs.Books.{no_entry, corrections}
use Rattle.premise.specs.Files.{in_use, open_count, open_run, closing, shared_run, as_actual}
use Rattle.premise.proofs.Checks.{fits_of, entry_small, waiting_few}
use Rattle.premise.proofs.Corrections.{run_and_next, written_back, shares_out, shared_answer}
use Rattle.premise.proofs.file.PremiseFile.share_advance.Goals as goal
use Rattle.premise.proofs.file.PremiseFile.share_advance.Goals.{After-share_out}
use Rattle.premise.proofs.file.PremiseFile.share_advance.Given.{Over}

-- the records that the advance is shared out over are the open run and the entry of the read
records : (g : Over) (c : After-share_out g) → take (c.in_use-place.result + 1 - c.from-first.result) (drop c.from-first.result (set c.args.book.now c.in_use-place.result c.closing-entry.result))
    ≡ open_run c.args.self.now c.args.book.now ++ (closing c.args.self.now c.args.book.now c.args.day Actual 0 0 ∷ [])
records g c =
    let f = c.args.self.now in
    let b = c.args.book.now in
    rw c.from-first.ensures (run_and_next f.settled (open_count f.condition) c.in_use-place.result b c.closing-entry.result c.in_use-place.ensures.value (omega (arith, c.in_use-place.ensures.value, c.requires.room)))
    ∙ ap (λ e. open_run f b ++ (e ∷ [])) c.closing-entry.ensures

-- the entry of the read has a usage day, and no entry more than 208
shared_out : (g : Over) (c : After-share_out g) → c.share_out.result ≡ Ok tt
shared_out g c =
    let f = c.args.self.now in
    let b = c.args.book.now in
    let fit = fits_of f b c.requires.fits in
    let run = open_run f b in
    let new = closing f b c.args.day Actual 0 0 in
    let k = open_count f.condition in
    let few : length run ≤ 255 = omega (arith, fit.long, length-take k (drop f.settled b), fit.within) in
    let period = and_parts (ltb f.day c.args.day) (leb c.args.day (f.day + 99)) c.requires.period in
    let soon = leb-true c.args.day (f.day + 99) period.1 in
    let later = ltb-true f.day c.args.day period.0 in
    let wait = waiting_few f b fit in
    let lights : (j : ℕ) → j < length run → entry_weight (get_or run j no_entry) ≤ 1000000
    = λ j l.
    let in-run : j < k = omega (arith, length-take k (drop f.settled b)) in
    let at : get_or run j no_entry ≡ get_or b (f.settled + j) no_entry = get_or-take k (drop f.settled b) j no_entry in-run ∙ get_or-drop f.settled b j no_entry in
    let small = entry_small f b fit (f.settled + j) (omega arith) in
    rw at (omega (arith, small.usage)) in
    let ok : Ok tt ≡ verdict entry_part entry_weight c.args.advance (run ++ (new ∷ [])) = shares_out c.args.advance run new (omega (arith, c.requires.dial)) (omega arith) lights (omega arith) (omega arith) refl in
    c.share_out.ensures.answer ∙ ap (verdict entry_part entry_weight c.args.advance) (records g c) ∙ sym ok

pub unwrap-requires : goal.unwrap-requires
unwrap-requires g c = ap is_ok (shared_out g (goal.at.unwrap-requires g c).After-share_out)

pub returns : goal.returns
returns g c =
    let f = c.args.self.now in
    let b = c.args.book.now in
    let a = c.args.advance in
    let n = c.in_use-place.result in
    let k = open_count f.condition in
    let p = (goal.at.returns g c).After-share_out in
    let given = rw (shared_out g p) at c.share_out.ensures.after in
    let part : c.share_out.new.records ≡ shared_run f b c.args.day a = given ∙ ap (shared entry_part entry_weight entry_given a) (records g p) in
    let run = open_run f b in
    let new = closing f b c.args.day Actual 0 0 in
    let place : n ≡ f.settled + k = c.in_use-place.ensures.value in
    let long : length c.share_out.new.records ≡ k + 1
    = ap length part ∙ length_shared entry_part entry_weight entry_given a (sum_of entry_part entry_weight (run ++ (new ∷ []))) (run ++ (new ∷ [])) 0 ∙ length_push run new ∙ ap (λ m. m + 1) (length-take-le k (drop f.settled b) (omega (arith, length-drop f.settled b, c.requires.room))) in
    let book = written_back f.settled k n b c.share_out.new.records c.closing-entry.result place (omega (arith, c.requires.room)) long
    ∙ ap (λ q. take f.settled b ++ (take k q ++ (as_actual (get_or q k no_entry) ∷ drop (n + 1) b))) part
    ∙ ap (λ m. take f.settled b ++ (take k (shared_run f b c.args.day a) ++ (as_actual (get_or (shared_run f b c.args.day a) k no_entry) ∷ drop (m + 1) b))) place in
    rw (c.from.ensures, c.from-first.ensures) (shared_answer _ _ n (in_use f) _ (corrections run) book place (c.count_corrections-corrections.ensures ∙ ap corrections c.open_run.ensures))

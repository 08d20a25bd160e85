-- What the checks of a call say once they are passed.
use Rattle.std.proofs.Common.{◌≡◌, ℕ, zero, suc, ◌-◌, ◌<◌, ◌≤◌, true, ◌&&◌, eqb, ltb, leb, List, [], ◌∷◌, length, get_or, take, ⊎_elim, le_of_suc-le-suc, not-suc-le-zero, arith}
use Rattle.std.proofs.lemmas.List.{get_or-take, length-take-le}
use Rattle.std.proofs.lemmas.Bool.{eqb-true, leb-true, ltb-true, and_parts, cases_Bool, cond-true, cond-false}
use Rattle.measures.specs.declared.entry.Entry.{Entry}
use Rattle.measures.specs.Dial.{turn_of}
use Rattle.sharing.specs.Entries.{is_put_off}
use Rattle.premise.specs.declared.file.PremiseFile.{PremiseFile}
use Rattle.premise.specs.Books.{no_entry, sound_entry, sound, waiting_days}
use Rattle.premise.specs.Files.{in_use, fits}

-- what a sound entry is
pub record Small (t : ℕ) (e : Entry) : Type 0 where
  pub days : e.days ≤ 109
  pub usage : e.usage_days ≤ 109
  pub kwh : e.kwh < t

small_of : (t : ℕ) (e : Entry) → sound_entry t e ≡ true → Small t e
small_of t e s =
    let p = and_parts (leb e.days 109) (leb e.usage_days 109 && ltb e.kwh t) s in
    let q = and_parts (leb e.usage_days 109) (ltb e.kwh t) p.1 in
    record { days = leb-true e.days 109 p.0; usage = leb-true e.usage_days 109 q.0; kwh = ltb-true e.kwh t q.1 }

pub sound_at : (t : ℕ) (es : List Entry) (k : ℕ) → sound t es ≡ true → k < length es → Small t (get_or es k no_entry)
sound_at t [] k s h = absurd (not-suc-le-zero h)
sound_at t (e ∷ es) zero s h = small_of t e (and_parts (sound_entry t e) (sound t es) s).0
sound_at t (e ∷ es) (suc k) s h = sound_at t es k (and_parts (sound_entry t e) (sound t es) s).1 (le_of_suc-le-suc h)

module _ {M J : Type 0} (f : PremiseFile M J) (b : List Entry) where
  pub record Fits : Type 0 where
    pub long : length b ≡ f.places
    pub within : in_use f ≤ length b
    pub sound : sound (turn_of f.dial) (take (in_use f) b) ≡ true

  pub fits_of : fits f b ≡ true → Fits
  fits_of e =
      let p = and_parts (eqb (length b) f.places) (leb (in_use f) (length b) && sound (turn_of f.dial) (take (in_use f) b)) e in
      let q = and_parts (leb (in_use f) (length b)) (sound (turn_of f.dial) (take (in_use f) b)) p.1 in
      record { long = eqb-true (length b) f.places p.0; within = leb-true (in_use f) (length b) q.0; sound = q.1 }

  -- each entry in use is sound
  pub entry_small : Fits → (k : ℕ) → k < in_use f → Small (turn_of f.dial) (get_or b k no_entry)
  entry_small h k l =
      let s = sound_at (turn_of f.dial) (take (in_use f) b) k h.sound (omega (arith, length-take-le (in_use f) b h.within)) in
      let e : get_or (take (in_use f) b) k no_entry ≡ get_or b k no_entry = get_or-take (in_use f) b k no_entry l in
      rw e at s

  -- put-off days are those of a sound entry
  pub waiting_few : Fits → waiting_days (in_use f) b ≤ 109
  waiting_few h = ⊎_elim
      (λ t.
      let some = ltb-true 0 (in_use f) (and_parts (ltb 0 (in_use f)) (is_put_off (get_or b (in_use f - 1) no_entry).kind) t).0 in
      let e : waiting_days (in_use f) b ≡ (get_or b (in_use f - 1) no_entry).days = cond-true _ _ _ t in
      omega (arith, e, (entry_small h (in_use f - 1) (omega (arith, some))).days))
      (λ t. let e : waiting_days (in_use f) b ≡ 0 = cond-false _ _ _ t in omega (arith, e))
      (cases_Bool (ltb 0 (in_use f) && is_put_off (get_or b (in_use f - 1) no_entry).kind))

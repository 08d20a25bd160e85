-- The book that a file was opened with passes the file's own check after every history.
use Rattle.std.proofs.Common.{◌≡◌, ℕ, zero, suc, ◌+◌, ◌-◌, ◌<◌, ◌≤◌, Bool, true, false, cond, not, ◌&&◌, eqb, ltb, leb, List, [], ◌∷◌, ◌++◌, length, get_or, take, drop, set, Ok, Err, Option, sym, refl, ap, ◌∙◌, subst, ⊎_elim, le_of_suc-le-suc, not-suc-le-zero, mod-lt, arith}
use Rattle.std.proofs.lemmas.List.{take_more_set, take_at, length-set, length-take-le, get_or-take}
use Rattle.std.proofs.lemmas.Bool.{cond-true, cond-false, cond_both, cases_Bool, and_parts, and_from, ltb-true, le-leb, lt-ltb, eq-eqb}
use Rattle.measures.specs.declared.entry.Entry.{Entry}
use Rattle.measures.specs.declared.entry.Kind.{Kind}
use Rattle.measures.specs.declared.entry.Kind.TheVariants.{Actual, TrueUp, Estimated}
use Rattle.measures.specs.declared.dial.Dial.{Dial}
use Rattle.measures.specs.declared.dial.Dial.TheVariants.{Four, Five, Six, Seven, Eight}
use Rattle.measures.specs.Dial.{turn_of, dial_of, advance}
use Rattle.measures.specs.Entry.{total_kwh}
use Rattle.sharing.specs.Sharing.{shared_from, running, sum_of}
use Rattle.sharing.specs.Entries.{is_put_off, entry_part, entry_weight, entry_given}
use Rattle.estimating.specs.declared.basis.Question.{Question}
use Rattle.estimating.specs.declared.basis.Basis.{Basis}
use Rattle.estimating.specs.Estimates.{estimate}
use Rattle.premise.specs.declared.happening.Happening.{Happening}
use Rattle.premise.specs.declared.happening.Happening.TheVariants.{Read, Miss, Move}
use Rattle.premise.specs.declared.file.PremiseFile.{PremiseFile}
use Rattle.premise.specs.declared.period.Billing.TheVariants.{Alone}
use Rattle.premise.specs.Books.{no_entry, sound_entry, sound, waiting_days}
use Rattle.premise.specs.Files.{in_use, open_count, missed, is_fresh, has_open, open_run, open_sum, fits, closing, putting_off, usage_days_of, shared_run, corrected_book, as_actual, billing, billed, after_read, after_miss, after_move}
use Rattle.premise.specs.History.{Opened, Happens, Lived, start, next}
use Rattle.premise.proofs.Totals.{take_add}
use Rattle.premise.proofs.Outcomes.{Closable, ReadStep, read_step, read_refused, MissStep, step_put_off, step_estimated, miss_step, miss_refused, move_step, move_refused}
use Rattle.premise.proofs.Standing.{Standing, standing, BillingWay, billing_way, alone, rest, out, shared_total, weighs, shared_run_cut, front, corrected_front, length_front, length_corrected, missed_count, closed_count, given_part, opened_by}

-- an entry as the calls write it, but for its kWh
pub record Shape (e : Entry) : Type 0 where
  pub days : e.days ≤ 99
  pub usage : e.usage_days ≤ 109
  pub short : entry_part e ≡ false → e.days < 11

abbrev Shapes : List Entry → Type 0
Shapes [] = Unit {0}
Shapes (e ∷ es) = Shape e × Shapes es

abbrev Owns : ℕ → List Entry → Type 0
Owns t [] = Unit {0}
Owns t (e ∷ es) = Shape e × (e.kwh < t) × Owns t es

owns_append : (t : ℕ) (es fs : List Entry) → Owns t es → Owns t fs → Owns t (es ++ fs)
owns_append t [] fs a b = b
owns_append t (e ∷ es) fs a b = (a.0, a.1, owns_append t es fs a.2 b)

owns_parts : (t : ℕ) (es fs : List Entry) → Owns t (es ++ fs) → Owns t es × Owns t fs
owns_parts t [] fs a = (tt, a)
owns_parts t (e ∷ es) fs a = let p = owns_parts t es fs a.2 in ((a.0, a.1, p.0), p.1)

owns_at : (t : ℕ) (es : List Entry) (k : ℕ) → Owns t es → k < length es → Shape (get_or es k no_entry)
owns_at t [] k a h = absurd (not-suc-le-zero h)
owns_at t (e ∷ es) zero a h = a.0
owns_at t (e ∷ es) (suc k) a h = owns_at t es k a.2 (le_of_suc-le-suc h)

owns_sound : (t : ℕ) (es : List Entry) → Owns t es → sound t es ≡ true
owns_sound t [] a = refl
owns_sound t (e ∷ es) a =
    let d = le-leb e.days 109 (omega (arith, a.0.days)) in
    let u = le-leb e.usage_days 109 a.0.usage in
    let k = lt-ltb e.kwh t a.1 in
    and_from (sound_entry t e) (sound t es) (and_from (leb e.days 109) (leb e.usage_days 109 && ltb e.kwh t) d (and_from (leb e.usage_days 109) (ltb e.kwh t) u k)) (owns_sound t es a.2)

owns_shapes : (t : ℕ) (es : List Entry) → Owns t es → Shapes es
owns_shapes t [] a = tt
owns_shapes t (e ∷ es) a = (a.0, owns_shapes t es a.2)

shapes_append : (es fs : List Entry) → Shapes es → Shapes fs → Shapes (es ++ fs)
shapes_append [] fs a b = b
shapes_append (e ∷ es) fs a b = (a.0, shapes_append es fs a.1 b)

-- no entry has more kWh than all together
shapes_owns : (t : ℕ) (es : List Entry) → Shapes es → total_kwh es < t → Owns t es
shapes_owns t [] a h = tt
shapes_owns t (e ∷ es) a h = (a.0, omega (arith, h), shapes_owns t es a.1 (omega (arith, h)))

-- sharing out changes no days
given_shape : (e : Entry) (s : ℕ) → Shape e → Shape (entry_given e s)
given_shape e s a = record { days = a.days; usage = a.usage; short = λ p. a.short (sym (given_part e s) ∙ p) }

shared_shapes : (total w c : ℕ) (es : List Entry) → Shapes es → Shapes (shared_from entry_part entry_weight entry_given total w c es)
shared_shapes total w c [] a = tt
shared_shapes total w c (e ∷ es) a =
    let s = running total w (c + entry_weight e) - running total w c in
    (cond_both (entry_part e) (entry_given e s) e Shape (λ _. given_shape e s a.0) (λ _. a.0), shared_shapes total w (c + cond (entry_part e) (entry_weight e) 0) es a.1)

-- the entry of a read after its share
actual_shape : (e : Entry) → Shape e → Shape (as_actual e)
actual_shape e s = record { days = s.days; usage = s.usage; short = λ q. (let n : ◌≡◌ {A = ℕ} 0 1 = cc in absurd (omega arith)) }

-- a dial turns, and no advance reaches its turn
turn_pos : (d : Dial) → 0 < turn_of d
turn_pos Four = omega arith
turn_pos Five = omega arith
turn_pos Six = omega arith
turn_pos Seven = omega arith
turn_pos Eight = omega arith

advance_below : (d : Dial) (p r : ℕ) → advance (turn_of d) p r < turn_of d
advance_below d p r = mod-lt (turn_of d - p + r) (turn_pos d)

module _ {M J : Type 0} where
  pub record Owned (f : PremiseFile M J) (b : List Entry) : Type 0 where
    pub long : length b ≡ f.places
    pub within : in_use f ≤ length b
    pub entries : Owns (turn_of f.dial) (take (in_use f) b)

  pub owned_fits : (f : PremiseFile M J) (b : List Entry) → Owned f b → fits f b ≡ true
  owned_fits f b o =
      and_from (eqb (length b) f.places) (leb (in_use f) (length b) && sound (turn_of f.dial) (take (in_use f) b)) (eq-eqb (length b) f.places o.long)
      (and_from (leb (in_use f) (length b)) (sound (turn_of f.dial) (take (in_use f) b)) (le-leb (in_use f) (length b) o.within) (owns_sound (turn_of f.dial) (take (in_use f) b) o.entries))

  module _ (f : PremiseFile M J) (b : List Entry) (o : Owned f b) where
    -- put-off days are under 11
    waiting_short : waiting_days (in_use f) b ≤ 10
    waiting_short = ⊎_elim
        (λ t.
        let p = and_parts (ltb 0 (in_use f)) (is_put_off (get_or b (in_use f - 1) no_entry).kind) t in
        let some = ltb-true 0 (in_use f) p.0 in
        let e : waiting_days (in_use f) b ≡ (get_or b (in_use f - 1) no_entry).days = cond-true _ _ _ t in
        let at : get_or (take (in_use f) b) (in_use f - 1) no_entry ≡ get_or b (in_use f - 1) no_entry = get_or-take (in_use f) b (in_use f - 1) no_entry (omega (arith, some)) in
        let s = owns_at (turn_of f.dial) (take (in_use f) b) (in_use f - 1) o.entries (omega (arith, some, length-take-le (in_use f) b o.within)) in
        let h = (rw at at s).short (ap not p.1) in
        omega (arith, e, h))
        (λ t. let e : waiting_days (in_use f) b ≡ 0 = cond-false _ _ _ t in omega (arith, e))
        (cases_Bool (ltb 0 (in_use f) && is_put_off (get_or b (in_use f - 1) no_entry).kind))

    -- the entry of a period
    closing_shape : (day : ℕ) → Closable f b day → (kind : Kind) (rung kwh : ℕ) → not (is_put_off kind) ≡ true → Shape (closing f b day kind rung kwh)
    closing_shape day c kind rung kwh p = record {
      days = omega (arith, c.soon);
      usage = omega (arith, c.soon, waiting_short);
      short = λ q. (let z : true ≡ false = sym p ∙ q in let n : ◌≡◌ {A = ℕ} 0 1 = cc in absurd (omega arith));
    }

    -- one entry written after those in use
    owned_set : (x : Entry) → in_use f < length b → Shape x → x.kwh < turn_of f.dial → Owns (turn_of f.dial) (take (in_use f + 1) (set b (in_use f) x))
    owned_set x room s k =
        let t = turn_of f.dial in
        subst (λ (es : List Entry). Owns t es) (sym (take_more_set b (in_use f) x room)) (owns_append t (take (in_use f) b) (x ∷ []) o.entries (s, k, tt))

    owned_miss : (day : ℕ) (x : Entry) → in_use f < length b → Shape x → x.kwh < turn_of f.dial → Owned (after_miss f day (day - f.day)) (set b (in_use f) x)
    owned_miss day x room s k =
        let more = missed_count f.condition (day - f.day) in
        let n : f.settled + open_count (missed f.condition (day - f.day)) ≡ in_use f + 1 = omega (arith, more) in
        record {
          long = length-set b (in_use f) x ∙ o.long;
          within = omega (arith, more, room, length-set b (in_use f) x);
          entries = subst (λ (m : ℕ). Owns (turn_of f.dial) (take m (set b (in_use f) x))) (sym n) (owned_set x room s k);
        }

module _ {M J : Type 0} (table : M → List Entry → Question → Option Basis) (higher : J → ℕ → ℕ → ℕ → Bool) where
  module _ (f0 : PremiseFile M J) (es : List Happening) (f : PremiseFile M J) (b : List Entry) (s : Standing table higher f0 es f b) (o : Owned f b) where
    abbrev turn : ℕ
    turn = turn_of f.dial

    -- the entries in use, once an advance below the turn is shared out
    owned_shared : (day a : ℕ) → Closable f b day → a < turn → Owns turn (take (in_use f + 1) (corrected_book f b day a))
    unfolding front
    owned_shared day a c h =
        let k = open_count f.condition in
        let ys = shared_run f b day a in
        let new = closing f b day Actual 0 0 in
        let x = get_or ys k no_entry in
        let both = owns_parts turn (take f.settled b) (open_run f b) (subst (λ (l : List Entry). Owns turn l) (take_add f.settled k b) o.entries) in
        let shapes = shared_shapes a (sum_of entry_part entry_weight (open_run f b ++ (new ∷ []))) 0 (open_run f b ++ (new ∷ [])) (shapes_append (open_run f b) (new ∷ []) (owns_shapes turn (open_run f b) both.1) (closing_shape f b o day c Actual 0 0 refl, tt)) in
        let total = shared_total table higher f0 es f b s day a c.room (weighs table higher f0 es f b s day c a) in
        let all : Owns turn ys = shapes_owns turn ys shapes (omega (arith, total, h)) in
        let parts = owns_parts turn (take k ys) (x ∷ []) (subst (λ (l : List Entry). Owns turn l) (shared_run_cut f b day a c.room) all) in
        let cut : take (in_use f + 1) (corrected_book f b day a) ≡ front f b day a c.room = ap (take (in_use f + 1)) (corrected_front f b day a c.room) ∙ take_at (front f b day a c.room) (drop (in_use f + 1) b) (in_use f + 1) (length_front f b day a c.room) in
        subst (λ (l : List Entry). Owns turn l) (sym cut)
        (owns_append turn (take f.settled b) (take k ys ++ (as_actual x ∷ [])) both.0
        (owns_append turn (take k ys) (as_actual x ∷ []) parts.0 (actual_shape x parts.1.0, parts.1.1, tt)))

    owned_read : (day register : ℕ) (a : ℕ × ℕ × ℕ) (f' : PremiseFile M J) (b' : List Entry) → ReadStep higher f b day register a f' b' → Owned f' b'
    owned_read day register a f' b' r = subst (λ (g : PremiseFile M J). Owned g b') (sym r.file) (by_way (billing_way higher f b day r.advanced))
      where
        below : r.advanced < turn
        below = omega (arith, r.advanced_is, advance_below f.dial f.register register)

        closed : length b' ≡ length b → Owns turn (take (in_use f + 1) b') → Owned (after_read f day register) b'
        closed n w =
            let m : f.settled + (open_count f.condition + 1) + 0 ≡ in_use f + 1 = omega arith in
            record { long = n ∙ o.long; within = omega (arith, n, r.closes.room); entries = subst (λ (j : ℕ). Owns turn (take j b')) (sym m) w }

        by_alone : (kind : Kind) (kwh : ℕ) → billing higher f b day r.advanced ≡ Alone kind kwh → not (is_put_off kind) ≡ true → kwh ≤ r.advanced → Owned (after_read f day register) b'
        by_alone kind kwh w p le =
            let x = closing f b day kind 0 kwh in
            let book : b' ≡ set b (in_use f) x = r.book ∙ ap (λ y. (billed y f b day r.advanced).1) w in
            closed (ap length book ∙ length-set b (in_use f) x)
            (subst (λ (l : List Entry). Owns turn (take (in_use f + 1) l)) (sym book) (owned_set f b o x r.closes.room (closing_shape f b o day r.closes kind 0 kwh p) (omega (arith, below, le))))

        by_way : BillingWay higher f b day r.advanced → Owned (after_read f day register) b'
        by_way (alone t w) = by_alone Actual r.advanced w refl (omega arith)
        by_way (rest t le j w) = by_alone TrueUp (r.advanced - open_sum f b) w refl (omega arith)
        by_way (out t h w) =
            let book : b' ≡ corrected_book f b day r.advanced = r.book ∙ ap (λ y. (billed y f b day r.advanced).1) w in
            closed (ap length book ∙ length_corrected f b day r.advanced r.closes.room)
            (subst (λ (l : List Entry). Owns turn (take (in_use f + 1) l)) (sym book) (owned_shared day r.advanced r.closes below))

    owned_missed : (day : ℕ) (a : ℕ × ℕ × ℕ) (f' : PremiseFile M J) (b' : List Entry) → MissStep table f b day a f' b' → Owned f' b'
    owned_missed day a f' b' (step_put_off c p t ef eb) =
        let q = and_parts (is_fresh f.condition) (ltb (day - f.day) 11) p in
        let few = ltb-true (day - f.day) 11 q.1 in
        let shape : Shape (putting_off f day) = record { days = omega (arith, few); usage = omega arith; short = λ _. few } in
        subst (λ (g : PremiseFile M J). Owned g b') (sym ef) (subst (λ (l : List Entry). Owned (after_miss f day (day - f.day)) l) (sym eb) (owned_miss f b o day (putting_off f day) c.room shape (turn_pos f.dial)))
    owned_missed day a f' b' (step_estimated c p basis t lt an ef eb) =
        let kwh = estimate basis (usage_days_of f b day) in
        let x = closing f b day Estimated basis.rung kwh in
        subst (λ (g : PremiseFile M J). Owned g b') (sym ef) (subst (λ (l : List Entry). Owned (after_miss f day (day - f.day)) l) (sym eb) (owned_miss f b o day x c.room (closing_shape f b o day c Estimated basis.rung kwh refl) (omega (arith, lt))))

    owned_move : (customer : ℕ) (f' : PremiseFile M J) → (has_open f.condition ≡ false) × (f' ≡ after_move f customer) → Owned f' b
    owned_move customer f' m =
        let none = closed_count f.condition m.0 in
        let n : f.settled + 0 ≡ in_use f = omega (arith, none) in
        subst (λ (g : PremiseFile M J). Owned g b) (sym m.1) (record { long = o.long; within = omega (arith, n, o.within); entries = subst (λ (j : ℕ). Owns turn (take j b)) (sym n) o.entries })

    owned_same : (f' : PremiseFile M J) (b' : List Entry) → f' ≡ f → b' ≡ b → Owned f' b'
    owned_same f' b' ef eb = subst (λ (g : PremiseFile M J). Owned g b') (sym ef) (subst (λ (l : List Entry). Owned f l) (sym eb) o)

    owned_next : (e : Happening) (f' : PremiseFile M J) (b' : List Entry) → Happens table higher f b e f' b' → Owned f' b'
    owned_next (Read day register (Ok a)) f' b' h = owned_read day register a f' b' (read_step higher f b day register a f' b' h)
    owned_next (Read day register (Err n)) f' b' h = let q = read_refused higher f b day register n f' b' h in owned_same f' b' q.0 q.1
    owned_next (Miss day (Ok a)) f' b' h = owned_missed day a f' b' (miss_step table f b day a f' b' h)
    owned_next (Miss day (Err n)) f' b' h = let q = miss_refused table f b day n f' b' h in owned_same f' b' q.same_file q.same_book
    owned_next (Move customer (Ok a)) f' b' h = subst (λ (l : List Entry). Owned f' l) (sym h.1) (owned_move customer f' (move_step f customer a f' h.0))
    owned_next (Move customer (Err n)) f' b' h = owned_same f' b' (move_refused f customer n f' h.0) h.1

  owned_start : (f : PremiseFile M J) (b : List Entry) → Opened f b → Owned f b
  owned_start f b o =
      let p = opened_by table higher o.method o.judgement o.rate (dial_of o.digits) o.day o.register o.customer (length b) f o.accepts in
      let none : open_count f.condition ≡ 0 = ap open_count p.1 in
      let n : in_use f ≡ 0 = omega (arith, p.0, none) in
      record { long = sym p.2; within = omega (arith, n); entries = subst (λ (j : ℕ). Owns (turn_of f.dial) (take j b)) (sym n) tt }

  -- after every history of an opened file
  pub owned : (f0 : PremiseFile M J) (b0 : List Entry) (es : List Happening) (f : PremiseFile M J) (b : List Entry) → Opened f0 b0 → Lived table higher f0 b0 es f b → Owned f b
  owned f0 b0 es f b o start = owned_start f0 b0 o
  owned f0 b0 es f b o (next e l h) = owned_next f0 _ _ _ (standing table higher f0 b0 _ _ _ o l) (owned f0 b0 _ _ _ o l) e f b h

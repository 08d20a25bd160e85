-- How file and book stand after every history.
use Rattle.std.proofs.Common.{◌≡◌, ℕ, ◌+◌, ◌-◌, ◌<◌, ◌≤◌, Bool, true, false, cond, not, ◌&&◌, ◌||◌, eqb, ltb, leb, ◌≢◌, ◌⊎◌, List, [], ◌∷◌, ◌++◌, length, get_or, take, drop, set, Some, Ok, Err, Option, Result, sym, refl, ap, ◌∙◌, subst, inl, inr, ⊎_elim, append_assoc, arith, length-drop}
use Rattle.std.proofs.lemmas.List.{append-nil, length-append, length_push, length-set, length-take-le, take-set-le, take_at, take_all, take_more, get_or-set_same, get_or-set_other, get_or_append_left, get_or_push, get_or-take, get_or-drop}
use Rattle.std.proofs.lemmas.Bool.{cond-true, cond-false, cases_Bool, cases_lt, ltb-true, ltb-false, or_parts, and_parts, and_from}
use Rattle.calendar.specs.Calendar.{last_day}
use Rattle.measures.specs.Refusals.{off_calendar, off_dial, no_customer, bad_places}
use Rattle.measures.specs.declared.rate.Rate.{Rate}
use Rattle.measures.specs.declared.dial.Dial.{Dial}
use Rattle.measures.specs.declared.entry.Entry.{Entry}
use Rattle.measures.specs.declared.entry.Kind.{Kind}
use Rattle.measures.specs.declared.entry.Kind.TheVariants.{Actual, TrueUp, Estimated, PutOff, Corrected}
use Rattle.measures.specs.Dial.{turn_of, dial_of, advance}
use Rattle.estimating.specs.Estimates.{estimate}
use Rattle.measures.specs.Entry.{kind_number, total_kwh, total_usage_days}
use Rattle.sharing.specs.Sharing.{sum_of}
use Rattle.sharing.specs.Entries.{is_put_off, entry_part, entry_weight, entry_given, entry_kwh}
use Rattle.sharing.proofs.Shares.{length_shared, shared_out}
use Rattle.estimating.specs.declared.basis.Question.{Question}
use Rattle.estimating.specs.declared.basis.Basis.{Basis}
use Rattle.premise.specs.declared.condition.Condition.{Condition}
use Rattle.premise.specs.declared.condition.Condition.TheVariants.{Fresh, Settled, Waiting, Carrying}
use Rattle.premise.specs.declared.period.Billing.TheVariants.{Alone, Shared}
use Rattle.premise.specs.declared.file.PremiseFile.{PremiseFile}
use Rattle.premise.specs.Books.{no_entry, is_estimated, any_estimated, waiting_days}
use Rattle.premise.specs.Files.{in_use, open_count, is_fresh, has_open, missed, puts_off, open_run, open_sum, closing, putting_off, usage_days_of, after_read, after_miss, after_move, shared_run, corrected_book, as_actual, billing, billed, question, open_on}
use Rattle.premise.specs.declared.happening.Happening.{Happening}
use Rattle.premise.specs.declared.happening.Happening.TheVariants.{Read, Miss, Move}
use Rattle.premise.specs.History.{after, registers, accepted, accepted_to_read, customer_after, day_after, initial_after, place_step, customer_step, day_step, initial_step, last_of, advances, Opened, Happens, Lived, start, next, MissedBill, put_off, estimated, BillAt}
use Rattle.premise.proofs.Corrections.{sum_append}
use Rattle.premise.proofs.Totals.{total_append, total_take_add, total_set, none_estimated, all_taking_part}
use Rattle.premise.proofs.Outcomes.{Closable, passed, ReadStep, read_step, read_refused, MissStep, step_put_off, step_estimated, miss_step, miss_refused, move_step, move_refused}
use Rattle.premise.proofs.Words.{after_append, registers_append, last_append, advances_append}

-- the ways that a read is billed
pub data BillingWay {M J : Type 0} (higher : J → ℕ → ℕ → ℕ → Bool) (f : PremiseFile M J) (b : List Entry) (day a : ℕ) : Type 0 where
  alone : any_estimated (open_run f b) ≡ false → billing higher f b day a ≡ Alone Actual a → BillingWay higher f b day a
  rest : any_estimated (open_run f b) ≡ true → open_sum f b ≤ a → higher f.judgement a (open_sum f b) (total_usage_days (open_run f b) + usage_days_of f b day) ≡ false
      → billing higher f b day a ≡ Alone TrueUp (a - open_sum f b) → BillingWay higher f b day a
  out : any_estimated (open_run f b) ≡ true → (ltb a (open_sum f b) || higher f.judgement a (open_sum f b) (total_usage_days (open_run f b) + usage_days_of f b day)) ≡ true
      → billing higher f b day a ≡ Shared → BillingWay higher f b day a

pub billing_way : {M J : Type 0} (higher : J → ℕ → ℕ → ℕ → Bool) (f : PremiseFile M J) (b : List Entry) (day a : ℕ) → BillingWay higher f b day a
billing_way higher f b day a =
    let u = open_sum f b in
    let j = higher f.judgement a u (total_usage_days (open_run f b) + usage_days_of f b day) in
    ⊎_elim
    (λ t. ⊎_elim
    (λ h. out t h (cond-true _ _ _ t ∙ cond-true _ _ _ h))
    (λ h. let p = or_parts (ltb a u) j h in rest t (ltb-false a u p.0) p.1 (cond-true _ _ _ t ∙ cond-false _ _ _ h))
    (cases_Bool (ltb a u || j)))
    (λ t. alone t (cond-false _ _ _ t))
    (cases_Bool (any_estimated (open_run f b)))

-- an entry that is written at a later place changes no put-off days
pub waiting_set : (k n : ℕ) (b : List Entry) (x : Entry) → k ≤ n → waiting_days k (set b n x) ≡ waiting_days k b
waiting_set k n b x h = ⊎_elim
    (λ some. let ne : (k - 1) ≢ n = λ e. omega arith in ap (λ (e : Entry). cond (ltb 0 k && is_put_off e.kind) e.days 0) (get_or-set_other b n (k - 1) x no_entry ne))
    (λ none. let z : k ≡ 0 = omega arith in rw z)
    (cases_lt 0 k)

module _ {M J : Type 0} (f : PremiseFile M J) (b : List Entry) where
  -- the entries in use are those up to the last accepted read and the open ones
  pub in_use_total : total_kwh (take (in_use f) b) ≡ total_kwh (take f.settled b) + open_sum f b
  in_use_total = total_take_add f.settled (open_count f.condition) b

  pub length_run : in_use f ≤ length b → length (open_run f b) ≡ open_count f.condition
  length_run h = length-take-le (open_count f.condition) (drop f.settled b) (omega (arith, length-drop f.settled b))

  pub run_at : (k : ℕ) → k < open_count f.condition → get_or (open_run f b) k no_entry ≡ get_or b (f.settled + k) no_entry
  run_at k h = get_or-take (open_count f.condition) (drop f.settled b) k no_entry h ∙ get_or-drop f.settled b k no_entry

  module _ (day a : ℕ) (room : in_use f < length b) where
    new_entry : Entry
    new_entry = closing f b day Actual 0 0

    pub length_shared_run : length (shared_run f b day a) ≡ open_count f.condition + 1
    length_shared_run =
        let xs = open_run f b ++ (closing f b day Actual 0 0 ∷ []) in
        length_shared entry_part entry_weight entry_given a (sum_of entry_part entry_weight xs) xs 0 ∙ length_push (open_run f b) (closing f b day Actual 0 0) ∙ ap (λ n. n + 1) (length_run (omega arith))

    -- the shared run is the corrected entries and the one of the read
    pub shared_run_cut : shared_run f b day a ≡ take (open_count f.condition) (shared_run f b day a) ++ (get_or (shared_run f b day a) (open_count f.condition) no_entry ∷ [])
    shared_run_cut =
        let ys = shared_run f b day a in
        let k = open_count f.condition in
        sym (take_all (k + 1) ys (omega (arith, length_shared_run))) ∙ take_more ys k no_entry (omega (arith, length_shared_run))

    -- the book after sharing out: up to the last accepted read, the stretch that was shared, and the rest
    unfoldable pub front : List Entry
    front = take f.settled b ++ (take (open_count f.condition) (shared_run f b day a) ++ (as_actual (get_or (shared_run f b day a) (open_count f.condition) no_entry) ∷ []))

    pub corrected_front : corrected_book f b day a ≡ front ++ drop (in_use f + 1) b
    unfolding front
    corrected_front =
        let k = open_count f.condition in
        let ys = shared_run f b day a in
        let l = as_actual (get_or ys k no_entry) in
        sym (append_assoc (take f.settled b) (take k ys ++ (l ∷ [])) (drop (in_use f + 1) b) ∙ ap (λ x. take f.settled b ++ x) (append_assoc (take k ys) (l ∷ []) (drop (in_use f + 1) b)))

    pub length_front : length front ≡ in_use f + 1
    unfolding front
    length_front =
        let k = open_count f.condition in
        let ys = shared_run f b day a in
        let l = as_actual (get_or ys k no_entry) in
        omega (arith, length-append (take f.settled b) (take k ys ++ (l ∷ [])), length_push (take k ys) l, length-take-le f.settled b (omega arith), length-take-le k ys (omega (arith, length_shared_run)))

    pub length_corrected : length (corrected_book f b day a) ≡ length b
    length_corrected = ap length corrected_front ∙ (omega (arith, length-append front (drop (in_use f + 1) b), length_front, length-drop (in_use f + 1) b))

    pub corrected_total : total_kwh (take (in_use f + 1) (corrected_book f b day a)) ≡ total_kwh (take f.settled b) + total_kwh (shared_run f b day a)
    unfolding front
    corrected_total =
        let k = open_count f.condition in
        let ys = shared_run f b day a in
        let x = get_or ys k no_entry in
        let cut : take (in_use f + 1) (corrected_book f b day a) ≡ front = ap (take (in_use f + 1)) corrected_front ∙ take_at front (drop (in_use f + 1) b) (in_use f + 1) length_front in
        let whole = ap total_kwh shared_run_cut ∙ total_append (take k ys) (x ∷ []) in
        ap total_kwh cut ∙ total_append (take f.settled b) (take k ys ++ (as_actual x ∷ [])) ∙ ap (λ n. total_kwh (take f.settled b) + n) (total_append (take k ys) (as_actual x ∷ []) ∙ sym whole)

-- what is not initial, or not short, is not put off
not_put_off : (c : Condition) (d : ℕ) → puts_off c d ≡ false → is_fresh c ≡ true → 11 ≤ d
not_put_off c d p i = ⊎_elim
    (λ t. let z : true ≡ false = sym (and_from (is_fresh c) (ltb d 11) i t) ∙ p in let n : ◌≡◌ {A = ℕ} 0 1 = cc in absurd (omega arith))
    (λ t. ltb-false d 11 t)
    (cases_Bool (ltb d 11))

-- one entry more is open after a miss
pub missed_count : (c : Condition) (d : ℕ) → open_count (missed c d) ≡ open_count c + 1
missed_count Fresh d = ⊎_elim (λ t. ap open_count (cond-true _ _ _ t)) (λ t. ap open_count (cond-false _ _ _ t)) (cases_Bool (ltb d 11))
missed_count Settled d = refl
missed_count Waiting d = refl
missed_count (Carrying n) d = refl

missed_fresh : (c : Condition) (d : ℕ) → is_fresh (missed c d) ≡ false
missed_fresh Fresh d = ⊎_elim (λ t. ap is_fresh (cond-true _ _ _ t)) (λ t. ap is_fresh (cond-false _ _ _ t)) (cases_Bool (ltb d 11))
missed_fresh Settled d = refl
missed_fresh Waiting d = refl
missed_fresh (Carrying n) d = refl

pub closed_count : (c : Condition) → has_open c ≡ false → open_count c ≡ 0
closed_count Fresh h = refl
closed_count Settled h = refl
closed_count Waiting h = let z : ◌≡◌ {A = ℕ} 0 1 = cc in absurd (omega arith)
closed_count (Carrying n) h = let z : ◌≡◌ {A = ℕ} 0 1 = cc in absurd (omega arith)

-- taking a share does not change who takes part
pub given_part : (e : Entry) (n : ℕ) → entry_part (entry_given e n) ≡ entry_part e
given_part e n = ⊎_elim
    (λ t. ap (λ k. not (is_put_off k)) (cond-true _ _ _ t) ∙ ap not (sym t))
    (λ t. ap (λ k. not (is_put_off k)) (cond-false _ _ _ t) ∙ ap not (sym t))
    (cases_Bool (is_put_off e.kind))

-- an estimated entry takes part
both_kinds : (k : Kind) → is_estimated k ≡ true → not (is_put_off k) ≡ false → ⊥
both_kinds Actual e p = let z : ◌≡◌ {A = ℕ} 0 1 = cc in omega arith
both_kinds TrueUp e p = let z : ◌≡◌ {A = ℕ} 0 1 = cc in omega arith
both_kinds Estimated e p = let z : ◌≡◌ {A = ℕ} 0 1 = cc in omega arith
both_kinds PutOff e p = let z : ◌≡◌ {A = ℕ} 0 1 = cc in omega arith
both_kinds Corrected e p = let z : ◌≡◌ {A = ℕ} 0 1 = cc in omega arith

module _ {M J : Type 0} (table : M → List Entry → Question → Option Basis) (higher : J → ℕ → ℕ → ℕ → Bool) where
  pub record Standing (f0 : PremiseFile M J) (es : List Happening) (f : PremiseFile M J) (b : List Entry) : Type 0 where
    pub same_method : f.method ≡ f0.method
    pub same_judgement : f.judgement ≡ f0.judgement
    pub same_rate : f.rate ≡ f0.rate
    pub same_dial : f.dial ≡ f0.dial
    pub whose : f.customer ≡ customer_after f0.customer es
    pub closed : f.day ≡ day_after f0.day es
    pub shown : f.register ≡ last_of f0.register (registers es)
    pub first : is_fresh f.condition ≡ initial_after true es
    pub counted : in_use f ≡ accepted es
    pub upto : f.settled ≡ accepted_to_read es
    pub within : in_use f ≤ length b
    pub dialled : total_kwh (take f.settled b) ≡ advances (turn_of f0.dial) f0.register (registers es)
    pub bills : (k : ℕ) → f.settled ≤ k → k < in_use f → BillAt table f0.method f0.rate b k

  -- an opened file
  pub opened_by : (m : M) (j : J) (rate : Rate) (x : Result Dial ℕ) (day register customer places : ℕ) (f : PremiseFile M J) → open_on m j rate x day register customer places ≡ Ok f → (f.settled ≡ 0) × (f.condition ≡ Fresh) × (f.places ≡ places)
  opened_by m j rate (Err n) day register customer places f h = let z : ◌≡◌ {A = ℕ} 0 1 = cc in absurd (omega arith)
  opened_by m j rate (Ok dial) day register customer places f h =
      let file : PremiseFile M J = record { method = m; judgement = j; rate = rate; dial = dial; places = places; settled = 0; condition = Fresh; day = day; register = register; customer = customer } in
      let last = cond (leb 1 places && leb places 240) (Ok file) (Err bad_places) in
      let p = passed (leb day last_day) (cond (ltb register (turn_of dial)) (cond (eqb customer 0) (Err no_customer) last) (Err off_dial)) off_calendar f h in
      let q = passed (ltb register (turn_of dial)) (cond (eqb customer 0) (Err no_customer) last) off_dial f p.1 in
      let some : last ≡ Ok f = ⊎_elim
      (λ t. let w : ◌≡◌ {A = Result (PremiseFile M J) ℕ} (Err no_customer) (Ok f) = sym (cond-true _ _ _ t) ∙ q.1 in let z : ◌≡◌ {A = ℕ} 0 1 = cc in absurd (omega arith))
      (λ t. sym (cond-false _ _ _ t) ∙ q.1)
      (cases_Bool (eqb customer 0)) in
      let r = passed (leb 1 places && leb places 240) (Ok file) bad_places f some in
      let e : file ≡ f = (let o = r.1 in cc) in
      (sym (ap (λ (g : PremiseFile M J). g.settled) e), sym (ap (λ (g : PremiseFile M J). g.condition) e), sym (ap (λ (g : PremiseFile M J). g.places) e))

  standing_start : (f : PremiseFile M J) (b : List Entry) → Opened f b → Standing f [] f b
  standing_start f b o =
      let p = opened_by o.method o.judgement o.rate (dial_of o.digits) o.day o.register o.customer (length b) f o.accepts in
      let none : open_count f.condition ≡ 0 = ap open_count p.1 in
      record {
        same_method = refl;
        same_judgement = refl;
        same_rate = refl;
        same_dial = refl;
        whose = refl;
        closed = refl;
        shown = refl;
        first = ap is_fresh p.1;
        counted = omega (arith, p.0, none);
        upto = p.0;
        within = omega (arith, p.0, none);
        dialled = ap (λ n. total_kwh (take n b)) p.0;
        bills = λ k lo hi. absurd (omega (arith, p.0, none));
      }

  module _ (f0 : PremiseFile M J) (es : List Happening) (f : PremiseFile M J) (b : List Entry) (s : Standing f0 es f b) where
    -- a refused call changes nothing
    pub record Quiet (e : Happening) : Type 0 where
      pub customer : (c : ℕ) → customer_step c e ≡ c
      pub day : (d : ℕ) → day_step d e ≡ d
      pub initial : (i : Bool) → initial_step i e ≡ i
      pub count : (p : ℕ × ℕ) → place_step p e ≡ p
      pub register : registers (e ∷ []) ≡ []

    standing_refused : (e : Happening) → Quiet e → Standing f0 (es ++ (e ∷ [])) f b
    standing_refused e q =
        let regs : registers (es ++ (e ∷ [])) ≡ registers es = registers_append es (e ∷ []) ∙ ap (λ rs. registers es ++ rs) q.register ∙ append-nil (registers es) in
        record {
          same_method = s.same_method;
          same_judgement = s.same_judgement;
          same_rate = s.same_rate;
          same_dial = s.same_dial;
          whose = s.whose ∙ sym (after_append customer_step f0.customer es (e ∷ []) ∙ q.customer _);
          closed = s.closed ∙ sym (after_append day_step f0.day es (e ∷ []) ∙ q.day _);
          shown = s.shown ∙ ap (last_of f0.register) (sym regs);
          first = s.first ∙ sym (after_append initial_step true es (e ∷ []) ∙ q.initial _);
          counted = s.counted ∙ sym (ap (λ (t : ℕ × ℕ). t.0) (after_append place_step (0, 0) es (e ∷ []) ∙ q.count (after place_step (0, 0) es)));
          upto = s.upto ∙ sym (ap (λ (t : ℕ × ℕ). t.1) (after_append place_step (0, 0) es (e ∷ []) ∙ q.count (after place_step (0, 0) es)));
          within = s.within;
          dialled = s.dialled ∙ ap (advances (turn_of f0.dial) f0.register) (sym regs);
          bills = s.bills;
        }

    -- the same file and book
    same : {es' : List Happening} (f' : PremiseFile M J) (b' : List Entry) → f' ≡ f → b' ≡ b → Standing f0 es' f b → Standing f0 es' f' b'
    same {es'} f' b' ef eb w = subst (λ (g : PremiseFile M J). Standing f0 es' g b') (sym ef) (subst (λ (c : List Entry). Standing f0 es' f c) (sym eb) w)

    -- an open entry holds kWh only if it is estimated, and takes part only then
    pub open_kwh : (k : ℕ) → k < open_count f.condition → ((get_or (open_run f b) k no_entry).kwh ≡ 0) ⊎ (is_estimated (get_or (open_run f b) k no_entry).kind ≡ true)
    open_kwh k h = rw (run_at f b k h) (of_bill (s.bills (f.settled + k) (omega arith) (omega arith)))
      where
        of_bill : BillAt table f0.method f0.rate b (f.settled + k) → ((get_or b (f.settled + k) no_entry).kwh ≡ 0) ⊎ (is_estimated (get_or b (f.settled + k) no_entry).kind ≡ true)
        of_bill (put_off i d e u r w) = inl w
        of_bill (estimated i e u g) = inr (ap is_estimated e)

    -- the entry of a read has a usage day, so there is always something to weigh by
    pub weighs : (day : ℕ) → Closable f b day → (a : ℕ) → sum_of entry_part entry_weight (open_run f b ++ (closing f b day Actual 0 0 ∷ [])) ≡ 0 → a ≡ 0
    weighs day c a z =
        let new = closing f b day Actual 0 0 in
        absurd (omega (arith, sum_append entry_weight (open_run f b) (new ∷ []), c.later))

    -- what is shared out over the open entries and the entry of the read is all there
    pub shared_total : (day a : ℕ) → in_use f < length b → (sum_of entry_part entry_weight (open_run f b ++ (closing f b day Actual 0 0 ∷ [])) ≡ 0 → a ≡ 0) → total_kwh (shared_run f b day a) ≡ a
    shared_total day a room none =
        let new = closing f b day Actual 0 0 in
        let xs = open_run f b ++ (new ∷ []) in
        let out = shared_out entry_part entry_weight entry_given entry_kwh (λ x n. given_part x n) (λ x n. refl) (λ x n. refl) a xs none in
        let bystander : (k : ℕ) → k < length (shared_run f b day a) → entry_part (get_or (shared_run f b day a) k no_entry) ≡ false → (get_or (shared_run f b day a) k no_entry).kwh ≡ 0
        = λ k l p.
        let l' : k < length xs = omega (arith, out.same_length) in
        let p' : entry_part (get_or xs k no_entry) ≡ false = sym (out.same_part k no_entry l') ∙ p in
        ap (λ (e : Entry). e.kwh) (out.bystanders k no_entry l' p') ∙ ⊎_elim
        (λ h.
        let at : get_or xs k no_entry ≡ get_or (open_run f b) k no_entry = get_or_append_left (open_run f b) (new ∷ []) no_entry k h in
        ap (λ (e : Entry). e.kwh) at ∙ ⊎_elim
        (λ z. z)
        (λ t. absurd (both_kinds (get_or (open_run f b) k no_entry).kind t (sym (ap entry_part at) ∙ p')))
        (open_kwh k (omega (arith, length_run f b s.within))))
        (λ h.
        let at : get_or xs k no_entry ≡ new = get_or_push (open_run f b) new no_entry k (omega (arith, length_push (open_run f b) new)) in
        let z : true ≡ false = sym (ap entry_part at) ∙ p' in
        let n : ◌≡◌ {A = ℕ} 0 1 = cc in
        absurd (omega arith))
        (cases_lt k (length (open_run f b))) in
        all_taking_part (shared_run f b day a) bystander ∙ out.whole

    -- the entries up to an accepted read come to its advance and those before
    pub read_total : (day register : ℕ) (a : ℕ × ℕ × ℕ) (f' : PremiseFile M J) (b' : List Entry) (r : ReadStep higher f b day register a f' b')
        → (total_kwh (take (in_use f + 1) b') ≡ total_kwh (take f.settled b) + r.advanced) × (length b' ≡ length b)
    read_total day register a f' b' r = by_way (billing_way higher f b day r.advanced)
      where
        by_alone : (kind : Kind) (kwh : ℕ) → billing higher f b day r.advanced ≡ Alone kind kwh → open_sum f b + kwh ≡ r.advanced → (total_kwh (take (in_use f + 1) b') ≡ total_kwh (take f.settled b) + r.advanced) × (length b' ≡ length b)
        by_alone kind kwh w e =
            let book : b' ≡ set b (in_use f) (closing f b day kind 0 kwh) = r.book ∙ ap (λ x. (billed x f b day r.advanced).1) w in
            (ap (λ x. total_kwh (take (in_use f + 1) x)) book ∙ omega (arith, total_set (in_use f) b (closing f b day kind 0 kwh) r.closes.room, in_use_total f b, e), ap length book ∙ length-set b (in_use f) (closing f b day kind 0 kwh))

        by_way : BillingWay higher f b day r.advanced → (total_kwh (take (in_use f + 1) b') ≡ total_kwh (take f.settled b) + r.advanced) × (length b' ≡ length b)
        by_way (alone t w) =
            let none : open_sum f b ≡ 0 = none_estimated (open_run f b) t (λ k l. open_kwh k (omega (arith, length_run f b s.within))) in
            by_alone Actual r.advanced w (omega (arith, none))
        by_way (rest t le j w) = by_alone TrueUp (r.advanced - open_sum f b) w (omega (arith, le))
        by_way (out t h w) =
            let book : b' ≡ corrected_book f b day r.advanced = r.book ∙ ap (λ x. (billed x f b day r.advanced).1) w in
            let total = shared_total day r.advanced r.closes.room (weighs day r.closes r.advanced) in
            (ap (λ x. total_kwh (take (in_use f + 1) x)) book ∙ corrected_total f b day r.advanced r.closes.room ∙ ap (λ n. total_kwh (take f.settled b) + n) total, ap length book ∙ length_corrected f b day r.advanced r.closes.room)

    standing_read : (day register : ℕ) (a : ℕ × ℕ × ℕ) (f' : PremiseFile M J) (b' : List Entry) → ReadStep higher f b day register a f' b' → Standing f0 (es ++ (Read day register (Ok a) ∷ [])) f' b'
    standing_read day register a f' b' r =
        let e = Read day register (Ok a) in
        let t = turn_of f0.dial in
        let regs : registers (es ++ (e ∷ [])) ≡ registers es ++ (register ∷ []) = registers_append es (e ∷ []) in
        let total = read_total day register a f' b' r in
        let step : advances t f0.register (registers (es ++ (e ∷ []))) ≡ advances t f0.register (registers es) + (advance t (last_of f0.register (registers es)) register + 0)
        = ap (advances t f0.register) regs ∙ advances_append t f0.register (registers es) (register ∷ []) in
        let far : r.advanced ≡ advance t (last_of f0.register (registers es)) register = r.advanced_is ∙ ap (λ d. advance (turn_of d) f.register register) s.same_dial ∙ ap (λ p. advance t p register) s.shown in
        let n : f.settled + (open_count f.condition + 1) ≡ in_use f + 1 = omega arith in
        let all : Standing f0 (es ++ (e ∷ [])) (after_read f day register) b' = record {
          same_method = s.same_method;
          same_judgement = s.same_judgement;
          same_rate = s.same_rate;
          same_dial = s.same_dial;
          whose = s.whose ∙ sym (after_append customer_step f0.customer es (e ∷ []));
          closed = sym (after_append day_step f0.day es (e ∷ []));
          shown = sym (ap (last_of f0.register) regs ∙ last_append f0.register (registers es) (register ∷ []));
          first = sym (after_append initial_step true es (e ∷ []));
          counted = omega (arith, s.counted, ap (λ (t : ℕ × ℕ). t.0) (after_append place_step (0, 0) es (e ∷ [])));
          upto = omega (arith, s.counted, ap (λ (t : ℕ × ℕ). t.1) (after_append place_step (0, 0) es (e ∷ [])));
          within = omega (arith, total.1, r.closes.room);
          dialled = ap (λ m. total_kwh (take m b')) n ∙ omega (arith, total.0, s.dialled, step, far);
          bills = λ k lo hi. absurd (omega arith);
        } in
        subst (λ (g : PremiseFile M J). Standing f0 (es ++ (e ∷ [])) g b') (sym r.file) all

    standing_move : (customer : ℕ) (a : Unit {0}) (f' : PremiseFile M J) → (has_open f.condition ≡ false) × (f' ≡ after_move f customer) → Standing f0 (es ++ (Move customer (Ok a) ∷ [])) f' b
    standing_move customer a f' m =
        let e = Move customer (Ok a) in
        let none = closed_count f.condition m.0 in
        let regs : registers (es ++ (e ∷ [])) ≡ registers es = registers_append es (e ∷ []) ∙ append-nil (registers es) in
        let all : Standing f0 (es ++ (e ∷ [])) (after_move f customer) b = record {
          same_method = s.same_method;
          same_judgement = s.same_judgement;
          same_rate = s.same_rate;
          same_dial = s.same_dial;
          whose = sym (after_append customer_step f0.customer es (e ∷ []));
          closed = s.closed ∙ sym (after_append day_step f0.day es (e ∷ []));
          shown = s.shown ∙ ap (last_of f0.register) (sym regs);
          first = sym (after_append initial_step true es (e ∷ []));
          counted = omega (arith, none, s.counted, ap (λ (t : ℕ × ℕ). t.0) (after_append place_step (0, 0) es (e ∷ [])));
          upto = s.upto ∙ sym (ap (λ (t : ℕ × ℕ). t.1) (after_append place_step (0, 0) es (e ∷ [])));
          within = omega (arith, s.within);
          dialled = s.dialled ∙ ap (advances (turn_of f0.dial) f0.register) (sym regs);
          bills = λ k lo hi. absurd (omega arith);
        } in
        subst (λ (g : PremiseFile M J). Standing f0 (es ++ (e ∷ [])) g b) (sym m.1) all

    -- the bill of the entry that a miss adds
    pub put_off_bill : (day : ℕ) → puts_off f.condition (day - f.day) ≡ true → MissedBill table f0.method f0.rate (take (in_use f) b) (waiting_days (in_use f) b) (putting_off f day)
    put_off_bill day p =
        let q = and_parts (is_fresh f.condition) (ltb (day - f.day) 11) p in
        put_off q.0 (ltb-true (day - f.day) 11 q.1) refl refl refl refl

    pub estimated_bill : (day : ℕ) → f.day < day → puts_off f.condition (day - f.day) ≡ false → (basis : Basis) → table f.method (take (in_use f) b) (question f day) ≡ Some basis
        → MissedBill table f0.method f0.rate (take (in_use f) b) (waiting_days (in_use f) b) (closing f b day Estimated basis.rung (estimate basis (usage_days_of f b day)))
    estimated_bill day later p basis t =
        let from : day - (day - f.day) ≡ f.day = omega arith in
        let asked : Question = record { customer = f.customer; start_day = day - (day - f.day); end_day = day; rate = f0.rate } in
        let same : asked ≡ question f day = ap (λ d. record { customer = f.customer; start_day = d; end_day = day; rate = f0.rate }) from ∙ ap (λ r. record { customer = f.customer; start_day = f.day; end_day = day; rate = r }) (sym s.same_rate) in
        let answer : table f0.method (take (in_use f) b) asked ≡ Some basis = ap (λ m. table m (take (in_use f) b) asked) (sym s.same_method) ∙ ap (table f.method (take (in_use f) b)) same ∙ t in
        estimated (λ i. not_put_off f.condition (day - f.day) p i) refl refl (record { basis = basis; answer = answer; rung = refl; kwh = refl })

    -- an entry that is written after those in use changes no bill before it
    pub bill_kept : (x : Entry) → in_use f < length b → (k : ℕ) → k < in_use f → BillAt table f0.method f0.rate b k → BillAt table f0.method f0.rate (set b (in_use f) x) k
    bill_kept x room k h bill =
        let n = in_use f in
        let t : take k (set b n x) ≡ take k b = take-set-le k b n x (omega arith) in
        let w : waiting_days k (set b n x) ≡ waiting_days k b = waiting_set k n b x (omega arith) in
        let ne : k ≢ n = λ e. omega arith in
        let g : get_or (set b n x) k no_entry ≡ get_or b k no_entry = get_or-set_other b n k x no_entry ne in
        subst (λ (l : List Entry). MissedBill table f0.method f0.rate l (waiting_days k (set b n x)) (get_or (set b n x) k no_entry)) (sym t)
        (subst (λ (v : ℕ). MissedBill table f0.method f0.rate (take k b) v (get_or (set b n x) k no_entry)) (sym w)
        (subst (λ (e : Entry). MissedBill table f0.method f0.rate (take k b) (waiting_days k b) e) (sym g) bill))

    pub bill_written : (x : Entry) → in_use f < length b → MissedBill table f0.method f0.rate (take (in_use f) b) (waiting_days (in_use f) b) x → BillAt table f0.method f0.rate (set b (in_use f) x) (in_use f)
    bill_written x room bill =
        let n = in_use f in
        let t : take n (set b n x) ≡ take n b = take-set-le n b n x (omega arith) in
        let w : waiting_days n (set b n x) ≡ waiting_days n b = waiting_set n n b x (omega arith) in
        let g : get_or (set b n x) n no_entry ≡ x = get_or-set_same b n x no_entry room in
        subst (λ (l : List Entry). MissedBill table f0.method f0.rate l (waiting_days n (set b n x)) (get_or (set b n x) n no_entry)) (sym t)
        (subst (λ (v : ℕ). MissedBill table f0.method f0.rate (take n b) v (get_or (set b n x) n no_entry)) (sym w)
        (subst (λ (e : Entry). MissedBill table f0.method f0.rate (take n b) (waiting_days n b) e) (sym g) bill))

    -- the entry that an accepted miss adds, and its bill
    pub record Added (day : ℕ) (a : ℕ × ℕ × ℕ) (f' : PremiseFile M J) (b' : List Entry) : Type 0 where
      pub entry : Entry
      pub closable : Closable f b day
      pub book : b' ≡ set b (in_use f) entry
      pub file : f' ≡ after_miss f day (day - f.day)
      pub bill : MissedBill table f0.method f0.rate (take (in_use f) b) (waiting_days (in_use f) b) entry
      pub told : a ≡ (kind_number entry.kind, entry.rung, entry.kwh)
      pub customer : entry.customer ≡ f.customer
      pub end_day : entry.end_day ≡ day
      pub days : entry.days ≡ day - f.day
      pub initial : entry.initial ≡ is_fresh f.condition
      pub below : entry.kind ≡ Estimated → open_sum f b + entry.kwh < turn_of f.dial

    pub added : (day : ℕ) (a : ℕ × ℕ × ℕ) (f' : PremiseFile M J) (b' : List Entry) → MissStep table f b day a f' b' → Added day a f' b'
    added day a f' b' (step_put_off c p t ef eb) =
        record { entry = putting_off f day; closable = c; book = eb; file = ef; bill = put_off_bill day p; told = t; customer = refl; end_day = refl; days = refl; initial = refl; below = λ k. (let z : ◌≡◌ {A = ℕ} 0 1 = cc in absurd (omega arith)) }
    added day a f' b' (step_estimated c p basis t lt an ef eb) =
        record { entry = closing f b day Estimated basis.rung (estimate basis (usage_days_of f b day)); closable = c; book = eb; file = ef; bill = estimated_bill day c.later p basis t; told = an; customer = refl; end_day = refl; days = refl; initial = refl; below = λ _. lt }

    standing_miss : (day : ℕ) (a : ℕ × ℕ × ℕ) (f' : PremiseFile M J) (b' : List Entry) → Added day a f' b' → Standing f0 (es ++ (Miss day (Ok a) ∷ [])) f' b'
    standing_miss day a f' b' m =
        let e = Miss day (Ok a) in
        let x = m.entry in
        let room = m.closable.room in
        let regs : registers (es ++ (e ∷ [])) ≡ registers es = registers_append es (e ∷ []) ∙ append-nil (registers es) in
        let more = missed_count f.condition (day - f.day) in
        let all : Standing f0 (es ++ (e ∷ [])) (after_miss f day (day - f.day)) (set b (in_use f) x) = record {
          same_method = s.same_method;
          same_judgement = s.same_judgement;
          same_rate = s.same_rate;
          same_dial = s.same_dial;
          whose = s.whose ∙ sym (after_append customer_step f0.customer es (e ∷ []));
          closed = sym (after_append day_step f0.day es (e ∷ []));
          shown = s.shown ∙ ap (last_of f0.register) (sym regs);
          first = missed_fresh f.condition (day - f.day) ∙ sym (after_append initial_step true es (e ∷ []));
          counted = omega (arith, more, s.counted, ap (λ (t : ℕ × ℕ). t.0) (after_append place_step (0, 0) es (e ∷ [])));
          upto = s.upto ∙ sym (ap (λ (t : ℕ × ℕ). t.1) (after_append place_step (0, 0) es (e ∷ [])));
          within = omega (arith, more, room, length-set b (in_use f) x);
          dialled = ap total_kwh (take-set-le f.settled b (in_use f) x (omega arith)) ∙ s.dialled ∙ ap (advances (turn_of f0.dial) f0.register) (sym regs);
          bills = λ k lo hi. ⊎_elim
              (λ old. bill_kept x room k old (s.bills k lo old))
              (λ new. let n : in_use f ≡ k = omega (arith, more, hi, new) in subst (λ (j : ℕ). BillAt table f0.method f0.rate (set b (in_use f) x) j) n (bill_written x room m.bill))
              (cases_lt k (in_use f));
        } in
        subst (λ (g : PremiseFile M J). Standing f0 (es ++ (e ∷ [])) g b') (sym m.file) (subst (λ (c : List Entry). Standing f0 (es ++ (e ∷ [])) (after_miss f day (day - f.day)) c) (sym m.book) all)

    standing_next : (e : Happening) (f' : PremiseFile M J) (b' : List Entry) → Happens table higher f b e f' b' → Standing f0 (es ++ (e ∷ [])) f' b'
    standing_next (Read day register (Ok a)) f' b' h = standing_read day register a f' b' (read_step higher f b day register a f' b' h)
    standing_next (Read day register (Err n)) f' b' h =
        let q = read_refused higher f b day register n f' b' h in
        same f' b' q.0 q.1 (standing_refused (Read day register (Err n)) (record { customer = λ c. refl; day = λ d. refl; initial = λ i. refl; count = λ k. refl; register = refl }))
    standing_next (Miss day (Ok a)) f' b' h = standing_miss day a f' b' (added day a f' b' (miss_step table f b day a f' b' h))
    standing_next (Miss day (Err n)) f' b' h =
        let q = miss_refused table f b day n f' b' h in
        same f' b' q.same_file q.same_book (standing_refused (Miss day (Err n)) (record { customer = λ c. refl; day = λ d. refl; initial = λ i. refl; count = λ k. refl; register = refl }))
    standing_next (Move customer (Ok a)) f' b' h =
        subst (λ (c : List Entry). Standing f0 (es ++ (Move customer (Ok a) ∷ [])) f' c) (sym h.1) (standing_move customer a f' (move_step f customer a f' h.0))
    standing_next (Move customer (Err n)) f' b' h =
        same f' b' (move_refused f customer n f' h.0) h.1 (standing_refused (Move customer (Err n)) (record { customer = λ c. refl; day = λ d. refl; initial = λ i. refl; count = λ k. refl; register = refl }))

  -- after every history of an opened file
  pub standing : (f0 : PremiseFile M J) (b0 : List Entry) (es : List Happening) (f : PremiseFile M J) (b : List Entry) → Opened f0 b0 → Lived table higher f0 b0 es f b → Standing f0 es f b
  standing f0 b0 es f b o start = standing_start f0 b0 o
  standing f0 b0 es f b o (next e l h) = standing_next f0 _ _ _ (standing f0 b0 _ _ _ o l) e f b h

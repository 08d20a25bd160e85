-- What each call bills, and that no call changes what is settled.
use Rattle.std.proofs.Common.{◌≡◌, ℕ, ◌+◌, ◌-◌, ◌*◌, ◌<◌, ◌≤◌, Bool, true, false, cond, ◌||◌, ltb, ◌⊎◌, List, [], ◌∷◌, ◌++◌, length, get_or, take, drop, set, Ok, Err, Option, sym, refl, ap, ◌∙◌, subst, inl, inr, ⊎_elim, append_assoc, arith}
use Rattle.std.proofs.lemmas.List.{length_push, length-take-le, take-set-le, take_at, take_all, get_or-set_same, get_or-set_other, get_or_append_left, get_or_push, get_or-take, get_or-drop, take-append-le, take-take, drop_at}
use Rattle.std.proofs.lemmas.Bool.{cond-true, cond-false, cases_lt, not-true, or_from, le-ltb}
use Rattle.measures.specs.declared.entry.Entry.{Entry}
use Rattle.measures.specs.declared.entry.Kind.{Kind}
use Rattle.measures.specs.declared.entry.Kind.TheVariants.{Actual, TrueUp, Corrected}
use Rattle.measures.specs.Dial.{turn_of, advance}
use Rattle.estimating.specs.Estimates.{estimate}
use Rattle.measures.specs.Entry.{kind_number, total_usage_days}
use Rattle.sharing.specs.Sharing.{sum_of, SharedOut}
use Rattle.sharing.specs.Entries.{is_put_off, entry_part, entry_weight, entry_given, entry_kwh}
use Rattle.sharing.proofs.Shares.{shared_out}
use Rattle.estimating.specs.declared.basis.Question.{Question}
use Rattle.estimating.specs.declared.basis.Basis.{Basis}
use Rattle.premise.specs.declared.period.Billing.TheVariants.{Alone, Shared}
use Rattle.premise.specs.declared.file.PremiseFile.{PremiseFile}
use Rattle.premise.specs.Books.{no_entry, any_estimated, corrections, waiting_days}
use Rattle.premise.specs.Files.{in_use, open_count, is_fresh, open_run, open_sum, closing, putting_off, usage_days_of, shared_run, corrected_book, as_actual, billing, billed, question}
use Rattle.premise.specs.declared.happening.Happening.{Happening}
use Rattle.premise.specs.declared.happening.Happening.TheVariants.{Read, Miss, Move}
use Rattle.premise.specs.History.{customer_after, day_after, Happens, Lived, start, next, BillAt}
use Rattle.premise.proofs.Corrections.{sum_append}
use Rattle.premise.proofs.Totals.{none_estimated}
use Rattle.premise.proofs.Outcomes.{ReadStep, read_step, read_refused, MissStep, step_put_off, step_estimated, miss_step, miss_refused, move_step, move_refused}
use Rattle.premise.proofs.Standing.{BillingWay, alone, rest, out, billing_way, given_part, length_run, run_at, length_shared_run, shared_run_cut, closed_count, Standing, open_kwh, weighs, bill_written, Added, added}
use Rattle.premise.specs.History.{Closes, Missed, NotMissed, TruedUp, IsSharedOut, ReadBill, Billed}
use Rattle.sharing.specs.Sharing.{RoundedDown}
use Rattle.sharing.proofs.Shares.{shared_place}

-- the last record of a list that was shared out may be put in another form, if it takes part, weighs and holds the same
relast : (xs before : List Entry) (x y : Entry) (total : ℕ) → SharedOut entry_part entry_weight entry_kwh total xs (before ++ (x ∷ []))
    → entry_part x ≡ true → entry_part y ≡ true → entry_weight y ≡ entry_weight x → entry_kwh y ≡ entry_kwh x → SharedOut entry_part entry_weight entry_kwh total xs (before ++ (y ∷ []))
relast xs before x y total o px py w q =
    let one : (figure : Entry → ℕ) → figure y ≡ figure x → sum_of entry_part figure (before ++ (y ∷ [])) ≡ sum_of entry_part figure (before ++ (x ∷ []))
    = λ figure e.
    let cx : cond (entry_part x) (figure x) 0 ≡ figure x = cond-true _ _ _ px in
    let cy : cond (entry_part y) (figure y) 0 ≡ figure y = cond-true _ _ _ py in
    omega (arith, sum_append figure before (y ∷ []), sum_append figure before (x ∷ []), e) in
    let front_of : (k : ℕ) → sum_of entry_part entry_kwh (take k (before ++ (y ∷ []))) ≡ sum_of entry_part entry_kwh (take k (before ++ (x ∷ [])))
    = λ k. ⊎_elim
    (λ all. ap (sum_of entry_part entry_kwh) (take_all k (before ++ (y ∷ [])) (omega (arith, length_push before y))) ∙ one entry_kwh q ∙ sym (ap (sum_of entry_part entry_kwh) (take_all k (before ++ (x ∷ [])) (omega (arith, length_push before x)))))
    (λ some. ap (sum_of entry_part entry_kwh) (take-append-le k before (y ∷ []) some ∙ sym (take-append-le k before (x ∷ []) some)))
    (cases_lt (length before) k) in
    let long : length xs ≡ length before + 1 = sym o.same_length ∙ length_push before x in
    let at_x : (k : ℕ) → length before ≤ k → k < length xs → get_or (before ++ (x ∷ [])) k no_entry ≡ x = λ k lo hi. get_or_push before x no_entry k (omega (arith, long)) in
    let at : (k : ℕ) (d : Entry) → k < length xs → ((k < length before) × (get_or (before ++ (y ∷ [])) k d ≡ get_or (before ++ (x ∷ [])) k d)) ⊎ ((get_or (before ++ (y ∷ [])) k d ≡ y) × (get_or (before ++ (x ∷ [])) k d ≡ x))
    = λ k d h. ⊎_elim
    (λ some. inl (some, get_or_append_left before (y ∷ []) d k some ∙ sym (get_or_append_left before (x ∷ []) d k some)))
    (λ last. let e : length before ≡ k = omega (arith, long) in inr (get_or_push before y d k e, get_or_push before x d k e))
    (cases_lt k (length before)) in
    record {
      whole = one entry_kwh q ∙ o.whole;
      run = λ k pos. subst (λ (n : ℕ). RoundedDown n (total * sum_of entry_part entry_weight (take k xs)) (sum_of entry_part entry_weight xs)) (sym (front_of k)) (o.run k pos);
      bystanders = λ k d h p. ⊎_elim
          (λ some. some.1 ∙ o.bystanders k d h p)
          (λ last. (let z : true ≡ false = sym px ∙ ap entry_part (sym last.1) ∙ o.same_part k d h ∙ p in let n : ◌≡◌ {A = ℕ} 0 1 = cc in absurd (omega arith)))
          (at k d h);
      same_length = length_push before y ∙ sym long;
      same_part = λ k d h. ⊎_elim
          (λ some. ap entry_part some.1 ∙ o.same_part k d h)
          (λ last. ap entry_part last.0 ∙ py ∙ sym px ∙ ap entry_part (sym last.1) ∙ o.same_part k d h)
          (at k d h);
      same_weight = λ k d h. ⊎_elim
          (λ some. ap entry_weight some.1 ∙ o.same_weight k d h)
          (λ last. ap entry_weight last.0 ∙ w ∙ ap entry_weight (sym last.1) ∙ o.same_weight k d h)
          (at k d h);
    }

module _ {M J : Type 0} (table : M → List Entry → Question → Option Basis) (higher : J → ℕ → ℕ → ℕ → Bool) where
  -- what is up to the last accepted read stays, and the reads only go on
  Kept : PremiseFile M J → List Entry → PremiseFile M J → List Entry → Type 0
  Kept f b f' b' = (f.settled ≤ f'.settled) × (take f.settled b' ≡ take f.settled b)

  same_kept : (f : PremiseFile M J) (b : List Entry) (f' : PremiseFile M J) (b' : List Entry) → f' ≡ f → b' ≡ b → Kept f b f' b'
  unfolding Kept
  same_kept f b f' b' ef eb = (omega (arith, ap (λ (g : PremiseFile M J). g.settled) ef), ap (take f.settled) eb)

  written_kept : (f : PremiseFile M J) (b : List Entry) (x : Entry) → take f.settled (set b (in_use f) x) ≡ take f.settled b
  written_kept f b x = take-set-le f.settled b (in_use f) x (omega arith)

  read_kept : (f : PremiseFile M J) (b : List Entry) (day register : ℕ) (a : ℕ × ℕ × ℕ) (f' : PremiseFile M J) (b' : List Entry) (r : ReadStep higher f b day register a f' b') → BillingWay higher f b day r.advanced → take f.settled b' ≡ take f.settled b
  read_kept f b day register a f' b' r (alone t w) = ap (take f.settled) (r.book ∙ ap (λ x. (billed x f b day r.advanced).1) w) ∙ written_kept f b (closing f b day Actual 0 r.advanced)
  read_kept f b day register a f' b' r (rest t le j w) = ap (take f.settled) (r.book ∙ ap (λ x. (billed x f b day r.advanced).1) w) ∙ written_kept f b (closing f b day TrueUp 0 (r.advanced - open_sum f b))
  read_kept f b day register a f' b' r (out t h w) =
      ap (take f.settled) (r.book ∙ ap (λ x. (billed x f b day r.advanced).1) w)
      ∙ take_at (take f.settled b) _ f.settled (length-take-le f.settled b (omega (arith, r.closes.fit.within)))

  step_kept : (f : PremiseFile M J) (b : List Entry) (e : Happening) (f' : PremiseFile M J) (b' : List Entry) → Happens table higher f b e f' b' → Kept f b f' b'
  unfolding Kept
  step_kept f b (Read day register (Ok a)) f' b' h =
      let r = read_step higher f b day register a f' b' h in
      (omega (arith, ap (λ (g : PremiseFile M J). g.settled) r.file), read_kept f b day register a f' b' r (billing_way higher f b day r.advanced))
  step_kept f b (Read day register (Err n)) f' b' h = let q = read_refused higher f b day register n f' b' h in same_kept f b f' b' q.0 q.1
  step_kept f b (Miss day (Ok a)) f' b' h = by (miss_step table f b day a f' b' h)
    where
      by : MissStep table f b day a f' b' → (f.settled ≤ f'.settled) × (take f.settled b' ≡ take f.settled b)
      by (step_put_off c p t ef eb) = (omega (arith, ap (λ (g : PremiseFile M J). g.settled) ef), ap (take f.settled) eb ∙ written_kept f b (putting_off f day))
      by (step_estimated c p basis t lt an ef eb) = (omega (arith, ap (λ (g : PremiseFile M J). g.settled) ef), ap (take f.settled) eb ∙ written_kept f b _)
  step_kept f b (Miss day (Err n)) f' b' h = let q = miss_refused table f b day n f' b' h in same_kept f b f' b' q.same_file q.same_book
  step_kept f b (Move customer (Ok a)) f' b' h =
      let m = move_step f customer a f' h.0 in
      (omega (arith, ap (λ (g : PremiseFile M J). g.settled) m.1), ap (take f.settled) h.1)
  step_kept f b (Move customer (Err n)) f' b' h = same_kept f b f' b' (move_refused f customer n f' h.0) h.1

  -- no later call changes an entry up to an accepted read
  pub stands : (f1 : PremiseFile M J) (b1 : List Entry) (es : List Happening) (f : PremiseFile M J) (b : List Entry) → Lived table higher f1 b1 es f b → (f1.settled ≤ f.settled) × (take f1.settled b ≡ take f1.settled b1)
  unfolding Kept
  stands f1 b1 es f b start = (omega arith, refl)
  stands f1 b1 es f b (next {es = es1} {f = g} {b = c} e l h) =
      let before = stands f1 b1 es1 g c l in
      let here = step_kept g c e f b h in
      (omega (arith, before.0, here.0), sym (take-take f1.settled g.settled b before.0) ∙ ap (take f1.settled) here.1 ∙ take-take f1.settled g.settled c before.0 ∙ before.1)

  module _ (f0 : PremiseFile M J) (es : List Happening) (f : PremiseFile M J) (b : List Entry) (s : Standing table higher f0 es f b) where
    -- an entry of the file's customer, from the day last closed
    closes_by : (day : ℕ) (e : Entry) → e.customer ≡ f.customer → e.end_day ≡ day → e.days ≡ day - f.day → e.initial ≡ is_fresh f.condition → Closes f0 es day e
    closes_by day e c d n i =
        record { customer = c ∙ s.whose; end_day = d; days = n ∙ ap (λ x. day - x) s.closed; initial = i ∙ s.first }

    missed_bill : (day : ℕ) (a : ℕ × ℕ × ℕ) (f' : PremiseFile M J) (b' : List Entry) → Added table higher f0 es f b s day a f' b' → Missed table f0 es f b day a f' b'
    missed_bill day a f' b' m =
        let n = in_use f in
        let x = m.entry in
        let at : get_or b' n no_entry ≡ x = ap (λ c. get_or c n no_entry) m.book ∙ get_or-set_same b n x no_entry m.closable.room in
        record {
          closes = subst (λ (e : Entry). Closes f0 es day e) (sym at) (closes_by day x m.customer m.end_day m.days m.initial);
          told = m.told ∙ ap (λ (e : Entry). (kind_number e.kind, e.rung, e.kwh)) (sym at);
          bill = subst (λ (c : List Entry). BillAt table f0.method f0.rate c n) (sym m.book) (bill_written table higher f0 es f b s x m.closable.room m.bill);
          others = λ k ne. ap (λ c. get_or c k no_entry) m.book ∙ get_or-set_other b n k x no_entry ne;
          below_turn = λ e. (
              let lt = m.below (ap (λ (y : Entry). y.kind) (sym at) ∙ e) in
              omega (arith, lt, ap (λ (y : Entry). y.kwh) at, ap turn_of s.same_dial));
        }

    not_missed : (day n : ℕ) (f' : PremiseFile M J) (b' : List Entry) → Happens table higher f b (Miss day (Err n)) f' b' → NotMissed table f0 es f b day n f' b'
    not_missed day n f' b' h =
        let q = miss_refused table f b day n f' b' h in
        let asked : Question = record { customer = customer_after f0.customer es; start_day = day_after f0.day es; end_day = day; rate = f0.rate } in
        let same : asked ≡ question f day
        = ap (λ c. record { customer = c; start_day = day_after f0.day es; end_day = day; rate = f0.rate }) (sym s.whose)
        ∙ ap (λ d. record { customer = f.customer; start_day = d; end_day = day; rate = f0.rate }) (sym s.closed)
        ∙ ap (λ r. record { customer = f.customer; start_day = f.day; end_day = day; rate = r }) (sym s.same_rate) in
        let said : table f0.method (take (in_use f) b) asked ≡ table f.method (take (in_use f) b) (question f day)
        = ap (λ m. table m (take (in_use f) b) asked) (sym s.same_method) ∙ ap (table f.method (take (in_use f) b)) same in
        record {
          same_file = q.same_file;
          same_book = q.same_book;
          unanswered = λ e. said ∙ q.unanswered e;
          past_turn = λ e. (
              let p = q.past_turn e in
              let days : (day - day_after f0.day es) + waiting_days (in_use f) b ≡ usage_days_of f b day = ap (λ d. (day - d) + waiting_days (in_use f) b) (sym s.closed) in
              (p.0, (said ∙ p.1.0, omega (arith, p.1.1, ap turn_of s.same_dial, ap (estimate p.0) days))));
        }

    module _ (day register : ℕ) (a : ℕ × ℕ × ℕ) (f' : PremiseFile M J) (b' : List Entry) (r : ReadStep higher f b day register a f' b') where
      -- what is known of the entry of a read, whichever way it is billed
      record Entered : Type 0 where
        pub entry : Entry
        pub at : get_or b' (in_use f) no_entry ≡ entry
        pub customer : entry.customer ≡ f.customer
        pub end_day : entry.end_day ≡ day
        pub days : entry.days ≡ day - f.day
        pub usage : entry.usage_days ≡ usage_days_of f b day
        pub rung : entry.rung ≡ 0
        pub initial : entry.initial ≡ is_fresh f.condition
        pub told_kind : a.0 ≡ kind_number entry.kind
        pub told_kwh : a.1 ≡ entry.kwh

      entered_alone : (kind : Kind) (kwh : ℕ) → billing higher f b day r.advanced ≡ Alone kind kwh → Entered
      entered_alone kind kwh w =
          let x = closing f b day kind 0 kwh in
          let book : b' ≡ set b (in_use f) x = r.book ∙ ap (λ y. (billed y f b day r.advanced).1) w in
          let answer : a ≡ (kind_number kind, kwh, 0) = r.answer ∙ ap (λ y. (billed y f b day r.advanced).0) w in
          record { entry = x; at = ap (λ c. get_or c (in_use f) no_entry) book ∙ get_or-set_same b (in_use f) x no_entry r.closes.room; customer = refl; end_day = refl; days = refl; usage = refl; rung = refl; initial = refl; told_kind = ap (λ (t : ℕ × ℕ × ℕ). t.0) answer; told_kwh = ap (λ (t : ℕ × ℕ × ℕ). t.1) answer }

      -- a read that shares out
      module _ (w : billing higher f b day r.advanced ≡ Shared) where
        new : Entry
        new = closing f b day Actual 0 0

        last : Entry
        last = get_or (shared_run f b day r.advanced) (open_count f.condition) no_entry

        tail : List Entry
        tail = take (open_count f.condition) (shared_run f b day r.advanced) ++ (as_actual (get_or (shared_run f b day r.advanced) (open_count f.condition) no_entry) ∷ [])

        out_book : b' ≡ corrected_book f b day r.advanced
        out_book = r.book ∙ ap (λ y. (billed y f b day r.advanced).1) w

        out_answer : a ≡ (1, (get_or (corrected_book f b day r.advanced) (in_use f) no_entry).kwh, corrections (open_run f b))
        out_answer = r.answer ∙ ap (λ y. (billed y f b day r.advanced).0) w

        short : length (take f.settled b) ≡ f.settled
        short = length-take-le f.settled b (omega (arith, r.closes.room))

        run_long : length (open_run f b) ≡ open_count f.condition
        run_long = length_run f b (omega (arith, r.closes.room))

        -- the book from the last accepted read on: the stretch that was shared, and the rest
        behind : drop f.settled b' ≡ tail ++ drop (in_use f + 1) b
        unfolding tail
        behind =
            ap (drop f.settled) out_book ∙ drop_at (take f.settled b) _ f.settled short ∙ sym (append_assoc (take (open_count f.condition) (shared_run f b day r.advanced)) _ (drop (in_use f + 1) b))

        tail_long : length tail ≡ open_count f.condition + 1
        unfolding tail
        tail_long = length_push (take (open_count f.condition) (shared_run f b day r.advanced)) _ ∙ ap (λ n. n + 1) (length-take-le (open_count f.condition) (shared_run f b day r.advanced) (omega (arith, length_shared_run f b day r.advanced r.closes.room)))

        stretch : take (length (open_run f b) + 1) (drop f.settled b') ≡ tail
        stretch = ap (λ n. take (n + 1) (drop f.settled b')) run_long ∙ ap (take (open_count f.condition + 1)) behind ∙ take_at tail (drop (in_use f + 1) b) (open_count f.condition + 1) tail_long

        -- the entry of the read is the last of the stretch
        at_last : get_or b' (in_use f) no_entry ≡ as_actual last
        unfolding tail last
        at_last =
            sym (get_or-drop f.settled b' (open_count f.condition) no_entry) ∙ ap (λ c. get_or c (open_count f.condition) no_entry) behind
            ∙ get_or_append_left tail (drop (in_use f + 1) b) no_entry (open_count f.condition) (omega (arith, tail_long))
            ∙ get_or_push (take (open_count f.condition) (shared_run f b day r.advanced)) _ no_entry (open_count f.condition) (length-take-le (open_count f.condition) (shared_run f b day r.advanced) (omega (arith, length_shared_run f b day r.advanced r.closes.room)))

        -- at each place of the stretch the entry has some share, if it takes part
        placed : (j : ℕ) → j < open_count f.condition + 1 → (n : ℕ) × (get_or (shared_run f b day r.advanced) j no_entry ≡ cond (entry_part (get_or (open_run f b ++ (closing f b day Actual 0 0 ∷ [])) j no_entry)) (entry_given (get_or (open_run f b ++ (closing f b day Actual 0 0 ∷ [])) j no_entry) n) (get_or (open_run f b ++ (closing f b day Actual 0 0 ∷ [])) j no_entry))
        placed j h =
            let xs = open_run f b ++ (closing f b day Actual 0 0 ∷ []) in
            shared_place entry_part entry_weight entry_given r.advanced (sum_of entry_part entry_weight xs) xs 0 j no_entry (omega (arith, length_push (open_run f b) (closing f b day Actual 0 0), run_long))

        last_given : (n : ℕ) × (last ≡ entry_given new n)
        unfolding last new
        last_given =
            let xs = open_run f b ++ (closing f b day Actual 0 0 ∷ []) in
            let p = placed (open_count f.condition) (omega arith) in
            let x : get_or xs (open_count f.condition) no_entry ≡ closing f b day Actual 0 0 = get_or_push (open_run f b) (closing f b day Actual 0 0) no_entry (open_count f.condition) run_long in
            (p.0, p.1 ∙ ap (λ (e : Entry). cond (entry_part e) (entry_given e p.0) e) x)

        entered_shared : Entered
        unfolding last new
        entered_shared =
            let g = last_given in
            let x = as_actual (entry_given (closing f b day Actual 0 0) g.0) in
            let at = at_last ∙ ap as_actual g.1 in
            record {
              entry = x;
              at = at;
              customer = refl;
              end_day = refl;
              days = refl;
              usage = refl;
              rung = refl;
              initial = refl;
              told_kind = ap (λ (t : ℕ × ℕ × ℕ). t.0) out_answer;
              told_kwh = ap (λ (t : ℕ × ℕ × ℕ). t.1) out_answer ∙ ap (λ c. (get_or c (in_use f) no_entry).kwh) (sym out_book) ∙ ap (λ (e : Entry). e.kwh) at;
            }

        -- an open entry that takes part is corrected
        open_corrected : (j : ℕ) → f.settled ≤ j → j < in_use f → entry_part (get_or b j no_entry) ≡ true → ((get_or b' j no_entry).kind ≡ Corrected) × ((get_or b' j no_entry).rung ≡ 0)
        unfolding tail
        open_corrected j lo hi p =
            let i = j - f.settled in
            let xs = open_run f b ++ (closing f b day Actual 0 0 ∷ []) in
            let within : i < open_count f.condition = omega arith in
            let back : f.settled + i ≡ j = omega arith in
            let here : get_or b' j no_entry ≡ get_or (shared_run f b day r.advanced) i no_entry
            = ap (λ n. get_or b' n no_entry) (sym back) ∙ sym (get_or-drop f.settled b' i no_entry) ∙ ap (λ c. get_or c i no_entry) behind
            ∙ get_or_append_left tail (drop (in_use f + 1) b) no_entry i (omega (arith, tail_long))
            ∙ get_or_append_left (take (open_count f.condition) (shared_run f b day r.advanced)) _ no_entry i (omega (arith, length-take-le (open_count f.condition) (shared_run f b day r.advanced) (omega (arith, length_shared_run f b day r.advanced r.closes.room))))
            ∙ get_or-take (open_count f.condition) (shared_run f b day r.advanced) i no_entry within in
            let was : get_or xs i no_entry ≡ get_or b j no_entry = get_or_append_left (open_run f b) (closing f b day Actual 0 0 ∷ []) no_entry i (omega (arith, run_long)) ∙ run_at f b i within ∙ ap (λ n. get_or b n no_entry) back in
            let q = placed i (omega arith) in
            let e : get_or b' j no_entry ≡ entry_given (get_or b j no_entry) q.0 = here ∙ q.1 ∙ ap (λ (y : Entry). cond (entry_part y) (entry_given y q.0) y) was ∙ cond-true _ _ _ p in
            let no : is_put_off (get_or b j no_entry).kind ≡ false = not-true (is_put_off (get_or b j no_entry).kind) p in
            (ap (λ (y : Entry). y.kind) e ∙ cond-false _ _ _ no, ap (λ (y : Entry). y.rung) e)

        shared_record : IsSharedOut f b r.advanced a b'
        unfolding tail last new
        shared_record =
            let xs = open_run f b ++ (closing f b day Actual 0 0 ∷ []) in
            let g = last_given in
            let whole = shared_out entry_part entry_weight entry_given entry_kwh given_part (λ x n. refl) (λ x n. refl) r.advanced xs (weighs table higher f0 es f b s day r.closes r.advanced) in
            let cut = subst (λ (l : List Entry). SharedOut entry_part entry_weight entry_kwh r.advanced xs l) (shared_run_cut f b day r.advanced r.closes.room) whole in
            let px : entry_part last ≡ true = ap entry_part g.1 in
            let turned = relast xs (take (open_count f.condition) (shared_run f b day r.advanced)) last (as_actual last) r.advanced cut px refl refl refl in
            record {
              new = closing f b day Actual 0 0;
              new_weight = sym (ap (λ (y : Entry). y.usage_days) (at_last ∙ ap as_actual g.1));
              new_kind = refl;
              shares = subst (λ (l : List Entry). SharedOut entry_part entry_weight entry_kwh r.advanced xs l) (sym stretch) turned;
              kind = ap (λ (y : Entry). y.kind) at_last;
              corrected = open_corrected;
              count = ap (λ (t : ℕ × ℕ × ℕ). t.2) out_answer;
            }

      -- how an advance that is billed alone stands
      alone_record : (kind : Kind) (kwh : ℕ) → billing higher f b day r.advanced ≡ Alone kind kwh → open_sum f b + kwh ≡ r.advanced → kind ≡ cond (any_estimated (open_run f b)) TrueUp Actual → TruedUp f b r.advanced a b'
      alone_record kind kwh w e kd =
          let x = closing f b day kind 0 kwh in
          let n = in_use f in
          let book : b' ≡ set b n x = r.book ∙ ap (λ y. (billed y f b day r.advanced).1) w in
          let at : get_or b' n no_entry ≡ x = ap (λ c. get_or c n no_entry) book ∙ get_or-set_same b n x no_entry r.closes.room in
          record {
            stand = ap (take n) book ∙ take-set-le n b n x (omega arith);
            rest = ap (λ (y : Entry). open_sum f b + y.kwh) at ∙ e;
            kind = ap (λ (y : Entry). y.kind) at ∙ kd;
            none_corrected = ap (λ (t : ℕ × ℕ × ℕ). t.2) (r.answer ∙ ap (λ y. (billed y f b day r.advanced).0) w);
          }

      -- the entry of the read, and how its advance is billed, by each way
      read_bill_by : (n : Entered)
          → (any_estimated (open_run f b) ≡ true → (r.advanced < open_sum f b) ⊎ (higher f.judgement r.advanced (open_sum f b) (total_usage_days (open_run f b) + usage_days_of f b day) ≡ true) → IsSharedOut f b r.advanced a b')
          → ((any_estimated (open_run f b) ≡ false) ⊎ ((open_sum f b ≤ r.advanced) × (higher f.judgement r.advanced (open_sum f b) (total_usage_days (open_run f b) + usage_days_of f b day) ≡ false)) → TruedUp f b r.advanced a b')
          → ReadBill higher f0 es f b day register a f' b'
      read_bill_by n sharing truing =
          let at = n.at in
          let x = n.entry in
          let usage : (get_or b' (in_use f) no_entry).usage_days ≡ usage_days_of f b day = ap (λ (y : Entry). y.usage_days) at ∙ n.usage in
          let judged : higher f0.judgement r.advanced (open_sum f b) (total_usage_days (open_run f b) + (get_or b' (in_use f) no_entry).usage_days) ≡ higher f.judgement r.advanced (open_sum f b) (total_usage_days (open_run f b) + usage_days_of f b day)
          = ap (λ u. higher f0.judgement r.advanced (open_sum f b) (total_usage_days (open_run f b) + u)) usage ∙ ap (λ j. higher j r.advanced (open_sum f b) (total_usage_days (open_run f b) + usage_days_of f b day)) (sym s.same_judgement) in
          record {
            advanced = r.advanced;
            advanced_is = r.advanced_is ∙ ap (λ d. advance (turn_of d) f.register register) s.same_dial ∙ ap (λ p. advance (turn_of f0.dial) p register) s.shown;
            closes = subst (λ (e : Entry). Closes f0 es day e) (sym at) (closes_by day x n.customer n.end_day n.days n.initial);
            usage = usage ∙ ap (λ d. d + waiting_days (in_use f) b) (sym (ap (λ (y : Entry). y.days) at ∙ n.days));
            no_rung = ap (λ (y : Entry). y.rung) at ∙ n.rung;
            told = (n.told_kind ∙ ap (λ (y : Entry). kind_number y.kind) (sym at), n.told_kwh ∙ ap (λ (y : Entry). y.kwh) (sym at));
            shared = λ t h. sharing t (⊎_elim (λ l. inl l) (λ j. inr (sym judged ∙ j)) h);
            trued_up = λ h. truing (⊎_elim (λ t. inl t) (λ p. inr (p.0, sym judged ∙ p.1)) h);
          }

      no_way : (t : Bool) → t ≡ true → t ≡ false → {A : Type 0} → A
      no_way t p q {A} = let z : true ≡ false = sym p ∙ q in let n : ◌≡◌ {A = ℕ} 0 1 = cc in absurd (omega arith)

      read_bill : ReadBill higher f0 es f b day register a f' b'
      read_bill = by (billing_way higher f b day r.advanced)
        where
          by : BillingWay higher f b day r.advanced → ReadBill higher f0 es f b day register a f' b'
          by (alone t w) =
              let none : open_sum f b ≡ 0 = none_estimated (open_run f b) t (λ k l. open_kwh table higher f0 es f b s k (omega (arith, length_run f b s.within))) in
              read_bill_by (entered_alone Actual r.advanced w)
              (λ e h. no_way (any_estimated (open_run f b)) e t)
              (λ h. alone_record Actual r.advanced w (omega (arith, none)) (sym (cond-false _ _ _ t)))
          by (rest t le j w) =
              read_bill_by (entered_alone TrueUp (r.advanced - open_sum f b) w)
              (λ e h. ⊎_elim (λ l. absurd (omega (arith, l, le))) (λ p. no_way (higher f.judgement r.advanced (open_sum f b) (total_usage_days (open_run f b) + usage_days_of f b day)) p j) h)
              (λ h. alone_record TrueUp (r.advanced - open_sum f b) w (omega (arith, le)) (sym (cond-true _ _ _ t)))
          by (out t h w) =
              read_bill_by (entered_shared w)
              (λ e p. shared_record w)
              (λ p. ⊎_elim
              (λ e. no_way (any_estimated (open_run f b)) t e)
              (λ q. no_way (ltb r.advanced (open_sum f b) || higher f.judgement r.advanced (open_sum f b) (total_usage_days (open_run f b) + usage_days_of f b day)) h (or_from (ltb r.advanced (open_sum f b)) (higher f.judgement r.advanced (open_sum f b) (total_usage_days (open_run f b) + usage_days_of f b day)) (le-ltb r.advanced (open_sum f b) q.0) q.1))
              p)

    pub call_billed : (e : Happening) (f' : PremiseFile M J) (b' : List Entry) → Happens table higher f b e f' b' → Billed table higher f0 es f b e f' b'
    call_billed (Read day register (Ok a)) f' b' h = read_bill day register a f' b' (read_step higher f b day register a f' b' h)
    call_billed (Read day register (Err n)) f' b' h = read_refused higher f b day register n f' b' h
    call_billed (Miss day (Ok a)) f' b' h = missed_bill day a f' b' (added table higher f0 es f b s day a f' b' (miss_step table f b day a f' b' h))
    call_billed (Miss day (Err n)) f' b' h = not_missed day n f' b' h
    call_billed (Move customer (Ok a)) f' b' h = let m = move_step f customer a f' h.0 in (h.1, omega (arith, closed_count f.condition m.0))
    call_billed (Move customer (Err n)) f' b' h = (move_refused f customer n f' h.0, h.1)

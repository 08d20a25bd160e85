-- What an outcome of a call says of file and book.
use Rattle.std.proofs.Common.{◌≡◌, ℕ, ◌+◌, ◌-◌, ◌<◌, ◌≤◌, Bool, true, false, cond, ◌&&◌, eqb, ltb, leb, ◌⊎◌, List, length, take, set, Some, None, Ok, Err, Option, Result, sym, refl, ap, ◌∙◌, inl, inr, ⊎_elim, arith}
use Rattle.std.proofs.lemmas.Bool.{cond-true, cond-false, cases_Bool, and_parts, leb-true, ltb-true, ltb-false}
use Rattle.calendar.specs.Calendar.{last_day}
use Rattle.measures.specs.Refusals.{off_calendar, off_dial, not_the_book, off_period, book_full, no_answer, past_dial}
use Rattle.measures.specs.declared.entry.Entry.{Entry}
use Rattle.measures.specs.declared.dial.Dial.{Dial}
use Rattle.measures.specs.declared.entry.Kind.TheVariants.{Estimated}
use Rattle.measures.specs.Dial.{turn_of, advance, advance_on}
use Rattle.estimating.specs.declared.basis.Question.{Question}
use Rattle.estimating.specs.declared.basis.Basis.{Basis}
use Rattle.estimating.specs.Estimates.{estimate}
use Rattle.premise.specs.declared.file.PremiseFile.{PremiseFile}
use Rattle.premise.specs.Files.{in_use, open_sum, fits, next_period, may_close, may_miss, may_read, then_close, with_advance, puts_off, has_open, closing, putting_off, after_read, after_miss, after_move, billing, billed, read_with, reads, question, figure_from, miss_estimated, miss_with, misses, moves, usage_days_of}
use Rattle.premise.proofs.Checks.{Fits, fits_of}

-- a test that was passed on the way to an answer
pub passed : {A E : Type 0} (t : Bool) (x : Result A E) (e : E) (a : A) → cond t x (Err e) ≡ Ok a → (t ≡ true) × (x ≡ Ok a)
passed true x e a h = (refl, h)
passed false x e a h = let z : ◌≡◌ {A = ℕ} 0 1 = cc in absurd (omega arith)

pub advance_is : (d : Dial) (p r a : ℕ) → advance_on d p r ≡ Ok a → a ≡ advance (turn_of d) p r
advance_is d p r a h = let q = (passed (ltb p (turn_of d) && ltb r (turn_of d)) (Ok (advance (turn_of d) p r)) off_dial a h).1 in cc

module _ {M J : Type 0} (f : PremiseFile M J) (b : List Entry) (day : ℕ) where
  -- a period that may be closed
  pub record Closable : Type 0 where
    pub fit : Fits f b
    pub on_calendar : day ≤ last_day
    pub later : f.day < day
    pub soon : day ≤ f.day + 99
    pub room : in_use f < length b

  close_ok : (d : ℕ) → may_close f b day ≡ Ok d → (next_period f day ≡ true) × (in_use f < length b) × (d ≡ day - f.day)
  close_ok d h =
      let p = passed (next_period f day) (cond (ltb (in_use f) (length b)) (Ok (day - f.day)) (Err book_full)) off_period d h in
      let q = passed (ltb (in_use f) (length b)) (Ok (day - f.day)) book_full d p.1 in
      let e : day - f.day ≡ d = (let o = q.1 in cc) in
      (p.0, ltb-true (in_use f) (length b) q.0, sym e)

  closable : fits f b ≡ true → leb day last_day ≡ true → next_period f day ≡ true → in_use f < length b → Closable
  closable fit cal per room =
      let p = and_parts (ltb f.day day) (leb day (f.day + 99)) per in
      record { fit = fits_of f b fit; on_calendar = leb-true day last_day cal; later = ltb-true f.day day p.0; soon = leb-true day (f.day + 99) p.1; room = room }

  pub miss_ok : (d : ℕ) → may_miss f b day ≡ Ok d → Closable × (d ≡ day - f.day)
  miss_ok d h =
      let p = passed (fits f b) (cond (leb day last_day) (may_close f b day) (Err off_calendar)) not_the_book d h in
      let q = passed (leb day last_day) (may_close f b day) off_calendar d p.1 in
      let c = close_ok d q.1 in
      (closable p.0 q.0 c.0 c.1, c.2)

  with_ok : (x : Result ℕ ℕ) (a : ℕ) (da : ℕ × ℕ) → with_advance x a ≡ Ok da → (x ≡ Ok da.0) × (da.1 ≡ a)
  with_ok (Ok d) a da h = let e : (d, a) ≡ da = cc in (ap Ok (ap (λ t. t.0) e), sym (ap (λ t. t.1) e))
  with_ok (Err n) a da h = let z : ◌≡◌ {A = ℕ} 0 1 = cc in absurd (omega arith)

  then_ok : (x : Result ℕ ℕ) (da : ℕ × ℕ) → then_close x f b day ≡ Ok da → (x ≡ Ok da.1) × (may_close f b day ≡ Ok da.0)
  then_ok (Ok a) da h = let w = with_ok (may_close f b day) a da h in (ap Ok (sym w.1), w.0)
  then_ok (Err n) da h = let z : ◌≡◌ {A = ℕ} 0 1 = cc in absurd (omega arith)

  pub read_ok : (register : ℕ) (da : ℕ × ℕ) → may_read f b day register ≡ Ok da → Closable × (da.1 ≡ advance (turn_of f.dial) f.register register)
  read_ok register da h =
      let x = advance_on f.dial f.register register in
      let p = passed (fits f b) (cond (leb day last_day) (then_close x f b day) (Err off_calendar)) not_the_book da h in
      let q = passed (leb day last_day) (then_close x f b day) off_calendar da p.1 in
      let t = then_ok x da q.1 in
      let c = close_ok da.0 t.1 in
      (closable p.0 q.0 c.0 c.1, advance_is f.dial f.register register da.1 t.0)

-- a refusal is one of a test, or of what comes after it
refused_by : {A : Type 0} (t : Bool) (x : Result A ℕ) (e n : ℕ) → cond t x (Err e) ≡ Err n → (n ≡ e) ⊎ (x ≡ Err n)
refused_by true x e n h = inr h
refused_by false x e n h = inl (cc)

-- no answer is both accepted and refused
clash : {A : Type 0} {a : A} {n : ℕ} → ◌≡◌ {A = Result A ℕ} (Ok a) (Err n) → ⊥
clash h = let z : ◌≡◌ {A = ℕ} 0 1 = cc in omega arith

module _ {M J : Type 0} (higher : J → ℕ → ℕ → ℕ → Bool) (f : PremiseFile M J) (b : List Entry) (day register : ℕ) where
  -- an accepted read
  pub record ReadStep (a : ℕ × ℕ × ℕ) (f' : PremiseFile M J) (b' : List Entry) : Type 0 where
    pub closes : Closable f b day
    pub advanced : ℕ
    pub advanced_is : advanced ≡ advance (turn_of f.dial) f.register register
    pub answer : a ≡ (billed (billing higher f b day advanced) f b day advanced).0
    pub book : b' ≡ (billed (billing higher f b day advanced) f b day advanced).1
    pub file : f' ≡ after_read f day register

  read_accepted_by : (x : Result (ℕ × ℕ) ℕ) → may_read f b day register ≡ x → (a : ℕ × ℕ × ℕ) (f' : PremiseFile M J) (b' : List Entry) → (Ok a, f', b') ≡ read_with higher x f b day register → ReadStep a f' b'
  read_accepted_by (Ok da) m a f' b' e =
      let r = read_ok f b day register da m in
      let t : Ok a ≡ Ok (billed (billing higher f b day da.1) f b day da.1).0 = ap (λ t. t.0) e in
      record { closes = r.0; advanced = da.1; advanced_is = r.1; answer = cc; book = ap (λ t. t.2) e; file = ap (λ t. t.1) e }
  read_accepted_by (Err n) m a f' b' e = absurd (clash (ap (λ t. t.0) e))

  pub read_step : (a : ℕ × ℕ × ℕ) (f' : PremiseFile M J) (b' : List Entry) → (Ok a, f', b') ≡ reads higher f b day register → ReadStep a f' b'
  read_step a f' b' e = read_accepted_by (may_read f b day register) refl a f' b' e

  read_refused_by : (x : Result (ℕ × ℕ) ℕ) (n : ℕ) (f' : PremiseFile M J) (b' : List Entry) → (Err n, f', b') ≡ read_with higher x f b day register → (f' ≡ f) × (b' ≡ b)
  read_refused_by (Ok da) n f' b' e = absurd (clash (sym (ap (λ t. t.0) e)))
  read_refused_by (Err m) n f' b' e = (ap (λ t. t.1) e, ap (λ t. t.2) e)

  pub read_refused : (n : ℕ) (f' : PremiseFile M J) (b' : List Entry) → (Err n, f', b') ≡ reads higher f b day register → (f' ≡ f) × (b' ≡ b)
  read_refused n f' b' e = read_refused_by (may_read f b day register) n f' b' e

module _ {M J : Type 0} (table : M → List Entry → Question → Option Basis) (f : PremiseFile M J) (b : List Entry) (day : ℕ) where
  -- an accepted miss: put off, or estimated
  pub data MissStep (a : ℕ × ℕ × ℕ) (f' : PremiseFile M J) (b' : List Entry) : Type 0 where
    step_put_off : Closable f b day → puts_off f.condition (day - f.day) ≡ true → a ≡ (4, 0, 0) → f' ≡ after_miss f day (day - f.day) → b' ≡ set b (in_use f) (putting_off f day) → MissStep a f' b'
    step_estimated : Closable f b day → puts_off f.condition (day - f.day) ≡ false → (basis : Basis) → table f.method (take (in_use f) b) (question f day) ≡ Some basis
        → open_sum f b + estimate basis (usage_days_of f b day) < turn_of f.dial → a ≡ (3, basis.rung, estimate basis (usage_days_of f b day))
        → f' ≡ after_miss f day (day - f.day) → b' ≡ set b (in_use f) (closing f b day Estimated basis.rung (estimate basis (usage_days_of f b day))) → MissStep a f' b'

  figured : (o : Option Basis) (rk : ℕ × ℕ) → figure_from o f b day ≡ Ok rk → (basis : Basis) × ((o ≡ Some basis) × (open_sum f b + estimate basis (usage_days_of f b day) < turn_of f.dial) × (rk ≡ (basis.rung, estimate basis (usage_days_of f b day))))
  figured (Some basis) rk h =
      let kwh = estimate basis (usage_days_of f b day) in
      let p = passed (ltb (open_sum f b + kwh) (turn_of f.dial)) (Ok (basis.rung, kwh)) past_dial rk h in
      let e : (basis.rung, kwh) ≡ rk = (let o = p.1 in cc) in
      (basis, (refl, ltb-true (open_sum f b + kwh) (turn_of f.dial) p.0, sym e))
  figured None rk h = absurd (clash (sym h))

  estimated_by : Closable f b day → puts_off f.condition (day - f.day) ≡ false → (x : Result (ℕ × ℕ) ℕ) → figure_from (table f.method (take (in_use f) b) (question f day)) f b day ≡ x
      → (a : ℕ × ℕ × ℕ) (f' : PremiseFile M J) (b' : List Entry) → (Ok a, f', b') ≡ miss_estimated x f b day → MissStep a f' b'
  estimated_by c p (Ok rk) g a f' b' e =
      let q = figured (table f.method (take (in_use f) b) (question f day)) rk g in
      let w = q.1.2 in
      let o : ◌≡◌ {A = Result (ℕ × ℕ × ℕ) ℕ} (Ok a) (Ok (3, rk.0, rk.1)) = ap (λ t. t.0) e in
      let s : a ≡ (3, rk.0, rk.1) = cc in
      step_estimated c p q.0 q.1.0 q.1.1 (s ∙ ap (λ (t : ℕ × ℕ). (3, t.0, t.1)) w) (ap (λ t. t.1) e) (ap (λ t. t.2) e ∙ ap (λ (t : ℕ × ℕ). set b (in_use f) (closing f b day Estimated t.0 t.1)) w)
  estimated_by c p (Err n) g a f' b' e = absurd (clash (ap (λ t. t.0) e))

  missed_by : (x : Result ℕ ℕ) → may_miss f b day ≡ x → (a : ℕ × ℕ × ℕ) (f' : PremiseFile M J) (b' : List Entry) → (Ok a, f', b') ≡ miss_with table x f b day → MissStep a f' b'
  missed_by (Ok d) m a f' b' e =
      let c = miss_ok f b day d m in
      let e' : (Ok a, f', b') ≡ miss_with table (Ok (day - f.day)) f b day = e ∙ ap (λ k. miss_with table (Ok k) f b day) c.1 in
      ⊎_elim
      (λ t.
      let s = e' ∙ cond-true _ _ _ t in
      let o : ◌≡◌ {A = Result (ℕ × ℕ × ℕ) ℕ} (Ok a) (Ok (4, 0, 0)) = ap (λ x. x.0) s in
      step_put_off c.0 t (cc) (ap (λ x. x.1) s) (ap (λ x. x.2) s))
      (λ t. estimated_by c.0 t (figure_from (table f.method (take (in_use f) b) (question f day)) f b day) refl a f' b' (e' ∙ cond-false _ _ _ t))
      (cases_Bool (puts_off f.condition (day - f.day)))
  missed_by (Err n) m a f' b' e = absurd (clash (ap (λ t. t.0) e))

  pub miss_step : (a : ℕ × ℕ × ℕ) (f' : PremiseFile M J) (b' : List Entry) → (Ok a, f', b') ≡ misses table f b day → MissStep a f' b'
  miss_step a f' b' e = missed_by (may_miss f b day) refl a f' b' e

  -- a refused miss
  pub record MissRefused (n : ℕ) (f' : PremiseFile M J) (b' : List Entry) : Type 0 where
    pub same_file : f' ≡ f
    pub same_book : b' ≡ b
    pub unanswered : n ≡ no_answer → table f.method (take (in_use f) b) (question f day) ≡ None
    pub past_turn : n ≡ past_dial → (basis : Basis) × ((table f.method (take (in_use f) b) (question f day) ≡ Some basis) × (turn_of f.dial ≤ open_sum f b + estimate basis (usage_days_of f b day)))

  other_number : (n : ℕ) → may_miss f b day ≡ Err n → n < 14
  other_number n h = ⊎_elim
      (λ e. omega (arith, e))
      (λ h2. ⊎_elim
      (λ e. omega (arith, e))
      (λ h3. ⊎_elim
      (λ e. omega (arith, e))
      (λ h4. ⊎_elim (λ e. omega (arith, e)) (λ h5. absurd (clash h5)) (refused_by (ltb (in_use f) (length b)) (Ok (day - f.day)) book_full n h4))
      (refused_by (next_period f day) (cond (ltb (in_use f) (length b)) (Ok (day - f.day)) (Err book_full)) off_period n h3))
      (refused_by (leb day last_day) (may_close f b day) off_calendar n h2))
      (refused_by (fits f b) (cond (leb day last_day) (may_close f b day) (Err off_calendar)) not_the_book n h)

  unfigured : (o : Option Basis) (n : ℕ) → figure_from o f b day ≡ Err n → (n ≡ no_answer → o ≡ None) × (n ≡ past_dial → (basis : Basis) × ((o ≡ Some basis) × (turn_of f.dial ≤ open_sum f b + estimate basis (usage_days_of f b day))))
  unfigured None n h = let e : no_answer ≡ n = cc in ((λ _. refl), (λ p. absurd (omega (arith, e, p))))
  unfigured (Some basis) n h =
      let kwh = estimate basis (usage_days_of f b day) in
      ⊎_elim
      (λ t. absurd (clash (sym (cond-true _ _ _ t) ∙ h)))
      (λ t.
      let e : ◌≡◌ {A = Result (ℕ × ℕ) ℕ} (Err past_dial) (Err n) = sym (cond-false _ _ _ t) ∙ h in
      let q : past_dial ≡ n = cc in
      ((λ p. absurd (omega (arith, q, p))), (λ _. (basis, (refl, ltb-false (open_sum f b + kwh) (turn_of f.dial) t)))))
      (cases_Bool (ltb (open_sum f b + kwh) (turn_of f.dial)))

  unestimated_by : (x : Result (ℕ × ℕ) ℕ) → figure_from (table f.method (take (in_use f) b) (question f day)) f b day ≡ x → (n : ℕ) (f' : PremiseFile M J) (b' : List Entry) → (Err n, f', b') ≡ miss_estimated x f b day → MissRefused n f' b'
  unestimated_by (Ok rk) g n f' b' e = absurd (clash (sym (ap (λ t. t.0) e)))
  unestimated_by (Err m) g n f' b' e =
      let o : ◌≡◌ {A = Result (ℕ × ℕ × ℕ) ℕ} (Err n) (Err m) = ap (λ t. t.0) e in
      let s : m ≡ n = cc in
      let u = unfigured (table f.method (take (in_use f) b) (question f day)) n (g ∙ ap Err s) in
      record { same_file = ap (λ t. t.1) e; same_book = ap (λ t. t.2) e; unanswered = u.0; past_turn = u.1 }

  unmissed_by : (x : Result ℕ ℕ) → may_miss f b day ≡ x → (n : ℕ) (f' : PremiseFile M J) (b' : List Entry) → (Err n, f', b') ≡ miss_with table x f b day → MissRefused n f' b'
  unmissed_by (Ok d) m n f' b' e = ⊎_elim
      (λ t. absurd (clash (sym (ap (λ x. x.0) (e ∙ cond-true _ _ _ t)))))
      (λ t. unestimated_by (figure_from (table f.method (take (in_use f) b) (question f day)) f b day) refl n f' b' (e ∙ cond-false _ _ _ t))
      (cases_Bool (puts_off f.condition d))
  unmissed_by (Err k) m n f' b' e =
      let o : ◌≡◌ {A = Result (ℕ × ℕ × ℕ) ℕ} (Err n) (Err k) = ap (λ t. t.0) e in
      let s : k ≡ n = cc in
      let low = other_number n (m ∙ ap Err s) in
      record { same_file = ap (λ t. t.1) e; same_book = ap (λ t. t.2) e; unanswered = λ p. absurd (omega (arith, p, low)); past_turn = λ p. absurd (omega (arith, p, low)) }

  pub miss_refused : (n : ℕ) (f' : PremiseFile M J) (b' : List Entry) → (Err n, f', b') ≡ misses table f b day → MissRefused n f' b'
  miss_refused n f' b' e = unmissed_by (may_miss f b day) refl n f' b' e

module _ {M J : Type 0} (f : PremiseFile M J) (customer : ℕ) where
  pub move_step : (a : Unit {0}) (f' : PremiseFile M J) → (Ok a, f') ≡ moves f customer → (has_open f.condition ≡ false) × (f' ≡ after_move f customer)
  move_step a f' e = ⊎_elim
      (λ t. absurd (clash (ap (λ x. x.0) (e ∙ cond-true _ _ _ t))))
      (λ t. let e2 = e ∙ cond-false _ _ _ t in ⊎_elim
      (λ u. absurd (clash (ap (λ x. x.0) (e2 ∙ cond-true _ _ _ u))))
      (λ u. let e3 = e2 ∙ cond-false _ _ _ u in ⊎_elim
      (λ v. absurd (clash (ap (λ x. x.0) (e3 ∙ cond-true _ _ _ v))))
      (λ v. (u, ap (λ x. x.1) (e3 ∙ cond-false _ _ _ v)))
      (cases_Bool (eqb customer f.customer)))
      (cases_Bool (has_open f.condition)))
      (cases_Bool (eqb customer 0))

  pub move_refused : (n : ℕ) (f' : PremiseFile M J) → (Err n, f') ≡ moves f customer → f' ≡ f
  move_refused n f' e = ⊎_elim
      (λ t. ap (λ x. x.1) (e ∙ cond-true _ _ _ t))
      (λ t. let e2 = e ∙ cond-false _ _ _ t in ⊎_elim
      (λ u. ap (λ x. x.1) (e2 ∙ cond-true _ _ _ u))
      (λ u. let e3 = e2 ∙ cond-false _ _ _ u in ⊎_elim
      (λ v. ap (λ x. x.1) (e3 ∙ cond-true _ _ _ v))
      (λ v. absurd (clash (sym (ap (λ x. x.0) (e3 ∙ cond-false _ _ _ v)))))
      (cases_Bool (eqb customer f.customer)))
      (cases_Bool (has_open f.condition)))
      (cases_Bool (eqb customer 0))

-- What the tables of the rungs mean.
use Rattle.std.specs.Prelude.{◌≡◌, ℕ, ◌+◌, ◌-◌, ◌*◌, ◌<◌, ◌≤◌, Bool, true, not, ◌&&◌, List, [], ◌∷◌, length, drop, Some, None, filter, Option, ◌==◌, nat_le, nat_lt, refl}
use Rattle.std.proofs.Common.{sym, ap, ◌∙◌, ⊎_elim, arith}
use Rattle.std.specs.List.{AllByRecursion}
use Rattle.std.proofs.lemmas.List.{length-drop}
use Rattle.std.proofs.ByRecursion.{kept_by_passes, All-weaker, All-drop}
use Rattle.std.proofs.lemmas.Bool.{cond-true, cond-false, cases_Bool, and_parts, and_from, leb-true, ltb-true, eqb-true, le-leb, lt-ltb, eq-eqb, not-true, not_from_false}
use Rattle.calendar.specs.declared.Season.{Season}
use Rattle.calendar.specs.Calendar.{season_of, year_before}
use Rattle.measures.specs.declared.entry.Entry.{Entry}
use Rattle.measures.specs.Entry.{total_kwh, total_usage_days}
use Rattle.estimating.specs.declared.basis.Question.{Question}
use Rattle.estimating.specs.declared.basis.Basis.{Basis}
use Rattle.estimating.specs.Estimates.{Lawful}
use Rattle.estimating.specs.Cases.{none_some}
use Rattle.lookup.specs.declared.fit.Whose.{Whose}
use Rattle.lookup.specs.declared.fit.Whose.TheVariants.{Customer, Anyone}
use Rattle.lookup.specs.declared.six.Six.{Six}
use Rattle.lookup.specs.Tests.{asked, available, in_season, in_the_season}
use Rattle.lookup.specs.Latest.{latest, newest}
use Rattle.lookup.specs.Six.{total, last_six, six_latest}
use Rattle.ladder.specs.Rungs.{rung_for, IsAvailable, entry_available, entry_serves, basis_of, basis_if, last_entry, OnLastEntry, entry_year_back, from_year_back, OnYearBack, entry_in_season, basis_of_six, in_season_of, seasonal, OnSeasonal}
use Rattle.lookup.proofs.Tests.{asked_means, asked_from, year_before_means}
use Rattle.lookup.proofs.Lookups.{latest_law, latest_only, newest_law, newest_only}
use Rattle.lookup.proofs.Sixes.{last_place, place_of}

available_means : (e : Entry) → entry_available e ≡ true → IsAvailable e
available_means e t =
    let a = and_parts (nat_le 1 e.usage_days) (nat_le e.usage_days 109 && nat_lt e.kwh 100000000) t in
    let b = and_parts (nat_le e.usage_days 109) (nat_lt e.kwh 100000000) a.1 in
    record {
      some_days = leb-true 1 e.usage_days a.0;
      not_many_days = leb-true e.usage_days 109 b.0;
      not_much = ltb-true e.kwh 100000000 b.1;
    }

available_from : (e : Entry) → IsAvailable e → entry_available e ≡ true
available_from e h =
    and_from _ _ (le-leb 1 e.usage_days h.some_days) (and_from _ _ (le-leb e.usage_days 109 h.not_many_days) (lt-ltb e.kwh 100000000 h.not_much))

-- an answer comes from an entry that passes, and such an entry gives it
basis_from : (test : Entry → Bool) (n : ℕ) (o : Option Entry) (b : Basis) → Some b ≡ basis_if test n o → (e : Entry) × (Some e ≡ o) × (test e ≡ true) × (b ≡ basis_of n e)
basis_from test n (Some e) b s = ⊎_elim
    (λ t. (let f : Some b ≡ Some (basis_of n e) = s ∙ cond-true _ _ _ t in let same : b ≡ basis_of n e = cc in (e, refl, t, same)))
    (λ t. none_some (basis_if test n (Some e)) b (sym (cond-false _ _ _ t)) (sym s))
    (cases_Bool (test e))
basis_from test n None b s = none_some None b refl (sym s)

basis_given : (test : Entry → Bool) (n : ℕ) (o : Option Entry) (e : Entry) → o ≡ Some e → test e ≡ true → basis_if test n o ≡ Some (basis_of n e)
basis_given test n o e s t = ap (basis_if test n) s ∙ cond-true _ _ _ t

pub last_entry_law : (w : Whose) (book : List Entry) (q : Question) (r : Option Basis) → r ≡ last_entry w book q → OnLastEntry w book q r
last_entry_law w book q (Some b) s =
    let f = basis_from (entry_serves w q) (rung_for 1 w) (newest book) b s in
    let e = f.0 in
    let t = and_parts (asked w e.customer q.customer) (entry_available e && not e.initial) f.2 in
    let u = and_parts (entry_available e) (not e.initial) t.1 in (
      e,
      record {
        is_last = newest_law book (Some e) f.1;
        of_whose = asked_means w e.customer q.customer t.0;
        is_available = available_means e u.0;
        not_initial = not-true e.initial u.1;
      },
      f.3,
    )
last_entry_law w book q None n = λ e h.
    none_some (last_entry w book q) (basis_of (rung_for 1 w) e) n
    (basis_given (entry_serves w q) (rung_for 1 w) (newest book) e (newest_only book e h.is_last)
    (and_from _ _ (asked_from w e.customer q.customer h.of_whose) (and_from _ _ (available_from e h.is_available) (not_from_false e.initial h.not_initial))))

pub year_back_law : (w : Whose) (book : List Entry) (q : Question) (r : Option Basis) → r ≡ from_year_back w book q → OnYearBack w book q r
year_back_law w book q (Some b) s =
    let f = basis_from entry_available (rung_for 2 w) (latest (entry_year_back w q) book) b s in
    let e = f.0 in
    let l = latest_law (entry_year_back w q) book (Some e) f.1 in
    let t = and_parts (asked w e.customer q.customer) (year_before e.end_day q.end_day) l.1.passes in (
      e,
      record {
        of_whose = asked_means w e.customer q.customer t.0;
        same_month = year_before_means e.end_day q.end_day t.1;
        is_latest = l;
        is_available = available_means e f.2;
      },
      f.3,
    )
year_back_law w book q None n = λ e h.
    none_some (from_year_back w book q) (basis_of (rung_for 2 w) e) n
    (basis_given entry_available (rung_for 2 w) (latest (entry_year_back w q) book) e (latest_only (entry_year_back w q) book e h.is_latest) (available_from e h.is_available))

-- a figure summed over entries
total_days_is : (es : List Entry) → total (λ e. e.usage_days) es ≡ total_usage_days es
total_days_is [] = refl
total_days_is (e ∷ es) = ap (λ n. e.usage_days + n) (total_days_is es)

total_kwh_is : (es : List Entry) → total (λ e. e.kwh) es ≡ total_kwh es
total_kwh_is [] = refl
total_kwh_is (e ∷ es) = ap (λ n. e.kwh + n) (total_kwh_is es)

-- figures below a limit sum to no more than the limit each
total_below : {R : Type 0} (figure : R → ℕ) (xs : List R) → AllByRecursion (λ x. figure x < 100000000) xs → total figure xs ≤ 100000000 * length xs
total_below figure [] h = omega arith
total_below figure (x ∷ xs) h = omega (arith, h.0, total_below figure xs h.1)

last_six_few : {R : Type 0} (xs : List R) → length (last_six xs) ≤ 6
last_six_few xs = omega (arith, length-drop (length xs - 6) xs)

-- the available records of a season have so few kWh that six of them have no more than 600,000,000
pub six_kwh_few : {R : Type 0} (billed ends used metered : R → ℕ) (w : Whose) (c : ℕ) (s : Season) (book : List R) → (six_latest (in_the_season billed ends used metered w c s) used metered book).kwh ≤ 600000000
six_kwh_few billed ends used metered w c s book =
    let test = in_the_season billed ends used metered w c s in
    let few : (x : _) → test x ≡ true → metered x < 100000000 = λ x t.
    (let a = and_parts (asked w (billed x) c) (in_season s (ends x) && available (used x) (metered x)) t in
    let b = and_parts (in_season s (ends x)) (available (used x) (metered x)) a.1 in
    let d = and_parts (nat_le 1 (used x)) (nat_le (used x) 109 && nat_lt (metered x) 100000000) b.1 in
    let e = and_parts (nat_le (used x) 109) (nat_lt (metered x) 100000000) d.1 in
    ltb-true (metered x) 100000000 e.1) in
    let xs = filter test book in
    let all = All-drop (λ x. metered x < 100000000) (length xs - 6) xs (All-weaker (λ x. test x ≡ true) (λ x. metered x < 100000000) few xs (kept_by_passes test book)) in
    omega (arith, total_below metered (last_six xs) all, last_six_few xs)

six_from_basis : (n : ℕ) (six : Six) (b : Basis) → Some b ≡ basis_of_six n six → (six.count ≡ 6) × (165 ≤ six.usage_days) × (six.usage_days ≤ 195) × (b ≡ record { rung = n; kwh = six.kwh; days = six.usage_days })
six_from_basis n six b s = ⊎_elim
    (λ t. (let a = and_parts (six.count == 6) (nat_le 165 six.usage_days && nat_le six.usage_days 195) t in
    let d = and_parts (nat_le 165 six.usage_days) (nat_le six.usage_days 195) a.1 in
    let f : Some b ≡ Some (record { rung = n; kwh = six.kwh; days = six.usage_days }) = s ∙ cond-true _ _ _ t in
    let same : b ≡ record { rung = n; kwh = six.kwh; days = six.usage_days } = cc in
    (eqb-true six.count 6 a.0, leb-true 165 six.usage_days d.0, leb-true six.usage_days 195 d.1, same)))
    (λ t. none_some (basis_of_six n six) b (sym (cond-false _ _ _ t)) (sym s))
    (cases_Bool (six.count == 6 && (nat_le 165 six.usage_days && nat_le six.usage_days 195)))

basis_of_six_given : (n : ℕ) (six : Six) → six.count ≡ 6 → 165 ≤ six.usage_days → six.usage_days ≤ 195 → basis_of_six n six ≡ Some (record { rung = n; kwh = six.kwh; days = six.usage_days })
basis_of_six_given n six c l h = cond-true _ _ _ (and_from _ _ (eq-eqb six.count 6 c) (and_from _ _ (le-leb 165 six.usage_days l) (le-leb six.usage_days 195 h)))

same_basis : (n k l c d : ℕ) → k ≡ l → c ≡ d → ◌≡◌ {A = Basis} (record { rung = n; kwh = k; days = c }) (record { rung = n; kwh = l; days = d })
same_basis n k l c d p q = rw (p, q)

seasonal_in : (o : Option Season) (w : Whose) (book : List Entry) (q : Question) (r : Option Basis) → season_of q.end_day ≡ o → r ≡ in_season_of o w book q → OnSeasonal w book q r
seasonal_in (Some s) w book q (Some b) o e =
    let test = entry_in_season w q s in
    let xs = filter test book in
    let f = six_from_basis (rung_for 3 w) (six_latest test (λ x. x.usage_days) (λ x. x.kwh) book) b e in
    let at = place_of test book 6 (omega (arith, f.0, length-drop (length xs - 6) xs)) in
    let es = filter test (drop at.0 book) in
    let same : last_six xs ≡ es = last_place test book at.0 (omega (arith, at.2)) (λ less. absurd (omega (arith, at.2))) in
    let days : total (λ x. x.usage_days) (last_six xs) ≡ total_usage_days es = ap (total (λ x. x.usage_days)) same ∙ total_days_is es in
    let kwh : total (λ x. x.kwh) (last_six xs) ≡ total_kwh es = ap (total (λ x. x.kwh)) same ∙ total_kwh_is es in (
      es,
      record {
        season = s;
        of_the_question = o;
        place = at.0;
        are = refl;
        six = at.2;
        not_few_days = rw days at f.1;
        not_many_days = rw days at f.2;
      },
      f.3 ∙ same_basis (rung_for 3 w) _ _ _ _ kwh days,
    )
seasonal_in (Some s) w book q None o e = λ es h.
    let known : h.season ≡ s = (let p = h.of_the_question in cc) in
    let test = entry_in_season w q s in
    let xs = filter test book in
    let are : es ≡ filter test (drop h.place book) = h.are ∙ ap (λ z. filter (entry_in_season w q z) (drop h.place book)) known in
    let n : length (filter test (drop h.place book)) ≡ 6 = ap length (sym are) ∙ h.six in
    let same : last_six xs ≡ es = last_place test book h.place (omega arith) (λ less. absurd (omega arith)) ∙ sym are in
    let days : total (λ x. x.usage_days) (last_six xs) ≡ total_usage_days es = ap (total (λ x. x.usage_days)) same ∙ total_days_is es in
    let six = six_latest test (λ x. x.usage_days) (λ x. x.kwh) book in
    none_some (basis_of_six (rung_for 3 w) six) (record { rung = rung_for 3 w; kwh = six.kwh; days = six.usage_days }) e
    (basis_of_six_given (rung_for 3 w) six (ap length same ∙ h.six) (omega (arith, days, h.not_few_days)) (omega (arith, days, h.not_many_days)))
seasonal_in None w book q (Some b) o e = none_some None b refl (sym e)
seasonal_in None w book q None o e = λ es h. none_some (season_of q.end_day) h.season (sym o) h.of_the_question

pub seasonal_law : (w : Whose) (book : List Entry) (q : Question) (r : Option Basis) → r ≡ seasonal w book q → OnSeasonal w book q r
seasonal_law w book q r e = seasonal_in (season_of q.end_day) w book q r refl e

-- every answer keeps within the bounds of a basis
rung_for_low : (n : ℕ) (w : Whose) → n ≤ rung_for n w
rung_for_low n Customer = omega arith
rung_for_low n Anyone = omega arith

rung_for_high : (n : ℕ) (w : Whose) → rung_for n w ≤ n + 3
rung_for_high n Customer = omega arith
rung_for_high n Anyone = omega arith

entry_lawful : (n : ℕ) (w : Whose) (e : Entry) (b : Basis) → 1 ≤ n → n ≤ 3 → IsAvailable e → b ≡ basis_of (rung_for n w) e → Lawful b
entry_lawful n w e b low high h is = rw is (record {
  rung_low = omega (arith, rung_for_low n w);
  rung_high = omega (arith, rung_for_high n w);
  kwh_high = omega (arith, h.not_much);
  days_low = h.some_days;
  days_high = omega (arith, h.not_many_days);
})

pub last_entry_lawful : (w : Whose) (book : List Entry) (q : Question) (b : Basis) → last_entry w book q ≡ Some b → Lawful b
last_entry_lawful w book q b e =
    let l = last_entry_law w book q (Some b) (sym e) in
    entry_lawful 1 w l.0 b (omega arith) (omega arith) l.1.is_available l.2

pub year_back_lawful : (w : Whose) (book : List Entry) (q : Question) (b : Basis) → from_year_back w book q ≡ Some b → Lawful b
year_back_lawful w book q b e =
    let l = year_back_law w book q (Some b) (sym e) in
    entry_lawful 2 w l.0 b (omega arith) (omega arith) l.1.is_available l.2

seasonal_in_lawful : (o : Option Season) (w : Whose) (book : List Entry) (q : Question) (b : Basis) → in_season_of o w book q ≡ Some b → Lawful b
seasonal_in_lawful (Some s) w book q b e =
    let six = six_latest (entry_in_season w q s) (λ x. x.usage_days) (λ x. x.kwh) book in
    let f = six_from_basis (rung_for 3 w) six b (sym e) in
    let few : six.kwh ≤ 600000000 = six_kwh_few (λ x. x.customer) (λ x. x.end_day) (λ x. x.usage_days) (λ x. x.kwh) w q.customer s book in
    rw f.3 (record {
      rung_low = omega (arith, rung_for_low 3 w);
      rung_high = omega (arith, rung_for_high 3 w);
      kwh_high = omega arith;
      days_low = omega (arith, f.1);
      days_high = omega (arith, f.2);
    })
seasonal_in_lawful None w book q b e = none_some None b refl e

pub seasonal_lawful : (w : Whose) (book : List Entry) (q : Question) (b : Basis) → seasonal w book q ≡ Some b → Lawful b
seasonal_lawful w book q b e = seasonal_in_lawful (season_of q.end_day) w book q b e

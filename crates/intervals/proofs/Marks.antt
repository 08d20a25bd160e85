-- What becomes of one interval when it is weighed and when it takes a share, by its mark.
use Rattle.std.proofs.Common.{◌≡◌, ℕ, ◌≤◌, true, false, cond, eqb, leb, sym, refl, ap}
use Rattle.std.proofs.lemmas.Bool.{le-leb, eq-eqb, both_ways, false≢true}
use Rattle.intervals.specs.declared.interval.Mark.{Mark}
use Rattle.intervals.specs.declared.interval.Mark.TheVariants.{Valid, Missing, Filled}
use Rattle.intervals.specs.declared.interval.Interval.{Interval}
use Rattle.intervals.specs.Intervals.{mark_number, valid, missing, lacking, wh_of, weight_of, weighed_by, with_share, readable}

-- what stands for an interval past the end of a list
abbrev pub blank : Interval
blank = record { wh = 0; weight = 0; mark = Valid }

-- a fact of every interval, by its mark
abbrev At : (Interval → Type 0) → Mark → Type 0
At P k = (w g : ℕ) → P (record { wh = w; weight = g; mark = k })

by_mark : (P : Interval → Type 0) → At P Valid → At P Missing → At P Filled → (x : Interval) → P x
by_mark P a b c x = elim x.mark as (λ k. P (record { wh = x.wh; weight = x.weight; mark = k })) [
  | Valid ↦ a x.wh x.weight
  | Missing ↦ b x.wh x.weight
  | Filled ↦ c x.wh x.weight
]

-- two marks of different numbers
apart : {j k : Mark} → j ≡ k → eqb (mark_number j) (mark_number k) ≡ false → ⊥
apart {j} {k} e n = both_ways (eqb (mark_number j) (mark_number k)) n (eq-eqb (mark_number j) (mark_number k) (ap mark_number e))

-- a readable interval lacks its Wh only if it is missing
pub lacking_missing : (x : Interval) → readable x ≡ true → lacking x ≡ missing x
lacking_missing = by_mark (λ x. readable x ≡ true → lacking x ≡ missing x) (λ w g h. refl) (λ w g h. refl) (λ w g h. sym h)

-- an interval once the sharing is done
abbrev pub shared_at : ℕ → Interval → Interval
shared_at s x = cond (lacking x) (with_share x s) x

-- weighing changes neither whether an interval is readable nor the Wh of a valid one, and sharing not the latter
pub weighed_readable : (r : ℕ) (x : Interval) → readable (weighed_by r x) ≡ readable x
weighed_readable r = by_mark (λ x. readable (weighed_by r x) ≡ readable x) (λ w g. refl) (λ w g. refl) (λ w g. refl)

abbrev valid_figure : Interval → ℕ
valid_figure x = cond (valid x) (wh_of x) 0

pub weighed_valid : (r : ℕ) (x : Interval) → valid_figure (weighed_by r x) ≡ valid_figure x
weighed_valid r = by_mark (λ x. valid_figure (weighed_by r x) ≡ valid_figure x) (λ w g. refl) (λ w g. refl) (λ w g. refl)

pub shared_valid : (s : ℕ) (x : Interval) → valid_figure (shared_at s x) ≡ valid_figure x
shared_valid s = by_mark (λ x. valid_figure (shared_at s x) ≡ valid_figure x) (λ w g. refl) (λ w g. refl) (λ w g. refl)

pub weighed_light : (r : ℕ) → r ≤ 1000000 → (x : Interval) → readable x ≡ true → cond (lacking (weighed_by r x)) (leb (weight_of (weighed_by r x)) 1000000) true ≡ true
weighed_light r h = by_mark (λ x. readable x ≡ true → cond (lacking (weighed_by r x)) (leb (weight_of (weighed_by r x)) 1000000) true ≡ true)
    (λ w g q. refl) (λ w g q. le-leb r 1000000 h) (λ w g q. absurd (false≢true q))

-- what becomes of a valid interval and of a missing one
pub valid_kept : (r s : ℕ) (x : Interval) → x.mark ≡ Valid → shared_at s (weighed_by r x) ≡ x
valid_kept r s = by_mark (λ x. x.mark ≡ Valid → shared_at s (weighed_by r x) ≡ x)
    (λ w g e. refl) (λ w g e. absurd (apart e refl)) (λ w g e. absurd (apart e refl))

pub missing_marked : (r s : ℕ) (x : Interval) → x.mark ≡ Missing → (shared_at s (weighed_by r x)).mark ≡ Filled
missing_marked r s = by_mark (λ x. x.mark ≡ Missing → (shared_at s (weighed_by r x)).mark ≡ Filled)
    (λ w g e. absurd (apart e refl)) (λ w g e. refl) (λ w g e. refl)

pub missing_weighed : (r s : ℕ) (x : Interval) → x.mark ≡ Missing → (shared_at s (weighed_by r x)).weight ≡ r
missing_weighed r s = by_mark (λ x. x.mark ≡ Missing → (shared_at s (weighed_by r x)).weight ≡ r)
    (λ w g e. absurd (apart e refl)) (λ w g e. refl) (λ w g e. absurd (apart e refl))

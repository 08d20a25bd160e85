-- The rates and their names.
use Rattle.std.proofs.Common.{◌≡◌, ℕ, List, [], ◌∷◌, Some, None, Option, sym, refl, ap, ◌∙◌}
use Rattle.std.specs.Str.{bytes_eq}
use Rattle.std.proofs.lemmas.Bool.{cond_both}
use Rattle.std.proofs.lemmas.Slice.Eq.{bytes_eq-Decides}
use Rattle.measures.specs.declared.rate.Rate.{Rate}
use Rattle.measures.specs.declared.rate.Rate.TheVariants.{E12, Et1, Et2, EtSp, Ect1R, Ect2, NrS, NrL, Other}
use Rattle.measures.specs.Rate.{name_of}
use Rattle.std.proofs.lemmas.Option.{same_Some, none-some}
use Rattle.fields.specs.Rates.{rates, named_among, rate_of, Names}

-- each rate is known by its name
pub knows : (r : Rate) → rate_of (name_of r) ≡ Some r
knows E12 = refl
knows Et1 = refl
knows Et2 = refl
knows EtSp = refl
knows Ect1R = refl
knows Ect2 = refl
knows NrS = refl
knows NrL = refl
knows Other = refl

-- only by its name
by_name : (rs : List Rate) (bs : List ℕ) (r : Rate) → named_among rs bs ≡ Some r → bs ≡ name_of r
by_name [] bs r e = absurd (none-some r e)
by_name (x ∷ rs) bs r e =
    let P : Option Rate → Type 0 = λ o. o ≡ Some r → bs ≡ name_of r in
    cond_both (bytes_eq bs (name_of x)) (Some x) (named_among rs bs) P
    (λ t w. (bytes_eq-Decides bs (name_of x)).0 t ∙ ap name_of (same_Some x r w))
    (λ t w. by_name rs bs r w) e

pub names : (bs : List ℕ) (o : Option Rate) → o ≡ rate_of bs → Names bs o
names bs (Some r) e = by_name rates bs r (sym e)
names bs None e = λ r w. none-some r (e ∙ ap rate_of w ∙ knows r)

-- Rates as fields name them.
--   rate_of bs    the rate whose name is bs
--   Names bs r    r is the rate whose name is bs, and none where no rate has that name
use Rattle.std.specs.Prelude.{◌≡◌, ℕ, List, [], ◌∷◌, Some, None, Option, ◌≢◌}
use Rattle.std.specs.List.{find}
use Rattle.std.specs.Str.{bytes_eq}
use Rattle.measures.specs.declared.rate.Rate.{Rate}
use Rattle.measures.specs.declared.rate.Rate.TheVariants.{E12, Et1, Et2, EtSp, Ect1R, Ect2, NrS, NrL, Other}
use Rattle.measures.specs.Rate.{name_of}

abbrev pub rates : List Rate
rates = E12 ∷ Et1 ∷ Et2 ∷ EtSp ∷ Ect1R ∷ Ect2 ∷ NrS ∷ NrL ∷ Other ∷ []

abbrev pub named_among : List Rate → List ℕ → Option Rate
named_among rs bs = find (λ r. bytes_eq bs (name_of r)) rs

abbrev pub rate_of : List ℕ → Option Rate
rate_of bs = named_among rates bs

abbrev pub Names : List ℕ → Option Rate → Type 0
Names bs (Some r) = bs ≡ name_of r
Names bs None = (r : Rate) → bs ≢ name_of r

-- The line of a group of cases.
use Rattle.std.specs.Prelude.{ℕ, List, ◌++◌, codes, decimal, if◌then◌else◌}
use Rattle.tallies.specs.declared.report.Group.{Group}
use Rattle.tallies.specs.Tallies.{is_good}

-- how many cases were compared
abbrev pub compared_in : Group → List ℕ → List ℕ
compared_in g rest = g.name.now ++ (codes ": " ++ (decimal g.tally.compared ++ (codes " " ++ (g.cases.now ++ rest))))

-- and how they came out
abbrev pub line_of : Group → List ℕ
line_of g = (if is_good g.tally then compared_in g (codes ", all as expected") else compared_in g (codes ", " ++ (decimal g.tally.differing ++ codes " not as expected")))

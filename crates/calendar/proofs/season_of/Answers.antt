use Rattle.std.proofs.Common.{◌≡◌, Some, Option, sym, subst, rules}
use Rattle.calendar.specs.Calendar.{season_of, Seasonal}
use Rattle.calendar.specs.declared.Season.{Season}
use Rattle.calendar.proofs.Seasons.{seasonal}
use Rattle.calendar.proofs.season_of.Goals as goal

pub returns : goal.returns
returns c =
    let e : Some c.season_in.result ≡ season_of c.args.day = search rules in
    record { answer = e; seasonal = subst (λ (r : Option Season). Seasonal c.args.day r) (sym e) (seasonal c.args.day) }

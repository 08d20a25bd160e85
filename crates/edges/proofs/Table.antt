-- The table of figures, by computing each.
use Rattle.std.proofs.Common.{refl}
use Rattle.calendar.specs.Calendar.{month_of, month_from, first_day_of}
use Rattle.sharing.specs.Sharing.{running}
use Rattle.edges.specs.Figures.{Figures}

pub figures : Figures
unfolding month_of month_from first_day_of running
figures = record {
  past_all_nines = refl;
  one_day_more = refl;
  three_months = refl;
  leap_day = refl;
  leap_day_of_month = refl;
  last_of_winter = refl;
  first_of_summer = refl;
  put_off = refl;
  estimated = refl;
  not_higher = refl;
  higher = refl;
  by_load_factor = refl;
}

use Rattle.std.proofs.Common.{arith}
use Rattle.listing.proofs.Numbers.{digits_counted}
use Rattle.listing.proofs.page.count_digits.Goals as goal

pub returns : goal.returns
returns c =
    let log = c.checked_ilog10 in
    rw c.unwrap_or.ensures (digits_counted c.args.n log.result (omega arith) log.ensures.none log.ensures.power_le log.ensures.next_power_gt)

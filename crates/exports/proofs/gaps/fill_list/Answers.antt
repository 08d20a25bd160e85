use Rattle.std.proofs.Common.{◌≡◌, map, rules}
use Rattle.std.proofs.lemmas.Slice.Zip.{AllZip-map}
use Rattle.exports.specs.Gaps.{interval_of, metered_of}
use Rattle.exports.proofs.gaps.fill_list.Goals as goal
use Rattle.exports.proofs.gaps.fill_list.Goals.{After-copy_from}

copied : (c : goal.After-copy_from) → c.copy_from.new.to ≡ map interval_of c.args.intervals.now
copied c = AllZip-map interval_of c.args.intervals.now c.copy_from.new.to c.copy_from.ensures

pub returns-in_err-filled-clause-value : goal.returns-in_err-filled-clause-value
returns-in_err-filled-clause-value c = search (rules, copied (goal.at.returns-in_err-filled-clause-value c).After-copy_from)

pub returns-clause-value : goal.returns-clause-value
returns-clause-value c = search (rules, copied (goal.at.returns-clause-value c).After-copy_from)

pub returns-clause-after : goal.returns-clause-after
returns-clause-after c =
    let back : c.copy_from-2.new.to ≡ map metered_of c.fill.new.intervals = AllZip-map metered_of c.fill.new.intervals c.copy_from-2.new.to c.copy_from-2.ensures in
    search (rules, copied (goal.at.returns-clause-after c).After-copy_from, back)

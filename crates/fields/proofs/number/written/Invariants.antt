use Rattle.std.proofs.Common.{◌≡◌, ◌^◌, ◌<◌, take}
use Rattle.std.specs.Str.Parse.{digits_value, AllDigits}
use Rattle.fields.proofs.number.written.Given as goal

-- the bytes so far are digits, and write the number so far
abbrev pub invariant-loop-byte : goal.invariant-loop-byte
invariant-loop-byte l =
    (l.number ≡ digits_value 10 (take l.byte-index l.field))
    × AllDigits 10 (take l.byte-index l.field)
    × (l.number < 2 ^ 32)

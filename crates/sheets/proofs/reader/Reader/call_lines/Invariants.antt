use Rattle.std.proofs.Common.{◌≡◌, ◌+◌, ◌-◌, ◌≤◌, vec_items, vec_len, vec_capacity}
use Rattle.sheets.specs.Sections.{lines_left, calls_of}
use Rattle.sheets.proofs.Steps.{after_calls}
use Rattle.sheets.proofs.reader.Reader.call_lines.Given as goal

-- the calls so far, and those on the lines that are left, are the section's
abbrev pub invariant-loop : goal.invariant-loop
invariant-loop l =
    (after_calls (vec_items l.calls) (calls_of (l.count - l.counter) (l.self.line + 1) (lines_left l.self)) ≡ calls_of l.count (l.initial.self.line + 1) (lines_left l.initial.self))
    × (vec_len l.calls ≡ l.counter)
    × (l.count ≤ vec_capacity l.calls)

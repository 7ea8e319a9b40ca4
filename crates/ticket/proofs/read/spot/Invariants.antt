use Rattle.std.proofs.Common.{◌≡◌, ◌+◌, ◌≤◌, drop}
use Rattle.ticket.specs.Reading.{spot_after}
use Rattle.ticket.proofs.read.spot.Given as goal

abbrev pub invariant-loop-byte : goal.invariant-loop-byte
invariant-loop-byte l =
    (l.line + l.column ≤ l.byte-index + 1)
    × (spot_after (drop l.byte-index l.before) l.line l.column ≡ spot_after l.before 1 0)

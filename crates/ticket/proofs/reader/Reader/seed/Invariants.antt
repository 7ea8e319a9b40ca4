use Rattle.std.proofs.Common.{◌≡◌, ℕ, ◌<◌, ◌++◌, length, get_or, take}
use Rattle.strip.specs.Hex.{hex_text}
use Rattle.ticket.proofs.reader.Reader.seed.Given as goal

abbrev pub invariant-loop-byte : goal.invariant-loop-byte
invariant-loop-byte l =
    (length l.seed ≡ 32)
    × (l.initial.self.left.now ≡ hex_text (take l.byte-index l.seed) ++ l.self.left.now)
    × ((j : ℕ) → get_or (take l.byte-index l.seed) j 0 < 256)

use Rattle.std.proofs.Common.{◌≡◌, ◌*◌, drop, vec_items}
use Rattle.text.specs.Hex.{bytes_of}
use Rattle.text.proofs.Decoding.{after}
use Rattle.text.proofs.bytes.decode.Given as goal

abbrev pub invariant-loop-high : goal.invariant-loop-high
invariant-loop-high l = bytes_of l.text ≡ after (vec_items l.bytes) (bytes_of (drop (2 * l.high-index) l.text))

use Rattle.std.proofs.Common.{◌≡◌, ◌*◌, length}
use Rattle.hashing.specs.Sha256.{padding, rounds}
use Rattle.hashing.proofs.state.State.absorb_padding.Given as goal

abbrev pub invariant-loop-constants : goal.invariant-loop-constants
invariant-loop-constants l = l.s ≡ rounds (padding 64) (16 * length l.yielded) l.self

use Rattle.std.proofs.Common.{◌*◌}
use Rattle.hashing.specs.Stages.{Stage}
use Rattle.hashing.proofs.state.State.compress.Given as goal

abbrev pub invariant-loop-constants : goal.invariant-loop-constants
invariant-loop-constants l = Stage l.block l.self (16 * l.constants-index) l.s l.words

use Rattle.std.proofs.Common.{◌≡◌, ℕ, List, length}
use Rattle.hashing.specs.Stages.{HasWords}
use Rattle.hashing.proofs.Schedule.{Rolled}
use Rattle.hashing.proofs.state.following.Given as goal

abbrev pub invariant-loop-j : goal.invariant-loop-j
invariant-loop-j l = (length l.words ≡ 16) × ((m : List ℕ) (t : ℕ) → HasWords m t l.fn.words → Rolled m t l.j l.words)

-- What holds between the steps of the computation.
use Rattle.std.specs.Prelude.{◌≡◌, ℕ, ◌+◌, ◌*◌, ◌%◌, ◌<◌, ◌≤◌, List, slice_index}
use Rattle.hashing.specs.declared.state.State.{State}
use Rattle.hashing.specs.Sha256.{W, rounds}

-- w holds the sixteen words of the schedule of the block M from W_t on
abbrev pub HasWords : List ℕ → ℕ → List ℕ → Type 0
HasWords M t w = (j : ℕ) → j < 16 → slice_index w j ≡ W M (t + j)

-- t rounds on the block M from the hash value H have led to s, and w holds the words from W_t on
pub record Stage (M : List ℕ) (H : State) (t : ℕ) (s : State) (w : List ℕ) : Type 0 where
  pub variables : s ≡ rounds M t H
  pub words : HasWords M t w

-- FIPS 180-4, 5.1.1: after 8 * n bits of message and the bit 1, the seven bits 0 of the byte 0x80 and those of z bytes are
-- the least number of bits 0 that leaves 64 bits of a block of 512
pub record LeastZeros (n z : ℕ) : Type 0 where
  pub fills : (8 * n + 1 + (7 + 8 * z)) % 512 ≡ 448
  pub least : (k : ℕ) → (8 * n + 1 + k) % 512 ≡ 448 → 7 + 8 * z ≤ k

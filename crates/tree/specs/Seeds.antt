-- The seed source: token n is SHA-256 of the seed and of n in four bytes, highest first.
use Rattle.std.specs.Prelude.{◌≡◌, ℕ, ◌^◌, ◌<◌, ◌≤◌, List, ◌++◌, length, take, Some, Ok, Err, Result}
use Rattle.hashing.specs.Sha256.{sha256}
use Rattle.tree.specs.Numbers.{number_bytes}
use Rattle.tree.specs.Supply.{Supply}
use Rattle.tree.specs.Meaning.{short_of}
use Rattle.tree.specs.declared.fault.TooShort.{TooShort}

abbrev pub seed_supply : List ℕ → Supply
seed_supply seed = record {
  size = 2 ^ 20;
  token = λ n. Some (sha256 (seed ++ number_bytes n));
}

-- Taking another seed: the first 32 bytes of some, or a refusal that changes nothing.
abbrev pub Reseeds : List ℕ → List ℕ → List ℕ → Result Unit TooShort → Type 0
Reseeds before bytes later (Ok _) = (32 ≤ length bytes) × (later ≡ take 32 bytes)
Reseeds before bytes later (Err e) = (length bytes < 32) × (later ≡ before) × (e ≡ short_of 32)

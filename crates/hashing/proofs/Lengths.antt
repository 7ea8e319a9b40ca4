-- A hash has 32 bytes.
use Rattle.std.proofs.Common.{◌≡◌, ℕ, List, length, refl}
use Rattle.hashing.specs.declared.state.State.{State}
use Rattle.hashing.specs.Sha256.{bytes4, bytes_of, hashed_all, initial, padded, sha256}

length_bytes_of : (H : State) → length (bytes_of H) ≡ 32
unfolding bytes4 bytes_of
length_bytes_of H = refl

pub length_sha256 : (m : List ℕ) → length (sha256 m) ≡ 32
unfolding sha256
length_sha256 m = length_bytes_of (hashed_all initial (padded m))

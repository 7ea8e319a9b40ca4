-- The root of the sealed tree of height 16 over the tokens of a seed.
use Rattle.std.specs.Prelude.{◌≡◌, ℕ, ◌<◌, ◌≤◌, Bool, true, false, ◌⊎◌, List, ◌++◌, length, take, drop}
use Rattle.tree.specs.declared.digest.Digest.{Digest}
use Rattle.tree.specs.Digests.{sealed_meaning}
use Rattle.tree.specs.Seeds.{seed_supply}
use Rattle.tree.specs.Tree.{root_of}
use Rattle.traversal.specs.Worlds.{tokens}

unfoldable pub seed_root : List ℕ → Digest
seed_root seed = root_of sealed_meaning (tokens (seed_supply seed)) 16

-- it is written to the front, unless seed or room is too short
abbrev pub WritesRoot : List ℕ → List ℕ → Bool → List ℕ → Type 0
WritesRoot seed before true later = (32 ≤ length seed) × (32 ≤ length before) × (later ≡ (seed_root (take 32 seed)).bytes ++ drop 32 before)
WritesRoot seed before false later = ((length seed < 32) ⊎ (length before < 32)) × (later ≡ before)

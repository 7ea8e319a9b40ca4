-- The full tree over the tokens 0 to 2^H - 1, its root, and the authentication path of a number.
use Rattle.std.specs.Prelude.{ℕ, zero, suc, ◌+◌, ◌-◌, ◌*◌, ◌/◌, ◌%◌, ◌^◌, cond, List, [], ◌∷◌, ◌==◌}
use Rattle.tree.specs.Meaning.{Meaning}

-- the index of the other child of a node's parent: the lowest bit inverted
abbrev pub sibling : ℕ → ℕ
sibling a = cond (a % 2 == 0) (a + 1) (a - 1)

-- the index of the sibling at height t on the way up from leaf n
abbrev pub sibling_index : ℕ → ℕ → ℕ
sibling_index n t = sibling (n / 2 ^ t)

module _ {N : Type 0} (m : Meaning N) (tokens : ℕ → List ℕ) where
  -- the node of height t and index a
  abbrev pub node_at : ℕ → ℕ → N
  node_at zero a = m.leaf a (tokens a)
  node_at (suc t) a = m.join (node_at t (2 * a)) (node_at t (2 * a + 1))

  -- the root of the tree of height H
  abbrev pub root_of : ℕ → N
  root_of H = node_at H 0

  -- the siblings on the way up from leaf n: k of them, from height t on
  abbrev pub siblings : ℕ → ℕ → ℕ → List N
  siblings n t zero = []
  siblings n t (suc k) = node_at t (sibling_index n t) ∷ siblings n (suc t) k

  -- the authentication path of n in the tree of height H
  abbrev pub path_of : ℕ → ℕ → List N
  path_of H n = siblings n 0 H

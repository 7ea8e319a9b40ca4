-- Folding a path: from a leaf and the siblings on its way up to the root that they lead to.
use Rattle.std.specs.Prelude.{◌≡◌, ℕ, zero, suc, ◌*◌, ◌/◌, ◌%◌, ◌^◌, ◌<◌, cond, List, [], ◌∷◌, length, take, drop, Some, None, Option, ◌==◌, nat_lt}
use Rattle.std.specs.List.{flat_map}
use Rattle.tree.specs.Meaning.{Meaning}
use Rattle.tree.specs.Tree.{root_of, path_of}

-- the parent of a node of the given index and its sibling: an even index is a left child
abbrev pub parent : {N : Type 0} → (N → N → N) → ℕ → N → N → N
parent join index x other = cond (index % 2 == 0) (join x other) (join other x)

-- where a path leads from a node of the given index
abbrev pub leads_to : {N : Type 0} → (N → N → N) → ℕ → N → List N → N
leads_to join index x [] = x
leads_to join index x (other ∷ up) = leads_to join (index / 2) (parent join index x other) up

-- a path as bytes
abbrev pub path_bytes : {N : Type 0} → Meaning N → List N → List ℕ
path_bytes m nodes = flat_map m.put nodes

-- one more node in front, if there is one
abbrev pub and_then : {N : Type 0} → Option N → List N → List N
and_then None xs = []
and_then (Some x) xs = x ∷ xs

-- the node that bytes begin with, if they are long enough and it reads as one
abbrev pub front_node : {N : Type 0} → Meaning N → List ℕ → Option N
front_node m bytes = cond (nat_lt (length bytes) m.width) None (m.read (take m.width bytes))

-- the nodes that bytes begin with, at most k, up to the first place where there is none
abbrev pub nodes_of : {N : Type 0} → Meaning N → ℕ → List ℕ → List N
nodes_of m zero bytes = []
nodes_of m (suc k) bytes = and_then (front_node m bytes) (nodes_of m k (drop m.width bytes))

-- the nodes of a path given as bytes
abbrev pub path_nodes : {N : Type 0} → Meaning N → List ℕ → List N
path_nodes m bytes = nodes_of m (length bytes / m.width) bytes

-- where path bytes lead; none unless they are nodes from end to end
abbrev pub folded : {N : Type 0} → Meaning N → ℕ → N → List ℕ → Option N
folded m number start bytes =
    cond (m.width * length (path_nodes m bytes) == length bytes)
    (Some (leads_to m.join number start (path_nodes m bytes)))
    None

-- The path of every number of the full tree leads from its leaf to the root.
abbrev pub PathLeadsToRoot : {N : Type 0} → Meaning N → Type 0
PathLeadsToRoot m =
    (tokens : ℕ → List ℕ) (H n : ℕ) → n < 2 ^ H →
    leads_to m.join n (m.leaf n (tokens n)) (path_of m tokens H n) ≡ root_of m tokens H

-- So folding the bytes of that path from that leaf gives the root.
abbrev pub FoldsToRoot : {N : Type 0} → Meaning N → ℕ → N → List ℕ → Option N → Type 0
FoldsToRoot m number start bytes r =
    (tokens : ℕ → List ℕ) (H : ℕ) → number < 2 ^ H →
    start ≡ m.leaf number (tokens number) → bytes ≡ path_bytes m (path_of m tokens H number) →
    r ≡ Some (root_of m tokens H)

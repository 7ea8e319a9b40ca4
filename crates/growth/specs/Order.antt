-- The order in which a complete binary tree is made, node by node (treehash): two nodes on top of the stack that
-- have equal height are joined at once, and otherwise the next leaf is made. Node (t, x) is that of height t and
-- index x. How far this has come is told by two numbers: l leaves are made, and the newest node has height p.
use Rattle.std.specs.Prelude.{◌≡◌, ℕ, ◌+◌, ◌-◌, ◌*◌, ◌/◌, ◌%◌, ◌^◌, ◌≤◌, Bool, ◌&&◌, ◌||◌, ◌==◌, count_ones, nat_le, nat_lt}

-- the leaves up to the last one below node (t, x)
unfoldable pub ends : ℕ → ℕ → ℕ
ends t x = (x + 1) * 2 ^ t

-- a node is made once its last leaf is, and then the nodes that end there from the bottom up
unfoldable pub made : ℕ → ℕ → ℕ → ℕ → Bool
made l p t x = nat_lt (ends t x) l || (ends t x == l && nat_le t p)

-- how far a tree of height T can have come: the newest node ends at l
abbrev pub Reached : ℕ → ℕ → ℕ → Type 0
Reached T l p = (l ≤ 2 ^ T) × (p ≤ T) × (p ≤ l) × (l % 2 ^ p ≡ 0)

-- the index of the newest node
abbrev pub newest : ℕ → ℕ → ℕ
newest l p = (l - 1) / 2 ^ p

-- the two nodes on top have equal height if the newest node is a right child
unfoldable pub join_due : ℕ → ℕ → Bool
join_due l p = nat_lt 0 l && newest l p % 2 == 1

-- Each join makes two stacked nodes one, so the joins made are the leaves less the nodes on the stack: the newest
-- node, and a left sibling for each binary digit 1 of its index.
unfoldable pub joined : ℕ → ℕ → ℕ
joined l p = l - 1 - count_ones (newest l p)

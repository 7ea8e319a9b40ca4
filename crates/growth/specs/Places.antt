-- Where the nodes of a growing tree lie. Some have a cell of their own and keep it. The others are needed only
-- until they are joined, and lie on a stack.
use Rattle.std.specs.Prelude.{◌≡◌, ℕ, zero, suc, ◌+◌, ◌-◌, ◌/◌, ◌%◌, ◌^◌, ◌<◌, ◌≤◌, Bool, true, cond, not, ◌&&◌, ◌||◌, ◌==◌}
use Rattle.growth.specs.Order.{made, newest}

pub record Layout : Type 0 where
  -- the nodes that have a cell of their own, and the cell
  pub owns : ℕ → ℕ → Bool
  pub cell : ℕ → ℕ → ℕ
  -- the cell where the stack of the others starts
  pub tail : ℕ
  -- the height of the tree
  pub top : ℕ

-- the nodes that a table carries: made, and still to be joined or with a cell of their own
unfoldable pub carried : Layout → ℕ → ℕ → ℕ → ℕ → Bool
carried lay l p t x = made l p t x && (lay.owns t x || not (made l p (t + 1) (x / 2)))

-- 1 if node (t, x) is a right child whose left sibling lies on the stack, and else 0
abbrev pub over_sibling : Layout → ℕ → ℕ → ℕ
over_sibling lay t x = cond (x % 2 == 1 && not (lay.owns t (x - 1))) 1 0

-- The nodes that lie on the stack below node (t, x) are the left siblings on its way up, d heights, that have no
-- cell of their own. So a node's place depends on nothing but the node.
abbrev pub stacked_below : Layout → ℕ → ℕ → ℕ → ℕ
stacked_below lay zero t x = 0
stacked_below lay (suc d) t x = over_sibling lay t x + stacked_below lay d (suc t) (x / 2)

unfoldable pub place : Layout → ℕ → ℕ → ℕ
place lay t x = cond (lay.owns t x) (lay.cell t x) (lay.tail + stacked_below lay (lay.top - t) t x)

-- how many nodes lie on the stack: those below the newest node, and that one if it has no cell of its own
unfoldable pub stack_size : Layout → ℕ → ℕ → ℕ
stack_size lay l p =
    cond (l == 0) 0 (stacked_below lay (lay.top - p) p (newest l p) + cond (lay.owns p (newest l p)) 0 1)

-- A layout is sound if the cells of different nodes differ and lie before the stack, and all nodes of the tree
-- from height b on have a cell.
pub record Sound (lay : Layout) (b : ℕ) : Type 0 where
  pub before : (t x : ℕ) → lay.owns t x ≡ true → lay.cell t x < lay.tail
  pub apart : (t x u y : ℕ) → lay.owns t x ≡ true → lay.owns u y ≡ true → lay.cell t x ≡ lay.cell u y → (t ≡ u) × (x ≡ y)
  pub high : (t x : ℕ) → t ≤ lay.top → b ≤ t → x < 2 ^ (lay.top - t) → lay.owns t x ≡ true

-- A table of so many cells has room for the stack: nodes below height b at most lie there, and none if b is 0.
abbrev pub Room : Layout → ℕ → ℕ → Type 0
Room lay b cells = (lay.tail ≤ cells) × (0 < b → lay.tail + b < cells)

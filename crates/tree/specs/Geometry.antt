-- A tree of height H in levels of subtrees of height h, and the table of cells that a traversal works on.
use Rattle.std.specs.Prelude.{◌≡◌, ℕ, ◌+◌, ◌-◌, ◌*◌, ◌/◌, ◌%◌, ◌^◌, ◌≤◌, Bool, true, cond, ◌&&◌, List, [], ◌∷◌, Some, None, Ok, Err, Result, ◌==◌, nat_le}
use Rattle.tree.specs.Numbers.{legal_height}
use Rattle.tree.specs.Refusals.{first_refusal}
use Rattle.tree.specs.declared.refusal.Refusal.{Refusal}
use Rattle.tree.specs.declared.refusal.Refusal.TheVariants.{Height, Subtree}

-- a subtree height is 1 to 10 and divides the tree's height
abbrev pub legal_subtree : ℕ → ℕ → Bool
legal_subtree H h = nat_le 1 h && nat_le h 10 && H % h == 0

-- how many levels of subtrees there are
abbrev pub levels : ℕ → ℕ → ℕ
levels H h = H / h

-- the nodes of a subtree, without its root: 2^h at the bottom, half as many at each height above
abbrev pub subtree_cells : ℕ → ℕ
subtree_cells h = 2 ^ (h + 1) - 2

-- the cells for the stacked nodes of level i that have no subtree cell
abbrev pub tail_cells : ℕ → ℕ → ℕ
tail_cells h i = (i - 1) * h + 1

-- Where the sections start. Cell 0 is the root; then come the existing subtrees of levels 1 to L, the
-- following ones of levels 1 to L - 1, and the tails of levels 2 to L - 1.
abbrev pub existing_start : ℕ → ℕ → ℕ
existing_start h i = 1 + (i - 1) * subtree_cells h

abbrev pub following_start : ℕ → ℕ → ℕ → ℕ
following_start H h i = 1 + (levels H h + (i - 1)) * subtree_cells h

abbrev pub tail_start : ℕ → ℕ → ℕ → ℕ
tail_start H h i = 1 + (2 * levels H h - 1) * subtree_cells h + ((i - 2) + h * ((i - 1) * (i - 2) / 2))

-- how many cells the table has
abbrev pub table_size : ℕ → ℕ → ℕ
table_size H h =
    1 + (2 * levels H h - 1) * subtree_cells h
    + cond (nat_le 2 (levels H h)) ((levels H h - 2) + h * ((levels H h - 1) * (levels H h - 2) / 2)) 0

-- legal heights, and the size of the table for them
abbrev pub Shaped : ℕ → ℕ → ℕ → Type 0
Shaped H h n = (legal_height H ≡ true) × (legal_subtree H h ≡ true) × (n ≡ table_size H h)

-- The sections lie one after another, without gap or overlap, and together are the table.
pub record InARow (H h : ℕ) : Type 0 where
  -- the first follows the root's cell
  pub first : existing_start h 1 ≡ 1
  pub existing : (i : ℕ) → 1 ≤ i → existing_start h (i + 1) ≡ existing_start h i + subtree_cells h
  pub existing_to_following : existing_start h (levels H h) + subtree_cells h ≡ following_start H h 1
  pub following : (i : ℕ) → 1 ≤ i → following_start H h (i + 1) ≡ following_start H h i + subtree_cells h
  pub following_to_tails : 2 ≤ levels H h → following_start H h (levels H h - 1) + subtree_cells h ≡ tail_start H h 2
  pub tails : (i : ℕ) → 2 ≤ i → tail_start H h (i + 1) ≡ tail_start H h i + tail_cells h i
  -- the last one ends the table
  pub one_level : levels H h ≡ 1 → table_size H h ≡ following_start H h 1
  pub more_levels : 2 ≤ levels H h → table_size H h ≡ tail_start H h (levels H h)

-- What size checks, in this order, and what it answers.
abbrev pub shape_checks : ℕ → ℕ → List (Bool × Refusal)
shape_checks H h = (legal_height H, Height H) ∷ (legal_subtree H h, Subtree h) ∷ []

abbrev pub Sizes : ℕ → ℕ → Result ℕ Refusal → Type 0
Sizes H h (Ok n) = (first_refusal (shape_checks H h) ≡ None) × (n ≡ table_size H h) × InARow H h
Sizes H h (Err r) = first_refusal (shape_checks H h) ≡ Some r

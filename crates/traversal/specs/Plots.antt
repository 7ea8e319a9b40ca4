-- The layout of one growing tree in the table, told by five numbers.
use Rattle.std.specs.Prelude.{◌≡◌, ℕ, ◌+◌, ◌-◌, ◌*◌, ◌/◌, ◌%◌, ◌^◌, ◌<◌, ◌≤◌, Bool, true, false, cond, ◌&&◌, ◌||◌, ◌==◌, nat_le, nat_lt}
use Rattle.growth.specs.Places.{Layout}
use Rattle.tree.specs.Geometry.{subtree_cells}
use Rattle.traversal.specs.declared.plot.Plot.{Plot}
use Rattle.traversal.specs.declared.plot.Home.{Home}
use Rattle.traversal.specs.declared.plot.Home.TheVariants.{Root, Subtree, Stack}

-- the cells of the rows below row r of a subtree of height h: 2^h at the bottom, half as many in each row above
abbrev pub row_start : ℕ → ℕ → ℕ
row_start h r = 2 ^ (h + 1) - 2 ^ (h + 1 - r)

-- the root has a cell of its own, and so have the nodes of the first subtree of each level from the lowest height on
unfoldable pub owns_cell : Plot → ℕ → ℕ → Bool
owns_cell plot t x =
    (t == plot.top && x == 0)
    || (nat_le plot.lowest t && (nat_lt t plot.top && nat_lt x (2 ^ (plot.subtree - t % plot.subtree))))

-- the root's is cell 0; a subtree lies by height from the bottom, left to right, one level after another
unfoldable pub own_cell : Plot → ℕ → ℕ → ℕ
own_cell plot t x =
    cond (t == plot.top) 0
    (plot.rows + t / plot.subtree * subtree_cells plot.subtree + (row_start plot.subtree (t % plot.subtree) + x))

abbrev pub layout : Plot → Layout
layout plot = record { owns = owns_cell plot; cell = own_cell plot; tail = plot.tail; top = plot.top }

-- from this height on every node of the tree has a cell of its own
abbrev pub depth : Plot → ℕ
depth plot = plot.top - plot.subtree

-- The numbers fit together: the subtrees fill the tree, and their sections lie before the stack.
pub record Legal (plot : Plot) : Type 0 where
  pub least : 1 ≤ plot.subtree
  pub greatest : plot.subtree ≤ 10
  pub high : plot.top ≤ 20
  pub low : plot.lowest + plot.subtree ≤ plot.top
  pub whole : plot.top % plot.subtree ≡ 0
  pub root : 1 ≤ plot.rows
  pub sections : plot.rows + plot.top / plot.subtree * subtree_cells plot.subtree ≤ plot.tail

-- where a node lies
abbrev pub Lies : Plot → ℕ → ℕ → Home → Type 0
Lies plot t x Root = (owns_cell plot t x ≡ true) × (own_cell plot t x ≡ 0)
Lies plot t x (Subtree start offset) =
    (owns_cell plot t x ≡ true) × (own_cell plot t x ≡ start + offset)
    × (offset < subtree_cells plot.subtree) × (start + subtree_cells plot.subtree ≤ plot.tail)
Lies plot t x (Stack tail) = (owns_cell plot t x ≡ false) × (tail ≡ plot.tail)

-- its cell where so many nodes are on the stack, and how many it adds to them
abbrev pub cell_of : Home → ℕ → ℕ
cell_of Root stacked = 0
cell_of (Subtree start offset) stacked = start + offset
cell_of (Stack tail) stacked = tail + stacked

abbrev pub on_stack : Home → ℕ
on_stack Root = 0
on_stack (Subtree start offset) = 0
on_stack (Stack tail) = 1

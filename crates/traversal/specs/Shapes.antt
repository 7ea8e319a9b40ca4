-- The layout of a draft in the table of a traversal.
use Rattle.std.specs.Prelude.{ℕ}
use Rattle.tree.specs.Geometry.{existing_start, following_start}
use Rattle.traversal.specs.declared.plot.Plot.{Plot}

-- A draft has the whole tree to make. The existing subtrees of every level are the first of their level, and the
-- stack starts after them.
abbrev pub draft_plot : ℕ → ℕ → Plot
draft_plot H h = record { lowest = 0; top = H; subtree = h; rows = existing_start h 1; tail = following_start H h 1 }

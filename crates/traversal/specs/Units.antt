-- A treehash in the table, and what its units do.
use Rattle.std.specs.Prelude.{◌≡◌, ℕ, ◌+◌, ◌^◌, ◌<◌, ◌≤◌, cond, false, Ok, Err, Result}
use Rattle.growth.specs.Order.{Reached, join_due, joined}
use Rattle.growth.specs.Places.{stack_size}
use Rattle.growth.specs.Values.{Grew}
use Rattle.tree.specs.Meaning.{after}
use Rattle.tree.specs.Supply.{presence}
use Rattle.traversal.specs.declared.plot.Plot.{Plot}
use Rattle.traversal.specs.declared.treehash.Treehash.{Treehash}
use Rattle.traversal.specs.declared.fault.UnitFault.{UnitFault}
use Rattle.traversal.specs.Plots.{layout}
use Rattle.traversal.specs.Worlds.{World, leaf_at}

-- The numbers of a treehash fit together: they are those of a progress.
abbrev pub Standing : Plot → Treehash → Type 0
Standing plot g =
    Reached plot.top g.leaves g.newest
    × (g.joins ≡ joined g.leaves g.newest)
    × (g.stacked ≡ stack_size (layout plot) g.leaves g.newest)

-- the root is not made yet
abbrev pub Unfinished : Plot → Treehash → Type 0
Unfinished plot g = g.leaves ≡ 2 ^ plot.top → g.newest < plot.top

-- A treehash made so many leaves and joins more: each leaf of a token that is present, every value by the tree rule.
-- The meter counts them, and the meanings stay.
pub record Advanced {N : Type 0} (plot : Plot) (v : World N) (g : Treehash) (leaves joins : ℕ) (w : World N) (h : Treehash) : Type 0 where
  pub leaves_made : h.leaves ≡ g.leaves + leaves
  pub joins_made : h.joins ≡ g.joins + joins
  pub present : (n : ℕ) → g.leaves ≤ n → n < h.leaves → presence v.supply n ≡ Ok tt
  pub grew : Grew (leaf_at v.meaning v.supply) v.meaning.join (layout plot) g.leaves g.newest h.leaves h.newest v.table w.table
  pub metered : w.meter ≡ after leaves joins v.meter
  pub meaning : w.meaning ≡ v.meaning
  pub supply : w.supply ≡ v.supply

-- The next leaf was made, or its token is missing and nothing has changed.
abbrev pub LeafMade : {N : Type 0} → Plot → World N → Treehash → Result Unit UnitFault → World N → Treehash → Type 0
LeafMade plot v g (Ok _) w h = Advanced plot v g 1 0 w h
LeafMade plot v g (Err f) w h =
    (presence v.supply g.leaves ≡ Err f.missing.cause) × (f.missing.number ≡ g.leaves) × (w ≡ v) × (h ≡ g)

-- the leaves and the joins of the next unit: a join if one is due, and otherwise a leaf
abbrev pub next_unit : Treehash → ℕ × ℕ
next_unit g = cond (join_due g.leaves g.newest) (0, 1) (1, 0)

-- The next unit was made, or it is a leaf whose token is missing.
abbrev pub UnitMade : {N : Type 0} → Plot → World N → Treehash → Result Unit UnitFault → World N → Treehash → Type 0
UnitMade plot v g (Ok _) w h = Advanced plot v g (next_unit g).0 (next_unit g).1 w h
UnitMade plot v g (Err f) w h = (join_due g.leaves g.newest ≡ false) × LeafMade plot v g (Err f) w h

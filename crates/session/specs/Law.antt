-- The law over all lists of calls on a draft, refused calls included.
use Rattle.std.specs.Prelude.{◌≡◌, ℕ, ◌+◌, ◌-◌, ◌*◌, ◌^◌, ◌<◌, ◌≤◌, min, List, [], ◌∷◌, length, Ok, Err, Result, slice_index_or}
use Rattle.tree.specs.Meaning.{Meaning, after}
use Rattle.tree.specs.Supply.{Supply, presence}
use Rattle.tree.specs.Tree.{node_at, root_of}
use Rattle.tree.specs.Geometry.{levels, table_size, existing_start}
use Rattle.traversal.specs.declared.state.Draft.{Draft}
use Rattle.traversal.specs.declared.outcome.TooEarly.{TooEarly}
use Rattle.traversal.specs.declared.refusal.Refusal.{Refusal}
use Rattle.traversal.specs.Plots.{row_start}
use Rattle.traversal.specs.Worlds.{World, tokens}
use Rattle.traversal.specs.Calls.{made_so_far}
use Rattle.session.specs.declared.held.Held.{Held}
use Rattle.session.specs.declared.held.Held.TheVariants.{Drafting, Running}
use Rattle.session.specs.declared.held.Call.{Call}
use Rattle.session.specs.declared.held.Call.TheVariants.{Step, Turn}
use Rattle.session.specs.History.{History}

-- the leaves and the joins that a step reports; a refused one has made none
abbrev pub reported : Result (ℕ × ℕ) Refusal → ℕ × ℕ
reported (Ok made) = made
reported (Err r) = (0, 0)

-- what the steps of a list report together, and their budgets' sum
abbrev pub leaves_made : List Call → ℕ
leaves_made [] = 0
leaves_made (Step budget answer ∷ calls) = (reported answer).0 + leaves_made calls
leaves_made (Turn answer ∷ calls) = leaves_made calls

abbrev pub joins_made : List Call → ℕ
joins_made [] = 0
joins_made (Step budget answer ∷ calls) = (reported answer).1 + joins_made calls
joins_made (Turn answer ∷ calls) = joins_made calls

abbrev pub budgets : List Call → ℕ
budgets [] = 0
budgets (Step budget answer ∷ calls) = budget + budgets calls
budgets (Turn answer ∷ calls) = budgets calls

-- no step is refused
abbrev pub Unrefused : List Call → Type 0
Unrefused [] = Unit
Unrefused (Step budget (Ok made) ∷ calls) = Unrefused calls
Unrefused (Step budget (Err r) ∷ calls) = ⊥
Unrefused (Turn answer ∷ calls) = Unrefused calls

-- a turn is accepted if all nodes are made, and refused with the number of those that are missing
abbrev pub TurnAt : ℕ → ℕ → Result Unit TooEarly → Type 0
TurnAt all made (Ok _) = made ≡ all
TurnAt all made (Err early) = (0 < early.missing) × (made + early.missing ≡ all)

-- so is each turn of a list, where some nodes were made before
abbrev pub TurnsAt : ℕ → ℕ → List Call → Type 0
TurnsAt all before [] = Unit
TurnsAt all before (Step budget answer ∷ calls) = TurnsAt all (before + ((reported answer).0 + (reported answer).1)) calls
TurnsAt all before (Turn answer ∷ calls) = TurnAt all before answer × TurnsAt all before calls

-- the nodes of a tree of height H
abbrev pub nodes : ℕ → ℕ
nodes H = 2 ^ (H + 1) - 1

-- all tokens of the tree are there
abbrev pub AllPresent : Supply → ℕ → Type 0
AllPresent s H = (n : ℕ) → n < 2 ^ H → presence s n ≡ Ok tt

-- A table holds the root of the full tree, and the existing subtree of every level: row r of level i has the height
-- (i - 1) h + r.
pub record HoldsTree {N : Type 0} (m : Meaning N) (s : Supply) (H h : ℕ) (table : List N) : Type 0 where
  pub root : (y : N) → slice_index_or table 0 y ≡ root_of m (tokens s) H
  pub subtrees : (y : N) (i r x : ℕ) → 1 ≤ i → i ≤ levels H h → r < h → x < 2 ^ (h - r) →
      slice_index_or table (existing_start h i + (row_start h r + x)) y ≡ node_at m (tokens s) ((i - 1) * h + r) x

-- After the accepted turn the table holds the tree.
abbrev pub HeldTree : {N : Type 0} → Meaning N → Supply → ℕ → ℕ → Held → List N → Type 0
HeldTree m s H h (Drafting d) table = Unit
HeldTree m s H h (Running run) table = HoldsTree m s H h table

-- What is held has the heights that were begun with, and knows the leaves and the joins made. A run has no pulls yet.
abbrev pub HoldsCount : ℕ → ℕ → ℕ → ℕ → Held → Type 0
HoldsCount H h leaves joins (Drafting d) = (d.shape.height ≡ H) × (d.shape.subtree ≡ h) × (made_so_far d ≡ (leaves, joins))
HoldsCount H h leaves joins (Running run) =
    (run.shape.height ≡ H) × (run.shape.subtree ≡ h) × (run.totals ≡ record { pulls = 0; drafted = (leaves, joins); pulled = (0, 0) })

-- What every list of calls comes to, from a world v to a world w.
pub record Lawful {N : Type 0} (H h : ℕ) (v : World N) (calls : List Call) (z : Held) (w : World N) : Type 0 where
  -- with all tokens there no step is refused, and the steps make as many nodes as their budgets allow, up to all
  pub unrefused : AllPresent v.supply H → Unrefused calls
  pub makes : AllPresent v.supply H → leaves_made calls + joins_made calls ≡ min (budgets calls) (nodes H)
  -- a turn is accepted exactly when all nodes are made
  pub turns : TurnsAt (nodes H) 0 calls
  -- the meter rises by exactly what is reported
  pub metered : w.meter ≡ after (leaves_made calls) (joins_made calls) v.meter
  -- what the maker means and what the source supplies stays, and so do the cells past the table's
  pub meaning : w.meaning ≡ v.meaning
  pub supply : w.supply ≡ v.supply
  pub long : length w.table ≡ length v.table
  pub past : (y : N) (k : ℕ) → table_size H h ≤ k → slice_index_or w.table k y ≡ slice_index_or v.table k y
  -- what is held knows what was made
  pub held : HoldsCount H h (leaves_made calls) (joins_made calls) z
  -- after the accepted turn the table holds the full tree's root and existing subtrees
  pub tree : HeldTree v.meaning v.supply H h z w.table

-- A draft that was begun: every history from it is lawful.
abbrev pub LawfulFrom : {N : Type 0} → ℕ → ℕ → World N → Result Draft Refusal → Type 0
LawfulFrom {N} H h v (Ok d) = (calls : List Call) (z : Held) (w : World N) → History (Drafting d) v calls z w → Lawful H h v calls z w
LawfulFrom H h v (Err r) = Unit

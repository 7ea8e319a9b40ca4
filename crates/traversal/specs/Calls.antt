-- What each call of a traversal answers and leaves.
use Rattle.std.specs.Prelude.{◌≡◌, ℕ, ◌+◌, ◌-◌, ◌^◌, ◌<◌, ◌≤◌, Bool, cond, ◌&&◌, ◌⊎◌, List, [], ◌∷◌, length, Some, None, Ok, Err, Option, Result, nat_le, nat_lt, slice_index_or}
use Rattle.growth.specs.Order.{join_due}
use Rattle.tree.specs.Numbers.{legal_height}
use Rattle.tree.specs.Geometry.{legal_subtree, table_size}
use Rattle.tree.specs.Refusals.{first_refusal}
use Rattle.tree.specs.Supply.{Supply, presence}
use Rattle.tree.specs.declared.fault.Cause.{Cause}
use Rattle.tree.specs.declared.refusal.Refusal.TheVariants.{Height, Subtree}
use Rattle.traversal.specs.declared.fault.DraftFault.{DraftFault}
use Rattle.traversal.specs.declared.refusal.Refusal.{Refusal}
use Rattle.traversal.specs.declared.refusal.Refusal.TheVariants.{Heights, Table, Source, Token}
use Rattle.traversal.specs.declared.state.Draft.{Draft}
use Rattle.traversal.specs.declared.state.Run.{Run}
use Rattle.traversal.specs.declared.outcome.Incomplete.{Incomplete}
use Rattle.traversal.specs.Refusals.{draft_lack}
use Rattle.traversal.specs.Shapes.{draft_plot}
use Rattle.traversal.specs.Worlds.{World}
use Rattle.traversal.specs.Units.{next_unit, Advanced}

-- the leaves and the joins that a draft has made, and together
abbrev pub made_so_far : Draft → ℕ × ℕ
made_so_far d = (d.hash.leaves, d.hash.joins)

abbrev pub units : Draft → ℕ
units d = d.hash.leaves + d.hash.joins

-- the whole tree has so many nodes
abbrev pub units_in_all : Draft → ℕ
units_in_all d = 2 ^ (d.shape.height + 1) - 1

-- What begin checks, in this order.
abbrev pub begin_checks : ℕ → ℕ → ℕ → ℕ → List (Bool × Refusal)
begin_checks H h cells size =
    (legal_height H, Heights (Height H)) ∷ (legal_subtree H h, Heights (Subtree h))
    ∷ (nat_le (table_size H h) cells, Table (table_size H h)) ∷ (nat_le (2 ^ H) size, Source size) ∷ []

-- A table of so many cells is long enough for a shape, or too short.
abbrev pub HasRoom : ℕ → ℕ → Result Unit Refusal → Type 0
HasRoom needed cells (Ok _) = needed ≤ cells
HasRoom needed cells (Err r) = (cells < needed) × (r ≡ Table needed)

-- A new draft has made nothing.
abbrev pub Begun : ℕ → ℕ → ℕ → Supply → Result Draft Refusal → Type 0
Begun H h cells s (Ok d) =
    (first_refusal (begin_checks H h cells s.size) ≡ None) × (d.shape.height ≡ H) × (d.shape.subtree ≡ h) × (made_so_far d ≡ (0, 0))
Begun H h cells s (Err r) = first_refusal (begin_checks H h cells s.size) ≡ Some r

-- A draft made so many leaves and joins more.
pub record Drafted {N : Type 0} (d : Draft) (v : World N) (leaves joins : ℕ) (e : Draft) (w : World N) : Type 0 where
  pub shape : e.shape ≡ d.shape
  pub advanced : Advanced (draft_plot d.shape.height d.shape.subtree) v d.hash leaves joins w e.hash

-- the refusal of a token that is not there
abbrev pub lacking : ℕ → Result Unit Cause → Option Refusal
lacking n (Ok _) = None
lacking n (Err why) = Some (Token (draft_lack (record { number = n; cause = why })))

-- what the next unit lacks: a leaf its token if that is missing, a join nothing
abbrev pub unit_lacks : Draft → Supply → Option Refusal
unit_lacks d s = cond (join_due d.hash.leaves d.hash.newest) None (lacking d.hash.leaves (presence s d.hash.leaves))

-- One unit is made, or it lacks its token and nothing has changed.
abbrev pub DraftUnit : {N : Type 0} → Draft → World N → Result Unit DraftFault → Draft → World N → Type 0
DraftUnit d v (Ok _) e w = (unit_lacks d v.supply ≡ None) × Drafted d v (next_unit d.hash).0 (next_unit d.hash).1 e w
DraftUnit d v (Err f) e w =
    (unit_lacks d v.supply ≡ Some (Token (draft_lack f.unit.missing))) × (e ≡ d) × (w ≡ v)

-- Units stop when the budget is spent, the draft is complete, or the next unit lacks its token.
abbrev pub Stops : ℕ → ℕ → Draft → Supply → Type 0
Stops budget made d s =
    (made ≤ budget)
    × ((made ≡ budget) ⊎ ((units d ≡ units_in_all d) ⊎ ((r : Refusal) × (unit_lacks d s ≡ Some r))))

-- Units were made as long as they could be.
pub record WentOn {N : Type 0} (d : Draft) (v : World N) (budget leaves joins : ℕ) (e : Draft) (w : World N) : Type 0 where
  pub drafted : Drafted d v leaves joins e w
  pub stops : Stops budget (leaves + joins) e v.supply

-- What a step checks, in this order: the table, and the first unit's token if a unit is to be made.
abbrev pub step_refusal : Draft → ℕ → Supply → ℕ → Option Refusal
step_refusal d cells s budget =
    cond (nat_lt cells (table_size d.shape.height d.shape.subtree)) (Some (Table (table_size d.shape.height d.shape.subtree)))
    (cond (nat_lt 0 budget && nat_lt (units d) (units_in_all d)) (unit_lacks d s) None)

-- A step makes units as long as it can and answers how many, or is refused and changes nothing.
abbrev pub Stepped : {N : Type 0} → Draft → World N → ℕ → Result (ℕ × ℕ) Refusal → Draft → World N → Type 0
Stepped d v budget (Ok made) e w =
    (step_refusal d (length v.table) v.supply budget ≡ None) × WentOn d v budget made.0 made.1 e w
Stepped d v budget (Err r) e w =
    (step_refusal d (length v.table) v.supply budget ≡ Some r) × (e ≡ d) × (w ≡ v)

-- A draft is turned exactly if it is complete, and is handed back otherwise. A run has no pulls yet.
abbrev pub Turned : Draft → Result Run Incomplete → Type 0
Turned d (Ok r) =
    (units d ≡ units_in_all d) × (r.shape ≡ d.shape)
    × (r.totals ≡ record { pulls = 0; drafted = made_so_far d; pulled = (0, 0) })
Turned d (Err b) = (units d < units_in_all d) × (b.draft ≡ d) × (b.early.missing ≡ units_in_all d - units d)

-- The root is in the first cell.
abbrev pub Rooted : {N : Type 0} → Run → List N → Result N Refusal → Type 0
Rooted run table (Ok x) = (table_size run.shape.height run.shape.subtree ≤ length table) × ((y : _) → x ≡ slice_index_or table 0 y)
Rooted run table (Err r) = (length table < table_size run.shape.height run.shape.subtree) × (r ≡ Table (table_size run.shape.height run.shape.subtree))

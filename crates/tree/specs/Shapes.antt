-- The shape of a traversal, for two heights.
use Rattle.std.specs.Prelude.{◌≡◌, ℕ, List, ◌++◌, Some, None, Ok, Err, Result, codes, decimal}
use Rattle.tree.specs.Geometry.{shape_checks}
use Rattle.tree.specs.Refusals.{first_refusal}
use Rattle.tree.specs.declared.geometry.Heights.{Heights}
use Rattle.tree.specs.declared.geometry.Shape.{Shape}
use Rattle.tree.specs.declared.refusal.Refusal.{Refusal}

-- It is that of these heights if they are legal, and its cells are then the table's. Otherwise the first check
-- that fails refuses them.
abbrev pub Shapes : ℕ → ℕ → Result Shape Refusal → Type 0
Shapes H h (Ok shape) = (first_refusal (shape_checks H h) ≡ None) × (shape.height ≡ H) × (shape.subtree ≡ h)
Shapes H h (Err r) = first_refusal (shape_checks H h) ≡ Some r

-- two heights in print
abbrev pub heights_text : Heights → List ℕ
heights_text hs = decimal hs.height ++ codes " " ++ decimal hs.subtree

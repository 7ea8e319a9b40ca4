-- A stack of nodes in the first cells of a slice.
use Rattle.std.specs.Prelude.{◌≡◌, ℕ, ◌+◌, ◌<◌, ◌≤◌, ◌⊎◌, List, length, Some, None, Ok, Err, Option, Result, slice_index_or, slice_set}

-- a node more, in the first cell that is free; it comes back if there is none
abbrev pub Pushed : {N : Type 0} → N → ℕ → List N → Result Unit N → ℕ → List N → Type 0
Pushed x len cells (Ok _) later now = (len < length cells) × (later ≡ len + 1) × (now ≡ slice_set cells len x)
Pushed x len cells (Err y) later now = (length cells ≤ len) × (y ≡ x) × (later ≡ len) × (now ≡ cells)

-- the top node less; no cell is changed
abbrev pub Popped : {N : Type 0} → ℕ → List N → Option N → ℕ → List N → Type 0
Popped len cells (Some x) later now = (len ≡ later + 1) × (len ≤ length cells) × (x ≡ slice_index_or cells later x) × (now ≡ cells)
Popped len cells None later now = ((len ≡ 0) ⊎ (length cells < len)) × (later ≡ len) × (now ≡ cells)

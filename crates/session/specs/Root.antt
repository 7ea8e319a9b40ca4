-- From heights to the root in one call.
use Rattle.std.specs.Prelude.{◌≡◌, ℕ, zero, suc, ◌-◌, ◌^◌, ◌<◌, ◌≤◌, List, length, Some, None, Ok, Err, Option, Result, slice_index_or}
use Rattle.tree.specs.Meaning.{after}
use Rattle.tree.specs.Refusals.{first_refusal}
use Rattle.tree.specs.Supply.{Supply, presence}
use Rattle.tree.specs.Tree.{root_of}
use Rattle.tree.specs.Geometry.{table_size}
use Rattle.traversal.specs.declared.refusal.Refusal.{Refusal}
use Rattle.traversal.specs.declared.state.Run.{Run}
use Rattle.traversal.specs.Worlds.{World, tokens}
use Rattle.traversal.specs.Calls.{begin_checks, lacking}
use Rattle.session.specs.Law.{HoldsTree}

abbrev pub or_else : {R : Type 0} → Option R → Option R → Option R
or_else (Some r) o = Some r
or_else None o = o

-- the first token that is missing among the first n
unfoldable pub first_lack : Supply → ℕ → Option Refusal
first_lack s zero = None
first_lack s (suc n) = or_else (first_lack s n) (lacking n (presence s n))

-- begin's checks come first, then the tokens of the tree in order
abbrev pub root_refusal : ℕ → ℕ → ℕ → Supply → Option Refusal
root_refusal H h cells s = or_else (first_refusal (begin_checks H h cells s.size)) (first_lack s (2 ^ H))

-- What stays in any case: the meanings, and the cells past the table's.
pub record Around {N : Type 0} (H h : ℕ) (v w : World N) : Type 0 where
  pub meaning : w.meaning ≡ v.meaning
  pub supply : w.supply ≡ v.supply
  pub long : length w.table ≡ length v.table
  pub past : (y : N) (k : ℕ) → table_size H h ≤ k → slice_index_or w.table k y ≡ slice_index_or v.table k y

-- The root of the full tree is answered, with its leaves and joins, which the meter counts, and the table holds it and
-- the existing subtrees; or the first refusal. One of begin's changes nothing.
abbrev pub DraftsRoot : {N : Type 0} → ℕ → ℕ → World N → Result (N × (ℕ × ℕ)) Refusal → World N → Type 0
DraftsRoot H h v (Ok drafted) w =
    (root_refusal H h (length v.table) v.supply ≡ None)
    × (drafted.0 ≡ root_of v.meaning (tokens v.supply) H) × (drafted.1 ≡ (2 ^ H, 2 ^ H - 1))
    × (w.meter ≡ after (2 ^ H) (2 ^ H - 1) v.meter) × HoldsTree v.meaning v.supply H h w.table × Around H h v w
DraftsRoot H h v (Err r) w =
    (root_refusal H h (length v.table) v.supply ≡ Some r)
    × (first_refusal (begin_checks H h (length v.table) v.supply.size) ≡ Some r → w ≡ v) × Around H h v w

-- The end of a run: the first cell, and what the draft made.
abbrev pub Finished : {N : Type 0} → Run → List N → Result (N × (ℕ × ℕ)) Refusal → Type 0
Finished {N} run table (Ok ended) = ((y : N) → ended.0 ≡ slice_index_or table 0 y) × (ended.1 ≡ run.totals.drafted)
Finished run table (Err r) = length table < table_size run.shape.height run.shape.subtree

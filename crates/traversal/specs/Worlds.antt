-- What the calls of a traversal work on: the table, what the maker means and its meter, and what the source supplies.
use Rattle.std.specs.Prelude.{◌≡◌, ℕ, List, [], Some, None, Option}
use Rattle.tree.specs.Meaning.{Meaning, Meter}
use Rattle.tree.specs.Supply.{Supply}
use Rattle.traversal.specs.declared.lent.Lent.{Lent}

pub record World (N : Type 0) : Type 0 where
  pub table : List N
  pub meaning : Meaning N
  pub meter : Meter
  pub supply : Supply

abbrev pub world : {N : Type 0} → List N → Meaning N → Meter → Supply → World N
world table meaning meter supply = record { table = table; meaning = meaning; meter = meter; supply = supply }

-- the world of what is lent
abbrev pub world_of : {N M S : Type 0} → (M → Meaning N) → (M → Meter) → (S → Supply) → Lent M S N → World N
world_of meaning meter supply lent =
    world lent.table.now (meaning lent.maker.now) (meter lent.maker.now) (supply lent.source.now)

-- The same table, maker and source are lent still. Each call with a `Lent` says so, or its caller would not know what
-- its own three became.
pub record SameLoans {N M S : Type 0} (before later : Lent M S N) : Type 0 where
  pub table : later.table.ghost_name ≡ before.table.ghost_name
  pub maker : later.maker.ghost_name ≡ before.maker.ghost_name
  pub source : later.source.ghost_name ≡ before.source.ghost_name

-- a token, or no bytes where there is none
abbrev pub or_nothing : Option (List ℕ) → List ℕ
or_nothing (Some secret) = secret
or_nothing None = []

-- the tokens of a supply
abbrev pub tokens : Supply → ℕ → List ℕ
tokens s n = or_nothing (s.token n)

-- the leaf of a number
abbrev pub leaf_at : {N : Type 0} → Meaning N → Supply → ℕ → N
leaf_at m s n = m.leaf n (tokens s n)

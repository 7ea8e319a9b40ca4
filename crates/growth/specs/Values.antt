-- What the cells hold while a tree grows: values by the tree rule, from what was found and from new leaves.
use Rattle.std.specs.Prelude.{◌≡◌, ℕ, zero, suc, ◌+◌, ◌*◌, ◌<◌, ◌≤◌, Bool, true, false, cond, ◌⊎◌, List, length, get_or, ◌≢◌, slice_index_or}
use Rattle.growth.specs.Order.{made}
use Rattle.growth.specs.Places.{Layout, carried, place}

-- a node by the tree rule, where some nodes were there and had the values found
abbrev pub grown : {N : Type 0} → (ℕ → N) → (N → N → N) → (ℕ → ℕ → Bool) → (ℕ → ℕ → N) → ℕ → ℕ → N
grown leaf join there found zero x = cond (there 0 x) (found 0 x) (leaf x)
grown leaf join there found (suc t) x =
    cond (there (suc t) x) (found (suc t) x)
    (join (grown leaf join there found t (2 * x)) (grown leaf join there found t (2 * x + 1)))

-- one progress is another one or comes after it
abbrev pub Later : ℕ → ℕ → ℕ → ℕ → Type 0
Later l p m q = (l < m) ⊎ ((l ≡ m) × (p ≤ q))

-- A table grew from the progress (l, p) to (m, q). No node is lost; what is carried then has the value of the tree
-- rule, from what was carried before; and a cell that is the place of no node made since is as it was.
pub record Grew {N : Type 0} (leaf : ℕ → N) (join : N → N → N) (lay : Layout) (l p m q : ℕ) (before now : List N) : Type 0 where
  pub later : Later l p m q
  pub long : length now ≡ length before
  pub carries : (d : N) (t x : ℕ) → carried lay m q t x ≡ true → slice_index_or now (place lay t x) d ≡ grown leaf join (carried lay l p) (λ u y. get_or before (place lay u y) d) t x
  pub leaves : (d : N) (k : ℕ) → ((t x : ℕ) → made m q t x ≡ true → made l p t x ≡ false → place lay t x ≢ k) → slice_index_or now k d ≡ slice_index_or before k d

-- Reading and writing in a part of a table.
use Rattle.std.proofs.Common.{◌≡◌, ℕ, ◌+◌, ◌<◌, ◌≤◌, List, length, take, drop, set, ap, ◌∙◌, arith, length-drop, length-take}
use borrow.Rule.Slice.PartMut.{put_mid, set_mid_at}

module _ {N : Type 0} (table : List N) where
  -- a part from a on has the cells that are there
  pub length_part : (a k : ℕ) → a + k ≤ length table → length (take k (drop a table)) ≡ k
  length_part a k fits = simp (length-take, length-drop) (omega arith)

  pub write_part : (a k j : ℕ) (v : N) (part : List N) → a + k ≤ length table → j < k → part ≡ set (take k (drop a table)) j v → put_mid a k table part ≡ set table (a + j) v
  write_part a k j v part fits less e = ap (put_mid a k table) e ∙ set_mid_at a k j table v (omega (arith, length_part a k fits))

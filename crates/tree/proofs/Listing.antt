-- The entries of a list.
use Rattle.std.proofs.Common.{◌≡◌, ℕ, ◌+◌, ◌-◌, ◌*◌, ◌<◌, ◌≤◌, List, length, get_or, take, drop, sym, ap, ap₂, ◌∙◌, arith, lit<, lit≤, add-zero, ◌/◌, ◌^◌, eqb, ltb, Some, None, length-take, length-drop}
use Rattle.std.specs.Prelude.{min, Err}
use Rattle.std.proofs.lemmas.Bool.{cond-true, cond-false, eq-eqb, ne_eqb, lt-ltb}
use Rattle.tree.specs.Supply.{presence, torn_unless}
use Rattle.tree.specs.Entries.{list_supply}
use Rattle.tree.specs.declared.fault.Cause.TheVariants.{Torn, Beyond}
use Rattle.std.proofs.lemmas.List.{drop-drop, drop-take, get_or-take, get_or-drop, take-take}
-- passed on to text, which does not use hashing
pub use Rattle.hashing.proofs.Chunks.{chunk_at}

-- entry n of a list, as a chunk: its mark and its token
module _ (bs entry : List ℕ) (n : ℕ) (inside : 33 * n + 33 ≤ length bs) (is : entry ≡ take 33 (drop (33 * n) bs)) where
  pub entry_length : length entry ≡ 33
  entry_length = simp (is, length-take, length-drop) (omega arith)

  entry_mark : get_or entry 0 0 ≡ get_or bs (33 * n) 0
  entry_mark = ap (λ l. get_or l 0 0) is ∙ get_or-take 33 (drop (33 * n) bs) 0 0 (lit< tt) ∙ get_or-drop (33 * n) bs 0 0 ∙ ap (λ k. get_or bs k 0) (add-zero (33 * n))

  entry_token : take (length entry - 1) (drop 1 entry) ≡ take 32 (drop (33 * n + 1) bs)
  entry_token =
      let tail : List ℕ = drop 1 (drop (33 * n) bs) in
      ap₂ (λ k l. take (k - 1) (drop 1 l)) entry_length is
      ∙ ap (take 32) (drop-take 1 32 (drop (33 * n) bs))
      ∙ take-take 32 32 tail (lit≤ tt)
      ∙ ap (take 32) (drop-drop 1 (33 * n) bs)

  module _ (below : n < min (length bs / 33) (2 ^ 20)) where
    pub entry_there : get_or entry 0 0 ≡ 1 → (n < min (length bs / 33) (2 ^ 20)) × ((list_supply bs).token n ≡ Some (take (length entry - 1) (drop 1 entry))) × (length (take (length entry - 1) (drop 1 entry)) ≡ 32)
    entry_there marked =
        let token = cond-true (eqb (get_or bs (33 * n) 0) 1) (Some (take 32 (drop (33 * n + 1) bs))) None (eq-eqb _ 1 (sym entry_mark ∙ marked)) in
        (below, token ∙ ap Some (sym entry_token), simp (entry_token, length-take, length-drop) (omega arith))

    pub entry_torn : (get_or entry 0 0 ≡ 1 → ⊥) → presence (list_supply bs) n ≡ Err Torn
    entry_torn unmarked =
        let none = cond-false (eqb (get_or bs (33 * n) 0) 1) (Some (take 32 (drop (33 * n + 1) bs))) None (ne_eqb _ 1 (λ e. unmarked (entry_mark ∙ e))) in
        cond-true (ltb n (min (length bs / 33) (2 ^ 20))) _ (Err Beyond) (lt-ltb _ _ below) ∙ ap torn_unless none

-- Both sources give whole tokens, at most 2^20 of them.
use Rattle.std.proofs.Common.{◌≡◌, ℕ, ◌+◌, ◌*◌, ◌≤◌, eqb, List, ◌++◌, length, get_or, take, drop, Some, None, sym, ap, ◌∙◌, ⊎_elim, arith, lit≤, length-drop, length-take}
use Rattle.std.proofs.lemmas.Bool.{cases_Bool, cond-true, cond-false}
use Rattle.hashing.specs.Sha256.{sha256}
use Rattle.hashing.proofs.Lengths.{length_sha256}
use Rattle.tree.specs.Numbers.{number_bytes}
use Rattle.tree.specs.Supply.{Supplies}
use Rattle.tree.specs.Seeds.{seed_supply}
use Rattle.tree.specs.Entries.{list_supply}

pub seed_supplies : (seed : List ℕ) → Supplies (seed_supply seed)
seed_supplies seed = record {
  at_most = lit≤ tt;
  whole = λ n secret below is.
      let same : sha256 (seed ++ number_bytes n) ≡ secret = cc in
      ap length (sym same) ∙ length_sha256 (seed ++ number_bytes n);
}

pub list_supplies : (bytes : List ℕ) → Supplies (list_supply bytes)
list_supplies bytes = record {
  at_most = omega arith;
  whole = λ n secret below is.
      let entry : List ℕ = take 32 (drop (33 * n + 1) bytes) in
      let inside : 33 * n + 33 ≤ length bytes = omega arith in
      ⊎_elim (λ here.
      let found = sym (cond-true (eqb (get_or bytes (33 * n) 0) 1) (Some entry) None here) ∙ is in
      let same : entry ≡ secret = cc in
      ap length (sym same) ∙ simp (length-take, length-drop) (omega arith))
      (λ torn.
      let none = sym (cond-false (eqb (get_or bytes (33 * n) 0) 1) (Some entry) None torn) ∙ is in
      let z : ◌≡◌ {A = ℕ} 0 1 = cc in
      absurd (omega arith))
      (cases_Bool (eqb (get_or bytes (33 * n) 0) 1));
}

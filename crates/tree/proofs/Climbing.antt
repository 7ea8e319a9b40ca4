-- Folding the path of a number of the full tree gives the root.
use Rattle.std.proofs.Common.{◌≡◌, ℕ, zero, suc, ◌+◌, ◌-◌, ◌*◌, ◌/◌, ◌%◌, ◌^◌, Bool, true, false, cond, eqb, List, length, sym, refl, ap, ◌∙◌, ap₂, add-zero, zero-add, div-one, add-one, arith, shr-shr}
use native.Mathlib.Nat.{div-eq_of_lt}
use Rattle.std.proofs.lemmas.Bool.{eqb-true, eqb-false}
use Rattle.tree.specs.Meaning.{Meaning}
use Rattle.tree.specs.Tree.{node_at, siblings}
use Rattle.tree.specs.Path.{leads_to, PathLeadsToRoot}

-- half of a shift is the next shift
pub shift_half : (n h : ℕ) → n / 2 ^ h / 2 ≡ n / 2 ^ suc h
shift_half n h = shr-shr n h 1 ∙ ap (λ k. n / 2 ^ k) (add-one h)

module _ {N : Type 0} (m : Meaning N) (tokens : ℕ → List ℕ) where
  -- a node and its sibling make the node above
  pair_up : (t a : ℕ) (even : Bool) → eqb (a % 2) 0 ≡ even →
      cond even (m.join (node_at m tokens t a) (node_at m tokens t (cond even (a + 1) (a - 1)))) (m.join (node_at m tokens t (cond even (a + 1) (a - 1))) (node_at m tokens t a)) ≡ node_at m tokens (suc t) (a / 2)
  pair_up t a true e =
      let z = eqb-true (a % 2) 0 e in
      let left : a ≡ 2 * (a / 2) = omega arith in
      let right : a + 1 ≡ 2 * (a / 2) + 1 = omega arith in
      ap₂ m.join (ap (node_at m tokens t) left) (ap (node_at m tokens t) right)
  pair_up t a false e =
      let z = eqb-false (a % 2) 0 e in
      let left : a - 1 ≡ 2 * (a / 2) = omega arith in
      let right : a ≡ 2 * (a / 2) + 1 = omega arith in
      ap₂ m.join (ap (node_at m tokens t) left) (ap (node_at m tokens t) right)

  pub length_siblings : (n t k : ℕ) → length (siblings m tokens n t k) ≡ k
  length_siblings n t zero = refl
  length_siblings n t (suc k) = ap suc (length_siblings n (suc t) k)

  pub climbs : (k t n : ℕ) → leads_to m.join (n / 2 ^ t) (node_at m tokens t (n / 2 ^ t)) (siblings m tokens n t k) ≡ node_at m tokens (t + k) (n / 2 ^ (t + k))
  climbs zero t n = ap (λ j. node_at m tokens j (n / 2 ^ j)) (sym (add-zero t))
  climbs (suc k) t n =
      let a : ℕ = n / 2 ^ t in
      let up = pair_up t a (eqb (a % 2) 0) refl ∙ ap (node_at m tokens (suc t)) (shift_half n t) in
      let on : t + suc k ≡ suc t + k = omega arith in
      ap₂ (λ i x. leads_to m.join i x (siblings m tokens n (suc t) k)) (shift_half n t) up
      ∙ climbs k (suc t) n
      ∙ ap (λ j. node_at m tokens j (n / 2 ^ j)) (sym on)

pub path_leads_to_root : {N : Type 0} (m : Meaning N) → PathLeadsToRoot m
path_leads_to_root m tokens H n lt =
    ap₂ (λ i x. leads_to m.join i x (siblings m tokens n 0 H)) (sym (div-one n)) (ap (λ i. m.leaf i (tokens i)) (sym (div-one n)))
    ∙ climbs m tokens H 0 n
    ∙ ap (λ k. node_at m tokens k (n / 2 ^ k)) (zero-add H)
    ∙ ap (node_at m tokens H) (div-eq_of_lt lt)

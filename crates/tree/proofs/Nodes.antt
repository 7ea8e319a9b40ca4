-- Nodes as bytes and back.
use Rattle.std.proofs.Common.{◌≡◌, ℕ, suc, ◌+◌, ◌*◌, ◌/◌, eqb, ltb, List, [], ◌∷◌, ◌++◌, length, drop, Some, None, Option, sym, refl, ap, ◌∙◌, ap₂, mul_comm, add-mul, one-mul, zero-mul, add-one, arith, length-append}
use Rattle.std.proofs.lemmas.List.{append_assoc, append-nil, take_at, drop_at}
use Rattle.std.proofs.lemmas.Bool.{cond-true, cond-false, eq-eqb, le-ltb}
use Rattle.std.proofs.lemmas.Nat.{div-mul-add}
use Rattle.tree.specs.Meaning.{Meaning, Lawful}
use Rattle.tree.specs.Tree.{path_of}
use Rattle.tree.specs.Path.{leads_to, path_bytes, and_then, front_node, nodes_of, path_nodes, folded, FoldsToRoot}
use Rattle.tree.proofs.Climbing.{path_leads_to_root}

module _ {N : Type 0} (m : Meaning N) (ok : Lawful m) where
  pub length_path_bytes : (xs : List N) → length (path_bytes m xs) ≡ length xs * m.width
  length_path_bytes [] = sym (zero-mul m.width)
  length_path_bytes (x ∷ xs) =
      let here = ok.fills x in
      let rest = length_path_bytes xs in
      let all = length-append (m.put x) (path_bytes m xs) in
      let one : suc (length xs) * m.width ≡ length xs * m.width + m.width = simp (← add-one) (simp (add-mul, one-mul)) in
      omega arith

  -- a node that was put is the node at the front
  pub front_node_put : (x : N) (rest : List ℕ) → front_node m (m.put x ++ rest) ≡ Some x
  front_node_put x rest =
      let width = ok.fills x in
      let size = length-append (m.put x) rest in
      cond-false (ltb (length (m.put x ++ rest)) m.width) None _ (le-ltb _ _ (omega arith))
      ∙ ap m.read (take_at (m.put x) rest m.width width) ∙ ok.reads_back x

  -- bytes of nodes read as those nodes, whatever follows
  pub nodes_of_path_bytes : (xs : List N) (rest : List ℕ) → nodes_of m (length xs) (path_bytes m xs ++ rest) ≡ xs
  nodes_of_path_bytes [] rest = refl
  nodes_of_path_bytes (x ∷ xs) rest =
      let split = append_assoc (m.put x) (path_bytes m xs) rest in
      let front = ap (front_node m) split ∙ front_node_put x (path_bytes m xs ++ rest) in
      let back = ap (drop m.width) split ∙ drop_at (m.put x) (path_bytes m xs ++ rest) m.width (ok.fills x) in
      ap₂ and_then front (ap (nodes_of m (length xs)) back ∙ nodes_of_path_bytes xs rest)

  pub path_nodes_of_bytes : (xs : List N) → path_nodes m (path_bytes m xs) ≡ xs
  path_nodes_of_bytes xs =
      let count : length (path_bytes m xs) / m.width ≡ length xs =
      ap (λ n. n / m.width) (length_path_bytes xs ∙ sym (native.Mathlib.Nat.add-zero (length xs * m.width))) ∙ div-mul-add (length xs) m.width 0 ok.at_least in
      ap (λ k. nodes_of m k (path_bytes m xs)) count
      ∙ ap (nodes_of m (length xs)) (sym (append-nil (path_bytes m xs)))
      ∙ nodes_of_path_bytes xs []

  pub folded_path_bytes : (number : ℕ) (start : N) (xs : List N) → folded m number start (path_bytes m xs) ≡ Some (leads_to m.join number start xs)
  folded_path_bytes number start xs =
      let nodes = path_nodes_of_bytes xs in
      let size : m.width * length (path_nodes m (path_bytes m xs)) ≡ length (path_bytes m xs) =
      ap (λ ys. m.width * length ys) nodes ∙ mul_comm m.width (length xs) ∙ sym (length_path_bytes xs) in
      cond-true (eqb (m.width * length (path_nodes m (path_bytes m xs))) (length (path_bytes m xs))) _ _ (eq-eqb _ _ size)
      ∙ ap (λ ys. Some (leads_to m.join number start ys)) nodes

  pub folds_to_root : (number : ℕ) (start : N) (bytes : List ℕ) → FoldsToRoot m number start bytes (folded m number start bytes)
  folds_to_root number start bytes tokens H lt is_leaf is_path =
      ap₂ (folded m number) is_leaf is_path
      ∙ folded_path_bytes number (m.leaf number (tokens number)) (path_of m tokens H number)
      ∙ ap Some (path_leads_to_root m tokens H number lt)

  -- what answers where the bytes lead
  pub answers_root : (number : ℕ) (start : N) (bytes : List ℕ) (r : Option N) → r ≡ folded m number start bytes → FoldsToRoot m number start bytes r
  answers_root number start bytes r is tokens H lt is_leaf is_path = is ∙ folds_to_root number start bytes tokens H lt is_leaf is_path

-- The fold over path bytes, node by node.
use Rattle.std.proofs.Common.{◌≡◌, ℕ, suc, ◌+◌, ◌-◌, ◌*◌, ◌/◌, ◌%◌, ◌<◌, ◌≤◌, eqb, ltb, List, [], ◌∷◌, ◌++◌, length, drop, Some, None, Option, sym, refl, ap, ap₂, ◌∙◌, ⊎_elim, mul_comm, add-mul, one-mul, zero-add, arith, length-append, mod-eq_of_lt}
use Rattle.std.specs.Bool.{then_some}
use Rattle.std.proofs.Math.Nat.{add-div_right, div-eq_of_lt, mul-add-mod_self_right}
use Rattle.std.proofs.lemmas.List.{take_at, take_all, drop_at}
use Rattle.std.proofs.lemmas.Bool.{cond-true, cond-false, eq-eqb, ne_eqb, eqb-true, eqb-false, le-ltb, cases_Bool}
use Rattle.tree.specs.Meaning.{Meaning}
use Rattle.tree.specs.Path.{parent, leads_to, and_then, front_node, nodes_of, path_nodes, folded}

module _ {N : Type 0} (m : Meaning N) where
  -- bytes whose first node is known
  pub nodes_more : (k i : ℕ) (bytes : List ℕ) (y : N) → i < k → Some y ≡ front_node m bytes → nodes_of m (k - i) bytes ≡ y ∷ nodes_of m (k - (i + 1)) (drop m.width bytes)
  nodes_more k i bytes y lt e =
      let one : k - i ≡ suc (k - (i + 1)) = omega arith in
      ap (λ j. nodes_of m j bytes) one ∙ ap (λ (o : Option N). and_then o (nodes_of m (k - (i + 1)) (drop m.width bytes))) (sym e)

  pub nodes_stop : (k i : ℕ) (bytes : List ℕ) → i < k → None ≡ front_node m bytes → nodes_of m (k - i) bytes ≡ []
  nodes_stop k i bytes lt e =
      let one : k - i ≡ suc (k - (i + 1)) = omega arith in
      ap (λ j. nodes_of m j bytes) one ∙ ap (λ (o : Option N). and_then o (nodes_of m (k - (i + 1)) (drop m.width bytes))) (sym e)

  module _ (some : 1 ≤ m.width) (bytes rest : List ℕ) (whole : length bytes ≡ m.width) where
    -- the first node of bytes that go on is that of their front
    front_of : front_node m (bytes ++ rest) ≡ front_node m bytes
    front_of =
        let all = length-append bytes rest in
        cond-false (ltb (length (bytes ++ rest)) m.width) None _ (le-ltb _ _ (omega arith))
        ∙ ap m.read (take_at bytes rest m.width whole ∙ sym (take_all m.width bytes (omega arith)))
        ∙ sym (cond-false (ltb (length bytes) m.width) None _ (le-ltb _ _ (omega arith)))

    path_of_more : path_nodes m (bytes ++ rest) ≡ and_then (front_node m bytes) (path_nodes m rest)
    path_of_more =
        let all : length (bytes ++ rest) ≡ length rest + m.width = length-append bytes rest ∙ omega arith in
        let count : length (bytes ++ rest) / m.width ≡ suc (length rest / m.width) = ap (λ n. n / m.width) all ∙ add-div_right (length rest) some ∙ omega arith in
        ap (λ k. nodes_of m k (bytes ++ rest)) count
        ∙ ap₂ and_then front_of (ap (nodes_of m (length rest / m.width)) (drop_at bytes rest m.width whole))

  -- After i of the path's nodes: what is left leads where the whole path does.
  pub record Climbed (number : ℕ) (leaf : N) (path : List ℕ) (i index : ℕ) (x : N) (rest : List ℕ) : Type 0 where
    pub leads : leads_to m.join index x (path_nodes m rest) ≡ leads_to m.join number leaf (path_nodes m path)
    pub counts : i + length (path_nodes m rest) ≡ length (path_nodes m path)
    pub left : i * m.width + length rest ≡ length path

  pub climbed_none : (number : ℕ) (leaf : N) (path : List ℕ) → Climbed number leaf path 0 number leaf path
  climbed_none number leaf path = record { leads = refl; counts = zero-add _; left = omega arith }

  module _ (some : 1 ≤ m.width) {number : ℕ} {leaf : N} {path : List ℕ} {i index : ℕ} {x : N} where
    pub climbed_more : (bytes rest : List ℕ) → Climbed number leaf path i index x (bytes ++ rest) → length bytes ≡ m.width → (y : N) → Some y ≡ front_node m bytes → Climbed number leaf path (i + 1) (index / 2) (parent m.join index x y) rest
    climbed_more bytes rest so_far whole y e =
        let next : path_nodes m (bytes ++ rest) ≡ y ∷ path_nodes m rest = path_of_more some bytes rest whole ∙ ap (λ (o : Option N). and_then o (path_nodes m rest)) (sym e) in
        let one : (i + 1) * m.width ≡ i * m.width + m.width = simp (add-mul, one-mul) in
        record {
          leads = sym (ap (leads_to m.join index x) next) ∙ so_far.leads;
          counts = omega (arith, ap length next, so_far.counts);
          left = omega (arith, length-append bytes rest, so_far.left);
        }

    pub folded_stop : (bytes rest : List ℕ) → Climbed number leaf path i index x (bytes ++ rest) → length bytes ≡ m.width → None ≡ front_node m bytes → (length (path_nodes m path) ≡ i) × (folded m number leaf path ≡ None)
    folded_stop bytes rest so_far whole e =
        let stop : path_nodes m (bytes ++ rest) ≡ [] = path_of_more some bytes rest whole ∙ ap (λ (o : Option N). and_then o (path_nodes m rest)) (sym e) in
        let all : length (path_nodes m path) ≡ i = omega (arith, ap length stop, so_far.counts) in
        let size : m.width * length (path_nodes m path) ≡ i * m.width = ap (λ n. m.width * n) all ∙ mul_comm m.width i in
        (all, cond-false (eqb (m.width * length (path_nodes m path)) (length path)) _ _ (ne_eqb _ _ (λ same. omega (arith, length-append bytes rest, so_far.left))))

    -- bytes that are left over and too few for a node
    module _ (rest : List ℕ) (so_far : Climbed number leaf path i index x rest) (short : length rest < m.width) where
      none_left : path_nodes m rest ≡ []
      none_left = ap (λ k. nodes_of m k rest) (div-eq_of_lt short)

      pub folded_all : length (path_nodes m path) ≡ i
      folded_all = omega (arith, ap length none_left, so_far.counts)

      pub folded_end : (over : ℕ) → over ≡ length path % m.width → then_some (eqb over 0) x ≡ folded m number leaf path
      folded_end over is =
          let over_is : over ≡ length rest = is ∙ ap (λ n. n % m.width) (sym so_far.left) ∙ mul-add-mod_self_right i m.width (length rest) ∙ mod-eq_of_lt short in
          let size : m.width * length (path_nodes m path) ≡ i * m.width = ap (λ n. m.width * n) folded_all ∙ mul_comm m.width i in
          ⊎_elim (λ done.
          let none = eqb-true over 0 done in
          ap (λ b. then_some b x) done ∙ ap Some (sym (ap (leads_to m.join index x) none_left) ∙ so_far.leads)
          ∙ sym (cond-true (eqb (m.width * length (path_nodes m path)) (length path)) _ _ (eq-eqb _ _ (omega (arith, so_far.left)))))
          (λ torn.
          let some_over = eqb-false over 0 torn in
          ap (λ b. then_some b x) torn
          ∙ sym (cond-false (eqb (m.width * length (path_nodes m path)) (length path)) _ _ (ne_eqb _ _ (λ same. some_over (omega (arith, so_far.left))))))
          (cases_Bool (eqb over 0))

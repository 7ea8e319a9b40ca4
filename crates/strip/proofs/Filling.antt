-- Cells filled with the nodes of a path, one after another.
use Rattle.std.proofs.Common.{◌≡◌, ℕ, ◌+◌, ◌-◌, ◌*◌, ◌/◌, ◌<◌, ◌≤◌, List, [], ◌∷◌, ◌++◌, length, take, drop, set, true, is_some, Some, None, Option, refl, sym, ap, ◌∙◌, subst, ⊎_elim, add-mul, one-mul, arith, length-append}
use Rattle.std.proofs.lemmas.List.{append_assoc, append-nil, drop-drop, drop-set-lt, take-append-drop, take_more_set}
use Rattle.std.proofs.lemmas.Bool.{cases_lt}
use Rattle.tree.specs.Meaning.{Meaning}
use Rattle.tree.specs.Path.{front_node, nodes_of}
use Rattle.tree.proofs.Folding.{nodes_more, nodes_stop}
use Rattle.strip.proofs.Chunks.{chunk_fits, chunk_behind, chunk_front, short_front, chunks_upto, chunks_within}

module _ {N : Type 0} (m : Meaning N) (path : List ℕ) (H : ℕ) (before : List N) where
  -- After i cells: what is filled and what is left of the bytes are the path's nodes.
  pub record Filled (i : ℕ) (rest : List ℕ) (cells : List N) : Type 0 where
    pub nodes : take i cells ++ nodes_of m (H - i) rest ≡ nodes_of m H path
    pub left : length (nodes_of m (H - i) rest) ≡ H - i
    pub kept : drop i cells ≡ drop i before

  module _ {i : ℕ} {rest : List ℕ} {cells : List N} (so_far : Filled i rest cells) where
    pub not_none : i < H → None ≡ front_node m rest → ⊥
    not_none lt e = let stop = ap length (nodes_stop m H i rest lt e) in let left = so_far.left in omega arith

    pub filled_more : i < H → i < length cells → (x : N) → Some x ≡ front_node m rest → Filled (i + 1) (drop m.width rest) (set cells i x)
    filled_more lt room x e =
        let next = nodes_more m H i rest x lt e in
        let left = so_far.left in
        record {
          nodes = ap (λ l. l ++ nodes_of m (H - (i + 1)) (drop m.width rest)) (take_more_set cells i x room)
              ∙ append_assoc (take i cells) (x ∷ []) (nodes_of m (H - (i + 1)) (drop m.width rest))
              ∙ ap (λ l. take i cells ++ l) (sym next)
              ∙ so_far.nodes;
          left = omega (arith, ap length next);
          kept = drop-set-lt (i + 1) cells i x (omega arith) ∙ sym (drop-drop 1 i cells) ∙ ap (drop 1) so_far.kept ∙ drop-drop 1 i before;
        }

    pub filled_all : i ≡ H → cells ≡ nodes_of m H path ++ drop H before
    filled_all done =
        let none : H - i ≡ 0 = omega arith in
        let whole = sym (append-nil (take i cells)) ∙ ap (λ k. take i cells ++ nodes_of m k rest) (sym none) ∙ so_far.nodes in
        sym (take-append-drop i cells)
        ∙ ap (λ l. l ++ drop i cells) whole
        ∙ ap (λ l. nodes_of m H path ++ l) (so_far.kept ∙ ap (λ k. drop k before) done)

-- what is not None is there
found : {N : Type 0} (o : Option N) → (None ≡ o → ⊥) → is_some o ≡ true
found None none = absurd (none refl)
found (Some x) none = refl

-- the same, chunk by chunk
module _ {N : Type 0} (m : Meaning N) (least : 1 ≤ m.width) (path : List ℕ) (before : List N) {i : ℕ} {rest : List ℕ} {cells : List N} (so_far : Filled m path (length path / m.width) before i rest cells) (all : i * m.width + length rest ≡ length path) where
  module _ (node later : List ℕ) (split : rest ≡ node ++ later) (fills : length node ≡ m.width) where
    pub chunk_within : i < length path / m.width
    chunk_within = chunks_within m path rest i least all (chunk_fits m rest node later split fills)

    pub chunk_all : (i + 1) * m.width + length later ≡ length path
    chunk_all =
        let one : (i + 1) * m.width ≡ i * m.width + m.width = simp (add-mul, one-mul) in
        let long = ap length split ∙ length-append node later in
        omega arith

    pub chunk_found : is_some (front_node m node) ≡ true
    chunk_found = found (front_node m node) (λ e. not_none m path _ before so_far chunk_within (e ∙ chunk_front m rest node later split fills))

    pub chunk_filled : i < length cells → (x : N) → Some x ≡ front_node m node → Filled m path (length path / m.width) before (i + 1) later (set cells i x)
    chunk_filled room x e =
        subst (λ l. Filled m path (length path / m.width) before (i + 1) l (set cells i x)) (chunk_behind m rest node later split fills)
        (filled_more m path _ before so_far chunk_within room x (e ∙ chunk_front m rest node later split fills))

  pub chunks_filled : length rest < m.width → cells ≡ nodes_of m (length path / m.width) path ++ drop (length path / m.width) before
  chunks_filled short =
      let upto = chunks_upto m path rest i least all in
      ⊎_elim (λ lt. absurd (not_none m path _ before so_far lt (short_front m rest short)))
      (λ ge. filled_all m path _ before so_far (omega arith))
      (cases_lt i (length path / m.width))

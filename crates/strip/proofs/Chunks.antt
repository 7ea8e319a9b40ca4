-- A node that comes as the next chunk of some bytes.
use Rattle.std.proofs.Common.{◌≡◌, ℕ, ◌+◌, ◌*◌, ◌/◌, ◌<◌, ◌≤◌, ltb, List, ◌++◌, length, take, drop, None, sym, ap, ◌∙◌, add-mul, one-mul, arith, length-append}
use Rattle.std.proofs.Math.Nat.{le-div_iff_mul-le}
use Rattle.std.proofs.lemmas.Bool.{cond-true, cond-false, le-ltb, lt-ltb}
use Rattle.std.proofs.lemmas.List.{take_at, take_all, drop_at}
use Rattle.tree.specs.Meaning.{Meaning}
use Rattle.tree.specs.Path.{front_node}

module _ {N : Type 0} (m : Meaning N) where
  module _ (bytes node later : List ℕ) (split : bytes ≡ node ++ later) (size : length node ≡ m.width) where
    pub chunk_fits : m.width ≤ length bytes
    chunk_fits = let long = ap length split ∙ length-append node later in omega arith

    pub chunk_behind : drop m.width bytes ≡ later
    chunk_behind = ap (drop m.width) split ∙ drop_at node later m.width size

    chunk_reads : front_node m node ≡ m.read (take m.width bytes)
    chunk_reads =
        cond-false (ltb (length node) m.width) None (m.read (take m.width node)) (le-ltb _ _ (omega arith))
        ∙ ap m.read (take_all m.width node (omega arith) ∙ sym (ap (take m.width) split ∙ take_at node later m.width size))

    pub chunk_front : front_node m node ≡ front_node m bytes
    chunk_front = chunk_reads ∙ sym (cond-false (ltb (length bytes) m.width) None (m.read (take m.width bytes)) (le-ltb _ _ chunk_fits))

  -- bytes that are too short for a chunk have no node in front
  pub short_front : (bytes : List ℕ) → length bytes < m.width → None ≡ front_node m bytes
  short_front bytes short = sym (cond-true (ltb (length bytes) m.width) None (m.read (take m.width bytes)) (lt-ltb _ _ short))

  -- how many chunks have come, of all that there are
  module _ (path rest : List ℕ) (i : ℕ) (least : 1 ≤ m.width) (all : i * m.width + length rest ≡ length path) where
    pub chunks_upto : i ≤ length path / m.width
    chunks_upto = (le-div_iff_mul-le {k = m.width} {x = i} {y = length path} least).1 (omega arith)

    pub chunks_within : m.width ≤ length rest → i < length path / m.width
    chunks_within fits =
        let row : (i + 1) * m.width ≡ i * m.width + m.width = simp (add-mul, one-mul) in
        let more : i + 1 ≤ length path / m.width = (le-div_iff_mul-le {k = m.width} {x = i + 1} {y = length path} least).1 (omega arith) in
        omega arith

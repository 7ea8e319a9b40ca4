-- The layout of a draft fits a table of the right size.
use Rattle.std.proofs.Common.{◌≡◌, ℕ, zero, suc, ◌+◌, ◌-◌, ◌*◌, ◌%◌, ◌^◌, ◌≤◌, true, leb, sym, ap, ◌∙◌, ⊎_elim, add-mul, pow-suc, div-add-mod', mul-add, arith, lit<}
use Rattle.std.proofs.lemmas.Nat.{mul-le, shl_whole}
use Rattle.std.proofs.lemmas.Bool.{and_parts, leb-true, cases_lt}
use Rattle.growth.proofs.Ends.{twice_pow}
use Rattle.growth.proofs.Counting.{joined_most}
use Rattle.tree.specs.Numbers.{legal_height}
use Rattle.tree.specs.Geometry.{Shaped, levels, subtree_cells, existing_start, following_start}
use Rattle.tree.proofs.Rows.{in_a_row, subtree_facts, some_level}
use Rattle.growth.specs.Places.{Room}
use Rattle.traversal.specs.declared.treehash.Treehash.{Treehash}
use Rattle.traversal.specs.Plots.{layout, depth, Legal}
use Rattle.traversal.specs.Shapes.{draft_plot}
use Rattle.traversal.specs.Units.{Standing}

pub height_facts : (H : ℕ) → legal_height H ≡ true → (1 ≤ H) × (H ≤ 20)
height_facts H e = let both = and_parts (leb 1 H) (leb H 20) e in (leb-true 1 H both.0, leb-true H 20 both.1)

module _ (H h n : ℕ) (shaped : Shaped H h n) where
  pub whole_levels : levels H h * h ≡ H
  whole_levels = omega (arith, div-add-mod' H h, (subtree_facts H h shaped.1).2)

  some_levels : 1 ≤ levels H h
  some_levels = some_level H h (height_facts H shaped.0).0 shaped.1

  -- the sections of the existing subtrees, as the code adds them up
  pub rows_start : existing_start h 1 ≡ 1
  rows_start = (in_a_row H h some_levels).first

  pub tail_starts : following_start H h 1 ≡ 1 + levels H h * subtree_cells h
  tail_starts = let same : levels H h + (1 - 1) ≡ levels H h = omega arith in ap (λ k. 1 + k * subtree_cells h) same

  pub draft_legal : Legal (draft_plot H h)
  draft_legal =
      let (least, greatest, divides) = subtree_facts H h shaped.1 in
      let (some, high) = height_facts H shaped.0 in
      let most = mul-le 1 h (levels H h) h some_levels (omega arith) in
      record {
        least = least;
        greatest = greatest;
        high = high;
        low = omega (arith, whole_levels);
        whole = divides;
        root = omega (arith, rows_start);
        sections = omega (arith, rows_start, tail_starts);
      }

  -- a subtree has more nodes than heights
  wide : (k : ℕ) → k + 1 ≤ 2 ^ k
  wide zero = omega arith
  wide (suc k) = omega (arith, wide k, pow-suc 2 k)

  pub draft_room : (len : ℕ) → n ≤ len → Room (layout (draft_plot H h)) (depth (draft_plot H h)) len
  draft_room len enough =
      let L = levels H h in
      let S = subtree_cells h in
      let more : (2 * L - 1) * S ≡ L * S + (L - 1) * S = (let same : 2 * L - 1 ≡ L + (L - 1) = omega (arith, some_levels) in ap (λ k. k * S) same ∙ add-mul L (L - 1) S) in
      let total : 1 + (2 * L - 1) * S ≤ n = omega (arith, shaped.2) in (
        omega (arith, tail_starts),
        λ deep.
            let least = (subtree_facts H h shaped.1).0 in
            let width : h + 1 ≤ S = omega (arith, twice_pow h, wide h) in
            let two : 1 ≤ L - 1 = ⊎_elim
            (λ k. absurd (let one : L ≡ 1 = omega (arith, some_levels) in let z = ap (λ k. k * h) one in omega (arith, whole_levels)))
            (λ k. omega arith) (cases_lt L 2) in
            let rest : (L - 1) * h + h ≡ H = (let back : L - 1 + 1 ≡ L = omega arith in omega (arith, add-mul (L - 1) 1 h, ap (λ k. k * h) back, whole_levels)) in
            omega (arith, tail_starts, mul-le (L - 1) (h + 1) (L - 1) S (omega arith) width, mul-add (L - 1) h 1),
      )

  -- no draft has made more than the whole tree
  pub units_most : (g : Treehash) → Standing (draft_plot H h) g → g.leaves + g.joins ≤ 2 ^ (H + 1) - 1
  units_most g standing = omega (arith, joined_most H g.leaves g.newest standing.0.0, standing.1)

  pub all_units : (2 * 2 ^ H) % 2 ^ 64 ≡ 2 ^ (H + 1)
  all_units = shl_whole 2 2 H 64 (lit< tt) (omega (arith, (height_facts H shaped.0).1)) ∙ sym (twice_pow H)

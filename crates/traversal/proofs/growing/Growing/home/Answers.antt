use Rattle.std.proofs.Common.{◌≡◌, ℕ, ◌-◌, ◌*◌, ◌/◌, ◌%◌, ◌^◌, ◌<◌, ◌≤◌, false, ap, inl, inr, ⊎_elim, arith, refl}
use Rattle.std.proofs.lemmas.Nat.{one_shl}
use Rattle.std.proofs.lemmas.Bool.{cases_Bool}
use Rattle.tree.specs.Geometry.{subtree_cells}
use Rattle.traversal.specs.declared.plot.Plot.{Plot}
use Rattle.traversal.specs.Plots.{owns_cell, Legal}
use Rattle.traversal.proofs.Plotting.{owns_decides, cell_root, cell_row, section_inside, low_row, row_inside}
use Rattle.traversal.proofs.growing.Growing.home.Goals as goal
use Rattle.traversal.proofs.growing.Growing.home.Goals.{then-height-plot-2-via-then-height-plot-2, then-height-plot-2-via-else-height-plot-2+then-index-plot}

-- a node below the root that lies too low or too far right has no cell
homeless : (plot : Plot) → Legal plot → (t x : ℕ) → (t ≡ plot.top → ⊥) → ((plot.lowest ≤ t) × ((t < plot.top) × (x < 2 ^ (plot.subtree - t % plot.subtree))) → ⊥) → owns_cell plot t x ≡ false
homeless plot legal t x low far =
    ⊎_elim (λ e. absurd (⊎_elim (λ q. low q.0) far ((owns_decides plot legal t x).0 e))) (λ e. e) (cases_Bool (owns_cell plot t x))

pub returns-then-height-plot : goal.returns-then-height-plot
returns-then-height-plot c =
    let none : c.args.self.now.plot.top - c.args.height ≡ 0 = omega arith in (
      (owns_decides c.args.self.now.plot c.args.self.now.legal c.args.height c.args.index).1 (inl (c.if-height-plot.true, omega (arith, ap (λ k. 2 ^ k) none, c.requires.1))),
      cell_root c.args.self.now.plot c.args.self.now.legal c.args.height c.args.index c.if-height-plot.true,
    )

pub returns-then-height-plot-2 : goal.returns-then-height-plot-2
returns-then-height-plot-2 c =
    let h = c.args.self.now.plot.subtree in
    let r = c.args.height % h in
    let few = low_row c.args.self.now.plot c.args.self.now.legal c.args.height in
    let none = homeless c.args.self.now.plot c.args.self.now.legal c.args.height c.args.index c.if-height-plot.false
    (λ q. elim c.then-height-plot-2.branch [
      | then-height-plot-2-via-then-height-plot-2 w ↦ omega (arith, q.0)
      | then-height-plot-2-via-else-height-plot-2+then-index-plot w ↦ omega (arith, q.1.1, one_shl (h - r) 32 (omega (arith, c.args.self.now.legal.greatest)), w.if-index-plot.true)
    ]) in
    (none, refl)

pub returns : goal.returns
returns c =
    let h = c.args.self.now.plot.subtree in
    let t = c.args.height in
    let x = c.args.index in
    let r = t % h in
    let less : t < c.args.self.now.plot.top = omega (arith, c.requires.0) in
    let few = low_row c.args.self.now.plot c.args.self.now.legal t in
    let near : x < 2 ^ (h - r) = omega (arith, one_shl (h - r) 32 (omega (arith, c.args.self.now.legal.greatest))) in
    let row : t / h * c.section_cells.result ≡ t / h * subtree_cells h = ap (λ n. t / h * n) c.section_cells.ensures in (
      (owns_decides c.args.self.now.plot c.args.self.now.legal t x).1 (inr (c.if-height-plot-2.false, (less, near))),
      omega (arith, cell_row c.args.self.now.plot c.args.self.now.legal t x less, c.row_offset.ensures),
      omega (arith, row_inside h r x few near, c.row_offset.ensures),
      omega (arith, section_inside c.args.self.now.plot c.args.self.now.legal t less),
    )

-- The layout of a plot is sound.
use Rattle.std.proofs.Common.{◌≡◌, ℕ, suc, ◌+◌, ◌-◌, ◌*◌, ◌/◌, ◌%◌, ◌^◌, ◌<◌, ◌≤◌, ◌&&◌, eqb, ltb, leb, ◌⊎◌, Decides, sym, ap, ◌∙◌, subst, ap₂, inl, inr, ⊎_elim, mod-lt, add-mul, pow-suc, div-add-mod', arith, pow_mono}
use Rattle.std.proofs.lemmas.Bool.{cases_lt, cases_order, leb-true, le-leb, cond-true, cond-false, eq-eqb, ne_eqb}
use Rattle.std.proofs.lemmas.Bool.Decides.{Decides-and, Decides-or, Decides-ltb, Decides-eqb}
use Rattle.std.proofs.lemmas.Nat.{div-mul-add, mod-mul-add, mul-le, div_below}
use Rattle.growth.specs.Places.{Sound}
use Rattle.tree.specs.Geometry.{subtree_cells}
use Rattle.traversal.specs.declared.plot.Plot.{Plot}
use Rattle.traversal.specs.Plots.{row_start, owns_cell, own_cell, layout, depth, Legal}

-- Rows of one subtree.
pub twice : (h r : ℕ) → r ≤ h → 2 ^ (h + 1 - r) ≡ 2 * 2 ^ (h - r)
twice h r low =
    let e : h + 1 - r ≡ suc (h - r) = omega arith in
    omega (arith, ap (λ k. 2 ^ k) e, pow-suc 2 (h - r))

pub row_end : (h r x : ℕ) → r < h → x < 2 ^ (h - r) → row_start h r + x < 2 ^ (h + 1) - 2 ^ (h - r)
row_end h r x low k =
    let le : h + 1 - r ≤ h + 1 = omega arith in
    let less : r ≤ h = omega arith in
    omega (arith, twice h r less, pow_mono le)

pub row_inside : (h r x : ℕ) → r < h → x < 2 ^ (h - r) → row_start h r + x < subtree_cells h
row_inside h r x low k =
    let le : 1 ≤ h - r = omega arith in
    omega (arith, row_end h r x low k, pow_mono le)

rows_apart : (h r x s y : ℕ) → r < h → x < 2 ^ (h - r) → r < s → row_start h r + x ≡ row_start h s + y → ⊥
rows_apart h r x s y low k less e =
    let le : h + 1 - s ≤ h - r = omega arith in
    omega (arith, row_end h r x low k, pow_mono le)

row_same : (h r x s y : ℕ) → r < h → s < h → x < 2 ^ (h - r) → y < 2 ^ (h - s) → row_start h r + x ≡ row_start h s + y → (r ≡ s) × (x ≡ y)
row_same h r x s y low below k j e =
    ⊎_elim (λ q. (q, (let same = ap (row_start h) q in omega arith)))
    (λ o. ⊎_elim (λ q. absurd (rows_apart h r x s y low k q e)) (λ q. absurd (rows_apart h s y r x below j q (sym e))) o)
    (cases_order r s)

module _ (plot : Plot) (legal : Legal plot) where
  abbrev Own : ℕ → ℕ → Type 0
  Own t x = ((t ≡ plot.top) × (x ≡ 0)) ⊎ ((plot.lowest ≤ t) × ((t < plot.top) × (x < 2 ^ (plot.subtree - t % plot.subtree))))

  pub owns_decides : (t x : ℕ) → Decides (owns_cell plot t x) (Own t x)
  unfolding owns_cell
  owns_decides t x =
      Decides-or (eqb t plot.top && eqb x 0) (leb plot.lowest t && (ltb t plot.top && ltb x (2 ^ (plot.subtree - t % plot.subtree))))
      (Decides-and (eqb t plot.top) (eqb x 0) (Decides-eqb t plot.top) (Decides-eqb x 0))
      (Decides-and (leb plot.lowest t) (ltb t plot.top && ltb x (2 ^ (plot.subtree - t % plot.subtree)))
      (leb-true plot.lowest t, le-leb plot.lowest t)
      (Decides-and (ltb t plot.top) (ltb x (2 ^ (plot.subtree - t % plot.subtree))) (Decides-ltb t plot.top) (Decides-ltb x (2 ^ (plot.subtree - t % plot.subtree)))))

  pub cell_root : (t x : ℕ) → t ≡ plot.top → own_cell plot t x ≡ 0
  unfolding own_cell
  cell_root t x e = cond-true (eqb t plot.top) 0 _ (eq-eqb t plot.top e)

  pub cell_row : (t x : ℕ) → t < plot.top → own_cell plot t x ≡ plot.rows + t / plot.subtree * subtree_cells plot.subtree + (row_start plot.subtree (t % plot.subtree) + x)
  unfolding own_cell
  cell_row t x less = cond-false (eqb t plot.top) 0 _ (ne_eqb t plot.top (λ e. omega arith))

  -- a level's section lies before the stack
  pub section_inside : (t : ℕ) → t < plot.top → plot.rows + t / plot.subtree * subtree_cells plot.subtree + subtree_cells plot.subtree ≤ plot.tail
  section_inside t less =
      let h = plot.subtree in
      let S = subtree_cells h in
      let whole : plot.top / h * h ≡ plot.top = omega (arith, div-add-mod' plot.top h, legal.whole) in
      let level : t / h < plot.top / h = div_below t h (plot.top / h) (omega (arith, legal.least)) (omega arith) in
      let most = mul-le (t / h + 1) S (plot.top / h) S (omega arith) (omega arith) in
      omega (arith, add-mul (t / h) 1 S, legal.sections)

  pub low_row : (t : ℕ) → t % plot.subtree < plot.subtree
  low_row t = mod-lt t (omega (arith, legal.least))

  -- above the heights of the lower levels every node has a cell
  pub top_level : (t : ℕ) → depth plot ≤ t → t < plot.top → plot.subtree - t % plot.subtree ≡ plot.top - t
  top_level t high less =
      let h = plot.subtree in
      let k : ℕ = plot.top / h - 1 in
      let whole : plot.top / h * h ≡ plot.top = omega (arith, div-add-mod' plot.top h, legal.whole) in
      let some : 0 < plot.top / h = ⊎_elim (λ q. q) (λ q. let none : plot.top / h ≡ 0 = omega arith in let z = ap (λ n. n * h) none in absurd (omega (arith, legal.low, legal.least))) (cases_lt 0 (plot.top / h)) in
      let back : k + 1 ≡ plot.top / h = omega arith in
      let split : k * h + h ≡ plot.top = omega (arith, add-mul k 1 h, ap (λ n. n * h) back) in
      let row : t ≡ k * h + (t - k * h) = omega arith in
      let r : t % h ≡ t - k * h = ap (λ n. n % h) row ∙ mod-mul-add k h (t - k * h) (omega arith) in
      omega arith

  pub sound : Sound (layout plot) (depth plot)
  sound = record {
    before = λ t x e.
        ⊎_elim
        (λ q. omega (arith, cell_root t x q.0, legal.root, legal.sections))
        (λ q. omega (arith, cell_row t x q.1.0, row_inside plot.subtree (t % plot.subtree) x (low_row t) q.1.1, section_inside t q.1.0))
        ((owns_decides t x).0 e);
    apart = λ t x u y e f same.
        ⊎_elim
        (λ a. ⊎_elim (λ b. (a.0 ∙ sym b.0, a.1 ∙ sym b.1))
        (λ b. absurd (omega (arith, cell_root t x a.0, cell_row u y b.1.0, legal.root)))
        ((owns_decides u y).0 f))
        (λ a. ⊎_elim (λ b. absurd (omega (arith, cell_root u y b.0, cell_row t x a.1.0, legal.root)))
        (λ b. rows t x u y a.1.0 b.1.0 a.1.1 b.1.1 same)
        ((owns_decides u y).0 f))
        ((owns_decides t x).0 e);
    high = λ t x low high in_tree.
        ⊎_elim
        (λ top. (owns_decides t x).1 (inl (top, (let none : plot.top - t ≡ 0 = omega arith in omega (arith, ap (λ k. 2 ^ k) none)))))
        (λ o. ⊎_elim
        (λ less. (owns_decides t x).1 (inr (omega (arith, legal.low), (less, subst (λ k. x < 2 ^ k) (sym (top_level t high less)) in_tree))))
        (λ more. absurd (omega arith)) o)
        (cases_order t plot.top);
  }
    where
      rows : (t x u y : ℕ) → t < plot.top → u < plot.top → x < 2 ^ (plot.subtree - t % plot.subtree) → y < 2 ^ (plot.subtree - u % plot.subtree) → own_cell plot t x ≡ own_cell plot u y → (t ≡ u) × (x ≡ y)
      rows t x u y a b c d same =
          let h = plot.subtree in
          let S = subtree_cells h in
          let i = row_start h (t % h) + x in
          let j = row_start h (u % h) + y in
          let one = row_inside h (t % h) x (low_row t) c in
          let two = row_inside h (u % h) y (low_row u) d in
          let sums : t / h * S + i ≡ u / h * S + j = omega (arith, cell_row t x a, cell_row u y b) in
          let level : t / h ≡ u / h = sym (div-mul-add (t / h) S i one) ∙ ap (λ n. n / S) sums ∙ div-mul-add (u / h) S j two in
          let offset : i ≡ j = sym (mod-mul-add (t / h) S i one) ∙ ap (λ n. n % S) sums ∙ mod-mul-add (u / h) S j two in
          let (row, index) = row_same h (t % h) x (u % h) y (low_row t) (low_row u) c d offset in
          (sym (div-add-mod' t h) ∙ ap₂ (λ q r. q * h + r) level row ∙ div-add-mod' u h, index)

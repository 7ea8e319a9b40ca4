-- The sections of the table lie in a row.
use Rattle.std.proofs.Common.{◌≡◌, ℕ, ◌+◌, ◌-◌, ◌*◌, ◌/◌, ◌%◌, ◌^◌, ◌<◌, ◌≤◌, true, cond, ◌&&◌, eqb, leb, ap, ◌∙◌, ap₂, ⊎_elim, mul_comm, add-mul, one-mul, mul-zero, zero-mul, mul-add, arith, lit<}
use Rattle.std.proofs.lemmas.Nat.{div-add-mod', shl_whole, pow-add}
use Rattle.std.proofs.lemmas.Bool.{and_parts, leb-true, le-leb, lt-leb, eqb-true, cond-true, cond-false, cases_lt}
use Rattle.std.specs.Prelude.{None, Ok}
use Rattle.tree.specs.Refusals.{first_refusal}
use Rattle.tree.specs.Geometry.{legal_subtree, levels, subtree_cells, table_size, InARow, Shaped, shape_checks, Sizes}

-- one section of s cells more
one_more : (a s : ℕ) → (a + 1) * s ≡ a * s + s
one_more a s = simp (add-mul, one-mul)

-- the triangle of i - 1 from that of i - 2
triangle : (i : ℕ) → 2 ≤ i → i * (i - 1) / 2 ≡ (i - 1) * (i - 2) / 2 + (i - 1)
triangle i two =
    let k : ℕ = i - 2 in
    let is : i ≡ k + 2 = omega arith in
    let low : i - 1 ≡ k + 1 = omega arith in
    let big : i * (i - 1) ≡ (k + 2) * (k + 1) = ap₂ ◌*◌ is low in
    let small : (i - 1) * (i - 2) ≡ (k + 1) * k = ap (λ j. j * k) low in
    let split : (k + 2) * (k + 1) ≡ k * (k + 1) + 2 * (k + 1) = add-mul k 2 (k + 1) in
    let turn : k * (k + 1) ≡ (k + 1) * k = mul_comm k (k + 1) in
    omega arith

tail_more : (h i : ℕ) → 2 ≤ i → ((i + 1) - 2) + h * (((i + 1) - 1) * ((i + 1) - 2) / 2) ≡ ((i - 2) + h * ((i - 1) * (i - 2) / 2)) + ((i - 1) * h + 1)
tail_more h i two =
    let up : (i + 1) - 1 ≡ i = omega arith in
    let low : (i + 1) - 2 ≡ i - 1 = omega arith in
    let tri : ((i + 1) - 1) * ((i + 1) - 2) / 2 ≡ (i - 1) * (i - 2) / 2 + (i - 1) = ap₂ (λ a b. a * b / 2) up low ∙ triangle i two in
    let spread : h * (((i + 1) - 1) * ((i + 1) - 2) / 2) ≡ h * ((i - 1) * (i - 2) / 2) + h * (i - 1) = ap (λ n. h * n) tri ∙ mul-add h ((i - 1) * (i - 2) / 2) (i - 1) in
    let swap : h * (i - 1) ≡ (i - 1) * h = mul_comm h (i - 1) in
    omega arith

pub in_a_row : (H h : ℕ) → 1 ≤ levels H h → InARow H h
in_a_row H h some =
    let L : ℕ = levels H h in
    let S : ℕ = subtree_cells h in
    record {
      first = ap (λ n. 1 + n) (zero-mul S);
      existing = λ i from.
          let up : (i + 1) - 1 ≡ (i - 1) + 1 = omega arith in
          let row : ((i + 1) - 1) * S ≡ (i - 1) * S + S = ap (λ k. k * S) up ∙ one_more (i - 1) S in
          omega arith;
      existing_to_following =
          let up : L + (1 - 1) ≡ (L - 1) + 1 = omega arith in
          let row : (L + (1 - 1)) * S ≡ (L - 1) * S + S = ap (λ k. k * S) up ∙ one_more (L - 1) S in
          omega arith;
      following = λ i from.
          let up : L + ((i + 1) - 1) ≡ (L + (i - 1)) + 1 = omega arith in
          let row : (L + ((i + 1) - 1)) * S ≡ (L + (i - 1)) * S + S = ap (λ k. k * S) up ∙ one_more (L + (i - 1)) S in
          omega arith;
      following_to_tails = λ two.
          let up : 2 * L - 1 ≡ (L + ((L - 1) - 1)) + 1 = omega arith in
          let row : (2 * L - 1) * S ≡ (L + ((L - 1) - 1)) * S + S = ap (λ k. k * S) up ∙ one_more (L + ((L - 1) - 1)) S in
          let none : h * 0 ≡ 0 = mul-zero h in
          omega arith;
      tails = λ i two. let more = tail_more h i two in omega arith;
      one_level = λ one.
          let only : cond (leb 2 L) ((L - 2) + h * ((L - 1) * (L - 2) / 2)) 0 ≡ 0 = cond-false (leb 2 L) ((L - 2) + h * ((L - 1) * (L - 2) / 2)) 0 (lt-leb 2 L (omega arith)) in
          let same : 2 * L - 1 ≡ L + (1 - 1) = omega arith in
          let row : (2 * L - 1) * S ≡ (L + (1 - 1)) * S = ap (λ k. k * S) same in
          omega arith;
      more_levels = λ two.
          ap (λ n. 1 + (2 * L - 1) * S + n) (cond-true (leb 2 L) ((L - 2) + h * ((L - 1) * (L - 2) / 2)) 0 (le-leb 2 L two));
    }

-- what legal heights say
pub subtree_facts : (H h : ℕ) → legal_subtree H h ≡ true → (1 ≤ h) × (h ≤ 10) × (H % h ≡ 0)
subtree_facts H h e =
    let most = and_parts (leb 1 h && leb h 10) (eqb (H % h) 0) e in
    let both = and_parts (leb 1 h) (leb h 10) most.0 in
    (leb-true _ _ both.0, leb-true _ _ both.1, eqb-true _ _ most.1)

pub some_level : (H h : ℕ) → 1 ≤ H → legal_subtree H h ≡ true → 1 ≤ levels H h
some_level H h tall e =
    let whole = div-add-mod' H h in
    let exact = (subtree_facts H h e).2 in
    ⊎_elim (λ none.
    let zero : H / h ≡ 0 = omega arith in
    let row : H / h * h ≡ 0 = ap (λ q. q * h) zero ∙ zero-mul h in
    absurd (omega arith))
    (λ some. some)
    (cases_lt (H / h) 1)

-- the cells of a subtree, as a shift gives them
pub shifted_cells : (h : ℕ) → h ≤ 10 → (2 * 2 ^ h) % 2 ^ 64 - 2 ≡ subtree_cells h
shifted_cells h low =
    let fits = shl_whole 2 2 h 64 (lit< tt) (omega arith) in
    let power : 2 ^ (h + 1) ≡ 2 ^ h * 2 = pow-add 2 h 1 in
    omega arith

-- the table's size, as the code adds it up
pub sized_more : (H h each : ℕ) → each ≡ subtree_cells h → 2 ≤ H / h → 1 + (2 * (H / h) - 1) * each + (H / h - 2) + h * ((H / h - 1) * (H / h - 2) / 2) ≡ table_size H h
sized_more H h each is two =
    let L : ℕ = H / h in
    let row : (2 * L - 1) * each ≡ (2 * L - 1) * subtree_cells h = ap (λ n. (2 * L - 1) * n) is in
    let rest = cond-true (leb 2 L) ((L - 2) + h * ((L - 1) * (L - 2) / 2)) 0 (le-leb 2 L two) in
    omega arith

pub sized_one : (H h each : ℕ) → each ≡ subtree_cells h → H / h < 2 → 1 + (2 * (H / h) - 1) * each ≡ table_size H h
sized_one H h each is one =
    let L : ℕ = H / h in
    let row : (2 * L - 1) * each ≡ (2 * L - 1) * subtree_cells h = ap (λ n. (2 * L - 1) * n) is in
    let rest = cond-false (leb 2 L) ((L - 2) + h * ((L - 1) * (L - 2) / 2)) 0 (lt-leb 2 L one) in
    omega arith

-- a shape tells the size of its table, whose sections lie in a row
pub sizes_of : (H h n : ℕ) → first_refusal (shape_checks H h) ≡ None → Shaped H h n → Sizes H h (Ok n)
sizes_of H h n passed (tall, low, cells) =
    let some = some_level H h (leb-true 1 H (and_parts _ _ tall).0) low in
    (passed, cells, in_a_row H h some)

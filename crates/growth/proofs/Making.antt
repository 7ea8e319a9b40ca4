-- Which nodes are made, and which one the next unit makes.
use Rattle.std.proofs.Common.{◌≡◌, ℕ, zero, suc, ◌+◌, ◌-◌, ◌/◌, ◌%◌, ◌^◌, ◌<◌, ◌≤◌, true, false, ◌&&◌, eqb, ltb, leb, ◌⊎◌, Decides, sym, ap, ◌∙◌, subst, inl, inr, ⊎_elim, arith, pow_pos}
use native.Mathlib.Nat.{mod-one, div-eq_of_lt-le}
use lib.Pow.{pow-lt}
use Rattle.std.proofs.lemmas.Bool.{cases_lt, cases_order, cases_Bool, leb-true, le-leb, and_parts, and_cases, ltb-true, ltb-false, eqb-true, eqb-false}
use Rattle.std.proofs.lemmas.Bool.Decides.{Decides-or, Decides-and, Decides-ltb, Decides-eqb}
use Rattle.growth.specs.Order.{ends, made, Reached, newest, join_due}
use Rattle.growth.specs.Values.{Later}
use Rattle.growth.proofs.Ends.{ends_pos, ends_pow, ends_zero, ends_root, ends_next, ends_whole, ends_lt, ends_lt_back, ends_le_back, ends_inj, ends_deep, ends_odd, ends_half_odd, ends_half_even, newest_end, cases_mod}

abbrev pub Made : ℕ → ℕ → ℕ → ℕ → Type 0
Made l p t x = (ends t x < l) ⊎ ((ends t x ≡ l) × (t ≤ p))

pub made_decides : (l p t x : ℕ) → Decides (made l p t x) (Made l p t x)
unfolding made
made_decides l p t x =
    Decides-or (ltb (ends t x) l) (eqb (ends t x) l && leb t p) (Decides-ltb (ends t x) l)
    (Decides-and (eqb (ends t x) l) (leb t p) (Decides-eqb (ends t x) l) (leb-true t p, le-leb t p))

pub not_made : (l p t x : ℕ) → (Made l p t x → ⊥) → made l p t x ≡ false
not_made l p t x never = ⊎_elim (λ e. absurd (never ((made_decides l p t x).0 e))) (λ e. e) (cases_Bool (made l p t x))

pub made_le : (l p t x : ℕ) → Made l p t x → ends t x ≤ l
made_le l p t x m = ⊎_elim (λ q. omega arith) (λ q. omega (arith, q.0)) m

pub made_later : (l p m q t x : ℕ) → Later l p m q → Made l p t x → Made m q t x
made_later l p m q t x b k =
    ⊎_elim (λ lt. inl (omega (arith, made_le l p t x k)))
    (λ e. ⊎_elim (λ lt. inl (omega (arith, e.0))) (λ at. inr (at.0 ∙ e.0, omega (arith, at.1, e.1))) k) b

-- nothing is made at the start
pub none_made : (t x : ℕ) → Made 0 0 t x → ⊥
none_made t x m = ⊎_elim (λ k. omega arith) (λ k. omega (arith, k.0, ends_pos t x)) m

-- the children of a made node are made
pub made_child : (l p t x : ℕ) → Made l p (t + 1) (x / 2) → Made l p t x
made_child l p t x m =
    ⊎_elim
    (λ even. let e = ends_half_even t x even in let w = pow_pos t in ⊎_elim (λ k. inl (omega arith)) (λ k. inl (omega (arith, k.0))) m)
    (λ odd. let e = ends_half_odd t x odd in ⊎_elim (λ k. inl (omega arith)) (λ k. inr (sym e ∙ k.0, omega (arith, k.1))) m)
    (cases_mod x)

-- made, and not joined yet
abbrev pub Stacked : ℕ → ℕ → ℕ → ℕ → Type 0
Stacked l p t x = Made l p t x × (Made l p (t + 1) (x / 2) → ⊥)

-- a unit makes one node
pub record Makes (was is : ℕ → ℕ → Type 0) (t x : ℕ) : Type 0 where
  pub keeps : (s y : ℕ) → was s y → is s y
  pub fresh : was t x → ⊥
  pub new : is t x
  pub only : (s y : ℕ) → is s y → was s y ⊎ ((s ≡ t) × (y ≡ x))

pub join_makes : (l p a : ℕ) → l ≡ ends p a → a % 2 ≡ 1 → Makes (Made l p) (Made l (p + 1)) (p + 1) (a / 2)
join_makes l p a e odd =
    let at = ends_half_odd p a odd in
    record {
      keeps = λ s y m. ⊎_elim inl (λ q. inr (q.0, omega (arith, q.1))) m;
      fresh = λ m. ⊎_elim (λ q. omega arith) (λ q. omega (arith, q.1)) m;
      new = inr (omega arith, omega arith);
      only = λ s y m.
          ⊎_elim (λ q. inl (inl q))
          (λ q. ⊎_elim (λ k. inl (inr (q.0, omega arith)))
          (λ k. let same : s ≡ p + 1 = omega (arith, q.1) in inr (same, ends_inj (p + 1) y (a / 2) (ap (λ k. ends k y) (sym same) ∙ q.0 ∙ e ∙ sym at)))
          (cases_lt s (p + 1)))
          m;
    }

-- where no higher node ends at l, the next unit is a leaf
pub leaf_makes : (l p : ℕ) → ((t x : ℕ) → p < t → ends t x ≡ l → ⊥) → Makes (Made l p) (Made (l + 1) 0) 0 l
leaf_makes l p quiet =
    let at = ends_zero l in
    record {
      keeps = λ s y m. ⊎_elim (λ q. inl (omega arith)) (λ q. inl (omega (arith, q.0))) m;
      fresh = λ m. ⊎_elim (λ q. omega arith) (λ q. omega (arith, q.0)) m;
      new = inr (at, omega arith);
      only = λ s y m.
          ⊎_elim
          (λ q. ⊎_elim (λ k. inl (inl k))
          (λ k. let same : ends s y ≡ l = omega arith in inl (inr (same, ⊎_elim (λ b. absurd (quiet s y b same)) (λ b. b) (cases_lt p s))))
          (cases_lt (ends s y) l))
          (λ q. let same : s ≡ 0 = omega (arith, q.1) in inr (same, (let z : ends 0 y ≡ l + 1 = ap (λ k. ends k y) (sym same) ∙ q.0 in omega (arith, ends_zero y))))
          m;
    }

-- the children of a join are stacked
pub join_right : (l p a : ℕ) → l ≡ ends p a → a % 2 ≡ 1 → Stacked l p p a
join_right l p a e odd = (inr (sym e, omega arith), λ m. ⊎_elim (λ q. omega (arith, ends_half_odd p a odd)) (λ q. omega (arith, q.1)) m)

pub join_left : (l p a : ℕ) → l ≡ ends p a → a % 2 ≡ 1 → Stacked l p p (a - 1)
join_left l p a e odd =
    let up : (a - 1) / 2 ≡ a / 2 = omega arith in
    let one : a - 1 < a = omega arith in
    (inl (omega (arith, ends_lt p (a - 1) a one)), λ m. (join_right l p a e odd).1 (subst (λ k. Made l p (p + 1) k) up m))

-- Two stacked nodes: the sibling of the one that ends first is the other, or above it.
unfoldable pub Above : ℕ → ℕ → ℕ → ℕ → Type 0
Above t x s y = (j : ℕ) × (s + j ≡ t) × (y / 2 ^ j ≡ x + 1) × (x % 2 ≡ 0)

above_higher : (l p t x s y : ℕ) → Stacked l p t x → Stacked l p s y → ends t x < ends s y → x % 2 ≡ 0 → t < s → ends s y ≤ ends t (x + 1) → ⊥
above_higher l p t x s y m n before even k within =
    let j = s - t in
    let split : t + j ≡ s = omega arith in
    let deep : ends s y ≡ ends t (ends j y - 1) = ap (λ k. ends k y) (sym split) ∙ ends_deep t j y in
    let past = ends_lt_back t x (ends j y - 1) (omega arith) in
    let not-past = ends_le_back t (ends j y - 1) (x + 1) (omega arith) in
    let is : ends j y - 1 ≡ x + 1 = omega arith in
    let at : ends (t + 1) (x / 2) ≡ ends s y = ends_half_even t x even ∙ sym (ends_next t x) ∙ ap (ends t) (sym is) ∙ sym deep in
    ⊎_elim (λ q. m.1 (inl (omega arith))) (λ q. m.1 (inr (at ∙ q.0, omega (arith, q.1)))) n.0

div_ends : (j x y : ℕ) → ends j x - 1 < y → y ≤ ends j (x + 1) - 1 → y / 2 ^ j ≡ x + 1
unfolding ends
div_ends j x y past not-past =
    let pos = ends_pos j x in
    let pos2 = ends_pos j (x + 1) in
    div-eq_of_lt-le (2 ^ j) (omega arith) (omega arith)

above_lower : (t x s y : ℕ) → ends t x < ends s y → x % 2 ≡ 0 → s ≤ t → ends s y ≤ ends t (x + 1) → Above t x s y
unfolding Above
above_lower t x s y before even k within =
    let j = t - s in
    let split : s + j ≡ t = omega arith in
    let deep : ends t x ≡ ends s (ends j x - 1) = ap (λ k. ends k x) (sym split) ∙ ends_deep s j x in
    let deep2 : ends t (x + 1) ≡ ends s (ends j (x + 1) - 1) = ap (λ k. ends k (x + 1)) (sym split) ∙ ends_deep s j (x + 1) in
    let past = ends_lt_back s (ends j x - 1) y (omega arith) in
    let not-past = ends_le_back s y (ends j (x + 1) - 1) (omega arith) in
    (j, split, div_ends j x y past not-past, even)

pub above : (l p t x s y : ℕ) → Stacked l p t x → Stacked l p s y → ends t x < ends s y → Above t x s y
above l p t x s y m n before =
    let most = made_le l p s y n.0 in
    let more = ends_next t x in
    ⊎_elim
    (λ even.
    let up = ends_half_even t x even in
    let within : ends s y ≤ ends t (x + 1) = ⊎_elim (λ k. absurd (m.1 (inl (omega arith)))) (λ k. k) (cases_lt (ends t (x + 1)) (ends s y)) in
    ⊎_elim (λ k. absurd (above_higher l p t x s y m n before even k within)) (λ k. above_lower t x s y before even k within) (cases_lt t s))
    (λ odd. absurd (m.1 (inl (omega (arith, ends_half_odd t x odd)))))
    (cases_mod x)

-- two stacked nodes that end at one place are one
pub same_end : (l p t x s y : ℕ) → Stacked l p t x → Stacked l p s y → ends t x ≡ ends s y → (t ≡ s) × (x ≡ y)
same_end l p t x s y m n e =
    ⊎_elim (λ k. (k, ends_inj s x y (ap (λ q. ends q x) (sym k) ∙ e))) (λ o. ⊎_elim (λ k. absurd (lower t x s y m n e k)) (λ k. absurd (lower s y t x n m (sym e) k)) o) (cases_order t s)
  where
    lower : (t x s y : ℕ) → Stacked l p t x → Stacked l p s y → ends t x ≡ ends s y → t < s → ⊥
    lower t x s y m n e k =
        let at = ends_half_odd t x (ends_odd t s x y k e) in
        ⊎_elim (λ q. m.1 (inl (omega arith))) (λ q. m.1 (inr (at ∙ e ∙ q.0, omega (arith, q.1)))) n.0

-- The next unit.
pub due_true : (l p : ℕ) → join_due l p ≡ true → (0 < l) × (newest l p % 2 ≡ 1)
unfolding join_due
due_true l p e =
    let (a, b) = and_parts (ltb 0 l) (eqb (newest l p % 2) 1) e in
    (ltb-true 0 l a, eqb-true _ 1 b)

pub due_false : (l p : ℕ) → join_due l p ≡ false → (l ≡ 0) ⊎ (newest l p % 2 ≡ 0)
unfolding join_due
due_false l p e =
    ⊎_elim (λ a. inl (omega (arith, ltb-false 0 l a))) (λ b. inr (omega (arith, eqb-false (newest l p % 2) 1 b)))
    (and_cases (ltb 0 l) (eqb (newest l p % 2) 1) e)

pub newest_of : (T l p : ℕ) → Reached T l p → 0 < l → l ≡ ends p (newest l p)
newest_of T l p k pos = newest_end l p pos k.3

-- no higher node ends at l if no join is due
pub quiet : (T l p : ℕ) → Reached T l p → join_due l p ≡ false → (t x : ℕ) → p < t → ends t x ≡ l → ⊥
quiet T l p k e t x less at =
    ⊎_elim (λ z. omega (arith, ends_pos t x))
    (λ even. let pos : 0 < l = omega (arith, ends_pos t x) in omega (arith, ends_odd p t (newest l p) x less (sym (newest_of T l p k pos) ∙ sym at)))
    (due_false l p e)

pub join_height : (T l p : ℕ) → Reached T l p → join_due l p ≡ true → p + 1 ≤ T
join_height T l p k e =
    let (pos, odd) = due_true l p e in
    let at = newest_of T l p k pos in
    let up = ends_half_odd p (newest l p) odd in
    ⊎_elim (λ less. absurd (omega (arith, pow-lt less, ends_pow (p + 1) (newest l p / 2), k.0))) (λ q. q) (cases_lt T (p + 1))

pub join_reached : (T l p : ℕ) → Reached T l p → join_due l p ≡ true → Reached T l (p + 1)
join_reached T l p k e =
    let (pos, odd) = due_true l p e in
    let at = newest_of T l p k pos in
    let a = newest l p in
    let up : ends (p + 1) (a / 2) ≡ l = ends_half_odd p a odd ∙ sym at in
    let some = pow_more (p + 1) in
    (k.0, join_height T l p k e, omega (arith, ends_pow (p + 1) (a / 2)), ap (λ z. z % 2 ^ (p + 1)) (sym up) ∙ ends_whole (p + 1) (a / 2))
  where
    pow_more : (n : ℕ) → n < 2 ^ n
    pow_more zero = omega arith
    pow_more (suc n) = let less : n < suc n = omega arith in omega (arith, pow_more n, pow-lt less)

-- a whole tree has all its leaves, and its newest node is the root
pub leaf_room : (T l p : ℕ) → Reached T l p → (l ≡ 2 ^ T → p < T) → join_due l p ≡ false → l + 1 ≤ 2 ^ T
leaf_room T l p k more e =
    ⊎_elim (λ full. absurd (quiet T l p k e T 0 (more full) (ends_root T ∙ sym full)))
    (λ o. ⊎_elim (λ q. omega arith) (λ q. absurd (omega (arith, k.0))) o) (cases_order l (2 ^ T))

pub leaf_reached : (T l p : ℕ) → Reached T l p → (l ≡ 2 ^ T → p < T) → join_due l p ≡ false → Reached T (l + 1) 0
leaf_reached T l p k more e = (leaf_room T l p k more e, omega arith, omega arith, mod-one (l + 1))

pub later_then : (l p m q n r : ℕ) → Later l p m q → Later m q n r → Later l p n r
later_then l p m q n r a b =
    ⊎_elim (λ x. ⊎_elim (λ y. inl (omega arith)) (λ y. inl (omega (arith, y.0))) b)
    (λ x. ⊎_elim (λ y. inl (omega (arith, x.0))) (λ y. inr (x.0 ∙ y.0, omega (arith, x.1, y.1))) b) a

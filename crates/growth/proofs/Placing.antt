-- The places of the nodes that a table carries are different, and the stack's size tells where the next one goes.
use Rattle.std.proofs.Common.{◌≡◌, ℕ, zero, suc, ◌+◌, ◌-◌, ◌*◌, ◌/◌, ◌%◌, ◌^◌, ◌<◌, ◌≤◌, Bool, true, false, cond, not, ◌&&◌, ◌||◌, eqb, ◌⊎◌, Decides, sym, refl, ap, ◌∙◌, subst, inl, inr, ⊎_elim, add-zero, mul_assoc, mul_comm, zero-add, mul-one, div-one, arith, pow_mono, eq-eqb, ne_eqb}
use native.Mathlib.Nat.{pow-succ', div-div-eq-div-mul}
use Rattle.std.proofs.lemmas.Bool.{cases_lt, cases_order, cond-true, cond-false, cases_Bool, both_ways}
use Rattle.std.proofs.lemmas.Bool.Decides.{Decides-and, Decides-or, Decides-not}
use Rattle.growth.specs.Order.{ends, made, Reached, newest, join_due}
use Rattle.growth.specs.Places.{Layout, carried, over_sibling, stacked_below, place, stack_size, Sound}
use Rattle.growth.proofs.Ends.{ends_pow, newest_is}
use Rattle.growth.proofs.Making.{Made, Stacked, Above, above, same_end, made_le, made_decides, due_false, newest_of, leaf_room}

-- made, and stacked or with a cell of its own
abbrev pub Carried : Layout → ℕ → ℕ → ℕ → ℕ → Type 0
Carried lay l p t x = Made l p t x × ((lay.owns t x ≡ true) ⊎ (Made l p (t + 1) (x / 2) → ⊥))

pub carried_decides : (lay : Layout) (l p t x : ℕ) → Decides (carried lay l p t x) (Carried lay l p t x)
unfolding carried
carried_decides lay l p t x =
    Decides-and (made l p t x) (lay.owns t x || not (made l p (t + 1) (x / 2))) (made_decides l p t x)
    (Decides-or (lay.owns t x) (not (made l p (t + 1) (x / 2))) (λ e. e, λ e. e) (Decides-not (made l p (t + 1) (x / 2)) (made_decides l p (t + 1) (x / 2))))

module _ (lay : Layout) where
  over_even : (t x : ℕ) → x % 2 ≡ 0 → over_sibling lay t x ≡ 0
  over_even t x e = ap (λ b. cond (b && not (lay.owns t (x - 1))) 1 0) (ne_eqb (x % 2) 1 (λ f. omega arith))

  flip : (b : Bool) → ◌≡◌ {A = ℕ} (cond (not b) 1 0) (cond b 0 1)
  flip true = refl
  flip false = refl

  pub over_odd : (t x : ℕ) → x % 2 ≡ 1 → over_sibling lay t x ≡ cond (lay.owns t (x - 1)) 0 1
  over_odd t x e = ap (λ b. cond (b && not (lay.owns t (x - 1))) 1 0) (eq-eqb (x % 2) 1 e) ∙ flip (lay.owns t (x - 1))

  one_at_most : (b : Bool) → cond b 1 0 ≤ 1
  one_at_most true = omega arith
  one_at_most false = omega arith

  over_le : (t x : ℕ) → over_sibling lay t x ≤ 1
  over_le t x = one_at_most (eqb (x % 2) 1 && not (lay.owns t (x - 1)))

  -- one height up
  pub below_up : (d t x : ℕ) → 0 < d → stacked_below lay d t x ≡ over_sibling lay t x + stacked_below lay (d - 1) (t + 1) (x / 2)
  below_up zero t x pos = absurd (omega arith)
  below_up (suc d) t x pos =
      let less : suc d - 1 ≡ d = omega arith in
      let up : t + 1 ≡ suc t = omega arith in
      omega (arith, ap (λ k. stacked_below lay k (t + 1) (x / 2)) less, ap (λ k. stacked_below lay d k (x / 2)) up)

  -- going up, there are no more of them
  pub below_less : (j d t x : ℕ) → stacked_below lay d (t + j) (x / 2 ^ j) ≤ stacked_below lay (j + d) t x
  below_less zero d t x =
      omega (arith, ap (λ k. stacked_below lay d k (x / 2 ^ 0)) (add-zero t), ap (stacked_below lay d t) (div-one x), ap (λ k. stacked_below lay k t x) (zero-add d))
  below_less (suc j) d t x =
      let more : suc j + d ≡ suc (j + d) = omega arith in
      let up : t + suc j ≡ suc t + j = omega arith in
      let half : x / 2 ^ suc j ≡ x / 2 / 2 ^ j = ap (λ k. x / k) (pow-succ' 2 j) ∙ sym (div-div-eq-div-mul x 2 (2 ^ j)) in
      let rest = below_less j d (suc t) (x / 2) in
      let left : stacked_below lay d (t + suc j) (x / 2 ^ suc j) ≡ stacked_below lay d (suc t + j) (x / 2 / 2 ^ j) = ap (λ k. stacked_below lay d k (x / 2 ^ suc j)) up ∙ ap (stacked_below lay d (suc t + j)) half in
      let right : stacked_below lay (suc j + d) t x ≡ over_sibling lay t x + stacked_below lay (j + d) (suc t) (x / 2) = ap (λ k. stacked_below lay k t x) more in
      omega (arith, left, right, rest)

  -- a right child lies one further than its sibling, if that is on the stack
  pub below_sibling : (d t x : ℕ) → 0 < d → x % 2 ≡ 0 → stacked_below lay d t (x + 1) ≡ stacked_below lay d t x + cond (lay.owns t x) 0 1
  below_sibling d t x pos even =
      let back : x + 1 - 1 ≡ x = omega arith in
      let up : (x + 1) / 2 ≡ x / 2 = omega arith in
      let odd : (x + 1) % 2 ≡ 1 = omega arith in
      let first : over_sibling lay t (x + 1) ≡ cond (lay.owns t x) 0 1 = over_odd t (x + 1) odd ∙ ap (λ k. cond (lay.owns t k) 0 1) back in
      omega (arith, below_up d t (x + 1) pos, below_up d t x pos, first, over_even t x even, ap (stacked_below lay (d - 1) (t + 1)) up)

  -- nothing lies below the first of its node's leaves that does not lie below the node
  pub below_first : (j d t y : ℕ) → stacked_below lay (j + d) t (y * 2 ^ j) ≡ stacked_below lay d (t + j) y
  below_first zero d t y = ap (λ k. stacked_below lay k t (y * 2 ^ 0)) (zero-add d) ∙ ap (stacked_below lay d t) (mul-one y) ∙ ap (λ k. stacked_below lay d k y) (sym (add-zero t))
  below_first (suc j) d t y =
      let more : suc j + d ≡ suc (j + d) = omega arith in
      let twice : y * 2 ^ suc j ≡ 2 * (y * 2 ^ j) = omega (arith, ap (λ k. y * k) (pow-succ' 2 j), mul_assoc y 2 (2 ^ j), ap (λ k. k * 2 ^ j) (mul_comm y 2), mul_assoc 2 y (2 ^ j)) in
      let half : y * 2 ^ suc j / 2 ≡ y * 2 ^ j = omega arith in
      let even : y * 2 ^ suc j % 2 ≡ 0 = omega arith in
      let up : suc t + j ≡ t + suc j = omega arith in
      let rest = below_first j d (suc t) y in
      omega (arith, ap (λ k. stacked_below lay k t (y * 2 ^ suc j)) more, over_even t (y * 2 ^ suc j) even, ap (stacked_below lay (j + d) (suc t)) half, ap (λ k. stacked_below lay d k y) up, rest)

  -- on the stack, a node lies below each one that ends later
  pub below_later : (l p t x s y : ℕ) → l ≤ 2 ^ lay.top → Stacked l p t x → Stacked l p s y → ends t x < ends s y → lay.owns t x ≡ false → stacked_below lay (lay.top - t) t x < stacked_below lay (lay.top - s) s y
  unfolding Above
  below_later l p t x s y most m n before none =
      let (j, split, anc, even) = above l p t x s y m n before in
      let d = lay.top - t in
      let last = made_le l p s y n.0 in
      let some : 0 < d = ⊎_elim (λ k. k) (λ k. let high : lay.top ≤ t = omega arith in absurd (omega (arith, pow_mono high, ends_pow t x))) (cases_lt 0 d) in
      let all : j + d ≡ lay.top - s = omega arith in
      let up = below_less j d s y in
      let left : stacked_below lay d (s + j) (y / 2 ^ j) ≡ stacked_below lay d t (x + 1) = ap (λ k. stacked_below lay d k (y / 2 ^ j)) split ∙ ap (stacked_below lay d t) anc in
      let right : stacked_below lay (j + d) s y ≡ stacked_below lay (lay.top - s) s y = ap (λ k. stacked_below lay k s y) all in
      omega (arith, left, right, up, below_sibling d t x some even, cond-false {A = ℕ} (lay.owns t x) 0 1 none)

  pub place_own : (t x : ℕ) → lay.owns t x ≡ true → place lay t x ≡ lay.cell t x
  unfolding place
  place_own t x e = cond-true (lay.owns t x) _ _ e

  pub place_tail : (t x : ℕ) → lay.owns t x ≡ false → place lay t x ≡ lay.tail + stacked_below lay (lay.top - t) t x
  unfolding place
  place_tail t x e = cond-false (lay.owns t x) _ _ e

  module _ (b : ℕ) (sound : Sound lay b) where
    -- a node of the tree has no more below it than there are heights up to b
    pub below_most : (d t x : ℕ) → t + d ≡ lay.top → x < 2 ^ d → stacked_below lay d t x ≤ b - t
    below_most zero t x e in_tree = omega arith
    below_most (suc d) t x e in_tree =
        let up : suc t + d ≡ lay.top = omega arith in
        let twice : 2 ^ suc d ≡ 2 * 2 ^ d = pow-succ' 2 d in
        let half : x / 2 < 2 ^ d = omega arith in
        let rest = below_most d (suc t) (x / 2) up half in
        ⊎_elim
        (λ low. omega (arith, over_le t x))
        (λ high.
        let none : over_sibling lay t x ≡ 0 = ⊎_elim
        (λ even. over_even t x even)
        (λ odd.
        let deep : lay.top - t ≡ suc d = omega arith in
        let less : x - 1 < 2 ^ (lay.top - t) = subst (λ k. x - 1 < 2 ^ k) (sym deep) (omega arith) in
        over_odd t x odd ∙ cond-true {A = ℕ} (lay.owns t (x - 1)) 0 1 (sound.high t (x - 1) (omega arith) high less))
        (parity x) in
        omega arith)
        (cases_lt t b)
      where
        parity : (x : ℕ) → (x % 2 ≡ 0) ⊎ (x % 2 ≡ 1)
        parity x = ⊎_elim inl (λ o. inr (⊎_elim (λ k. absurd (omega arith)) (λ k. omega arith) o)) (cases_order (x % 2) 0)

    -- so a table with b + 1 cells from the stack's start on has room; with b = 0 there is no stack
    pub place_inside : (t x len : ℕ) → t ≤ lay.top → x < 2 ^ (lay.top - t) → lay.tail ≤ len → (0 < b → lay.tail + b < len) → place lay t x < len
    place_inside t x len low in_tree fits room =
        ⊎_elim
        (λ e. omega (arith, place_own t x e, sound.before t x e))
        (λ e. ⊎_elim
        (λ less. omega (arith, place_tail t x e, below_most (lay.top - t) t x (omega arith) in_tree, room (omega arith)))
        (λ more. absurd (both_ways (lay.owns t x) e (sound.high t x low more in_tree)))
        (cases_lt t b))
        (cases_Bool (lay.owns t x))

    tail_apart : (l p t x u y : ℕ) → l ≤ 2 ^ lay.top → Stacked l p t x → Stacked l p u y → lay.owns t x ≡ false → lay.owns u y ≡ false → stacked_below lay (lay.top - t) t x ≡ stacked_below lay (lay.top - u) u y → (t ≡ u) × (x ≡ y)
    tail_apart l p t x u y most m n a c e =
        ⊎_elim (λ k. same_end l p t x u y m n k)
        (λ o. ⊎_elim (λ k. let z = below_later l p t x u y most m n k a in absurd (omega arith)) (λ k. let z = below_later l p u y t x most n m k c in absurd (omega arith)) o)
        (cases_order (ends t x) (ends u y))

    on_stack : (l p t x : ℕ) → Carried lay l p t x → lay.owns t x ≡ false → Stacked l p t x
    on_stack l p t x c e = (c.0, ⊎_elim (λ k. absurd (both_ways (lay.owns t x) e k)) (λ k. k) c.1)

    pub places_apart : (l p t x u y : ℕ) → l ≤ 2 ^ lay.top → Carried lay l p t x → Carried lay l p u y → place lay t x ≡ place lay u y → (t ≡ u) × (x ≡ y)
    places_apart l p t x u y most m n e =
        ⊎_elim
        (λ a. ⊎_elim (λ c. sound.apart t x u y a c (sym (place_own t x a) ∙ e ∙ place_own u y c))
        (λ c. absurd (omega (arith, place_own t x a, place_tail u y c, sound.before t x a))) (cases_Bool (lay.owns u y)))
        (λ a. ⊎_elim (λ c. absurd (omega (arith, place_own u y c, place_tail t x a, sound.before u y c)))
        (λ c. tail_apart l p t x u y most (on_stack l p t x m a) (on_stack l p u y n c) a c (omega (arith, place_tail t x a, place_tail u y c))) (cases_Bool (lay.owns u y)))
        (cases_Bool (lay.owns t x))

  -- The stack's size.
  pub size_none : (p : ℕ) → stack_size lay 0 p ≡ 0
  unfolding stack_size
  size_none p = refl

  pub size_some : (l p a : ℕ) → l ≡ ends p a → 0 < l → stack_size lay l p ≡ stacked_below lay (lay.top - p) p a + cond (lay.owns p a) 0 1
  unfolding stack_size
  size_some l p a e pos =
      cond-false (eqb l 0) 0 _ (ne_eqb l 0 (λ z. omega arith))
      ∙ ap (λ k. stacked_below lay (lay.top - p) p k + cond (lay.owns p k) 0 1) (newest_is l p a e)

  -- what is left once the two children of a join are taken off lies below their parent
  pub size_join : (p a : ℕ) → a % 2 ≡ 1 → p + 1 ≤ lay.top → stacked_below lay (lay.top - p) p a ≡ cond (lay.owns p (a - 1)) 0 1 + stacked_below lay (lay.top - (p + 1)) (p + 1) (a / 2)
  size_join p a odd high =
      let less : lay.top - p - 1 ≡ lay.top - (p + 1) = omega arith in
      omega (arith, below_up (lay.top - p) p a (omega arith), over_odd p a odd, ap (λ k. stacked_below lay k (p + 1) (a / 2)) less)

  -- all that is on the stack lies below the next leaf
  pub size_leaf : (l p : ℕ) → Reached lay.top l p → (l ≡ 2 ^ lay.top → p < lay.top) → join_due l p ≡ false → stacked_below lay (lay.top - 0) 0 l ≡ stack_size lay l p
  unfolding ends
  size_leaf l p k more e =
      ⊎_elim
      (λ none. ap (stacked_below lay (lay.top - 0) 0) none ∙ nothing (lay.top - 0) 0 ∙ sym (ap (λ z. stack_size lay z p) none ∙ size_none p))
      (λ even. ⊎_elim
      (λ pos.
      let a = newest l p in
      let at = newest_of lay.top l p k pos in
      let room = leaf_room lay.top l p k more e in
      let low : p < lay.top = ⊎_elim (λ q. q) (λ q. let same : p ≡ lay.top = omega (arith, k.1) in absurd (omega (arith, ends_pow p a, ap (λ z. 2 ^ z) same))) (cases_lt p lay.top) in
      let split : p + (lay.top - p) ≡ lay.top - 0 = omega arith in
      ap (stacked_below lay (lay.top - 0) 0) at
      ∙ ap (λ z. stacked_below lay z 0 ((a + 1) * 2 ^ p)) (sym split)
      ∙ below_first p (lay.top - p) 0 (a + 1)
      ∙ ap (λ z. stacked_below lay (lay.top - p) z (a + 1)) (zero-add p)
      ∙ below_sibling (lay.top - p) p a (omega arith) even
      ∙ sym (size_some l p a at pos))
      (λ none. let zero : l ≡ 0 = omega arith in ap (stacked_below lay (lay.top - 0) 0) zero ∙ nothing (lay.top - 0) 0 ∙ sym (ap (λ z. stack_size lay z p) zero ∙ size_none p))
      (cases_lt 0 l))
      (due_false l p e)
    where
      nothing : (d t : ℕ) → stacked_below lay d t 0 ≡ 0
      nothing zero t = refl
      nothing (suc d) t = omega (arith, over_even t 0 refl, nothing d (suc t))

-- Where a node ends, and where its parent, its children and its neighbours do.
use Rattle.std.proofs.Common.{◌≡◌, ℕ, ◌+◌, ◌-◌, ◌*◌, ◌/◌, ◌%◌, ◌^◌, ◌<◌, ◌≤◌, ◌⊎◌, sym, ap, ◌∙◌, inl, inr, ⊎_elim, mul_assoc, mul_comm, add-mul, mul-lt-mul_of_pos_right, pow-suc, div-add-mod', add-one, arith, pow_pos, pow-add}
use native.Mathlib.Nat.{div-eq_of_lt-le, mul-mod_left}
use lib.Pow.{pow-lt}
use Rattle.std.proofs.lemmas.Nat.{mul-le}
use Rattle.std.proofs.lemmas.Bool.{cases_lt, cases_order}
use Rattle.growth.specs.Order.{ends}

pub twice_pow : (t : ℕ) → 2 ^ (t + 1) ≡ 2 * 2 ^ t
twice_pow t = omega (arith, ap (λ k. 2 ^ k) (add-one t), pow-suc 2 t)

pub ends_up : (t y : ℕ) → ends (t + 1) y ≡ 2 * ends t y
unfolding ends
ends_up t y = omega (arith, ap (λ k. (y + 1) * k) (twice_pow t), mul_assoc (y + 1) 2 (2 ^ t), mul_assoc 2 (y + 1) (2 ^ t), ap (λ k. k * 2 ^ t) (mul_comm (y + 1) 2))

-- a right child ends where its parent ends
pub ends_right : (t y : ℕ) → ends t (2 * y + 1) ≡ ends (t + 1) y
unfolding ends
ends_right t y =
    let whole : 2 * y + 1 + 1 ≡ (y + 1) + (y + 1) = omega arith in
    omega (arith, ends_up t y, ap (λ k. k * 2 ^ t) whole, add-mul (y + 1) (y + 1) (2 ^ t))

-- a left child ends its own width before that
pub ends_left : (t y : ℕ) → ends t (2 * y) + 2 ^ t ≡ ends (t + 1) y
unfolding ends
ends_left t y = omega (arith, ends_right t y, add-mul (2 * y + 1) 1 (2 ^ t))

pub ends_pos : (t x : ℕ) → 0 < ends t x
unfolding ends
ends_pos t x = omega (arith, add-mul x 1 (2 ^ t), pow_pos t)

pub ends_pow : (t x : ℕ) → 2 ^ t ≤ ends t x
unfolding ends
ends_pow t x = omega (arith, add-mul x 1 (2 ^ t))

pub ends_zero : (x : ℕ) → ends 0 x ≡ x + 1
unfolding ends
ends_zero x = omega arith

pub ends_root : (T : ℕ) → ends T 0 ≡ 2 ^ T
unfolding ends
ends_root T = omega arith

pub ends_next : (t x : ℕ) → ends t (x + 1) ≡ ends t x + 2 ^ t
unfolding ends
ends_next t x = omega (arith, add-mul (x + 1) 1 (2 ^ t))

pub ends_whole : (t x : ℕ) → ends t x % 2 ^ t ≡ 0
unfolding ends
ends_whole t x = mul-mod_left (x + 1) (2 ^ t)

-- later nodes of a height end later
pub ends_lt : (t x y : ℕ) → x < y → ends t x < ends t y
unfolding ends
ends_lt t x y h = let k : x + 1 < y + 1 = omega arith in mul-lt-mul_of_pos_right k (pow_pos t)

pub ends_le_back : (t x y : ℕ) → ends t x ≤ ends t y → x ≤ y
ends_le_back t x y h = ⊎_elim (λ k. let z = ends_lt t y x k in absurd (omega arith)) (λ k. k) (cases_lt y x)

pub ends_inj : (t x y : ℕ) → ends t x ≡ ends t y → x ≡ y
ends_inj t x y e =
    let one = ends_le_back t x y (omega arith) in
    let two = ends_le_back t y x (omega arith) in
    omega arith

pub ends_lt_back : (t x y : ℕ) → ends t x < ends t y → x < y
ends_lt_back t x y h =
    let le = ends_le_back t x y (omega arith) in
    ⊎_elim (λ e. let z = ap (ends t) e in absurd (omega arith)) (λ o. ⊎_elim (λ k. k) (λ k. absurd (omega arith)) o) (cases_order x y)

-- the last node of height t below (t + j, y)
pub ends_deep : (t j y : ℕ) → ends (t + j) y ≡ ends t (ends j y - 1)
unfolding ends
ends_deep t j y =
    let pos : 0 < (y + 1) * 2 ^ j = omega (arith, add-mul y 1 (2 ^ j), pow_pos j) in
    let back : (y + 1) * 2 ^ j - 1 + 1 ≡ (y + 1) * 2 ^ j = omega arith in
    ap (λ k. (y + 1) * k) (pow-add 2 t j ∙ mul_comm (2 ^ t) (2 ^ j)) ∙ sym (mul_assoc (y + 1) (2 ^ j) (2 ^ t)) ∙ ap (λ k. k * 2 ^ t) (sym back)

-- it is a right child
pub ends_odd : (t s x y : ℕ) → t < s → ends t x ≡ ends s y → x % 2 ≡ 1
ends_odd t s x y h e =
    let j = s - (t + 1) in
    let split : t + (j + 1) ≡ s = omega arith in
    let deep = ends_deep t (j + 1) y in
    let same : ends t x ≡ ends t (ends (j + 1) y - 1) = e ∙ ap (λ k. ends k y) (sym split) ∙ deep in
    let is = ends_inj t x (ends (j + 1) y - 1) same in
    omega (arith, ends_up j y, ends_pos j y)

pub ends_half_odd : (t a : ℕ) → a % 2 ≡ 1 → ends (t + 1) (a / 2) ≡ ends t a
ends_half_odd t a h = let half : 2 * (a / 2) + 1 ≡ a = omega arith in sym (ends_right t (a / 2)) ∙ ap (ends t) half

pub ends_half_even : (t a : ℕ) → a % 2 ≡ 0 → ends (t + 1) (a / 2) ≡ ends t a + 2 ^ t
ends_half_even t a h = let half : 2 * (a / 2) ≡ a = omega arith in sym (ends_left t (a / 2)) ∙ ap (λ k. ends t k + 2 ^ t) half

-- a node that ends within the tree of height T is one of its nodes
pub ends_inside : (T t x : ℕ) → ends t x ≤ 2 ^ T → (t ≤ T) × (x < 2 ^ (T - t))
ends_inside T t x most =
    let low : t ≤ T = ⊎_elim (λ k. absurd (omega (arith, pow-lt k, ends_pow t x))) (λ k. k) (cases_lt T t) in
    let split : t + (T - t) ≡ T = omega arith in
    let all : 2 ^ T ≡ ends t (ends (T - t) 0 - 1) = sym (ends_root T) ∙ ap (λ k. ends k 0) (sym split) ∙ ends_deep t (T - t) 0 in
    let last = ends_le_back t x (ends (T - t) 0 - 1) (omega arith) in
    (low, omega (arith, ends_root (T - t), pow_pos (T - t)))

-- and the other way round
pub inside_ends : (T t x : ℕ) → t ≤ T → x < 2 ^ (T - t) → ends t x ≤ 2 ^ T
unfolding ends
inside_ends T t x low in_tree =
    let split : (T - t) + t ≡ T = omega arith in
    let all : 2 ^ T ≡ 2 ^ (T - t) * 2 ^ t = ap (λ k. 2 ^ k) (sym split) ∙ pow-add 2 (T - t) t in
    omega (arith, mul-le (x + 1) (2 ^ t) (2 ^ (T - t)) (2 ^ t) (omega arith) (omega arith))

-- the node of height p that ends at l
pub newest_end : (l p : ℕ) → 0 < l → l % 2 ^ p ≡ 0 → l ≡ ends p ((l - 1) / 2 ^ p)
unfolding ends
newest_end l p pos even =
    let q = l / 2 ^ p in
    let whole : q * 2 ^ p ≡ l = omega (arith, div-add-mod' l (2 ^ p)) in
    let some : 0 < q = ⊎_elim (λ k. k) (λ k. let z : q ≡ 0 = omega arith in let w : q * 2 ^ p ≡ 0 * 2 ^ p = ap (λ k. k * 2 ^ p) z in absurd (omega arith)) (cases_lt 0 q) in
    let back : q - 1 + 1 ≡ q = omega arith in
    let low : (q - 1) * 2 ^ p + 2 ^ p ≡ l = omega (arith, add-mul (q - 1) 1 (2 ^ p), ap (λ k. k * 2 ^ p) back) in
    let is : (l - 1) / 2 ^ p ≡ q - 1 = div-eq_of_lt-le (2 ^ p) (omega arith) (omega (arith, add-mul (q - 1) 1 (2 ^ p), pow_pos p)) in
    sym (ap (λ k. (k + 1) * 2 ^ p) is ∙ ap (λ k. k * 2 ^ p) back ∙ whole)

pub newest_is : (l p a : ℕ) → l ≡ ends p a → (l - 1) / 2 ^ p ≡ a
unfolding ends
newest_is l p a e = div-eq_of_lt-le (2 ^ p) (omega (arith, add-mul a 1 (2 ^ p), pow_pos p)) (omega (arith, add-mul a 1 (2 ^ p), pow_pos p))

pub cases_mod : (x : ℕ) → (x % 2 ≡ 0) ⊎ (x % 2 ≡ 1)
cases_mod x = ⊎_elim inl (λ o. inr (⊎_elim (λ k. absurd (omega arith)) (λ k. omega arith) o)) (cases_order (x % 2) 0)

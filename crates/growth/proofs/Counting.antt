-- How many joins led to a progress.
use Rattle.std.proofs.Common.{◌≡◌, ℕ, ◌+◌, ◌-◌, ◌*◌, ◌/◌, ◌%◌, ◌^◌, ◌<◌, ◌≤◌, true, false, sym, refl, ap, ◌∙◌, ⊎_elim, add-zero, mod-lt, mul-le-mul_left, div-one, arith, pow_pos}
use native.Mathlib.Nat.{div-eq_of_lt}
use lib.Pow.{ones_lt, split, pow-lt, shr_le}
use lib.Arith.{bin_ind}
use lib.Count.{ones, ones_step, ones_cat}
use Rattle.std.proofs.lemmas.Bool.{cases_lt}
use Rattle.growth.specs.Order.{ends, Reached, newest, join_due, joined}
use Rattle.growth.proofs.Ends.{ends_half_odd, newest_is, twice_pow}
use Rattle.growth.proofs.Making.{due_true, due_false, newest_of}

ones_none : ones 0 ≡ 0
unfolding ones
ones_none = refl

ones_self : (n : ℕ) → ones n ≤ n
ones_self = bin_ind (λ n. ones n ≤ n) (omega (arith, ones_none)) (λ n h. omega (arith, ones_step n))

newest_le : (l p a : ℕ) → l ≡ ends p a → a < l
unfolding ends
newest_le l p a e = omega (arith, mul-le-mul_left {m = 1} (a + 1) (pow_pos p))

-- a join more
pub joined_join : (T l p : ℕ) → Reached T l p → join_due l p ≡ true → joined l (p + 1) ≡ joined l p + 1
unfolding joined
joined_join T l p k e =
    let (pos, odd) = due_true l p e in
    let a = newest l p in
    let at = newest_of T l p k pos in
    let up = at ∙ sym (ends_half_odd p a odd) in
    omega (arith, ones_step a, ap ones (newest_is l (p + 1) (a / 2) up), ones_self a, newest_le l p a at)

ones_even : (a : ℕ) → a % 2 ≡ 0 → ones (a + 1) ≡ ones a + 1
ones_even a even =
    let up : (a + 1) / 2 ≡ a / 2 = omega arith in
    omega (arith, ones_step a, ones_step (a + 1), ap ones up)

ones_ends : (p a : ℕ) → ones (ends p a) ≡ ones (a + 1)
unfolding ends
ones_ends p a = ap ones (sym (add-zero ((a + 1) * 2 ^ p))) ∙ (let z = ones_cat p (a + 1) 0 (pow_pos p) in omega (arith, ones_none))

-- a leaf more
pub joined_leaf : (T l p : ℕ) → Reached T l p → join_due l p ≡ false → joined (l + 1) 0 ≡ joined l p
unfolding joined
joined_leaf T l p k e =
    let same : (l + 1 - 1) / 2 ^ 0 ≡ l = div-one (l + 1 - 1) ∙ omega arith in
    ⊎_elim
    (λ z. omega (arith, ap ones same, ap ones z, ones_none))
    (λ even. ⊎_elim
    (λ pos.
    let a = newest l p in
    let at = newest_of T l p k pos in
    omega (arith, ones_even a even, ones_ends p a, ap ones at, ap ones same, ones_self a, newest_le l p a at))
    (λ none. let z : l ≡ 0 = omega arith in omega (arith, ap ones same, ap ones z, ones_none))
    (cases_lt 0 l))
    (due_false l p e)

pub joined_less : (l p : ℕ) → joined l p ≤ l - 1
unfolding joined
joined_less l p = omega arith

-- the whole tree
pub joined_all : (T : ℕ) → joined (2 ^ T) T ≡ 2 ^ T - 1
unfolding joined
joined_all T =
    let none : (2 ^ T - 1) / 2 ^ T ≡ 0 = div-eq_of_lt (ones_lt T) in
    omega (arith, ap ones none, ones_none)

ones_zero : (n : ℕ) → ones n ≡ 0 → n ≡ 0
ones_zero = bin_ind (λ n. ones n ≡ 0 → n ≡ 0) (λ _. refl) (λ n h e. let half : n / 2 ≡ 0 = h (omega (arith, ones_step n)) in omega (arith, ones_step n))

-- with all units made, the newest node is the root
pub joined_whole : (T l p : ℕ) → Reached T l p → l + joined l p ≡ 2 ^ (T + 1) - 1 → (l ≡ 2 ^ T) × (p ≡ T)
unfolding joined
joined_whole T l p k e =
    let two = twice_pow T in
    let pos = pow_pos T in
    let all : l ≡ 2 ^ T = omega (arith, k.0) in
    let bare : ones (newest l p) ≡ 0 = omega (arith, ones_self (newest l p), shr_le (l - 1) p) in
    let none = ones_zero (newest l p) bare in
    let rest = split (l - 1) p in
    let few = mod-lt (l - 1) (pow_pos p) in
    let zero-part : newest l p * 2 ^ p ≡ 0 * 2 ^ p = ap (λ k. k * 2 ^ p) none in
    (all, ⊎_elim (λ less. absurd (omega (arith, pow-lt less))) (λ q. omega (arith, k.1)) (cases_lt p T))

-- no more units than the whole tree has
pub joined_most : (T l p : ℕ) → l ≤ 2 ^ T → l + joined l p ≤ 2 ^ (T + 1) - 1
joined_most T l p k = omega (arith, joined_less l p, twice_pow T)

-- while units are missing, the root is not made
pub unfinished : (T l p : ℕ) → l + joined l p < 2 ^ (T + 1) - 1 → p ≤ T → l ≡ 2 ^ T → p < T
unfinished T l p few most full =
    ⊎_elim (λ k. k)
    (λ k. let same : p ≡ T = omega arith in absurd (omega (arith, ap (λ z. joined z p) full, ap (joined (2 ^ T)) same, joined_all T, twice_pow T, pow_pos T)))
    (cases_lt p T)

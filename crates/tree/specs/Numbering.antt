-- Numbers as four bytes and back, and the test of a number against a height.
use Rattle.std.specs.Prelude.{◌≡◌, ℕ, ◌+◌, ◌*◌, ◌/◌, ◌^◌, ◌<◌, ◌≤◌, true, List, [], ◌∷◌, ◌++◌, Some, None, Option, ◌==◌, nat_lt, unwrap_or}
use Rattle.std.specs.Option.{SomeIff}
use Rattle.std.proofs.Common.{zero, suc, lit<, refl, get_or, sym, ap, ◌∙◌, ⊎_elim, arith, pow_pos, pow_mono}
use Rattle.std.proofs.Math.Nat.{div-eq_of_lt}
use Rattle.std.proofs.lemmas.Nat.{le-div, from_be_bytes-to_be_bytes_4, be_bytes_4}
use Rattle.std.proofs.lemmas.Bool.{cases_lt, eq-eqb, ne_eqb, lt-ltb, le-ltb}
use Rattle.tree.specs.Numbers.{number_bytes, number_at}

-- four digits to base 256, from the highest on and by their worth
by_worth : (a b c d : ℕ) → ((a * 256 + b) * 256 + c) * 256 + d ≡ a * 2 ^ 24 + b * 2 ^ 16 + c * 2 ^ 8 + d
by_worth a b c d = omega arith

-- a number below 2^32 comes back from its bytes, whatever follows them
pub number_at_bytes : (n : ℕ) (rest : List ℕ) → n < 2 ^ 32 → number_at 0 (number_bytes n ++ rest) ≡ n
number_at_bytes n rest h = by_worth _ _ _ _ ∙ from_be_bytes-to_be_bytes_4 n h

are_small : (a b c d : ℕ) → a < 256 → b < 256 → c < 256 → d < 256 → (i : ℕ) → get_or (a ∷ b ∷ c ∷ d ∷ []) i 0 < 256
are_small a b c d ha hb hc hd zero = ha
are_small a b c d ha hb hc hd (suc zero) = hb
are_small a b c d ha hb hc hd (suc (suc zero)) = hc
are_small a b c d ha hb hc hd (suc (suc (suc zero))) = hd
are_small a b c d ha hb hc hd (suc (suc (suc (suc i)))) = lit< tt

-- four bytes come back from their number
pub bytes_of_number : (a b c d : ℕ) (rest : List ℕ) → a < 256 → b < 256 → c < 256 → d < 256 → number_bytes (number_at 0 (a ∷ b ∷ c ∷ d ∷ rest)) ≡ a ∷ b ∷ c ∷ d ∷ []
bytes_of_number a b c d rest ha hb hc hd = be_bytes_4 (a ∷ b ∷ c ∷ d ∷ []) (number_at 0 (a ∷ b ∷ c ∷ d ∷ rest)) refl (are_small a b c d ha hb hc hd) (by_worth a b c d)

-- a number is below a power of two where its shift is 0
pub shift_test : (n h : ℕ) → (n / 2 ^ h == 0) ≡ nat_lt n (2 ^ h)
shift_test n h =
    ⊎_elim (λ below. eq-eqb (n / 2 ^ h) 0 (div-eq_of_lt below) ∙ sym (lt-ltb n (2 ^ h) below))
    (λ above.
    let some : 1 ≤ n / 2 ^ h = le-div 1 n (2 ^ h) (pow_pos h) (omega arith) in
    ne_eqb (n / 2 ^ h) 0 (λ e. omega arith) ∙ sym (le-ltb n (2 ^ h) above))
    (cases_lt n (2 ^ h))

-- every number of 32 bits is below a power past that
pub below_any : (n h : ℕ) → n < 2 ^ 32 → 32 ≤ h → nat_lt n (2 ^ h) ≡ true
below_any n h small tall = let wide = pow_mono tall in lt-ltb n (2 ^ h) (omega arith)

-- so a shift of 32 bits tells, which is none if it would go past them
pub checked_shift_test : (n h : ℕ) (shifted : Option ℕ) → n < 2 ^ 32 → SomeIff shifted (h < 32) (n / 2 ^ h) → (unwrap_or shifted 0 == 0) ≡ nat_lt n (2 ^ h)
checked_shift_test n h None small far = sym (below_any n h small (⊎_elim (λ near. absurd (far near)) (λ tall. tall) (cases_lt h 32)))
checked_shift_test n h (Some rest) small (near, is) = ap (λ k. k == 0) is ∙ shift_test n h

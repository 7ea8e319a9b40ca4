-- The functions on 32-bit words of FIPS 180-4, sections 3.2 and 4.1.2. A word is a number below 2 ^ 32.
use Rattle.std.specs.Prelude.{ℕ, ◌+◌, ◌-◌, ◌*◌, ◌/◌, ◌%◌, ◌^◌, ◌<◌, bit_and, bit_or, bit_xor}

-- 3.2: the complement, addition modulo 2 ^ 32, the shift to the right and the rotation to the right by n bits, 0 < n < 32.
abbrev pub complement : ℕ → ℕ
complement x = 2 ^ 32 - 1 - x

abbrev pub add : ℕ → ℕ → ℕ
add x y = (x + y) % 2 ^ 32

abbrev pub shr : ℕ → ℕ → ℕ
shr n x = x / 2 ^ n

abbrev pub IsRotation : ℕ → Type 0
IsRotation n = (0 < n) × (n < 32)

abbrev pub rotr : ℕ → ℕ → ℕ
rotr n x = bit_or (x / 2 ^ n) ((x * 2 ^ (32 - n)) % 2 ^ 32)

-- 4.1.2, equations 4.2 and 4.3.
abbrev pub Ch : ℕ → ℕ → ℕ → ℕ
Ch x y z = bit_xor (bit_and x y) (bit_and (complement x) z)

abbrev pub Maj : ℕ → ℕ → ℕ → ℕ
Maj x y z = bit_xor (bit_xor (bit_and x y) (bit_and x z)) (bit_and y z)

-- Equations 4.4 and 4.5: three rotations, by a, b and c bits.
abbrev pub big_sigma : ℕ → ℕ → ℕ → ℕ → ℕ
big_sigma a b c x = bit_xor (bit_xor (rotr a x) (rotr b x)) (rotr c x)

abbrev pub Σ₀ : ℕ → ℕ
Σ₀ x = big_sigma 2 13 22 x

abbrev pub Σ₁ : ℕ → ℕ
Σ₁ x = big_sigma 6 11 25 x

-- Equations 4.6 and 4.7: two rotations, by a and b bits, and a shift by c bits.
abbrev pub small_sigma : ℕ → ℕ → ℕ → ℕ → ℕ
small_sigma a b c x = bit_xor (bit_xor (rotr a x) (rotr b x)) (shr c x)

abbrev pub σ₀ : ℕ → ℕ
σ₀ x = small_sigma 7 18 3 x

abbrev pub σ₁ : ℕ → ℕ
σ₁ x = small_sigma 17 19 10 x

-- Spans of leaves: how high one can be, and what its test says.
use Rattle.std.specs.Prelude.{◌≡◌, ℕ, ◌+◌, ◌-◌, ◌%◌, ◌^◌, ◌<◌, ◌≤◌, true, false, ◌==◌, nat_le}
use Rattle.std.proofs.Common.{arith, pow_mono}
use Rattle.std.proofs.lemmas.Bool.{and_parts, and_right, leb-true, lt-leb, eqb-true, cases_lt}
use Rattle.std.proofs.lemmas.Bool.Decides.{nat_tests}
use Rattle.tree.specs.Numbers.{aligned}

-- no span is higher than 20
pub too_high : (f t : ℕ) → 20 < t → aligned f t ≡ false
too_high f t h =
    let tall = pow_mono {i = 21} {j = t} h in
    and_right (f % 2 ^ t == 0) (nat_le (f + 2 ^ t) (2 ^ 20)) (lt-leb _ _ (omega arith))

pub fits : (f t : ℕ) → aligned f t ≡ true → (t ≤ 20) × (f + 2 ^ t ≤ 2 ^ 20) × (f % 2 ^ t ≡ 0)
fits f t e =
    let parts = and_parts (f % 2 ^ t == 0) (nat_le (f + 2 ^ t) (2 ^ 20)) e in
    let within = leb-true _ _ parts.1 in
    let low : t ≤ 20 = mathlib.Core.Logic.⊎_elim (λ lt. let tall = pow_mono {i = 21} {j = t} lt in absurd (omega arith)) (λ le. le) (cases_lt 20 t) in
    (low, within, eqb-true _ _ parts.0)

-- the same test where n = 2^t is at hand and divides f
pub whole_test : (f t n : ℕ) → n ≡ 2 ^ t → n ≤ 2 ^ 20 → f % n ≡ 0 → nat_le f (2 ^ 20 - n) ≡ aligned f t
whole_test f t n e small zero =
    let at : f % 2 ^ t ≡ 0 = rw (← e) zero in
    grind (arith, nat_tests)

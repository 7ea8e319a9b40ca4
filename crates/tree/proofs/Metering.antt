-- Laws of a meter that goes on.
use Rattle.std.proofs.Common.{◌≡◌, ℕ, ◌+◌, ◌%◌, ◌^◌, ◌<◌, ap, ◌∙◌, ap₂, add-zero, add_assoc, mod-eq_of_lt}
use native.Mathlib.Nat.{mod-add-mod}
use Rattle.tree.specs.Meaning.{Meter, Wraps, reading, after}

more : (n a b : ℕ) → ((n + a) % 2 ^ 64 + b) % 2 ^ 64 ≡ (n + (a + b)) % 2 ^ 64
more n a b = mod-add-mod (n + a) (2 ^ 64) b ∙ ap (λ k. k % 2 ^ 64) (add_assoc n a b)

none : (n : ℕ) → n < 2 ^ 64 → (n + 0) % 2 ^ 64 ≡ n
none n h = ap (λ k. k % 2 ^ 64) (add-zero n) ∙ mod-eq_of_lt h

pub after_after : (a b c d : ℕ) (m : Meter) → after c d (after a b m) ≡ after (a + c) (b + d) m
after_after a b c d m = ap₂ reading (more m.leaves a c) (more m.joins b d)

pub after_none : (m : Meter) → Wraps m → after 0 0 m ≡ m
after_none m w = ap₂ reading (none m.leaves w.leaves) (none m.joins w.joins)

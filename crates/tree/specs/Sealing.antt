-- Digests as the sealed maker's nodes.
use Rattle.std.specs.Prelude.{◌≡◌, ℕ, Bool, true, false, List, length, Some, ◌==◌, nat_eq, refl}
use Rattle.std.proofs.Common.{sym, ap, ◌∙◌, arith, lit<, lit≤}
use mathlib.Core.HLevel.{is_prop→PathP}
use Rattle.std.proofs.Math.Nat.{ℕ_set}
use Rattle.std.proofs.lemmas.Bool.{eq-eqb, both_ways}
use Rattle.tree.specs.Meaning.{Lawful, OneSpelling}
use Rattle.tree.specs.Digests.{read_if, sealed_meaning}
use Rattle.tree.specs.declared.digest.Digest.{Digest}

pub same_digest : (x y : Digest) → x.bytes ≡ y.bytes → x ≡ y
same_digest x y p = λ j. record { bytes = p j; full = is_prop→PathP (λ k. length (p k) ≡ 32) (λ k. ℕ_set _ _) x.full y.full j }

reads_if : (bytes : List ℕ) (b : Bool) (e : nat_eq (length bytes) 32 ≡ b) (x : Digest) → bytes ≡ x.bytes → read_if bytes b e ≡ Some x
reads_if bytes true e x same = ap Some (same_digest _ x same)
reads_if bytes false e x same = absurd (both_ways (length bytes == 32) e (eq-eqb (length bytes) 32 (ap length same ∙ x.full)))

-- bytes of a digest read as it
pub reads_digest : (bytes : List ℕ) (x : Digest) → bytes ≡ x.bytes → sealed_meaning.read bytes ≡ Some x
reads_digest bytes x same = reads_if bytes (length bytes == 32) refl x same

spells_if : (bytes : List ℕ) (b : Bool) (e : nat_eq (length bytes) 32 ≡ b) (x : Digest) → read_if bytes b e ≡ Some x → x.bytes ≡ bytes
spells_if bytes true e x found = let same : record { bytes = bytes; full = Rattle.std.proofs.lemmas.Bool.eqb-true (length bytes) 32 e } ≡ x = cc in sym (ap (λ y. y.bytes) same)
spells_if bytes false e x found = let z : ◌≡◌ {A = ℕ} 0 1 = cc in absurd (omega arith)

pub sealed_lawful : Lawful sealed_meaning
sealed_lawful = record {
  reads_back = λ x. reads_digest x.bytes x refl;
  fills = λ x. x.full;
  at_least = lit≤ tt;
  at_most = lit≤ tt;
  kind_fits = lit< tt;
}

pub sealed_one_spelling : OneSpelling sealed_meaning
sealed_one_spelling bytes x long each found = spells_if bytes (length bytes == 32) refl x found

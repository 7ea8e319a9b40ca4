-- The sealed maker: SHA-256 of the token, and of the left child and then the right one.
use Rattle.std.specs.Prelude.{◌≡◌, ℕ, Bool, true, false, List, ◌++◌, length, Some, None, Option, ◌==◌, refl}
use Rattle.std.proofs.lemmas.Bool.{eqb-true}
use Rattle.hashing.specs.Sha256.{sha256}
use Rattle.hashing.proofs.Lengths.{length_sha256}
use Rattle.tree.specs.Meaning.{Meaning}
use Rattle.tree.specs.Kinds.{kind_byte, node_width}
use Rattle.tree.specs.declared.kind.Kind.TheVariants.{Sealed}
use Rattle.tree.specs.declared.digest.Digest.{Digest}

abbrev pub digest_of : List ℕ → Digest
digest_of message = record { bytes = sha256 message; full = length_sha256 message }

-- any 32 bytes are a digest
abbrev pub read_if : (bytes : List ℕ) (b : Bool) → (length bytes == 32) ≡ b → Option Digest
read_if bytes true e = Some (record { bytes = bytes; full = eqb-true (length bytes) 32 e })
read_if bytes false e = None

abbrev pub sealed_meaning : Meaning Digest
sealed_meaning = record {
  leaf = λ number token. digest_of token;
  join = λ left right. digest_of (left.bytes ++ right.bytes);
  put = λ x. x.bytes;
  read = λ bytes. read_if bytes (length bytes == 32) refl;
  kind = kind_byte Sealed;
  width = node_width Sealed;
}

-- A text of hex digits and the bytes that it stands for.
use Rattle.std.specs.Prelude.{◌≡◌, ℕ, ◌+◌, ◌*◌, List, [], ◌∷◌, Some, None, Ok, Err, vec_items, Option, Result, Vec}
use Rattle.std.specs.declared.alloc.Global.{Global}
use Rattle.strip.specs.Hex.{digit_value}
use Rattle.text.specs.declared.bytes.NoBytes.{NoBytes}
use Rattle.text.specs.declared.bytes.NoBytes.TheVariants.{NotHex, NoMemory}

-- one byte more in front, if both digits and the rest are there
abbrev pub byte_before : Option ℕ → Option ℕ → Option (List ℕ) → Option (List ℕ)
byte_before (Some high) (Some low) (Some rest) = Some ((16 * high + low) ∷ rest)
byte_before (Some high) (Some low) None = None
byte_before (Some high) None rest = None
byte_before None low rest = None

-- the bytes of a text, if it is pairs of hex digits
abbrev pub bytes_of : List ℕ → Option (List ℕ)
bytes_of [] = Some []
bytes_of (a ∷ []) = None
bytes_of (a ∷ b ∷ rest) = byte_before (digit_value a) (digit_value b) (bytes_of rest)

-- Decoding: the bytes; a text that is no hex; or no memory for them.
abbrev pub Decodes : List ℕ → Result (Vec ℕ Global) NoBytes → Type 0
Decodes text (Ok v) = bytes_of text ≡ Some (vec_items v)
Decodes text (Err NotHex) = bytes_of text ≡ None
Decodes text (Err NoMemory) = Unit {0}

-- The kinds of makers: the byte of each in a strip, the width of its nodes, its name.
use Rattle.std.specs.Prelude.{◌≡◌, ◌≢◌, ℕ, List, ◌++◌, Ok, Err, Result, codes, decimal}
use Rattle.tree.specs.declared.kind.Kind.{Kind}
use Rattle.tree.specs.declared.kind.Kind.TheVariants.{Sealed, Dummy}
use Rattle.tree.specs.declared.kind.UnknownKind.{UnknownKind}

-- the byte that names a kind
abbrev pub kind_byte : Kind → ℕ
kind_byte Sealed = 1
kind_byte Dummy = 2

-- how many bytes a node has
abbrev pub node_width : Kind → ℕ
node_width Sealed = 32
node_width Dummy = 5

abbrev pub kind_name : Kind → List ℕ
kind_name Sealed = codes "sealed"
kind_name Dummy = codes "dummy"

-- The kind that a byte names, or a refusal of a byte that names none.
abbrev pub Decodes : ℕ → Result Kind UnknownKind → Type 0
Decodes byte (Ok kind) = kind_byte kind ≡ byte
Decodes byte (Err e) = (e.0 ≡ byte) × ((kind : Kind) → kind_byte kind ≢ byte)

abbrev pub unknown_text : UnknownKind → List ℕ
unknown_text e = codes "no maker has kind " ++ decimal e.0

-- What a maker of tree nodes means: its two node functions, the bytes of a node, its kind, and its meter.
use Rattle.std.specs.Prelude.{◌≡◌, ℕ, ◌+◌, ◌%◌, ◌^◌, ◌<◌, ◌≤◌, List, ◌++◌, length, take, drop, Some, Ok, Err, Option, Result, slice_index}
use Rattle.tree.specs.declared.fault.TooShort.{TooShort}

pub record Meaning (N : Type 0) : Type 0 where
  -- the leaf of a number and its token
  pub leaf : ℕ → List ℕ → N
  -- the parent of a left and a right child
  pub join : N → N → N
  -- a node as bytes, and the node that some bytes are, if they are one
  pub put : N → List ℕ
  pub read : List ℕ → Option N
  -- the byte that names the maker in a strip, and how many bytes a node has
  pub kind : ℕ
  pub width : ℕ

-- What every meaning keeps.
pub record Lawful {N : Type 0} (m : Meaning N) : Type 0 where
  pub reads_back : (x : N) → m.read (m.put x) ≡ Some x
  pub fills : (x : N) → length (m.put x) ≡ m.width
  pub at_least : 1 ≤ m.width
  pub at_most : m.width ≤ 32
  pub kind_fits : m.kind < 256

-- Some makers keep this too: bytes that read as a node are those that the node is put into.
abbrev pub OneSpelling : {N : Type 0} → Meaning N → Type 0
OneSpelling {N} m = (bytes : List ℕ) (x : N) → length bytes ≡ m.width → ((i : ℕ) → slice_index bytes i < 256) → m.read bytes ≡ Some x → m.put x ≡ bytes

-- How many leaves and joins a maker has made, each modulo 2^64.
pub record Meter : Type 0 where
  pub leaves : ℕ
  pub joins : ℕ

pub record Wraps (m : Meter) : Type 0 where
  pub leaves : m.leaves < 2 ^ 64
  pub joins : m.joins < 2 ^ 64

abbrev pub reading : ℕ → ℕ → Meter
reading leaves joins = record { leaves = leaves; joins = joins }

-- the meter after so many more leaves and joins
abbrev pub after : ℕ → ℕ → Meter → Meter
after leaves joins m = reading ((m.leaves + leaves) % 2 ^ 64) ((m.joins + joins) % 2 ^ 64)

-- the refusal of a slice that should have had n elements
abbrev pub short_of : ℕ → TooShort
short_of n = record { needed = n }

-- What putting a node into a slice answers, and what the slice then holds.
abbrev pub Puts : {N : Type 0} → Meaning N → N → List ℕ → List ℕ → Result Unit TooShort → Type 0
Puts m x before now (Ok _) = (m.width ≤ length before) × (now ≡ m.put x ++ drop m.width before)
Puts m x before now (Err e) = (length before < m.width) × (now ≡ before) × (e ≡ short_of m.width)

-- What reading a node from a slice's front answers.
abbrev pub Reads : {N : Type 0} → Meaning N → List ℕ → Result (Option N) TooShort → Type 0
Reads m bytes (Ok found) = (m.width ≤ length bytes) × (found ≡ m.read (take m.width bytes))
Reads m bytes (Err e) = (length bytes < m.width) × (e ≡ short_of m.width)

-- Reading one piece of a text: one word out of several, from the front of what is left.
use Rattle.std.specs.Prelude.{◌≡◌, ℕ, ◌+◌, ◌-◌, ◌<◌, ◌≤◌, ◌==◌, ◌&&◌, cond, nat_le, List, [], ◌∷◌, ◌++◌, length, take, Some, None, Ok, Err, Option, Result, ◌≢◌, slice_index}
use Rattle.strip.specs.Hex.{hex_text}
use Rattle.tree.specs.declared.kind.Kind.{Kind}
use Rattle.ticket.specs.declared.reader.Wrong.{Wrong}
use Rattle.ticket.specs.Texts.{kind_line, number_line}

-- Bytes that begin with none of the good words, and go wrong at a place within one.
pub record WrongWord {A : Type 0} (Good : A → Type 0) (word : A → List ℕ) (xs : List ℕ) (k : ℕ) : Type 0 where
  pub within : k ≤ length xs
  pub begins : (a : A) × Good a × (rest : List ℕ) × (word a ≡ take k xs ++ rest)
  pub stops : k < length xs → (a : A) → Good a → (rest : List ℕ) → word a ≢ take (k + 1) xs ++ rest
  pub none : (a : A) → Good a → (ys : List ℕ) → xs ≢ word a ++ ys

-- which heights and seeds a ticket can say
abbrev pub GoodNumber : ℕ → Type 0
GoodNumber n = (1 ≤ n) × (n ≤ 99)

abbrev pub GoodSeed : List ℕ → Type 0
GoodSeed seed = (length seed ≡ 32) × ((i : ℕ) → slice_index seed i < 256)

-- with so many bytes left, none of the words goes on
abbrev pub Fails : {A : Type 0} → (A → Type 0) → (A → List ℕ) → List ℕ → ℕ → Type 0
Fails Good word xs left = (k : ℕ) × (k + left ≡ length xs) × WrongWord Good word xs k

-- What is left before and after a piece is read. A word that fails is not read in part.
abbrev pub LiteralRead : List ℕ → List ℕ → List ℕ → Result Unit Wrong → Type 0
LiteralRead before word later (Ok done) = before ≡ word ++ later
LiteralRead before word later (Err wrong) =
    Fails {A = Unit {0}} (λ _. Unit {0}) (λ _. word) before wrong.left × (later ≡ before)

abbrev pub KindRead : List ℕ → List ℕ → Result Kind Wrong → Type 0
KindRead before later (Ok kind) = before ≡ kind_line kind ++ later
KindRead before later (Err wrong) = Fails (λ _. Unit {0}) kind_line before wrong.left

abbrev pub NumberRead : List ℕ → List ℕ → Result ℕ Wrong → Type 0
NumberRead before later (Ok n) = GoodNumber n × (before ≡ number_line n ++ later)
NumberRead before later (Err wrong) = Fails GoodNumber number_line before wrong.left

abbrev pub SeedRead : List ℕ → List ℕ → List ℕ → Result Unit Wrong → Type 0
SeedRead before later seed (Ok done) = GoodSeed seed × (before ≡ hex_text seed ++ later)
SeedRead before later seed (Err wrong) = Fails GoodSeed hex_text before wrong.left

abbrev pub EndRead : List ℕ → Result Unit Wrong → Type 0
EndRead bytes (Ok done) = bytes ≡ []
EndRead bytes (Err wrong) = (bytes ≢ []) × (wrong.left ≡ length bytes)

-- The next byte means a value, or there is none that does; then nothing is read.
abbrev pub NextRead : {T : Type 0} → (ℕ → Option T → Type 0) → List ℕ → List ℕ → Result T Wrong → Type 0
NextRead Means before later (Ok value) = (b : ℕ) × (before ≡ b ∷ later) × Means b (Some value)
NextRead Means before later (Err wrong) =
    (wrong.left ≡ length before) × (later ≡ before) × ((b : ℕ) (rest : List ℕ) → before ≡ b ∷ rest → Means b None)

-- a decimal digit, and one with which a number begins
abbrev pub decimal_value : ℕ → Option ℕ
decimal_value b = cond (nat_le 48 b && nat_le b 57) (Some (b - 48)) None

abbrev pub leading_value : ℕ → Option ℕ
leading_value b = cond (b == 48) None (decimal_value b)

-- the maker whose name begins with a byte, or none
abbrev pub Begins : ℕ → Option Kind → Type 0
Begins b (Some kind) = b ≡ slice_index (kind_line kind) 0
Begins b None = (kind : Kind) → b ≢ slice_index (kind_line kind) 0

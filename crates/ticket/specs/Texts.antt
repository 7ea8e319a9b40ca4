-- Job tickets: what one says, and its text.
use Rattle.std.specs.Prelude.{◌≡◌, ℕ, ◌+◌, ◌/◌, ◌%◌, ◌<◌, ◌≤◌, cond, List, [], ◌∷◌, ◌++◌, length, codes, nat_lt, slice_index}
use Rattle.strip.specs.Hex.{hex_text}
use Rattle.tree.specs.Kinds.{kind_name}
use Rattle.tree.specs.declared.kind.Kind.{Kind}

-- What a ticket says: a kind of maker, two heights and a seed.
pub record Ticket : Type 0 where
  pub kind : Kind
  pub height : ℕ
  pub subtree : ℕ
  pub seed : List ℕ

-- Heights have one or two digits, and the first is not 0; the seed has 32 bytes.
pub record Sayable (t : Ticket) : Type 0 where
  pub height : (1 ≤ t.height) × (t.height ≤ 99)
  pub subtree : (1 ≤ t.subtree) × (t.subtree ≤ 99)
  pub seed : length t.seed ≡ 32
  pub bytes : (i : ℕ) → slice_index t.seed i < 256

abbrev pub kind_line : Kind → List ℕ
kind_line kind = kind_name kind ++ codes "\n"

-- a number below 100 in decimal, and the line's end
abbrev pub number_line : ℕ → List ℕ
number_line n = cond (nat_lt n 10) ((48 + n) ∷ 10 ∷ []) ((48 + n / 10) ∷ (48 + n % 10) ∷ 10 ∷ [])

-- The text of a ticket: four lines.
abbrev pub ticket_text : Ticket → List ℕ
ticket_text t =
    codes "maker " ++ (kind_line t.kind
    ++ (codes "height " ++ (number_line t.height
    ++ (codes "subtree " ++ (number_line t.subtree
    ++ (codes "seed " ++ (hex_text t.seed ++ codes "\n")))))))

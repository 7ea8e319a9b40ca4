-- The bytes of a strip, what they hold, and the first thing that is wrong with them.
use Rattle.std.specs.Prelude.{ℕ, zero, suc, ◌+◌, ◌^◌, Bool, true, cond, List, [], ◌∷◌, ◌++◌, length, take, drop, is_some, Some, None, Option, ◌==◌, nat_le, nat_lt, slice_index}
use Rattle.tree.specs.Meaning.{Meaning}
use Rattle.tree.specs.Numbers.{number_bytes, number_at, legal_height}
use Rattle.tree.specs.Path.{path_bytes}
use Rattle.strip.specs.declared.refusal.Section.{Section}
use Rattle.strip.specs.declared.refusal.Section.TheVariants.{Head, Token, Path}
use Rattle.strip.specs.declared.refusal.Fault.{Fault}

-- The strip of a number in a tree of height H: three sections, each after its count byte.
unfoldable pub strip_bytes : {N : Type 0} → Meaning N → ℕ → ℕ → List ℕ → List N → List ℕ
strip_bytes m H n secret siblings =
    (6 ∷ m.kind ∷ H ∷ number_bytes n)
    ++ (32 ∷ secret)
    ++ (H ∷ path_bytes m siblings)

-- Where its parts stand.
abbrev pub height_in : List ℕ → ℕ
height_in bs = slice_index bs 2

abbrev pub number_in : List ℕ → ℕ
number_in bs = number_at 3 bs

abbrev pub token_in : List ℕ → List ℕ
token_in bs = take 32 (drop 8 bs)

abbrev pub path_in : List ℕ → List ℕ
path_in bs = drop 41 bs

abbrev pub fault : ℕ → Section → Fault
fault p s = record { place = p; section = s }

-- A rule for bytes: it stands in a section from a place on, needs the bytes up to another place, and says
-- whether they are right.
pub record Rule : Type 0 where
  pub section : Section
  pub place : ℕ
  pub upto : ℕ
  pub right : Bool

abbrev pub rule : Section → ℕ → ℕ → Bool → Rule
rule s p u r = record { section = s; place = p; upto = u; right = r }

-- The first of some rules that bytes break. Where they end too soon the place is their length.
abbrev pub first_broken : List ℕ → List Rule → Option Fault
first_broken bs [] = None
first_broken bs (d ∷ ds) =
    cond (nat_lt (length bs) d.upto) (Some (fault (length bs) d.section))
    (cond d.right (first_broken bs ds) (Some (fault d.place d.section)))

-- k nodes from a place on, and nothing after them
abbrev pub node_rules : {N : Type 0} → Meaning N → List ℕ → ℕ → ℕ → List Rule
node_rules m bs p zero = rule Path p p (nat_le (length bs) p) ∷ []
node_rules m bs p (suc k) =
    rule Path p (p + m.width) (is_some (m.read (take m.width (drop p bs)))) ∷ node_rules m bs (p + m.width) k

abbrev pub head_rules : ℕ → List ℕ → List Rule
head_rules kind bs =
    rule Head 0 1 (slice_index bs 0 == 6)
    ∷ rule Head 1 2 (slice_index bs 1 == kind)
    ∷ rule Head 2 3 (legal_height (height_in bs))
    ∷ rule Head 3 7 (nat_lt (number_in bs) (2 ^ height_in bs))
    ∷ []

abbrev pub token_rules : List ℕ → List Rule
token_rules bs =
    rule Token 7 8 (slice_index bs 7 == 32)
    ∷ rule Token 8 40 true
    ∷ []

abbrev pub count_rules : List ℕ → List Rule
count_rules bs = rule Path 40 41 (slice_index bs 40 == height_in bs) ∷ []

-- What is wrong with bytes that should be a strip, if anything is.
unfoldable pub fault_in : {N : Type 0} → Meaning N → List ℕ → Option Fault
fault_in m bs = first_broken bs (head_rules m.kind bs ++ token_rules bs ++ count_rules bs ++ node_rules m bs 41 (height_in bs))

-- What writing, reading and checking a strip answer, and what they leave.
use Rattle.std.specs.Prelude.{◌≡◌, ℕ, ◌+◌, ◌*◌, ◌^◌, ◌<◌, Bool, true, List, [], ◌∷◌, ◌++◌, length, take, drop, Some, None, Ok, Err, Decides, MatchBool, MatchOption, Option, Result, ◌==◌, nat_le, nat_lt, slice_index}
use Rattle.tree.specs.Meaning.{Meaning, Meter, OneSpelling, after}
use Rattle.tree.specs.Numbers.{legal_height}
use Rattle.tree.specs.Tree.{root_of, path_of}
use Rattle.tree.specs.Path.{leads_to, nodes_of}
use Rattle.tree.specs.Spans.{dummy_meaning}
use Rattle.tree.specs.Digests.{sealed_meaning}
use Rattle.strip.specs.declared.parse.Strip.{Strip}
use Rattle.strip.specs.declared.refusal.Refusal.{Refusal}
use Rattle.strip.specs.declared.refusal.Refusal.TheVariants.{Height, Number}
use Rattle.strip.specs.Format.{strip_bytes, height_in, number_in, token_in, path_in, fault_in}
use Rattle.tree.specs.Refusals.{first_refusal}
use Rattle.strip.specs.Refusals.{or_else, short}

-- how long a strip is
abbrev pub strip_length : {N : Type 0} → Meaning N → ℕ → ℕ
strip_length m H = 41 + H * m.width

-- the path that a strip's bytes hold
abbrev pub nodes_in : {N : Type 0} → Meaning N → List ℕ → List N
nodes_in m bs = nodes_of m (height_in bs) (path_in bs)

-- Bytes are the strip of a number, with this token and path.
pub record Holds {N : Type 0} (m : Meaning N) (bs : List ℕ) (H n : ℕ) (secret : List ℕ) (siblings : List N) : Type 0 where
  pub faultless : fault_in m bs ≡ None
  pub height : height_in bs ≡ H
  pub number : number_in bs ≡ n
  pub token : token_in bs ≡ secret
  pub path : nodes_in m bs ≡ siblings

-- What writing checks, in this order, by the lengths of the path, the token and the output; and which refusal
-- it comes to, if any.
abbrev pub write_checks : {N : Type 0} → Meaning N → ℕ → ℕ → ℕ → ℕ → ℕ → List (Bool × Refusal)
write_checks m H n cells secret out =
    (legal_height H, Height H)
    ∷ (nat_lt n (2 ^ H), Number n)
    ∷ (nat_le H cells, short H)
    ∷ (nat_le 32 secret, short 32)
    ∷ (nat_le (strip_length m H) out, short (strip_length m H))
    ∷ []

abbrev pub write_refusal : {N : Type 0} → Meaning N → ℕ → ℕ → ℕ → ℕ → ℕ → Option Refusal
write_refusal m H n cells secret out = first_refusal (write_checks m H n cells secret out)

-- Bytes put at a place, up to an end: what stood before and after them is kept.
pub record Appends (before : List ℕ) (at : ℕ) (bytes later : List ℕ) (end : ℕ) : Type 0 where
  pub end_is : end ≡ at + length bytes
  pub front : take end later ≡ take at before ++ bytes
  pub back : drop end later ≡ drop end before

-- Writing: the strip's bytes at the front and the rest as it was; and they read back as what was written.
abbrev pub Writes : {N : Type 0} → Meaning N → ℕ → ℕ → List N → List ℕ → List ℕ → List ℕ → Result ℕ Refusal → Type 0
Writes m H n siblings secret before later (Ok long) =
    (write_refusal m H n (length siblings) (length secret) (length before) ≡ None)
    × (long ≡ strip_length m H)
    × (later ≡ strip_bytes m H n (take 32 secret) (take H siblings) ++ drop long before)
    × Holds m (take long later) H n (take 32 secret) (take H siblings)
Writes m H n siblings secret before later (Err r) =
    (write_refusal m H n (length siblings) (length secret) (length before) ≡ Some r) × (later ≡ before)

-- Which refusal reading comes to, if any: the first fault of the bytes, then too few cells.
abbrev pub read_refusal : {N : Type 0} → Meaning N → List ℕ → List N → Option Refusal
read_refusal m bs cells =
    or_else (fault_in m bs) (first_refusal ((nat_le (height_in bs) (length cells), short (height_in bs)) ∷ []))

-- Reading: the parts of the bytes, and the path's nodes in the first cells, the others as they were.
abbrev pub ReadsStrip : {N : Type 0} → Meaning N → List ℕ → List N → List N → Result Strip Refusal → Type 0
ReadsStrip m bs before later (Ok s) =
    (read_refusal m bs before ≡ None)
    × (s.height ≡ height_in bs) × (s.number ≡ number_in bs)
    × (s.token.now ≡ token_in bs) × (s.path.now ≡ path_in bs)
    × (later ≡ nodes_in m bs ++ drop (height_in bs) before)
ReadsStrip m bs before later (Err r) = (read_refusal m bs before ≡ Some r) × (later ≡ before)

-- Over a maker of one spelling, a strip that was read and is written again has its old bytes.
abbrev pub SpellsBack : {N : Type 0} → Meaning N → List ℕ → List N → Result Strip Refusal → Type 0
SpellsBack m bs cells (Ok s) = OneSpelling m → strip_bytes m s.height s.number s.token.now (take s.height cells) ≡ bs
SpellsBack m bs cells (Err r) = Unit {0}

-- where a strip's token and path lead
abbrev pub leads : {N : Type 0} → Meaning N → List ℕ → N
leads m bs = leads_to m.join (number_in bs) (m.leaf (number_in bs) (token_in bs)) (nodes_in m bs)

-- Checking: whether the strip leads to the given root, after one leaf and H joins; no node is made for a
-- refusal.
abbrev pub Checks : {N : Type 0} → Meaning N → List ℕ → N → Meter → Meter → Result Bool Refusal → Type 0
Checks m bs top before later (Ok verdict) =
    (fault_in m bs ≡ None) × Decides verdict (leads m bs ≡ top) × (later ≡ after 1 (height_in bs) before)
Checks m bs top before later (Err r) = (or_else (fault_in m bs) None ≡ Some r) × (later ≡ before)

-- Every strip of the full tree is accepted against that tree's root.
abbrev pub AcceptsFullTree : {N : Type 0} → Meaning N → List ℕ → N → Result Bool Refusal → Type 0
AcceptsFullTree m bs top r =
    (tokens : ℕ → List ℕ) (H n : ℕ) → legal_height H ≡ true → n < 2 ^ H → length (tokens n) ≡ 32 →
    bs ≡ strip_bytes m H n (tokens n) (path_of m tokens H n) → top ≡ root_of m tokens H → r ≡ Ok true

-- Judging a strip against a root in bytes: the strip's fault comes first, then a root of another length than
-- a node has. Bytes that are no node are the root of no strip.
abbrev pub Judges : {N : Type 0} → Meaning N → List ℕ → List ℕ → Result Bool Refusal → Type 0
Judges m top bs (Ok verdict) =
    (fault_in m bs ≡ None) × (length top ≡ m.width) × Decides verdict (m.read top ≡ Some (leads m bs))
Judges m top bs (Err r) =
    or_else (fault_in m bs) (first_refusal (((length top == m.width), short m.width) ∷ [])) ≡ Some r

-- What judging makes: one leaf and H joins, where the strip has no fault and the root is a node; else nothing.
abbrev pub CountsJudging : {N : Type 0} → Meaning N → List ℕ → List ℕ → Result Bool Refusal → Meter → Meter → Type 0
CountsJudging m top bs (Ok _) before later =
    MatchOption (m.read top) (later ≡ before) (λ _. later ≡ after 1 (height_in bs) before)
CountsJudging m top bs (Err _) before later = later ≡ before

-- The kind byte picks the maker. Where it names none, the sealed maker refuses the strip.
abbrev pub JudgesByKind : List ℕ → List ℕ → Result Bool Refusal → Type 0
JudgesByKind top bs r = MatchBool (slice_index bs 1 == 2) (Judges dummy_meaning top bs r) (Judges sealed_meaning top bs r)

-- Every strip of a full tree is accepted against the bytes of that tree's root.
abbrev pub AcceptsRoot : {N : Type 0} → Meaning N → List ℕ → List ℕ → Result Bool Refusal → Type 0
AcceptsRoot m top bs r =
    (tokens : ℕ → List ℕ) (H n : ℕ) → legal_height H ≡ true → n < 2 ^ H → length (tokens n) ≡ 32 →
    bs ≡ strip_bytes m H n (tokens n) (path_of m tokens H n) → top ≡ m.put (root_of m tokens H) → r ≡ Ok true

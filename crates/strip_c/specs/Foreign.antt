-- What the calls for C answer, in numbers.
use Rattle.std.specs.Prelude.{◌≡◌, ℕ, ◌^◌, ◌<◌, true, cond, ◌&&◌, List, length, Some, None, MatchBool, Option, ◌==◌, ◌≢◌}
use Rattle.tree.specs.Numbers.{legal_height}
use Rattle.tree.specs.Geometry.{legal_subtree, table_size}
use Rattle.tree.specs.Tree.{root_of, path_of}
use Rattle.tree.specs.Digests.{sealed_meaning}
use Rattle.tree.specs.Spans.{dummy_meaning}
use Rattle.strip.specs.declared.refusal.Fault.{Fault}
use Rattle.strip.specs.Format.{strip_bytes, fault_in}
use Rattle.strip.specs.Calls.{strip_length, leads}

-- the table's size, 0 where there is none
abbrev pub size_or_0 : ℕ → ℕ → ℕ
size_or_0 H h = cond (legal_height H && legal_subtree H h) (table_size H h) 0

-- a strip's length by the maker's kind, 0 where there is none
abbrev pub length_or_0 : ℕ → ℕ → ℕ
length_or_0 kind H =
    cond (legal_height H)
    (cond (kind == 1) (strip_length sealed_meaning H) (cond (kind == 2) (strip_length dummy_meaning H) 0))
    0

-- 11 for a fault; else 0 where the strip leads to the root and 100 where it does not
abbrev pub Tells : List ℕ → List ℕ → Option Fault → ℕ → Type 0
Tells bs top (Some f) r = r ≡ 11
Tells bs top None r =
    (sealed_meaning.read top ≡ Some (leads sealed_meaning bs) → r ≡ 0)
    × ((sealed_meaning.read top ≢ Some (leads sealed_meaning bs)) → r ≡ 100)

-- The check of a sealed strip: 7 for a root that has not 32 bytes comes first.
abbrev pub ChecksSealed : List ℕ → List ℕ → ℕ → Type 0
ChecksSealed bs top r = MatchBool (length top == 32) (Tells bs top (fault_in sealed_meaning bs) r) (r ≡ 7)

-- Every strip of a full tree of the sealed maker stands against the bytes of that tree's root.
abbrev pub AcceptsSealed : List ℕ → List ℕ → ℕ → Type 0
AcceptsSealed bs top r =
    (tokens : ℕ → List ℕ) (H n : ℕ) → legal_height H ≡ true → n < 2 ^ H → length (tokens n) ≡ 32 →
    bs ≡ strip_bytes sealed_meaning H n (tokens n) (path_of sealed_meaning tokens H n) → top ≡ sealed_meaning.put (root_of sealed_meaning tokens H) → r ≡ 0

-- The names of the makers.
use Rattle.std.proofs.Common.{◌≡◌, ℕ, ◌+◌, ◌<◌, List, ◌++◌, length, get_or, take, sym, refl, ap, ◌∙◌, subst, arith}
use Rattle.std.proofs.lemmas.List.{get_or-take, get_or_append_left, length-take-le}
use Rattle.tree.specs.declared.kind.Kind.{Kind}
use Rattle.tree.specs.declared.kind.Kind.TheVariants.{Sealed, Dummy}
use Rattle.ticket.specs.Texts.{kind_line}
use Rattle.ticket.specs.Pieces.{WrongWord}

-- a name is known by its first byte
by_first : (a b : Kind) → get_or (kind_line a) 0 0 ≡ get_or (kind_line b) 0 0 → a ≡ b
by_first Sealed Sealed e = refl
by_first Sealed Dummy e = absurd (omega arith)
by_first Dummy Sealed e = absurd (omega arith)
by_first Dummy Dummy e = refl

some_bytes : (a : Kind) → 0 < length (kind_line a)
some_bytes Sealed = lib.Dec.lit< tt
some_bytes Dummy = lib.Dec.lit< tt

pub kinds_apart : (a b : Kind) → Unit {0} → Unit {0} → (rest : List ℕ) → kind_line a ≡ kind_line b ++ rest → a ≡ b
kinds_apart a b ga gb rest e = by_first a b (ap (λ l. get_or l 0 0) e ∙ get_or_append_left (kind_line b) rest 0 0 (some_bytes b))

-- a name begins so and goes wrong later
pub kind_fails : (a : Kind) (xs : List ℕ) (k : ℕ) → 0 < length xs → get_or xs 0 0 ≡ get_or (kind_line a) 0 0 → WrongWord {A = Unit {0}} (λ _. Unit {0}) (λ _. kind_line a) xs k → WrongWord (λ _. Unit {0}) kind_line xs k
kind_fails a xs k some first wrong = record {
  within = wrong.within;
  begins = (a, tt, wrong.begins.2, wrong.begins.3);
  stops = λ lt b g rest e.
      let size = length-take-le (k + 1) xs (omega arith) in
      let start = ap (λ l. get_or l 0 0) e ∙ get_or_append_left (take (k + 1) xs) rest 0 0 (omega arith) ∙ get_or-take (k + 1) xs 0 0 (omega arith) in
      wrong.stops lt tt tt rest (subst (λ c. kind_line c ≡ take (k + 1) xs ++ rest) (by_first b a (start ∙ first)) e);
  none = λ b g ys e.
      let start = sym (ap (λ l. get_or l 0 0) e ∙ get_or_append_left (kind_line b) ys 0 0 (some_bytes b)) in
      wrong.none tt tt ys (subst (λ c. xs ≡ kind_line c ++ ys) (by_first b a (start ∙ first)) e);
}

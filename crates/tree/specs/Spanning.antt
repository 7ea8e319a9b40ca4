-- Spans as the dummy maker's nodes.
use Rattle.std.specs.Prelude.{replicate, ◌&&◌, ◌≡◌, ℕ, ◌<◌, ◌≤◌, Bool, true, false, cond, List, [], ◌∷◌, ◌++◌, length, take, Some, None, ◌==◌, slice_index, refl}
use Rattle.std.proofs.Common.{eqb, sym, ap, ap₂, ◌∙◌, ⊎_elim, arith, lit<, lit≤}
use mathlib.Core.HLevel.{is_prop→PathP}
use Rattle.std.proofs.Math.Bool.{Bool-set}
use Rattle.std.proofs.lemmas.Bool.{both_ways, cases_Bool, cond-true, cond-false, and_right, ne_eqb}
use Rattle.std.specs.Cmp.Lexicographic.{pointwise}
use Rattle.std.proofs.lemmas.Slice.Eq.{slice_eq-Decides}
use Rattle.std.proofs.lemmas.Bool.Decides.{Decides-eqb}
use Rattle.tree.specs.Meaning.{Lawful, OneSpelling}
use Rattle.tree.specs.Numbers.{number_at, aligned}
use Rattle.tree.specs.Spans.{span_if, span, put_span, are_broken, read_span, dummy_meaning}
use Rattle.tree.specs.Aligning.{fits}
use Rattle.tree.specs.Numbering.{number_at_bytes, bytes_of_number}
use Rattle.tree.specs.declared.span.Interval.{Interval}
use Rattle.tree.specs.declared.span.Span.{Span}
use Rattle.tree.specs.declared.span.Span.TheVariants.{Sound, Broken}

pub same_interval : (a b : Interval) → a.first ≡ b.first → a.height ≡ b.height → a ≡ b
same_interval a b p q =
    λ j. record { first = p j; height = q j; whole = is_prop→PathP (λ k. aligned (p k) (q k) ≡ true) (λ k. Bool-set _ _) a.whole b.whole j }

sound_if : (f t : ℕ) (b : Bool) (e : aligned f t ≡ b) (a : Interval) → a.first ≡ f → a.height ≡ t → span_if f t b e ≡ Sound a
sound_if f t true e a p q = ap Sound (same_interval (record { first = f; height = t; whole = e }) a (sym p) (sym q))
sound_if f t false e a p q = absurd (both_ways (aligned f t) e (sym (ap₂ aligned p q) ∙ a.whole))

-- the span of an interval's numbers is that interval
pub span_sound : (a : Interval) → span a.first a.height ≡ Sound a
span_sound a = sound_if a.first a.height (aligned a.first a.height) refl a refl refl

broken_if : (f t : ℕ) (b : Bool) (e : aligned f t ≡ b) → aligned f t ≡ false → span_if f t b e ≡ Broken
broken_if f t true e bad = absurd (both_ways (aligned f t) bad e)
broken_if f t false e bad = refl

pub span_broken : (f t : ℕ) → aligned f t ≡ false → span f t ≡ Broken
span_broken f t bad = broken_if f t (aligned f t) refl bad

-- bytes that are not broken and name whole leaves
pub read_whole : (bs : List ℕ) → are_broken bs ≡ false → aligned (number_at 0 bs) (slice_index bs 4) ≡ true → read_span bs ≡ Some (span (number_at 0 bs) (slice_index bs 4))
read_whole bs sound whole =
    cond-false (are_broken bs) (Some Broken) _ sound
    ∙ cond-true (aligned (number_at 0 bs) (slice_index bs 4)) (Some (span (number_at 0 bs) (slice_index bs 4))) None whole

-- only the first five bytes count
pub read_front : (bs : List ℕ) → 5 ≤ length bs → read_span (take 5 bs) ≡ read_span bs
read_front [] h = absurd (omega arith)
read_front (_ ∷ []) h = absurd (omega arith)
read_front (_ ∷ _ ∷ []) h = absurd (omega arith)
read_front (_ ∷ _ ∷ _ ∷ []) h = absurd (omega arith)
read_front (_ ∷ _ ∷ _ ∷ _ ∷ []) h = absurd (omega arith)
read_front (a ∷ b ∷ c ∷ d ∷ e ∷ rest) h = refl

-- what holds of any five elements holds of a list of five
pub with_five : (P : List ℕ → Type 0) → ((a b c d e : ℕ) → P (a ∷ b ∷ c ∷ d ∷ e ∷ [])) → (bs : List ℕ) → length bs ≡ 5 → P bs
with_five P holds (a ∷ b ∷ c ∷ d ∷ e ∷ []) long = holds a b c d e
with_five P holds [] long = absurd (omega arith)
with_five P holds (_ ∷ []) long = absurd (omega arith)
with_five P holds (_ ∷ _ ∷ []) long = absurd (omega arith)
with_five P holds (_ ∷ _ ∷ _ ∷ []) long = absurd (omega arith)
with_five P holds (_ ∷ _ ∷ _ ∷ _ ∷ []) long = absurd (omega arith)
with_five P holds (_ ∷ _ ∷ _ ∷ _ ∷ _ ∷ _ ∷ rest) long = absurd (omega arith)

read_put : (x : Span) → read_span (put_span x) ≡ Some x
read_put Broken = refl
read_put (Sound a) =
    let in_range = fits a.first a.height a.whole in
    let bs : List ℕ = put_span (Sound a) in
    let back : number_at 0 bs ≡ a.first = number_at_bytes a.first (a.height ∷ []) (omega arith) in
    let sound : are_broken bs ≡ false = and_right _ (a.height == 255) (ne_eqb a.height 255 (λ e. omega arith)) in
    read_whole bs sound (ap (λ n. aligned n a.height) back ∙ a.whole)
    ∙ ap Some (ap (λ n. span n a.height) back ∙ span_sound a)

fills_five : (x : Span) → length (put_span x) ≡ 5
fills_five Broken = refl
fills_five (Sound a) = refl

pub dummy_lawful : Lawful dummy_meaning
dummy_lawful = record {
  reads_back = read_put;
  fills = fills_five;
  at_least = lit≤ tt;
  at_most = lit≤ tt;
  kind_fits = lit< tt;
}

-- the five comparisons with 255, from the left as from the right
from_the_left : (p q r s t : Bool) → (p && (q && (r && (s && (t && true))))) ≡ (p && q && r && s && t)
from_the_left false q r s t = refl
from_the_left true false r s t = refl
from_the_left true true false s t = refl
from_the_left true true true false t = refl
from_the_left true true true true false = refl
from_the_left true true true true true = refl

pub are_broken_as_equal : (bs : List ℕ) → length bs ≡ 5 → pointwise eqb bs (255 ∷ 255 ∷ 255 ∷ 255 ∷ 255 ∷ []) ≡ are_broken bs
are_broken_as_equal = with_five (λ bs. pointwise eqb bs (255 ∷ 255 ∷ 255 ∷ 255 ∷ 255 ∷ []) ≡ are_broken bs) (λ a b c d e. from_the_left (eqb a 255) (eqb b 255) (eqb c 255) (eqb d 255) (eqb e 255))

module _ (a b c d e : ℕ) (x : Span) (found : read_span (a ∷ b ∷ c ∷ d ∷ e ∷ []) ≡ Some x) where
  spelled_broken : are_broken (a ∷ b ∷ c ∷ d ∷ e ∷ []) ≡ true → put_span x ≡ a ∷ b ∷ c ∷ d ∷ e ∷ []
  spelled_broken all =
      let bs : List ℕ = a ∷ b ∷ c ∷ d ∷ e ∷ [] in
      let is : read_span bs ≡ Some Broken = cond-true (are_broken bs) (Some Broken) (cond (aligned (number_at 0 bs) e) (Some (span (number_at 0 bs) e)) None) all in
      let broken : x ≡ Broken = cc in
      ap put_span broken ∙ sym ((slice_eq-Decides Decides-eqb bs (replicate 5 255) (are_broken bs) (sym (are_broken_as_equal bs refl))).0 all)

  spelled_whole : a < 256 → b < 256 → c < 256 → d < 256 → are_broken (a ∷ b ∷ c ∷ d ∷ e ∷ []) ≡ false → aligned (number_at 0 (a ∷ b ∷ c ∷ d ∷ e ∷ [])) e ≡ true → put_span x ≡ a ∷ b ∷ c ∷ d ∷ e ∷ []
  spelled_whole ha hb hc hd sound whole =
      let bs : List ℕ = a ∷ b ∷ c ∷ d ∷ e ∷ [] in
      let is = read_whole bs sound whole in
      let at : Interval = record { first = number_at 0 bs; height = e; whole = whole } in
      let back = span_sound at in
      let same : x ≡ Sound at = cc in
      ap put_span same ∙ ap (λ l. l ++ e ∷ []) (bytes_of_number a b c d (e ∷ []) ha hb hc hd)

  spelled_five : a < 256 → b < 256 → c < 256 → d < 256 → put_span x ≡ a ∷ b ∷ c ∷ d ∷ e ∷ []
  spelled_five ha hb hc hd =
      let bs : List ℕ = a ∷ b ∷ c ∷ d ∷ e ∷ [] in
      ⊎_elim spelled_broken
      (λ sound. ⊎_elim (spelled_whole ha hb hc hd sound)
      (λ bad.
      let none = cond-false (are_broken bs) (Some Broken) _ sound ∙ cond-false (aligned (number_at 0 bs) e) (Some (span (number_at 0 bs) e)) None bad in
      let clash : ◌≡◌ {A = ℕ} 0 1 = cc in
      absurd (omega arith))
      (cases_Bool (aligned (number_at 0 bs) e)))
      (cases_Bool (are_broken bs))

pub dummy_one_spelling : OneSpelling dummy_meaning
dummy_one_spelling bytes x long each found =
    with_five (λ bs. ((i : ℕ) → slice_index bs i < 256) → read_span bs ≡ Some x → put_span x ≡ bs) (λ a b c d e small is. spelled_five a b c d e x is (small 0) (small 1) (small 2) (small 3)) bytes long each found

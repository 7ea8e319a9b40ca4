-- The dummy maker: a node is the span of leaf numbers below it, so a wrong join shows as the broken span.
use Rattle.std.specs.Prelude.{◌≡◌, ℕ, ◌+◌, ◌^◌, Bool, true, false, cond, ◌&&◌, List, [], ◌∷◌, ◌++◌, replicate, Some, None, Option, ◌==◌, slice_index, refl}
use Rattle.tree.specs.Meaning.{Meaning}
use Rattle.tree.specs.Numbers.{number_bytes, number_at, aligned}
use Rattle.tree.specs.Kinds.{kind_byte, node_width}
use Rattle.tree.specs.declared.kind.Kind.TheVariants.{Dummy}
use Rattle.tree.specs.declared.span.Interval.{Interval}
use Rattle.tree.specs.declared.span.Span.{Span}
use Rattle.tree.specs.declared.span.Span.TheVariants.{Sound, Broken}

abbrev pub span_if : (f t : ℕ) (b : Bool) → aligned f t ≡ b → Span
span_if f t true e = Sound (record { first = f; height = t; whole = e })
span_if f t false e = Broken

-- the span of the leaves f to f + 2^t - 1, broken if no node has these leaves
abbrev pub span : ℕ → ℕ → Span
span f t = span_if f t (aligned f t) refl

-- two neighbours of equal height make the span above them, if there is one
abbrev pub join_intervals : Interval → Interval → Span
join_intervals a b = cond (b.height == a.height && b.first == a.first + 2 ^ a.height) (span a.first (a.height + 1)) Broken

abbrev pub join_spans : Span → Span → Span
join_spans (Sound a) (Sound b) = join_intervals a b
join_spans (Sound a) Broken = Broken
join_spans Broken y = Broken

abbrev pub put_span : Span → List ℕ
put_span (Sound a) = number_bytes a.first ++ a.height ∷ []
put_span Broken = replicate 5 255

-- five bytes 255
abbrev pub are_broken : List ℕ → Bool
are_broken bs = slice_index bs 0 == 255 && slice_index bs 1 == 255 && slice_index bs 2 == 255 && slice_index bs 3 == 255 && slice_index bs 4 == 255

abbrev pub read_span : List ℕ → Option Span
read_span bs =
    cond (are_broken bs) (Some Broken)
    (cond (aligned (number_at 0 bs) (slice_index bs 4)) (Some (span (number_at 0 bs) (slice_index bs 4))) None)

abbrev pub dummy_meaning : Meaning Span
dummy_meaning = record {
  leaf = λ number token. span number 0;
  join = join_spans;
  put = put_span;
  read = read_span;
  kind = kind_byte Dummy;
  width = node_width Dummy;
}

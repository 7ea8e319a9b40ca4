-- Intervals of leaf numbers as spans, and five bytes as one.
use Rattle.std.proofs.Common.{◌≡◌, ℕ, true, false, List, get_or, Some, None, Option, sym, ap, ap₂, ◌∙◌}
use Rattle.std.specs.Option.{MatchOption, option_map, option_map_or}
use Rattle.std.proofs.lemmas.Bool.{cond-false}
use Rattle.tree.specs.Numbers.{number_at, aligned}
use Rattle.tree.specs.Spans.{span, are_broken, read_span}
use Rattle.tree.specs.Spanning.{span_sound, span_broken, read_whole}
use Rattle.tree.specs.declared.span.Interval.{Interval}
use Rattle.tree.specs.declared.span.Span.TheVariants.{Sound, Broken}

-- an interval of the numbers f and t, if there is one
abbrev pub IsInterval : ℕ → ℕ → Option Interval → Type 0
IsInterval f t o = MatchOption o (aligned f t ≡ false) (λ a. (a.first ≡ f) × (a.height ≡ t))

pub span_is : (f t : ℕ) (o : Option Interval) → IsInterval f t o → option_map_or Sound o Broken ≡ span f t
span_is f t None bad = sym (span_broken f t bad)
span_is f t (Some a) (first, height) = sym (ap₂ span (sym first) (sym height) ∙ span_sound a)

pub reads_span : (bs : List ℕ) (o : Option Interval) → are_broken bs ≡ false → IsInterval (number_at 0 bs) (get_or bs 4 0) o → option_map Sound o ≡ read_span bs
reads_span bs None sound bad = sym (cond-false (are_broken bs) (Some Broken) _ sound ∙ cond-false (aligned (number_at 0 bs) (get_or bs 4 0)) (Some (span (number_at 0 bs) (get_or bs 4 0))) None bad)
reads_span bs (Some a) sound is =
    let whole : aligned (number_at 0 bs) (get_or bs 4 0) ≡ true = ap₂ aligned (sym is.0) (sym is.1) ∙ a.whole in
    ap Some (span_is (number_at 0 bs) (get_or bs 4 0) (Some a) is) ∙ sym (read_whole bs sound whole)

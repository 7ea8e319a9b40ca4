-- What `==` of two spans says.
use Rattle.std.proofs.Common.{◌≡◌, ℕ, Bool, true, false, ◌&&◌, eqb, refl, ap, sym}
use Rattle.std.specs.Prelude.{Decides}
use Rattle.std.proofs.lemmas.Bool.Decides.{Decides-and, Decides-eqb, Decides-like}
use Rattle.tree.specs.declared.span.Span.{Span}
use Rattle.tree.specs.declared.span.Span.TheVariants.{Sound, Broken}
use Rattle.tree.specs.contracts.span.SpanPartialEq.TheImpl as span
use Rattle.tree.specs.Spanning.{same_interval}

abbrev first_of : Span → ℕ
first_of (Sound a) = a.first
first_of Broken = 0

abbrev height_of : Span → ℕ
height_of (Sound a) = a.height
height_of Broken = 0

abbrev is_sound : Span → Bool
is_sound (Sound a) = true
is_sound Broken = false

pub span_eq_decides : (x y : Span) → Decides (span.ghosts.eq x y) (x ≡ y)
span_eq_decides (Sound a) (Sound b) =
    Decides-like (eqb a.first b.first && eqb a.height b.height)
    (λ same. ap Sound (same_interval a b same.0 same.1))
    (λ same. (ap first_of same, ap height_of same))
    (Decides-and _ _ (Decides-eqb a.first b.first) (Decides-eqb a.height b.height))
span_eq_decides (Sound a) Broken = (λ e. cc, λ e. ap is_sound (sym e))
span_eq_decides Broken (Sound b) = (λ e. cc, λ e. ap is_sound e)
span_eq_decides Broken Broken = (λ e. refl, λ e. refl)

-- Damage that is undone, and places one after another.
use Rattle.std.proofs.Common.{◌≡◌, ℕ, suc, Ok, Result, Bor, subst, ◌+◌, ◌-◌, ◌<◌, List, ◌∷◌, length, get_or, set, bit_xor, ap, ◌∙◌, arith}
use Rattle.std.proofs.lemmas.List.{set-set, get_or-set_same, set-get_or}
use Rattle.std.specs.Int.Bits.{xor_self, xor_assoc, xor_zero_r}
use Rattle.std.specs.List.{range_with_len}
use Rattle.text.specs.declared.damage.Damage.{Damage}
use Rattle.text.specs.Damages.{damaged, Told}

-- the same bits inverted twice
pub undone : (bytes : List ℕ) (place mask : ℕ) → place < length bytes →
    (let once : List ℕ = set bytes place (bit_xor (get_or bytes place 0) mask) in set once place (bit_xor (get_or once place 0) mask)) ≡ bytes
undone bytes place mask within =
    let byte : ℕ = get_or bytes place 0 in
    let once : List ℕ = set bytes place (bit_xor byte mask) in
    set-set bytes place (bit_xor byte mask) (bit_xor (get_or once place 0) mask)
    ∙ ap (λ x. set bytes place (bit_xor x mask)) (get_or-set_same bytes place (bit_xor byte mask) 0 within)
    ∙ ap (set bytes place) (xor_assoc byte mask mask ∙ ap (bit_xor byte) (xor_self mask) ∙ xor_zero_r byte)
    ∙ set-get_or bytes place 0

-- the places from one on
pub places_from : (a b : ℕ) → a < b → range_with_len a (b - a) ≡ a ∷ range_with_len (a + 1) (b - (a + 1))
places_from a b lt = let size : b - a ≡ suc (b - (a + 1)) = omega arith in ap (range_with_len a) size

-- a call that accepts what it is shown
pub told : {F E : Type 0} (step : F → Damage → Bor (List ℕ) → Result Unit E → F → Type 0) (bytes : List ℕ) (before later : F) (damage : Damage) (seen : Bor (List ℕ)) (answer : Result Unit E) → step before damage seen answer later → seen.now ≡ damaged bytes damage → answer ≡ Ok tt → Told step bytes before damage later
told step bytes before later damage seen answer called shows accepts = (seen, shows, subst (λ a. step before damage seen a later) accepts called)

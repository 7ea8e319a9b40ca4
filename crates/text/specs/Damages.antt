-- Damage to bytes.
use Rattle.std.specs.Prelude.{◌≡◌, ℕ, List, ◌++◌, length, take, map, codes, decimal, Ok, Result, bit_xor, slice_index, slice_set}
use Rattle.std.specs.List.{flat_map, range_with_len}
use denote.Ref.{Bor}
use Rattle.text.specs.declared.damage.Damage.{Damage}
use Rattle.text.specs.declared.damage.Damage.TheVariants.{Change, Cut}

abbrev pub damage_text : Damage → List ℕ
damage_text (Change place mask) = codes "byte " ++ (decimal place ++ (codes " by " ++ decimal mask))
damage_text (Cut size) = codes "cut to " ++ decimal size

-- what a damage leaves of bytes
abbrev pub damaged : List ℕ → Damage → List ℕ
damaged bytes (Change place mask) = slice_set bytes place (bit_xor (slice_index bytes place) mask)
damaged bytes (Cut size) = take size bytes

-- each place changed by each of some masks, and each cut
abbrev pub changes : List ℕ → List ℕ → List Damage
changes masks bytes = flat_map (λ place. map (Change place) masks) (range_with_len 0 (length bytes))

abbrev pub cuts : List ℕ → List Damage
cuts bytes = map Cut (range_with_len 0 (length bytes))

-- a call is shown a damage and what it leaves, and accepts it
abbrev pub Told : {F E : Type 0} → (F → Damage → Bor (List ℕ) → Result Unit E → F → Type 0) → List ℕ → F → Damage → F → Type 0
Told step bytes before damage later = (seen : Bor (List ℕ)) × (seen.now ≡ damaged bytes damage) × step before damage seen (Ok tt) later

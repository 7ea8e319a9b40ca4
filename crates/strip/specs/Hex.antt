-- Hex digits: 0 to 9 and a to f, each a byte of text.
use Rattle.std.specs.Prelude.{ℕ, ◌+◌, ◌-◌, ◌/◌, ◌%◌, cond, ◌&&◌, List, [], ◌∷◌, Some, None, Option, nat_le}
use Rattle.std.specs.Char.{digit_char}
use Rattle.std.specs.List.{flat_map}

abbrev pub digit_value : ℕ → Option ℕ
digit_value b =
    cond (nat_le 48 b && nat_le b 57) (Some (b - 48))
    (cond (nat_le 97 b && nat_le b 102) (Some (b - 97 + 10)) None)

-- bytes in hex, two digits a byte
abbrev pub hex_text : List ℕ → List ℕ
hex_text bytes = flat_map (λ b. digit_char (b / 16) ∷ digit_char (b % 16) ∷ []) bytes

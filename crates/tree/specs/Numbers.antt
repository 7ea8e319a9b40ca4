-- Numbers as bytes, and the sizes that everything keeps within.
use Rattle.std.specs.Prelude.{ℕ, ◌+◌, ◌*◌, ◌/◌, ◌%◌, ◌^◌, Bool, ◌&&◌, List, [], ◌∷◌, ◌==◌, nat_le, slice_index}

-- a number below 2^32 in four bytes, highest first, and the number in the four bytes from place p on
abbrev pub number_bytes : ℕ → List ℕ
number_bytes n = n / 2 ^ 24 % 256 ∷ n / 2 ^ 16 % 256 ∷ n / 2 ^ 8 % 256 ∷ n % 256 ∷ []

abbrev pub number_at : ℕ → List ℕ → ℕ
number_at p bs = ((slice_index bs p * 256 + slice_index bs (p + 1)) * 256 + slice_index bs (p + 2)) * 256 + slice_index bs (p + 3)

-- a tree has a height from 1 to 20
abbrev pub legal_height : ℕ → Bool
legal_height H = nat_le 1 H && nat_le H 20

-- the leaves under a node of height t with first leaf f: whole, and within 2^20
abbrev pub aligned : ℕ → ℕ → Bool
aligned f t = f % 2 ^ t == 0 && nat_le (f + 2 ^ t) (2 ^ 20)

-- Bytes in hex.
use Rattle.std.proofs.Common.{◌≡◌, ℕ, zero, suc, ◌+◌, ◌-◌, ◌*◌, ◌/◌, ◌%◌, ◌<◌, ◌≤◌, List, [], ◌∷◌, ◌++◌, length, get_or, take, drop, replicate, Some, None, sym, refl, ap, ◌∙◌, ap₂, add-zero, arith, lit<, length-append}
use lib.Seq.{take-append-add}
use Rattle.std.proofs.lemmas.List.{append_assoc, append-nil, nil_from_length, take_at, take_more, length-replicate, get_or-append-add}
use Rattle.std.proofs.lemmas.Bool.Decides.{nat_tests}
use Rattle.std.specs.Char.{digit_char}
use Rattle.strip.specs.Hex.{digit_value, hex_text}
use Rattle.ticket.specs.Pieces.{WrongWord, Fails, GoodSeed}
use Rattle.ticket.proofs.Words.{word_fails, front}

pub digit_injects : (u v : ℕ) → u < 16 → v < 16 → digit_char u ≡ digit_char v → u ≡ v
digit_injects u v hu hv e = grind (arith, nat_tests)

pub length_hex : (bytes : List ℕ) → length (hex_text bytes) ≡ 2 * length bytes
length_hex [] = refl
length_hex (x ∷ bytes) = let rest = length_hex bytes in omega arith

pub hex_append : (a b : List ℕ) → hex_text (a ++ b) ≡ hex_text a ++ hex_text b
hex_append [] b = refl
hex_append (x ∷ a) b = ap (λ l. digit_char (x / 16) ∷ digit_char (x % 16) ∷ l) (hex_append a b)

-- every byte of it is a hex digit
pub hex_byte : (bytes : List ℕ) (k : ℕ) → ((i : ℕ) → get_or bytes i 0 < 256) → k < length (hex_text bytes) → (v : ℕ) × (v < 16) × (get_or (hex_text bytes) k 0 ≡ digit_char v)
hex_byte [] k each lt = absurd (omega arith)
hex_byte (x ∷ bytes) zero each lt = (x / 16, (let h = each 0 in omega arith), refl)
hex_byte (x ∷ bytes) (suc zero) each lt = (x % 16, omega arith, refl)
hex_byte (x ∷ bytes) (suc (suc k)) each lt = hex_byte bytes k (λ i. each (suc i)) (omega arith)

-- equal texts are of equal bytes
hex_injects : (a b : List ℕ) → ((i : ℕ) → get_or a i 0 < 256) → ((i : ℕ) → get_or b i 0 < 256) → hex_text a ≡ hex_text b → a ≡ b
hex_injects [] [] ea eb e = refl
hex_injects [] (y ∷ b) ea eb e = absurd (omega (arith, ap length e))
hex_injects (x ∷ a) [] ea eb e = absurd (omega (arith, ap length e))
hex_injects (x ∷ a) (y ∷ b) ea eb e =
    let hx = ea 0 in
    let hy = eb 0 in
    let high = digit_injects (x / 16) (y / 16) (omega arith) (omega arith) (ap (λ l. get_or l 0 0) e) in
    let low = digit_injects (x % 16) (y % 16) (omega arith) (omega arith) (ap (λ l. get_or l 1 0) e) in
    let same : x ≡ y = omega arith in
    ap₂ ◌∷◌ same (hex_injects a b (λ i. ea (suc i)) (λ i. eb (suc i)) (ap (drop 2) e))

pub seeds_apart : (a b : List ℕ) → GoodSeed a → GoodSeed b → (rest : List ℕ) → hex_text a ≡ hex_text b ++ rest → a ≡ b
seeds_apart a b ga gb rest e =
    let size = ap length e ∙ length-append (hex_text b) rest in
    let la = length_hex a in
    let lb = length_hex b in
    let na = ga.0 in
    let nb = gb.0 in
    let none = nil_from_length rest (omega arith) in
    hex_injects a b ga.1 gb.1 (e ∙ ap (λ l. hex_text b ++ l) none ∙ append-nil (hex_text b))

-- a byte of two lists in a row
pub each_append : (a b : List ℕ) → ((i : ℕ) → get_or a i 0 < 256) → ((i : ℕ) → get_or b i 0 < 256) → (i : ℕ) → get_or (a ++ b) i 0 < 256
each_append [] b ea eb i = eb i
each_append (x ∷ a) b ea eb zero = ea 0
each_append (x ∷ a) b ea eb (suc i) = each_append a b (λ j. ea (suc j)) eb i

pub each_zero : (n i : ℕ) → get_or (replicate n 0) i 0 < 256
each_zero zero i = lit< tt
each_zero (suc n) zero = lit< tt
each_zero (suc n) (suc i) = each_zero n i

pub each_next : (x : ℕ) (xs : List ℕ) → x < 256 → ((i : ℕ) → get_or xs i 0 < 256) → (i : ℕ) → get_or (x ∷ xs) i 0 < 256
each_next x xs here rest zero = here
each_next x xs here rest (suc i) = rest i

-- Digits up to a place, as far as some bytes give them, and no digit there.
seed_stops : (xs a : List ℕ) (k : ℕ) → GoodSeed a → k ≤ length xs → k < 64 → take k (hex_text a) ≡ take k xs → ((v : ℕ) → v < 16 → k < length xs → get_or xs k 0 ≡ digit_char v → ⊥) → WrongWord GoodSeed hex_text xs k
seed_stops xs a k good within inside same no_digit =
    word_fails GoodSeed hex_text xs k within a good same
    (λ b g. let size = length_hex b in let n = g.0 in omega arith)
    (λ b g alike.
    let size = length_hex b in
    let n = g.0 in
    let lt : k < length (hex_text b) = omega arith in
    let here = hex_byte b k g.1 lt in
    (lt, λ inside-xs e. no_digit here.0 here.1 inside-xs (e ∙ here.2)))

module _ (xs done : List ℕ) (i : ℕ) (long : length done ≡ i) (few : i < 32) (each : (j : ℕ) → get_or done j 0 < 256) (sofar : take (2 * i) xs ≡ hex_text done) where
  -- the first digit of a byte is missing
  pub seed_no_high : 2 * i ≤ length xs → ((v : ℕ) → v < 16 → 2 * i < length xs → get_or xs (2 * i) 0 ≡ digit_char v → ⊥) → WrongWord GoodSeed hex_text xs (2 * i)
  seed_no_high within no_digit =
      let a : List ℕ = done ++ replicate (32 - i) 0 in
      let size : length a ≡ 32 = length-append done (replicate (32 - i) 0) ∙ ap₂ ◌+◌ long (length-replicate (32 - i) 0) ∙ omega arith in
      let front = ap (take (2 * i)) (hex_append done (replicate (32 - i) 0)) ∙ take_at (hex_text done) (hex_text (replicate (32 - i) 0)) (2 * i) (length_hex done ∙ ap (λ n. 2 * n) long) in
      seed_stops xs a (2 * i) (size, each_append done (replicate (32 - i) 0) each (each_zero (32 - i))) within (omega arith) (front ∙ sym sofar) no_digit

  -- the second digit is missing
  pub seed_no_low : (v : ℕ) → v < 16 → 2 * i < length xs → get_or xs (2 * i) 0 ≡ digit_char v → ((u : ℕ) → u < 16 → 2 * i + 1 < length xs → get_or xs (2 * i + 1) 0 ≡ digit_char u → ⊥) → WrongWord GoodSeed hex_text xs (2 * i + 1)
  seed_no_low v small within digit no_digit =
      let zeros : List ℕ = replicate (31 - i) 0 in
      let a : List ℕ = done ++ (16 * v) ∷ zeros in
      let size : length a ≡ 32 = let whole = length-append done ((16 * v) ∷ zeros) in let rest = length-replicate {A = ℕ} (31 - i) 0 in omega arith in
      let each-rest : (j : ℕ) → get_or ((16 * v) ∷ zeros) j 0 < 256 = each_next (16 * v) zeros (omega arith) (each_zero (31 - i)) in
      let half : 16 * v / 16 ≡ v = omega arith in
      let digits = length_hex done ∙ ap (λ n. 2 * n) long in
      let place : 2 * i + 1 ≡ length (hex_text done) + 1 = omega arith in
      let front : take (2 * i + 1) (hex_text a) ≡ hex_text done ++ digit_char v ∷ [] =
      ap₂ take place (hex_append done ((16 * v) ∷ zeros))
      ∙ take-append-add (hex_text done) (hex_text ((16 * v) ∷ zeros)) 1
      ∙ ap (λ n. hex_text done ++ digit_char n ∷ []) half in
      let there : take (2 * i + 1) xs ≡ hex_text done ++ digit_char v ∷ [] = take_more xs (2 * i) 0 within ∙ ap₂ (λ l x. l ++ x ∷ []) sofar digit in
      seed_stops xs a (2 * i + 1) (size, each_append done ((16 * v) ∷ zeros) each each-rest) (omega arith) (omega arith) (front ∙ sym there) no_digit

-- the digits' values
digit_is : (b v : ℕ) → Some v ≡ digit_value b → (b ≡ digit_char v) × (v < 16)
digit_is b v e = grind (arith, nat_tests)

digit_none : (b v : ℕ) → None ≡ digit_value b → v < 16 → b ≡ digit_char v → ⊥
digit_none b v e small is = grind (arith, nat_tests)

-- Some bytes of a seed were read.
module _ (old done left : List ℕ) (i : ℕ) (long : length done ≡ i) (few : i < 32) (each : (j : ℕ) → get_or done j 0 < 256) (read : old ≡ hex_text done ++ left) where
  digits : length (hex_text done) ≡ 2 * i
  digits = length_hex done ∙ ap (λ n. 2 * n) long

  size : length old ≡ 2 * i + length left
  size = ap length read ∙ length-append (hex_text done) left ∙ ap (λ n. n + length left) digits

  front_is : take (2 * i) old ≡ hex_text done
  front_is = ap (take (2 * i)) read ∙ take_at (hex_text done) left (2 * i) digits

  left_at : (k : ℕ) → get_or old (2 * i + k) 0 ≡ get_or left k 0
  left_at k = ap (λ l. get_or l (2 * i + k) 0) read ∙ ap (λ n. get_or (hex_text done ++ left) (n + k) 0) (sym digits) ∙ get_or-append-add (hex_text done) left k 0

  first_left : get_or old (2 * i) 0 ≡ get_or left 0 0
  first_left = ap (λ n. get_or old n 0) (sym (add-zero (2 * i))) ∙ left_at 0

  pub fails_high : ((b : ℕ) (rest : List ℕ) → left ≡ b ∷ rest → None ≡ digit_value b) → Fails GoodSeed hex_text old (length left)
  fails_high none = (
    2 * i,
    sym size,
    seed_no_high old done i long few each front_is (omega (arith, size))
        (λ v small lt e. digit_none (get_or left 0 0) v (none (get_or left 0 0) (drop 1 left) (front left (omega (arith, size)))) small (sym first_left ∙ e)),
  )

  module _ (b v : ℕ) (mid : List ℕ) (first : left ≡ b ∷ mid) (high : Some v ≡ digit_value b) where
    pub fails_low : ((c : ℕ) (rest : List ℕ) → mid ≡ c ∷ rest → None ≡ digit_value c) → Fails GoodSeed hex_text old (length mid)
    fails_low none =
        let one = ap length first in
        let is = digit_is b v high in
        let second : get_or old (2 * i + 1) 0 ≡ get_or mid 0 0 = left_at 1 ∙ ap (λ l. get_or l 1 0) first in (
          2 * i + 1,
          omega (arith, size),
          seed_no_low old done i long few each front_is v is.1 (omega (arith, size)) (first_left ∙ ap (λ l. get_or l 0 0) first ∙ is.0)
              (λ u small lt e. digit_none (get_or mid 0 0) u (none (get_or mid 0 0) (drop 1 mid) (front mid (omega (arith, size)))) small (sym second ∙ e)),
        )

    -- one byte more
    pub reads_byte : (c u : ℕ) (rest : List ℕ) → mid ≡ c ∷ rest → Some u ≡ digit_value c → old ≡ hex_text (done ++ (16 * v + u) ∷ []) ++ rest
    reads_byte c u rest second low =
        let h = digit_is b v high in
        let l = digit_is c u low in
        let small = l.1 in
        let upper : v ≡ (16 * v + u) / 16 = omega arith in
        let lower : u ≡ (16 * v + u) % 16 = omega arith in
        let d : ℕ = digit_char ((16 * v + u) / 16) in
        let e : ℕ = digit_char ((16 * v + u) % 16) in
        read
        ∙ ap (λ t. hex_text done ++ t) (first ∙ ap (λ t. b ∷ t) second ∙ ap₂ (λ x y. x ∷ y ∷ rest) (h.0 ∙ ap digit_char upper) (l.0 ∙ ap digit_char lower))
        ∙ sym (append_assoc (hex_text done) (d ∷ e ∷ []) rest)
        ∙ ap (λ t. t ++ rest) (sym (hex_append done ((16 * v + u) ∷ [])))

-- the digits of a byte are below 256 together
pub byte_fits : (b c v u : ℕ) → Some v ≡ digit_value b → Some u ≡ digit_value c → 16 * v + u < 256
byte_fits b c v u high low = omega (arith, (digit_is b v high).1, (digit_is c u low).1)

-- SHA-256 of FIPS 180-4, over messages of whole bytes: a message is a list of bytes, numbers below 256.
use Rattle.std.specs.Prelude.{ℕ, zero, suc, ◌+◌, ◌-◌, ◌*◌, ◌/◌, ◌%◌, ◌^◌, cond, List, [], ◌∷◌, ◌++◌, length, take, drop, replicate, nat_lt, slice_index}
use Rattle.std.specs.List.{flat_map}
use Rattle.hashing.specs.declared.state.State.{State}
use Rattle.hashing.specs.Constants.{K}
use Rattle.hashing.specs.Words.{add, Ch, Maj, Σ₀, Σ₁, σ₀, σ₁}

-- 3.1: a word as four bytes and a 64-bit number as eight, the most significant first.
unfoldable pub bytes4 : ℕ → List ℕ
bytes4 x = x / 2 ^ 24 % 256 ∷ x / 2 ^ 16 % 256 ∷ x / 2 ^ 8 % 256 ∷ x % 256 ∷ []

unfoldable pub bytes8 : ℕ → List ℕ
bytes8 x =
    x / 2 ^ 56 % 256 ∷ x / 2 ^ 48 % 256 ∷ x / 2 ^ 40 % 256 ∷ x / 2 ^ 32 % 256 ∷
    x / 2 ^ 24 % 256 ∷ x / 2 ^ 16 % 256 ∷ x / 2 ^ 8 % 256 ∷ x % 256 ∷ []

-- 5.1.1: after a message of n bytes come the bit 1, the least number of bits 0 that fills a block but for 64 bits, and the
-- message's length in bits as a 64-bit number. The bit 1 with seven bits 0 is the byte 0x80, and zeros n counts the bytes 0
-- behind it; Stages.LeastZeros says that they are the least. The standard bounds messages to less than 2 ^ 64 bits: here a
-- longer one has its length taken modulo 2 ^ 64.
abbrev pub zeros : ℕ → ℕ
zeros n = (119 - n % 64) % 64

unfoldable pub padding : ℕ → List ℕ
padding n = 0x80 ∷ (replicate (zeros n) 0 ++ bytes8 (8 * n % 2 ^ 64))

unfoldable pub padded : List ℕ → List ℕ
padded m = m ++ padding (length m)

-- 5.2.1: block i of 64 bytes, the standard's M^(i+1), and word t of a block M, for t < 16.
unfoldable pub block : List ℕ → ℕ → List ℕ
block bytes i = take 64 (drop (64 * i) bytes)

abbrev pub word_at : List ℕ → ℕ → ℕ
word_at M t =
    slice_index M (4 * t) * 2 ^ 24 + slice_index M (4 * t + 1) * 2 ^ 16 + slice_index M (4 * t + 2) * 2 ^ 8 + slice_index M (4 * t + 3)

-- 5.3.3: the initial hash value H^(0). A hash value has eight words, here named a to h as the working variables.
unfoldable pub initial : State
initial =
    record {
      a = 0x6a09e667;
      b = 0xbb67ae85;
      c = 0x3c6ef372;
      d = 0xa54ff53a;
      e = 0x510e527f;
      f = 0x9b05688c;
      g = 0x1f83d9ab;
      h = 0x5be0cd19;
    }

-- 6.2.2, step 1: the message schedule. next_word gives the word 16 places after the first of W_t-16, W_t-15, W_t-7, W_t-2.
abbrev pub next_word : ℕ → ℕ → ℕ → ℕ → ℕ
next_word w₋₁₆ w₋₁₅ w₋₇ w₋₂ = add (add (add (σ₁ w₋₂) w₋₇) (σ₀ w₋₁₅)) w₋₁₆

-- W_t of the block M, from the list of W_0 to W_t-1
unfoldable pub word_after : List ℕ → List ℕ → ℕ → ℕ
word_after M ws t =
    cond (nat_lt t 16) (word_at M t) (next_word (slice_index ws (t - 16)) (slice_index ws (t - 15)) (slice_index ws (t - 7)) (slice_index ws (t - 2)))

unfoldable pub extended : List ℕ → List ℕ → ℕ → List ℕ
extended M ws t = ws ++ word_after M ws t ∷ []

-- the list of W_0 to W_t-1
unfoldable pub schedule : List ℕ → ℕ → List ℕ
schedule M zero = []
schedule M (suc t) = extended M (schedule M t) t

unfoldable pub W : List ℕ → ℕ → ℕ
W M t = word_after M (schedule M t) t

-- 6.2.2, step 3: one round, with the word w, and the first t rounds on the block M.
abbrev pub T₁ : ℕ → ℕ → State → ℕ
T₁ t w s = add (add (add (add s.h (Σ₁ s.e)) (Ch s.e s.f s.g)) (K t)) w

abbrev pub T₂ : State → ℕ
T₂ s = add (Σ₀ s.a) (Maj s.a s.b s.c)

unfoldable pub round : ℕ → ℕ → State → State
round t w s =
    record {
      a = add (T₁ t w s) (T₂ s);
      b = s.a;
      c = s.b;
      d = s.c;
      e = add s.d (T₁ t w s);
      f = s.e;
      g = s.f;
      h = s.g;
    }

unfoldable pub rounds : List ℕ → ℕ → State → State
rounds M zero s = s
rounds M (suc t) s = round t (W M t) (rounds M t s)

-- 6.2.2, steps 2 and 4: the hash value after the block M, from the one before it.
abbrev pub plus : State → State → State
plus s H =
    record {
      a = add s.a H.a;
      b = add s.b H.b;
      c = add s.c H.c;
      d = add s.d H.d;
      e = add s.e H.e;
      f = add s.f H.f;
      g = add s.g H.g;
      h = add s.h H.h;
    }

unfoldable pub compressed : State → List ℕ → State
compressed H M = plus (rounds M 64 H) H

-- the hash value after the first i blocks of some bytes, from the hash value H
unfoldable pub hashed : State → List ℕ → ℕ → State
hashed H bytes zero = H
hashed H bytes (suc i) = compressed (hashed H bytes i) (block bytes i)

-- all blocks of some bytes
unfoldable pub hashed_all : State → List ℕ → State
hashed_all H bytes = hashed H bytes (length bytes / 64)

-- 6.2.2, the end: the eight words of the last hash value in a row.
unfoldable pub bytes_of : State → List ℕ
bytes_of H = flat_map bytes4 (H.a ∷ H.b ∷ H.c ∷ H.d ∷ H.e ∷ H.f ∷ H.g ∷ H.h ∷ [])

unfoldable pub sha256 : List ℕ → List ℕ
sha256 m = bytes_of (hashed_all initial (padded m))

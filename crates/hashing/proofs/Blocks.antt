-- The hash value after two runs of blocks, one behind the other, and over blocks as arrays.
use Rattle.std.proofs.Common.{◌≡◌, ℕ, zero, suc, ◌+◌, ◌*◌, ◌/◌, ◌%◌, ◌<◌, ◌≤◌, List, [], ◌++◌, length, get_or, take, drop, sym, refl, ap, ◌∙◌, w32, lit<, add-zero, add-suc, arith, length-append, length-drop}
use lib.Seq.{take-append-le}
use Rattle.std.proofs.lemmas.List.{drop-append-le, drop-drop, drop_at, get_or-drop, get_or-take, length-take-le, take-append-drop, take-take}
use Rattle.std.specs.Int.{from_be_bytes}
use Rattle.std.specs.List.{fold}
use Rattle.std.specs.Simd.{first_chunks}
use Rattle.hashing.proofs.Chunks.{chunk_at}
use Rattle.hashing.specs.declared.state.State.{State}
use Rattle.hashing.specs.Sha256.{block, compressed, hashed, hashed_all, word_at}

block_front : (xs ys : List ℕ) (i : ℕ) → 64 * i + 64 ≤ length xs → block (xs ++ ys) i ≡ block xs i
unfolding block
block_front xs ys i h =
    let inside : 64 * i ≤ length xs = omega arith in
    let enough : 64 ≤ length (drop (64 * i) xs) = simp length-drop (omega arith) in
    rw (drop-append-le, take-append-le)

block_back : (xs ys : List ℕ) (n k : ℕ) → length xs ≡ 64 * n → block (xs ++ ys) (n + k) ≡ block ys k
unfolding block
block_back xs ys n k h =
    let far : 64 * (n + k) ≡ 64 * n + 64 * k = omega arith in
    rw (far, ← drop-drop (64 * k) (64 * n) (xs ++ ys), drop_at xs ys (64 * n) h)

hashed_front : (H : State) (xs ys : List ℕ) (i : ℕ) → 64 * i ≤ length xs → hashed H (xs ++ ys) i ≡ hashed H xs i
unfolding hashed
hashed_front H xs ys zero h = refl
hashed_front H xs ys (suc i) h = rw (hashed_front H xs ys i (omega arith), block_front xs ys i (omega arith))

hashed_back : (H : State) (xs ys : List ℕ) (n k : ℕ) → length xs ≡ 64 * n →
    hashed H (xs ++ ys) (n + k) ≡ hashed (hashed H xs n) ys k
unfolding hashed
hashed_back H xs ys n zero h = rw add-zero (hashed_front H xs ys n (omega arith))
hashed_back H xs ys n (suc k) h = rw (add-suc, hashed_back H xs ys n k h, block_back xs ys n k h)

pub hashed_all_append : (H : State) (xs ys : List ℕ) → length xs % 64 ≡ 0 →
    hashed_all H (xs ++ ys) ≡ hashed_all (hashed_all H xs) ys
unfolding hashed_all
hashed_all_append H xs ys h =
    let count : length (xs ++ ys) / 64 ≡ length xs / 64 + length ys / 64 = rw length-append (omega arith) in
    rw count (hashed_back H xs ys (length xs / 64) (length ys / 64) (omega arith))

pub hashed_is : (H : State) (xs : List ℕ) (k : ℕ) → 64 * k ≤ length xs → fold compressed H (first_chunks 64 k xs) ≡ hashed H xs k
unfolding hashed block
hashed_is H xs zero h = refl
hashed_is H xs (suc k) h =
    let front : length (take 64 xs) ≡ 64 * 1 = length-take-le 64 xs (omega arith) in
    let rest : 64 * k ≤ length (drop 64 xs) = simp length-drop (omega arith) in
    let whole : take 64 xs ++ drop 64 xs ≡ xs = take-append-drop 64 xs in
    let first : hashed H (take 64 xs) 1 ≡ compressed H (take 64 xs) = ap (compressed H) (take-take 64 64 xs (omega arith)) in
    let next : 1 + k ≡ suc k = omega arith in
    hashed_is (compressed H (take 64 xs)) (drop 64 xs) k rest ∙
    sym (rw (whole, next, first) at (hashed_back H (take 64 xs) (drop 64 xs) 1 k front))

pub hashed_all_is : (H : State) (xs : List ℕ) (blocks : List (List ℕ)) →
    blocks ≡ first_chunks 64 (length xs / 64) xs → fold compressed H blocks ≡ hashed_all H xs
unfolding hashed_all
hashed_all_is H xs blocks e = ap (fold compressed H) e ∙ hashed_is H xs (length xs / 64) (omega arith)

-- entry j of chunk i
pub entry_at : (n k i j : ℕ) (xs : List ℕ) → i < k → j < n → get_or (get_or (first_chunks n k xs) i []) j 0 ≡ get_or xs (n * i + j) 0
entry_at n k i j xs hi hj =
    ap (λ ys. get_or ys j 0) (chunk_at n k i xs hi) ∙ get_or-take n (drop (n * i) xs) j 0 hj ∙ get_or-drop (n * i) xs j 0

-- word j of a block, from its four bytes
pub word_is : (M : List ℕ) (j : ℕ) → j < 16 → from_be_bytes w32 (get_or (first_chunks 4 16 M) j []) ≡ word_at M j
word_is M j h =
    let byte = λ (i : ℕ). λ (l : i < 4). entry_at 4 16 j i M h l in
    rw (byte 0 (lit< tt), byte 1 (lit< tt), byte 2 (lit< tt), byte 3 (lit< tt), add-zero) refl

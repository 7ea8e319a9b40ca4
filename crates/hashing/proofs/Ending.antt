-- The end of a message: the bytes as they are written.
use Rattle.std.proofs.Common.{◌≡◌, ℕ, suc, ◌+◌, ◌-◌, ◌*◌, ◌/◌, ◌%◌, ◌≤◌, List, ◌∷◌, ◌++◌, length, take, drop, set, replicate, sym, refl, ap, ◌∙◌, append_assoc, arith, length-append, length-drop}
use borrow.Rule.Slice.PartMut.{put_mid}
use lib.ListN.{length-replicate}
use Rattle.std.proofs.lemmas.List.{drop-replicate, replicate-append-replicate, set_at, length-take-le, take-append-drop, take_at}
use Rattle.std.proofs.lemmas.Slice.{take-put_mid}
use Rattle.hashing.specs.declared.state.State.{State}
use Rattle.hashing.specs.Sha256.{hashed, hashed_all, padded, padding}
use Rattle.hashing.proofs.Blocks.{hashed_all_append}

-- 128 zeros with xs and the mark at their front, up to ys behind z of the zeros
pub ended : (start xs front ys back : List ℕ) (n z z' k j p e : ℕ) →
    start ≡ replicate 128 0 → front ≡ xs → back ≡ ys → length ys ≡ 8 →
    n ≡ length xs → z ≡ z' → k ≡ n → p ≡ n + 1 + z → e ≡ n + 1 + z + 8 → e ≤ 128 →
    take e (put_mid p j (set (front ++ drop k start) n 0x80) back) ≡ xs ++ 0x80 ∷ (replicate z' 0 ++ ys)
ended start xs front ys back n z z' k j p e hs hf hb h8 hn hz hk hp he h =
    let q = 127 - n - z in
    let P : List ℕ = xs ++ 0x80 ∷ replicate z 0 in
    let Z : List ℕ = set (put_mid 0 k start front) n 0x80 in
    let size : length P ≡ n + 1 + z = rw length-append (simp length-replicate (omega arith)) in
    let some : 128 - k ≡ suc (z + q) = omega arith in
    let left : drop k start ≡ 0 ∷ (replicate z 0 ++ replicate q 0) =
    ap (drop k) hs ∙ drop-replicate {X = ℕ} k 128 0 ∙ rw (some, replicate-append-replicate) refl in
    let marked : Z ≡ xs ++ 0x80 ∷ (replicate z 0 ++ replicate q 0) =
    rw (hf, left) (set_at xs 0 (replicate z 0 ++ replicate q 0) 0x80 n (sym hn)) in
    let whole : Z ≡ P ++ replicate q 0 = marked ∙ sym (append_assoc xs (0x80 ∷ replicate z 0) (replicate q 0)) in
    let length-Z : length Z ≡ length P + q =
    ap length whole ∙ length-append P (replicate q 0) ∙ ap (λ m. length P + m) (length-replicate q 0) in
    let front-Z : take p Z ≡ P = ap (take p) whole ∙ take_at P (replicate q 0) p (size ∙ sym hp) in
    let length_back : length back ≡ 8 = ap length hb ∙ h8 in
    let all : take e (put_mid p j Z back) ≡ take p Z ++ back = take-put_mid p j Z back e (omega arith) (omega arith) in
    all ∙ rw (front-Z, hb, ← hz) (append_assoc xs (0x80 ∷ replicate z 0) ys)

-- whole blocks of a message, then the rest of it with the padding
pub absorbed : (H : State) (m : List ℕ) →
    hashed_all (hashed_all H m) (drop (length m / 64 * 64) m ++ padding (length m)) ≡ hashed_all H (padded m)
unfolding hashed hashed_all padded
absorbed H m =
    let w = length m / 64 * 64 in
    let front = take w m in
    let rest = drop w m in
    let size : length front ≡ w = length-take-le w m (omega arith) in
    let blocks : length front % 64 ≡ 0 = omega arith in
    let short : length rest / 64 ≡ 0 = simp length-drop (omega arith) in
    let parts : front ++ rest ≡ m = take-append-drop w m in
    let whole : hashed_all H m ≡ hashed_all H front =
    ap (hashed_all H) (sym parts) ∙ hashed_all_append H front rest blocks ∙ ap (hashed (hashed_all H front) rest) short in
    ap (λ G. hashed_all G (rest ++ padding (length m))) whole ∙
    sym (hashed_all_append H front (rest ++ padding (length m)) blocks) ∙
    ap (hashed_all H) (sym (append_assoc front rest (padding (length m))) ∙ ap (λ xs. xs ++ padding (length m)) parts)

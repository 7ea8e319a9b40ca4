-- A list that is cut into chunks of one length.
use Rattle.std.proofs.Common.{◌≡◌, ℕ, zero, suc, ◌+◌, ◌*◌, ◌<◌, List, [], get_or, take, drop, sym, ap, ◌∙◌, arith, mul-zero}
use Rattle.std.proofs.lemmas.List.{drop-drop}
use Rattle.std.specs.Simd.{first_chunks}

-- chunk i of n elements begins at place n * i
pub chunk_at : {A : Type 0} (n k i : ℕ) (xs : List A) → i < k → get_or (first_chunks n k xs) i [] ≡ take n (drop (n * i) xs)
chunk_at n zero i xs less = absurd (omega arith)
chunk_at n (suc k) zero xs less = ap (λ j. take n (drop j xs)) (sym (mul-zero n))
chunk_at n (suc k) (suc i) xs less =
    let next : n + n * i ≡ n * suc i = omega arith in
    chunk_at n k i (drop n xs) (omega arith) ∙ ap (take n) (drop-drop (n * i) n xs ∙ ap (λ j. drop j xs) next)

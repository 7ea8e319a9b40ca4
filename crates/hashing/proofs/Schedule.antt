-- The words of the schedule by their recurrence, and one step of a stage.
use Rattle.std.proofs.Common.{◌≡◌, ◌≢◌, ℕ, zero, suc, ◌+◌, ◌-◌, ◌%◌, ◌<◌, ◌≤◌, List, [], ◌∷◌, ◌++◌, length, get_or, set, sym, refl, ap, ◌∙◌, ⊎_elim, arith, lit<, le-ltb, lt-ltb}
use Rattle.std.proofs.lemmas.List.{get_or_append_left, get_or_push, get_or-set_other, length_push}
use Rattle.std.proofs.lemmas.List.Edits.{fill_by_more}
use Rattle.std.proofs.lemmas.Bool.{cases_lt}
use Rattle.hashing.specs.declared.state.State.{State}
use Rattle.hashing.specs.Sha256.{W, extended, next_word, round, rounds, schedule, word_after, word_at}

pub schedule_more : (M : List ℕ) (t : ℕ) → schedule M (suc t) ≡ schedule M t ++ W M t ∷ []
unfolding schedule extended W
schedule_more M t = refl

length_schedule : (M : List ℕ) (t : ℕ) → length (schedule M t) ≡ t
unfolding schedule
length_schedule M zero = refl
length_schedule M (suc t) =
    ap length (schedule_more M t) ∙ length_push (schedule M t) (W M t) ∙ omega (arith, length_schedule M t)

pub schedule_at : (M : List ℕ) (t j : ℕ) → j < t → get_or (schedule M t) j 0 ≡ W M j
schedule_at M zero j h = absurd (omega arith)
schedule_at M (suc t) j h =
    let len = length_schedule M t in
    ap (λ ws. get_or ws j 0) (schedule_more M t) ∙
    ⊎_elim
    (λ l. let le : j < length (schedule M t) = omega arith in
    get_or_append_left (schedule M t) (W M t ∷ []) 0 j le ∙ schedule_at M t j l)
    (λ l. let e : j ≡ t = omega arith in let f : length (schedule M t) ≡ j = omega arith in
    get_or_push (schedule M t) (W M t) 0 j f ∙ ap (W M) (sym e))
    (cases_lt j t)

-- word t of a block is W_t
pub W_first : (M : List ℕ) (t : ℕ) → t < 16 → W M t ≡ word_at M t
unfolding W word_after
W_first M t h = rw (lt-ltb t 16 h)

at : (M : List ℕ) (t j k : ℕ) → j ≡ k → k < t → get_or (schedule M t) j 0 ≡ W M k
at M t j k e h = ap (λ i. get_or (schedule M t) i 0) e ∙ schedule_at M t k h

W_later : (M : List ℕ) (t j : ℕ) →
    W M (t + (16 + j)) ≡ next_word (W M (t + j)) (W M (t + (j + 1))) (W M (t + (j + 9))) (W M (t + (j + 14)))
unfolding W word_after
W_later M t j =
    let n = t + (16 + j) in
    rw (
      le-ltb n 16 (omega arith),
      at M n (n - 16) (t + j) (omega arith) (omega arith),
      at M n (n - 15) (t + (j + 1)) (omega arith) (omega arith),
      at M n (n - 7) (t + (j + 9)) (omega arith) (omega arith),
      at M n (n - 2) (t + (j + 14)) (omega arith) (omega arith),
    )

-- one more round of the block M from the hash value H
pub turn : (M : List ℕ) (H : State) (t j : ℕ) {s s' : State} {w : ℕ} →
    s ≡ rounds M (t + j) H → w ≡ W M (t + j) → s' ≡ round (t + j) w s → s' ≡ rounds M (t + (j + 1)) H
unfolding rounds
turn M H t j p q r =
    let next : t + (j + 1) ≡ suc (t + j) = omega arith in
    rw (next, ← q, ← p) r

-- Of the words from W_t on, the first j have each given way to the word 16 places on.
pub record Rolled (M : List ℕ) (t j : ℕ) (w : List ℕ) : Type 0 where
  pub newer : (k : ℕ) → k < j → get_or w k 0 ≡ W M (t + (16 + k))
  pub older : (k : ℕ) → j ≤ k → k < 16 → get_or w k 0 ≡ W M (t + k)

-- the word d places after the j-th
rolled_at : (M : List ℕ) (t j : ℕ) (w : List ℕ) → Rolled M t j w → (d : ℕ) → j < 16 → d < 16 →
    get_or w ((j + d) % 16) 0 ≡ W M (t + (j + d))
rolled_at M t j w r d hj hd =
    ⊎_elim
    (λ l. let e : (j + d) % 16 ≡ j + d = omega arith in
    ap (λ k. get_or w k 0) e ∙ r.older (j + d) (omega arith) l)
    (λ l. let e : (j + d) % 16 ≡ j + d - 16 = omega arith in let f : 16 + (j + d - 16) ≡ j + d = omega arith in
    ap (λ k. get_or w k 0) e ∙ r.newer (j + d - 16) (omega arith) ∙ ap (λ k. W M (t + k)) f)
    (cases_lt (j + d) 16)

pub rolled_more : (M : List ℕ) (t j v : ℕ) (w : List ℕ) → j < 16 → length w ≡ 16 → Rolled M t j w →
    v ≡ next_word (get_or w j 0) (get_or w ((j + 1) % 16) 0) (get_or w ((j + 9) % 16) 0) (get_or w ((j + 14) % 16) 0) →
    Rolled M t (j + 1) (set w j v)
rolled_more M t j v w h long r e =
    let w₀ = r.older j (omega arith) h in
    let w₁ = rolled_at M t j w r 1 h (lit< tt) in
    let w₉ = rolled_at M t j w r 9 h (lit< tt) in
    let w₁₄ = rolled_at M t j w r 14 h (lit< tt) in
    let new : v ≡ W M (t + (16 + j)) = e ∙ rw (w₀, w₁, w₉, w₁₄) (sym (W_later M t j)) in
    record {
      newer = λ k l.
          ap (λ x. get_or (set w j x) k 0) new ∙
          fill_by_more (λ i. W M (t + (16 + i))) w j 0 (omega arith) r.newer k l;
      older = λ k l m. let other : k ≢ j = λ p. absurd (omega arith) in
          get_or-set_other w j k v 0 other ∙ r.older k (omega arith) m;
    }

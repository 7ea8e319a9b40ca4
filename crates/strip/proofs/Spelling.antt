-- Over a maker of one spelling, the parts of a faultless strip give its bytes again.
use Rattle.std.proofs.Common.{◌≡◌, ℕ, zero, suc, ◌+◌, ◌*◌, ◌<◌, ◌≤◌, ltb, List, [], ◌∷◌, ◌++◌, length, get_or, take, drop, Some, None, Option, sym, refl, ap, ◌∙◌, ap₂, ⊎_elim, add-mul, one-mul, zero-mul, add-one, arith, length-drop, length-take}
use Rattle.std.proofs.lemmas.List.{take-append-drop, drop_more, get_or-take, get_or-drop, get_or_past, length-take-le, nil_from_length, drop-drop}
use Rattle.std.proofs.lemmas.Bool.{cases_Bool, cond-true, cond-false, ltb-false, cases_lt}
use Rattle.tree.specs.Meaning.{Meaning, OneSpelling}
use Rattle.tree.specs.Path.{path_bytes, and_then, front_node, nodes_of}
use Rattle.tree.specs.Numbering.{bytes_of_number}
use Rattle.strip.specs.Format.{strip_bytes, height_in, number_in, token_in}
use Rattle.strip.specs.Calls.{nodes_in}
use Rattle.strip.proofs.Faultless.{Faultless}

bytes_drop : (k : ℕ) (bs : List ℕ) → ((i : ℕ) → get_or bs i 0 < 256) → (i : ℕ) → get_or (drop k bs) i 0 < 256
bytes_drop k bs each i = rw get_or-drop (each (k + i))

past_take : (k i : ℕ) (bs : List ℕ) → k ≤ i → get_or (take k bs) i 0 ≡ 0
past_take k i bs ge = get_or_past (take k bs) i 0 (simp length-take (omega arith))

bytes_take : (k : ℕ) (bs : List ℕ) → ((i : ℕ) → get_or bs i 0 < 256) → (i : ℕ) → get_or (take k bs) i 0 < 256
bytes_take k bs each i =
    ⊎_elim (λ lt. omega (arith, get_or-take k bs i 0 lt, each i)) (λ ge. omega (arith, past_take k i bs ge)) (cases_lt i k)

module _ {N : Type 0} (m : Meaning N) (one : OneSpelling m) where
  -- a node at the front is spelled by the bytes there
  front_spelled : (bytes : List ℕ) (x : N) → ((i : ℕ) → get_or bytes i 0 < 256) → front_node m bytes ≡ Some x → (m.width ≤ length bytes) × (m.put x ≡ take m.width bytes)
  front_spelled bytes x each e =
      ⊎_elim (λ short. absurd (let none = cond-true (ltb (length bytes) m.width) None (m.read (take m.width bytes)) short in cc))
      (λ long.
      let room = ltb-false (length bytes) m.width long in
      let found = sym (cond-false (ltb (length bytes) m.width) None (m.read (take m.width bytes)) long) ∙ e in
      (room, one (take m.width bytes) x (length-take-le m.width bytes room) (bytes_take m.width bytes each) found))
      (cases_Bool (ltb (length bytes) m.width))

  by_front : (k : ℕ) (bytes : List ℕ) (o : Option N) → ((i : ℕ) → get_or bytes i 0 < 256) → front_node m bytes ≡ o →
      (length (nodes_of m k (drop m.width bytes)) ≡ k → length (drop m.width bytes) ≡ k * m.width → path_bytes m (nodes_of m k (drop m.width bytes)) ≡ drop m.width bytes) →
      length (and_then o (nodes_of m k (drop m.width bytes))) ≡ suc k → length bytes ≡ suc k * m.width →
      path_bytes m (and_then o (nodes_of m k (drop m.width bytes))) ≡ bytes
  by_front k bytes None each e rest count size = absurd (omega arith)
  by_front k bytes (Some x) each e rest count size =
      let here = front_spelled bytes x each e in
      let row : suc k * m.width ≡ k * m.width + m.width = rw (← add-one) (simp (add-mul, one-mul)) in
      let after = rest (omega arith) (simp length-drop (omega arith)) in
      ap₂ ◌++◌ here.1 after ∙ take-append-drop m.width bytes

  -- a path that reads as k nodes to its end
  pub path_spelled : (k : ℕ) (bytes : List ℕ) → ((i : ℕ) → get_or bytes i 0 < 256) → length (nodes_of m k bytes) ≡ k → length bytes ≡ k * m.width → path_bytes m (nodes_of m k bytes) ≡ bytes
  path_spelled zero bytes each count size = sym (nil_from_length bytes (size ∙ zero-mul m.width))
  path_spelled (suc k) bytes each count size =
      by_front k bytes (front_node m bytes) each refl (path_spelled k (drop m.width bytes) (bytes_drop m.width bytes each)) count size

  -- eight bytes and what follows
  front : (bs : List ℕ) → 41 ≤ length bs → bs ≡ get_or bs 0 0 ∷ get_or bs 1 0 ∷ get_or bs 2 0 ∷ get_or bs 3 0 ∷ get_or bs 4 0 ∷ get_or bs 5 0 ∷ get_or bs 6 0 ∷ get_or bs 7 0 ∷ drop 8 bs
  front bs long =
      drop_more bs 0 0 (omega arith)
      ∙ ap (λ l. get_or bs 0 0 ∷ l) (drop_more bs 1 0 (omega arith)
      ∙ ap (λ l. get_or bs 1 0 ∷ l) (drop_more bs 2 0 (omega arith)
      ∙ ap (λ l. get_or bs 2 0 ∷ l) (drop_more bs 3 0 (omega arith)
      ∙ ap (λ l. get_or bs 3 0 ∷ l) (drop_more bs 4 0 (omega arith)
      ∙ ap (λ l. get_or bs 4 0 ∷ l) (drop_more bs 5 0 (omega arith)
      ∙ ap (λ l. get_or bs 5 0 ∷ l) (drop_more bs 6 0 (omega arith)
      ∙ ap (λ l. get_or bs 6 0 ∷ l) (drop_more bs 7 0 (omega arith))))))))

  back : (bs : List ℕ) → 41 ≤ length bs → drop 8 bs ≡ token_in bs ++ get_or bs 40 0 ∷ drop 41 bs
  back bs long =
      sym (take-append-drop 32 (drop 8 bs))
      ∙ ap (λ l. token_in bs ++ l) (drop-drop 32 8 bs ∙ drop_more bs 40 0 (omega arith))

  pub strip_spelled : (bs : List ℕ) → ((i : ℕ) → get_or bs i 0 < 256) → Faultless m bs → strip_bytes m (height_in bs) (number_in bs) (token_in bs) (nodes_in m bs) ≡ bs
  unfolding strip_bytes
  strip_spelled bs each ok =
      let size = ok.size in
      let H : ℕ = height_in bs in
      let long : 41 ≤ length bs = omega arith in
      let path = path_spelled H (drop 41 bs) (bytes_drop 41 bs each) ok.nodes (simp length-drop (omega arith)) in
      let number = bytes_of_number (get_or bs 3 0) (get_or bs 4 0) (get_or bs 5 0) (get_or bs 6 0) [] (each 3) (each 4) (each 5) (each 6) in
      let tail = ap₂ (λ c l. token_in bs ++ c ∷ l) (sym ok.path_count) path ∙ sym (back bs long) in
      (λ i. sym ok.head_count i ∷ sym ok.kind i ∷ H ∷ (number i ++ sym ok.token_count i ∷ tail i))
      ∙ sym (front bs long)

-- Decoding two digits at a time.
use Rattle.std.proofs.Common.{◌≡◌, ℕ, ◌+◌, ◌*◌, ◌/◌, ◌%◌, ◌<◌, List, [], ◌∷◌, ◌++◌, length, get_or, take, drop, Some, None, Err, Option, ok_or, sym, refl, ap, ◌∙◌, ap₂, arith}
use Rattle.std.proofs.lemmas.List.{append_assoc, drop_more}
use Rattle.std.specs.Simd.{first_chunks}
use Rattle.strip.specs.Hex.{digit_value}
use Rattle.text.specs.declared.bytes.NoBytes.{NoBytes}
use Rattle.text.specs.Hex.{byte_before, bytes_of}
use Rattle.tree.proofs.Listing.{chunk_at}

-- bytes with others before them
abbrev pub after : List ℕ → Option (List ℕ) → Option (List ℕ)
after done None = None
after done (Some rest) = Some (done ++ rest)

pub after_none : (o : Option (List ℕ)) → o ≡ after [] o
after_none None = refl
after_none (Some rest) = refl

lacks_rest : (a b : Option ℕ) → byte_before a b None ≡ None
lacks_rest None b = refl
lacks_rest (Some x) None = refl
lacks_rest (Some x) (Some y) = refl

-- digits come in pairs
pub odd_none : (text : List ℕ) → (length text % 2 ≡ 0 → ⊥) → bytes_of text ≡ None
odd_none [] odd = absurd (odd refl)
odd_none (a ∷ []) odd = refl
odd_none (a ∷ b ∷ rest) odd = ap (byte_before (digit_value a) (digit_value b)) (odd_none rest (λ e. odd (omega arith))) ∙ lacks_rest (digit_value a) (digit_value b)

push_before : (done : List ℕ) (high low : ℕ) (o : Option (List ℕ)) → after done (byte_before (Some high) (Some low) o) ≡ after (done ++ (16 * high + low) ∷ []) o
push_before done high low None = refl
push_before done high low (Some rest) = ap Some (sym (append_assoc done ((16 * high + low) ∷ []) rest))

-- a byte that is no digit
pub no_digit : (o : Option ℕ) (why given : NoBytes) → Err given ≡ ok_or o why → (None ≡ o) × (given ≡ why)
no_digit None why given is = (refl, cc)
no_digit (Some v) why given is = absurd cc

-- a text that is cut into pairs
module _ (text : List ℕ) (pairs : List (List ℕ)) (cut : pairs ≡ first_chunks 2 (length text / 2) text) (i : ℕ) (within : i < length text / 2) where
  two : drop (2 * i) text ≡ get_or text (2 * i) 0 ∷ get_or text (2 * i + 1) 0 ∷ drop (2 * (i + 1)) text
  two =
      let next : 2 * i + 1 + 1 ≡ 2 * (i + 1) = omega arith in
      drop_more text (2 * i) 0 (omega arith)
      ∙ ap (λ l. get_or text (2 * i) 0 ∷ l) (drop_more text (2 * i + 1) 0 (omega arith) ∙ ap (λ k. get_or text (2 * i + 1) 0 ∷ drop k text) next)

  left : drop (2 * i) text ≡ get_or (get_or pairs i []) 0 0 ∷ get_or (get_or pairs i []) 1 0 ∷ drop (2 * (i + 1)) text
  left =
      let pair = ap (λ l. get_or l i []) cut ∙ chunk_at 2 (length text / 2) i text within ∙ ap (take 2) two in
      two ∙ ap (λ l. get_or l 0 0 ∷ get_or l 1 0 ∷ drop (2 * (i + 1)) text) (sym pair)

  pub pair_read : (done : List ℕ) (a b : Option ℕ) → bytes_of text ≡ after done (bytes_of (drop (2 * i) text)) → a ≡ digit_value (get_or (get_or pairs i []) 0 0) → b ≡ digit_value (get_or (get_or pairs i []) 1 0) → bytes_of text ≡ after done (byte_before a b (bytes_of (drop (2 * (i + 1)) text)))
  pair_read done a b so_far is_a is_b =
      so_far ∙ ap (λ l. after done (bytes_of l)) left ∙ ap₂ (λ x y. after done (byte_before x y (bytes_of (drop (2 * (i + 1)) text)))) (sym is_a) (sym is_b)

  pub pair_more : (done : List ℕ) (high low : ℕ) → bytes_of text ≡ after done (bytes_of (drop (2 * i) text)) → Some high ≡ digit_value (get_or (get_or pairs i []) 0 0) → Some low ≡ digit_value (get_or (get_or pairs i []) 1 0) → bytes_of text ≡ after (done ++ (16 * high + low) ∷ []) (bytes_of (drop (2 * (i + 1)) text))
  pair_more done high low so_far is_high is_low =
      pair_read done (Some high) (Some low) so_far is_high is_low ∙ push_before done high low (bytes_of (drop (2 * (i + 1)) text))

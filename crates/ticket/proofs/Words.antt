-- Words that stand in a text, and where they fail.
use Rattle.std.proofs.Common.{◌≡◌, ℕ, zero, suc, ◌+◌, ◌<◌, ◌≤◌, false, List, [], ◌∷◌, ◌++◌, length, get_or, take, drop, codes, Ok, Err, Result, is_ok, ◌≢◌, sym, refl, ap, ◌∙◌, arith, length-append}
use Rattle.std.proofs.lemmas.List.Prefix.{front_from_reads}
use Rattle.std.proofs.lemmas.List.{take-append-drop, take-take, take-append-le, length-take-le, get_or-take, get_or_append_left}
use Rattle.ticket.specs.declared.reader.Wrong.{Wrong}
use Rattle.ticket.specs.Pieces.{WrongWord, LiteralRead}

-- the byte at k of a list that goes on after k
front_byte : (xs rest : List ℕ) (k : ℕ) → k < length xs → get_or (take (k + 1) xs ++ rest) k 0 ≡ get_or xs k 0
front_byte xs rest k lt =
    let size = length-take-le (k + 1) xs (omega arith) in
    get_or_append_left (take (k + 1) xs) rest 0 k (omega arith) ∙ get_or-take (k + 1) xs k 0 (omega arith)

-- where a word fails that is not the front
pub literal_fails : (word xs : List ℕ) (k : ℕ) → k ≤ length word → k ≤ length xs → ((i : ℕ) → i < k → get_or xs i 0 ≡ get_or word i 0) → (k < length word → k < length xs → get_or xs k 0 ≡ get_or word k 0 → ⊥) → ((ys : List ℕ) → xs ≢ word ++ ys) → WrongWord {A = Unit {0}} (λ _. Unit {0}) (λ _. word) xs k
literal_fails word xs k inside within same differs none = record {
  within = within;
  begins =
      let size = length-take-le k xs within in
      (tt, tt, drop (length (take k xs)) word, front_from_reads 0 word (take k xs) (omega arith) (λ i lt. sym (same i (omega arith)) ∙ sym (get_or-take k xs i 0 (omega arith))));
  stops = λ lt a g rest e.
      let size = ap length e ∙ length-append (take (k + 1) xs) rest in
      let more = length-take-le (k + 1) xs (omega arith) in
      differs (omega arith) lt (sym (ap (λ l. get_or l k 0) e ∙ front_byte xs rest k lt));
  none = λ a g ys e. none ys e;
}

-- Among words that reach a place, none goes on there as the bytes do; one of them comes as far.
pub word_fails : {A : Type 0} (Good : A → Type 0) (word : A → List ℕ) (xs : List ℕ) (k : ℕ) → k ≤ length xs →
    (a : A) → Good a → take k (word a) ≡ take k xs →
    ((b : A) → Good b → k ≤ length (word b)) →
    ((b : A) → Good b → take k (word b) ≡ take k xs → (k < length (word b)) × (k < length xs → get_or xs k 0 ≡ get_or (word b) k 0 → ⊥)) →
    WrongWord Good word xs k
word_fails Good word xs k within a good same reach differs = record {
  within = within;
  begins = (a, good, drop k (word a), sym (take-append-drop k (word a)) ∙ ap (λ l. l ++ drop k (word a)) same);
  stops = λ lt b gb rest e.
      let size = length-take-le (k + 1) xs (omega arith) in
      let front = ap (take k) e ∙ take-append-le k (take (k + 1) xs) rest (omega arith) ∙ take-take k (k + 1) xs (omega arith) in
      (differs b gb front).1 lt (sym (ap (λ l. get_or l k 0) e ∙ front_byte xs rest k lt));
  none = λ b gb ys e.
      let size = ap length e ∙ length-append (word b) ys in
      let front = sym (ap (take k) e ∙ take-append-le k (word b) ys (reach b gb)) in
      let inside = (differs b gb front).0 in
      (differs b gb front).1 (omega arith) (ap (λ l. get_or l k 0) e ∙ get_or_append_left (word b) ys 0 k inside);
}

-- a list with a first byte
pub front : (xs : List ℕ) → 0 < length xs → xs ≡ get_or xs 0 0 ∷ drop 1 xs
front [] some = absurd (omega arith)
front (x ∷ xs) some = refl

-- a word of one byte fails at once
pub one_byte : (b : ℕ) (xs : List ℕ) (k : ℕ) → WrongWord {A = Unit {0}} (λ _. Unit {0}) (λ _. b ∷ []) xs k → k ≡ 0
one_byte b xs zero wrong = refl
one_byte b [] (suc k) wrong = absurd (let within = wrong.within in omega arith)
one_byte b (x ∷ xs) (suc k) wrong = absurd (wrong.none tt tt xs (ap (λ l. get_or l 0 0 ∷ xs) (sym wrong.begins.3)))

-- a line that does not end here
pub no_end : (before later : List ℕ) (read : Result Unit Wrong) → LiteralRead before (codes "\n") later read → false ≡ is_ok read → (later ≡ before) × (0 < length before → get_or before 0 0 ≡ 10 → ⊥)
no_end before later (Ok done) e failed = absurd cc
no_end before later (Err wrong) e failed = (e.1, λ some end. e.0.2.none tt tt (drop 1 before) (front before some ∙ ap (λ b. b ∷ drop 1 before) end))

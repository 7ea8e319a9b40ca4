-- Sets of byte lists that begin with one of some words: where bytes go wrong in them.
use Rattle.std.proofs.Common.{◌≡◌, ℕ, ◌+◌, ◌≤◌, List, ◌++◌, length, take, drop, sym, refl, ap, ◌∙◌, subst, ⊎_elim, arith, length-append}
use lib.Seq.{take-append-add}
use Rattle.std.proofs.lemmas.List.{append_assoc, append_cancel_left, take-append-drop, take-append-le, drop-append-le, take_at, drop_at, length-take-le}
use Rattle.std.proofs.lemmas.Bool.{cases_lt}
use Rattle.ticket.specs.Reading.{WrongAt}
use Rattle.ticket.specs.Pieces.{WrongWord}

-- one of the good words, and then something of its own
abbrev pub begun : {A : Type 0} → (A → Type 0) → (A → List ℕ) → (A → List ℕ → Type 0) → List ℕ → Type 0
begun {A} Good word Rest xs = (a : A) × Good a × (ys : List ℕ) × (xs ≡ word a ++ ys) × Rest a ys

-- of two fronts of one list, one is a front of the other
fronts : (us xs vs ys : List ℕ) → us ++ xs ≡ vs ++ ys → length us ≤ length vs → (rest : List ℕ) × (vs ≡ us ++ rest) × (xs ≡ rest ++ ys)
fronts us xs vs ys e short =
    let front = sym (take_at us xs (length us) refl) ∙ ap (take (length us)) e ∙ take-append-le (length us) vs ys short in
    let back = sym (drop_at us xs (length us) refl) ∙ ap (drop (length us)) e ∙ drop-append-le (length us) vs ys short in
    (drop (length us) vs, sym (take-append-drop (length us) vs) ∙ ap (λ l. l ++ drop (length us) vs) (sym front), back)

module _ {A : Type 0} (Good : A → Type 0) (word : A → List ℕ) (Rest : A → List ℕ → Type 0) where
  -- wrong within a word that can go on
  pub wrong_word : (xs : List ℕ) (k : ℕ) (wrong : WrongWord Good word xs k) (more : List ℕ) → Rest wrong.begins.0 more → WrongAt (begun Good word Rest) xs k
  wrong_word xs k wrong more goes_on =
      let a = wrong.begins.0 in
      let rest = wrong.begins.2 in
      record {
        within = wrong.within;
        begins = (rest ++ more, (a, wrong.begins.1, more, sym (append_assoc (take k xs) rest more) ∙ ap (λ l. l ++ more) (sym wrong.begins.3), goes_on));
        stops = λ lt zs found.
            let size : length (take (k + 1) xs) ≡ k + 1 = length-take-le (k + 1) xs (omega arith) in
            ⊎_elim (λ inside.
            let f = fronts (take (k + 1) xs) zs (word found.0) found.2 found.3 (omega arith) in
            wrong.stops lt found.0 found.1 f.0 f.1)
            (λ whole.
            let f = fronts (word found.0) found.2 (take (k + 1) xs) zs (sym found.3) (omega arith) in
            wrong.none found.0 found.1 (f.0 ++ drop (k + 1) xs) (sym (take-append-drop (k + 1) xs) ∙ ap (λ l. l ++ drop (k + 1) xs) f.1 ∙ append_assoc (word found.0) f.0 (drop (k + 1) xs)))
            (cases_lt k (length (word found.0)));
        lacks = λ end found. wrong.none found.0 found.1 found.2 found.3;
      }

  -- no good word is the front of another
  module _ (apart : (a b : A) → Good a → Good b → (rest : List ℕ) → word a ≡ word b ++ rest → a ≡ b) where
    same_word : (a b : A) → Good a → Good b → (us vs : List ℕ) → word a ++ us ≡ word b ++ vs → b ≡ a
    same_word a b ga gb us vs e =
        ⊎_elim (λ shorter. let f = fronts (word a) us (word b) vs e (omega arith) in apart b a gb ga f.0 f.1)
        (λ longer. let f = fronts (word b) vs (word a) us (sym e) longer in sym (apart a b ga gb f.0 f.1))
        (cases_lt (length (word a)) (length (word b)))

    pub after_word : (a : A) → Good a → (us : List ℕ) → begun Good word Rest (word a ++ us) → Rest a us
    after_word a good us found =
        let same = same_word a found.0 good found.1 us found.2 found.3 in
        let ends = append_cancel_left (word a) us found.2 (found.3 ∙ ap (λ b. word b ++ found.2) same) in
        subst (Rest a) (sym ends) (subst (λ b. Rest b found.2) same found.4)

    -- wrong after a word
    pub wrong_after : (a : A) → Good a → (xs ys : List ℕ) (q : ℕ) → xs ≡ word a ++ ys → WrongAt (Rest a) ys q → WrongAt (begun Good word Rest) xs (length (word a) + q)
    wrong_after a good xs ys q is wrong =
        let size = ap length is ∙ length-append (word a) ys in
        let low = wrong.within in
        let upto = λ (k : ℕ). ap (take (length (word a) + k)) is ∙ take-append-add (word a) ys k in
        record {
          within = omega arith;
          begins = (wrong.begins.0, (a, good, take q ys ++ wrong.begins.0, ap (λ l. l ++ wrong.begins.0) (upto q) ∙ append_assoc (word a) (take q ys) wrong.begins.0, wrong.begins.1));
          stops = λ lt rest found.
              let place : length (word a) + q + 1 ≡ length (word a) + (q + 1) = omega arith in
              let here = ap (λ k. take k xs ++ rest) place ∙ ap (λ l. l ++ rest) (upto (q + 1)) ∙ append_assoc (word a) (take (q + 1) ys) rest in
              wrong.stops (omega arith) rest (after_word a good (take (q + 1) ys ++ rest) (subst (begun Good word Rest) here found));
          lacks = λ end found. wrong.lacks (omega arith) (after_word a good ys (subst (begun Good word Rest) is found));
        }

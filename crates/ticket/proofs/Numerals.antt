-- Numbers of one or two digits.
use Rattle.std.proofs.Common.{◌≡◌, ℕ, ◌+◌, ◌*◌, ◌/◌, ◌%◌, ◌<◌, ◌≤◌, ltb, ◌⊎◌, List, [], ◌∷◌, ◌++◌, length, get_or, take, sym, refl, ap, ◌∙◌, inl, inr, ⊎_elim, Some, None, arith, lit<, length-append}
use Rattle.std.proofs.lemmas.List.{take_more, get_or_append_left, get_or-take}
use Rattle.std.proofs.lemmas.Bool.{cases_lt, cond-true, cond-false, lt-ltb, le-ltb}
use Rattle.ticket.specs.Texts.{number_line}
use Rattle.std.proofs.lemmas.Bool.Decides.{nat_tests}
use Rattle.ticket.specs.Pieces.{WrongWord, Fails, GoodNumber, decimal_value, leading_value}
use Rattle.ticket.proofs.Words.{word_fails}

one_digit : (n : ℕ) → n < 10 → number_line n ≡ (48 + n) ∷ 10 ∷ []
one_digit n low = cond-true (ltb n 10) _ ((48 + n / 10) ∷ (48 + n % 10) ∷ 10 ∷ []) (lt-ltb n 10 low)

two_digits : (n : ℕ) → 10 ≤ n → number_line n ≡ (48 + n / 10) ∷ (48 + n % 10) ∷ 10 ∷ []
two_digits n high = cond-false (ltb n 10) ((48 + n) ∷ 10 ∷ []) _ (le-ltb n 10 high)

-- what is known of a number's line
record Line (n : ℕ) : Type 0 where
  long : 2 ≤ length (number_line n)
  first : (48 ≤ get_or (number_line n) 0 0) × (get_or (number_line n) 0 0 ≤ 57) × (1 ≤ n → n ≤ 99 → 49 ≤ get_or (number_line n) 0 0)
  second : (get_or (number_line n) 1 0 ≡ 10) ⊎ ((48 ≤ get_or (number_line n) 1 0) × (get_or (number_line n) 1 0 ≤ 57) × (length (number_line n) ≡ 3) × (get_or (number_line n) 2 0 ≡ 10))

line_of : (n : ℕ) → GoodNumber n → Line n
line_of n good =
    ⊎_elim (λ low.
    let is = one_digit n low in
    let size = ap length is in
    let a = ap (λ l. get_or l 0 0) is in
    record { long = omega arith; first = (omega arith, omega arith, λ _ _. omega arith); second = inl (ap (λ l. get_or l 1 0) is) })
    (λ high.
    let is = two_digits n high in
    let size = ap length is in
    let a = ap (λ l. get_or l 0 0) is in
    let b = ap (λ l. get_or l 1 0) is in
    record { long = omega arith; first = (omega arith, omega arith, λ _ _. omega arith); second = inr (omega arith, omega arith, size, ap (λ l. get_or l 2 0) is) })
    (cases_lt n 10)

-- no number's line is the front of another's
pub numbers_apart : (a b : ℕ) → GoodNumber a → GoodNumber b → (rest : List ℕ) → number_line a ≡ number_line b ++ rest → a ≡ b
numbers_apart a b ga gb rest e =
    let lb = line_of b gb in
    let size = ap length e ∙ length-append (number_line b) rest in
    let long = lb.long in
    let zero = ap (λ l. get_or l 0 0) e ∙ get_or_append_left (number_line b) rest 0 0 (omega arith) in
    let one = ap (λ l. get_or l 1 0) e ∙ get_or_append_left (number_line b) rest 0 1 (omega arith) in
    ⊎_elim (λ low-a. ⊎_elim (λ low-b.
    let x = ap (λ l. get_or l 0 0) (one_digit a low-a) in let y = ap (λ l. get_or l 0 0) (one_digit b low-b) in omega arith)
    (λ high-b.
    let x = ap (λ l. get_or l 1 0) (one_digit a low-a) in let y = ap (λ l. get_or l 1 0) (two_digits b high-b) in absurd (omega arith))
    (cases_lt b 10))
    (λ high-a. ⊎_elim (λ low-b.
    let x = ap (λ l. get_or l 1 0) (two_digits a high-a) in let y = ap (λ l. get_or l 1 0) (one_digit b low-b) in absurd (omega arith))
    (λ high-b.
    let x = ap (λ l. get_or l 0 0) (two_digits a high-a) in let y = ap (λ l. get_or l 0 0) (two_digits b high-b) in
    let u = ap (λ l. get_or l 1 0) (two_digits a high-a) in let v = ap (λ l. get_or l 1 0) (two_digits b high-b) in omega arith)
    (cases_lt b 10))
    (cases_lt a 10)

-- a list's first bytes
first_of : (xs : List ℕ) → 0 < length xs → take 1 xs ≡ get_or xs 0 0 ∷ []
first_of xs some = take_more xs 0 0 some

first_two : (xs : List ℕ) → 1 < length xs → take 2 xs ≡ get_or xs 0 0 ∷ get_or xs 1 0 ∷ []
first_two xs some = take_more xs 1 0 some ∙ ap (λ l. l ++ get_or xs 1 0 ∷ []) (first_of xs (omega arith))

-- no number begins so
pub number_none : (xs : List ℕ) → (0 < length xs → 49 ≤ get_or xs 0 0 → get_or xs 0 0 ≤ 57 → ⊥) → WrongWord GoodNumber number_line xs 0
number_none xs differs =
    word_fails GoodNumber number_line xs 0 (omega arith) 1 (omega arith, omega arith) refl (λ b g. omega arith) (λ b g same.
    let line = line_of b g in
    let long = line.long in
    (omega arith, λ lt e. differs lt (omega (arith, line.first.2 g.0 g.1)) (omega (arith, line.first.1))))

module _ (xs : List ℕ) (f : ℕ) (some : 1 ≤ f) (low : f ≤ 9) (here : 0 < length xs) (is : get_or xs 0 0 ≡ 48 + f) where
  -- after the first digit comes neither a digit nor the end
  pub number_after_one : (1 < length xs → get_or xs 1 0 ≡ 10 → ⊥) → (1 < length xs → 48 ≤ get_or xs 1 0 → get_or xs 1 0 ≤ 57 → ⊥) → WrongWord GoodNumber number_line xs 1
  number_after_one no_end no_digit =
      let same = ap (take 1) (one_digit f (omega arith)) ∙ ap (λ x. x ∷ []) (sym is) ∙ sym (first_of xs here) in
      word_fails GoodNumber number_line xs 1 here f (some, omega arith) same (λ b g. let long = (line_of b g).long in omega arith) (λ b g alike.
      let line = line_of b g in
      let long = line.long in
      (omega arith, λ lt e. ⊎_elim (λ end. no_end lt (e ∙ end)) (λ digit. no_digit lt (omega (arith, digit.0)) (omega (arith, digit.1))) line.second))

  -- after two digits comes no end
  pub number_after_two : (s : ℕ) → s ≤ 9 → 1 < length xs → get_or xs 1 0 ≡ 48 + s → (2 < length xs → get_or xs 2 0 ≡ 10 → ⊥) → WrongWord GoodNumber number_line xs 2
  number_after_two s small second is-second no_end =
      let n : ℕ = 10 * f + s in
      let tens : n / 10 ≡ f = omega arith in
      let units : n % 10 ≡ s = omega arith in
      let a : 48 + n / 10 ≡ get_or xs 0 0 = omega arith in
      let b : 48 + n % 10 ≡ get_or xs 1 0 = omega arith in
      let same = ap (take 2) (two_digits n (omega arith)) ∙ (λ i. a i ∷ b i ∷ []) ∙ sym (first_two xs second) in
      word_fails GoodNumber number_line xs 2 (omega arith) n (omega arith, omega arith) same (λ c g. (line_of c g).long) (λ c g alike.
      let line = line_of c g in
      let long = line.long in
      let one = sym (get_or-take 2 (number_line c) 1 0 (lit< tt)) ∙ ap (λ l. get_or l 1 0) alike ∙ get_or-take 2 xs 1 0 (lit< tt) in
      ⊎_elim (λ end. absurd (omega arith)) (λ digit. (omega (arith, digit.2), λ lt e. no_end lt (e ∙ digit.3))) line.second)

-- a number fails after its first digit, and after its second
module _ (xs mid : List ℕ) (f : ℕ) (some : 1 ≤ f) (low : f ≤ 9) (first : xs ≡ (48 + f) ∷ mid) where
  here : 0 < length xs
  here = omega (arith, ap length first)

  pub fails_after_one : (0 < length mid → get_or mid 0 0 ≡ 10 → ⊥) → (0 < length mid → 48 ≤ get_or mid 0 0 → get_or mid 0 0 ≤ 57 → ⊥) → Fails GoodNumber number_line xs (length mid)
  fails_after_one no_end no_digit =
      let size = ap length first in
      let second : get_or xs 1 0 ≡ get_or mid 0 0 = ap (λ l. get_or l 1 0) first in
      (1, omega arith, number_after_one xs f some low here (ap (λ l. get_or l 0 0) first) (λ lt e. no_end (omega arith) (sym second ∙ e)) (λ lt above below. no_digit (omega arith) (omega arith) (omega arith)))

  pub fails_after_two : (s : ℕ) (later : List ℕ) → s ≤ 9 → mid ≡ (48 + s) ∷ later → (0 < length later → get_or later 0 0 ≡ 10 → ⊥) → Fails GoodNumber number_line xs (length later)
  fails_after_two s later small second no_end =
      let both = first ∙ ap (λ l. (48 + f) ∷ l) second in
      let size = ap length both in
      let third : get_or xs 2 0 ≡ get_or later 0 0 = ap (λ l. get_or l 2 0) both in
      (2, omega arith, number_after_two xs f some low here (ap (λ l. get_or l 0 0) first) s small (omega arith) (ap (λ l. get_or l 1 0) both) (λ lt e. no_end (omega arith) (sym third ∙ e)))

-- the digits' values
pub decimal_is : (b v : ℕ) → Some v ≡ decimal_value b → (b ≡ 48 + v) × (v ≤ 9)
decimal_is b v e = grind (arith, nat_tests)

pub decimal_none : (b : ℕ) → None ≡ decimal_value b → 48 ≤ b → b ≤ 57 → ⊥
decimal_none b e low high = grind (arith, nat_tests)

pub leading_is : (b v : ℕ) → Some v ≡ leading_value b → (b ≡ 48 + v) × ((1 ≤ v) × (v ≤ 9))
leading_is b v e = grind (arith, nat_tests)

pub leading_none : (b : ℕ) → None ≡ leading_value b → 49 ≤ b → b ≤ 57 → ⊥
leading_none b e low high = grind (arith, nat_tests)

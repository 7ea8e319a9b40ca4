-- The set of all tickets, piece by piece.
use Rattle.std.proofs.Common.{◌≡◌, ℕ, ◌+◌, List, [], ◌∷◌, ◌++◌, length, replicate, codes, refl, ap, ◌∙◌, zero-add, arith, lit≤, length-append}
use Rattle.std.proofs.lemmas.List.{length-replicate}
use Rattle.tree.specs.declared.kind.Kind.{Kind}
use Rattle.tree.specs.declared.kind.Kind.TheVariants.{Sealed}
use Rattle.strip.specs.Hex.{hex_text}
use Rattle.ticket.specs.Texts.{kind_line, number_line}
use Rattle.ticket.specs.Reading.{IsTicket, WrongAt, WrongLeft}
use Rattle.ticket.specs.Pieces.{GoodNumber, GoodSeed, Fails}
use Rattle.ticket.proofs.Languages.{begun, wrong_word, wrong_after}
use Rattle.ticket.proofs.Names.{kinds_apart}
use Rattle.ticket.proofs.Numerals.{numbers_apart}
use Rattle.ticket.proofs.Hexes.{each_zero, seeds_apart}

-- a word, and then something
abbrev pub after : List ℕ → (List ℕ → Type 0) → List ℕ → Type 0
after word Rest = begun {A = Unit {0}} (λ _. Unit {0}) (λ _. word) (λ _. Rest)

-- what is left of a ticket from each piece on
abbrev pub ended : List ℕ → Type 0
ended = after (codes "\n") (λ xs. xs ≡ [])

abbrev pub seeds : List ℕ → Type 0
seeds = begun GoodSeed hex_text (λ seed. ended)

abbrev pub subtrees : List ℕ → Type 0
subtrees = begun GoodNumber number_line (λ h. after (codes "seed ") seeds)

abbrev pub heights : List ℕ → Type 0
heights = begun GoodNumber number_line (λ H. after (codes "subtree ") subtrees)

abbrev pub kinds : List ℕ → Type 0
kinds = begun (λ (_ : Kind). Unit {0}) kind_line (λ k. after (codes "height ") heights)

abbrev pub tickets : List ℕ → Type 0
tickets = after (codes "maker ") kinds

-- each of them has a member
pub some_end : ended (codes "\n")
some_end = (tt, tt, [], refl, refl)

pub some_seed : (xs : List ℕ) × seeds xs
some_seed = (hex_text (replicate 32 0) ++ codes "\n", (replicate 32 0, (length-replicate {A = ℕ} 32 0, each_zero 32), codes "\n", refl, some_end))

pub some_after : (word : List ℕ) (R : List ℕ → Type 0) → (xs : List ℕ) × R xs → (ys : List ℕ) × after word R ys
some_after word R some = (word ++ some.0, (tt, tt, some.0, refl, some.1))

pub some_subtree : (xs : List ℕ) × subtrees xs
some_subtree =
    let rest = some_after (codes "seed ") seeds some_seed in
    (number_line 1 ++ rest.0, (1, (lit≤ tt, lit≤ tt), rest.0, refl, rest.1))

pub some_height : (xs : List ℕ) × heights xs
some_height =
    let rest = some_after (codes "subtree ") subtrees some_subtree in
    (number_line 1 ++ rest.0, (1, (lit≤ tt, lit≤ tt), rest.0, refl, rest.1))

pub some_kind : (xs : List ℕ) × kinds xs
some_kind =
    let rest = some_after (codes "height ") heights some_height in
    (kind_line Sealed ++ rest.0, (Sealed, tt, rest.0, refl, rest.1))

-- tickets by pieces are tickets
pub from_pieces : (xs : List ℕ) → tickets xs → IsTicket xs
from_pieces xs p0 =
    let p1 = p0.4 in
    let p2 = p1.4 in
    let p3 = p2.4 in
    let p4 = p3.4 in
    let p5 = p4.4 in
    let p6 = p5.4 in
    let p7 = p6.4 in
    let p8 = p7.4 in (
      record { kind = p1.0; height = p3.0; subtree = p5.0; seed = p7.0 },
      record { height = p3.1; subtree = p5.1; seed = p7.1.0; bytes = p7.1.1 },
      p0.3 ∙ ap (λ l. codes "maker " ++ l) (p1.3
          ∙ ap (λ l. kind_line p1.0 ++ l) (p2.3 ∙ ap (λ l. codes "height " ++ l) (p3.3
          ∙ ap (λ l. number_line p3.0 ++ l) (p4.3 ∙ ap (λ l. codes "subtree " ++ l) (p5.3
          ∙ ap (λ l. number_line p5.0 ++ l) (p6.3 ∙ ap (λ l. codes "seed " ++ l) (p7.3
          ∙ ap (λ l. hex_text p7.0 ++ l) (p8.3 ∙ ap (λ l. codes "\n" ++ l) p8.4)))))))),
    )

pub to_pieces : (xs : List ℕ) → IsTicket xs → tickets xs
to_pieces xs found =
    let t = found.0 in
    let say = found.1 in
    let last : List ℕ = codes "\n" in
    let six : List ℕ = hex_text t.seed ++ last in
    let five : List ℕ = codes "seed " ++ six in
    let four : List ℕ = number_line t.subtree ++ five in
    let three : List ℕ = codes "subtree " ++ four in
    let two : List ℕ = number_line t.height ++ three in
    let one : List ℕ = codes "height " ++ two in (
      tt,
      tt,
      kind_line t.kind ++ one,
      found.2,
      (
        t.kind,
        tt,
        one,
        refl,
        (
          tt,
          tt,
          two,
          refl,
          (
            t.height,
            say.height,
            three,
            refl,
            (
              tt,
              tt,
              four,
              refl,
              (
                t.subtree,
                say.subtree,
                five,
                refl,
                (
                  tt,
                  tt,
                  six,
                  refl,
                  (
                    t.seed,
                    (say.seed, say.bytes),
                    last,
                    refl,
                    (tt, tt, [], refl, refl),
                  ),
                ),
              ),
            ),
          ),
        ),
      ),
    )

-- Wrong in one set is wrong in another with the same members.
wrong_too : (Is Js : List ℕ → Type 0) → ((xs : List ℕ) → Is xs → Js xs) → ((xs : List ℕ) → Js xs → Is xs) → (bs : List ℕ) (p : ℕ) → WrongAt Is bs p → WrongAt Js bs p
wrong_too Is Js to from bs p wrong = record {
  within = wrong.within;
  begins = (wrong.begins.0, to _ wrong.begins.1);
  stops = λ lt rest found. wrong.stops lt rest (from _ found);
  lacks = λ end found. wrong.lacks end (from _ found);
}

pub wrong_ticket : (bs : List ℕ) (p : ℕ) → WrongAt tickets bs p → WrongAt IsTicket bs p
wrong_ticket = wrong_too tickets IsTicket from_pieces to_pieces

module _ {A : Type 0} (Good : A → Type 0) (word : A → List ℕ) (Rest : A → List ℕ → Type 0) (xs : List ℕ) (left : ℕ) where
  -- wrong in a word
  pub wrong_here : ((a : A) → Good a → (ys : List ℕ) × Rest a ys) → Fails Good word xs left → WrongLeft (begun Good word Rest) xs left
  wrong_here some fails =
      let wrong = fails.2 in
      let more = some wrong.begins.0 wrong.begins.1 in
      (fails.0, fails.1, wrong_word Good word Rest xs fails.0 wrong more.0 more.1)

  -- after it
  pub wrong_later : ((a b : A) → Good a → Good b → (rest : List ℕ) → word a ≡ word b ++ rest → a ≡ b) → (a : A) → Good a → (ys : List ℕ) → xs ≡ word a ++ ys → WrongLeft (Rest a) ys left → WrongLeft (begun Good word Rest) xs left
  wrong_later apart a good ys is wrong =
      let size = ap length is ∙ length-append (word a) ys in
      let place = wrong.1 in
      (length (word a) + wrong.0, omega arith, wrong_after Good word Rest apart a good xs ys wrong.0 is wrong.2)

-- the same for a plain word
pub literal_here : (word : List ℕ) (R : List ℕ → Type 0) → (ys : List ℕ) × R ys → (xs : List ℕ) (left : ℕ) → Fails {A = Unit {0}} (λ _. Unit {0}) (λ _. word) xs left → WrongLeft (after word R) xs left
literal_here word R some xs left = wrong_here {A = Unit {0}} (λ _. Unit {0}) (λ _. word) (λ _. R) xs left (λ a g. some)

literal_later : (word : List ℕ) (R : List ℕ → Type 0) (xs ys : List ℕ) (left : ℕ) → xs ≡ word ++ ys → WrongLeft R ys left → WrongLeft (after word R) xs left
literal_later word R xs ys left = wrong_later {A = Unit {0}} (λ _. Unit {0}) (λ _. word) (λ _. R) xs left (λ a b ga gb rest e. refl) tt tt ys

-- bytes after the end
pub wrong_end : (xs : List ℕ) → (xs ≡ [] → ⊥) → WrongLeft (λ ys. ys ≡ []) xs (length xs)
wrong_end [] some = absurd (some refl)
wrong_end (x ∷ xs) some = (
  0,
  zero-add (length (x ∷ xs)),
  record {
    within = omega arith;
    begins = ([], refl);
    stops = λ lt rest e. omega (arith, ap length e);
    lacks = λ end e. some e;
  },
)

-- a kind, a number or the seed goes wrong
pub kind_here : (xs : List ℕ) (left : ℕ) → Fails (λ _. Unit {0}) kind_line xs left → WrongLeft kinds xs left
kind_here xs left = wrong_here (λ _. Unit {0}) kind_line (λ k. after (codes "height ") heights) xs left (λ a g. some_after (codes "height ") heights some_height)

pub height_here : (xs : List ℕ) (left : ℕ) → Fails GoodNumber number_line xs left → WrongLeft heights xs left
height_here xs left = wrong_here GoodNumber number_line (λ H. after (codes "subtree ") subtrees) xs left (λ a g. some_after (codes "subtree ") subtrees some_subtree)

pub subtree_here : (xs : List ℕ) (left : ℕ) → Fails GoodNumber number_line xs left → WrongLeft subtrees xs left
subtree_here xs left = wrong_here GoodNumber number_line (λ h. after (codes "seed ") seeds) xs left (λ a g. some_after (codes "seed ") seeds some_seed)

pub seed_here : (xs : List ℕ) (left : ℕ) → Fails GoodSeed hex_text xs left → WrongLeft seeds xs left
seed_here xs left = wrong_here GoodSeed hex_text (λ seed. ended) xs left (λ a g. (codes "\n", some_end))

-- A ticket that was read up to a piece, with so many bytes left where what follows goes wrong.
module _ {text : List ℕ} (left : ℕ) where
  pub past_none : WrongLeft tickets text left → WrongLeft IsTicket text left
  past_none wrong = (wrong.0, wrong.1, wrong_ticket text wrong.0 wrong.2)

  module _ {a : List ℕ} (maker : text ≡ codes "maker " ++ a) where
    pub past_maker : WrongLeft kinds a left → WrongLeft IsTicket text left
    past_maker wrong = past_none (literal_later (codes "maker ") kinds text a left maker wrong)

    module _ (k : Kind) {b : List ℕ} (kind : a ≡ kind_line k ++ b) where
      pub past_kind : WrongLeft (after (codes "height ") heights) b left → WrongLeft IsTicket text left
      past_kind wrong = past_maker (wrong_later (λ _. Unit {0}) kind_line (λ k. after (codes "height ") heights) a left kinds_apart k tt b kind wrong)

      module _ {c : List ℕ} (tall : b ≡ codes "height " ++ c) where
        pub past_tall : WrongLeft heights c left → WrongLeft IsTicket text left
        past_tall wrong = past_kind (literal_later (codes "height ") heights b c left tall wrong)

        module _ {H : ℕ} {d : List ℕ} (height : GoodNumber H × (c ≡ number_line H ++ d)) where
          pub past_height : WrongLeft (after (codes "subtree ") subtrees) d left → WrongLeft IsTicket text left
          past_height wrong = past_tall (wrong_later GoodNumber number_line (λ H. after (codes "subtree ") subtrees) c left numbers_apart H height.0 d height.1 wrong)

          module _ {e : List ℕ} (small : d ≡ codes "subtree " ++ e) where
            pub past_small : WrongLeft subtrees e left → WrongLeft IsTicket text left
            past_small wrong = past_height (literal_later (codes "subtree ") subtrees d e left small wrong)

            module _ {h : ℕ} {f : List ℕ} (subtree : GoodNumber h × (e ≡ number_line h ++ f)) where
              pub past_subtree : WrongLeft (after (codes "seed ") seeds) f left → WrongLeft IsTicket text left
              past_subtree wrong = past_small (wrong_later GoodNumber number_line (λ h. after (codes "seed ") seeds) e left numbers_apart h subtree.0 f subtree.1 wrong)

              module _ {g : List ℕ} (secret : f ≡ codes "seed " ++ g) where
                pub past_secret : WrongLeft seeds g left → WrongLeft IsTicket text left
                past_secret wrong = past_subtree (literal_later (codes "seed ") seeds f g left secret wrong)

                module _ (s : List ℕ) {i : List ℕ} (seed : GoodSeed s × (g ≡ hex_text s ++ i)) where
                  pub past_seed : WrongLeft ended i left → WrongLeft IsTicket text left
                  past_seed wrong = past_secret (wrong_later GoodSeed hex_text (λ seed. ended) g left seeds_apart s seed.0 i seed.1 wrong)

                  module _ {j : List ℕ} (last : i ≡ codes "\n" ++ j) where
                    pub past_last : WrongLeft (λ xs. xs ≡ []) j left → WrongLeft IsTicket text left
                    past_last wrong = past_seed (literal_later (codes "\n") (λ xs. xs ≡ []) i j left last wrong)

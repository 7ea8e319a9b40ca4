use Rattle.std.proofs.Common.{◌≡◌, ℕ, List, ◌∷◌, length, get_or, drop, subst, sym, zero-add, ap, ◌∙◌, arith}
use Rattle.strip.proofs.Returning.{err_is}
use Rattle.ticket.specs.Texts.{number_line}
use Rattle.ticket.specs.Pieces.{Fails, GoodNumber}
use Rattle.ticket.proofs.Numerals.{number_none, fails_after_one, fails_after_two, decimal_is, decimal_none, leading_is, leading_none}
use Rattle.ticket.proofs.Words.{front, one_byte, no_end}
use Rattle.ticket.proofs.reader.Reader.number.Goals as goal

pub returns-in_err-first : goal.returns-in_err-first
returns-in_err-first c =
    let xs : List ℕ = c.args.self.now.left.now in
    let read = c.in_err-first.ensures in
    rw (err_is c.from_residual.ensures.1) (
      0,
      zero-add c.in_err-first.field-0.0.left ∙ read.0,
      number_none xs (λ lt above below. leading_none (get_or xs 0 0) (read.2 (get_or xs 0 0) (drop 1 xs) (front xs lt)) above below),
    )

pub returns-in_err-second : goal.returns-in_err-second
returns-in_err-second c =
    let xs : List ℕ = c.args.self.now.left.now in
    let mid : List ℕ = c.next.new.self.left.now in
    let begins = c.in_ok-first.ensures in
    let first = leading_is begins.0 c.in_ok-first.first begins.2 in
    let on = no_end mid c.literal.new.self.left.now c.literal.result c.literal.ensures c.if-is_ok.ensures.value in
    let read = c.in_err-second.ensures in
    let fails = fails_after_one xs mid c.in_ok-first.first first.1.0 first.1.1 (begins.1 ∙ ap (λ b. b ∷ mid) first.0) on.1
    (λ some above below. decimal_none (get_or mid 0 0) (read.2 (get_or mid 0 0) (drop 1 mid) (on.0 ∙ front mid some)) above below) in
    rw (err_is c.from_residual-in_err-second.ensures.1) (subst (Fails GoodNumber number_line xs) (sym (read.0 ∙ ap length on.0)) fails)

pub returns-in_err-literal : goal.returns-in_err-literal
returns-in_err-literal c =
    let xs : List ℕ = c.args.self.now.left.now in
    let mid : List ℕ = c.next.new.self.left.now in
    let later : List ℕ = c.next-2.new.self.left.now in
    let begins = c.in_ok-first.ensures in
    let first = leading_is begins.0 c.in_ok-first.first begins.2 in
    let on = no_end mid c.literal.new.self.left.now c.literal.result c.literal.ensures c.if-is_ok.ensures.value in
    let goes_on = c.in_ok-second.ensures in
    let second = decimal_is goes_on.0 c.in_ok-second.second goes_on.2 in
    let ends = c.in_err-literal.ensures.0 in
    let here = one_byte 10 later ends.0 ends.2 in
    let place = ends.1 in
    let size : length later ≡ c.in_err-literal.field-0.0.left = omega arith in
    let fails = fails_after_two xs mid c.in_ok-first.first first.1.0 first.1.1 (begins.1 ∙ ap (λ b. b ∷ mid) first.0) c.in_ok-second.second later second.1 (sym on.0 ∙ goes_on.1 ∙ ap (λ b. b ∷ later) second.0)
    (λ some end. ends.2.none tt tt (drop 1 later) (front later some ∙ ap (λ b. b ∷ drop 1 later) end)) in
    rw (err_is c.from_residual-in_err-literal.ensures.1) (subst (Fails GoodNumber number_line xs) size fails)

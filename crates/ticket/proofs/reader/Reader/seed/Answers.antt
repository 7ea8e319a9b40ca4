use Rattle.std.proofs.Common.{ℕ, ◌+◌, ◌*◌, ◌<◌, List, [], ◌∷◌, ◌++◌, length, get_or, take, length-set, sym, ap, ◌∙◌, subst, arith, lit<}
use Rattle.std.proofs.lemmas.List.{length-take-le, take_more_set}
use Rattle.strip.specs.Hex.{hex_text}
use Rattle.strip.proofs.Returning.{err_is}
use Rattle.ticket.specs.Pieces.{Fails, GoodSeed}
use Rattle.ticket.proofs.Hexes.{each_append, each_next, byte_fits, fails_high, fails_low, reads_byte}
use Rattle.ticket.proofs.reader.Reader.seed.Goals as goal

pub returns-in_err-high : goal.returns-in_err-high
returns-in_err-high c =
    let old : List ℕ = c.args.self.now.left.now in
    let left : List ℕ = c.loop-byte.self.left.now in
    let i : ℕ = c.loop-byte.byte-index in
    let inv = c.loop-byte.invariant in
    let read = c.in_err-high.ensures in
    let many = length-take-le i c.loop-byte.seed (omega arith) in
    let fails = fails_high old (take i c.loop-byte.seed) left i many (omega arith) inv.2 inv.1 (λ b rest e. (read.2 b rest e).0) in
    rw (err_is c.from_residual.ensures.1) (subst (Fails GoodSeed hex_text old) (sym read.0) fails)

pub returns-in_err-low : goal.returns-in_err-low
returns-in_err-low c =
    let old : List ℕ = c.args.self.now.left.now in
    let left : List ℕ = c.loop-byte.self.left.now in
    let i : ℕ = c.loop-byte.byte-index in
    let inv = c.loop-byte.invariant in
    let high = c.in_ok-high.ensures in
    let read = c.in_err-low.ensures in
    let many = length-take-le i c.loop-byte.seed (omega arith) in
    let fails = fails_low old (take i c.loop-byte.seed) left i many (omega arith) inv.2 inv.1 high.0 c.in_ok-high.high c.next.new.self.left.now high.1 high.2.0 (λ b rest e. (read.2 b rest e).0) in
    rw (err_is c.from_residual-in_err-low.ensures.1) (subst (Fails GoodSeed hex_text old) (sym read.0) fails)

pub loop-byte-preserved : goal.loop-byte-preserved
loop-byte-preserved c =
    let old : List ℕ = c.args.self.now.left.now in
    let left : List ℕ = c.loop-byte.self.left.now in
    let seed : List ℕ = c.loop-byte.seed in
    let i : ℕ = c.loop-byte.byte-index in
    let inv = c.loop-byte.invariant in
    let high = c.in_ok-high.ensures in
    let low = c.in_ok-low.ensures in
    let x : ℕ = 16 * c.in_ok-high.high + c.in_ok-low.low in
    let room : i < length seed = omega arith in
    let many = length-take-le i seed (omega arith) in
    let grown = take_more_set seed i x room in
    let more = reads_byte old (take i seed) left i many (omega arith) inv.2 inv.1 high.0 c.in_ok-high.high c.next.new.self.left.now high.1 high.2.0 low.0 c.in_ok-low.low c.next-in-loop-byte.new.self.left.now low.1 low.2.0 in
    let bytes = each_append (take i seed) (x ∷ []) inv.2 (each_next x [] (byte_fits high.0 low.0 c.in_ok-high.high c.in_ok-low.low high.2.0 low.2.0) (λ j. lit< tt)) in
    (length-set seed i x ∙ inv.0, more ∙ ap (λ l. hex_text l ++ c.next-in-loop-byte.new.self.left.now) (sym grown), λ j. subst (λ l. get_or l j 0 < 256) (sym grown) (bytes j))

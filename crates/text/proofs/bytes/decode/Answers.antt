use Rattle.std.proofs.Common.{ℕ, ◌+◌, ◌*◌, [], ◌∷◌, length, drop, Some, None, vec_items, sym, refl, ap, ◌∙◌, arith}
use Rattle.std.proofs.lemmas.Bool.{eqb-false}
use Rattle.std.proofs.lemmas.Slice.{pushed}
use Rattle.strip.proofs.Returning.{err_is}
use Rattle.text.specs.declared.bytes.NoBytes.TheVariants.{NotHex}
use Rattle.text.specs.Hex.{bytes_of}
use Rattle.text.proofs.Decoding.{after, odd_none, no_digit, pair_read, pair_more}
use Rattle.text.proofs.bytes.decode.Goals as goal

pub returns-then-not-is_empty : goal.returns-then-not-is_empty
returns-then-not-is_empty c =
    odd_none c.args.text.now (λ even. let some = eqb-false (length c.as_chunks.result.1.now) 0 (sym c.is_empty.ensures ∙ c.if-not-is_empty.true) in some (omega arith))

pub returns-in_err-high : goal.returns-in_err-high
returns-in_err-high c =
    let refused = no_digit c.digit.result NotHex c.in_err-high.field-0.0 c.in_err-high.ensures.value in
    rw (err_is c.from_residual.ensures.1, refused.1) (pair_read c.args.text.now c.as_chunks.result.0.now c.as_chunks.ensures.front c.loop-high.high-index (omega arith) (vec_items c.loop-high.bytes) None _ c.loop-high.invariant (refused.0 ∙ c.digit.ensures.value) refl)

pub returns-in_err-low : goal.returns-in_err-low
returns-in_err-low c =
    let refused = no_digit c.digit-in-loop-high.result NotHex c.in_err-low.field-0.0 c.in_err-low.ensures.value in
    rw (err_is c.from_residual-in_err-low.ensures.1, refused.1) (pair_read c.args.text.now c.as_chunks.result.0.now c.as_chunks.ensures.front c.loop-high.high-index (omega arith) (vec_items c.loop-high.bytes) (Some c.in_ok-high.high) None c.loop-high.invariant (sym c.in_ok-high.ensures.ok_part ∙ c.digit.ensures.value) (refused.0 ∙ c.digit-in-loop-high.ensures.value))

pub loop-high-preserved : goal.loop-high-preserved
loop-high-preserved c =
    let high : ℕ = c.in_ok-high.high in
    let low : ℕ = c.in_ok-low.low in
    let more = pair_more c.args.text.now c.as_chunks.result.0.now c.as_chunks.ensures.front c.loop-high.high-index (omega arith) (vec_items c.loop-high.bytes) high low c.loop-high.invariant (sym c.in_ok-high.ensures.ok_part ∙ c.digit.ensures.value) (sym c.in_ok-low.ensures.ok_part ∙ c.digit-in-loop-high.ensures.value) in
    let now_is = pushed ((16 * high + low) ∷ []) refl c.in_ok-push.was c.push.ensures.items in
    more ∙ ap (λ l. after l (bytes_of (drop (2 * (c.loop-high.high-index + 1)) c.args.text.now))) (sym now_is)

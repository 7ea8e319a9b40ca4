use Rattle.std.proofs.Common.{◌≡◌, ◌+◌, ◌-◌, ◌*◌, ◌%◌, ◌^◌, [], length, replicate, refl, ap, ◌∙◌, mul_comm, arith}
use Rattle.std.proofs.lemmas.List.{nil_from_length}
use Rattle.hashing.specs.declared.state.State.{State}
use Rattle.hashing.specs.Sha256.{block, bytes8, compressed, hashed, hashed_all, padding, zeros}
use Rattle.hashing.proofs.Blocks.{hashed_all_is}
use Rattle.hashing.proofs.Ending.{ended}
use Rattle.hashing.proofs.padding.absorb_end.Goals as goal

-- after one block comes one block of padding
one_block : (H : State) → compressed H (padding 64) ≡ hashed_all H (padding 64)
unfolding block bytes8 hashed hashed_all padding
one_block H = refl

pub returns-then-total-eq-BLOCK : goal.returns-then-total-eq-BLOCK
returns-then-total-eq-BLOCK c =
    let nothing : c.args.rest.now ≡ [] = nil_from_length c.args.rest.now (omega arith) in
    c.absorb_padding.ensures ∙ one_block c.args.hash ∙
    rw (nothing, c.if-total-eq-BLOCK.true) refl

pub returns : goal.returns
unfolding padding bytes8
returns c =
    let n = length c.args.rest.now in
    let z = c.zero_bytes.result in
    let total = c.args.total in
    let bits : c.copy_from_slice-2.new.self ≡ bytes8 (8 * total % 2 ^ 64) =
    c.copy_from_slice-2.ensures.after ∙ c.to_be_bytes.ensures ∙ ap (λ b. bytes8 (b % 2 ^ 64)) (mul_comm total 8) in
    c.absorb.ensures ∙ hashed_all_is c.args.hash _ _ c.as_chunks.ensures.front ∙
    ap (hashed_all c.args.hash)
    (ended (replicate 128 0) c.args.rest.now c.copy_from_slice.new.self (bytes8 (8 * total % 2 ^ 64))
    c.copy_from_slice-2.new.self n z (zeros total) n (n + 1 + z + 8 - (n + 1 + z + 8 - 8)) (n + 1 + z + 8 - 8) (n + 1 + z + 8)
    refl c.copy_from_slice.ensures.after bits refl refl c.zero_bytes.ensures.exact refl (omega arith) refl (omega arith))

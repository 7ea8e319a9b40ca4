use Rattle.std.proofs.Common.{◌≡◌, ◌/◌, [], length, get_or, sym, ap, ◌∙◌, zero-add, w32, arith, rules}
use Rattle.std.specs.Int.{from_be_bytes}
use Rattle.std.specs.Simd.{first_chunks}
use Rattle.hashing.specs.Sha256.{W}
use Rattle.hashing.proofs.Arrays.{from_fn_is}
use Rattle.hashing.proofs.Blocks.{word_is}
use Rattle.hashing.proofs.Schedule.{W_first}
use Rattle.hashing.proofs.state.words_of.Goals as goal

pub returns : goal.returns
returns c j h =
    let M = c.args.block.now in
    let parts = c.as_chunks.result.0.now in
    let count : length M / 4 ≡ 16 = omega arith in
    let chunks : parts ≡ first_chunks 4 16 M = c.as_chunks.ensures.front ∙ ap (λ k. first_chunks 4 k M) count in
    from_fn_is c.from_fn.ensures.items (λ i. from_be_bytes w32 (get_or parts i [])) (λ i y q k. search rules) j h ∙
    ap (λ ps. from_be_bytes w32 (get_or ps j [])) chunks ∙ word_is M j h ∙
    sym (W_first M j h) ∙ ap (W M) (sym (zero-add j))

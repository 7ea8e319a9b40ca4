use Rattle.std.proofs.Common.{◌≡◌, ◌+◌, ◌*◌, ◌<◌, [], length, get_or, refl, ap, ◌∙◌, arith, rules}
use Rattle.std.proofs.lemmas.List.{length_push}
use Rattle.std.proofs.lemmas.Slice.Zip.{zip_end, zip_turn}
use Rattle.std.specs.Iterator.Adapters.{zip_first, zip_second}
use Rattle.std.specs.Slice.Iter.{iter_rest}
use Rattle.std.specs.Simd.{first_chunks}
use Rattle.hashing.specs.Constants.{HasConstants, constants}
use Rattle.hashing.specs.Sha256.{bytes8, compressed, extended, padding, plus, rounds, schedule, word_after}
use Rattle.hashing.specs.Stages.{HasWords}
use Rattle.hashing.specs.declared.words.TheConstants.{PADDING_SCHEDULE, ROUND_CONSTANTS}
use Rattle.hashing.proofs.Blocks.{entry_at}
use Rattle.hashing.proofs.Schedule.{schedule_at}
use Rattle.hashing.proofs.state.State.absorb_padding.Goals as goal

pub loop-constants-init : goal.loop-constants-init
unfolding rounds
loop-constants-init c = refl

table : PADDING_SCHEDULE ≡ first_chunks 16 4 (schedule (padding 64) 64)
unfolding bytes8 extended padding schedule word_after
table = refl

pub loop-constants-preserved : goal.loop-constants-preserved
loop-constants-preserved c =
    let start = c.into_iter-constants-iterator.result in
    let first : iter_rest (zip_first start) ≡ ROUND_CONSTANTS = search rules in
    let second : iter_rest (zip_second start) ≡ PADDING_SCHEDULE = search rules in
    let now =
    zip_turn ROUND_CONSTANTS PADDING_SCHEDULE c.loop-constants.yielded start c.loop-constants.constants-iterator
    c.next.new.self c.next.result first second c.loop-constants.yielded_by (c.in-Some.constants, c.in-Some.words)
    c.in-Some.is c.next.ensures.steps in
    let i = length c.loop-constants.yielded in
    let within : i < 4 = now.0 in
    let count = length_push c.loop-constants.yielded (c.in-Some.constants, c.in-Some.words) in
    let next : 16 * (i + 1) ≡ 16 * i + 16 = omega arith in
    let ks : HasConstants (16 * i) c.in-Some.constants.now =
    λ j h. ap (λ xs. get_or xs j 0) (now.2 []) ∙ entry_at 16 4 i j constants within h in
    let words : HasWords (padding 64) (16 * i) c.in-Some.words.now =
    λ j h. ap (λ xs. get_or xs j 0) (now.3 [] ∙ ap (λ rows. get_or rows i []) table) ∙
    entry_at 16 4 i j (schedule (padding 64) 64) within h ∙ schedule_at (padding 64) 64 (16 * i + j) (omega arith) in
    rw (count, next)
    (c.rounds-s.ensures (padding 64) c.args.self (16 * i) ks
    (record { variables = c.loop-constants.invariant; words = words }))

pub returns : goal.returns
unfolding compressed
returns c =
    let start = c.into_iter-constants-iterator.result in
    let first : iter_rest (zip_first start) ≡ ROUND_CONSTANTS = search rules in
    let second : iter_rest (zip_second start) ≡ PADDING_SCHEDULE = search rules in
    let all =
    zip_end ROUND_CONSTANTS PADDING_SCHEDULE c.loop-constants.yielded start c.loop-constants.constants-iterator
    c.next.new.self c.next.result first second c.loop-constants.yielded_by c.in-None.is c.next.ensures.steps in
    c.plus.ensures ∙ ap (λ s. plus s c.args.self) (rw all at c.loop-constants.invariant)

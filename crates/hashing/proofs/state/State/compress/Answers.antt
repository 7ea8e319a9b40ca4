use Rattle.std.proofs.Common.{◌≡◌, ◌+◌, ◌*◌, refl, ap, ◌∙◌, lit<, arith}
use Rattle.hashing.specs.Constants.{constants}
use Rattle.hashing.specs.Sha256.{compressed, plus, rounds}
use Rattle.hashing.specs.Stages.{Stage}
use Rattle.hashing.proofs.Blocks.{entry_at}
use Rattle.hashing.proofs.state.State.compress.Goals as goal

pub loop-constants-init : goal.loop-constants-init
unfolding rounds
loop-constants-init c = record { variables = refl; words = c.words_of-words.ensures }

pub loop-constants-preserved : goal.loop-constants-preserved
loop-constants-preserved c =
    let M = c.args.block.now in
    let H = c.args.self in
    let i = c.loop-constants.constants-index in
    let stage = c.loop-constants.invariant in
    let next : 16 * (i + 1) ≡ 16 * i + 16 = omega arith in
    rw next
    (record {
      variables = c.rounds-s.ensures M H (16 * i) (λ j h. entry_at 16 3 i j constants c.loop-constants-test.true h) stage;
      words = c.following-words.ensures M (16 * i) stage.words;
    })

pub returns : goal.returns
unfolding compressed
returns c =
    let M = c.args.block.now in
    let H = c.args.self in
    let done : 16 * c.loop-constants.constants-index ≡ 48 = omega arith in
    let stage : Stage M H 48 c.loop-constants.s c.loop-constants.words = rw done at c.loop-constants.invariant in
    c.plus.ensures ∙
    ap (λ s. plus s H) (c.rounds.ensures M H 48 (λ j h. entry_at 16 4 3 j constants (lit< tt) h) stage)

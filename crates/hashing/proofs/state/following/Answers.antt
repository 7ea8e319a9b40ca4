use Rattle.std.proofs.Common.{sym, ap, ◌∙◌, add_assoc, arith, length-set}
use Rattle.hashing.specs.Sha256.{W}
use Rattle.hashing.proofs.Schedule.{rolled_more}
use Rattle.hashing.proofs.state.following.Goals as goal

pub loop-j-preserved : goal.loop-j-preserved
loop-j-preserved c =
    let v = c.next_word.result in (
      length-set c.loop-j.words c.loop-j.j v ∙ c.loop-j.invariant.0,
      λ m t h.
          rolled_more m t c.loop-j.j v c.loop-j.words c.loop-j-test.true c.loop-j.invariant.0 (c.loop-j.invariant.1 m t h)
          c.next_word.ensures,
    )

pub returns : goal.returns
returns c m t h k l = (c.loop-j.invariant.1 m t h).newer k (omega arith) ∙ ap (W m) (sym (add_assoc t 16 k))

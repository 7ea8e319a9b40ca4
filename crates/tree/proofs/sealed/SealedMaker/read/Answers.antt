use Rattle.std.proofs.Common.{take, length-take, sym, rules, arith}
use Rattle.std.specs.Array.{IsFirstChunk}
use Rattle.tree.specs.Sealing.{reads_digest}
use Rattle.tree.proofs.sealed.SealedMaker.read.Goals as goal

pub invariant_of-result : goal.invariant_of-result
invariant_of-result c =
    let front : IsFirstChunk c.args.bytes.now c.in_ok-front.front.now 32 = search rules in
    let enough = front.enough in
    record { full = simp (front.same, length-take) (omega arith) }

pub returns : goal.returns
returns c =
    let front : IsFirstChunk c.args.bytes.now c.in_ok-front.front.now 32 = search rules in
    (front.enough, sym (reads_digest (take 32 c.args.bytes.now) _ (sym front.same)))

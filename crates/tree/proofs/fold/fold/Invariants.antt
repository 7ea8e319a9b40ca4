use Rattle.std.proofs.Common.{◌≡◌, length}
use Rattle.tree.specs.Meaning.{after}
use Rattle.tree.proofs.Folding.{Climbed}
use Rattle.tree.proofs.fold.fold.Given as goal

abbrev pub invariant-loop-bytes : goal.invariant-loop-bytes
invariant-loop-bytes g l =
    let m = g.M.Maker in
    let made = length l.yielded in
    (m.meaning l.maker ≡ m.meaning l.initial.maker)
    × (m.meter l.maker ≡ after 0 made (m.meter l.initial.maker))
    × (l.bytes-iterator.size ≡ (m.meaning l.initial.maker).width)
    × Climbed (m.meaning l.initial.maker) l.number l.initial.node l.path made l.index l.node l.bytes-iterator.rest.now

use Rattle.std.proofs.Common.{◌≡◌, ◌+◌, ◌*◌, ◌/◌, length}
use Rattle.strip.proofs.Filling.{Filled}
use Rattle.strip.proofs.read.fill.Given as goal

abbrev pub invariant-loop-i : goal.invariant-loop-i
invariant-loop-i g l =
    let m = g.M.Maker.meaning l.maker in
    let chunks = l.i-iterator.iter in
    let i = l.i-iterator.count in
    record {
      can_next : (goal.iterator-loop-i g).can_next l.i-iterator;
      is_finite : (goal.iterator-loop-i g).is_finite l.i-iterator;
      size : chunks.size ≡ m.width;
      all : i * m.width + length chunks.rest.now ≡ length l.path;
      filled : Filled m l.path (length l.path / m.width) l.initial.cells i chunks.rest.now l.cells;
    }

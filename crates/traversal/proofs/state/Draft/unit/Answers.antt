use Rattle.std.proofs.Common.{length, sym, subst, arith}
use Rattle.growth.proofs.Counting.{unfinished}
use Rattle.growth.specs.Places.{Room}
use Rattle.traversal.specs.Plots.{layout, depth}
use Rattle.traversal.specs.Units.{Unfinished}
use Rattle.traversal.proofs.Drafting.{draft_room}
use Rattle.traversal.proofs.state.Draft.unit.Goals as goal

pub unit-requires : goal.unit-requires
unit-requires g c =
    let d = c.args.self.now in
    let few = c.requires.unfinished in
    let is = sym c.plot.ensures in
    let table = c.args.lent.now.table.now in
    record {
      unfinished = subst (λ p. Unfinished p d.hash) is (unfinished d.shape.height d.hash.leaves d.hash.newest (omega (arith, d.standing.1)) d.standing.0.1);
      room = subst (λ p. Room (layout p) (depth p) (length table)) is (draft_room d.shape.height d.shape.subtree d.shape.cells d.shape.shaped (length table) c.requires.room);
    }

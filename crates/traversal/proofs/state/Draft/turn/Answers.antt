use Rattle.std.proofs.Common.{refl, arith}
use Rattle.traversal.proofs.Drafting.{units_most}
use Rattle.traversal.proofs.state.Draft.turn.Goals as goal

pub returns : goal.returns
returns c =
    let d = c.args.self in
    (omega (arith, units_most d.shape.height d.shape.subtree d.shape.cells d.shape.shaped d.hash d.standing), refl, cc)

use Rattle.std.proofs.Common.{refl, arith}
use lib.Count.{ones}
use Rattle.growth.specs.Order.{joined}
use Rattle.growth.specs.Places.{stack_size}
use Rattle.traversal.proofs.state.Draft.begin.Goals as goal

pub invariant_of-result : goal.invariant_of-result
unfolding joined stack_size ones
invariant_of-result g c =
    let e = c.default.ensures in
    rw (e.0, e.1.0, e.1.1.0, e.1.1.1) (record { standing = ((omega arith, omega arith, omega arith, refl), refl, refl) })

use Rattle.std.proofs.Common.{arith, pow_pos, pow_mono}
use Rattle.tree.proofs.span.leaves_below.Goals as goal

pub returns-clause-bound : goal.returns-clause-bound
returns-clause-bound c =
    let low = pow_pos c.args.height in
    let high = pow_mono {i = c.args.height} {j = 20} c.requires in
    (omega arith, omega arith)

use Rattle.tree.specs.Numbering.{checked_shift_test}
use Rattle.tree.proofs.height.has_leaf.Goals as goal

pub returns : goal.returns
returns c = rw c.unwrap_or.ensures (checked_shift_test c.args.number c.args.height c.checked_shr.result c.ranges.number.fits c.checked_shr.ensures)

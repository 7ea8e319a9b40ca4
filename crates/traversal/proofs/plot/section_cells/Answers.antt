use Rattle.tree.proofs.Rows.{shifted_cells}
use Rattle.traversal.proofs.plot.section_cells.Goals as goal

pub returns : goal.returns
returns c = shifted_cells c.args.subtree c.requires

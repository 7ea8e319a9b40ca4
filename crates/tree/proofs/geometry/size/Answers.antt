use Rattle.std.proofs.Common.{sym, rules}
use Rattle.tree.proofs.Rows.{sizes_of}
use Rattle.tree.proofs.geometry.size.Goals as goal

pub returns : goal.returns
returns c =
    sizes_of c.args.heights.height c.args.heights.subtree _ (search rules) (sym c.if-not-is_height.ensures, sym c.if-not-is_subtree.ensures, c.cells.ensures)

use Rattle.tree.proofs.Rows.{subtree_facts, shifted_cells, sized_more, sized_one}
use Rattle.tree.proofs.geometry.cells.Goals as goal

pub returns-then-levels-ge2 : goal.returns-then-levels-ge2
returns-then-levels-ge2 c =
    let low = (subtree_facts c.args.heights.height c.args.heights.subtree c.requires.subtree).1 in
    sized_more c.args.heights.height c.args.heights.subtree _ (shifted_cells c.args.heights.subtree low) c.if-levels-ge2.true

pub returns-else-levels-ge2 : goal.returns-else-levels-ge2
returns-else-levels-ge2 c =
    let low = (subtree_facts c.args.heights.height c.args.heights.subtree c.requires.subtree).1 in
    sized_one c.args.heights.height c.args.heights.subtree _ (shifted_cells c.args.heights.subtree low) c.if-levels-ge2.false

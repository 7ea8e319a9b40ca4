use Rattle.std.proofs.Common.{◌-◌, ◌<◌, length, set, sym, ap, ◌∙◌, subst, arith}
use Rattle.traversal.specs.Plots.{cell_of}
use Rattle.traversal.proofs.Sections.{write_part}
use Rattle.traversal.proofs.plot.Home.put.Goals as goal

pub returns-in-Subtree-clause-table : goal.returns-in-Subtree-clause-table
returns-in-Subtree-clause-table g c =
    let table = c.args.table.now in
    let start = c.in-Subtree.start in
    let inside = subst (λ home. cell_of home c.args.stacked < length table) c.in-Subtree.is c.requires in
    write_part table start (length table - start) c.in-Subtree.offset c.args.node c.put.new.section (omega arith) (omega arith) c.put.ensures ∙ ap (λ home. set table (cell_of home c.args.stacked) c.args.node) (sym c.in-Subtree.is)

pub returns-in-Stack-clause-table : goal.returns-in-Stack-clause-table
returns-in-Stack-clause-table g c =
    let table = c.args.table.now in
    let tail = c.in-Stack.tail in
    let inside = subst (λ home. cell_of home c.args.stacked < length table) c.in-Stack.is c.requires in
    write_part table tail (length table - tail) c.args.stacked c.args.node c.push_on.new.cells (omega arith) (omega arith) c.push_on.ensures.cells ∙ ap (λ home. set table (cell_of home c.args.stacked) c.args.node) (sym c.in-Stack.is)

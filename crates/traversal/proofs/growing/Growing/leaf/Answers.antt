use Rattle.std.proofs.Common.{◌+◌, length, set, refl, ap, ◌∙◌, arith}
use Rattle.traversal.specs.declared.treehash.Treehash.{Treehash}
use Rattle.traversal.proofs.Homes.{adds, cell_is, cell_inside}
use Rattle.traversal.proofs.Advancing.{next_leaf, stacked_leaf, standing_leaf, advanced_leaf}
use Rattle.traversal.proofs.growing.Growing.leaf.Goals as goal

pub home-requires : goal.home-requires
home-requires g c =
    let tree = c.args.self.now in
    (omega arith, next_leaf tree.plot tree.hash tree.standing c.requires.unfinished c.requires.due)

pub put-stacked-requires : goal.put-stacked-requires
put-stacked-requires g c =
    let tree = c.args.self.now in
    let below = stacked_leaf tree.plot tree.hash tree.standing c.requires.unfinished c.requires.due in
    let in_tree = next_leaf tree.plot tree.hash tree.standing c.requires.unfinished c.requires.due in
    cell_inside tree.plot tree.legal 0 tree.hash.leaves tree.hash.stacked (length c.args.lent.now.table.now) c.home.result c.home.ensures below (omega arith) in_tree c.requires.room

pub invariant_of-self : goal.invariant_of-self
invariant_of-self g c =
    let tree = c.args.self.now in
    let old = tree.hash in
    let new : Treehash = record { leaves = old.leaves + 1; joins = old.joins; newest = 0; stacked = c.put-stacked.result } in
    let stacked = c.put-stacked.ensures.stacked ∙ ap (λ k. old.stacked + k) (adds tree.plot 0 old.leaves c.home.result c.home.ensures) in
    record {
      legal = tree.legal;
      standing = standing_leaf tree.plot old new tree.standing c.requires.unfinished c.requires.due refl refl refl stacked;
    }

pub returns-clause-made : goal.returns-clause-made
returns-clause-made g c =
    let tree = c.args.self.now in
    let old = tree.hash in
    let table = c.args.lent.now.table.now in
    let gives = c.in_ok-token.ensures.gives in
    let leaf = c.leaf-node.ensures in
    let new : Treehash = record { leaves = old.leaves + 1; joins = old.joins; newest = 0; stacked = c.put-stacked.result } in
    let below = stacked_leaf tree.plot old tree.standing c.requires.unfinished c.requires.due in
    let put = c.put-stacked.ensures.table ∙ ap (λ k. set table k c.leaf-node.result) (cell_is tree.plot 0 old.leaves old.stacked c.home.result c.home.ensures below) in
    advanced_leaf tree.plot tree.legal table c.put-stacked.new.table (g.M.Maker.meaning c.args.lent.now.maker.now) (g.M.Maker.meaning c.leaf-node.new.self) (g.M.Maker.meter c.args.lent.now.maker.now) (g.M.Maker.meter c.leaf-node.new.self) (g.S.Source.supply c.args.lent.now.source.now) (g.S.Source.supply c.token.new.self) old new c.token.new.out c.leaf-node.result
    tree.standing c.requires.unfinished c.requires.due c.requires.room gives.0 gives.1 leaf.value put leaf.keeps leaf.counts c.token.ensures.keeps refl refl refl

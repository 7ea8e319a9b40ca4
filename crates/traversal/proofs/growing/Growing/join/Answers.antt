use Rattle.std.proofs.Common.{◌≡◌, ℕ, ◌+◌, ◌-◌, ◌/◌, ◌^◌, ◌<◌, length, get_or, set, sym, refl, ap, ap₂, ◌∙◌, arith, pow_mono}
use Rattle.std.proofs.lemmas.List.{get_or_read}
use Rattle.growth.specs.Order.{newest}
use Rattle.growth.specs.Places.{place}
use Rattle.growth.proofs.Placing.{place_inside}
use Rattle.growth.proofs.Counting.{joined_less}
use Rattle.traversal.specs.Plots.{layout, depth, on_stack}
use Rattle.traversal.specs.declared.treehash.Treehash.{Treehash}
use Rattle.traversal.proofs.Plotting.{sound}
use Rattle.traversal.proofs.Homes.{adds, cell_is, cell_inside, right_home, left_home, stacked_without, inside}
use Rattle.traversal.proofs.Advancing.{join_index, standing_join, advanced_join}
use Rattle.traversal.proofs.growing.Growing.join.Goals as goal

pub overflow_sub-index : goal.overflow_sub-index
overflow_sub-index g c =
    let tree = c.args.self.now in
    omega (arith, (join_index tree.plot tree.hash tree.standing c.requires.due).0)

pub home-requires : goal.home-requires
home-requires g c =
    let tree = c.args.self.now in
    let (high, right, left, parent) = inside tree.plot tree.hash tree.standing c.requires.due in
    (omega arith, right)

pub take-right-requires : goal.take-right-requires
take-right-requires g c =
    let tree = c.args.self.now in
    let old = tree.hash in
    let home = c.home.result in
    let (high, right, left, parent) = inside tree.plot old tree.standing c.requires.due in
    let (fits, below) = right_home tree.plot old tree.standing c.requires.due home c.home.ensures in
    record {
      stacked = fits;
      room = cell_inside tree.plot tree.legal old.newest (newest old.leaves old.newest) (old.stacked - on_stack home) (length c.args.lent.now.table.now) home c.home.ensures below (omega arith) right c.requires.room;
    }

pub overflow_sub-index-2 : goal.overflow_sub-index-2
overflow_sub-index-2 g c =
    let tree = c.args.self.now in
    omega (arith, (join_index tree.plot tree.hash tree.standing c.requires.due).1)

pub home-requires-2 : goal.home-requires-2
home-requires-2 g c =
    let tree = c.args.self.now in
    let (high, right, left, parent) = inside tree.plot tree.hash tree.standing c.requires.due in
    (omega arith, left)

pub take-left-requires : goal.take-left-requires
take-left-requires g c =
    let tree = c.args.self.now in
    let old = tree.hash in
    let home = c.home-2.result in
    let stacked = c.take-right.result.1 in
    let (high, right, left, parent) = inside tree.plot old tree.standing c.requires.due in
    let below_right = c.take-right.ensures.stacked ∙ (right_home tree.plot old tree.standing c.requires.due c.home.result c.home.ensures).1 in
    let (fits, below) = left_home tree.plot old tree.standing c.requires.due stacked home c.home-2.ensures below_right in
    let same = ap length c.take-right.ensures.table in
    record {
      stacked = fits;
      room = omega (arith, cell_inside tree.plot tree.legal old.newest (newest old.leaves old.newest - 1) (stacked - on_stack home) (length c.args.lent.now.table.now) home c.home-2.ensures below (omega arith) left c.requires.room);
    }

pub home-requires-3 : goal.home-requires-3
home-requires-3 g c =
    let tree = c.args.self.now in
    let (high, right, left, parent) = inside tree.plot tree.hash tree.standing c.requires.due in
    (high, parent)

pub put-stacked-requires : goal.put-stacked-requires
put-stacked-requires g c =
    let tree = c.args.self.now in
    let old = tree.hash in
    let (high, right, left, parent) = inside tree.plot old tree.standing c.requires.due in
    let (one, two, below) = stacked_without tree.plot old tree.standing c.requires.due c.home.result c.home-2.result c.take-right.result.1 c.take-left.result.1 c.home.ensures c.home-2.ensures c.take-right.ensures.stacked c.take-left.ensures.stacked in
    let same = ap length c.take-right.ensures.table in
    let still = ap length c.take-left.ensures.table in
    omega (arith, cell_inside tree.plot tree.legal (old.newest + 1) (newest old.leaves old.newest / 2) c.take-left.result.1 (length c.args.lent.now.table.now) c.home-3.result c.home-3.ensures below high parent c.requires.room)

pub overflow_add-self : goal.overflow_add-self
overflow_add-self g c =
    let tree = c.args.self.now in
    let high = tree.legal.high in
    omega (arith, tree.standing.1, joined_less tree.hash.leaves tree.hash.newest, tree.standing.0.0, pow_mono high)

pub invariant_of-self : goal.invariant_of-self
invariant_of-self g c =
    let tree = c.args.self.now in
    let old = tree.hash in
    let p = old.newest in
    let a = newest old.leaves old.newest in
    let (one, two, below) = stacked_without tree.plot old tree.standing c.requires.due c.home.result c.home-2.result c.take-right.result.1 c.take-left.result.1 c.home.ensures c.home-2.ensures c.take-right.ensures.stacked c.take-left.ensures.stacked in
    let stacked = c.put-stacked.ensures.stacked ∙ ap₂ (λ j k. j + k) below (adds tree.plot (p + 1) (a / 2) c.home-3.result c.home-3.ensures) in
    let new : Treehash = record { leaves = old.leaves; joins = old.joins + 1; newest = p + 1; stacked = c.put-stacked.result } in
    record {
      legal = tree.legal;
      standing = standing_join tree.plot old new tree.standing c.requires.due refl refl refl stacked;
    }

pub returns-clause-made : goal.returns-clause-made
returns-clause-made g c =
    let tree = c.args.self.now in
    let plot = tree.plot in
    let old = tree.hash in
    let table = c.args.lent.now.table.now in
    let p = old.newest in
    let a = newest old.leaves old.newest in
    let (high, right, left, parent) = inside plot old tree.standing c.requires.due in
    let (one, two, below) = stacked_without plot old tree.standing c.requires.due c.home.result c.home-2.result c.take-right.result.1 c.take-left.result.1 c.home.ensures c.home-2.ensures c.take-right.ensures.stacked c.take-left.ensures.stacked in
    let x = c.take-right.result.0 in
    let y = c.take-left.result.0 in
    let there : (k : ℕ) → k < 2 ^ (plot.top - p) → place (layout plot) p k < length table = λ k less. place_inside (layout plot) (depth plot) (sound plot tree.legal) p k (length table) (omega arith) less c.requires.room.0 c.requires.room.1 in
    let read_right : x ≡ get_or table (place (layout plot) p a) x = c.take-right.ensures.value ∙ ap (λ k. get_or table k x) (cell_is plot p a (old.stacked - on_stack c.home.result) c.home.result c.home.ensures (sym c.take-right.ensures.stacked ∙ one)) in
    let read_left : y ≡ get_or table (place (layout plot) p (a - 1)) y =
    c.take-left.ensures.value
    ∙ ap₂ (λ t k. get_or t k y) c.take-right.ensures.table (cell_is plot p (a - 1) (c.take-right.result.1 - on_stack c.home-2.result) c.home-2.result c.home-2.ensures (sym c.take-left.ensures.stacked ∙ two)) in
    let put : c.put-stacked.new.table ≡ set table (place (layout plot) (p + 1) (a / 2)) c.join-node.result =
    c.put-stacked.ensures.table
    ∙ ap₂ (λ t k. set t k c.join-node.result) (c.take-left.ensures.table ∙ c.take-right.ensures.table) (cell_is plot (p + 1) (a / 2) c.take-left.result.1 c.home-3.result c.home-3.ensures below) in
    let join = c.join-node.ensures in
    let new : Treehash = record { leaves = old.leaves; joins = old.joins + 1; newest = p + 1; stacked = c.put-stacked.result } in
    advanced_join plot tree.legal table c.put-stacked.new.table (g.M.Maker.meaning c.args.lent.now.maker.now) (g.M.Maker.meaning c.join-node.new.self) (g.M.Maker.meter c.args.lent.now.maker.now) (g.M.Maker.meter c.join-node.new.self) (g.S.Source.supply c.args.lent.now.source.now) old new y x c.join-node.result
    tree.standing c.requires.due c.requires.room
    (λ d. get_or_read table (place (layout plot) p (a - 1)) y (there (a - 1) left) read_left d)
    (λ d. get_or_read table (place (layout plot) p a) x (there a right) read_right d)
    join.value put join.keeps join.counts refl refl refl

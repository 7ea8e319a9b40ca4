use Rattle.std.proofs.Common.{sym, ap, ◌∙◌, lit≤}
use Rattle.traversal.specs.Worlds.{world_of}
use Rattle.traversal.specs.Calls.{unit_lacks}
use Rattle.session.proofs.Rooting.{starves, starved_root, rooted}
use Rattle.session.proofs.root.root.Goals as goal

pub lack-requires-clause-lacks : goal.lack-requires-clause-lacks
lack-requires-clause-lacks g c =
    let v = world_of g.M.Maker.meaning g.M.Maker.meter g.S.Source.supply c.args.lent.now in
    let w = world_of g.M.Maker.meaning g.M.Maker.meter g.S.Source.supply c.step.new.lent in
    let d = c.in_ok-draft.draft in
    let begun = c.in_ok-draft.ensures.begun in
    let (few, same, missing) = c.in-Err.ensures in
    let e = c.step.new.self in
    let (r, lacks) = starves c.args.heights.height c.args.heights.subtree v (g.met.M.Maker.wraps c.args.lent.now.maker.now) d begun e w 18446744073709551615 c.step.result c.step.ensures.stepped (lit≤ tt) few in
    (r, ap (λ f. unit_lacks f (g.S.Source.supply c.step.new.lent.source.now)) same ∙ lacks)

pub returns-in-Ok-clause-drafted : goal.returns-in-Ok-clause-drafted
returns-in-Ok-clause-drafted g c =
    let v = world_of g.M.Maker.meaning g.M.Maker.meter g.S.Source.supply c.args.lent.now in
    let w = world_of g.M.Maker.meaning g.M.Maker.meter g.S.Source.supply c.step.new.lent in
    rooted c.args.heights.height c.args.heights.subtree v (g.met.M.Maker.wraps c.args.lent.now.maker.now) c.in_ok-draft.draft c.in_ok-draft.ensures.begun c.step.new.self w 18446744073709551615 c.step.result c.step.ensures.stepped (lit≤ tt) c.in-Ok.run' c.finish.result c.in-Ok.ensures c.finish.ensures

pub returns-in-Err-clause-drafted : goal.returns-in-Err-clause-drafted
returns-in-Err-clause-drafted g c =
    let v = world_of g.M.Maker.meaning g.M.Maker.meter g.S.Source.supply c.args.lent.now in
    let w = world_of g.M.Maker.meaning g.M.Maker.meter g.S.Source.supply c.step.new.lent in
    let (few, same, missing) = c.in-Err.ensures in
    starved_root c.args.heights.height c.args.heights.subtree v (g.met.M.Maker.wraps c.args.lent.now.maker.now) c.in_ok-draft.draft c.in_ok-draft.ensures.begun c.step.new.self w 18446744073709551615 c.step.result c.step.ensures.stepped (lit≤ tt) c.lack.result _ c.lack.ensures.keeps few
    (ap (λ f. unit_lacks f (g.S.Source.supply c.step.new.lent.source.now)) (sym same) ∙ c.lack.ensures.lacks)

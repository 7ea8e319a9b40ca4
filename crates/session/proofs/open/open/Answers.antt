use Rattle.traversal.specs.Worlds.{world}
use Rattle.session.proofs.Histories.{lawful_from}
use Rattle.session.proofs.open.open.Goals as goal

pub returns-clause-lawful : goal.returns-clause-lawful
returns-clause-lawful g c =
    lawful_from c.args.heights.height c.args.heights.subtree (world c.args.table.now (g.M.Maker.meaning c.args.maker.now) (g.M.Maker.meter c.args.maker.now) (g.S.Source.supply c.args.source.now)) (g.met.M.Maker.wraps c.args.maker.now) c.begin.result c.begin.ensures

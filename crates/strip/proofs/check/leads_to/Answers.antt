use Rattle.strip.proofs.Leading.{nodes_fold}
use Rattle.strip.proofs.check.leads_to.Goals as goal

pub unwrap-top-requires : goal.unwrap-top-requires
unwrap-top-requires g c = rw (c.fold.ensures.value, c.leaf-leaf.ensures.keeps) (nodes_fold (g.M.Maker.meaning c.args.maker.now) c.args.strip.now c.requires c.args.strip.now.number c.leaf-leaf.result)

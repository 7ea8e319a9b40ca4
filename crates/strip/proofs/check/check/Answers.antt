use Rattle.std.proofs.Common.{Ok, rules}
use Rattle.strip.proofs.Leading.{parsed_nodes, parsed_leads, accepts}
use Rattle.strip.proofs.check.check.Goals as goal

pub returns-in_err-strip-clause-full_tree : goal.returns-in_err-strip-clause-full_tree
returns-in_err-strip-clause-full_tree g c =
    let maker = c.args.maker.now in
    accepts (g.M.Maker.meaning maker) (g.met.M.Maker.lawful maker) c.args.bytes.now c.args.root (g.M.Maker.meter maker) (g.M.Maker.meter maker) c.from_residual.result (search rules)

pub leads_to-requires : goal.leads_to-requires
leads_to-requires g c =
    let maker = c.args.maker.now in
    parsed_nodes (g.M.Maker.meaning maker) (g.met.M.Maker.lawful maker) c.args.bytes.now c.in_ok-strip.strip c.in_ok-strip.ensures

pub returns-clause-answer : goal.returns-clause-answer
returns-clause-answer g c =
    let maker = c.args.maker.now in
    let leads = parsed_leads (g.M.Maker.meaning maker) (g.met.M.Maker.lawful maker) c.args.bytes.now c.in_ok-strip.strip c.in_ok-strip.ensures in
    rw (← leads) (search rules)

pub returns-clause-full_tree : goal.returns-clause-full_tree
returns-clause-full_tree g c =
    let maker = c.args.maker.now in
    accepts (g.M.Maker.meaning maker) (g.met.M.Maker.lawful maker) c.args.bytes.now c.args.root _ _ (Ok c.leads_to.result) (returns-clause-answer g c)

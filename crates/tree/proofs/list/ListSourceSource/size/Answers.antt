use Rattle.tree.proofs.Supplying.{list_supplies}
use Rattle.tree.proofs.list.ListSourceSource.size.Goals as goal

pub returns-clause-lawful : goal.returns-clause-lawful
returns-clause-lawful c = list_supplies c.args.self.now.bytes.now

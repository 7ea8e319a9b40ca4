use Rattle.tree.proofs.Supplying.{seed_supplies}
use Rattle.tree.proofs.seed.SeedSourceSource.size.Goals as goal

pub returns-clause-lawful : goal.returns-clause-lawful
returns-clause-lawful c = seed_supplies c.args.self.now.seed

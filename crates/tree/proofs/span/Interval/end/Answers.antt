use Rattle.tree.specs.Aligning.{fits}
use Rattle.tree.proofs.span.Interval.end.Goals as goal

pub leaves_below-requires : goal.leaves_below-requires
leaves_below-requires c = (fits _ _ c.args.self.whole).0

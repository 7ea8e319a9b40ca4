use Rattle.std.proofs.Common.{sym, arith}
use Rattle.tree.specs.Aligning.{too_high}
use Rattle.tree.proofs.span.is_whole.Goals as goal

pub returns-then-height-gt-TOP : goal.returns-then-height-gt-TOP
returns-then-height-gt-TOP c = sym (too_high c.args.first c.args.height (omega arith))

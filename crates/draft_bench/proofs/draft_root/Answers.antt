use Rattle.std.proofs.Common.{sym, ◌∙◌, lit≤}
use Rattle.session.proofs.Histories.{none_some}
use Rattle.draft_bench.proofs.Fitting.{unrefused, is_root}
use Rattle.draft_bench.proofs.draft_root.Goals as goal

pub unreachable-requires : goal.unreachable-requires
unreachable-requires c = none_some c.in-Err.field-0 (sym (unrefused c.new-source.result.seed 225 (lit≤ tt)) ∙ c.in-Err.ensures.drafted.0)

pub returns : goal.returns
returns c = is_root c.new-source.result.seed c.args.seed c.in-Ok.drafted.0 c.in-Ok.ensures.drafted.1 c.new-source.ensures

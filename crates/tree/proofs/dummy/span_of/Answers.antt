use Rattle.std.proofs.Common.{rules, ◌≡◌, ◌∙◌}
use Rattle.std.specs.Option.{option_map_or}
use Rattle.tree.specs.declared.span.Span.TheVariants.{Sound, Broken}
use Rattle.tree.proofs.Intervals.{span_is}
use Rattle.tree.proofs.dummy.span_of.Goals as goal

pub returns : goal.returns
returns c =
    let mapped : c.map_or.result ≡ option_map_or Sound c.new.result Broken = search rules in
    mapped ∙ span_is c.args.first c.args.height c.new.result c.new.ensures

use Rattle.std.proofs.Common.{sym, rules, ◌≡◌, ◌∙◌, arith}
use Rattle.std.specs.Option.{option_map}
use Rattle.tree.specs.Numbers.{number_at}
use Rattle.tree.specs.declared.span.Span.TheVariants.{Sound}
use Rattle.tree.specs.Spanning.{are_broken_as_equal}
use Rattle.tree.proofs.Intervals.{reads_span}
use Rattle.tree.proofs.dummy.read_span.Goals as goal

pub returns : goal.returns
returns c =
    let bs = c.args.bytes.now in
    let first : c.from_be_bytes-first.result ≡ number_at 0 bs = omega arith in
    let mapped : c.map.result ≡ option_map Sound c.new.result = search rules in
    mapped ∙ reads_span bs c.new.result (sym (are_broken_as_equal bs c.told-bytes) ∙ sym c.if-eq.ensures) (rw (← first) c.new.ensures)

use Rattle.std.proofs.Common.{rules, ap, ◌∙◌}
use Rattle.std.specs.Array.{IsFirstChunk}
use Rattle.tree.specs.Spans.{read_span}
use Rattle.tree.proofs.dummy.DummyMaker.read.Goals as goal

pub returns : goal.returns
returns c =
    let front : IsFirstChunk c.args.bytes.now c.in_ok-front.front.now 5 = search rules in
    (front.enough, c.read_span.ensures ∙ ap read_span front.same)

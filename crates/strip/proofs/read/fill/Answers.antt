use Rattle.std.proofs.Common.{◌+◌, ◌*◌, ◌<◌, ◌++◌, length, drop, ap, ◌∙◌, sym, arith, rules}
use Rattle.tree.specs.Path.{path_nodes}
use Rattle.strip.proofs.Filling.{chunk_within, chunk_all, chunk_found, chunk_filled, chunks_filled}
use Rattle.strip.proofs.read.fill.Goals as goal

pub unwrap-requires : goal.unwrap-requires
unwrap-requires g c =
    let m = g.M.Maker.meaning c.args.maker.now in
    let held = c.loop-i.invariant in
    let step = c.in-Some.ensures.steps in
    rw c.front_node.ensures.value (chunk_found m (g.met.M.Maker.lawful c.args.maker.now).at_least c.args.path.now c.args.cells.now held.filled held.all c.in-Some.bytes.now _ step.0.1.0 (step.0.1.1 ∙ held.size))

pub offset_bounds-cells-i : goal.offset_bounds-cells-i
offset_bounds-cells-i g c =
    let m = g.M.Maker.meaning c.args.maker.now in
    let held = c.loop-i.invariant in
    let step = c.in-Some.ensures.steps in
    let within = chunk_within m (g.met.M.Maker.lawful c.args.maker.now).at_least c.args.path.now c.args.cells.now held.filled held.all c.in-Some.bytes.now _ step.0.1.0 (step.0.1.1 ∙ held.size) in
    let room : c.in-Some.i < length c.loop-i.cells = omega (arith, c.requires.room, c.requires.nodes) in
    search rules

pub loop-i-preserved : goal.loop-i-preserved
loop-i-preserved g c =
    let m = g.M.Maker.meaning c.args.maker.now in
    let least = (g.met.M.Maker.lawful c.args.maker.now).at_least in
    let held = c.loop-i.invariant in
    let step = c.in-Some.ensures.steps in
    let fills = step.0.1.1 ∙ held.size in
    let within = chunk_within m least c.args.path.now c.args.cells.now held.filled held.all c.in-Some.bytes.now _ step.0.1.0 fills in
    let room : c.loop-i.i-iterator.count < length c.loop-i.cells = omega (arith, c.requires.room, c.requires.nodes) in
    let filled = chunk_filled m least c.args.path.now c.args.cells.now held.filled held.all c.in-Some.bytes.now _ step.0.1.0 fills room c.unwrap.result (sym c.unwrap.ensures ∙ c.front_node.ensures.value) in
    record {
      can_next = search rules;
      is_finite = search rules;
      size = step.0.0 ∙ held.size;
      all = ap (λ i. i * m.width + length c.next.new.self.iter.rest.now) step.2 ∙ chunk_all m least c.args.path.now c.args.cells.now held.filled held.all c.in-Some.bytes.now _ step.0.1.0 fills;
      filled = rw (step.1, step.2) filled;
    }

pub returns : goal.returns
returns g c =
    let m = g.M.Maker.meaning c.args.maker.now in
    let held = c.loop-i.invariant in
    let short : length c.loop-i.i-iterator.iter.rest.now < m.width = omega (arith, c.in-None.ensures.steps.0.1.0, held.size) in
    chunks_filled m (g.met.M.Maker.lawful c.args.maker.now).at_least c.args.path.now c.args.cells.now held.filled held.all short
    ∙ ap (λ k. path_nodes m c.args.path.now ++ drop k c.args.cells.now) (sym c.requires.nodes)

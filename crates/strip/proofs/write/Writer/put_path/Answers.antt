use Rattle.std.proofs.Common.{◌≡◌, ℕ, ◌+◌, ◌*◌, add-mul, one-mul, arith, ◌∙◌}
use Rattle.strip.proofs.Appending.{appends_then, path_bytes_more}
use Rattle.strip.proofs.write.Writer.put_path.Goals as goal

pub loop-node-preserved : goal.loop-node-preserved
loop-node-preserved g c =
    let m = g.M.Maker.meaning c.args.maker.now in
    let i : ℕ = c.loop-node.node-index in
    let held = c.loop-node.invariant in
    let put = c.put_node.ensures in
    let fills = (g.met.M.Maker.lawful c.args.maker.now).fills c.node-item.result in
    let one : (i + 1) * m.width ≡ i * m.width + m.width = simp (add-mul, one-mul) in
    let more = path_bytes_more m c.args.path.now i c.node-item.result c.loop-node-test.true c.node-item.is in
    record {
      place = omega (arith, held.place, put.appends.end_is);
      put = record {
        appends = rw (← more) (appends_then held.put.appends put.appends);
        same_length = put.same_length ∙ held.put.same_length;
        same_slice = put.same_slice ∙ held.put.same_slice;
      };
    }

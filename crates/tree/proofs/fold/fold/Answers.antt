use Rattle.std.proofs.Common.{◌%◌, [], ◌∷◌, length, sym, ap, ◌∙◌, length-append}
use Rattle.std.specs.Bool.{then_some}
use Rattle.tree.specs.Meaning.{after}
use Rattle.tree.specs.Path.{parent, front_node}
use Rattle.tree.proofs.Metering.{after_after}
use Rattle.tree.proofs.Folding.{climbed_more, folded_stop, folded_all, folded_end}
use Rattle.tree.proofs.Nodes.{answers_root}
use Rattle.tree.proofs.fold.fold.Goals as goal

pub returns-in_err-sibling : goal.returns-in_err-sibling
returns-in_err-sibling g c =
    let m = g.M.Maker in
    let m₀ = m.meaning c.args.maker.now in
    let law = g.met.M.Maker.lawful c.args.maker.now in
    let (keeps, counts, size, so_far) = c.loop-bytes.invariant in
    let (again, cut, aside) = c.in-Some.ensures.steps in
    let none = c.in_err-sibling.ensures.value ∙ ap (λ k. front_node k c.in-Some.bytes.now) keeps in
    let stop = folded_stop m₀ law.at_least c.in-Some.bytes.now c.next.new.self.rest.now (rw cut.0 at so_far) (cut.1 ∙ size) none in
    let value = c.from_residual.ensures ∙ sym stop.1 in
    record {
      value = value;
      full_tree = answers_root m₀ law c.args.number c.args.leaf c.args.path.now c.from_residual.result value;
      keeps = keeps;
      counts = counts ∙ ap (λ k. after 0 k (m.meter c.args.maker.now)) (sym stop.0);
    }

pub loop-bytes-preserved : goal.loop-bytes-preserved
loop-bytes-preserved g c =
    let m = g.M.Maker in
    let m₀ = m.meaning c.args.maker.now in
    let (keeps, counts, size, so_far) = c.loop-bytes.invariant in
    let (again, cut, aside) = c.in-Some.ensures.steps in
    let node = c.in_ok-sibling.ensures.value ∙ ap (λ k. front_node k c.in-Some.bytes.now) keeps in
    let up = c.join_with-node.ensures in
    let value = up.value ∙ ap (λ k. parent k.join c.loop-bytes.index c.loop-bytes.node c.in_ok-sibling.sibling) keeps in
    let step = climbed_more m₀ (g.met.M.Maker.lawful c.args.maker.now).at_least c.in-Some.bytes.now c.next.new.self.rest.now (rw cut.0 at so_far) (cut.1 ∙ size) c.in_ok-sibling.sibling node in
    let one_more = length-append c.loop-bytes.yielded (c.in-Some.bytes ∷ []) in (
      up.keeps ∙ keeps,
      rw one_more (up.counts ∙ ap (after 0 1) counts ∙ after_after 0 (length c.loop-bytes.yielded) 0 1 (m.meter c.args.maker.now)),
      again ∙ size,
      rw (one_more, value) step,
    )

pub returns : goal.returns
returns g c =
    let m = g.M.Maker in
    let m₀ = m.meaning c.args.maker.now in
    let (keeps, counts, size, so_far) = c.loop-bytes.invariant in
    let (again, ended, aside) = c.in-None.ensures.steps in
    let short = rw size at ended.0 in
    let rest = c.loop-bytes.bytes-iterator.rest.now in
    let law = g.met.M.Maker.lawful c.args.maker.now in
    let over = ap length c.remainder-rest.ensures ∙ c.chunks_exact-nodes.ensures.remainder_len ∙ ap (λ w. length c.args.path.now % w) c.width.ensures in
    let value = c.then_some.ensures ∙ ap (λ b. then_some b c.loop-bytes.node) c.is_empty.ensures ∙ folded_end m₀ law.at_least rest so_far short _ over in
    record {
      value = value;
      full_tree = answers_root m₀ law c.args.number c.args.leaf c.args.path.now c.then_some.result value;
      keeps = keeps;
      counts = counts ∙ ap (λ k. after 0 k (m.meter c.args.maker.now)) (sym (folded_all m₀ law.at_least rest so_far short));
    }

use Rattle.std.proofs.Common.{ℕ, ◌/◌, ◌≤◌, leb, List, [], ◌∷◌, ◌++◌, length, take, drop, Some, None, sym, ap, ◌∙◌, ap₂, arith}
use Rattle.std.proofs.lemmas.List.{take_at}
use Rattle.std.proofs.lemmas.Bool.{cond-true, le-leb}
use Rattle.tree.specs.Path.{path_nodes}
use Rattle.strip.specs.Format.{strip_bytes, height_in}
use Rattle.tree.specs.Refusals.{first_refusal}
use Rattle.strip.specs.Calls.{nodes_in}
use Rattle.strip.specs.Refusals.{or_else, short}
use Rattle.strip.proofs.Faultless.{faultless}
use Rattle.strip.proofs.Leading.{path_chunks, path_nodes_in}
use Rattle.strip.proofs.Spelling.{strip_spelled}
use Rattle.strip.proofs.read.read.Goals as goal

pub fill-requires : goal.fill-requires
fill-requires g c =
    let m = g.M.Maker.meaning c.args.maker.now in
    let p = c.in_ok-strip.ensures in
    let lawful = g.met.M.Maker.lawful c.args.maker.now in
    let whole = faultless m c.args.bytes.now p.0 in
    let many = ap (λ l. length (path_nodes m l)) p.4 ∙ ap length (path_nodes_in m lawful c.args.bytes.now whole) ∙ whole.nodes in
    record {
      nodes = many ∙ sym (path_chunks m lawful c.args.bytes.now whole) ∙ ap (λ l. length l / m.width) (sym p.4);
      room = omega (arith, c.if-cells-height.false, p.1);
    }

pub returns : goal.returns
returns g c =
    let m = g.M.Maker.meaning c.args.maker.now in
    let bs : List ℕ = c.args.bytes.now in
    let p = c.in_ok-strip.ensures in
    let whole = faultless m bs p.0 in
    let room : height_in bs ≤ length c.args.cells.now = omega (arith, p.1) in
    let path = ap (path_nodes m) p.4 ∙ path_nodes_in m (g.met.M.Maker.lawful c.args.maker.now) bs whole in
    let filled = c.fill.ensures ∙ ap (λ l. l ++ drop (length l) c.args.cells.now) path ∙ ap (λ k. nodes_in m bs ++ drop k c.args.cells.now) whole.nodes in
    let front = ap₂ take p.1 filled ∙ take_at (nodes_in m bs) (drop (height_in bs) c.args.cells.now) (height_in bs) whole.nodes in
    record {
      answer = (
        ap (λ o. or_else o (first_refusal ((leb (height_in bs) (length c.args.cells.now), short (height_in bs)) ∷ []))) p.0
            ∙ cond-true (leb (height_in bs) (length c.args.cells.now)) None (Some (short (height_in bs))) (le-leb _ _ room),
        p.1,
        p.2,
        p.3,
        p.4,
        filled,
      );
      spells_back = λ one.
          (λ i. strip_bytes m (p.1 i) (p.2 i) (p.3 i) (front i)) ∙ strip_spelled m one bs (λ i. (c.type_inv.bytes i).fits) whole;
    }

use Rattle.std.proofs.Common.{◌≡◌, ◌+◌, ◌-◌, ◌≤◌, ℕ, List, length, take, drop, arith, rules, length-drop, length-take}
use Rattle.strip.proofs.Appending.{appends_part, appends_length, puts_whole}
use Rattle.strip.proofs.write.Writer.put_node.Goals as goal

pub returns : goal.returns
returns g c =
    let m = g.M.Maker.meaning c.args.maker.now in
    let at : ℕ = c.args.self.now.place in
    let out : List ℕ = c.args.self.now.out.now in
    let width = c.width.ensures in
    let fills = (g.met.M.Maker.lawful c.args.maker.now).fills c.args.node in
    let room : at + m.width ≤ length out = c.requires in
    let part : length (take ((at + c.width.result) - at) (drop at out)) ≡ m.width = simp (length-take, length-drop) (omega arith) in
    let put = appends_part out c.put.new.out (m.put c.args.node) at m.width (at + c.width.result) (omega arith) room
    (puts_whole m c.args.node _ c.put.new.out c.put.result c.put.ensures part) fills in
    record { appends = put; same_length = appends_length put (omega arith); same_slice = search rules }

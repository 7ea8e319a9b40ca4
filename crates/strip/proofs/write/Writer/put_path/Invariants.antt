use Rattle.std.proofs.Common.{◌≡◌, ◌+◌, ◌*◌, take}
use Rattle.tree.specs.Path.{path_bytes}
use Rattle.strip.specs.Writing.{Puts}
use Rattle.strip.proofs.write.Writer.put_path.Given as goal

abbrev pub invariant-loop-node : goal.invariant-loop-node
invariant-loop-node g l =
    let m = g.M.Maker.meaning l.maker in
    record {
      place : l.self.place ≡ l.initial.self.place + l.node-index * m.width;
      put : Puts l.initial.self (path_bytes m (take l.node-index l.path)) l.self;
    }

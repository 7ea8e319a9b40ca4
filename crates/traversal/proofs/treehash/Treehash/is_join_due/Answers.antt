use Rattle.std.proofs.Common.{◌-◌, ◌/◌, ◌%◌, ◌^◌, ◌&&◌, eqb, sym, ap, ◌∙◌, le-ltb, lt-ltb}
use Rattle.growth.specs.Order.{join_due}
use Rattle.traversal.proofs.treehash.Treehash.is_join_due.Goals as goal

pub returns-then-self-gt0 : goal.returns-then-self-gt0
unfolding join_due
returns-then-self-gt0 c = ap (λ b. b && eqb ((c.args.self.now.leaves - 1) / 2 ^ c.args.self.now.newest % 2) 1) (sym (lt-ltb 0 c.args.self.now.leaves c.if-self-gt0.true))

pub returns-else-self-gt0 : goal.returns-else-self-gt0
unfolding join_due
returns-else-self-gt0 c = le-ltb _ _ c.if-self-gt0.false ∙ ap (λ b. b && eqb ((c.args.self.now.leaves - 1) / 2 ^ c.args.self.now.newest % 2) 1) (sym (le-ltb 0 c.args.self.now.leaves c.if-self-gt0.false))

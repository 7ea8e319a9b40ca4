use Rattle.std.proofs.Common.{◌≡◌, ℕ, ◌+◌, ◌-◌, ◌≤◌, min, length, sym, ◌∙◌, subst, arith}
use Rattle.tree.specs.Geometry.{table_size}
use Rattle.traversal.specs.Worlds.{world_of}
use Rattle.traversal.specs.Units.{next_unit}
use Rattle.traversal.specs.Calls.{units, units_in_all, WentOn}
use Rattle.traversal.proofs.Stepping.{nothing_due, first_unit, drafted_none, went_on, went_since, within_budget, spent, one_made}
use Rattle.traversal.proofs.state.Draft.step.Goals as goal

pub returns-then-units-eq0-clause-stepped : goal.returns-then-units-eq0-clause-stepped
returns-then-units-eq0-clause-stepped g c =
    let d = c.args.self.now in
    let v = world_of g.M.Maker.meaning g.M.Maker.meter g.S.Source.supply c.args.lent.now in
    let none = drafted_none d v (g.met.M.Maker.wraps c.args.lent.now.maker.now) in
    let enough : table_size d.shape.height d.shape.subtree ≤ length v.table = omega (arith, d.shape.shaped.2) in
    let least : 0 ≡ min c.args.budget (units_in_all d - units d) = omega arith in
    (nothing_due d (length v.table) c.args.budget v.supply enough least, within_budget d d v v c.args.budget 0 0 0 least (spent d d v v 0 0 0 none (omega arith) (omega arith)))

pub returns-clause-stepped : goal.returns-clause-stepped
returns-clause-stepped g c =
    let d = c.args.self.now in
    let e = c.unit.new.self in
    let f = c.go_on.new.self in
    let v = world_of g.M.Maker.meaning g.M.Maker.meter g.S.Source.supply c.args.lent.now in
    let u = world_of g.M.Maker.meaning g.M.Maker.meter g.S.Source.supply c.unit.new.lent in
    let w = world_of g.M.Maker.meaning g.M.Maker.meter g.S.Source.supply c.go_on.new.lent in
    let (fine, first) = c.in_ok-unit.ensures.unit in
    let enough : table_size d.shape.height d.shape.subtree ≤ length v.table = omega (arith, d.shape.shaped.2) in
    let made = next_unit d.hash in
    let count = c.min-units.result in
    let i = f.hash.leaves - e.hash.leaves in
    let j = f.hash.joins - e.hash.joins in
    let all = went_on d e f v u w count made.0 made.1 i j (omega arith) (one_made d.hash) first c.go_on.ensures.went_on in
    let within = within_budget d f v w c.args.budget count (made.0 + i) (made.1 + j) (omega arith) all in (
      first_unit d (length v.table) c.args.budget v.supply enough (omega arith) (omega arith) ∙ fine,
      subst (λ (p : ℕ × ℕ). WentOn d v c.args.budget p.0 p.1 f w) (sym c.since.ensures) (went_since d f v w c.args.budget (made.0 + i) (made.1 + j) within),
    )

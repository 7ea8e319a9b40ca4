use Rattle.std.proofs.Common.{◌+◌, ◌-◌, arith}
use Rattle.traversal.specs.Worlds.{world_of}
use Rattle.traversal.specs.Units.{next_unit}
use Rattle.traversal.proofs.Lending.{same_none, same_then}
use Rattle.traversal.proofs.Stepping.{drafted_none, drafted_then, drafted_since, went_since, unit_made, unit_lacked, one_made}
use Rattle.traversal.proofs.state.Draft.go_on.Goals as goal

pub loop-init : goal.loop-init
loop-init g c =
    let d = c.args.self.now in
    let v = world_of g.M.Maker.meaning g.M.Maker.meter g.S.Source.supply c.args.lent.now in
    (drafted_since d d v v 0 0 (drafted_none d v (g.met.M.Maker.wraps c.args.lent.now.maker.now)), same_none c.args.lent.now, omega arith)

pub loop-preserved : goal.loop-preserved
loop-preserved g c =
    let d = c.args.self.now in
    let e = c.loop.self in
    let f = c.unit.new.self in
    let v = world_of g.M.Maker.meaning g.M.Maker.meter g.S.Source.supply c.args.lent.now in
    let w = world_of g.M.Maker.meaning g.M.Maker.meter g.S.Source.supply c.loop.lent in
    let x = world_of g.M.Maker.meaning g.M.Maker.meter g.S.Source.supply c.unit.new.lent in
    let (drafted, same, made) = c.loop.invariant in
    let a = e.hash.leaves - d.hash.leaves in
    let b = e.hash.joins - d.hash.joins in
    let i = (next_unit e.hash).0 in
    let j = (next_unit e.hash).1 in
    let unit = unit_made c.unit.result e f w x c.if-is_err.ensures.value c.unit.ensures.unit in
    let one = one_made e.hash in (
      drafted_since d f v x (a + i) (b + j) (drafted_then d e f v w x a b i j drafted unit),
      same_then c.args.lent.now c.loop.lent c.unit.new.lent same c.unit.ensures.same_loans,
      omega (arith, unit.advanced.leaves_made, unit.advanced.joins_made),
    )

pub returns-then-is_err-clause-went_on : goal.returns-then-is_err-clause-went_on
returns-then-is_err-clause-went_on g c =
    let d = c.args.self.now in
    let e = c.loop.self in
    let f = c.unit.new.self in
    let v = world_of g.M.Maker.meaning g.M.Maker.meter g.S.Source.supply c.args.lent.now in
    let w = world_of g.M.Maker.meaning g.M.Maker.meter g.S.Source.supply c.loop.lent in
    let x = world_of g.M.Maker.meaning g.M.Maker.meter g.S.Source.supply c.unit.new.lent in
    let (drafted, same, made) = c.loop.invariant in
    let a = e.hash.leaves - d.hash.leaves in
    let b = e.hash.joins - d.hash.joins in
    let short = unit_lacked c.unit.result d e f v w x c.args.count a b drafted (omega (arith, drafted.advanced.leaves_made, drafted.advanced.joins_made)) c.if-is_err.ensures.value c.unit.ensures.unit in
    went_since d f v x c.args.count a b short

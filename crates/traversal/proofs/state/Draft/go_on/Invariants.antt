use Rattle.std.proofs.Common.{◌≡◌, ◌+◌, ◌-◌}
use Rattle.traversal.specs.Worlds.{world_of, SameLoans}
use Rattle.traversal.specs.Calls.{units, Drafted}
use Rattle.traversal.proofs.state.Draft.go_on.Given as goal

abbrev pub invariant-loop : goal.invariant-loop
invariant-loop g l =
    let world = world_of g.M.Maker.meaning g.M.Maker.meter g.S.Source.supply in
    Drafted l.initial.self (world l.initial.lent) (l.self.hash.leaves - l.initial.self.hash.leaves) (l.self.hash.joins - l.initial.self.hash.joins) l.self (world l.lent)
    × SameLoans l.initial.lent l.lent
    × (units l.self ≡ units l.initial.self + l.counter)

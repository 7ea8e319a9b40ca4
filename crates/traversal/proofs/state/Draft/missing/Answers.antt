use Rattle.std.proofs.Common.{◌≡◌, ℕ, ◌+◌, ◌*◌, ◌%◌, ◌^◌, ◌≤◌, ap, arith}
use Rattle.traversal.specs.declared.state.Draft.{Draft}
use Rattle.traversal.specs.Calls.{made_so_far, units, units_in_all}
use Rattle.traversal.proofs.Drafting.{units_most, all_units}
use Rattle.traversal.proofs.state.Draft.missing.Goals as goal

-- the units of the whole tree and those of the draft, as the code counts them
counted : (d : Draft) (made : ℕ × ℕ) → made ≡ made_so_far d → ((2 * 2 ^ d.shape.height) % 2 ^ 64 ≡ 2 ^ (d.shape.height + 1)) × (made.0 + made.1 ≡ units d) × (units d ≤ units_in_all d)
counted d made is =
    let s = d.shape in
    (all_units s.height s.subtree s.cells s.shaped, ap (λ (p : ℕ × ℕ). p.0 + p.1) is, units_most s.height s.subtree s.cells s.shaped d.hash d.standing)

pub overflow_sub-result-3 : goal.overflow_sub-result-3
overflow_sub-result-3 c = let (all, sum, most) = counted c.args.self.now c.made-leaves.result c.made-leaves.ensures in omega arith

pub returns : goal.returns
returns c = let (all, sum, most) = counted c.args.self.now c.made-leaves.result c.made-leaves.ensures in omega arith

use Rattle.std.proofs.Common.{◌-◌, ◌≤◌, arith, lit<, pow_mono}
use Rattle.std.proofs.lemmas.Nat.{shl_whole}
use Rattle.growth.proofs.Ends.{twice_pow}
use Rattle.traversal.proofs.Plotting.{twice}
use Rattle.traversal.proofs.plot.row_offset.Goals as goal

pub overflow_sub-result-2 : goal.overflow_sub-result-2
overflow_sub-result-2 c =
    let h = c.args.subtree in
    let r = c.args.row in
    let less : h - r ≤ h = omega arith in
    omega (arith, shl_whole 2 2 h 64 (lit< tt) (omega arith), shl_whole 2 2 (h - r) 64 (lit< tt) (omega arith), pow_mono less)

pub returns : goal.returns
returns c =
    let h = c.args.subtree in
    let r = c.args.row in
    omega (arith, shl_whole 2 2 h 64 (lit< tt) (omega arith), shl_whole 2 2 (h - r) 64 (lit< tt) (omega arith), twice h r c.requires.1, twice_pow h)

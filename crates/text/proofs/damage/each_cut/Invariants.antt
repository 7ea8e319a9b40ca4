use Rattle.std.proofs.Common.{◌-◌, length, map}
use Rattle.std.specs.List.{FoldsTo, range_with_len}
use Rattle.text.specs.declared.damage.Damage.TheVariants.{Cut}
use Rattle.text.specs.Damages.{Told, cuts}
use Rattle.text.proofs.damage.each_cut.Given as goal

-- what is still to be shown leads on to all of it
abbrev pub invariant-loop-size : goal.invariant-loop-size
invariant-loop-size g l =
    goal.F-IsAlwaysCallable g l.show
    × ((last : _) → FoldsTo (Told (goal.F-step g) l.bytes) l.show (map Cut (range_with_len l.size (length l.bytes - l.size))) last
    → FoldsTo (Told (goal.F-step g) l.bytes) l.fn.show (cuts l.bytes) last)

use Rattle.std.proofs.Common.{◌≡◌, ◌+◌, ◌-◌, ◌++◌, length, map, drop}
use Rattle.std.specs.List.{FoldsTo, flat_map, range_with_len}
use Rattle.text.specs.declared.damage.Damage.TheVariants.{Change}
use Rattle.text.specs.Damages.{Told, changes}
use Rattle.text.proofs.damage.each_change.Given as goal

-- what is still to be shown leads on to all of it
abbrev pub invariant-loop-place : goal.invariant-loop-place
invariant-loop-place g l =
    goal.F-IsAlwaysCallable g l.show
    × (l.bytes ≡ l.fn.bytes)
    × ((last : _) → FoldsTo (Told (goal.F-step g) l.fn.bytes) l.show (flat_map (λ place. map (Change place) l.masks) (range_with_len l.place (length l.fn.bytes - l.place))) last
    → FoldsTo (Told (goal.F-step g) l.fn.bytes) l.fn.show (changes l.masks l.fn.bytes) last)

abbrev pub invariant-loop-mask : goal.invariant-loop-mask
invariant-loop-mask g l =
    goal.F-IsAlwaysCallable g l.show
    × (l.bytes ≡ l.fn.bytes)
    × ((last : _) → FoldsTo (Told (goal.F-step g) l.fn.bytes) l.show (map (Change l.place) (drop l.mask-index l.masks) ++ flat_map (λ place. map (Change place) l.masks) (range_with_len (l.place + 1) (length l.fn.bytes - (l.place + 1)))) last
    → FoldsTo (Told (goal.F-step g) l.fn.bytes) l.fn.show (changes l.masks l.fn.bytes) last)

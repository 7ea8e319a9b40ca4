use Rattle.std.proofs.Common.{ℕ, List, length, map, sym, refl, subst, rules, of_calls}
use Rattle.std.specs.List.{FoldsTo}
use Rattle.text.specs.declared.damage.Damage.TheVariants.{Cut}
use Rattle.text.specs.Damages.{Told}
use Rattle.text.proofs.Damaging.{told, places_from}
use Rattle.text.proofs.damage.each_cut.Goals as goal

pub loop-size-preserved : goal.loop-size-preserved
loop-size-preserved g c = (
  search (rules, of_calls),
  λ last folds.
      let bytes : List ℕ = c.args.bytes.now in
      let size : ℕ = c.loop-size.size in
      let shown = told (goal.F-step g) bytes c.loop-size.show c.show.new.self (Cut size) _ c.show.result c.show.ensures refl c.in_ok-show.was in
      c.loop-size.invariant.1 last (subst (λ places. FoldsTo (Told (goal.F-step g) bytes) c.loop-size.show (map Cut places) last) (sym (places_from size (length bytes) c.loop-size-test.true)) (c.show.new.self, shown, folds)),
)

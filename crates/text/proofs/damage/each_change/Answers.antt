use Rattle.std.proofs.Common.{ℕ, ◌+◌, ◌-◌, List, ◌++◌, length, get_or, set, bit_xor, map, sym, ap, ◌∙◌, subst, rules, of_calls, arith}
use Rattle.std.proofs.lemmas.List.{drop_more}
use Rattle.std.specs.List.{FoldsTo, flat_map, range_with_len}
use Rattle.text.specs.declared.damage.Damage.TheVariants.{Change}
use Rattle.text.specs.Damages.{Told}
use Rattle.text.proofs.Damaging.{undone, told, places_from}
use Rattle.text.proofs.damage.each_change.Goals as goal

pub loop-mask-init : goal.loop-mask-init
loop-mask-init g c = (
  search (rules, of_calls),
  c.loop-place.invariant.1,
  λ last folds.
      c.loop-place.invariant.2 last (subst (λ places. FoldsTo (Told (goal.F-step g) c.args.bytes.now) c.loop-place.show (flat_map (λ place. map (Change place) c.args.masks.now) places) last) (sym (places_from c.loop-place.place (length c.args.bytes.now) (omega arith))) folds),
)

pub returns-in_err-shown-clause-kept : goal.returns-in_err-shown-clause-kept
returns-in_err-shown-clause-kept g c =
    undone c.loop-mask.bytes c.loop-place.place (get_or c.args.masks.now c.loop-mask.mask-index 0) (omega arith) ∙ c.loop-mask.invariant.1

pub loop-mask-preserved : goal.loop-mask-preserved
loop-mask-preserved g c =
    let masks : List ℕ = c.args.masks.now in
    let place : ℕ = c.loop-place.place in
    let j : ℕ = c.loop-mask.mask-index in
    let mask : ℕ = get_or masks j 0 in
    let kept = c.loop-mask.invariant.1 in (
      search (rules, of_calls),
      undone c.loop-mask.bytes place mask (omega arith) ∙ kept,
      λ last folds.
          let shown = told (goal.F-step g) c.args.bytes.now c.loop-mask.show c.show-shown.new.self (Change place mask) _ c.show-shown.result c.show-shown.ensures (ap (λ l. set l place (bit_xor (get_or l place 0) mask)) kept) c.in_ok-shown.was in
          c.loop-mask.invariant.2 last (subst (λ l. FoldsTo (Told (goal.F-step g) c.args.bytes.now) c.loop-mask.show (map (Change place) l ++ flat_map (λ place. map (Change place) masks) (range_with_len (place + 1) (length c.args.bytes.now - (place + 1)))) last) (sym (drop_more masks j 0 c.loop-mask-test.true)) (c.show-shown.new.self, shown, folds)),
    )

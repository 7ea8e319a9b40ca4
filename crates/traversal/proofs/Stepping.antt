-- Units of a draft in a row, and why they stop.
use Rattle.std.proofs.Common.{◌≡◌, ℕ, ◌+◌, ◌-◌, ◌<◌, ◌≤◌, ◌&&◌, ◌^◌, min, ltb, false, true, Some, None, Ok, Err, Result, sym, refl, ap, ◌∙◌, subst, inl, inr, ⊎_elim, arith}
use Rattle.std.proofs.lemmas.Bool.{cases_Bool, cases_lt, cond-true, cond-false, lt-ltb, le-ltb, and_left, and_right, and_from, false≢true}
use Rattle.std.specs.Result.{is_err}
use Rattle.growth.specs.Order.{join_due}
use Rattle.tree.specs.Geometry.{table_size}
use Rattle.tree.specs.Meaning.{Wraps}
use Rattle.tree.specs.Supply.{Supply}
use Rattle.traversal.specs.declared.fault.DraftFault.{DraftFault}
use Rattle.traversal.specs.declared.refusal.Refusal.{Refusal}
use Rattle.traversal.specs.declared.state.Draft.{Draft}
use Rattle.traversal.specs.Shapes.{draft_plot}
use Rattle.traversal.specs.Worlds.{World}
use Rattle.traversal.specs.declared.treehash.Treehash.{Treehash}
use Rattle.traversal.specs.Units.{next_unit, Advanced}
use Rattle.traversal.specs.Calls.{units, units_in_all, Drafted, unit_lacks, DraftUnit, WentOn, step_refusal}
use Rattle.traversal.proofs.Advancing.{advanced_none, advanced_then}
use Rattle.traversal.proofs.Drafting.{units_most}

-- a draft never has more units than its tree has nodes
pub most : (d : Draft) → units d ≤ units_in_all d
most d = units_most d.shape.height d.shape.subtree d.shape.cells d.shape.shaped d.hash d.standing

-- The checks of a step.
pub nothing_due : (d : Draft) (cells budget : ℕ) (s : Supply) → table_size d.shape.height d.shape.subtree ≤ cells → 0 ≡ min budget (units_in_all d - units d) → step_refusal d cells s budget ≡ None
nothing_due d cells budget s enough none =
    cond-false (ltb cells (table_size d.shape.height d.shape.subtree)) _ _ (le-ltb cells _ enough)
    ∙ cond-false (ltb 0 budget && ltb (units d) (units_in_all d)) _ _
    (⊎_elim
    (λ some. and_right (ltb 0 budget) _ (le-ltb (units d) (units_in_all d) (omega arith)))
    (λ spent. and_left (ltb 0 budget) _ (le-ltb 0 budget spent))
    (cases_lt 0 budget))

pub first_unit : (d : Draft) (cells budget : ℕ) (s : Supply) → table_size d.shape.height d.shape.subtree ≤ cells → 0 < budget → units d < units_in_all d → step_refusal d cells s budget ≡ unit_lacks d s
first_unit d cells budget s enough some few =
    cond-false (ltb cells (table_size d.shape.height d.shape.subtree)) _ _ (le-ltb cells _ enough)
    ∙ cond-true (ltb 0 budget && ltb (units d) (units_in_all d)) _ _ (and_from (ltb 0 budget) (ltb (units d) (units_in_all d)) (lt-ltb 0 budget some) (lt-ltb (units d) (units_in_all d) few))

-- a unit makes one node
pub one_made : (g : Treehash) → (next_unit g).0 + (next_unit g).1 ≡ 1
one_made g =
    let due = join_due g.leaves g.newest in
    ⊎_elim
    (λ is. ap (λ (p : ℕ × ℕ). p.0 + p.1) (cond-true due (0, 1) (1, 0) is))
    (λ none. ap (λ (p : ℕ × ℕ). p.0 + p.1) (cond-false due (0, 1) (1, 0) none))
    (cases_Bool due)

module _ {N : Type 0} where
  pub drafted_none : (d : Draft) (v : World N) → Wraps v.meter → Drafted d v 0 0 d v
  drafted_none d v wraps = record { shape = refl; advanced = advanced_none (draft_plot d.shape.height d.shape.subtree) v d.hash wraps }

  pub drafted_then : (d e f : Draft) (u v w : World N) (a b i j : ℕ) → Drafted d u a b e v → Drafted e v i j f w → Drafted d u (a + i) (b + j) f w
  drafted_then d e f u v w a b i j first second =
      let plot = ap (λ s. draft_plot s.height s.subtree) first.shape in
      record {
        shape = second.shape ∙ first.shape;
        advanced = advanced_then (draft_plot d.shape.height d.shape.subtree) u v w d.hash e.hash f.hash a b i j first.advanced
            (subst (λ p. Advanced p v e.hash i j w f.hash) plot second.advanced);
      }

  -- the counts are told by the draft before and after
  pub drafted_since : (d e : Draft) (v w : World N) (a b : ℕ) → Drafted d v a b e w → Drafted d v (e.hash.leaves - d.hash.leaves) (e.hash.joins - d.hash.joins) e w
  drafted_since d e v w a b drafted =
      let adv = drafted.advanced in
      let leaves : a ≡ e.hash.leaves - d.hash.leaves = omega (arith, adv.leaves_made) in
      let joins : b ≡ e.hash.joins - d.hash.joins = omega (arith, adv.joins_made) in
      subst (λ i. Drafted d v i (e.hash.joins - d.hash.joins) e w) leaves (subst (λ j. Drafted d v a j e w) joins drafted)

  -- the draft has gone as far as the budget
  pub spent : (d e : Draft) (v w : World N) (budget a b : ℕ) → Drafted d v a b e w → a + b ≤ budget → budget ≤ a + b → WentOn d v budget a b e w
  spent d e v w budget a b drafted low high = record { drafted = drafted; stops = (low, inl (omega arith)) }

  -- or to its end
  pub complete : (d e : Draft) (v w : World N) (budget a b : ℕ) → Drafted d v a b e w → a + b ≤ budget → units_in_all e - units e ≡ 0 → WentOn d v budget a b e w
  complete d e v w budget a b drafted low none = record { drafted = drafted; stops = (low, inr (inl (omega (arith, most e)))) }

  -- or until a token is missing
  pub starved : (d e f : Draft) (v w x : World N) (budget a b : ℕ) (r : Refusal) → Drafted d v a b e w → a + b ≤ budget → unit_lacks e w.supply ≡ Some r → f ≡ e → x ≡ w → WentOn d v budget a b f x
  starved d e f v w x budget a b r drafted low lacks same still =
      let stays = drafted.advanced.supply in
      subst (λ g. WentOn d v budget a b g x) (sym same)
      (subst (λ y. WentOn d v budget a b e y) (sym still)
      (record { drafted = drafted; stops = (low, inr (inr (r, ap (unit_lacks e) (sym stays) ∙ lacks))) }))

  -- the same by the answer of a unit
  pub unit_made : (answer : Result Unit DraftFault) (d e : Draft) (v w : World N) → false ≡ is_err answer → DraftUnit d v answer e w → Drafted d v (next_unit d.hash).0 (next_unit d.hash).1 e w
  unit_made (Ok _) d e v w fine unit = unit.1
  unit_made (Err f) d e v w failed unit = absurd (false≢true failed)

  pub unit_lacked : (answer : Result Unit DraftFault) (d e f : Draft) (v w x : World N) (budget a b : ℕ) → Drafted d v a b e w → a + b ≤ budget → true ≡ is_err answer → DraftUnit e w answer f x → WentOn d v budget a b f x
  unit_lacked (Ok _) d e f v w x budget a b drafted low fine unit = absurd (false≢true (sym fine))
  unit_lacked (Err fault) d e f v w x budget a b drafted low failed (lacks, same, still) = starved d e f v w x budget a b _ drafted low lacks same still

  -- one unit and what follows
  pub went_on : (d e f : Draft) (u v w : World N) (budget a b i j : ℕ) → 0 < budget → a + b ≡ 1 → Drafted d u a b e v → WentOn e v (budget - 1) i j f w → WentOn d u budget (a + i) (b + j) f w
  went_on d e f u v w budget a b i j some one first rest =
      let stays = first.advanced.supply in
      let sum : a + i + (b + j) ≡ i + j + 1 = omega arith in
      record {
        drafted = drafted_then d e f u v w a b i j first rest.drafted;
        stops = (
          omega (arith, rest.stops.0),
          ⊎_elim (λ all. inl (omega arith)) (λ o. inr (⊎_elim inl (λ lack. inr (lack.0, ap (unit_lacks f) (sym stays) ∙ lack.1)) o)) rest.stops.1,
        );
      }

  pub went_since : (d e : Draft) (v w : World N) (budget a b : ℕ) → WentOn d v budget a b e w → WentOn d v budget (e.hash.leaves - d.hash.leaves) (e.hash.joins - d.hash.joins) e w
  went_since d e v w budget a b went =
      let adv = went.drafted.advanced in
      let leaves : a ≡ e.hash.leaves - d.hash.leaves = omega (arith, adv.leaves_made) in
      let joins : b ≡ e.hash.joins - d.hash.joins = omega (arith, adv.joins_made) in
      subst (λ i. WentOn d v budget i (e.hash.joins - d.hash.joins) e w) leaves (subst (λ j. WentOn d v budget a j e w) joins went)

  -- as far as the budget, where no more than is missing was tried
  pub within_budget : (d e : Draft) (v w : World N) (budget count a b : ℕ) → count ≡ min budget (units_in_all d - units d) → WentOn d v count a b e w → WentOn d v budget a b e w
  within_budget d e v w budget count a b least went =
      let adv = went.drafted.advanced in
      let all : units_in_all e ≡ units_in_all d = ap (λ s. 2 ^ (s.height + 1) - 1) went.drafted.shape in
      record {
        drafted = went.drafted;
        stops = (
          omega (arith, went.stops.0),
          ⊎_elim
              (λ spent. ⊎_elim
              (λ few. inr (inl (omega (arith, adv.leaves_made, adv.joins_made, most d))))
              (λ enough. inl (omega arith))
              (cases_lt (units_in_all d - units d) budget))
              inr went.stops.1,
        );
      }

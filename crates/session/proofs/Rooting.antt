-- A draft that is stepped as far as it goes: it is complete, or the first missing token is in its way.
use Rattle.std.proofs.Common.{◌≡◌, ℕ, zero, suc, ◌+◌, ◌-◌, ◌^◌, ◌<◌, ◌≤◌, cond, ◌&&◌, ltb, ◌⊎◌, length, Some, None, Ok, Err, Option, Result, sym, refl, ap, ◌∙◌, subst, ap₂, inl, inr, ⊎_elim, arith, pow_mono}
use Rattle.std.proofs.lemmas.Bool.{cases_lt, cases_Bool, cond-true, cond-false, le-ltb, ltb-true, and_parts}
use Rattle.growth.specs.Order.{join_due}
use Rattle.growth.proofs.Ends.{twice_pow}
use Rattle.growth.proofs.Making.{leaf_room}
use Rattle.growth.proofs.Counting.{joined_whole, unfinished}
use Rattle.tree.specs.Supply.{Supply, presence}
use Rattle.tree.specs.Meaning.{Wraps, after}
use Rattle.tree.specs.Geometry.{table_size}
use Rattle.traversal.specs.declared.state.Draft.{Draft}
use Rattle.traversal.specs.declared.state.Run.{Run}
use Rattle.traversal.specs.declared.refusal.Refusal.{Refusal}
use Rattle.traversal.specs.Worlds.{World}
use Rattle.traversal.specs.Calls.{units, units_in_all, unit_lacks, lacking, Begun, Stepped, step_refusal, Turned}
use Rattle.traversal.proofs.Beginning.{begin_passed}
use Rattle.traversal.proofs.Drafting.{height_facts}
use Rattle.traversal.proofs.Stepping.{most}
use Rattle.session.specs.History.{stop, and_step, and_turn}
use Rattle.session.specs.Law.{AllPresent}
use Rattle.session.specs.Root.{or_else, first_lack, root_refusal, Around, DraftsRoot, Finished}
use Rattle.session.proofs.Histories.{none_some, lawful_from}

-- no token is missing
pub lack_none : (s : Supply) (n : ℕ) → ((k : ℕ) → k < n → presence s k ≡ Ok tt) → first_lack s n ≡ None
unfolding first_lack
lack_none s zero there = refl
lack_none s (suc n) there =
    ap (λ (o : Option Refusal). or_else o (lacking n (presence s n))) (lack_none s n (λ k less. there k (omega arith))) ∙ ap (lacking n) (there n (omega arith))

-- the first is
pub lack_first : (s : Supply) (n m : ℕ) (r : Refusal) → ((k : ℕ) → k < n → presence s k ≡ Ok tt) → lacking n (presence s n) ≡ Some r → n < m → first_lack s m ≡ Some r
unfolding first_lack
lack_first s n zero r there lacks less = absurd (omega arith)
lack_first s n (suc m) r there lacks less =
    ⊎_elim
    (λ before. ap (λ (o : Option Refusal). or_else o (lacking m (presence s m))) (lack_first s n m r there lacks before))
    (λ last.
    let same : n ≡ m = omega arith in
    ap (λ (o : Option Refusal). or_else o (lacking m (presence s m))) (subst (λ k. first_lack s k ≡ None) same (lack_none s n there)) ∙ subst (λ k. lacking k (presence s k) ≡ Some r) same lacks)
    (cases_lt n m)

-- what an unfinished draft lacks is a token of its tree
pub lacks_token : (d : Draft) (s : Supply) (r : Refusal) → units d < units_in_all d → unit_lacks d s ≡ Some r → (lacking d.hash.leaves (presence s d.hash.leaves) ≡ Some r) × (d.hash.leaves < 2 ^ d.shape.height)
lacks_token d s r few lacks =
    let l = d.hash.leaves in
    let p = d.hash.newest in
    ⊎_elim
    (λ due. absurd (none_some r (sym (cond-true (join_due l p) None _ due) ∙ lacks)))
    (λ none.
    let more = unfinished d.shape.height l p (omega (arith, d.standing.1)) d.standing.0.1 in
    (sym (cond-false (join_due l p) None _ none) ∙ lacks, omega (arith, leaf_room d.shape.height l p d.standing.0 more none)))
    (cases_Bool (join_due l p))

-- a step that is refused though the table is long enough
pub refused_unit : (d : Draft) (cells budget : ℕ) (s : Supply) (r : Refusal) → table_size d.shape.height d.shape.subtree ≤ cells → step_refusal d cells s budget ≡ Some r → (unit_lacks d s ≡ Some r) × (units d < units_in_all d)
refused_unit d cells budget s r enough why =
    let rest = cond (ltb 0 budget && ltb (units d) (units_in_all d)) (unit_lacks d s) None in
    let second : rest ≡ Some r = sym (cond-false (ltb cells (table_size d.shape.height d.shape.subtree)) _ _ (le-ltb _ _ enough)) ∙ why in
    ⊎_elim
    (λ go. (sym (cond-true (ltb 0 budget && ltb (units d) (units_in_all d)) _ _ go) ∙ second, ltb-true _ _ (and_parts (ltb 0 budget) (ltb (units d) (units_in_all d)) go).1))
    (λ halt. absurd (none_some r (sym (cond-false (ltb 0 budget && ltb (units d) (units_in_all d)) _ _ halt) ∙ second)))
    (cases_Bool (ltb 0 budget && ltb (units d) (units_in_all d)))

-- complete, with all tokens there; or the next token is missing, and those before are there
abbrev pub EndsAt : Draft → Supply → Type 0
EndsAt e s =
    ((units e ≡ units_in_all e) × AllPresent s e.shape.height)
    ⊎ ((units e < units_in_all e) × ((r : Refusal) × (unit_lacks e s ≡ Some r)) × ((k : ℕ) → k < e.hash.leaves → presence s k ≡ Ok tt))

pub ends : {N : Type 0} (d e : Draft) (v w : World N) (budget : ℕ) (answer : Result (ℕ × ℕ) Refusal) → d.hash.leaves ≡ 0 → d.hash.joins ≡ 0 → table_size d.shape.height d.shape.subtree ≤ length v.table → units_in_all d < budget → Stepped d v budget answer e w → EndsAt e v.supply
ends d e v w budget (Ok made) none no_join enough large (fine, went) =
    let adv = went.drafted.advanced in
    let there : (k : ℕ) → k < e.hash.leaves → presence v.supply k ≡ Ok tt = λ k less. adv.present k (omega arith) less in
    let same : units_in_all e ≡ units_in_all d = ap (λ s. 2 ^ (s.height + 1) - 1) went.drafted.shape in
    let whole : units e ≡ units_in_all e → EndsAt e v.supply = λ full. inl (
      full,
      (let (all, top) = joined_whole e.shape.height e.hash.leaves e.hash.newest e.standing.0 (omega (arith, e.standing.1)) in λ n less. there n (omega arith)),
    ) in
    ⊎_elim
    (λ spent. absurd (omega (arith, most e, adv.leaves_made, adv.joins_made)))
    (λ o. ⊎_elim whole
    (λ lack. ⊎_elim (λ few. inr (few, lack, there)) (λ full. whole (omega (arith, most e))) (cases_lt (units e) (units_in_all e))) o)
    went.stops.1
ends d e v w budget (Err r) none no_join enough large (why, same, still) =
    let (lacks, few) = refused_unit d (length v.table) budget v.supply r enough why in
    subst (λ f. EndsAt f v.supply) (sym same) (inr (few, (r, lacks), λ k less. absurd (omega arith)))

-- a step keeps the table's length and what the source supplies
pub stepped_keeps : {N : Type 0} (d e : Draft) (v w : World N) (budget : ℕ) (answer : Result (ℕ × ℕ) Refusal) → Stepped d v budget answer e w → (length w.table ≡ length v.table) × (w.supply ≡ v.supply) × (e.shape.height ≡ d.shape.height) × (e.shape.subtree ≡ d.shape.subtree)
stepped_keeps d e v w budget (Ok made) (fine, went) = (went.drafted.advanced.grew.long, went.drafted.advanced.supply, ap (λ s. s.height) went.drafted.shape, ap (λ s. s.subtree) went.drafted.shape)
stepped_keeps d e v w budget (Err r) (why, same, still) = (ap (λ y. length y.table) still, ap (λ y. y.supply) still, ap (λ f. f.shape.height) same, ap (λ f. f.shape.subtree) same)

-- The root in one call. All from what the calls made say.
module _ {N : Type 0} (H h : ℕ) (v : World N) (wraps : Wraps v.meter) (d : Draft) (begun : Begun H h (length v.table) v.supply (Ok d))
    (e : Draft) (w : World N) (budget : ℕ) (answer : Result (ℕ × ℕ) Refusal) (did : Stepped d v budget answer e w) (large : 2 ^ 22 ≤ budget) where
  facts : (table_size H h ≤ length v.table) × (H ≤ 20)
  facts =
      let (height, subtree, enough, tokens) = begin_passed H h (length v.table) v.supply.size begun.0 in
      (enough, (height_facts H height).1)

  pub tall : e.shape.height ≡ H
  tall = (stepped_keeps d e v w budget answer did).2 ∙ begun.1

  pub room : table_size e.shape.height e.shape.subtree ≤ length w.table
  room =
      let keeps = stepped_keeps d e v w budget answer did in
      omega (arith, keeps.0, facts.0, ap₂ table_size tall (keeps.3 ∙ begun.2))

  pub end : EndsAt e v.supply
  end =
      let most-high : H + 1 ≤ 21 = omega (arith, facts.1) in
      ends d e v w budget answer (ap (λ (p : ℕ × ℕ). p.0) begun.3) (ap (λ (p : ℕ × ℕ). p.1) begun.3)
      (omega (arith, facts.0, ap₂ table_size begun.1 begun.2))
      (omega (arith, ap (λ k. 2 ^ (k + 1) - 1) begun.1, pow_mono most-high)) did

  -- the next unit of an incomplete draft lacks its token
  pub starves : units e < units_in_all e → (r : Refusal) × (unit_lacks e w.supply ≡ Some r)
  starves few =
      let stays = (stepped_keeps d e v w budget answer did).1 in
      ⊎_elim (λ full. absurd (omega (arith, full.0))) (λ lack. (lack.1.0, ap (unit_lacks e) stays ∙ lack.1.1)) end

  -- what the law says of such a step alone
  around : Around H h v w
  around =
      let law = lawful_from H h v wraps (Ok d) begun _ _ w (and_step did stop) in
      record { meaning = law.meaning; supply = law.supply; long = law.long; past = law.past }

  pub starved_root : (r : Refusal) (x : World N) → x ≡ w → units e < units_in_all e → unit_lacks e w.supply ≡ Some r → DraftsRoot H h v (Err r) x
  starved_root r x still few lacks = (starved r few lacks, λ refused. absurd (none_some r (sym begun.0 ∙ refused)), subst (Around H h v) (sym still) around)
    where
      starved : (r : Refusal) → units e < units_in_all e → unit_lacks e w.supply ≡ Some r → root_refusal H h (length v.table) v.supply ≡ Some r
      starved r few lacks =
          let stays = (stepped_keeps d e v w budget answer did).1 in
          let (token, in_tree) = lacks_token e v.supply r few (ap (unit_lacks e) (sym stays) ∙ lacks) in
          ⊎_elim (λ full. absurd (omega (arith, full.0)))
          (λ lack.
          ap (λ (o : Option Refusal). or_else o (first_lack v.supply (2 ^ H))) begun.0
          ∙ lack_first v.supply e.hash.leaves (2 ^ H) r lack.2 token (omega (arith, ap (λ k. 2 ^ k) tall)))
          end

  pub rooted : (run : Run) (r : Result (N × (ℕ × ℕ)) Refusal) → Turned e (Ok run) → Finished run w.table r → DraftsRoot H h v r w
  rooted run (Err r) (full, same, totals) short = absurd (omega (arith, room, ap (λ s. table_size s.height s.subtree) same))
  rooted run (Ok ended) (full, same, totals) (value, made) =
      let law = lawful_from H h v wraps (Ok d) begun _ _ w (and_step did (and_turn (Ok run) (full, same, totals) stop)) in
      let there = ⊎_elim (λ all. all.1) (λ lack. absurd (omega (arith, lack.0))) end in
      let (leaves, top) = joined_whole e.shape.height e.hash.leaves e.hash.newest e.standing.0 (omega (arith, e.standing.1)) in
      let all-leaves : e.hash.leaves ≡ 2 ^ H = leaves ∙ ap (λ k. 2 ^ k) tall in
      let all-joins : e.hash.joins ≡ 2 ^ H - 1 = omega (arith, full, ap (λ k. 2 ^ (k + 1) - 1) tall, twice_pow H) in
      let pair : run.totals.drafted ≡ (2 ^ H, 2 ^ H - 1) = ap (λ t. t.drafted) totals ∙ ap₂ (λ i j. (i, j)) all-leaves all-joins in
      let counted = sym (ap (λ t. t.drafted) law.held.2) ∙ pair in (
        ap (λ (o : Option Refusal). or_else o (first_lack v.supply (2 ^ H))) begun.0 ∙ lack_none v.supply (2 ^ H) (λ k less. there k (omega (arith, ap (λ n. 2 ^ n) tall))),
        value ended.0 ∙ law.tree.root ended.0,
        made ∙ pair,
        law.metered ∙ ap₂ (λ i j. after i j v.meter) (ap (λ (p : ℕ × ℕ). p.0) counted) (ap (λ (p : ℕ × ℕ). p.1) counted),
        law.tree,
        around,
      )

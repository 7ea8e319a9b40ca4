-- Rules for bytes, one after another.
use Rattle.std.proofs.Common.{◌≡◌, ℕ, zero, suc, ◌+◌, ◌-◌, ◌*◌, ◌<◌, ◌≤◌, min, Bool, true, false, cond, ltb, List, [], ◌∷◌, ◌++◌, length, take, drop, is_some, Some, None, Option, sym, refl, ap, ◌∙◌, ap₂, subst, ⊎_elim, le_refl, add-mul, one-mul, add-one, zero-mul, arith}
use native.Mathlib.Nat.{sub-zero}
use Rattle.std.proofs.lemmas.Bool.{cond-true, cond-false, lt-ltb, le-ltb, le-leb, lt-leb, cases_lt}
use Rattle.std.proofs.lemmas.Nat.{mul-le}
use Rattle.tree.specs.Meaning.{Meaning}
use Rattle.strip.specs.declared.refusal.Section.TheVariants.{Path}
use Rattle.strip.specs.declared.refusal.Fault.{Fault}
use Rattle.strip.specs.Format.{Rule, fault, first_broken, height_in, head_rules, token_rules, count_rules, node_rules, fault_in}

-- the first of two faults
abbrev pub first : Option Fault → Option Fault → Option Fault
first None g = g
first (Some f) g = Some f

module _ (bs : List ℕ) where
  -- one rule: broken for want of bytes, broken, or kept
  pub rule_ends : (d : Rule) (ds : List Rule) → length bs < d.upto → first_broken bs (d ∷ ds) ≡ Some (fault (length bs) d.section)
  rule_ends d ds short = cond-true (ltb (length bs) d.upto) _ _ (lt-ltb _ _ short)

  pub rule_reached : (d : Rule) (ds : List Rule) → d.upto ≤ length bs → first_broken bs (d ∷ ds) ≡ cond d.right (first_broken bs ds) (Some (fault d.place d.section))
  rule_reached d ds long = cond-false (ltb (length bs) d.upto) (Some (fault (length bs) d.section)) (cond d.right (first_broken bs ds) (Some (fault d.place d.section))) (le-ltb _ _ long)

  pub rule_broken : (d : Rule) (ds : List Rule) → d.upto ≤ length bs → d.right ≡ false → first_broken bs (d ∷ ds) ≡ Some (fault d.place d.section)
  rule_broken d ds long bad = rule_reached d ds long ∙ cond-false d.right (first_broken bs ds) (Some (fault d.place d.section)) bad

  pub rule_kept : (d : Rule) (ds : List Rule) → d.upto ≤ length bs → d.right ≡ true → first_broken bs (d ∷ ds) ≡ first_broken bs ds
  rule_kept d ds long good = rule_reached d ds long ∙ cond-true d.right (first_broken bs ds) (Some (fault d.place d.section)) good

  -- rules after rules
  after_one : (short good : Bool) (one two : Fault) (f g : Option Fault) → cond short (Some one) (cond good (first f g) (Some two)) ≡ first (cond short (Some one) (cond good f (Some two))) g
  after_one true good one two f g = refl
  after_one false true one two f g = refl
  after_one false false one two f g = refl

  pub rules_then : (ds es : List Rule) → first_broken bs (ds ++ es) ≡ first (first_broken bs ds) (first_broken bs es)
  rules_then [] es = refl
  rules_then (d ∷ ds) es =
      ap (λ o. cond (ltb (length bs) d.upto) (Some (fault (length bs) d.section)) (cond d.right o (Some (fault d.place d.section)))) (rules_then ds es)
      ∙ after_one (ltb (length bs) d.upto) d.right (fault (length bs) d.section) (fault d.place d.section) (first_broken bs ds) (first_broken bs es)

  -- whether a node stands at a place
  abbrev pub node_at : {N : Type 0} → Meaning N → ℕ → Bool
  node_at m p = is_some (m.read (take m.width (drop p bs)))

  module _ {N : Type 0} (m : Meaning N) (H : ℕ) where
    -- The path begins with i nodes, and the rules ask for no fewer.
    pub record Begins (i : ℕ) : Type 0 where
      pub upto : i ≤ H
      pub within : 41 + i * m.width ≤ length bs
      pub nodes : (k : ℕ) → k < i → node_at m (41 + k * m.width) ≡ true

    next : (i : ℕ) → suc i * m.width ≡ i * m.width + m.width
    next i = rw (← add-one) (simp (add-mul, one-mul))

    -- After them the rules that are left decide.
    left : (i : ℕ) → Begins i → first_broken bs (node_rules m bs (41 + i * m.width) (H - i)) ≡ first_broken bs (node_rules m bs 41 H)
    left zero begins = ap₂ (λ p k. first_broken bs (node_rules m bs p k)) (ap (λ k. 41 + k) (zero-mul m.width)) (sub-zero H)
    left (suc i) begins =
        let one = next i in
        let upto = begins.upto in
        let within = begins.within in
        let more : suc (H - suc i) ≡ H - i = omega arith in
        let place : 41 + suc i * m.width ≡ 41 + i * m.width + m.width = omega arith in
        let before : Begins i = record { upto = omega arith; within = omega arith; nodes = λ k lt. begins.nodes k (omega arith) } in
        ap (λ p. first_broken bs (node_rules m bs p (H - suc i))) place
        ∙ sym (rule_kept _ (node_rules m bs (41 + i * m.width + m.width) (H - suc i)) (omega arith) (begins.nodes i (omega arith)))
        ∙ ap (λ k. first_broken bs (node_rules m bs (41 + i * m.width) k)) more
        ∙ left i before

    module _ {i : ℕ} (begins : Begins i) where
      -- with the next node first
      left_more : i < H → first_broken bs (node_rules m bs (41 + i * m.width) (suc (H - suc i))) ≡ first_broken bs (node_rules m bs 41 H)
      left_more lt = let one : suc (H - suc i) ≡ H - i = omega arith in ap (λ k. first_broken bs (node_rules m bs (41 + i * m.width) k)) one ∙ left i begins

      -- at the end: nothing may be left
      left_none : i ≡ H → first_broken bs (node_rules m bs (41 + H * m.width) 0) ≡ first_broken bs (node_rules m bs 41 H)
      left_none done = let none : 0 ≡ H - i = omega arith in ap₂ (λ j k. first_broken bs (node_rules m bs (41 + j * m.width) k)) (sym done) none ∙ left i begins

      pub stops : i < H → 41 + i * m.width + m.width ≤ length bs → node_at m (41 + i * m.width) ≡ false → first_broken bs (node_rules m bs 41 H) ≡ Some (fault (41 + i * m.width) Path)
      stops lt long bad = sym (left_more lt) ∙ rule_broken _ (node_rules m bs (41 + i * m.width + m.width) (H - suc i)) long bad

      -- when all H nodes have come, or too few bytes are left for the next
      module _ (over : i < H → length bs < 41 + i * m.width + m.width) where
        short : i < H → length bs < 41 + H * m.width
        short lt =
            let more = mul-le (suc i) m.width H m.width (omega arith) (le_refl m.width) in
            let one = next i in
            let few = over lt in
            omega arith

        whole : i ≡ H → 41 + H * m.width ≤ length bs
        whole done = subst (λ k. 41 + k * m.width ≤ length bs) done begins.within

        pub ends_whole : length bs ≡ 41 + H * m.width → first_broken bs (node_rules m bs 41 H) ≡ None
        ends_whole e =
            ⊎_elim (λ lt. absurd (let few = short lt in omega arith))
            (λ ge.
            let upto = begins.upto in
            sym (left_none (omega arith)) ∙ rule_kept _ [] (omega arith) (le-leb (length bs) (41 + H * m.width) (omega arith)))
            (cases_lt i H)

        pub ends_other : (length bs ≡ 41 + H * m.width → ⊥) → first_broken bs (node_rules m bs 41 H) ≡ Some (fault (min (41 + H * m.width) (length bs)) Path)
        ends_other e =
            ⊎_elim (λ lt.
            let few = short lt in
            let wants = over lt in
            sym (left_more lt) ∙ rule_ends _ (node_rules m bs (41 + i * m.width + m.width) (H - suc i)) wants ∙ ap (λ p. Some (fault p Path)) (omega arith))
            (λ ge.
            let upto = begins.upto in
            let done : i ≡ H = omega arith in
            let all = whole done in
            sym (left_none done) ∙ rule_broken _ [] all (lt-leb (length bs) (41 + H * m.width) (omega arith)) ∙ ap (λ p. Some (fault p Path)) (omega arith))
            (cases_lt i H)

-- the first fault, section by section
pub fault_is : {N : Type 0} (m : Meaning N) (bs : List ℕ) (k H : ℕ) (a b c d : Option Fault) →
    k ≡ m.kind → H ≡ height_in bs →
    first_broken bs (head_rules k bs) ≡ a → first_broken bs (token_rules bs) ≡ b → first_broken bs (count_rules bs) ≡ c → first_broken bs (node_rules m bs 41 H) ≡ d →
    fault_in m bs ≡ first (first (first a b) c) d
unfolding fault_in
fault_is m bs k H a b c d is-kind is-height e f g h =
    let heads : List Rule = head_rules m.kind bs in
    let head = ap (λ x. first_broken bs (head_rules x bs)) (sym is-kind) ∙ e in
    let nodes = ap (λ x. first_broken bs (node_rules m bs 41 x)) (sym is-height) ∙ h in
    rules_then bs (heads ++ token_rules bs ++ count_rules bs) (node_rules m bs 41 (height_in bs))
    ∙ ap₂ first (rules_then bs (heads ++ token_rules bs) (count_rules bs) ∙ ap₂ first (rules_then bs heads (token_rules bs) ∙ ap₂ first head f) g) nodes

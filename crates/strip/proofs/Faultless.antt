-- What is known of bytes with no fault, and which bytes have none.
use Rattle.std.proofs.Common.{◌≡◌, ℕ, zero, suc, ◌+◌, ◌*◌, ◌^◌, ◌<◌, ◌≤◌, true, false, ltb, List, [], ◌∷◌, ◌++◌, length, get_or, take, drop, is_some, Some, None, Option, sym, refl, ap, ◌∙◌, ⊎_elim, add-mul, one-mul, zero-mul, add-one, arith, length-append, length-drop}
use Rattle.std.proofs.lemmas.List.{drop-drop, drop_at, take_at}
use Rattle.std.proofs.lemmas.Bool.{cases_Bool, and_parts, ltb-true, ltb-false, leb-true, eqb-true, le-leb, le-ltb, cond-false, both_ways}
use Rattle.tree.specs.Meaning.{Meaning, Lawful}
use Rattle.tree.specs.Path.{path_bytes, and_then, front_node, nodes_of}
use Rattle.strip.specs.declared.refusal.Fault.{Fault}
use Rattle.strip.specs.Format.{Rule, fault, first_broken, height_in, number_in, head_rules, token_rules, count_rules, node_rules, fault_in}
use Rattle.strip.specs.Calls.{nodes_in}
use Rattle.strip.proofs.Rules.{first, rules_then, rule_kept, rule_ends, rule_broken}

some_is_not_none : {A : Type 0} (x : A) → Some x ≡ None → ⊥
some_is_not_none x e = cc

both_none : (a b : Option Fault) → first a b ≡ None → (a ≡ None) × (b ≡ None)
both_none None b e = (refl, e)
both_none (Some f) b e = absurd (some_is_not_none f e)

module _ (bs : List ℕ) where
  none_then : (ds es : List Rule) → first_broken bs (ds ++ es) ≡ None → (first_broken bs ds ≡ None) × (first_broken bs es ≡ None)
  none_then ds es e = both_none (first_broken bs ds) (first_broken bs es) (sym (rules_then bs ds es) ∙ e)

  -- rules that are all kept, and no fault
  abbrev pub Kept : List Rule → Type 0
  Kept [] = Unit {0}
  Kept (d ∷ ds) = (d.upto ≤ length bs) × (d.right ≡ true) × Kept ds

  pub kept : (ds : List Rule) → first_broken bs ds ≡ None → Kept ds
  kept [] e = tt
  kept (d ∷ ds) e =
      ⊎_elim (λ short. absurd (some_is_not_none (fault (length bs) d.section) (sym (rule_ends bs d ds (ltb-true _ _ short)) ∙ e)))
      (λ long.
      let reached = ltb-false _ _ long in
      ⊎_elim (λ good. (reached, good, kept ds (sym (rule_kept bs d ds reached good) ∙ e)))
      (λ bad. absurd (some_is_not_none (fault d.place d.section) (sym (rule_broken bs d ds reached bad) ∙ e)))
      (cases_Bool d.right))
      (cases_Bool (ltb (length bs) d.upto))

  pub no_fault : (ds : List Rule) → Kept ds → first_broken bs ds ≡ None
  no_fault [] k = refl
  no_fault (d ∷ ds) k = rule_kept bs d ds k.0 k.1 ∙ no_fault ds k.2

  module _ {N : Type 0} (m : Meaning N) where
    -- nodes from a place to the end
    pub record Nodes (p k : ℕ) : Type 0 where
      pub size : length bs ≡ p + k * m.width
      pub count : length (nodes_of m k (drop p bs)) ≡ k

    found : (o : Option N) (xs : List N) → is_some o ≡ true → length (and_then o xs) ≡ suc (length xs)
    found None xs e = absurd (both_ways false refl e)
    found (Some x) xs e = refl

    at_front : (p : ℕ) → p + m.width ≤ length bs → front_node m (drop p bs) ≡ m.read (take m.width (drop p bs))
    at_front p reached = cond-false (ltb (length (drop p bs)) m.width) None (m.read (take m.width (drop p bs))) (le-ltb _ _ (simp length-drop (omega arith)))

    pub only_nodes : (k p : ℕ) → p ≤ length bs → first_broken bs (node_rules m bs p k) ≡ None → Nodes p k
    only_nodes zero p within e =
        let last = kept (node_rules m bs p 0) e in
        let over = leb-true (length bs) p last.1 in
        record { size = rw zero-mul (omega arith); count = refl }
    only_nodes (suc k) p within e =
        let one = kept (node_rules m bs p (suc k)) e in
        let more = only_nodes k (p + m.width) one.0 (no_fault (node_rules m bs (p + m.width) k) one.2) in
        let row : suc k * m.width ≡ k * m.width + m.width = rw (← add-one) (simp (add-mul, one-mul)) in
        record {
          size = more.size ∙ omega arith;
          count = found (front_node m (drop p bs)) (nodes_of m k (drop m.width (drop p bs))) (ap is_some (at_front p one.0) ∙ one.1)
              ∙ ap (λ l. suc (length (nodes_of m k l))) (drop-drop m.width p bs)
              ∙ ap suc more.count;
        }

    -- the bytes of nodes, from a place to the end
    pub nodes_faultless : Lawful m → (xs : List N) (p : ℕ) → p ≤ length bs → drop p bs ≡ path_bytes m xs → first_broken bs (node_rules m bs p (length xs)) ≡ None
    nodes_faultless ok [] p within e =
        let size = sym (length-drop p bs) ∙ ap length e in
        rule_kept bs _ [] within (le-leb (length bs) p (omega arith))
    nodes_faultless ok (x ∷ xs) p within e =
        let here = ap (take m.width) e ∙ take_at (m.put x) (path_bytes m xs) m.width (ok.fills x) in
        let rest = sym (drop-drop m.width p bs) ∙ ap (drop m.width) e ∙ drop_at (m.put x) (path_bytes m xs) m.width (ok.fills x) in
        let size = sym (length-drop p bs) ∙ ap length e ∙ length-append (m.put x) (path_bytes m xs) in
        let width = ok.fills x in
        let reached : p + m.width ≤ length bs = omega arith in
        rule_kept bs _ (node_rules m bs (p + m.width) (length xs)) reached (ap (λ l. is_some (m.read l)) here ∙ ap is_some (ok.reads_back x))
        ∙ nodes_faultless ok xs (p + m.width) reached rest

-- What bytes with no fault are.
pub record Faultless {N : Type 0} (m : Meaning N) (bs : List ℕ) : Type 0 where
  pub head_count : get_or bs 0 0 ≡ 6
  pub kind : get_or bs 1 0 ≡ m.kind
  pub height : (1 ≤ height_in bs) × (height_in bs ≤ 20)
  pub number : number_in bs < 2 ^ height_in bs
  pub token_count : get_or bs 7 0 ≡ 32
  pub path_count : get_or bs 40 0 ≡ height_in bs
  pub size : length bs ≡ 41 + height_in bs * m.width
  pub nodes : length (nodes_in m bs) ≡ height_in bs

pub faultless : {N : Type 0} (m : Meaning N) (bs : List ℕ) → fault_in m bs ≡ None → Faultless m bs
unfolding fault_in
faultless m bs e =
    let heads : List Rule = head_rules m.kind bs in
    let nodes : List Rule = node_rules m bs 41 (height_in bs) in
    let most = none_then bs (heads ++ token_rules bs ++ count_rules bs) nodes e in
    let more = none_then bs (heads ++ token_rules bs) (count_rules bs) most.0 in
    let some = none_then bs heads (token_rules bs) more.0 in
    let head = kept bs heads some.0 in
    let token = kept bs (token_rules bs) some.1 in
    let count = kept bs (count_rules bs) more.1 in
    let path = only_nodes bs m (height_in bs) 41 count.0 most.1 in
    let legal = and_parts _ _ head.2.2.1 in
    record {
      head_count = eqb-true _ _ head.1;
      kind = eqb-true _ _ head.2.1;
      height = (leb-true _ _ legal.0, leb-true _ _ legal.1);
      number = ltb-true _ _ head.2.2.2.1;
      token_count = eqb-true _ _ token.1;
      path_count = eqb-true _ _ count.1;
      size = path.size;
      nodes = path.count;
    }

-- The law over all lists of calls: what is kept from call to call, and what it comes to.
use Rattle.std.proofs.Common.{◌≡◌, ℕ, ◌+◌, ◌-◌, ◌*◌, ◌/◌, ◌%◌, ◌^◌, ◌<◌, ◌≤◌, min, true, cond, ◌&&◌, ltb, ◌⊎◌, List, ◌∷◌, length, get_or, Some, None, Ok, Err, Result, sym, refl, ap, ◌∙◌, subst, ap₂, inl, inr, ⊎_elim, add-zero, add_assoc, add-mul, zero-add, arith, pow_mono}
use Rattle.std.proofs.lemmas.Nat.{div-mul-add, mod-mul-add, mul-le}
use Rattle.std.proofs.lemmas.Bool.{cases_lt, cases_Bool, cond-true, cond-false, ltb-true, le-ltb, and_parts, false≢true}
use Rattle.growth.specs.Order.{Reached, join_due}
use Rattle.growth.specs.Places.{carried, place}
use Rattle.growth.specs.Values.{Grew}
use Rattle.growth.proofs.Making.{leaf_room}
use Rattle.growth.proofs.Placing.{place_own}
use Rattle.growth.proofs.Counting.{joined_whole, unfinished}
use Rattle.growth.proofs.Writing.{grew_true, grew_past, none_carried, whole_carried}
use Rattle.tree.specs.Meaning.{Meaning, Wraps, after}
use Rattle.tree.specs.Numbers.{legal_height}
use Rattle.tree.specs.Supply.{Supply}
use Rattle.tree.specs.Tree.{node_at}
use Rattle.tree.specs.Geometry.{Shaped, levels, table_size, subtree_cells, existing_start, legal_subtree}
use Rattle.tree.proofs.Metering.{after_after, after_none}
use Rattle.traversal.specs.declared.state.Draft.{Draft}
use Rattle.traversal.specs.declared.state.Run.{Run}
use Rattle.traversal.specs.declared.outcome.Incomplete.{Incomplete}
use Rattle.traversal.specs.declared.refusal.Refusal.{Refusal}
use Rattle.traversal.specs.declared.treehash.Treehash.{Treehash}
use Rattle.traversal.specs.Plots.{row_start, layout, depth, owns_cell, own_cell}
use Rattle.traversal.specs.Shapes.{draft_plot}
use Rattle.traversal.specs.Worlds.{World, tokens, leaf_at}
use Rattle.traversal.specs.Calls.{units, units_in_all, Begun, unit_lacks, lacking, Stepped, Turned, WentOn, step_refusal}
use Rattle.traversal.proofs.Plotting.{sound, owns_decides, cell_root, cell_row}
use Rattle.traversal.proofs.Drafting.{draft_legal, draft_room, rows_start, whole_levels}
use Rattle.traversal.proofs.Stepping.{most}
use Rattle.traversal.proofs.Beginning.{begin_passed}
use Rattle.session.specs.declared.held.Held.{Held}
use Rattle.session.specs.declared.held.Held.TheVariants.{Drafting, Running}
use Rattle.session.specs.declared.held.Call.{Call}
use Rattle.session.specs.declared.held.Call.TheVariants.{Step}
use Rattle.session.specs.History.{History, stop, and_step, and_turn, turned, turn_answer}
use Rattle.session.specs.Law.{reported, leaves_made, joins_made, budgets, Unrefused, TurnAt, TurnsAt, nodes, AllPresent, HoldsTree, HeldTree, HoldsCount, Lawful, LawfulFrom}

-- what the budgets allow, up to all
counts : (B budget made before all : ℕ) → before ≡ min B all → before + made ≤ all → made ≤ budget → (made ≡ budget) ⊎ (before + made ≡ all) → before + made ≡ min (B + budget) all
counts B budget made before all e most few why = ⊎_elim (λ spent. omega arith) (λ full. omega arith) why

pub none_some : {A : Type 0} (x : A) → None ≡ Some x → ⊥
none_some x e = let z : ◌≡◌ {A = ℕ} 0 1 = cc in omega arith

-- with all tokens there an unfinished draft lacks none
lacks_none : (d : Draft) (s : Supply) → AllPresent s d.shape.height → units d < units_in_all d → unit_lacks d s ≡ None
lacks_none d s there few =
    let l = d.hash.leaves in
    let p = d.hash.newest in
    ⊎_elim
    (λ due. cond-true (join_due l p) None _ due)
    (λ none.
    let more = unfinished d.shape.height l p (omega (arith, d.standing.1)) d.standing.0.1 in
    let room = leaf_room d.shape.height l p d.standing.0 more none in
    cond-false (join_due l p) None _ none ∙ ap (lacking l) (there l (omega arith)))
    (cases_Bool (join_due l p))

module _ {N : Type 0} (H h : ℕ) (v : World N) (height : legal_height H ≡ true) (subtree : legal_subtree H h ≡ true) (enough : table_size H h ≤ length v.table) where
  abbrev node : ℕ → ℕ → N
  node = node_at v.meaning (tokens v.supply)

  abbrev Carries : Treehash → List N → Type 0
  Carries g table = (y : N) (t x : ℕ) → carried (layout (draft_plot H h)) g.leaves g.newest t x ≡ true → get_or table (place (layout (draft_plot H h)) t x) y ≡ node_at v.meaning (tokens v.supply) t x

  -- what is held after a leaves and b joins
  abbrev Phase : ℕ → ℕ → Held → List N → Type 0
  Phase a b (Drafting d) table = (d.shape.height ≡ H) × (d.shape.subtree ≡ h) × (d.hash.leaves ≡ a) × (d.hash.joins ≡ b) × Carries d.hash table
  Phase a b (Running run) table = HoldsCount H h a b (Running run) × HoldsTree v.meaning v.supply H h table

  -- what every call keeps
  record Kept (a b B : ℕ) (z : Held) (u : World N) : Type 0 where
    phase : Phase a b z u.table
    metered : u.meter ≡ after a b v.meter
    meaning : u.meaning ≡ v.meaning
    supply : u.supply ≡ v.supply
    long : length u.table ≡ length v.table
    past : (y : N) (k : ℕ) → table_size H h ≤ k → get_or u.table k y ≡ get_or v.table k y
    counted : AllPresent v.supply H → a + b ≡ min B (nodes H)

  shaped : Shaped H h (table_size H h)
  shaped = (height, subtree, refl)

  most_nodes : (d : Draft) → d.shape.height ≡ H → units d ≤ nodes H
  most_nodes d e = omega (arith, most d, ap (λ k. 2 ^ (k + 1) - 1) e)

  -- a step that is not refused
  stepped : (d e : Draft) (u w : World N) (a b B budget i j : ℕ) → Kept a b B (Drafting d) u → WentOn d u budget i j e w → Kept (a + i) (b + j) (B + budget) (Drafting e) w
  stepped d e u w a b B budget i j kept went =
      let (tall, low, leaves, joins, carries) = kept.phase in
      let adv = went.drafted.advanced in
      let tall-e : e.shape.height ≡ H = ap (λ s. s.height) went.drafted.shape ∙ tall in
      let low-e : e.shape.subtree ≡ h = ap (λ s. s.subtree) went.drafted.shape ∙ low in
      let L = leaf_at v.meaning v.supply in
      let J = v.meaning.join in
      let lay = layout (draft_plot H h) in
      let g = d.hash in
      let f = e.hash in
      let plot = ap₂ draft_plot tall low in
      let grew : Grew L J lay g.leaves g.newest f.leaves f.newest u.table w.table =
      subst (λ (m : Meaning N). Grew (leaf_at m v.supply) m.join lay g.leaves g.newest f.leaves f.newest u.table w.table) kept.meaning
      (subst (λ (s : Supply). Grew (leaf_at u.meaning s) u.meaning.join lay g.leaves g.newest f.leaves f.newest u.table w.table) kept.supply
      (subst (λ p. Grew (leaf_at u.meaning u.supply) u.meaning.join (layout p) g.leaves g.newest f.leaves f.newest u.table w.table) plot adv.grew)) in
      let most-leaves : f.leaves ≤ 2 ^ H = omega (arith, e.standing.0.0, ap (λ k. 2 ^ k) tall-e) in
      let legal = draft_legal H h (table_size H h) shaped in
      let room = draft_room H h (table_size H h) shaped (table_size H h) (omega arith) in
      record {
        phase = (
          tall-e,
          low-e,
          adv.leaves_made ∙ ap (λ k. k + i) leaves,
          adv.joins_made ∙ ap (λ k. k + j) joins,
          λ y t x c. grew_true L J lay node (λ x. refl) (λ t x. refl) g.leaves g.newest f.leaves f.newest u.table w.table y grew (carries y) t x c,
        );
        metered = adv.metered ∙ ap (after i j) kept.metered ∙ after_after a b i j v.meter;
        meaning = adv.meaning ∙ kept.meaning;
        supply = adv.supply ∙ kept.supply;
        long = grew.long ∙ kept.long;
        past = λ y k far. grew_past L J lay (depth (draft_plot H h)) (sound (draft_plot H h) legal) g.leaves g.newest f.leaves f.newest u.table w.table most-leaves grew (table_size H h) room y k far ∙ kept.past y k far;
        counted = λ there.
            let total : a + i + (b + j) ≡ a + b + (i + j) = omega arith in
            let sum : units e ≡ a + b + (i + j) = omega (arith, adv.leaves_made, adv.joins_made) in
            let all : units_in_all e ≡ nodes H = ap (λ k. 2 ^ (k + 1) - 1) tall-e in
            total ∙ counts B budget (i + j) (a + b) (nodes H) (kept.counted there) (omega (arith, most_nodes e tall-e)) went.stops.0
            (⊎_elim inl
            (λ o. inr (⊎_elim (λ full. omega arith)
            (λ lack. ⊎_elim
            (λ few. absurd (none_some lack.0 (sym (lacks_none e u.supply (subst (λ s. AllPresent s e.shape.height) (sym kept.supply) (subst (AllPresent v.supply) (sym tall-e) there)) few) ∙ lack.1)))
            (λ full. omega (arith, most_nodes e tall-e))
            (cases_lt (units e) (units_in_all e))) o))
            went.stops.1);
      }

  -- a refused step changes nothing, and there is none with all tokens there
  refused : (d : Draft) (u : World N) (a b B budget : ℕ) (r : Refusal) → Kept a b B (Drafting d) u → step_refusal d (length u.table) u.supply budget ≡ Some r → AllPresent v.supply H → ⊥
  refused d u a b B budget r kept why there =
      let (tall, low, leaves, joins, carries) = kept.phase in
      let size = ap₂ table_size tall low in
      let long : table_size d.shape.height d.shape.subtree ≤ length u.table = omega (arith, kept.long) in
      let rest = cond (ltb 0 budget && ltb (units d) (units_in_all d)) (unit_lacks d u.supply) None in
      let second : rest ≡ Some r = sym (cond-false (ltb (length u.table) (table_size d.shape.height d.shape.subtree)) _ _ (le-ltb _ _ long)) ∙ why in
      ⊎_elim
      (λ go. let few = (and_parts (ltb 0 budget) (ltb (units d) (units_in_all d)) go).1 in
      none_some r (sym (lacks_none d u.supply (subst (λ s. AllPresent s d.shape.height) (sym kept.supply) (subst (AllPresent v.supply) (sym tall) there)) (ltb-true _ _ few)) ∙ sym (cond-true (ltb 0 budget && ltb (units d) (units_in_all d)) _ _ go) ∙ second))
      (λ halt. none_some r (sym (cond-false (ltb 0 budget && ltb (units d) (units_in_all d)) _ _ halt) ∙ second))
      (cases_Bool (ltb 0 budget && ltb (units d) (units_in_all d)))

  step_kept : (d e : Draft) (u w : World N) (a b B budget : ℕ) (answer : Result (ℕ × ℕ) Refusal) → Kept a b B (Drafting d) u → Stepped d u budget answer e w → Kept (a + (reported answer).0) (b + (reported answer).1) (B + budget) (Drafting e) w
  step_kept d e u w a b B budget (Ok made) kept (fine, went) = stepped d e u w a b B budget made.0 made.1 kept went
  step_kept d e u w a b B budget (Err r) kept (why, same, still) =
      let same-a : a ≡ a + 0 = omega arith in
      let same-b : b ≡ b + 0 = omega arith in
      let here : Kept (a + 0) (b + 0) (B + budget) (Drafting d) u =
      subst (λ k. Kept k (b + 0) (B + budget) (Drafting d) u) same-a (subst (λ k. Kept a k (B + budget) (Drafting d) u) same-b
      (record {
        phase = kept.phase;
        metered = kept.metered;
        meaning = kept.meaning;
        supply = kept.supply;
        long = kept.long;
        past = kept.past;
        counted = λ there. absurd (refused d u a b B budget r kept why there);
      })) in
      subst (λ f. Kept (a + 0) (b + 0) (B + budget) (Drafting f) w) (sym same) (subst (λ y. Kept (a + 0) (b + 0) (B + budget) (Drafting d) y) (sym still) here)

  -- the table of a complete draft holds the tree
  holds : (d : Draft) (table : List N) → d.shape.height ≡ H → units d ≡ nodes H → Carries d.hash table → HoldsTree v.meaning v.supply H h table
  holds d table tall all carries =
      let plot = draft_plot H h in
      let lay = layout plot in
      let legal = draft_legal H h (table_size H h) shaped in
      let (l, p) = joined_whole H d.hash.leaves d.hash.newest (subst (λ k. Reached k d.hash.leaves d.hash.newest) tall d.standing.0) (omega (arith, d.standing.1)) in
      let at : (y : N) (t x : ℕ) → t ≤ H → x < 2 ^ (H - t) → owns_cell plot t x ≡ true → get_or table (own_cell plot t x) y ≡ node t x =
      λ y t x low in_tree own.
      ap (λ k. get_or table k y) (sym (place_own lay t x own))
      ∙ carries y t x (ap₂ (λ a b. carried lay a b t x) l p ∙ whole_carried lay t x low in_tree own) in
      record {
        root = λ y.
            let none : H - H ≡ 0 = omega arith in
            let only : 0 < 2 ^ (H - H) = omega (arith, ap (λ k. 2 ^ k) none) in
            ap (λ k. get_or table k y) (sym (cell_root plot legal H 0 refl)) ∙ at y H 0 (omega arith) only ((owns_decides plot legal H 0).1 (inl (refl, refl)));
        subtrees = λ y i r x from to row in_row.
            let t = (i - 1) * h + r in
            let S = subtree_cells h in
            let level : t / h ≡ i - 1 = div-mul-add (i - 1) h r row in
            let in-level : t % h ≡ r = mod-mul-add (i - 1) h r row in
            let back : i - 1 + 1 ≡ i = omega arith in
            let up : (i - 1) * h + h ≡ i * h = omega (arith, add-mul (i - 1) 1 h, ap (λ k. k * h) back) in
            let most-high : i * h ≤ H = omega (arith, mul-le i h (levels H h) h to (omega arith), whole_levels H h (table_size H h) shaped) in
            let less : t < H = omega arith in
            let rows : h - r ≤ H - t = omega arith in
            let in_tree : x < 2 ^ (H - t) = omega (arith, pow_mono rows) in
            let near : x < 2 ^ (h - t % h) = subst (λ k. x < 2 ^ (h - k)) (sym in-level) in_row in
            let cell : existing_start h i + (row_start h r + x) ≡ own_cell plot t x =
            sym (cell_row plot legal t x less ∙ omega (arith, rows_start H h (table_size H h) shaped, ap (λ k. k * S) level, ap (row_start h) in-level)) in
            ap (λ k. get_or table k y) cell ∙ at y t x (omega arith) in_tree ((owns_decides plot legal t x).1 (inr (omega arith, (less, near))));
      }

  turn_kept : (d : Draft) (u : World N) (a b B : ℕ) (answer : Result Run Incomplete) → Kept a b B (Drafting d) u → Turned d answer → Kept a b B (turned answer) u
  turn_kept d u a b B (Ok run) kept (full, same, totals) =
      let (tall, low, leaves, joins, carries) = kept.phase in
      let all : units d ≡ nodes H = full ∙ ap (λ k. 2 ^ (k + 1) - 1) tall in
      record {
        phase = (
          (
            ap (λ s. s.height) same ∙ tall,
            ap (λ s. s.subtree) same ∙ low,
            totals ∙ ap (λ q. record { pulls = 0; drafted = q; pulled = (0, 0) }) (ap₂ (λ i j. (i, j)) leaves joins),
          ),
          holds d u.table tall all carries,
        );
        metered = kept.metered;
        meaning = kept.meaning;
        supply = kept.supply;
        long = kept.long;
        past = kept.past;
        counted = kept.counted;
      }
  turn_kept d u a b B (Err back) kept (few, same, missing) = subst (λ f. Kept a b B (Drafting f) u) (sym same) kept

  -- a turn is accepted exactly when all nodes are made
  turn_at : (d : Draft) (u : World N) (a b B : ℕ) (answer : Result Run Incomplete) → Kept a b B (Drafting d) u → Turned d answer → TurnAt (nodes H) (a + b) (turn_answer answer)
  turn_at d u a b B (Ok run) kept (full, _, _) =
      let (tall, low, leaves, joins, carries) = kept.phase in
      omega (arith, full, ap (λ k. 2 ^ (k + 1) - 1) tall)
  turn_at d u a b B (Err back) kept (few, same, missing) =
      let (tall, low, leaves, joins, carries) = kept.phase in
      let all : units_in_all d ≡ nodes H = ap (λ k. 2 ^ (k + 1) - 1) tall in
      (omega (arith, few, missing), omega (arith, few, missing))

  -- what a history comes to, from what was kept
  record Comes (a b B : ℕ) (calls : List Call) (z : Held) (w : World N) : Type 0 where
    last : Kept (a + leaves_made calls) (b + joins_made calls) (B + budgets calls) z w
    unrefused : AllPresent v.supply H → Unrefused calls
    turns : TurnsAt (nodes H) (a + b) calls

  step_unrefused : (d e : Draft) (u w : World N) (a b B budget : ℕ) (answer : Result (ℕ × ℕ) Refusal) (calls : List Call) → Kept a b B (Drafting d) u → Stepped d u budget answer e w → (AllPresent v.supply H → Unrefused calls) → AllPresent v.supply H → Unrefused (Step budget answer ∷ calls)
  step_unrefused d e u w a b B budget (Ok made) calls kept did rest there = rest there
  step_unrefused d e u w a b B budget (Err r) calls kept (why, same, still) rest there = refused d u a b B budget r kept why there

  comes : (a b B : ℕ) (y : Held) (u : World N) (calls : List Call) (z : Held) (w : World N) → Kept a b B y u → History y u calls z w → Comes a b B calls z w
  comes a b B y u calls z w kept stop = record {
    last = subst (λ k. Kept k (b + 0) (B + 0) z w) (sym (add-zero a)) (subst (λ k. Kept a k (B + 0) z w) (sym (add-zero b)) (subst (λ k. Kept a b k z w) (sym (add-zero B)) kept));
    unrefused = λ _. tt;
    turns = tt;
  }
  comes a b B y u calls z w kept (and_step {d = d} {e = e} {v = x} {budget = budget} {answer = answer} {calls = later} did rest) =
      let i = (reported answer).0 in
      let j = (reported answer).1 in
      let then = comes (a + i) (b + j) (B + budget) (Drafting e) x later z w (step_kept d e u x a b B budget answer kept did) rest in
      record {
        last = subst (λ k. Kept k (b + (j + joins_made later)) (B + (budget + budgets later)) z w) (add_assoc a i (leaves_made later))
            (subst (λ k. Kept (a + i + leaves_made later) k (B + (budget + budgets later)) z w) (add_assoc b j (joins_made later))
            (subst (λ k. Kept (a + i + leaves_made later) (b + j + joins_made later) k z w) (add_assoc B budget (budgets later)) then.last));
        unrefused = step_unrefused d e u x a b B budget answer later kept did then.unrefused;
        turns = (let sum : a + i + (b + j) ≡ a + b + (i + j) = omega arith in subst (λ k. TurnsAt (nodes H) k later) sum then.turns);
      }
  comes a b B y u calls z w kept (and_turn {d = d} {calls = later} answer did rest) =
      let then = comes a b B (turned answer) u later z w (turn_kept d u a b B answer kept did) rest in
      record {
        last = then.last;
        unrefused = then.unrefused;
        turns = (turn_at d u a b B answer kept did, then.turns);
      }

  held_tree : (a b : ℕ) (z : Held) (table : List N) → Phase a b z table → HeldTree v.meaning v.supply H h z table
  held_tree a b (Drafting d) table phase = tt
  held_tree a b (Running run) table phase = phase.1

  held_count : (a b : ℕ) (z : Held) (table : List N) → Phase a b z table → HoldsCount H h a b z
  held_count a b (Drafting d) table (tall, low, leaves, joins, carries) = (tall, low, ap₂ (λ i j. (i, j)) leaves joins)
  held_count a b (Running run) table phase = phase.0

  pub lawful : Wraps v.meter → (d : Draft) → d.shape.height ≡ H → d.shape.subtree ≡ h → d.hash.leaves ≡ 0 → d.hash.joins ≡ 0 → (calls : List Call) (z : Held) (w : World N) → History (Drafting d) v calls z w → Lawful H h v calls z w
  lawful wraps d tall low leaves joins calls z w history =
      let none : d.hash.newest ≡ 0 = omega (arith, d.standing.0.2) in
      let start : Kept 0 0 0 (Drafting d) v = record {
        phase = (tall, low, leaves, joins, λ y t x c. absurd (false≢true (sym (none_carried (layout (draft_plot H h)) t x) ∙ ap₂ (λ l p. carried (layout (draft_plot H h)) l p t x) (sym leaves) (sym none) ∙ c)));
        metered = sym (after_none v.meter wraps);
        meaning = refl;
        supply = refl;
        long = refl;
        past = λ y k far. refl;
        counted = λ there. omega arith;
      } in
      let all = comes 0 0 0 (Drafting d) v calls z w start history in
      let end : Kept (leaves_made calls) (joins_made calls) (budgets calls) z w =
      subst (λ k. Kept k (joins_made calls) (budgets calls) z w) (zero-add (leaves_made calls))
      (subst (λ k. Kept (0 + leaves_made calls) k (budgets calls) z w) (zero-add (joins_made calls))
      (subst (λ k. Kept (0 + leaves_made calls) (0 + joins_made calls) k z w) (zero-add (budgets calls)) all.last)) in
      record {
        unrefused = all.unrefused;
        makes = end.counted;
        turns = all.turns;
        metered = end.metered;
        meaning = end.meaning;
        supply = end.supply;
        long = end.long;
        past = end.past;
        held = held_count (leaves_made calls) (joins_made calls) z w.table end.phase;
        tree = held_tree (leaves_made calls) (joins_made calls) z w.table end.phase;
      }

pub lawful_from : {N : Type 0} (H h : ℕ) (v : World N) → Wraps v.meter → (r : Result Draft Refusal) → Begun H h (length v.table) v.supply r → LawfulFrom H h v r
lawful_from H h v wraps (Err r) begun = tt
lawful_from H h v wraps (Ok d) (checks, tall, low, made) =
    let (height, subtree, enough, tokens) = begin_passed H h (length v.table) v.supply.size checks in
    lawful H h v height subtree enough wraps d tall low (ap (λ (p : ℕ × ℕ). p.0) made) (ap (λ (p : ℕ × ℕ). p.1) made)

use Rattle.std.proofs.Common.{◌≡◌, ℕ, List, Bor, Bool, true, false, ◌+◌, ◌*◌, ◌-◌, ◌/◌, ◌<◌, ◌≤◌, min, ltb, length, take, drop, Some, None, Option, is_some, sym, ap, ◌∙◌, subst, arith, rules, length-drop}
use Rattle.std.proofs.lemmas.List.{take_rest, take_all, drop-drop}
use Rattle.std.proofs.lemmas.Bool.{cond-false, le-ltb}
use Rattle.std.proofs.lemmas.Option.{IfSome_then}
use Rattle.std.specs.List.{IsSubsliceAt}
use Rattle.std.specs.Option.{IfSome, IsSomeAnd, option_map}
use Rattle.std.specs.Slice.Iter.{chunks_exact_size, chunks_exact_rest, chunks_exact_steps}
use Rattle.std.specs.Iterator.Adapters.{take_steps}
use Rattle.std.specs.Iterator.Runs.{Run}
use Rattle.tree.specs.Meaning.{Meaning}
use Rattle.tree.specs.Path.{front_node}
use Rattle.strip.specs.Format.{fault}
use Rattle.strip.specs.declared.refusal.Section.TheVariants.{Path}
use Rattle.strip.proofs.Rules.{node_at, Begins, stops, ends_whole, ends_other}
use Rattle.strip.proofs.parse.only_nodes.Given.{Over}
use Rattle.strip.proofs.parse.only_nodes.Goals.{After-take}
use Rattle.strip.proofs.parse.only_nodes.Goals as goal

-- an item that is there
there : {A : Type 0} (P : A → Type 0) (o : Option A) (y : A) → option_map (λ x. x) o ≡ Some y → IfSome o P → IsSomeAnd o P
there P None y e p = cc
there P (Some x) y e p = p

module _ {N : Type 0} (m : Meaning N) (bs : List ℕ) where
  -- the chunk at place k of the path
  abbrev IsChunk : ℕ → Bor (List ℕ) → Type 0
  IsChunk k x = (41 + k * m.width + m.width ≤ length bs) × (node_at bs m (41 + k * m.width) ≡ is_some (front_node m x.now))

  chunk : 41 ≤ length bs → (w : ℕ) (path : List ℕ) → w ≡ m.width → path ≡ drop 41 bs → (k : ℕ) (x : Bor (List ℕ)) → (length x.now ≡ w) × (k * w + w ≤ length path) × IsSubsliceAt w path (k * w) x.now → IsChunk k x
  chunk long w path is_width is_path k x part =
      let size = ap length is_path ∙ length-drop 41 bs in
      let ends : k * m.width + m.width ≤ length path = subst (λ z. k * z + z ≤ length path) is_width part.1 in
      let wide = part.0 ∙ is_width in
      let here = part.2.0 ∙ (λ i. take (is_width i) (drop (k * is_width i) (is_path i))) ∙ ap (take m.width) (drop-drop (k * m.width) 41 bs) in
      let reads = cond-false (ltb (length x.now) m.width) None (m.read (take m.width x.now)) (le-ltb _ _ (omega arith)) ∙ ap m.read (take_all m.width x.now (omega arith) ∙ here) in
      (omega arith, sym (ap is_some reads))

  -- what a call at a chunk says of the node there
  node_is : (b : Bool) (P : Bor (List ℕ) → Type 0) → ((x : Bor (List ℕ)) → P x → is_some (front_node m x.now) ≡ b) → (k : ℕ) (o : Option (Bor (List ℕ))) → IfSome o (IsChunk k) → IsSomeAnd o P → (41 + k * m.width + m.width ≤ length bs) × (node_at bs m (41 + k * m.width) ≡ b)
  node_is b P says k None here called = absurd called
  node_is b P says k (Some x) here called = (here.0, here.1 ∙ says x called)

  -- A walk over the first H chunks of the path: `at k` is the one that came at place k.
  record Walk (H : ℕ) (at : ℕ → Option (Bor (List ℕ))) (len : ℕ) (whole : Bool) : Type 0 where
    upto : len ≤ H
    within : 41 + len * m.width ≤ length bs
    chunks : (k : ℕ) → IfSome (at k) (IsChunk k)
    over : whole ≡ true → len < H → length bs < 41 + len * m.width + m.width

  begins : {H len : ℕ} {at : ℕ → Option (Bor (List ℕ))} {whole : Bool} → Walk H at len whole → (P : Bor (List ℕ) → Type 0) → ((x : Bor (List ℕ)) → P x → is_some (front_node m x.now) ≡ true) → (i : ℕ) → i ≤ H → 41 + i * m.width ≤ length bs → ((k : ℕ) → k < i → IsSomeAnd (at k) P) → Begins bs m H i
  begins {at = at} went P says i upto within came = record { upto = upto; within = within; nodes = λ k lt. (node_is true P says k (at k) (went.chunks k) (came k lt)).1 }

module _ (g : Over) (c : After-take g) (u : Run (take_steps (chunks_exact_steps {A = ℕ}))) (from : u.from ≡ c.take.result) where
  walk : Walk (g.M.Maker.meaning c.args.maker.now) c.args.bytes.now c.args.height u.at u.len u.whole
  walk =
      let bs : List ℕ = c.args.bytes.now in
      let m = g.M.Maker.meaning c.args.maker.now in
      let least = (g.met.M.Maker.lawful c.args.maker.now).at_least in
      let taken = c.take.ensures.runs u u.seen from in
      let q = taken.1.0 in
      let path : List ℕ = chunks_exact_rest q.from in
      let is_width = ap chunks_exact_size taken.1.1 ∙ c.chunks_exact.ensures.size ∙ c.width-width.ensures in
      let is_path = ap chunks_exact_rest taken.1.1 ∙ c.chunks_exact.ensures.rest ∙ take_rest bs 41 in
      let cut = c.chunks_exact.ensures.runs q q.seen (omega (arith, is_width, least)) in
      let size : length path ≡ length bs - 41 = ap length is_path ∙ length-drop 41 bs in
      let same = taken.1.2.0 in
      record {
        upto = taken.0;
        within =
            let ends : u.len * m.width ≤ length path = subst (λ k. k * m.width ≤ length path) same.0 (subst (λ z. q.len * z ≤ length path) is_width cut.0) in
            omega arith;
        chunks = λ k. subst (λ o. IfSome o (IsChunk m bs k)) (same.2 k) (IfSome_then (q.at k) (cut.2 k) (chunk m bs c.requires _ path is_width is_path k));
        over = λ whole lt.
            let count : u.len ≡ length path / m.width = sym same.0 ∙ cut.1 (taken.1.2.1 whole lt) ∙ ap (λ z. length path / z) is_width in
            let row = ap (λ k. m.width * k) count in
            omega arith;
      }

pub returns-in-Some : goal.returns-in-Some
returns-in-Some g c =
    let bs : List ℕ = c.args.bytes.now in
    let m = g.M.Maker.meaning c.args.maker.now in
    let found = c.in-Some.ensures.runs in
    let went = walk g (goal.at.returns-in-Some g c).After-take found.0 found.1 in
    let first = found.2.1 (λ a r f called. search rules) in
    let last = node_is m bs false _ (λ x called. search rules) c.in-Some.i _ (went.chunks c.in-Some.i) first.0 in
    let ends = last.0 in
    stops bs m c.args.height (begins m bs went _ (λ x called. search rules) c.in-Some.i (omega arith) (omega arith) first.1) (omega arith) ends last.1
    ∙ ap (λ w. Some (fault (41 + c.in-Some.i * w) Path)) (sym c.width-width.ensures)
    ∙ ap Some (sym c.at.ensures)

pub returns-then-bytes-end : goal.returns-then-bytes-end
returns-then-bytes-end g c =
    let bs : List ℕ = c.args.bytes.now in
    let m = g.M.Maker.meaning c.args.maker.now in
    let found = c.in_default.ensures.runs in
    let went = walk g (goal.at.returns-then-bytes-end g c).After-take found.0 found.1 in
    let all = found.2.1 (λ a r f called. search rules) in
    let came = begins m bs went _ (λ x called. search rules) found.0.len went.upto went.within (λ k lt. there _ (found.0.at k) _ (found.0.reads k c.args.bytes lt) (all k)) in
    ends_whole bs m c.args.height came (went.over found.2.0) (omega arith)

pub returns-else-bytes-end : goal.returns-else-bytes-end
returns-else-bytes-end g c =
    let bs : List ℕ = c.args.bytes.now in
    let m = g.M.Maker.meaning c.args.maker.now in
    let found = c.in_default.ensures.runs in
    let went = walk g (goal.at.returns-else-bytes-end g c).After-take found.0 found.1 in
    let all = found.2.1 (λ a r f called. search rules) in
    let came = begins m bs went _ (λ x called. search rules) found.0.len went.upto went.within (λ k lt. there _ (found.0.at k) _ (found.0.reads k c.args.bytes lt) (all k)) in
    let end = c.strip_length-end.ensures in
    ends_other bs m c.args.height came (went.over found.2.0) (omega arith)
    ∙ ap (λ p. Some (fault p Path)) (ap (λ e. min e (length bs)) (sym end) ∙ sym c.min.ensures)
    ∙ ap Some (sym c.at-else-bytes-end.ensures)

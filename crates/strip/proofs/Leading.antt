-- Where a faultless strip leads.
use Rattle.std.proofs.Common.{◌≡◌, ℕ, ◌+◌, ◌*◌, ◌/◌, ◌^◌, ◌<◌, Bool, true, eqb, List, length, get_or, is_some, Some, None, Ok, Err, Result, sym, ap, ◌∙◌, ap₂, mul_comm, arith, length-drop}
use Rattle.std.proofs.lemmas.Nat.{div-mul-add}
use Rattle.std.proofs.lemmas.Bool.{cond-true, eq-eqb, ne_eqb, lt-ltb}
use Rattle.std.proofs.lemmas.Bool.Decides.{when_true, when_false}
use Rattle.tree.specs.Meaning.{Meaning, Lawful, Meter}
use Rattle.tree.specs.Numbers.{legal_height}
use Rattle.tree.specs.Tree.{root_of, path_of}
use Rattle.tree.specs.Path.{leads_to, nodes_of, path_nodes, folded}
use Rattle.tree.proofs.Climbing.{path_leads_to_root, length_siblings}
use Rattle.tree.specs.Digests.{sealed_meaning}
use Rattle.tree.specs.Spans.{dummy_meaning}
use Rattle.tree.specs.Sealing.{sealed_lawful}
use Rattle.tree.specs.Spanning.{dummy_lawful}
use Rattle.strip.specs.declared.refusal.Refusal.{Refusal}
use Rattle.strip.specs.Format.{strip_bytes, height_in, path_in, fault_in}
use Rattle.strip.specs.Refusals.{or_else, short}
use Rattle.strip.specs.declared.parse.Strip.{Strip}
use Rattle.strip.specs.Sections.{Parsed}
use Rattle.strip.specs.Parts.{OnlyNodes, strip_leads}
use Rattle.strip.specs.Calls.{nodes_in, leads, Holds, Checks, AcceptsFullTree, Judges, AcceptsRoot, JudgesByKind}
use Rattle.strip.proofs.Faultless.{Faultless, faultless}
use Rattle.strip.proofs.Written.{holds, kind_at}

-- a path of nodes alone folds
pub nodes_fold : {N : Type 0} (m : Meaning N) (s : Strip) → OnlyNodes m s → (n : ℕ) (x : N) → is_some (folded m n x s.path.now) ≡ true
nodes_fold m s only n x =
    let whole : m.width * length (path_nodes m s.path.now) ≡ length s.path.now = ap (λ k. m.width * k) only.count ∙ mul_comm m.width s.height ∙ sym only.size in
    ap is_some (cond-true (eqb (m.width * length (path_nodes m s.path.now)) (length s.path.now)) (Some (leads_to m.join n x (path_nodes m s.path.now))) None (eq-eqb _ _ whole))

module _ {N : Type 0} (m : Meaning N) (lawful : Lawful m) (bs : List ℕ) where
  -- the path's bytes are nodes from end to end
  pub path_chunks : Faultless m bs → length (path_in bs) / m.width ≡ height_in bs
  path_chunks ok =
      let size = ok.size in
      let long : length (path_in bs) ≡ height_in bs * m.width + 0 = simp length-drop (omega arith) in
      ap (λ k. k / m.width) long ∙ div-mul-add (height_in bs) m.width 0 lawful.at_least

  pub path_nodes_in : Faultless m bs → path_nodes m (path_in bs) ≡ nodes_in m bs
  path_nodes_in ok = ap (λ k. nodes_of m k (path_in bs)) (path_chunks ok)

  -- a strip that was taken apart
  module _ (s : Strip) (parsed : Parsed m bs (Ok s)) where
    nodes_here : path_nodes m s.path.now ≡ nodes_in m bs
    nodes_here = ap (path_nodes m) parsed.4 ∙ path_nodes_in (faultless m bs parsed.0)

    pub parsed_nodes : OnlyNodes m s
    parsed_nodes =
        let ok = faultless m bs parsed.0 in
        let size = ok.size in
        record {
          size = ap length parsed.4 ∙ simp length-drop (omega arith) ∙ ap (λ k. k * m.width) (sym parsed.1);
          count = ap length nodes_here ∙ ok.nodes ∙ sym parsed.1;
        }

    pub parsed_leads : strip_leads m s ≡ leads m bs
    parsed_leads = λ i. leads_to m.join (parsed.2 i) (m.leaf (parsed.2 i) (parsed.3 i)) (nodes_here i)

  -- the strips of the full tree
  module _ (tokens : ℕ → List ℕ) (H n : ℕ) (legal : legal_height H ≡ true) (below : n < 2 ^ H) (long : length (tokens n) ≡ 32) (is-strip : bs ≡ strip_bytes m H n (tokens n) (path_of m tokens H n)) where
    whole : Holds m (strip_bytes m H n (tokens n) (path_of m tokens H n)) H n (tokens n) (path_of m tokens H n)
    whole = holds m lawful H n (tokens n) (path_of m tokens H n) long (length_siblings m tokens n 0 H) legal (lt-ltb n (2 ^ H) below)

    pub full_faultless : fault_in m bs ≡ None
    full_faultless = ap (fault_in m) is-strip ∙ whole.faultless

    pub full_leads : leads m bs ≡ root_of m tokens H
    full_leads =
        let h = whole in
        ap (leads m) is-strip ∙ (λ i. leads_to m.join (h.number i) (m.leaf (h.number i) (h.token i)) (h.path i)) ∙ path_leads_to_root m tokens H n below

    pub full_kind : get_or bs 1 0 ≡ m.kind
    full_kind = ap (λ l. get_or l 1 0) is-strip ∙ kind_at m lawful H n (tokens n) (path_of m tokens H n) long (length_siblings m tokens n 0 H)

  -- a check that says what it should accepts the strips of the full tree
  pub accepts : (top : N) (before later : Meter) (r : Result Bool Refusal) → Checks m bs top before later r → AcceptsFullTree m bs top r
  accepts top before later (Ok verdict) checked tokens H n legal below long is-strip is-root =
      ap Ok (checked.1.1 (full_leads tokens H n legal below long is-strip ∙ sym is-root))
  accepts top before later (Err r) checked tokens H n legal below long is-strip is-root =
      let none = sym (ap (λ o. or_else o None) (full_faultless tokens H n legal below long is-strip)) ∙ checked.0 in
      absurd (cc)

  -- and so does a verdict against the bytes of the root
  pub accepts_root : (top : List ℕ) (r : Result Bool Refusal) → Judges m top bs r → AcceptsRoot m top bs r
  accepts_root top (Ok verdict) judged tokens H n legal below long is-strip is-root =
      let found = ap m.read is-root ∙ lawful.reads_back (root_of m tokens H) ∙ ap Some (sym (full_leads tokens H n legal below long is-strip)) in
      ap Ok (judged.2.1 found)
  accepts_root top (Err r) judged tokens H n legal below long is-strip is-root =
      let size = ap length is-root ∙ lawful.fills (root_of m tokens H) in
      let fits = cond-true (eqb (length top) m.width) None (Some (short m.width)) (eq-eqb _ _ size) in
      let none = sym (ap₂ or_else (full_faultless tokens H n legal below long is-strip) fits) ∙ judged in
      absurd (cc)

-- By the kind byte: the strips of either maker's full trees.
pub accepts_sealed : (top bs : List ℕ) (r : Result Bool Refusal) → JudgesByKind top bs r → AcceptsRoot sealed_meaning top bs r
accepts_sealed top bs r judged tokens H n legal below long is-strip is-root =
    let kind = full_kind sealed_meaning sealed_lawful bs tokens H n legal below long is-strip in
    let other = when_false (Judges dummy_meaning top bs r) (Judges sealed_meaning top bs r) (ne_eqb (get_or bs 1 0) 2 (λ e. omega arith)) judged in
    accepts_root sealed_meaning sealed_lawful bs top r other tokens H n legal below long is-strip is-root

pub accepts_dummy : (top bs : List ℕ) (r : Result Bool Refusal) → JudgesByKind top bs r → AcceptsRoot dummy_meaning top bs r
accepts_dummy top bs r judged tokens H n legal below long is-strip is-root =
    let kind = full_kind dummy_meaning dummy_lawful bs tokens H n legal below long is-strip in
    let this = when_true (Judges dummy_meaning top bs r) (Judges sealed_meaning top bs r) (eq-eqb (get_or bs 1 0) 2 kind) judged in
    accepts_root dummy_meaning dummy_lawful bs top r this tokens H n legal below long is-strip is-root

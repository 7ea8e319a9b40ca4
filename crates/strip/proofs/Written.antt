-- The bytes of a strip have no fault and hold what was written.
use Rattle.std.proofs.Common.{◌≡◌, ℕ, ◌*◌, ◌^◌, ◌<◌, ◌≤◌, true, ltb, List, [], ◌∷◌, ◌++◌, length, get_or, take, drop, None, Ok, sym, refl, ap, ◌∙◌, subst, ap₂, arith, length-append, pow_mono}
use Rattle.std.proofs.lemmas.List.{take_at, drop_at, get_or_at, append-nil, append_assoc, drop-drop, length-take-le}
use Rattle.std.proofs.lemmas.Bool.{and_parts, leb-true, le-leb, ltb-true, eq-eqb}
use Rattle.tree.specs.Meaning.{Meaning, Lawful}
use Rattle.tree.specs.Numbers.{number_bytes, legal_height}
use Rattle.tree.specs.Path.{path_bytes, nodes_of}
use Rattle.tree.proofs.Nodes.{length_path_bytes, nodes_of_path_bytes}
use Rattle.tree.specs.Numbering.{number_at_bytes}
use Rattle.strip.specs.Format.{strip_bytes, height_in, number_in, token_in, first_broken, head_rules, token_rules, count_rules, node_rules}
use Rattle.strip.specs.Calls.{strip_length, Holds, write_refusal, Appends, Writes}
use Rattle.strip.proofs.Appending.{appends_then, appends_all}
use Rattle.strip.proofs.Rules.{fault_is}
use Rattle.strip.proofs.Faultless.{no_fault, nodes_faultless}

module _ {N : Type 0} (m : Meaning N) (ok : Lawful m) (H n : ℕ) (secret : List ℕ) (siblings : List N) (long : length secret ≡ 32) (many : length siblings ≡ H) where
  pub length_strip : length (strip_bytes m H n secret siblings) ≡ strip_length m H
  unfolding strip_bytes
  length_strip =
      let back = length-append secret (H ∷ path_bytes m siblings) in
      let path = length_path_bytes m ok siblings ∙ ap (λ k. k * m.width) many in
      omega arith

  -- from byte 8 on: the token, the path's count, the path
  count_at : get_or (strip_bytes m H n secret siblings) 40 0 ≡ H
  unfolding strip_bytes
  count_at = get_or_at secret H (path_bytes m siblings) 0 32 long

  path_at : drop 41 (strip_bytes m H n secret siblings) ≡ path_bytes m siblings
  unfolding strip_bytes
  path_at = sym (drop-drop 1 32 (secret ++ H ∷ path_bytes m siblings)) ∙ ap (drop 1) (drop_at secret (H ∷ path_bytes m siblings) 32 long)

  token_at : token_in (strip_bytes m H n secret siblings) ≡ secret
  unfolding strip_bytes
  token_at = take_at secret (H ∷ path_bytes m siblings) 32 long

  number_is : n < 2 ^ 32 → number_in (strip_bytes m H n secret siblings) ≡ n
  unfolding strip_bytes
  number_is small = number_at_bytes n (32 ∷ secret ++ H ∷ path_bytes m siblings) small

  height_at : height_in (strip_bytes m H n secret siblings) ≡ H
  unfolding strip_bytes
  height_at = refl

  pub kind_at : get_or (strip_bytes m H n secret siblings) 1 0 ≡ m.kind
  unfolding strip_bytes
  kind_at = refl

  head_kept : legal_height H ≡ true → ltb n (2 ^ H) ≡ true → n < 2 ^ 32 → first_broken (strip_bytes m H n secret siblings) (head_rules m.kind (strip_bytes m H n secret siblings)) ≡ None
  unfolding strip_bytes
  head_kept legal below small =
      let size = length_strip in
      no_fault (strip_bytes m H n secret siblings) (head_rules m.kind (strip_bytes m H n secret siblings)) (
        omega arith,
        refl,
        (
          omega arith,
          eq-eqb m.kind m.kind refl,
          (
            omega arith,
            legal,
            (omega arith, ap (λ k. ltb k (2 ^ H)) (number_is small) ∙ below, tt),
          ),
        ),
      )

  token_kept : first_broken (strip_bytes m H n secret siblings) (token_rules (strip_bytes m H n secret siblings)) ≡ None
  unfolding strip_bytes
  token_kept =
      let size = length_strip in
      no_fault (strip_bytes m H n secret siblings) (token_rules (strip_bytes m H n secret siblings)) (omega arith, refl, (omega arith, refl, tt))

  count_kept : first_broken (strip_bytes m H n secret siblings) (count_rules (strip_bytes m H n secret siblings)) ≡ None
  count_kept =
      let size = length_strip in
      no_fault (strip_bytes m H n secret siblings) (count_rules (strip_bytes m H n secret siblings)) (omega arith, eq-eqb _ _ (count_at ∙ sym height_at), tt)

  nodes_kept : first_broken (strip_bytes m H n secret siblings) (node_rules m (strip_bytes m H n secret siblings) 41 H) ≡ None
  nodes_kept =
      let size = length_strip in
      ap (λ k. first_broken (strip_bytes m H n secret siblings) (node_rules m (strip_bytes m H n secret siblings) 41 k)) (sym many)
      ∙ nodes_faultless (strip_bytes m H n secret siblings) m ok siblings 41 (omega arith) path_at

  pub holds : legal_height H ≡ true → ltb n (2 ^ H) ≡ true → Holds m (strip_bytes m H n secret siblings) H n secret siblings
  holds legal below =
      let low = and_parts _ _ legal in
      let room = pow_mono (leb-true H 20 low.1) in
      let under = ltb-true n (2 ^ H) below in
      let small : n < 2 ^ 32 = omega arith in
      record {
        faultless = fault_is m (strip_bytes m H n secret siblings) m.kind H None None None None refl (sym height_at) (head_kept legal below small) token_kept count_kept nodes_kept;
        height = height_at;
        number = number_is small;
        token = token_at;
        path = ap₂ (nodes_of m) (height_at ∙ sym many) (path_at ∙ sym (append-nil (path_bytes m siblings))) ∙ nodes_of_path_bytes m ok siblings [];
      }

-- the parts of a strip, put one after another
pub strip_row : {N : Type 0} (m : Meaning N) (H n k : ℕ) (num secret : List ℕ) (siblings : List N) {out a b c d e f : List ℕ} {p q r s t u : ℕ} →
    k ≡ m.kind → num ≡ number_bytes n →
    Appends out 0 (6 ∷ k ∷ H ∷ []) a p → Appends a p num b q → Appends b q (32 ∷ []) c r → Appends c r secret d s → Appends d s (H ∷ []) e t → Appends e t (path_bytes m siblings) f u →
    Appends out 0 (strip_bytes m H n secret siblings) f u
unfolding strip_bytes
strip_row m H n k num secret siblings {out} {f = f} {u = u} is-kind is_number one two three four five six =
    let all = appends_then (appends_then (appends_then (appends_then (appends_then one two) three) four) five) six in
    let same = (λ i. 6 ∷ is-kind i ∷ H ∷ ((((is_number i ++ 32 ∷ []) ++ secret) ++ H ∷ []) ++ path_bytes m siblings))
    ∙ ap (λ l. 6 ∷ m.kind ∷ H ∷ (number_bytes n ++ 32 ∷ l)) (append_assoc secret (H ∷ []) (path_bytes m siblings)) in
    subst (λ l. Appends out 0 l f u) same all

-- what writing leaves, once the checks have passed and the bytes are there
pub written : {N : Type 0} (m : Meaning N) → Lawful m → (H n : ℕ) (siblings : List N) (secret before later : List ℕ) (end : ℕ) →
    legal_height H ≡ true → ltb n (2 ^ H) ≡ true → H ≤ length siblings → 32 ≤ length secret → strip_length m H ≤ length before →
    Appends before 0 (strip_bytes m H n (take 32 secret) (take H siblings)) later end →
    Writes m H n siblings secret before later (Ok (strip_length m H))
written m ok H n siblings secret before later end legal below path token strip all =
    let many = length-take-le H siblings path in
    let long = length-take-le 32 secret token in
    let size = length_strip m ok H n (take 32 secret) (take H siblings) long many in
    let last = all.end_is in
    let at : end ≡ strip_length m H = omega arith in
    let now-is = appends_all all ∙ ap (λ k. strip_bytes m H n (take 32 secret) (take H siblings) ++ drop k before) at in
    let front = sym (ap (λ k. take k later) (sym at) ∙ all.front) in
    let whole = holds m ok H n (take 32 secret) (take H siblings) long many legal below in
    let none : write_refusal m H n (length siblings) (length secret) (length before) ≡ None =
    simp (legal, below, le-leb H (length siblings) path, le-leb 32 (length secret) token, le-leb (strip_length m H) (length before) strip) refl in
    (none, refl, now-is, subst (λ bs. Holds m bs H n (take 32 secret) (take H siblings)) front whole)

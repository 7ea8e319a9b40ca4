-- Bytes put one after another.
use Rattle.std.proofs.Common.{◌≡◌, ℕ, ◌+◌, ◌-◌, ◌<◌, ◌≤◌, List, [], ◌∷◌, ◌++◌, length, get_or, take, drop, Ok, Err, Result, sym, ap, ◌∙◌, ap₂, arith, length-append, length-take, length-drop}
use borrow.Rule.Slice.PartMut.{put_mid}
use Rattle.std.proofs.lemmas.List.{append-nil, append_assoc, drop-drop, drop_all, take-append-drop, length-take-le, take_more, flat_map_more}
use Rattle.std.proofs.lemmas.Slice.{take-put_mid, drop-put_mid}
use Rattle.tree.specs.declared.fault.TooShort.{TooShort}
use Rattle.tree.specs.Meaning.{Meaning, Puts}
use Rattle.tree.specs.Path.{path_bytes}
use Rattle.strip.specs.Calls.{Appends}

pub appends_then : {a b c : List ℕ} {at mid end : ℕ} {xs ys : List ℕ} → Appends a at xs b mid → Appends b mid ys c end → Appends a at (xs ++ ys) c end
appends_then {a} {b} {c} {at} {mid} {end} {xs} {ys} one two =
    let more = two.end_is in
    let past = λ (l : List ℕ). ap (λ k. drop k l) more ∙ sym (drop-drop (length ys) mid l) in
    record {
      end_is = let first = one.end_is in let all = length-append xs ys in omega arith;
      front = two.front ∙ ap (λ l. l ++ ys) one.front ∙ append_assoc (take at a) xs ys;
      back = two.back ∙ past b ∙ ap (drop (length ys)) one.back ∙ sym (past a);
    }

-- all that was put from the front on
pub appends_all : {before bytes later : List ℕ} {end : ℕ} → Appends before 0 bytes later end → later ≡ bytes ++ drop end before
appends_all {before} {bytes} {later} {end} all = sym (take-append-drop end later) ∙ ap₂ ◌++◌ all.front all.back

-- a part that is overwritten whole
pub appends_part : (before part bytes : List ℕ) (at k end : ℕ) → end ≡ at + k → at + k ≤ length before → part ≡ bytes → length bytes ≡ k → Appends before at bytes (put_mid at (end - at) before part) end
appends_part before part bytes at k end is-end room same size =
    let long = ap length same in
    record {
      end_is = omega arith;
      front = take-put_mid at (end - at) before part end (omega arith) (omega arith) ∙ ap (λ l. take at before ++ l) same;
      back = drop-put_mid at (end - at) before part end (omega arith) (omega arith) (omega arith);
    }

-- a node put into a slice that it fills
pub puts_whole : {N : Type 0} (m : Meaning N) (x : N) (before later : List ℕ) (r : Result Unit TooShort) → Puts m x before later r → length before ≡ m.width → later ≡ m.put x
puts_whole m x before later (Ok u) put size = put.1 ∙ ap (λ l. m.put x ++ l) (drop_all m.width before (omega arith)) ∙ append-nil (m.put x)
puts_whole m x before later (Err e) put size = absurd (let short = put.0 in omega arith)

-- one node more of a path
pub path_bytes_more : {N : Type 0} (m : Meaning N) (nodes : List N) (i : ℕ) (x : N) → i < length nodes → x ≡ get_or nodes i x → path_bytes m (take i nodes) ++ m.put x ≡ path_bytes m (take (i + 1) nodes)
path_bytes_more m nodes i x lt is =
    flat_map_more m.put [] (take i nodes) x
    ∙ ap (λ y. path_bytes m (take i nodes ++ y ∷ [])) is
    ∙ ap (path_bytes m) (sym (take_more nodes i x lt))

-- what is appended inside a slice leaves its length
pub appends_length : {before bytes later : List ℕ} {at end : ℕ} → Appends before at bytes later end → end ≤ length before → length later ≡ length before
appends_length {before} {bytes} {later} {at} {end} put room =
    let last = put.end_is in
    let front = sym (length-take end later) ∙ ap length put.front ∙ length-append (take at before) bytes ∙ ap (λ k. k + length bytes) (length-take-le at before (omega arith)) in
    let back = sym (length-drop end later) ∙ ap length put.back ∙ length-drop end before in
    omega arith

-- Nothing refuses the draft that is measured.
use Rattle.std.proofs.Common.{◌≡◌, ℕ, ◌^◌, ◌<◌, ◌≤◌, ltb, leb, List, None, Ok, Option, ap, ◌∙◌, arith}
use Rattle.std.proofs.lemmas.Bool.{cond-true, le-leb, lt-ltb}
use Rattle.tree.specs.Refusals.{first_refusal}
use Rattle.tree.specs.Seeds.{seed_supply}
use Rattle.tree.specs.Supply.{presence}
use Rattle.traversal.specs.declared.refusal.Refusal.{Refusal}
use Rattle.traversal.specs.Calls.{begin_checks}
use Rattle.session.specs.Root.{or_else, first_lack, root_refusal}
use Rattle.session.proofs.Rooting.{lack_none}
use Rattle.tree.specs.declared.digest.Digest.{Digest}
use Rattle.tree.specs.Digests.{sealed_meaning}
use Rattle.tree.specs.Tree.{root_of}
use Rattle.traversal.specs.Worlds.{tokens}
use Rattle.draft_bench.specs.Roots.{seed_root}

-- a seed has all tokens below 2^20
present : (seed : List ℕ) (n : ℕ) → n < 2 ^ 20 → presence (seed_supply seed) n ≡ Ok tt
present seed n less = cond-true (ltb n (2 ^ 20)) _ _ (lt-ltb n (2 ^ 20) less)

pub unrefused : (seed : List ℕ) (cells : ℕ) → 225 ≤ cells → root_refusal 16 4 cells (seed_supply seed) ≡ None
unrefused seed cells enough =
    let begun : first_refusal (begin_checks 16 4 cells (2 ^ 20)) ≡ None = cond-true (leb 225 cells) None _ (le-leb 225 cells enough) in
    ap (λ (o : Option Refusal). or_else o (first_lack (seed_supply seed) (2 ^ 16))) begun
    ∙ lack_none (seed_supply seed) (2 ^ 16) (λ k less. present seed k (omega arith))

pub is_root : (seed other : List ℕ) (x : Digest) → x ≡ root_of sealed_meaning (tokens (seed_supply seed)) 16 → seed ≡ other → x ≡ seed_root other
unfolding seed_root
is_root seed other x root same = root ∙ ap (λ s. root_of sealed_meaning (tokens (seed_supply s)) 16) same

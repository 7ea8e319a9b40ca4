-- What the checks of begin say.
use Rattle.std.proofs.Common.{◌≡◌, ℕ, ◌^◌, ◌≤◌, leb, Bool, true, List, [], ◌∷◌, Some, None, sym, ◌∙◌, ⊎_elim, arith}
use Rattle.std.proofs.lemmas.Bool.{cases_Bool, cond-true, cond-false, leb-true}
use Rattle.tree.specs.Numbers.{legal_height}
use Rattle.tree.specs.Geometry.{legal_subtree, table_size}
use Rattle.tree.specs.Refusals.{first_refusal}
use Rattle.tree.specs.declared.refusal.Refusal.TheVariants.{Height, Subtree}
use Rattle.traversal.specs.declared.refusal.Refusal.TheVariants.{Heights, Table, Source}
use Rattle.traversal.specs.Calls.{begin_checks}

-- a check that passed, and the others after it
pub passed : {R : Type 0} (b : Bool) (r : R) (rest : List (Bool × R)) → first_refusal ((b, r) ∷ rest) ≡ None → (b ≡ true) × (first_refusal rest ≡ None)
passed b r rest e =
    ⊎_elim
    (λ good. (good, sym (cond-true b (first_refusal rest) (Some r) good) ∙ e))
    (λ bad. let z : Some r ≡ None = sym (cond-false b (first_refusal rest) (Some r) bad) ∙ e in let no_way : ◌≡◌ {A = ℕ} 0 1 = cc in absurd (omega arith))
    (cases_Bool b)

pub begin_passed : (H h cells size : ℕ) → first_refusal (begin_checks H h cells size) ≡ None → (legal_height H ≡ true) × (legal_subtree H h ≡ true) × (table_size H h ≤ cells) × (2 ^ H ≤ size)
begin_passed H h cells size none =
    let n = table_size H h in
    let (height, one) = passed (legal_height H) (Heights (Height H)) ((legal_subtree H h, Heights (Subtree h)) ∷ (leb n cells, Table n) ∷ (leb (2 ^ H) size, Source size) ∷ []) none in
    let (subtree, two) = passed (legal_subtree H h) (Heights (Subtree h)) ((leb n cells, Table n) ∷ (leb (2 ^ H) size, Source size) ∷ []) one in
    let (room, three) = passed (leb n cells) (Table n) ((leb (2 ^ H) size, Source size) ∷ []) two in
    let (tokens, four) = passed (leb (2 ^ H) size) (Source size) [] three in
    (height, subtree, leb-true _ _ room, leb-true _ _ tokens)

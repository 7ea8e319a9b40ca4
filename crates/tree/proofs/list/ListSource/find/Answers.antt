use Rattle.std.proofs.Common.{◌≡◌, ℕ, ◌<◌, ◌≤◌, ◌+◌, ◌*◌, ◌/◌, get_or, length, take, drop, List, [], ap, ◌∙◌, rules, arith}
use Rattle.hashing.proofs.Chunks.{chunk_at}
use Rattle.tree.proofs.Listing.{entry_length, entry_there, entry_torn}
use Rattle.tree.proofs.list.ListSource.find.Goals as goal
use Rattle.tree.proofs.list.ListSource.find.Goals.{in_default-via-then-entry-lt1, in_default-via-else-entry-lt1+in_default-1}

pub returns-in-1 : goal.returns-in-1
returns-in-1 c =
    let bs = c.args.self.now.bytes.now in
    let n = c.args.number in
    let marked : get_or (get_or c.as_chunks.result.0.now n []) 0 0 ≡ 1 = search rules in
    let inside : 33 * n + 33 ≤ length bs = omega arith in
    let is = ap (λ (es : List (List ℕ)). get_or es n []) c.as_chunks.ensures.front ∙ chunk_at 33 (length bs / 33) n bs (omega arith) in
    entry_there bs _ n inside is (omega arith) marked

pub returns-in_default : goal.returns-in_default
returns-in_default c =
    let bs = c.args.self.now.bytes.now in
    let n = c.args.number in
    let entry : List ℕ = get_or c.as_chunks.result.0.now n [] in
    let inside : 33 * n + 33 ≤ length bs = omega arith in
    let is : entry ≡ take 33 (drop (33 * n) bs) = ap (λ (es : List (List ℕ)). get_or es n []) c.as_chunks.ensures.front ∙ chunk_at 33 (length bs / 33) n bs (omega arith) in
    elim c.in_default.branch [ in_default-via-then-entry-lt1 w ↦ let short : length entry < 1 = search rules in let long = entry_length bs entry n inside is in absurd (omega arith) | in_default-via-else-entry-lt1+in_default-1 w ↦ entry_torn bs entry n inside is (omega arith) (search rules) ]

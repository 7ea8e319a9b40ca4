use Rattle.std.proofs.Common.{rules, ℕ, ◌≤◌, List, length, Some, None, refl, arith}
use Rattle.std.proofs.lemmas.Bool.Decides.{Decides-eqb}
use Rattle.std.proofs.lemmas.Slice.Eq.{strip_prefix_is}
use Rattle.ticket.proofs.Words.{literal_fails}
use Rattle.ticket.proofs.reader.Reader.literal.Goals as goal

pub returns-in-Some : goal.returns-in-Some
returns-in-Some c = strip_prefix_is Decides-eqb _ _ (Some c.in-Some.rest) c.in-Some.ensures.cases

pub returns : goal.returns
returns c =
    let xs : List ℕ = c.args.self.now.left.now in
    let word : List ℕ = c.args.word.now in
    let n : ℕ = c.count-agreed.result in
    let within : n ≤ length xs = search rules in
    ((n, omega arith, literal_fails word xs n (search rules) within (search rules) (search rules) (strip_prefix_is Decides-eqb xs word None c.in_default.ensures.cases)), refl)

use Rattle.std.proofs.Common.{ℕ, List, subst}
use Rattle.strip.proofs.Returning.{err_is}
use Rattle.ticket.specs.Pieces.{WrongWord}
use Rattle.ticket.proofs.Names.{kind_fails}
use Rattle.ticket.proofs.reader.Reader.kind.Goals as goal

pub returns-in_err-literal : goal.returns-in_err-literal
returns-in_err-literal c =
    let xs : List ℕ = c.args.self.now.left.now in
    let fails = c.in_err-literal.ensures.0 in
    let wrong = subst (λ l. WrongWord {A = Unit {0}} (λ _. Unit {0}) (λ _. l) xs fails.0) c.kind_line.ensures fails.2 in
    rw (err_is c.from_residual.ensures.1) (fails.0, fails.1, kind_fails c.in-Some.kind xs fails.0 c.in-len1-up.len_at_least c.in-Some.ensures wrong)

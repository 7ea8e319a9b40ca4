use Rattle.std.proofs.Common.{◌∙◌, arith}
use Rattle.std.proofs.lemmas.List.{take_all}
use Rattle.ticket.proofs.ticket.reseed.Goals as goal

pub returns : goal.returns
returns c =
    let whole = take_all 32 c.fields.new.seed (omega arith) in
    let taken = rw c.unwrap.ensures at c.reseed.ensures in
    rw (taken.1 ∙ whole) c.in_ok-job.ensures

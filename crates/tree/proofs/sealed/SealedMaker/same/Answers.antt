use Rattle.std.proofs.Common.{ap}
use Rattle.std.proofs.lemmas.Slice.Eq.{slice_eq-Decides}
use Rattle.tree.specs.declared.digest.Digest.{Digest}
use Rattle.tree.specs.Sealing.{same_digest}
use Rattle.tree.proofs.sealed.SealedMaker.same.Goals as goal
use Rattle.std.proofs.lemmas.Bool.Decides.{Decides-eqb}

pub returns : goal.returns
returns c =
    let bytes = slice_eq-Decides Decides-eqb c.args.one.bytes c.args.other.bytes c.eq.result c.eq.ensures in
    (λ yes. same_digest c.args.one c.args.other (bytes.0 yes), λ e. bytes.1 (ap (λ (x : Digest). x.bytes) e))

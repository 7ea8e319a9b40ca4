use Rattle.hashing.specs.Sha256.{round}
use Rattle.hashing.proofs.state.State.round.Goals as goal

pub returns : goal.returns
unfolding round
returns c t e = cc

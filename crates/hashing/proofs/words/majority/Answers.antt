use Rattle.hashing.proofs.Digits.{maj_is}
use Rattle.hashing.proofs.words.majority.Goals as goal

pub returns : goal.returns
returns c = maj_is c.args.x c.args.y c.args.z

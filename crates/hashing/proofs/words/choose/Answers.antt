use Rattle.std.proofs.Common.{arith}
use Rattle.hashing.proofs.Digits.{ch_is}
use Rattle.hashing.proofs.words.choose.Goals as goal

pub returns : goal.returns
returns c = ch_is 32 c.args.x c.args.y c.args.z (omega arith) (omega arith)

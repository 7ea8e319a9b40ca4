use Rattle.std.proofs.Common.{ap, ◌∙◌}
use Rattle.hashing.specs.Sha256.{bytes_of, initial, sha256}
use Rattle.hashing.proofs.Blocks.{hashed_all_is}
use Rattle.hashing.proofs.Ending.{absorbed}
use Rattle.hashing.proofs.digest.Goals as goal

pub returns : goal.returns
unfolding sha256 initial
returns c =
    let m = c.args.message.now in
    let start = c.absorb.ensures ∙ hashed_all_is initial m _ c.as_chunks.ensures.front in
    let end = c.absorb_end.ensures in
    c.into.ensures ∙ ap bytes_of (rw (start, c.as_chunks.ensures.back) at end ∙ absorbed initial m)

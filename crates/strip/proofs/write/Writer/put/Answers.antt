use Rattle.std.proofs.Common.{◌+◌, length, refl, rules}
use Rattle.strip.proofs.Appending.{appends_part, appends_length}
use Rattle.strip.proofs.write.Writer.put.Goals as goal

pub returns : goal.returns
returns c =
    let at = c.args.self.now.place in
    let put = appends_part c.args.self.now.out.now c.copy_from_slice.new.self c.args.bytes.now at (length c.args.bytes.now) (at + length c.args.bytes.now) refl c.requires c.copy_from_slice.ensures.after refl in
    record { appends = put; same_length = appends_length put c.requires; same_slice = search rules }

use Rattle.std.proofs.Common.{rules, ◌≡◌, ℕ, take}
use Rattle.strip.proofs.Written.{strip_row, written}
use Rattle.strip.proofs.write.write.Goals as goal

pub returns : goal.returns
returns g c =
    let m = g.M.Maker.meaning c.args.maker.now in
    let H : ℕ = c.args.height in
    let n : ℕ = c.args.number in
    let row = strip_row m H n c.kind.result c.to_be_bytes.result c.in_ok-token.token.now c.in_ok-path.path.now c.kind.ensures c.to_be_bytes.ensures
    c.put.ensures.appends c.put-2.ensures.appends c.put-3.ensures.appends c.put-4.ensures.appends c.put-5.ensures.appends c.put_path.ensures.appends in
    let path : c.in_ok-path.path.now ≡ take H c.args.path.now = search rules in
    let token : c.in_ok-token.token.now ≡ take 32 c.args.token.now = search rules in
    let whole = written m (g.met.M.Maker.lawful c.args.maker.now) H n c.args.path.now c.args.token.now c.args.out.now c.put_path.new.self.out.now c.put_path.new.self.place
    (search rules) (search rules) (search rules) (search rules) (search rules) (rw (← path, ← token) row) in
    search rules

use Rattle.std.proofs.Common.{ℕ, List, refl}
use Rattle.strip.specs.Format.{height_in}
use Rattle.strip.proofs.Returning.{err_is}
use Rattle.strip.proofs.Rules.{fault_is}
use Rattle.strip.proofs.parse.parse.Goals as goal

pub returns-in_err-height : goal.returns-in_err-height
returns-in_err-height g c =
    let bs : List ℕ = c.args.bytes.now in
    let m = g.M.Maker.meaning c.args.maker.now in
    rw (err_is c.from_residual.ensures.1) (fault_is m bs c.kind.result (height_in bs) _ _ _ _ c.kind.ensures refl c.in_err-height.ensures refl refl refl)

pub returns-in_err-token : goal.returns-in_err-token
returns-in_err-token g c =
    let bs : List ℕ = c.args.bytes.now in
    let m = g.M.Maker.meaning c.args.maker.now in
    rw (err_is c.from_residual-in_err-token.ensures.1) (fault_is m bs c.kind.result (height_in bs) _ _ _ _ c.kind.ensures refl c.in_ok-height.ensures.0 c.in_err-token.ensures refl refl)

pub returns-in_err-path : goal.returns-in_err-path
returns-in_err-path g c =
    let bs : List ℕ = c.args.bytes.now in
    let m = g.M.Maker.meaning c.args.maker.now in
    rw (err_is c.from_residual-in_err-path.ensures.1) (fault_is m bs c.kind.result (height_in bs) _ _ _ _ c.kind.ensures refl c.in_ok-height.ensures.0 c.in_ok-token.ensures.0 c.in_err-path.ensures refl)

pub returns-in_err-only_nodes : goal.returns-in_err-only_nodes
returns-in_err-only_nodes g c =
    let bs : List ℕ = c.args.bytes.now in
    let m = g.M.Maker.meaning c.args.maker.now in
    let head = c.in_ok-height.ensures in
    rw (err_is c.from_residual-in_err-only_nodes.ensures.1) (fault_is m bs c.kind.result _ _ _ _ _ c.kind.ensures head.1 head.0 c.in_ok-token.ensures.0 c.in_ok-path.ensures.0 c.in_err-only_nodes.ensures)

pub returns : goal.returns
returns g c =
    let bs : List ℕ = c.args.bytes.now in
    let m = g.M.Maker.meaning c.args.maker.now in
    let head = c.in_ok-height.ensures in
    let token = c.in_ok-token.ensures in
    let path = c.in_ok-path.ensures in (
      fault_is m bs c.kind.result _ _ _ _ _ c.kind.ensures head.1 head.0 token.0 path.0 c.in_ok-only_nodes.ensures,
      head.1,
      head.2,
      token.1,
      path.1,
    )

-- What the exit of a `?` returns.
use Rattle.std.proofs.Common.{◌≡◌, Ok, Err, IsErrAnd, Result, ap}

-- an error that is carried upward as it is
pub err_is : {T E : Type 0} {x : E} {r : Result T E} → IsErrAnd r (λ y. y ≡ x) → r ≡ Err x
err_is {r = Ok y} h = absurd h
err_is {r = Err y} h = ap Err h

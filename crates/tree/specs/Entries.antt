-- The list source: entries of 33 bytes, a mark and a token; the mark 1 says that the token is present.
use Rattle.std.specs.Prelude.{◌≡◌, ℕ, ◌+◌, ◌*◌, ◌/◌, ◌^◌, ◌<◌, min, cond, List, length, take, drop, Some, None, Ok, Err, Result, ◌==◌, slice_index}
use Rattle.std.specs.Borrow.{Bor}
use Rattle.tree.specs.Supply.{Supply, presence}
use Rattle.tree.specs.declared.fault.Cause.{Cause}

abbrev pub list_supply : List ℕ → Supply
list_supply bytes = record {
  size = min (length bytes / 33) (2 ^ 20);
  token = λ n. cond (slice_index bytes (33 * n) == 1) (Some (take 32 (drop (33 * n + 1) bytes))) None;
}

-- A look-up that hands the token out, whole, or says why there is none.
abbrev pub Finds : Supply → ℕ → Result (Bor (List ℕ)) Cause → Type 0
Finds s n (Ok secret) = (n < s.size) × (s.token n ≡ Some secret.now) × (length secret.now ≡ 32)
Finds s n (Err cause) = presence s n ≡ Err cause

-- What a source of tokens means: how many numbers it has, and the token of each, or none where it is torn.
use Rattle.std.specs.Prelude.{◌≡◌, ℕ, ◌^◌, ◌<◌, ◌≤◌, cond, List, length, Some, None, Ok, Err, Option, Result, nat_lt}
use Rattle.tree.specs.declared.fault.Cause.{Cause}
use Rattle.tree.specs.declared.fault.Cause.TheVariants.{Torn, Beyond}
use Rattle.tree.specs.declared.fault.Missing.{Missing}

pub record Supply : Type 0 where
  pub size : ℕ
  pub token : ℕ → Option (List ℕ)

-- What every supply keeps.
pub record Supplies (s : Supply) : Type 0 where
  pub at_most : s.size ≤ 2 ^ 20
  pub whole : (n : ℕ) (secret : List ℕ) → n < s.size → s.token n ≡ Some secret → length secret ≡ 32

abbrev pub torn_unless : Option (List ℕ) → Result Unit Cause
torn_unless (Some secret) = Ok tt
torn_unless None = Err Torn

-- what the look-up of a number says: that the token is there, or why not
abbrev pub presence : Supply → ℕ → Result Unit Cause
presence s n = cond (nat_lt n s.size) (torn_unless (s.token n)) (Err Beyond)

-- Asking for a token: it is written whole, or refused with the look-up's cause and nothing is written.
abbrev pub Gives : Supply → ℕ → List ℕ → List ℕ → Result Unit Missing → Type 0
Gives s n before now (Ok _) = (presence s n ≡ Ok tt) × (s.token n ≡ Some now)
Gives s n before now (Err e) = (presence s n ≡ Err e.cause) × (e.number ≡ n) × (now ≡ before)

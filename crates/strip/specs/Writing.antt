-- What a writer does.
use Rattle.std.specs.Prelude.{◌≡◌, ℕ, List, length}
use Rattle.strip.specs.declared.write.Writer.{Writer}
use Rattle.strip.specs.Calls.{Appends}

-- It puts bytes at its place, goes to their end, and still writes into the same slice.
pub record Puts (before : Writer) (bytes : List ℕ) (later : Writer) : Type 0 where
  pub appends : Appends before.out.now before.place bytes later.out.now later.place
  pub same_length : length later.out.now ≡ length before.out.now
  pub same_slice : later.out.ghost_name ≡ before.out.ghost_name

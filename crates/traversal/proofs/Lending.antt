-- What is lent stays the same from call to call.
use Rattle.std.proofs.Common.{refl, ◌∙◌}
use Rattle.traversal.specs.declared.lent.Lent.{Lent}
use Rattle.traversal.specs.Worlds.{SameLoans}

module _ {N M S : Type 0} where
  pub same_none : (x : Lent M S N) → SameLoans x x
  same_none x = record { table = refl; maker = refl; source = refl }

  pub same_then : (x y z : Lent M S N) → SameLoans x y → SameLoans y z → SameLoans x z
  same_then x y z first second = record {
    table = second.table ∙ first.table;
    maker = second.maker ∙ first.maker;
    source = second.source ∙ first.source;
  }

use Rattle.std.proofs.Common.{sym, rules}
use Rattle.std.proofs.lemmas.Bool.{ne_eqb}
use Rattle.tree.specs.declared.kind.Kind.TheVariants.{Sealed, Dummy}
use Rattle.strip_c.proofs.strips_strip_length.Goals as goal

pub returns-in-None : goal.returns-in-None
returns-in-None c =
    let none = c.kind_of.ensures.none (search rules) in
    rw (ne_eqb c.args.kind 1 (λ e. none Sealed (sym e)), ne_eqb c.args.kind 2 (λ e. none Dummy (sym e))) (search rules)

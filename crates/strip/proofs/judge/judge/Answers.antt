use Rattle.std.proofs.Common.{get_or, sym, rules}
use Rattle.std.proofs.lemmas.Bool.{ne_eqb}
use Rattle.tree.specs.declared.kind.Kind.TheVariants.{Dummy}
use Rattle.strip.proofs.Leading.{accepts_sealed, accepts_dummy}
use Rattle.strip.proofs.judge.judge.Goals as goal
use Rattle.strip.proofs.judge.judge.Goals.{in-Some+in-Sealed-1, in-None-1}

pub returns-in-Some-Dummy-clause-sealed_trees : goal.returns-in-Some-Dummy-clause-sealed_trees
returns-in-Some-Dummy-clause-sealed_trees c = accepts_sealed c.args.root.now c.args.bytes.now c.judge_with.result (search rules)

pub returns-in-Some-Sealed-clause-answer : goal.returns-in-Some-Sealed-clause-answer
returns-in-Some-Sealed-clause-answer c =
    elim c.in-Some-Sealed-1.branch [
      | in-Some+in-Sealed-1 w ↦ search rules
      | in-None-1 w ↦
          (let none = c.kind_in.ensures.none (search rules) Dummy in
          rw (ne_eqb (get_or c.args.bytes.now 1 0) 2 (λ e. none (sym e))) c.judge_with-in-Some-Sealed.ensures.answer)
    ]

pub returns-in-Some-Sealed-clause-dummy_trees : goal.returns-in-Some-Sealed-clause-dummy_trees
returns-in-Some-Sealed-clause-dummy_trees c =
    accepts_dummy c.args.root.now c.args.bytes.now c.judge_with-in-Some-Sealed.result (returns-in-Some-Sealed-clause-answer c)

use Rattle.std.proofs.Common.{◌≡◌, ℕ, [], ◌++◌, codes, refl, sym, ap, ◌∙◌, subst}
use Rattle.strip.specs.Hex.{hex_text}
use Rattle.strip.proofs.Returning.{err_is}
use Rattle.ticket.specs.Texts.{Ticket, kind_line, number_line, ticket_text}
use Rattle.ticket.specs.Reading.{WrongLeft}
use Rattle.ticket.specs.Pieces.{Fails}
use Rattle.ticket.proofs.Chain.{kinds, heights, subtrees, seeds, some_kind, some_height, some_subtree, some_seed, literal_here, kind_here, height_here, subtree_here, seed_here, wrong_end, past_none, past_maker, past_kind, past_tall, past_height, past_small, past_subtree, past_secret, past_seed, past_last}
use Rattle.ticket.proofs.read.fields.Goals as goal

pub returns-in_err-literal : goal.returns-in_err-literal
returns-in_err-literal c =
    rw (err_is c.from_residual.ensures.1) (past_none _ (literal_here (codes "maker ") kinds some_kind c.args.text.now c.in_err-literal.field-0.0.left (subst (λ l. Fails {A = Unit {0}} (λ _. Unit {0}) (λ _. codes "maker ") l c.in_err-literal.field-0.0.left) c.new-reader.ensures c.in_err-literal.ensures.0)))

pub returns-in_err-kind : goal.returns-in_err-kind
returns-in_err-kind c =
    rw (err_is c.from_residual-in_err-kind.ensures.1) (past_maker _ (sym c.new-reader.ensures ∙ c.in_ok-literal.ensures) (kind_here c.literal.new.self.left.now c.in_err-kind.field-0.0.left c.in_err-kind.ensures))

pub returns-in_err-literal-2 : goal.returns-in_err-literal-2
returns-in_err-literal-2 c =
    rw (err_is c.from_residual-in_err-literal-2.ensures.1) (past_kind _ (sym c.new-reader.ensures ∙ c.in_ok-literal.ensures) c.in_ok-kind.kind c.in_ok-kind.ensures (literal_here (codes "height ") heights some_height c.kind.new.self.left.now c.in_err-literal-2.field-0.0.left c.in_err-literal-2.ensures.0))

pub returns-in_err-height : goal.returns-in_err-height
returns-in_err-height c =
    rw (err_is c.from_residual-in_err-height.ensures.1) (past_tall _ (sym c.new-reader.ensures ∙ c.in_ok-literal.ensures) c.in_ok-kind.kind c.in_ok-kind.ensures c.in_ok-literal-2.ensures (height_here c.literal-2.new.self.left.now c.in_err-height.field-0.0.left c.in_err-height.ensures))

pub returns-in_err-literal-3 : goal.returns-in_err-literal-3
returns-in_err-literal-3 c =
    rw (err_is c.from_residual-in_err-literal-3.ensures.1) (past_height _ (sym c.new-reader.ensures ∙ c.in_ok-literal.ensures) c.in_ok-kind.kind c.in_ok-kind.ensures c.in_ok-literal-2.ensures c.in_ok-height.ensures (literal_here (codes "subtree ") subtrees some_subtree c.number.new.self.left.now c.in_err-literal-3.field-0.0.left c.in_err-literal-3.ensures.0))

pub returns-in_err-subtree : goal.returns-in_err-subtree
returns-in_err-subtree c =
    rw (err_is c.from_residual-in_err-subtree.ensures.1) (past_small _ (sym c.new-reader.ensures ∙ c.in_ok-literal.ensures) c.in_ok-kind.kind c.in_ok-kind.ensures c.in_ok-literal-2.ensures c.in_ok-height.ensures c.in_ok-literal-3.ensures (subtree_here c.literal-3.new.self.left.now c.in_err-subtree.field-0.0.left c.in_err-subtree.ensures))

pub returns-in_err-literal-4 : goal.returns-in_err-literal-4
returns-in_err-literal-4 c =
    rw (err_is c.from_residual-in_err-literal-4.ensures.1) (past_subtree _ (sym c.new-reader.ensures ∙ c.in_ok-literal.ensures) c.in_ok-kind.kind c.in_ok-kind.ensures c.in_ok-literal-2.ensures c.in_ok-height.ensures c.in_ok-literal-3.ensures c.in_ok-subtree.ensures (literal_here (codes "seed ") seeds some_seed c.number-2.new.self.left.now c.in_err-literal-4.field-0.0.left c.in_err-literal-4.ensures.0))

pub returns-in_err-seed : goal.returns-in_err-seed
returns-in_err-seed c =
    rw (err_is c.from_residual-in_err-seed.ensures.1) (past_secret _ (sym c.new-reader.ensures ∙ c.in_ok-literal.ensures) c.in_ok-kind.kind c.in_ok-kind.ensures c.in_ok-literal-2.ensures c.in_ok-height.ensures c.in_ok-literal-3.ensures c.in_ok-subtree.ensures c.in_ok-literal-4.ensures (seed_here c.literal-4.new.self.left.now c.in_err-seed.field-0.0.left c.in_err-seed.ensures))

pub returns-in_err-literal-5 : goal.returns-in_err-literal-5
returns-in_err-literal-5 c =
    rw (err_is c.from_residual-in_err-literal-5.ensures.1) (past_seed _ (sym c.new-reader.ensures ∙ c.in_ok-literal.ensures) c.in_ok-kind.kind c.in_ok-kind.ensures c.in_ok-literal-2.ensures c.in_ok-height.ensures c.in_ok-literal-3.ensures c.in_ok-subtree.ensures c.in_ok-literal-4.ensures c.seed.new.seed c.in_ok-seed.ensures (literal_here (codes "\n") (λ xs. xs ≡ []) ([], refl) c.seed.new.self.left.now c.in_err-literal-5.field-0.0.left c.in_err-literal-5.ensures.0))

pub returns-in_err-end : goal.returns-in_err-end
returns-in_err-end c =
    let some = c.in_err-end.ensures in
    let left : ℕ = c.in_err-end.field-0.0.left in
    rw (err_is c.from_residual-in_err-end.ensures.1) (past_last _ (sym c.new-reader.ensures ∙ c.in_ok-literal.ensures) c.in_ok-kind.kind c.in_ok-kind.ensures c.in_ok-literal-2.ensures c.in_ok-height.ensures c.in_ok-literal-3.ensures c.in_ok-subtree.ensures c.in_ok-literal-4.ensures c.seed.new.seed c.in_ok-seed.ensures c.in_ok-literal-5.ensures (subst (WrongLeft (λ xs. xs ≡ []) c.literal-5.new.self.left.now) (sym some.1) (wrong_end c.literal-5.new.self.left.now some.0)))

pub returns : goal.returns
returns c =
    let height = c.in_ok-height.ensures in
    let subtree = c.in_ok-subtree.ensures in
    let seed = c.in_ok-seed.ensures in
    let says : Ticket = record { kind = c.in_ok-kind.kind; height = c.in_ok-height.height; subtree = c.in_ok-subtree.subtree; seed = c.seed.new.seed } in
    let is : c.args.text.now ≡ ticket_text says =
    sym c.new-reader.ensures ∙ c.in_ok-literal.ensures ∙ ap (λ l. codes "maker " ++ l) (c.in_ok-kind.ensures
    ∙ ap (λ l. kind_line says.kind ++ l) (c.in_ok-literal-2.ensures ∙ ap (λ l. codes "height " ++ l) (height.1
    ∙ ap (λ l. number_line says.height ++ l) (c.in_ok-literal-3.ensures ∙ ap (λ l. codes "subtree " ++ l) (subtree.1
    ∙ ap (λ l. number_line says.subtree ++ l) (c.in_ok-literal-4.ensures ∙ ap (λ l. codes "seed " ++ l) (seed.1
    ∙ ap (λ l. hex_text says.seed ++ l) (c.in_ok-literal-5.ensures ∙ ap (λ l. codes "\n" ++ l) c.in_ok-end.ensures)))))))) in
    (says, record { height = height.0; subtree = subtree.0; seed = seed.0.0; bytes = seed.0.1 }, is, refl, refl, refl, refl)

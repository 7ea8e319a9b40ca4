use Rattle.std.proofs.Common.{◌≡◌, ℕ, List, get_or, drop, sym, ap, ◌∙◌, rules}
use Rattle.std.proofs.lemmas.List.{take_rest, drop-drop, get_or-drop}
use Rattle.strip.specs.Format.{height_in}
use Rattle.strip.proofs.parse.path.Goals as goal

pub returns-in-Some-len1-up : goal.returns-in-Some-len1-up
returns-in-Some-len1-up c =
    let bs : List ℕ = c.args.bytes.now in
    let rest : List ℕ = c.in-Some-len1-up.field-0.now in
    let part = c.in-Some-len1-up.ensures.lookup.0 in
    let here : rest ≡ drop 40 bs = part.2 ∙ take_rest bs 40 in
    let first : get_or bs 40 0 ≡ height_in bs =
    sym (ap (λ l. get_or l 0 0) here ∙ get_or-drop 40 bs 0 0) ∙ sym c.from.ensures ∙ c.if-from-height.true ∙ c.requires in
    (search rules, take_rest rest 1 ∙ ap (drop 1) here ∙ drop-drop 1 40 bs)

-- Answers in words.
use Rattle.std.specs.Prelude.{ℕ, Bool, true, false, List, Ok, Err, codes, Result}
use Rattle.strip.specs.declared.refusal.Refusal.{Refusal}
use Rattle.strip.specs.Refusals.{refusal_line}

abbrev pub answer_line : Result Bool Refusal → List ℕ
answer_line (Ok true) = codes "yes"
answer_line (Ok false) = codes "no"
answer_line (Err r) = refusal_line r

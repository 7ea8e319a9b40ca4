use Rattle.std.proofs.Common.{◌≡◌, ℕ, ◌-◌, ◌≤◌, List, ◌++◌, length, take, drop, Ok, Err, Result, MatchResult, ap, ◌∙◌, rules, arith}
use Rattle.std.proofs.lemmas.Bool.{le-ltb}
use Rattle.std.proofs.lemmas.Result.{MatchResult-weaker, err_from_is_err_and}
use Rattle.ticket.specs.declared.job.Job.{Job}
use Rattle.ticket.specs.declared.job.Spot.{Spot}
use Rattle.ticket.specs.declared.job.Refusal.{Refusal}
use Rattle.ticket.specs.declared.job.Refusal.TheVariants.{NoTicket}
use Rattle.ticket.specs.declared.reader.Wrong.{Wrong}
use Rattle.ticket.specs.Reading.{Answers, Unpacks, spot_after}
use Rattle.ticket.proofs.ticket.read.Goals as goal

module _ (text : List ℕ) (r : Result Job Refusal) where
  -- the same job, or the spot before which so many bytes stand
  abbrev pub Spotted : Result Job Wrong → Type 0
  Spotted found =
      MatchResult found (λ job. r ≡ Ok job)
      (λ wrong. (spot : Spot) × (r ≡ Err (NoTicket spot)) × ((spot.line, spot.column) ≡ spot_after (take (length text - wrong.left) text) 1 0))

  answers : (scratch before later : List ℕ) (found : Result Job Wrong) → 32 ≤ length scratch → Unpacks text before later found → Spotted found → Answers text scratch before later r
  answers scratch before later (Ok job) long says same = rw same (long, says)
  answers scratch before later (Err wrong) long goes told =
      let place : length text - wrong.left ≡ goes.0.0 = let all = goes.0.1 in omega arith in
      rw told.1 (long, (goes.0.0, goes.0.2, told.2 ∙ ap (λ k. spot_after (take k text) 1 0) place), goes.1)

pub returns-clause-scratch : goal.returns-clause-scratch
returns-clause-scratch c =
    let scratch : List ℕ = c.args.scratch.now in
    let long : 32 ≤ length scratch = search (rules, arith) in
    rw (le-ltb (length scratch) 32 long) (ap (λ l. l ++ drop 32 scratch) c.unpack.ensures.wiped)

pub returns-clause-answer : goal.returns-clause-answer
returns-clause-answer c =
    let text : List ℕ = c.args.text.now in
    let told : Spotted text c.map_err.result c.unpack.result =
    MatchResult-weaker c.unpack.result c.map_err.ensures.cases (λ job same. same)
    (λ wrong gives.
    let refused = err_from_is_err_and c.map_err.result gives in
    rw refused.1 (search rules)) in
    answers text c.map_err.result c.args.scratch.now c.args.source.now.seed c.unpack.new.source.seed c.unpack.result (search (rules, arith)) c.unpack.ensures.answer told

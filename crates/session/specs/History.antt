-- Histories: lists of calls on a draft, each on draft, table, maker and source as the call before left them. The only
-- thing that is asked of a call is what its own contract says of it.
use Rattle.std.specs.Prelude.{ℕ, List, [], ◌∷◌, Ok, Err, Result}
use Rattle.traversal.specs.declared.state.Draft.{Draft}
use Rattle.traversal.specs.declared.state.Run.{Run}
use Rattle.traversal.specs.declared.outcome.Incomplete.{Incomplete}
use Rattle.traversal.specs.declared.outcome.TooEarly.{TooEarly}
use Rattle.traversal.specs.declared.refusal.Refusal.{Refusal}
use Rattle.traversal.specs.Worlds.{World}
use Rattle.traversal.specs.Calls.{Stepped, Turned}
use Rattle.session.specs.declared.held.Held.{Held}
use Rattle.session.specs.declared.held.Held.TheVariants.{Drafting, Running}
use Rattle.session.specs.declared.held.Ask.{Ask}
use Rattle.session.specs.declared.held.Ask.TheVariants.{Step as ask_step, Turn as ask_turn}
use Rattle.session.specs.declared.held.Call.{Call}
use Rattle.session.specs.declared.held.Call.TheVariants.{Step, Turn}

-- the call that was asked for
abbrev pub asked : Call → Ask
asked (Step budget answer) = ask_step budget
asked (Turn answer) = ask_turn

-- what is held after a turn
abbrev pub turned : Result Run Incomplete → Held
turned (Ok run) = Running run
turned (Err back) = Drafting back.draft

-- what it answers: nothing more, or how many units are missing
abbrev pub turn_answer : Result Run Incomplete → Result Unit TooEarly
turn_answer (Ok run) = Ok tt
turn_answer (Err back) = Err back.early

pub data History {N : Type 0} : Held → World N → List Call → Held → World N → Type 0 where
  stop : {z : Held} {w : World N} → History z w [] z w
  and_step : {d e : Draft} {z : Held} {u v w : World N} {budget : ℕ} {answer : Result (ℕ × ℕ) Refusal} {calls : List Call} →
      Stepped d u budget answer e v → History (Drafting e) v calls z w → History (Drafting d) u (Step budget answer ∷ calls) z w
  and_turn : {d : Draft} {z : Held} {v w : World N} {calls : List Call} (answer : Result Run Incomplete) →
      Turned d answer → History (turned answer) v calls z w → History (Drafting d) v (Turn (turn_answer answer) ∷ calls) z w

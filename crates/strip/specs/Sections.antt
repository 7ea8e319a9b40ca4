-- What reading one section after the other answers.
use Rattle.std.specs.Prelude.{◌≡◌, ℕ, List, Some, None, Ok, Err, Result}
use Rattle.std.specs.Borrow.{Bor}
use Rattle.tree.specs.Meaning.{Meaning}
use Rattle.strip.specs.declared.refusal.Fault.{Fault}
use Rattle.strip.specs.declared.parse.HeadPart.{HeadPart}
use Rattle.strip.specs.declared.parse.Strip.{Strip}
use Rattle.strip.specs.Format.{height_in, number_in, token_in, path_in, head_rules, token_rules, count_rules, node_rules, first_broken, fault_in}

abbrev pub HeadRead : ℕ → List ℕ → Result HeadPart Fault → Type 0
HeadRead kind bs (Ok h) =
    (first_broken bs (head_rules kind bs) ≡ None) × (h.height ≡ height_in bs) × (h.number ≡ number_in bs)
HeadRead kind bs (Err f) = first_broken bs (head_rules kind bs) ≡ Some f

abbrev pub TokenRead : List ℕ → Result (Bor (List ℕ)) Fault → Type 0
TokenRead bs (Ok token) = (first_broken bs (token_rules bs) ≡ None) × (token.now ≡ token_in bs)
TokenRead bs (Err f) = first_broken bs (token_rules bs) ≡ Some f

abbrev pub CountRead : List ℕ → Result (Bor (List ℕ)) Fault → Type 0
CountRead bs (Ok nodes) = (first_broken bs (count_rules bs) ≡ None) × (nodes.now ≡ path_in bs)
CountRead bs (Err f) = first_broken bs (count_rules bs) ≡ Some f

abbrev pub NodesRead : {N : Type 0} → Meaning N → List ℕ → ℕ → Result Unit Fault → Type 0
NodesRead m bs H (Ok _) = first_broken bs (node_rules m bs 41 H) ≡ None
NodesRead m bs H (Err f) = first_broken bs (node_rules m bs 41 H) ≡ Some f

-- Reading all of them: the parts of a strip, or the first fault.
abbrev pub Parsed : {N : Type 0} → Meaning N → List ℕ → Result Strip Fault → Type 0
Parsed m bs (Ok s) =
    (fault_in m bs ≡ None)
    × (s.height ≡ height_in bs) × (s.number ≡ number_in bs)
    × (s.token.now ≡ token_in bs) × (s.path.now ≡ path_in bs)
Parsed m bs (Err f) = fault_in m bs ≡ Some f

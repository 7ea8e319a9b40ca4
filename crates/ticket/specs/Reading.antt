-- What reading a ticket answers, said of the set of all tickets.
use Rattle.std.specs.Prelude.{◌≡◌, ℕ, ◌+◌, ◌<◌, ◌≤◌, cond, List, [], ◌∷◌, ◌++◌, length, take, drop, replicate, codes, decimal, Ok, Err, Result, ◌==◌, nat_lt}
use Rattle.tree.specs.Refusals.{short_numbered, refused_text}
use Rattle.ticket.specs.declared.job.Job.{Job}
use Rattle.ticket.specs.declared.job.Spot.{Spot}
use Rattle.ticket.specs.declared.job.Refusal.{Refusal}
use Rattle.ticket.specs.declared.job.Refusal.TheVariants.{Short, NoTicket}
use Rattle.ticket.specs.declared.reader.Wrong.{Wrong}
use Rattle.ticket.specs.Texts.{Ticket, Sayable, ticket_text}

-- bytes that are a ticket
abbrev pub IsTicket : List ℕ → Type 0
IsTicket bs = (t : Ticket) × Sayable t × (bs ≡ ticket_text t)

-- Bytes go wrong at a place: up to there some ticket begins so, and there stands a byte that no such ticket
-- has, or one is missing.
pub record WrongAt (Is : List ℕ → Type 0) (bs : List ℕ) (p : ℕ) : Type 0 where
  pub within : p ≤ length bs
  pub begins : (rest : List ℕ) × Is (take p bs ++ rest)
  pub stops : p < length bs → (rest : List ℕ) → Is (take (p + 1) bs ++ rest) → ⊥
  pub lacks : p ≡ length bs → Is bs → ⊥

-- the same, by how many bytes are left from that place on
abbrev pub WrongLeft : (List ℕ → Type 0) → List ℕ → ℕ → Type 0
WrongLeft Is bs left = (p : ℕ) × (p + left ≡ length bs) × WrongAt Is bs p

-- line (from 1) and column (from 0) after some bytes
abbrev pub spot_after : List ℕ → ℕ → ℕ → ℕ × ℕ
spot_after [] line column = (line, column)
spot_after (x ∷ xs) line column = cond (x == 10) (spot_after xs (line + 1) 0) (spot_after xs line (column + 1))

-- bytes are a ticket that says what a job asks for, and its seed
abbrev pub Says : List ℕ → Job → List ℕ → Type 0
Says bs job seed =
    (t : Ticket) × Sayable t × (bs ≡ ticket_text t)
    × (job.kind ≡ t.kind) × (job.heights.height ≡ t.height) × (job.heights.subtree ≡ t.subtree) × (seed ≡ t.seed)

-- Reading the fields: what the text says, and its seed; or how many bytes are left where it goes wrong.
abbrev pub FieldsRead : List ℕ → List ℕ → Result Job Wrong → Type 0
FieldsRead bs seed (Ok job) = Says bs job seed
FieldsRead bs seed (Err wrong) = WrongLeft IsTicket bs wrong.left

-- A scratch of 32 bytes or more is left with its first 32 bytes zero and the rest as it was.
abbrev pub wiped : List ℕ → List ℕ
wiped scratch = replicate 32 0 ++ drop 32 scratch

abbrev pub left_in : List ℕ → List ℕ
left_in scratch = cond (nat_lt (length scratch) 32) scratch (wiped scratch)

-- Unpacking a ticket: what it says, and its seed in the source; or where it goes wrong, and the source as it was.
abbrev pub Unpacks : List ℕ → List ℕ → List ℕ → Result Job Wrong → Type 0
Unpacks bs before later (Ok job) = Says bs job later
Unpacks bs before later (Err wrong) = WrongLeft IsTicket bs wrong.left × (later ≡ before)

-- Reading a ticket: what it says, and its seed in the source; or, with the source as it was, that the scratch
-- is too short, which comes first, or where the text goes wrong.
abbrev pub Answers : List ℕ → List ℕ → List ℕ → List ℕ → Result Job Refusal → Type 0
Answers bs scratch before later (Ok job) = (32 ≤ length scratch) × Says bs job later
Answers bs scratch before later (Err (Short short)) = (length scratch < 32) × (short.needed ≡ 32) × (later ≡ before)
Answers bs scratch before later (Err (NoTicket spot)) =
    (32 ≤ length scratch)
    × ((p : ℕ) × WrongAt IsTicket bs p × ((spot.line, spot.column) ≡ spot_after (take p bs) 1 0))
    × (later ≡ before)

-- the number of a refusal, and the values that it returns
abbrev pub numbered : Refusal → ℕ × List ℕ
numbered (Short short) = short_numbered short
numbered (NoTicket spot) = (15, spot.line ∷ spot.column ∷ [])

-- a place in print
abbrev pub spot_text : Spot → List ℕ
spot_text spot = decimal spot.line ++ codes " " ++ decimal spot.column

-- a refusal in print: its number and its values
abbrev pub refusal_text : Refusal → List ℕ
refusal_text r = refused_text (numbered r)

-- What each refusal of a traversal is called.
use Rattle.std.specs.Prelude.{ℕ, List, [], ◌∷◌, ◌++◌, map, codes, decimal}
use Rattle.tree.specs.Refusals.{cause_text, missing_text, numbered as tree_numbered}
use Rattle.tree.specs.declared.fault.Cause.{Cause}
use Rattle.tree.specs.declared.fault.Missing.{Missing}
use Rattle.traversal.specs.declared.outcome.TooEarly.{TooEarly}
use Rattle.traversal.specs.declared.refusal.Layer.{Layer}
use Rattle.traversal.specs.declared.refusal.Layer.TheVariants.{Draft}
use Rattle.traversal.specs.declared.refusal.Lack.{Lack}
use Rattle.traversal.specs.declared.refusal.Refusal.{Refusal}
use Rattle.traversal.specs.declared.refusal.Refusal.TheVariants.{Heights, Table, Source, Token}

-- what a refusal returns: numbers, why a token is missing, and which call lacked it
pub data Value : Type 0 where
  count : ℕ → Value
  cause : Cause → Value
  layer : Layer → Value

-- what a missing token returns
abbrev pub lack_values : Lack → List Value
lack_values lack = count lack.missing.number ∷ cause lack.missing.cause ∷ layer lack.layer ∷ []

-- the number of a refusal, and the values that it returns; heights are refused as the tree refuses them
abbrev pub numbered : Refusal → ℕ × List Value
numbered (Heights r) = ((tree_numbered r).0, map count (tree_numbered r).1)
numbered (Table cells) = (3, count cells ∷ [])
numbered (Source size) = (4, count size ∷ [])
numbered (Token lack) = (6, lack_values lack)

-- the same of a turn that came too early
abbrev pub early_numbered : TooEarly → ℕ × List Value
early_numbered early = (5, count early.missing ∷ [])

-- it is printed as its number and its values
abbrev pub layer_text : Layer → List ℕ
layer_text Draft = codes "draft"

abbrev pub value_text : Value → List ℕ
value_text (count n) = decimal n
value_text (cause c) = cause_text c
value_text (layer l) = layer_text l

abbrev pub values_text : List Value → List ℕ
values_text [] = []
values_text (value ∷ values) = codes " " ++ value_text value ++ values_text values

abbrev pub printed : ℕ × List Value → List ℕ
printed known = codes "refused " ++ decimal known.0 ++ values_text known.1

abbrev pub refusal_text : Refusal → List ℕ
refusal_text refusal = printed (numbered refusal)

abbrev pub early_text : TooEarly → List ℕ
early_text early = printed (early_numbered early)

-- a missing token in print, after a number and a blank
abbrev pub lack_text : Lack → List ℕ
lack_text lack = missing_text lack.missing ++ codes " " ++ layer_text lack.layer

-- a token that the draft lacks
abbrev pub draft_lack : Missing → Lack
draft_lack m = record { missing = m; layer = Draft }

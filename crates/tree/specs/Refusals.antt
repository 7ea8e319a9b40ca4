-- What each refusal of the tree's calls is called, and which of several comes.
use Rattle.std.specs.Prelude.{ℕ, Bool, cond, List, [], ◌∷◌, ◌++◌, Some, None, Option, codes, decimal}
use Rattle.tree.specs.declared.fault.TooShort.{TooShort}
use Rattle.tree.specs.declared.fault.Cause.{Cause}
use Rattle.tree.specs.declared.fault.Missing.{Missing}
use Rattle.tree.specs.declared.fault.Cause.TheVariants.{Torn, Beyond}
use Rattle.tree.specs.declared.refusal.Refusal.{Refusal}
use Rattle.tree.specs.declared.refusal.Refusal.TheVariants.{Height, Subtree}

-- the number of a refusal, and the values that it returns
abbrev pub numbered : Refusal → ℕ × List ℕ
numbered (Height H) = (1, H ∷ [])
numbered (Subtree h) = (2, h ∷ [])

-- the same of a slice that is too short
abbrev pub short_numbered : TooShort → ℕ × List ℕ
short_numbered e = (7, e.needed ∷ [])

-- each number after a blank
abbrev pub spaced : List ℕ → List ℕ
spaced [] = []
spaced (n ∷ ns) = codes " " ++ (decimal n ++ spaced ns)

-- a refusal in print: its number and its values
abbrev pub refused_text : ℕ × List ℕ → List ℕ
refused_text known = codes "refused" ++ spaced (known.0 ∷ known.1)

abbrev pub refusal_text : Refusal → List ℕ
refusal_text r = refused_text (numbered r)

abbrev pub short_text : TooShort → List ℕ
short_text e = refused_text (short_numbered e)

-- the word for why a token is missing
abbrev pub cause_text : Cause → List ℕ
cause_text Torn = codes "torn"
cause_text Beyond = codes "beyond"

-- a missing token in print
abbrev pub missing_text : Missing → List ℕ
missing_text m = decimal m.number ++ codes " " ++ cause_text m.cause

-- Checks in their order, each with the refusal of its failure: the first that fails.
abbrev pub first_refusal : {R : Type 0} → List (Bool × R) → Option R
first_refusal [] = None
first_refusal (check ∷ checks) = cond check.0 (first_refusal checks) (Some check.1)

-- What each refusal is called, and which of several comes.
use Rattle.std.specs.Prelude.{ℕ, List, [], ◌∷◌, ◌++◌, Some, None, codes, decimal, Option}
use Rattle.tree.specs.Refusals.{short_numbered, refused_text}
use Rattle.strip.specs.declared.refusal.Section.{Section}
use Rattle.strip.specs.declared.refusal.Section.TheVariants.{Head, Token, Path}
use Rattle.strip.specs.declared.refusal.Fault.{Fault}
use Rattle.strip.specs.declared.refusal.Refusal.{Refusal}
use Rattle.strip.specs.declared.refusal.Refusal.TheVariants.{Height, Short, Number, NoStrip}

-- a slice that should have had so many elements
abbrev pub short : ℕ → Refusal
short needed = Short (record { needed = needed })

abbrev pub section_number : Section → ℕ
section_number Head = 1
section_number Token = 2
section_number Path = 3

-- the number of a refusal, and the values that it returns
abbrev pub numbered : Refusal → ℕ × List ℕ
numbered (Height h) = (1, h ∷ [])
numbered (Short e) = short_numbered e
numbered (Number n) = (10, n ∷ [])
numbered (NoStrip f) = (11, f.place ∷ section_number f.section ∷ [])

-- the refusal of a fault in a strip's bytes, or else another
abbrev pub or_else : Option Fault → Option Refusal → Option Refusal
or_else None o = o
or_else (Some f) o = Some (NoStrip f)

-- the word, the refusal's number and its values
abbrev pub refusal_line : Refusal → List ℕ
refusal_line r = refused_text (numbered r)

-- a fault in print: its place and its section
abbrev pub fault_text : Fault → List ℕ
fault_text f = decimal f.place ++ (codes " " ++ decimal (section_number f.section))

-- When a text reads as a script, and at which line another is refused.
use Rattle.std.specs.Prelude.{◌≡◌, ℕ, ◌+◌, ◌≤◌, List, [], ◌∷◌, ◌++◌, length, All, ◌⊎◌, Result, IsErrOf}
use Rattle.nomos_ir.specs.Limits.{text_limit}
use Rattle.nomos_script.specs.declared.item.ScriptItem.{ScriptItem}
use Rattle.nomos_script.specs.declared.parsing.ScriptError.{ScriptError}
use Rattle.nomos_script.specs.declared.parsing.ScriptError.TheVariants as error
use Rattle.nomos_script.specs.Form.{Form, begin, LineReadsAs}
use Rattle.nomos_script.specs.Item.{items_of}
use Rattle.nomos_script.specs.Lines.{lines_of}
use Rattle.nomos_script.specs.Paragraph.{Paragraph, forms_of, IsParagraph, StandsInside}

-- the lines have these forms, one for one
abbrev pub LinesReadAs : List (List ℕ) → List Form → Type 0
LinesReadAs [] [] = Unit {0}
LinesReadAs [] (form ∷ forms) = ⊥
LinesReadAs (line ∷ lines) [] = ⊥
LinesReadAs (line ∷ lines) (form ∷ forms) = LineReadsAs line form × LinesReadAs lines forms

-- the lines are those of these paragraphs
pub record AreLinesOf (lines : List (List ℕ)) (paragraphs : List Paragraph) : Type 0 where
  pub forms : LinesReadAs lines (forms_of paragraphs)
  pub each : All IsParagraph paragraphs

-- the text reads as these items: its lines, counted from 1, are those of paragraphs that stand for them
pub record ReadsAs (text : List ℕ) (items : List ScriptItem) : Type 0 where
  pub limit : length text ≤ text_limit
  pub paragraphs : List Paragraph
  pub lines : AreLinesOf (lines_of text) paragraphs
  pub stand_for : items_of 1 paragraphs ≡ items

-- some script begins with these lines
abbrev pub BeginScript : List (List ℕ) → Type 0
BeginScript lines = (more : List (List ℕ)) × (paragraphs : List Paragraph) × AreLinesOf (lines ++ more) paragraphs

-- a text within the limit that has this line, with this number, behind these and before others
pub record HasLineAt (text : List ℕ) (k : ℕ) (before : List (List ℕ)) (line : List ℕ) (after : List (List ℕ))
    : Type 0 where
  pub limit : length text ≤ text_limit
  pub split : lines_of text ≡ before ++ line ∷ after
  pub numbered : k ≡ length before + 1

-- the first line up to which no script goes
pub record IsBadAt (text : List ℕ) (k : ℕ) : Type 0 where
  pub before : List (List ℕ)
  pub line : List ℕ
  pub after : List (List ℕ)
  pub here : HasLineAt text k before line after
  pub begins : BeginScript before
  pub bad : ¬ BeginScript (before ++ line ∷ [])

-- the line `begin` of a batch that is open at the end of a text of which no line is bad
pub record IsOpenAt (text : List ℕ) (k : ℕ) : Type 0 where
  pub before : List (List ℕ)
  pub line : List ℕ
  pub after : List (List ℕ)
  pub here : HasLineAt text k before line after
  pub paragraphs : List Paragraph
  pub closed : AreLinesOf before paragraphs
  pub opens : LineReadsAs line begin
  pub inside : List Form
  pub reads : LinesReadAs after inside
  pub stand : All StandsInside inside

-- the line that a text is refused at
abbrev pub IsSyntaxAt : List ℕ → ℕ → Type 0
IsSyntaxAt text k = IsBadAt text k ⊎ IsOpenAt text k

-- the answer is this error, or memory ran out
abbrev pub IsRefusedAs : {T : Type 0} → ScriptError → Result T ScriptError → Type 0
IsRefusedAs why answer = IsErrOf answer why ⊎ IsErrOf answer error.NoMemory

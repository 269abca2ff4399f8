-- The paragraphs of a script: single lines, and the lines of a batch.
use Rattle.std.specs.Prelude.{List, [], ◌∷◌, ◌++◌, All}
use Rattle.nomos_script.specs.Form.{Form, blank, create, exec, begin, end}

-- script = { paragraph }
-- paragraph = line | "begin" { line } "end"
pub data Paragraph : Type 0 where
  single : (form : Form) → Paragraph
  several : (forms : List Form) → Paragraph

-- the lines of paragraphs
abbrev pub forms_of : List Paragraph → List Form
forms_of [] = []
forms_of (single form ∷ paragraphs) = form ∷ forms_of paragraphs
forms_of (several forms ∷ paragraphs) = begin ∷ forms ++ end ∷ forms_of paragraphs

-- what may stand outside of `begin` and `end`
abbrev pub StandsAlone : Form → Type 0
StandsAlone begin = ⊥
StandsAlone end = ⊥
StandsAlone _ = Unit {0}

-- what may stand between them
abbrev pub StandsInside : Form → Type 0
StandsInside blank = Unit {0}
StandsInside (create contract i) = Unit {0}
StandsInside (exec i) = Unit {0}
StandsInside _ = ⊥

-- a single line may stand alone, and each line of a batch may stand inside one
abbrev pub IsParagraph : Paragraph → Type 0
IsParagraph (single form) = StandsAlone form
IsParagraph (several forms) = All StandsInside forms

-- The lines that are printed of a text that is not accepted.
use Rattle.std.specs.Prelude.{ℕ, List, [], ◌++◌, codes, decimal}
use Rattle.std.specs.Fmt.{signed_decimal}
use Rattle.std.specs.List.{flat_map}
use Rattle.nomos_accept.specs.declared.why.Why.{Why}
use Rattle.nomos_accept.specs.declared.why.Why.TheVariants as why
use Rattle.nomos_forms.specs.declared.row.Row.{Row}
use Rattle.nomos_forms.specs.declared.verdict.Of.{Of}
use Rattle.nomos_forms.specs.declared.verdict.Of.TheVariants as of
use Rattle.nomos_forms.specs.declared.verdict.Verdict.{Verdict}
use Rattle.nomos_forms.specs.declared.verdict.Weight.{Weight}
use Rattle.nomos_grammar.specs.declared.offence.Which.{Which}
use Rattle.nomos_grammar.specs.declared.offence.Which.TheVariants as which
use Rattle.nomos_ir.specs.CodeForm.{form_name}
use Rattle.nomos_simplex.specs.declared.solved.Stop.{Stop}
use Rattle.nomos_simplex.specs.declared.solved.Stop.TheVariants as stop
use Rattle.nomos_report.specs.ReportLines.{line}

-- a limit
abbrev pub which_text : Which → List ℕ
which_text which.Name = codes "Name"
which_text which.Number = codes "Number"
which_text which.Nesting = codes "Nesting"
which_text which.Nodes = codes "Nodes"
which_text which.Stars = codes "Stars"

-- a cause and the offset at which it is
abbrev pub at_offset : List ℕ → ℕ → List ℕ
at_offset cause at = cause ++ codes " " ++ decimal at

-- the cause of a refusal, with its numbers
abbrev pub why_text : Why → List ℕ
why_text why.TooLong = codes "TooLong"
why_text (why.NotAscii at) = at_offset (codes "NotAscii") at
why_text (why.Syntax at) = at_offset (codes "Syntax") at
why_text (why.Limit limit at) = at_offset (codes "Limit " ++ which_text limit) at
why_text (why.Name at) = at_offset (codes "Name") at
why_text (why.Cost at) = at_offset (codes "Cost") at
why_text (why.Contractive at) = at_offset (codes "Contractive") at
why_text (why.Mode at) = at_offset (codes "Mode") at
why_text (why.NotSync at path) = at_offset (codes "NotSync") at
why_text (why.TermType at) = at_offset (codes "TermType") at
why_text (why.ProcType at form) = at_offset (codes "ProcType") at ++ codes " " ++ form_name form
why_text (why.NoPotential verdict) = codes "NoPotential"

-- `C1 .. Cn >= B`
abbrev pub row_text : Row → List ℕ
row_text row = flat_map (λ c. signed_decimal c ++ codes " ") row.coefs ++ codes ">= " ++ signed_decimal row.least

-- a row, or the bound of a star
abbrev pub of_text : Of → List ℕ
of_text (of.Star star) = codes "star " ++ decimal star
of_text (of.Row row) = codes "row " ++ row_text row

-- `times W ..`
abbrev pub weight_line : Weight → List ℕ
weight_line w = line (codes "times " ++ decimal w.times ++ codes " " ++ of_text w.of)

-- the weights of a verdict, and what they give
abbrev pub verdict_lines : Verdict → List ℕ
verdict_lines verdict = flat_map weight_line verdict.weights ++ line (codes "gives 0 >= " ++ decimal verdict.gives)

-- the weights of a refusal that has some
abbrev pub certificate : Why → List ℕ
certificate (why.NoPotential verdict) = verdict_lines verdict
certificate _ = []

-- what is printed of a text that is refused
abbrev pub refusal : Why → List ℕ
refusal w = line (codes "refused " ++ why_text w) ++ certificate w

-- what is printed where the pivot run stops without an answer
abbrev pub stop_text : Stop → List ℕ
stop_text stop.Pivots = codes "Pivots 2000"
stop_text (stop.Large pivots) = codes "Large " ++ decimal pivots

abbrev pub unsolved_line : Stop → List ℕ
unsolved_line s = line (codes "unsolved " ++ stop_text s)

-- The lines that are printed of an accepted program.
use Rattle.std.specs.Prelude.{ℕ, ◌+◌, Bool, true, false, List, [], ◌∷◌, ◌++◌, codes, decimal, if◌then◌else◌}
use Rattle.std.specs.List.{flat_map}
use Rattle.nomos_base.specs.Gas.{gas_text}
use Rattle.nomos_ir.specs.declared.declaration.ProcDecl.{ProcDecl}
use Rattle.nomos_ir.specs.declared.mode.Mode.{Mode}
use Rattle.nomos_ir.specs.declared.mode.Mode.TheVariants as mode
use Rattle.nomos_types.specs.Acceptance.{Acceptance}
use Rattle.nomos_types.specs.Amount.{Annotations, dths}
use Rattle.nomos_report.specs.ReportLines.{line}

-- whether a bound is printed for a declaration of this mode: for contracts and transactions
abbrev pub has_bound : Mode → Bool
has_bound mode.S = true
has_bound mode.T = true
has_bound _ = false

-- `bound NAME = G`
abbrev pub bound_text : List ℕ → ℕ → ℕ → List ℕ
bound_text name bound unit = line (codes "bound " ++ name ++ codes " = " ++ gas_text bound unit)

-- the line of a declaration whose bound is printed
abbrev pub bound_lines : Annotations → ProcDecl → List ℕ
bound_lines x d = if has_bound d.mode then bound_text d.name (dths x d.amount) x.unit else []

-- `unit 1`, or `unit 1/D`
abbrev pub unit_line : ℕ → List ℕ
unit_line unit = line (codes "unit " ++ gas_text 1 unit)

-- `star J = G`
abbrev pub star_line : ℕ → ℕ → ℕ → List ℕ
star_line unit star amount = line (codes "star " ++ decimal star ++ codes " = " ++ gas_text amount unit)

-- the amounts of stars, the first of which has this number
abbrev pub star_lines : ℕ → ℕ → List ℕ → List ℕ
star_lines unit star [] = []
star_lines unit star (amount ∷ amounts) = star_line unit star amount ++ star_lines unit (star + 1) amounts

-- what is printed of an accepted program
abbrev pub accepted_block : Acceptance → List ℕ
accepted_block a =
    line (codes "accepted")
    ++ unit_line a.annotations.unit
    ++ star_lines a.annotations.unit 1 a.annotations.stars
    ++ flat_map (bound_lines a.annotations) a.program.procs

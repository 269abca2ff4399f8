-- The amounts of a program.
use Rattle.std.specs.Prelude.{◌≤◌, ℕ, List, [], ◌∷◌, ◌++◌, map, max, All}
use Rattle.std.specs.List.{flat_map}
use Rattle.std.specs.Option.{option_to_list}
use Rattle.nomos_ir.specs.declared.amount.Amount.{Amount}
use Rattle.nomos_ir.specs.declared.amount.Amount.TheVariants.{Written, Star}
use Rattle.nomos_ir.specs.declared.declaration.Par.{Par}
use Rattle.nomos_ir.specs.declared.declaration.ProcDecl.{ProcDecl}
use Rattle.nomos_ir.specs.declared.lists.ProgramLists.{ProgramLists}
use Rattle.nomos_ir.specs.TypeParts.{type_amounts}
use Rattle.nomos_ir.specs.CodeParts.{code_amounts}

-- the amount of a parameter that is a list
abbrev pub par_amounts : Par → List Amount
par_amounts par = option_to_list par.amount

-- the amounts of a process declaration: those of its lists, and the declared potential
abbrev pub proc_amounts : ProcDecl → List Amount
proc_amounts d = flat_map par_amounts d.values ++ d.amount ∷ []

-- the amounts of type nodes, code nodes and process declarations
abbrev pub amounts_of : ProgramLists → List Amount
amounts_of lists =
    flat_map (λ t. type_amounts t.node) lists.types ++ flat_map code_amounts lists.code
    ++ flat_map proc_amounts lists.procs

-- a written amount is at most 1,000,000,000, and stars have the numbers 1 to 64
abbrev pub IsAmount : Amount → Type 0
IsAmount (Written units) = units ≤ 1000000000
IsAmount (Star star) = (1 ≤ star) × (star ≤ 64)

-- all amounts are of this size
abbrev pub AmountsAreSmall : ProgramLists → Type 0
AmountsAreSmall lists = All IsAmount (amounts_of lists)

-- the number of a star, 0 for a written amount
abbrev pub star_of : Amount → ℕ
star_of (Written units) = 0
star_of (Star star) = star

-- the greatest of the numbers, 0 where there is none
abbrev pub greatest : List ℕ → ℕ
greatest [] = 0
greatest (x ∷ xs) = max x (greatest xs)

-- the greatest of the stars' numbers
abbrev pub most_star : List Amount → ℕ
most_star amounts = greatest (map star_of amounts)

-- the greatest star number of a program, 0 where there is none
abbrev pub star_count : ProgramLists → ℕ
star_count lists = most_star (amounts_of lists)

-- A few terms and functions, by which kinds and evaluation are tried.
use Rattle.std.specs.Prelude.{ℕ, List, [], ◌∷◌, codes}
use Rattle.nomos_ir.specs.declared.declaration.FnDecl.{FnDecl}
use Rattle.nomos_ir.specs.declared.ids.TermId.{TermId}
use Rattle.nomos_ir.specs.declared.ids.VarId.{VarId}
use Rattle.nomos_ir.specs.declared.lists.ProgramLists.{ProgramLists}
use Rattle.nomos_ir.specs.declared.term_node.TermNode.{TermNode}
use Rattle.nomos_ir.specs.declared.term_node.TermNode.TheVariants as node
use Rattle.nomos_ir.specs.TermKind.{int_kind}

-- a term and a variable by their numbers
abbrev pub term_id : ℕ → TermId
term_id t = record { 0 = t }

abbrev pub variable : ℕ → VarId
variable v = record { 0 = v }

-- a function of one number
abbrev pub number_function : List ℕ → ℕ → FnDecl
number_function name body =
    record { name = name; at = 0; pars = (variable 0, int_kind) ∷ []; gives = int_kind; body = term_id body }

-- a program of terms and functions alone
abbrev pub program_of : List TermNode → List FnDecl → ProgramLists
program_of terms fns =
    record { defs = []; types = []; terms = terms; code = []; fns = fns; procs = []; labels = [] }

-- fn f(n : int) : int = if n < 2 then n else f(n - 1) + f(n - 2)
abbrev pub sum_terms : List TermNode
sum_terms =
    node.Var 0 (variable 0) ∷ node.Number 0 2 ∷ node.Less 0 (term_id 0) (term_id 1)
    ∷ node.Number 0 1 ∷ node.Sub 0 (term_id 0) (term_id 3) ∷ node.Call 0 (record { 0 = 0 }) (term_id 4 ∷ [])
    ∷ node.Sub 0 (term_id 0) (term_id 1) ∷ node.Call 0 (record { 0 = 0 }) (term_id 6 ∷ [])
    ∷ node.Add 0 (term_id 5) (term_id 7) ∷ node.If 0 (term_id 2) (term_id 0) (term_id 8)
    ∷ []

-- fn spin(n : int) : int = spin(n)
abbrev pub sums : ProgramLists
sums = program_of sum_terms (number_function (codes "f") 9 ∷ [])

abbrev pub spins : ProgramLists
spins =
    program_of
    (node.Var 0 (variable 0) ∷ node.Call 0 (record { 0 = 0 }) (term_id 0 ∷ []) ∷ [])
    (number_function (codes "spin") 1 ∷ [])

-- The claims of a text about its names, in order of text.
use Rattle.std.specs.Prelude.{true, false, List, [], ◌∷◌, ◌++◌, Option, Some, None}
use Rattle.nomos_elaborate.specs.NameClaim.{NameClaim, new_among, new_on_way}
use Rattle.nomos_elaborate.specs.CodeClaims.{code_claims}
use Rattle.nomos_elaborate.specs.Names.{Names}
use Rattle.nomos_elaborate.specs.Scope.{Scope, bind}
use Rattle.nomos_elaborate.specs.Spaces.{no_names, declaring, declaring_all}
use Rattle.nomos_elaborate.specs.declared.spaces.Spaces.{Spaces}
use Rattle.nomos_elaborate.specs.TermClaims.{term_claims}
use Rattle.nomos_elaborate.specs.TypeClaims.{type_claims}
use Rattle.nomos_elaborate.specs.declared.sort.Sort.{Sort}
use Rattle.nomos_elaborate.specs.declared.sort.Sort.TheVariants as sort
use Rattle.nomos_surface.specs.declared.declarations.ListPotential.{ListPotential}
use Rattle.nomos_surface.specs.declared.declarations.ProcessPar.{ProcessPar}
use Rattle.nomos_surface.specs.declared.declarations.ValuePar.{ValuePar}
use Rattle.nomos_surface.specs.Tree.{ChanParTree, ParTrees, DeclTree, definition, function, process, transaction, FileTree}

-- the parameters of a function have new names
abbrev pub value_pars_claims : Scope → List ValuePar → List NameClaim
value_pars_claims scope [] = []
value_pars_claims scope (p ∷ pars) = new_on_way scope p.name ∷ value_pars_claims (bind scope p.name sort.Value) pars

-- what is bound behind the parameters of a function
abbrev pub value_pars_scope : Scope → List ValuePar → Scope
value_pars_scope scope [] = scope
value_pars_scope scope (p ∷ pars) = value_pars_scope (bind scope p.name sort.Value) pars

-- a parameter with a potential is a list, and one without a value
abbrev pub par_sort : Option ListPotential → Sort
par_sort None = sort.Value
par_sort (Some q) = sort.List

-- The values and lists among the parameters of a process have new names.
abbrev pub process_pars_claims : Scope → List ProcessPar → List NameClaim
process_pars_claims scope [] = []
process_pars_claims scope (p ∷ pars) =
    new_on_way scope p.name ∷ process_pars_claims (bind scope p.name (par_sort p.list)) pars

-- What is bound behind the values and lists among the parameters of a process.
abbrev pub process_pars_scope : Scope → List ProcessPar → Scope
process_pars_scope scope [] = scope
process_pars_scope scope (p ∷ pars) = process_pars_scope (bind scope p.name (par_sort p.list)) pars

-- channel parameters have new names, and the definitions in their types are declared
abbrev pub chan_pars_claims : Names → Scope → List ChanParTree → List NameClaim
chan_pars_claims types scope [] = []
chan_pars_claims types scope (p ∷ pars) =
    new_on_way scope p.name
    ∷ type_claims types p.goes
    ++ chan_pars_claims types (bind scope p.name sort.Channel) pars

-- What is bound behind the channel parameters, each of which is a channel that the process uses.
abbrev pub chan_pars_scope : Scope → List ChanParTree → Scope
chan_pars_scope scope [] = scope
chan_pars_scope scope (p ∷ pars) = chan_pars_scope (bind scope p.name sort.Channel) pars

-- The claims of a whole head: those of the values and lists, then those of the channels behind them.
abbrev pub pars_claims : Names → ParTrees → List NameClaim
pars_claims types pars =
    process_pars_claims [] pars.values ++ chan_pars_claims types (process_pars_scope [] pars.values) pars.channels

-- What is bound at the first instruction of a process: all its parameters.
abbrev pub pars_scope : ParTrees → Scope
pars_scope pars = chan_pars_scope (process_pars_scope [] pars.values) pars.channels

-- a declaration has a name that no earlier one of its space has, and its names hold
abbrev pub decl_claims : Spaces → Spaces → DeclTree → List NameClaim
decl_claims all before (definition at mode n body) = new_among before.types n ∷ type_claims all.types body
decl_claims all before (function at n pars gives body) =
    new_among before.functions n
    ∷ value_pars_claims [] pars
    ++ term_claims all.functions false (value_pars_scope [] pars) body
decl_claims all before (process at mode n pars potential offers body) =
    new_among before.processes n
    ∷ pars_claims all.types pars
    ++ type_claims all.types offers
    ++ code_claims (record { spaces = all; inside = false }) (pars_scope pars) body
decl_claims all before (transaction at n pars potential body) =
    new_among before.processes n
    ∷ pars_claims all.types pars
    ++ code_claims (record { spaces = all; inside = true }) (pars_scope pars) body

-- Each declaration may use all declared names, and its own name is new among those declared before it.
abbrev pub decls_claims : Spaces → Spaces → List DeclTree → List NameClaim
decls_claims all before [] = []
decls_claims all before (d ∷ decls) = decl_claims all before d ++ decls_claims all (declaring before d) decls

-- the claims of a text
abbrev pub claims_of : FileTree → List NameClaim
claims_of tree = decls_claims (declaring_all no_names tree.decls) no_names tree.decls

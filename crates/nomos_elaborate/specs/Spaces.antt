-- The three name spaces of a text, each with its declared names as first seen.
use Rattle.std.specs.Prelude.{List, [], ◌∷◌}
use Rattle.nomos_elaborate.specs.Names.{seen}
use Rattle.nomos_elaborate.specs.declared.spaces.Spaces.{Spaces}
use Rattle.nomos_surface.specs.Tree.{DeclTree, definition, function, process, transaction}

-- Before the first declaration no type, no function and no process has a name.
abbrev pub no_names : Spaces
no_names = record { types = []; functions = []; processes = [] }

-- the spaces with the name of one more declaration
abbrev pub declaring : Spaces → DeclTree → Spaces
declaring s (definition at mode n body) = record s { types = seen s.types n.name }
declaring s (function at n pars gives body) = record s { functions = seen s.functions n.name }
declaring s (process at mode n pars potential offers body) = record s { processes = seen s.processes n.name }
declaring s (transaction at n pars potential body) = record s { processes = seen s.processes n.name }

-- and of all these declarations
abbrev pub declaring_all : Spaces → List DeclTree → Spaces
declaring_all s [] = s
declaring_all s (d ∷ decls) = declaring_all (declaring s d) decls

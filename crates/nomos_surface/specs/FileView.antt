-- The trees that declarations and a whole text stand for.
use Rattle.std.specs.Prelude.{map}
use Rattle.nomos_surface.specs.declared.declarations.SurfaceChanPar.{SurfaceChanPar}
use Rattle.nomos_surface.specs.declared.declarations.SurfaceDecl.{SurfaceDecl}
use Rattle.nomos_surface.specs.declared.declarations.SurfaceDecl.TheVariants as decl
use Rattle.nomos_surface.specs.declared.declarations.SurfacePars.{SurfacePars}
use Rattle.nomos_surface.specs.declared.surface.Surface.{Surface}
use Rattle.nomos_surface.specs.CodeView.{code_tree}
use Rattle.nomos_surface.specs.TermView.{term_tree}
use Rattle.nomos_surface.specs.Tree.{ChanParTree, ParTrees, DeclTree, definition, function, process, transaction, FileTree}
use Rattle.nomos_surface.specs.TypeView.{type_tree}

-- the tree of a channel parameter, and of the parameters of a process
abbrev pub chan_par_tree : SurfaceChanPar → ChanParTree
chan_par_tree p = record { name = p.name; goes = type_tree p.goes }

abbrev pub par_trees : SurfacePars → ParTrees
par_trees p = record { values = p.values; channels = map chan_par_tree p.channels }

-- the tree of a declaration
abbrev pub decl_tree : SurfaceDecl → DeclTree
decl_tree (decl.Definition d) = definition d.at d.mode d.name (type_tree d.body)
decl_tree (decl.Function f) = function f.at f.name f.pars f.gives (term_tree f.body)
decl_tree (decl.Process p) =
    process p.at p.mode p.name (par_trees p.pars) p.potential (type_tree p.offers) (code_tree p.code)
decl_tree (decl.Transaction p) = transaction p.at p.name (par_trees p.pars) p.potential (code_tree p.code)

-- the tree of a text
abbrev pub file_tree : Surface → FileTree
file_tree s = record { cost = s.cost; decls = map decl_tree s.declarations }

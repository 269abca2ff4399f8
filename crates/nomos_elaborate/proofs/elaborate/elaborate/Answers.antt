use Rattle.std.proofs.Common.{◌≤◌, ◌∙◌, length, sym, subst, arith}
use Rattle.nomos_elaborate.proofs.CostAllLaws.{under-cost_all}
use Rattle.nomos_elaborate.proofs.ProgramLaws.{is-program}
use Rattle.nomos_ir.specs.CostAll.{IsUnderCostAll}
use Rattle.nomos_elaborate.proofs.SizeLaws.{few_types}
use Rattle.nomos_elaborate.specs.FileBuild.{program_of}
use Rattle.nomos_ir.specs.Program.{IsProgram}
use Rattle.nomos_ir.specs.declared.lists.ProgramLists.{ProgramLists}
use Rattle.nomos_surface.specs.FileView.{file_tree}
use Rattle.nomos_syntax.specs.TextLimits.{node_limit}
use Rattle.nomos_elaborate.proofs.elaborate.elaborate.Goals as goal

pub of_lists-requires : goal.of_lists-requires
of_lists-requires c =
    let e = c.in_ok-lists.ensures in
    subst IsProgram (sym e.program) (is-program (file_tree c.args.surface.now) c.requires.limits e.names)

pub returns-clause-few : goal.returns-clause-few
returns-clause-few c =
    let tree = file_tree c.args.surface.now in
    let e = c.in_ok-lists.ensures in
    let few : length (program_of tree).types ≤ node_limit = omega (arith, few_types tree, c.requires.limits.nodes) in
    subst (λ (p : ProgramLists). length p.types ≤ node_limit) (sym (c.of_lists.ensures ∙ e.program)) few

pub returns-clause-cost_all : goal.returns-clause-cost_all
returns-clause-cost_all c =
    λ all.
    let tree = file_tree c.args.surface.now in
    let e = c.in_ok-lists.ensures in
    subst IsUnderCostAll (sym (c.of_lists.ensures ∙ e.program)) (under-cost_all tree all e.costs)

-- The steps of a code and its last instruction, together.
use Rattle.std.proofs.Common.{◌≡◌, ℕ, List, length, refl, sym, ap, ◌∙◌}
use Rattle.nomos_elaborate.proofs.StopLaws.{stops-then}
use Rattle.nomos_elaborate.specs.declared.elab_error.ElabError.{ElabError}
use Rattle.nomos_elaborate.specs.declared.elaborator.Elaborator.{Elaborator}
use Rattle.nomos_elaborate.specs.mirror.Checked.{Stops, found}
use Rattle.nomos_elaborate.specs.mirror.CodeCheck.{check_code, check_last, check_step, steps_before}
use Rattle.nomos_elaborate.specs.mirror.Each.{each}
use Rattle.nomos_elaborate.specs.mirror.TermCheck.{kept}
use Rattle.nomos_ir.specs.declared.code_node.CodeNode.{CodeNode}
use Rattle.nomos_ir.specs.declared.ids.CodeId.{CodeId}
use Rattle.nomos_surface.specs.Tree.{StepTree, LastTree, CodeTree, code}

-- what the steps and the last instruction of a code give
pub whole_code : (w v u : Elaborator) (steps : List StepTree) (nodes : List CodeNode) (last : LastTree) (id : CodeId)
    (tree : CodeTree) (bound : ℕ)
    → tree ≡ code steps last → each check_step w steps ≡ found (v, nodes) → check_last v last ≡ found (u, id)
    → bound ≡ length w.scope
    → found (steps_before (kept bound u) nodes id) ≡ check_code w tree
unfolding check_code
whole_code w v u steps nodes last id tree bound t e f b =
    let first : found (steps_before (kept bound u) nodes id)
    ≡ found (steps_before (kept (length w.scope) u) nodes id) = ap (λ n. found (steps_before (kept n u) nodes id))
    b in
    let whole : check_code w (code steps last)
    ≡ found (steps_before (kept (length w.scope) u) nodes id) = rw (e, f) refl in
    first ∙ sym whole ∙ sym (ap (check_code w) t)

-- a code whose last instruction ends early ends early
pub code_stops : (w v : Elaborator) (steps : List StepTree) (nodes : List CodeNode) (last : LastTree) (whole : CodeTree)
    (e : ElabError)
    → whole ≡ code steps last → each check_step w steps ≡ found (v, nodes) → Stops e (check_last v last)
    → Stops e (check_code w whole)
unfolding check_code
code_stops w v steps nodes last whole e tree gave stops = rw (tree, gave) (stops-then e (check_last v last) _ stops)

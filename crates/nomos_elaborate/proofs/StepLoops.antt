-- Steps that are put before a code, the last one first.
use Rattle.std.proofs.Common.{◌≡◌, List, [], ◌∷◌, ◌++◌, refl, sym, ap, ◌∙◌}
use Rattle.nomos_elaborate.proofs.StopLaws.{found_same}
use Rattle.nomos_elaborate.specs.Built.{Built}
use Rattle.nomos_elaborate.specs.CostModel.{put_code}
use Rattle.nomos_elaborate.specs.mirror.Checked.{found}
use Rattle.nomos_elaborate.specs.mirror.Following.{with_next, put_before}
use Rattle.nomos_ir.specs.declared.code_node.CodeNode.{CodeNode}
use Rattle.nomos_ir.specs.declared.ids.CodeId.{CodeId}
use Rattle.nomos_surface.specs.declared.surface.CostModel.{CostModel}

-- the last step is put first
pub put_before-push : (model : CostModel) (steps : List CodeNode) (n : CodeNode) (built : Built × CodeId)
    → put_before model (steps ++ n ∷ []) built ≡ put_before model steps (put_code model built.0 (with_next n built.1))
put_before-push model [] n built = refl
put_before-push model (m ∷ steps) n built =
    ap (λ (rest : Built × CodeId). put_code model rest.0 (with_next m rest.1)) (put_before-push model steps n built)

-- one more step before a code
pub step_next : (model : CostModel) (items front : List CodeNode) (x : CodeNode) (s : Built) (next : CodeId)
    (n : CodeNode) (new total : Built × CodeId)
    → items ≡ front ++ x ∷ [] → n ≡ with_next x next → found (put_code model s n) ≡ found new
    → put_before model items (s, next) ≡ total → put_before model front new ≡ total
step_next model items front x s next n new total same is put so_far =
    let made : put_code model s n ≡ new = found_same put in
    ap (put_before model front) (sym made ∙ ap (put_code model s) is)
    ∙ sym (put_before-push model front x (s, next))
    ∙ ap (λ (xs : List CodeNode). put_before model xs (s, next)) (sym same)
    ∙ so_far

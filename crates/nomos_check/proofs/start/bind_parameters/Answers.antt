use Rattle.std.proofs.Common.{◌∙◌, Bool, List, filter, true, false, ap}
use Rattle.nomos_ir.specs.declared.ids.TypeId.{TypeId}
use Rattle.nomos_ir.specs.declared.ids.VarId.{VarId}
use Rattle.nomos_ir.specs.declared.kind.Kind.{Kind}
use Rattle.nomos_ir.specs.Bindings.{bindings_of}
use Rattle.nomos_types.specs.Judgement.{is_shared}
use Rattle.nomos_check.specs.declared.standing.Carried.{Carried}
use Rattle.nomos_check.specs.declared.standing.Standing.{Standing}
use Rattle.nomos_check.specs.mirror.StartingWalk.{kinds_of, lists_of, picks}
use Rattle.nomos_check.proofs.start.bind_parameters.Goals as goal

pub returns : goal.returns
returns c =
    let d = c.args.d.now in
    let picked : Bool → List (VarId × TypeId) → List (VarId × TypeId) =
    λ wanted cs. bindings_of (filter (λ par. picks wanted (is_shared c.args.program.now par)) cs)
    in
    let made : List (VarId × Kind) → List (VarId × Carried) → List (VarId × TypeId) → List (VarId × TypeId)
    → Standing =
    λ k l s i. record c.args.begun.now { kinds = k; lists = l; shared = s; linear = i }
    in
    let lists = c.in_ok-begun-2.field-0 in
    let shared = c.in_ok-begun-3.field-0 in
    let linear = c.in_ok-begun-4.field-0 in
    let to_shared = picked true d.channels in
    ap (λ (k : List (VarId × Kind)). made k lists shared linear) c.in_ok-begun.ensures
    ∙ ap (λ (l : List (VarId × Carried)). made (kinds_of d) l shared linear) c.in_ok-begun-2.ensures
    ∙ ap (λ (s : List (VarId × TypeId)). made (kinds_of d) (lists_of d) s linear)
    (c.in_ok-begun-3.ensures ∙ ap (picked true) c.as_slice.ensures)
    ∙ ap (λ (i : List (VarId × TypeId)). made (kinds_of d) (lists_of d) to_shared i)
    (c.in_ok-begun-4.ensures ∙ ap (picked false) c.as_slice-2.ensures)

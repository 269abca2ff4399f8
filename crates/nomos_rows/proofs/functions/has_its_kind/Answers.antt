use Rattle.std.proofs.Common.{subst}
use Rattle.nomos_ir.proofs.TermKindLaws.{HasKind-unique}
use Rattle.nomos_ir.specs.declared.kind.Kind.{Kind}
use Rattle.nomos_ir.specs.TermKind.{HasKind}
use Rattle.nomos_rows.proofs.functions.has_its_kind.Goals as goal

pub returns-in-Ok : goal.returns-in-Ok
returns-in-Ok c =
    let lists = c.args.program.now in
    let f = c.args.function.now in
    let has = c.in-Ok.ensures in (
      λ yes. subst (λ (k : Kind). HasKind lists f.pars f.body k) (c.is_same_kind.ensures.0 yes) has,
      λ other. c.is_same_kind.ensures.1 (HasKind-unique lists f.pars f.body c.in-Ok.kind f.gives has other),
    )

use Rattle.nomos_ir.specs.TermKind.{HasKind}
use Rattle.nomos_check.proofs.FoundLemmas.{found-some, kind-answer}
use Rattle.nomos_check.proofs.variables.is_of_kind.Goals as goal

pub returns-in-Some : goal.returns-in-Some
returns-in-Some c =
    let lists = c.args.program.now in
    let kinds = c.args.now.now.kinds in
    let has = found-some (HasKind lists kinds c.args.e) _ c.in-Some.its c.in_ok-its.ensures c.in-Some.is in
    kind-answer lists kinds c.args.e c.in-Some.its c.args.kind _ has c.is_same_kind.ensures

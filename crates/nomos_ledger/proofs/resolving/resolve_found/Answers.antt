use Rattle.std.proofs.Common.{Ok, Err, subst}
use Rattle.std.proofs.lemmas.Result.{err_from_is_err_and}
use Rattle.nomos_types.specs.Acceptance.{Acceptance}
use Rattle.nomos_legal.specs.LineStarts.{IsDeclaration}
use Rattle.nomos_ledger.specs.mirror.Resolving.{IfAnswered, PassesRest}
use Rattle.nomos_ledger.proofs.ResolvingLemmas.{declared-modes, declared-there, names-refused, rest-refused, rest-starts}
use Rattle.nomos_ledger.proofs.resolving.resolve_found.Goals as goal

pub shared_names-requires-clause-parameters : goal.shared_names-requires-clause-parameters
shared_names-requires-clause-parameters g c =
    let a = c.args.arguments.now in
    let d = c.proc-d.result.now in
    let number = c.args.found.proc.0 in
    let declared : IsDeclaration a c.args.start.now number d =
    declared-there c.program.ensures.program c.accepted-accepted.ensures c.requires.wanted c.proc-d.ensures in
    declared-modes a.program number d declared.there

pub returns-in_err-names-clause-resolves : goal.returns-in_err-names-clause-resolves
returns-in_err-names-clause-resolves g c =
    let a = c.args.arguments.now in
    let start = c.args.start.now in
    let d = c.proc-d.result.now in
    let number = c.args.found.proc.0 in
    let declared : IsDeclaration a start number d =
    declared-there c.program.ensures.program c.accepted-accepted.ensures c.requires.wanted c.proc-d.ensures in
    let p = err_from_is_err_and c.from_residual.result c.from_residual.ensures.1 in
    rw (p.1, p.2) (names-refused a c.args.books.now.now start c.args.found.payer c.requires.payer number d declared
    c.in_err-names.field-0.0 c.in_err-names.ensures.finds)

pub returns-in_err-check_rest-clause-resolves : goal.returns-in_err-check_rest-clause-resolves
returns-in_err-check_rest-clause-resolves g c =
    let a = c.args.arguments.now in
    let l = c.args.books.now.now in
    let start = c.args.start.now in
    let d = c.proc-d.result.now in
    let number = c.args.found.proc.0 in
    let e = c.in_err-check_rest.field-0.0 in
    let declared : IsDeclaration a start number d =
    declared-there c.program.ensures.program c.accepted-accepted.ensures c.requires.wanted c.proc-d.ensures in
    let answered = subst (λ (b : Acceptance). IfAnswered {X = Unit {0}} (Err e) (PassesRest b l start c.args.found))
    c.accepted-accepted.ensures c.in_err-check_rest.ensures in
    let p = err_from_is_err_and c.from_residual-in_err-check_rest.result c.from_residual-in_err-check_rest.ensures.1 in
    rw (p.1, p.2) (rest-refused a l start c.args.found.payer c.requires.payer number d declared c.in_ok-names.names
    c.in_ok-names.ensures.finds e answered)

pub returns-clause-resolves : goal.returns-clause-resolves
returns-clause-resolves g c =
    let a = c.args.arguments.now in
    let l = c.args.books.now.now in
    let start = c.args.start.now in
    let d = c.proc-d.result.now in
    let number = c.args.found.proc.0 in
    let u = c.in_ok-check_rest.field-0 in
    let declared : IsDeclaration a start number d =
    declared-there c.program.ensures.program c.accepted-accepted.ensures c.requires.wanted c.proc-d.ensures in
    let passes = subst (λ (b : Acceptance). PassesRest b l start c.args.found (Ok u)) c.accepted-accepted.ensures
    c.in_ok-check_rest.ensures in
    rest-starts a l start c.args.found.payer c.requires.payer number d declared c.in_ok-names.names
    c.in_ok-names.ensures.finds u c.in_ok-started_by.field-0 passes c.in_ok-started_by.ensures

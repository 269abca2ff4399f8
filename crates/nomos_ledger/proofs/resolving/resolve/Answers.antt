use Rattle.std.proofs.Common.{◌≡◌, ℕ, Some, Err, subst}
use Rattle.std.proofs.lemmas.Result.{err_from_is_err_and}
use Rattle.nomos_legal.specs.Ledger.{account_of}
use Rattle.nomos_ledger.specs.mirror.Books.{BooksState}
use Rattle.nomos_ledger.specs.mirror.Resolving.{FindsPayer, IfAnswered}
use Rattle.nomos_ledger.proofs.ResolvingLemmas.{payer-refused, declaration-refused}
use Rattle.nomos_ledger.proofs.resolving.resolve.Goals as goal

pub returns-in_err-payer-clause-resolves : goal.returns-in_err-payer-clause-resolves
returns-in_err-payer-clause-resolves g c =
    let e = c.in_err-payer.field-0.0 in
    let start = c.args.start.now in
    let p = err_from_is_err_and c.from_residual.result c.from_residual.ensures.1 in
    let Answered : BooksState → Type 0 = λ b. IfAnswered {X = ℕ} (Err e) (FindsPayer b.now.accounts start) in
    let answered = subst Answered c.books.view_is c.in_err-payer.ensures in
    rw (p.1, p.2) (payer-refused c.args.arguments.now c.args.books.now.now start e answered)

pub returns-in_err-proc-clause-resolves : goal.returns-in_err-proc-clause-resolves
returns-in_err-proc-clause-resolves g c =
    let payer = c.in_ok-payer.payer in
    let start = c.args.start.now in
    let p = err_from_is_err_and c.from_residual-in_err-proc.result c.from_residual-in_err-proc.ensures.1 in
    let pays = subst (λ (b : BooksState). account_of b.now.accounts start.sender ≡ Some payer) c.books.view_is
    c.in_ok-payer.ensures in
    rw (p.1, p.2) (declaration-refused c.args.arguments.now c.args.books.now.now start payer pays
    c.in_err-proc.field-0.0 c.in_err-proc.ensures)

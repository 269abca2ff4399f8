use Rattle.std.proofs.Common.{subst}
use Rattle.nomos_answers.specs.Finding.{IsMissing}
use Rattle.nomos_answers.specs.DueLines.{fault, syntax, too_long}
use Rattle.nomos_answers.proofs.DueLemmas.{bare-of}
use Rattle.nomos_answers.proofs.SourceLemmas.{if_ok-map}
use Rattle.nomos_answers.proofs.script_found.no_script_due.Goals as goal

pub returns-in-TooLong-clause-ok : goal.returns-in-TooLong-clause-ok
returns-in-TooLong-clause-ok c = λ script over.
    if_ok-map c.line_due.result _ _ (λ due bare. bare-of script c.args.limit 2 _ due
    (too_long (subst (IsMissing script) c.in-TooLong.is over)) bare)
    c.line_due.ensures.ok

pub returns-in-Syntax-clause-ok : goal.returns-in-Syntax-clause-ok
returns-in-Syntax-clause-ok c = λ script bad.
    if_ok-map c.refused_at_due.result _ _
    (λ due bare. bare-of script c.args.limit 2 _ due
    (syntax c.in-Syntax.line (subst (IsMissing script) c.in-Syntax.is bad)) bare) c.refused_at_due.ensures.ok

pub returns-in-ReadFault-clause-ok : goal.returns-in-ReadFault-clause-ok
returns-in-ReadFault-clause-ok c = λ script rose.
    if_ok-map c.line_due-in-ReadFault.result _ _
    (λ due bare. bare-of script c.args.limit 5 _ due (fault (subst (IsMissing script) c.in-ReadFault.is rose)) bare)
    c.line_due-in-ReadFault.ensures.ok

use Rattle.std.proofs.Common.{◌≡◌, ◌∙◌, ap}
use Rattle.nomos_answers.specs.TalkDue as talks
use Rattle.nomos_answers.specs.declared.talks.NoTalk.TheVariants as no_talk
use Rattle.nomos_script.specs.declared.talk_parsing.TalkError.TheVariants as talk_error
use Rattle.nomos_answers.proofs.TalkDueLemmas.{no-talk}
use Rattle.nomos_answers.proofs.talks.no_talk_due.Goals as goal

pub returns-in-ReadFault-clause-ok : goal.returns-in-ReadFault-clause-ok
returns-in-ReadFault-clause-ok c =
    no-talk c.args.why no_talk.ReadFault c.line_due.result 5 _ c.in-ReadFault.is (λ e. cc e)
    (λ text rose. talks.fault rose) c.line_due.ensures.ok

pub returns-in-Refused-TooLong-clause-ok : goal.returns-in-Refused-TooLong-clause-ok
returns-in-Refused-TooLong-clause-ok c =
    let so : c.args.why ≡ no_talk.Refused talk_error.TooLong =
    c.in-Refused-TooLong.is ∙ ap no_talk.Refused (rw c.in-Refused-TooLong.is at c.in-Refused-TooLong.field-0-is) in
    no-talk c.args.why (no_talk.Refused talk_error.TooLong) c.line_due-in-Refused-TooLong.result 10 _ so (λ e. cc e)
    (λ text long. talks.too_long long) c.line_due-in-Refused-TooLong.ensures.ok

pub returns-in-Refused-Syntax-clause-ok : goal.returns-in-Refused-Syntax-clause-ok
returns-in-Refused-Syntax-clause-ok c =
    let k = c.in-Refused-Syntax.line in
    let so : c.args.why ≡ no_talk.Refused (talk_error.Syntax k) =
    c.in-Refused-Syntax.is ∙ ap no_talk.Refused (rw c.in-Refused-Syntax.is at c.in-Refused-Syntax.field-0-is) in
    no-talk c.args.why (no_talk.Refused (talk_error.Syntax k)) c.syntax_due.result 10 _ so (λ e. cc e)
    (λ text bad. talks.syntax k bad) c.syntax_due.ensures.ok

use Rattle.std.proofs.Common.{Err, subst}
use Rattle.nomos_accept.proofs.RefusalLemmas.{unread-never}
use Rattle.nomos_accept.proofs.causes.of_parse.Goals as goal
use Rattle.nomos_reader.specs.Parsing.{AnswersParse}
use Rattle.nomos_reader.specs.declared.parse.ParseError.{ParseError}

pub returns-in-TooLong : goal.returns-in-TooLong
returns-in-TooLong c = λ text answer.
    let found = subst (λ (e : ParseError). AnswersParse text (Err e)) c.in-TooLong.is answer in
    (record { cause = found.0; never = unread-never text found.1 }, tt)

pub returns-in-NotAscii : goal.returns-in-NotAscii
returns-in-NotAscii c = λ text answer.
    let found = subst (λ (e : ParseError). AnswersParse text (Err e)) c.in-NotAscii.is answer in
    (record { cause = found.0; never = unread-never text found.1 }, tt)

pub returns-in-Syntax : goal.returns-in-Syntax
returns-in-Syntax c = λ text answer.
    let found = subst (λ (e : ParseError). AnswersParse text (Err e)) c.in-Syntax.is answer in (
      record {
        cause = record { plain = found.plain; refused = found.refused };
        never = unread-never text found.none;
      },
      tt,
    )

pub returns-in-Limit : goal.returns-in-Limit
returns-in-Limit c = λ text answer.
    let found = subst (λ (e : ParseError). AnswersParse text (Err e)) c.in-Limit.is answer in (
      record {
        cause = record { plain = found.plain; refused = found.refused };
        never = unread-never text found.none;
      },
      tt,
    )

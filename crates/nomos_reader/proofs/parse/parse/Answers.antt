use Rattle.std.proofs.Common.{Err, sym, subst}
use Rattle.nomos_reader.proofs.LimitLaws.{answered-within}
use Rattle.nomos_reader.proofs.ParsingLaws.{tokens-answer}
use Rattle.nomos_reader.proofs.parse.parse.Goals as goal
use Rattle.nomos_reader.specs.declared.parse.ParseError.{ParseError}
use Rattle.nomos_reader.specs.Parsing.{AnswersParse}

pub returns-in-Err-clause-answer : goal.returns-in-Err-clause-answer
returns-in-Err-clause-answer c =
    let text = c.args.text.now in
    subst (λ (e : ParseError). AnswersParse text (Err e)) (sym c.of_tokens.ensures)
    (tokens-answer _ text c.in-Err.error c.in-Err.ensures.too_long.0 (λ at. (c.in-Err.ensures.not_ascii at).0))

pub returns-in-Ok-clause-limits : goal.returns-in-Ok-clause-limits
returns-in-Ok-clause-limits c = answered-within c.args.text.now c.read_tokens.result c.read_tokens.ensures

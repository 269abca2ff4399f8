-- A mirror of the code: how the errors of the calls below are handed on. No promise stands on it.
use Rattle.nomos_grammar.specs.declared.offence.GrammarError.{GrammarError}
use Rattle.nomos_grammar.specs.declared.offence.GrammarError.TheVariants as grammar
use Rattle.nomos_reader.specs.declared.parse.ParseError.{ParseError}
use Rattle.nomos_reader.specs.declared.parse.ParseError.TheVariants as error
use Rattle.nomos_syntax.specs.declared.scan.TokenError.{TokenError}
use Rattle.nomos_syntax.specs.declared.scan.TokenError.TheVariants as scan

abbrev pub of_tokens : TokenError → ParseError
of_tokens scan.TooLong = error.TooLong
of_tokens (scan.NotAscii at) = error.NotAscii at
of_tokens scan.NoMemory = error.NoMemory

abbrev pub of_grammar : GrammarError → ParseError
of_grammar (grammar.Syntax at) = error.Syntax at
of_grammar (grammar.Limit which at) = error.Limit which at
of_grammar grammar.NoMemory = error.NoMemory

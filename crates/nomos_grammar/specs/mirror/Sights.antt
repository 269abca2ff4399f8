-- A mirror of the code: what is seen of a token.
use Rattle.std.specs.Prelude.{◌≡◌}
use Rattle.nomos_syntax.specs.Lexeme.{Placed}
use Rattle.nomos_grammar.specs.declared.token_sight.TokenSight.{TokenSight}
use Rattle.nomos_grammar.specs.Producing.{terminal_of}
use Rattle.nomos_grammar.specs.mirror.ReaderStates.{PassesItself}

-- this is seen of the token
pub record IsSeen (x : Placed) (sight : TokenSight) : Type 0 where
  pub terminal : sight.terminal ≡ terminal_of x.lexeme
  pub passed : PassesItself x.lexeme sight.passed
  pub at : sight.at ≡ x.at

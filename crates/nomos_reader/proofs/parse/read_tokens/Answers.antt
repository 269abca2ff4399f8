use Rattle.std.proofs.Common.{List, Err, map, ap, sym, subst, ◌∙◌}
use Rattle.nomos_reader.proofs.ParsingLaws.{tokens-left, read-only_as, refused-answer}
use Rattle.nomos_reader.proofs.parse.read_tokens.Goals as goal
use Rattle.nomos_reader.specs.declared.parse.ParseError.{ParseError}
use Rattle.nomos_reader.specs.Readable.{AreReadable}
use Rattle.nomos_reader.specs.TreeOf.{IsTreeOf}
use Rattle.nomos_surface.specs.FileView.{file_tree}
use Rattle.nomos_reader.specs.Parsing.{AnswersParse}
use Rattle.nomos_syntax.specs.declared.token.Token.{Token}
use Rattle.nomos_syntax.specs.Lexeme.{Placed}
use Rattle.nomos_syntax.specs.Spans.{placed_of}

pub returns-in-Err : goal.returns-in-Err
returns-in-Err c =
    let text = c.args.text.now in
    subst (λ (e : ParseError). AnswersParse text (Err e)) (sym c.of_grammar.ensures)
    (refused-answer (Unit {0}) text c.in-Err.error c.requires.plain c.in-Err.ensures)

pub read_tree-requires : goal.read_tree-requires
read_tree-requires c =
    let text = c.args.text.now in
    subst (AreReadable text) (sym c.as_slice.ensures) (tokens-left text c.args.found.now c.requires.tokens
    c.in-Ok.ensures.0)

pub returns-in-Ok-read_tree : goal.returns-in-Ok-read_tree
returns-in-Ok-read_tree c =
    let text = c.args.text.now in
    let tree = file_tree c.in-Ok-read_tree.surface in
    let same = ap (λ (ts : List Token). map (placed_of text) ts) c.as_slice.ensures ∙ c.requires.tokens.same in
    read-only_as text tree c.requires.plain c.in-Ok.ensures.0 c.in-Ok.ensures.1
    (subst (λ (ts : List Placed). IsTreeOf ts tree) same c.in-Ok-read_tree.ensures)

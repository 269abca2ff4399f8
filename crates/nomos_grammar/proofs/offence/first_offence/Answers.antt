-- Each token keeps to all rules, or is the first offence.
use Rattle.std.proofs.Common.{
  ◌≡◌,
  ℕ,
  suc,
  ◌+◌,
  ◌<◌,
  List,
  [],
  ◌∷◌,
  ◌++◌,
  All,
  length,
  take,
  drop,
  get_or,
  map,
  sym,
  ap,
  subst,
  ◌∙◌,
}
use Rattle.std.proofs.lemmas.List.{length-map}
use Rattle.std.proofs.Math.ListN.{get_or-map}
use Rattle.nomos_syntax.specs.declared.token.Token.{Token}
use Rattle.nomos_syntax.specs.declared.token.TokenKind.TheVariants as kind
use Rattle.nomos_syntax.specs.Lexeme.{Placed}
use Rattle.nomos_syntax.specs.Scan.{tokens_of}
use Rattle.nomos_syntax.specs.Spans.{placed_of}
use Rattle.nomos_grammar.specs.Offence.{AllKeep}
use Rattle.nomos_grammar.specs.mirror.ReaderStates.{IsWritten}
use Rattle.nomos_grammar.specs.mirror.TokenReaders.{IsBehind}
use Rattle.nomos_grammar.proofs.NumeralLaws.{numbers_are_numerals}
use Rattle.nomos_grammar.proofs.FirstLemmas.{keep_more, map_more, map_split, answers_error, answers_so}
use Rattle.nomos_grammar.proofs.offence.first_offence.Goals as goal

written_at : (text : List ℕ) (tokens : List Token) (i : ℕ) (d : Token) →
    map (placed_of text) tokens ≡ tokens_of text → i < length tokens →
    IsWritten (placed_of text (get_or tokens i d)).lexeme
written_at text tokens i d same h =
    let all = subst (λ (ts : List Placed). All (λ token. IsWritten token.lexeme) ts) (sym same)
    (numbers_are_numerals text) in
    let within : i < length (map (placed_of text) tokens) = rw length-map h in
    subst (λ (x : Placed). IsWritten x.lexeme) (get_or-map (placed_of text) tokens i d)
    (all i (placed_of text d) within)

pub returns-in_err-read : goal.returns-in_err-read
returns-in_err-read c =
    let text = c.args.text.now in
    let items = c.as_slice-token-items.result.now in
    let i = c.loop-token.token-index in
    let d : Token = record { kind = kind.Name; from = 0; to = 0 } in
    let x = placed_of text (get_or items i d) in
    let front = map (placed_of text) (take i items) in
    let same : map (placed_of text) items
    ≡ tokens_of text = ap (map (placed_of text)) c.as_slice-token-items.ensures ∙ c.requires.tokens.same in
    answers_so (tokens_of text) (length text) c.in_err-read.field-0.0 c.from_residual-in_err-read.result
    c.from_residual-in_err-read.ensures.1
    (answers_error (Unit {0}) (Unit {0}) (tokens_of text) front (map (placed_of text) (drop (suc i) items)) x
    (length text) c.read.new.self c.in_err-read.field-0.0
    (map_split (placed_of text) items i d c.loop-token-test.true ∙ same) c.loop-token.invariant.kept
    (c.in_err-read.ensures.reads front x c.look_at.ensures c.loop-token.invariant.behind))

pub look_at-requires-clause-written : goal.look_at-requires-clause-written
look_at-requires-clause-written c =
    let text = c.args.text.now in
    let items = c.as_slice-token-items.result.now in
    let d : Token = record { kind = kind.Name; from = 0; to = 0 } in
    written_at text items c.loop-token.token-index d
    (ap (map (placed_of text)) c.as_slice-token-items.ensures ∙ c.requires.tokens.same) c.loop-token-test.true

pub loop-token-preserved : goal.loop-token-preserved
loop-token-preserved c =
    let text = c.args.text.now in
    let items = c.as_slice-token-items.result.now in
    let i = c.loop-token.token-index in
    let d : Token = record { kind = kind.Name; from = 0; to = 0 } in
    let x = placed_of text (get_or items i d) in
    let front = map (placed_of text) (take i items) in
    let more : map (placed_of text) (take (i + 1) items)
    ≡ front ++ x ∷ [] = map_more (placed_of text) items i d c.loop-token-test.true in
    let reads = c.in_ok-read.ensures.reads front x c.look_at.ensures c.loop-token.invariant.behind in
    record {
      steady = c.in_ok-read.ensures.steady;
      behind = subst (λ (ts : List Placed). IsBehind ts c.read.new.self) (sym more) reads.1;
      kept =
          subst (λ (ts : List Placed). AllKeep [] ts) (sym more)
          (keep_more [] front x c.loop-token.invariant.kept reads.0);
    }

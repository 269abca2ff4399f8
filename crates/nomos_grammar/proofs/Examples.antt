-- Small texts, what derives them, and what counts at their tokens.
use Rattle.std.proofs.Common.{◌≡◌, List, [], ◌∷◌, codes, inl, refl}
use Rattle.nomos_ir.specs.declared.word.Word.{Word}
use Rattle.nomos_ir.specs.declared.word.Word.TheVariants as word
use Rattle.nomos_syntax.specs.declared.symbol.Symbol.{Symbol}
use Rattle.nomos_syntax.specs.declared.symbol.Symbol.TheVariants as sym
use Rattle.nomos_syntax.specs.Lexeme.{Lexeme, name, reserved, number, symbol}
use Rattle.nomos_grammar.specs.declared.part.Mark.TheVariants as mark
use Rattle.nomos_grammar.specs.CountedPlaces.{depth, counts}
use Rattle.nomos_grammar.specs.Producing.{
  Event,
  token,
  mark as marked,
  nothing,
  read,
  counted,
  replaced,
  first,
  later,
  Produces,
  file,
}

-- a token, wherever it stands
abbrev pub says : Lexeme → Event
says lexeme = token (record { at = 0; lexeme = lexeme })

abbrev pub word_said : Word → Event
word_said w = says (reserved w)

abbrev pub sign_said : Symbol → Event
sign_said s = says (symbol s)

-- type R a = 1;
abbrev pub definition : List Event
definition =
    marked mark.Node ∷ word_said word.«Type» ∷ word_said word.R ∷ says (name (codes "a")) ∷ sign_said sym.Equals ∷
    marked mark.OpenPart ∷ marked mark.Node ∷ says (number (codes "1")) ∷ marked mark.ClosePart ∷
    sign_said sym.Semicolon ∷ []

pub definition_derived : Produces file definition
definition_derived =
    replaced _ (later first) (replaced _ first (counted (read (inl refl)
    (replaced _ first (read (inl refl) (read (inl refl) (read (inl refl)
    (replaced _ (later (later (later (later (later first))))) (counted
    (replaced _ (later (later (later (later first)))) (counted (read (inl refl)
    (replaced _ (later (later first)) (counted (read (inl refl)
    (replaced _ (later first) nothing))))))))))))))))

-- one production is open at the `1`, and it is the second node
pub definition_depth : depth (counts (marked mark.OpenPart ∷ marked mark.Node ∷ [])) ≡ 1
definition_depth = refl

-- let v = list {1} int, from its `list` on: the word is a node, but it is counted only behind it
pub empty_list : counts (word_said word.List ∷ marked mark.NodeBefore ∷ [])
    ≡ record { parts = 0; terms = []; nodes = 1; before = 1; stars = 0 }
empty_list = refl

-- 1 + 2 < 3 in a term: at the `3` the term, its `notx` and two operators are open
pub operators : depth (counts
    (marked mark.OpenTerm ∷ marked mark.OpenPart ∷ marked mark.Node ∷ says (number (codes "1")) ∷ marked mark.Node ∷
    sign_said sym.Plus ∷ marked mark.Operator ∷ marked mark.Node ∷ says (number (codes "2")) ∷ marked mark.Node ∷
    sign_said sym.Less ∷ marked mark.Operator ∷ marked mark.Node ∷ [])) ≡ 4
operators = refl

-- a term that is closed leaves nothing open
pub closed_term : depth (counts
    (marked mark.OpenTerm ∷ marked mark.Operator ∷ marked mark.CloseTerm ∷ [])) ≡ 0
closed_term = refl

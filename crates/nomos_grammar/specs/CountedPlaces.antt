-- What counts at a place between the tokens of a text.
use Rattle.std.specs.Prelude.{ℕ, ◌+◌, ◌-◌, List, [], ◌∷◌}
use Rattle.nomos_grammar.specs.declared.part.Mark.{Mark}
use Rattle.nomos_grammar.specs.declared.part.Mark.TheVariants as mark
use Rattle.nomos_grammar.specs.Producing.{Event, token, mark as marked}

-- What is open and what is counted behind some tokens: nesting, nodes and stars, which the limits bound.
pub record Counts : Type 0 where
  -- how many productions `type`, `vtype` and `notx`, branches and braced codes are open
  pub parts : ℕ
  -- for each open `term`, the innermost first, how many of its infix operators are read
  pub terms : List ℕ
  -- how many nodes there are, the next token among them
  pub nodes : ℕ
  -- how many nodes there are up to the token just read
  pub before : ℕ
  -- how many stars there are, the next token among them
  pub stars : ℕ

-- nothing is open, and nothing counted
abbrev pub nothing_counted : Counts
nothing_counted = record { parts = 0; terms = []; nodes = 0; before = 0; stars = 0 }

-- open terms count one each, and one for each of their operators
abbrev pub in_terms : List ℕ → ℕ
in_terms [] = 0
in_terms (n ∷ terms) = 1 + n + in_terms terms

-- how deep the next token is nested
abbrev pub depth : Counts → ℕ
depth c = c.parts + in_terms c.terms

-- one operator more in the innermost open term
abbrev pub one_operator_more : List ℕ → List ℕ
one_operator_more [] = []
one_operator_more (n ∷ terms) = (n + 1) ∷ terms

-- the open terms around the innermost one
abbrev pub outer_terms : List ℕ → List ℕ
outer_terms [] = []
outer_terms (n ∷ terms) = terms

-- A mark of the grammar opens or closes a part or a term, or counts an operator, a node or a star.
abbrev pub after_mark : Mark → Counts → Counts
after_mark mark.OpenPart c = record c { parts = c.parts + 1 }
after_mark mark.ClosePart c = record c { parts = c.parts - 1 }
after_mark mark.OpenTerm c = record c { terms = 0 ∷ c.terms }
after_mark mark.CloseTerm c = record c { terms = outer_terms c.terms }
after_mark mark.Operator c = record c { terms = one_operator_more c.terms }
after_mark mark.Node c = record c { nodes = c.nodes + 1 }
after_mark mark.NodeBefore c = record c { nodes = c.nodes + 1; before = c.before + 1 }
after_mark mark.Star c = record c { stars = c.stars + 1 }

-- When a token has been read, the nodes counted with it are those up to it.
abbrev pub after_token : Counts → Counts
after_token c = record c { before = c.nodes }

-- what counts behind the events, from what counts before them
abbrev pub counts_from : Counts → List Event → Counts
counts_from c [] = c
counts_from c (token x ∷ events) = counts_from (after_token c) events
counts_from c (marked m ∷ events) = counts_from (after_mark m c) events

-- What counts behind the events from the begin of a text.
abbrev pub counts : List Event → Counts
counts events = counts_from nothing_counted events

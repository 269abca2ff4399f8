-- A mirror of the code: its counts, as the definitions have them.
use Rattle.std.specs.Prelude.{◌≡◌, List, Option}
use Rattle.nomos_grammar.specs.declared.open_counts.Counted.{Counted}
use Rattle.nomos_grammar.specs.declared.part.Terminal.{Terminal}
use Rattle.nomos_grammar.specs.declared.part.Part.{Part}
use Rattle.nomos_grammar.specs.CountedPlaces.{Counts, in_terms}
use Rattle.nomos_grammar.specs.mirror.ReaderStates.{Settles}

abbrev pub counts_of : Counted → Counts
counts_of t = record { parts = t.parts; terms = t.terms; nodes = t.nodes; before = t.before; stars = t.stars }

-- what is kept of the terms is right
pub record IsKept (t : Counted) : Type 0 where
  pub in_terms : t.in_terms ≡ in_terms t.terms

-- the parts and the counts before, and those after the terminal is taken that is asked for
abbrev pub SettlesTo : Option Terminal → List Part → Counted → List Part → Counted → Option Terminal → Type 0
SettlesTo next parts before rest after asked = Settles next parts (counts_of before) asked rest (counts_of after)

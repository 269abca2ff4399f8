-- What counts at the tokens that parts yield, and what counts behind them.
use Rattle.std.proofs.Common.{◌≡◌, ◌+◌, List, [], ◌∷◌, ◌++◌, refl, sym, ap, subst, ◌∙◌, arith}
use Rattle.nomos_grammar.specs.declared.part.Part.{Part}
use Rattle.nomos_grammar.specs.CountedPlaces.{Counts, nothing_counted, after_mark, after_token, counts_from}
use Rattle.nomos_grammar.specs.Producing.{Event, token, mark, tokens_in, Produces, file}
use Rattle.nomos_grammar.specs.Offence.{AllKeep}
use Rattle.nomos_grammar.proofs.LimitLaws.{IsWithinLimits, kept_within}
use Rattle.nomos_surface.proofs.PrintLaws.{StandsFor}
use Rattle.nomos_surface.proofs.Yields.{Yields, ends, shows, passes, chooses, yields-derives}
use Rattle.nomos_surface.specs.Counts.{Count, nothing, nodes as nodes_alone, ◌⊕◌}
use Rattle.nomos_surface.specs.Printed.{Shown, Spells}
use Rattle.nomos_syntax.specs.Lexeme.{Placed}

-- at each token what counts is within the limits
abbrev pub Keeps : {parts : List Part} {after : List Shown} → Yields parts after → Counts → Type 0
Keeps ends c = Unit {0}
Keeps (shows suits y) c = IsWithinLimits c × Keeps y (after_token c)
Keeps (passes {m} y) c = Keeps y (after_mark m c)
Keeps (chooses side among y) c = Keeps y c

keeps_from : {parts : List Part} {after : List Shown} (y : Yields parts after) (tokens : List Placed)
    (h : Spells after tokens)
    (c : Counts) →
    ((earlier later : List Event) (x : Placed) → (yields-derives y tokens h).0 ≡ earlier ++ token x ∷ later →
    IsWithinLimits (counts_from c earlier)) → Keeps y c
unfolding yields-derives
keeps_from ends tokens h c all = tt
keeps_from (shows suits y) [] h c all = absurd h
keeps_from (shows suits y) (x ∷ tokens) h c all = (
  all [] _ x refl,
  keeps_from y tokens h.1 (after_token c)
      (λ earlier later z e. all (token x ∷ earlier) later z (ap (λ (es : List Event). token x ∷ es) e)),
)
keeps_from (passes {m} y) tokens h c all =
    keeps_from y tokens h (after_mark m c)
    (λ earlier later z e. all (mark m ∷ earlier) later z (ap (λ (es : List Event). mark m ∷ es) e))
keeps_from (chooses side among y) tokens h c all = keeps_from y tokens h c all

-- in a file whose tokens keep to all rules it is so from the beginning
pub file_keeps : {shown : List Shown} (y : Yields file shown) (tokens : List Placed) → Spells shown tokens →
    AllKeep [] tokens → Keeps y nothing_counted
file_keeps y tokens spelled kept =
    let d = yields-derives y tokens spelled in
    keeps_from y tokens spelled nothing_counted (λ earlier later x e.
    kept_within tokens earlier later x kept (subst (λ (es : List Event). Produces file es) e d.1)
    (ap tokens_in (sym e) ∙ d.2))

-- the nodes and the stars that count at a place
abbrev pub total : Counts → Count
total c = record { nodes = c.nodes; stars = c.stars }

-- as much more counts behind
pub record Adds (count : Count) (before behind : Count) : Type 0 where
  pub nodes : behind.nodes ≡ before.nodes + count.nodes
  pub stars : behind.stars ≡ before.stars + count.stars

pub none : {c : Count} → Adds nothing c c
none {c} = record { nodes = omega arith; stars = omega arith }

pub one_node : {c : Count} → Adds (nodes_alone 1) c (record { nodes = c.nodes + 1; stars = c.stars })
one_node {c} = record { nodes = refl; stars = omega arith }

pub one_star : {c : Count} → Adds (record { nodes = 0; stars = 1 }) c (record { nodes = c.nodes; stars = c.stars + 1 })
one_star {c} = record { nodes = omega arith; stars = refl }

pub joined : {a b c d e : Count} → Adds a c d → Adds b d e → Adds (a ⊕ b) c e
joined {a} {b} {c} {d} {e} first second =
    record { nodes = omega (arith, first.nodes, second.nodes); stars = omega (arith, first.stars, second.stars) }

-- what holds of the tree, and what counts behind it
pub record Walked (count : Count) (Fact : Type 0) {parts : List Part} {after : List Shown} (y : Yields parts after)
    (c : Counts) :
    Type 0 where
  pub fact : Fact
  pub behind : Counts
  pub keeps : Keeps y behind
  pub adds : Adds count (total c) (total behind)

-- so it is wherever it is printed
abbrev pub WalksFor : {p : Part} {printer : List Shown → List Shown} → StandsFor p printer → Count → Type 0 → Type 0
WalksFor stands count Fact =
    (rest : List Part) (after : List Shown) (y : Yields rest after) (c : Counts) → Keeps (stands rest after y) c →
    Walked count Fact y c

-- what adds nothing may stand before
pub quiet : {b c d e : Count} → Adds nothing c d → Adds b d e → Adds b c e
quiet {b} {c} {d} {e} first second =
    record { nodes = omega (arith, first.nodes, second.nodes); stars = omega (arith, first.stars, second.stars) }

-- and behind
pub ended : {b c d e : Count} → Adds b c d → Adds nothing d e → Adds b c e
ended {b} {c} {d} {e} first second =
    record { nodes = omega (arith, first.nodes, second.nodes); stars = omega (arith, first.stars, second.stars) }

pub regrouped : (a b : Count) {d x y z : Count} → Adds (a ⊕ b) x y → Adds d y z → Adds (a ⊕ (b ⊕ d)) x z
regrouped a b {d} {x} {y} {z} first second =
    record { nodes = omega (arith, first.nodes, second.nodes); stars = omega (arith, first.stars, second.stars) }

-- what is counted in two parts may be counted with the part before
pub grouped : {a : Count} (b d : Count) {x y z : Count} → Adds a x y → Adds (b ⊕ d) y z → Adds ((a ⊕ b) ⊕ d) x z
grouped {a} b d {x} {y} {z} first second =
    record { nodes = omega (arith, first.nodes, second.nodes); stars = omega (arith, first.stars, second.stars) }

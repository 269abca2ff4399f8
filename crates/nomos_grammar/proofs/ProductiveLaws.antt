-- Any parts derive some events.
use Rattle.std.proofs.Common.{
  ◌≡◌,
  ℕ,
  zero,
  suc,
  true,
  false,
  List,
  [],
  ◌∷◌,
  ◌++◌,
  Option,
  Some,
  None,
  is_some,
  option_map,
  codes,
  inl,
  refl,
  append_assoc,
}
use Rattle.nomos_syntax.specs.Lexeme.{Lexeme, name, reserved, number, symbol, Placed}
use Rattle.nomos_grammar.specs.declared.part.Terminal.{Terminal}
use Rattle.nomos_grammar.specs.declared.part.Terminal.TheVariants as terminal
use Rattle.nomos_grammar.specs.declared.part.Nonterminal.{Nonterminal}
use Rattle.nomos_grammar.specs.declared.part.Nonterminal.TheVariants as n
use Rattle.nomos_grammar.specs.declared.part.Part.{Part}
use Rattle.nomos_grammar.specs.declared.part.Part.TheVariants as part
use Rattle.nomos_grammar.specs.Producing.{
  Fits,
  Event,
  token,
  mark,
  IsAmong,
  first,
  later,
  Produces,
  nothing,
  read,
  counted,
  replaced,
}
use Rattle.nomos_grammar.specs.Grammar.{alternatives}
use Rattle.nomos_grammar.proofs.TableLemmas.{is_nil}

-- joined parts derive joined events
pub derives_joined : {parts more : List Part} {events others : List Event} → Produces parts events →
    Produces more others → Produces (parts ++ more) (events ++ others)
derives_joined nothing b = b
derives_joined (read f d) b = read f (derives_joined d b)
derives_joined (counted d) b = counted (derives_joined d b)
derives_joined {more = more} (replaced {rest = rest} side m d) b =
    replaced side m (rw (← append_assoc side rest more) (derives_joined d b))

-- a token that fits
example : Terminal → Lexeme
example terminal.Name = name []
example terminal.Number = number []
example terminal.One = number (codes "1")
example (terminal.Reserved w) = reserved w
example (terminal.Symbol s) = symbol s

example_fits : (t : Terminal) → Fits t (example t)
unfolding example
example_fits terminal.Name = inl refl
example_fits _ = inl refl

abbrev example_token : Terminal → Placed
example_token t = record { at = 0; lexeme = example t }

last_side : List (List Part) → List Part
last_side [] = []
last_side (side ∷ []) = side
last_side (side ∷ other ∷ sides) = last_side (other ∷ sides)

last_among : (side : List Part) (sides : List (List Part)) → IsAmong (last_side (side ∷ sides)) (side ∷ sides)
unfolding last_side
last_among side [] = first
last_among side (other ∷ sides) = later (last_among other sides)

last_of : (sides : List (List Part)) → is_nil sides ≡ false → IsAmong (last_side sides) sides
last_of [] h = cc
last_of (side ∷ sides) h = last_among side sides

-- the last alternative leads to an end, and that of codes which ends them
simplest : Nonterminal → List Part
simplest n.Code = part.Nonterminal n.Last ∷ []
simplest m = last_side (alternatives m)

simplest_among : (m : Nonterminal) → IsAmong (simplest m) (alternatives m)
unfolding simplest
simplest_among n.Code = first
simplest_among m = last_of (alternatives m) refl

-- what parts derive
record Product (parts : List Part) : Type 0 where
  events : List Event
  derived : Produces parts events

-- what they derive in so many steps
produced : ℕ → (parts : List Part) → Option (Product parts)
produced zero parts = None
produced (suc k) [] = Some (record { events = []; derived = nothing })
produced (suc k) (part.Terminal t ∷ rest) =
    option_map (λ (p : Product rest). record {
      events = token (example_token t) ∷
          p.events;
      derived = read (example_fits t) p.derived;
    }) (produced k rest)
produced (suc k) (part.Mark m ∷ rest) =
    option_map (λ (p : Product rest). record { events = mark m ∷ p.events; derived = counted p.derived })
    (produced k rest)
produced (suc k) (part.Nonterminal m ∷ rest) =
    option_map (λ (p : Product (simplest m ++ rest)).
    record { events = p.events; derived = replaced (simplest m) (simplest_among m) p.derived })
    (produced k (simplest m ++ rest))

all_produced : (m : Nonterminal) → is_some (produced 60 (part.Nonterminal m ∷ [])) ≡ true
unfolding produced simplest last_side
all_produced n.File = refl
all_produced _ = refl

from_some : {A : Type 0} (o : Option A) → is_some o ≡ true → A
from_some None h = cc
from_some (Some x) h = x

-- any parts derive some events
pub productive : (parts : List Part) → (events : List Event) × Produces parts events
productive [] = ([], nothing)
productive (part.Terminal t ∷ rest) =
    let p = productive rest in (token (example_token t) ∷ p.0, read (example_fits t) p.1)
productive (part.Mark m ∷ rest) = let p = productive rest in (mark m ∷ p.0, counted p.1)
productive (part.Nonterminal m ∷ rest) =
    let own = from_some (produced 60 (part.Nonterminal m ∷ [])) (all_produced m) in
    let p = productive rest in
    (own.events ++ p.0, derives_joined own.derived p.1)

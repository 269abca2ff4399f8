-- The next token chooses the alternative of a production, and so the tokens fix what is derived.
use Rattle.std.proofs.Common.{◌≡◌, List, [], ◌∷◌, ◌++◌, Option, None, refl, sym, ap, subst, ◌∙◌}
use Rattle.nomos_syntax.specs.Lexeme.{Placed}
use Rattle.nomos_grammar.specs.declared.part.Terminal.{Terminal}
use Rattle.nomos_grammar.specs.declared.part.Nonterminal.{Nonterminal}
use Rattle.nomos_grammar.specs.declared.part.Part.{Part}
use Rattle.nomos_grammar.specs.declared.part.Part.TheVariants as part
use Rattle.nomos_grammar.specs.Producing.{
  terminal_of,
  Event,
  token,
  mark,
  tokens_in,
  IsAmong,
  Produces,
  nothing,
  read,
  counted,
  replaced,
  file,
}
use Rattle.nomos_grammar.specs.Grammar.{alternatives}
use Rattle.nomos_grammar.specs.mirror.Table.{chosen}
use Rattle.nomos_grammar.specs.mirror.Stacks.{next_in, IsStack}
use Rattle.nomos_grammar.proofs.TableLemmas.{each_side-at, follows_well, all_follow_well, all_choose_well}
use Rattle.nomos_grammar.proofs.ChoiceLemmas.{pick_among, side_chosen, stack_joined}

-- what the next token chooses is an alternative of the production
pub chosen_among : (n : Nonterminal) (next : Option Terminal) → IsAmong (chosen n next) (alternatives n)
unfolding chosen
chosen_among n next = pick_among n (alternatives n) next (all_choose_well n)

-- Where a production stands before parts behind which stands what may stand there, what the parts derive they derive
-- with the alternative that the first token chooses.
pub chosen_derives : {n : Nonterminal} {rest : List Part} {events : List Event} →
    IsStack (part.Nonterminal n ∷ rest) → Produces (part.Nonterminal n ∷ rest) events →
    Produces (chosen n (next_in events) ++ rest) events
chosen_derives {n} {rest} {events} s (replaced side m d) =
    rw (side_chosen n side rest events (next_in events) refl s.0 m d) d

-- so it does with each of the alternatives
pub stack_replaced : (n : Nonterminal) (side rest : List Part) → IsAmong side (alternatives n) →
    IsStack (part.Nonterminal n ∷ rest) → IsStack (side ++ rest)
stack_replaced n side rest m s =
    stack_joined n side rest (each_side-at (follows_well n) (alternatives n) side (all_follow_well n) m) s.0 s.1

-- behind a file stands nothing
pub stack_file : IsStack file
stack_file = (λ t m. elim m [ ], tt)

-- what the grammar sees of the first of the tokens
unfoldable pub next_of : List Placed → Option Terminal
next_of [] = None
next_of (x ∷ tokens) = terminal_of x.lexeme

pub next_of_tokens : (events : List Event) → next_in events ≡ next_of (tokens_in events)
unfolding next_of
next_of_tokens [] = refl
next_of_tokens (token x ∷ events) = refl
next_of_tokens (mark m ∷ events) = next_of_tokens events

-- The tokens fix the events.
pub events_once : {parts : List Part} {events others : List Event} → IsStack parts → Produces parts events →
    Produces parts others → tokens_in events ≡ tokens_in others → events ≡ others
events_once s nothing nothing e = refl
events_once s (read {x = x} {events = more} f d) (read {x = y} {events = rest} g b) e =
    let same : x ≡ y = cc in
    let left : tokens_in more ≡ tokens_in rest = cc in
    let on = events_once s d b left in
    cc
events_once s (counted {m = m} d) (counted b) e = ap (λ events. mark m ∷ events) (events_once s d b e)
events_once {events = events} {others = others} s (replaced {n = n} {rest = rest} side m d) (replaced other k b) e =
    let next : next_in others ≡ next_in events = next_of_tokens others
    ∙ (ap next_of (sym e) ∙ sym (next_of_tokens events)) in
    let same : other ≡ side = sym (side_chosen n other rest others (next_in events) next s.0 k b)
    ∙ side_chosen n side rest events (next_in events) refl s.0 m d in
    events_once (stack_replaced n side rest m s) d
    (subst (λ (parts : List Part). Produces (parts ++ rest) others) same b) e

-- so a file has its tokens in one way
pub file_once : {events others : List Event} → Produces file events → Produces file others →
    tokens_in events ≡ tokens_in others → events ≡ others
file_once d b e = events_once stack_file d b e

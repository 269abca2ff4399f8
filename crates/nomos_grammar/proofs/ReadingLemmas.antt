-- How the reader goes on.
use Rattle.std.proofs.Common.{◌≡◌, ℕ, ◌+◌, ◌≤◌, List, [], ◌∷◌, ◌++◌, Option, refl, sym, ap, ◌∙◌, arith}
use Rattle.nomos_grammar.specs.declared.part.Terminal.{Terminal}
use Rattle.nomos_grammar.specs.declared.part.Nonterminal.{Nonterminal}
use Rattle.nomos_grammar.specs.declared.part.Mark.{Mark}
use Rattle.nomos_grammar.specs.declared.part.Mark.TheVariants as mark
use Rattle.nomos_grammar.specs.declared.part.Part.{Part}
use Rattle.nomos_grammar.specs.declared.part.Part.TheVariants as part
use Rattle.nomos_grammar.specs.CountedPlaces.{
  Counts,
  in_terms,
  one_operator_more,
  outer_terms,
  after_mark,
  after_token,
  counts_from,
}
use Rattle.nomos_grammar.specs.Producing.{Event, token, mark as marked, tokens_in, Produces, counted, replaced}
use Rattle.nomos_grammar.specs.mirror.Table.{chosen}
use Rattle.nomos_grammar.specs.mirror.Stacks.{next_in, rises, distance}
use Rattle.nomos_grammar.specs.mirror.ReaderStates.{events_of, HasRoom, Leads}
use Rattle.nomos_grammar.proofs.GrammarLaws.{chosen_among, chosen_derives, stack_replaced}
use Rattle.nomos_grammar.proofs.DistanceLemmas.{distance_replaced, low_replaced}

-- one mark more
events_push : (marks : List Mark) (m : Mark) (events : List Event) →
    events_of (marks ++ m ∷ []) ++ events ≡ events_of marks ++ marked m ∷ events
events_push [] m events = refl
events_push (x ∷ marks) m events = ap (λ more. marked x ∷ more) (events_push marks m events)

counts_push : (c : Counts) (marks : List Mark) (m : Mark) →
    counts_from c (events_of (marks ++ m ∷ [])) ≡ after_mark m (counts_from c (events_of marks))
counts_push c [] m = refl
counts_push c (x ∷ marks) m = counts_push (after_mark x c) marks m

-- what counts behind events that are joined
pub counts_joined : (c : Counts) (events more : List Event) →
    counts_from c (events ++ more) ≡ counts_from (counts_from c events) more
counts_joined c [] more = refl
counts_joined c (token x ∷ events) more = counts_joined (after_token c) events more
counts_joined c (marked m ∷ events) more = counts_joined (after_mark m c) events more

pub tokens_joined : (events more : List Event) → tokens_in (events ++ more) ≡ tokens_in events ++ tokens_in more
tokens_joined [] more = refl
tokens_joined (token x ∷ events) more = ap (λ xs. x ∷ xs) (tokens_joined events more)
tokens_joined (marked m ∷ events) more = tokens_joined events more

pub no_tokens_in_marks : (marks : List Mark) → tokens_in (events_of marks) ≡ []
no_tokens_in_marks [] = refl
no_tokens_in_marks (m ∷ marks) = no_tokens_in_marks marks

next_behind_marks : (marks : List Mark) (events : List Event) → next_in (events_of marks ++ events) ≡ next_in events
next_behind_marks [] events = refl
next_behind_marks (m ∷ marks) events = next_behind_marks marks events

-- a mark leaves room
fewer_terms : (terms : List ℕ) → in_terms (outer_terms terms) ≤ in_terms terms
fewer_terms [] = omega arith
fewer_terms (n ∷ terms) = omega arith

one_operator : (terms : List ℕ) → in_terms (one_operator_more terms) ≤ in_terms terms + 1
one_operator [] = omega arith
one_operator (n ∷ terms) = omega arith

room_after_mark : (m : Mark) (c : Counts) (d : ℕ) → HasRoom c (rises m + d) → HasRoom (after_mark m c) d
room_after_mark mark.OpenPart c d r =
    record {
      nested = omega (arith, r.nested);
      nodes = omega (arith, r.nodes);
      before = omega (arith, r.before);
      stars = omega (arith, r.stars);
    }
room_after_mark mark.ClosePart c d r =
    record {
      nested = omega (arith, r.nested);
      nodes = omega (arith, r.nodes);
      before = omega (arith, r.before);
      stars = omega (arith, r.stars);
    }
room_after_mark mark.OpenTerm c d r =
    record {
      nested = omega (arith, r.nested);
      nodes = omega (arith, r.nodes);
      before = omega (arith, r.before);
      stars = omega (arith, r.stars);
    }
room_after_mark mark.CloseTerm c d r =
    record {
      nested = omega (arith, r.nested, fewer_terms c.terms);
      nodes = omega (arith, r.nodes);
      before = omega (arith, r.before);
      stars = omega (arith, r.stars);
    }
room_after_mark mark.Operator c d r =
    record {
      nested = omega (arith, r.nested, one_operator c.terms);
      nodes = omega (arith, r.nodes);
      before = omega (arith, r.before);
      stars = omega (arith, r.stars);
    }
room_after_mark mark.Node c d r =
    record {
      nested = omega (arith, r.nested);
      nodes = omega (arith, r.nodes);
      before = omega (arith, r.before);
      stars = omega (arith, r.stars);
    }
room_after_mark mark.NodeBefore c d r =
    record {
      nested = omega (arith, r.nested);
      nodes = omega (arith, r.nodes);
      before = omega (arith, r.before);
      stars = omega (arith, r.stars);
    }
room_after_mark mark.Star c d r =
    record {
      nested = omega (arith, r.nested);
      nodes = omega (arith, r.nodes);
      before = omega (arith, r.before);
      stars = omega (arith, r.stars);
    }

room_less : (c : Counts) (d e : ℕ) → e ≤ d → HasRoom c d → HasRoom c e
room_less c d e h r =
    record {
      nested = omega (arith, h, r.nested);
      nodes = omega (arith, h, r.nodes);
      before = omega (arith, h, r.before);
      stars = omega (arith, h, r.stars);
    }

-- a mark is counted
behind_mark : {m : Mark} {rest : List Part} {events : List Event} → Produces (part.Mark m ∷ rest) events →
    (more : List Event) × (events ≡ marked m ∷ more) × Produces rest more
behind_mark (counted {events = more} d) = (more, refl, d)

pub leads_mark : (next : Option Terminal) (parts : List Part) (c : Counts) (marks : List Mark) (m : Mark)
    (rest : List Part) (d : Counts) → Leads next parts c marks (part.Mark m ∷ rest) d
    → Leads next parts c (marks ++ m ∷ []) rest (after_mark m d)
leads_mark next parts c marks m rest d way = record {
  counted = ap (λ k. after_mark m k) way.counted ∙ sym (counts_push c marks m);
  sound = λ events h. rw (events_push marks m events) (way.sound (marked m ∷ events) (counted h));
  complete = λ events e h.
      let found = way.complete events e h in
      let behind = behind_mark found.2 in (
        behind.0,
        found.1 ∙ (ap (λ more. events_of marks ++ more) behind.1 ∙ sym (events_push marks m behind.0)),
        behind.2,
      );
  ready = record {
    stack = way.ready.stack;
    low = way.ready.low.1;
    room = room_after_mark m d (distance rest) way.ready.room;
  };
}

-- a production is replaced
pub leads_side : (next : Option Terminal) (parts : List Part) (c : Counts) (marks : List Mark) (n : Nonterminal)
    (rest : List Part) (d : Counts) → Leads next parts c marks (part.Nonterminal n ∷ rest) d
    → Leads next parts c marks (chosen n next ++ rest) d
leads_side next parts c marks n rest d way = record {
  counted = way.counted;
  sound = λ events h. way.sound events (replaced (chosen n next) (chosen_among n next) h);
  complete = λ events e h.
      let found = way.complete events e h in
      let seen : next_in found.0 ≡ next = sym (next_behind_marks marks found.0) ∙ (ap next_in (sym found.1) ∙ e) in
      (found.0, found.1, rw seen at (chosen_derives way.ready.stack found.2));
  ready = record {
    stack = stack_replaced n (chosen n next) rest (chosen_among n next) way.ready.stack;
    low = low_replaced n (chosen n next) rest (chosen_among n next) way.ready.low;
    room =
        room_less d (distance (part.Nonterminal n ∷ rest)) (distance (chosen n next ++ rest))
        (distance_replaced n (chosen n next) rest (chosen_among n next)) way.ready.room;
  };
}

-- What a production makes of the front of some tokens, as a tree of productions.
use Rattle.std.proofs.Common.{ℕ, zero, suc, ◌≤◌, List, [], ◌∷◌, ◌++◌, arith}
use Rattle.nomos_grammar.specs.declared.part.Mark.{Mark}
use Rattle.nomos_grammar.specs.declared.part.Nonterminal.{Nonterminal}
use Rattle.nomos_grammar.specs.declared.part.Part.{Part}
use Rattle.nomos_grammar.specs.declared.part.Part.TheVariants as part
use Rattle.nomos_grammar.specs.declared.part.Terminal.{Terminal}
use Rattle.nomos_grammar.specs.Producing.{Fits, Event, token, mark, tokens_in, IsAmong, Produces, nothing, read, counted, replaced}
use Rattle.nomos_grammar.specs.Grammar.{alternatives}
use Rattle.nomos_syntax.specs.Lexeme.{Placed}

-- the part makes the tokens up to the others, and so do parts one after another
mutual
  pub data Makes : Part → List Placed → List Placed → Type 0 where
    made_token : {t : Terminal} {x : Placed} {others : List Placed} → Fits t x.lexeme
        → Makes (part.Terminal t) (x ∷ others) others
    made_mark : {m : Mark} {others : List Placed} → Makes (part.Mark m) others others
    made : {n : Nonterminal} {tokens others : List Placed} (side : List Part) →
        IsAmong side (alternatives n) → MakesAll side tokens others → Makes (part.Nonterminal n) tokens others

  pub data MakesAll : List Part → List Placed → List Placed → Type 0 where
    made_none : {others : List Placed} → MakesAll [] others others
    made_more : {p : Part} {parts : List Part} {tokens between others : List Placed} →
        Makes p tokens between → MakesAll parts between others → MakesAll (p ∷ parts) tokens others

-- how many rules a derivation has
abbrev pub rules_in : {parts : List Part} {events : List Event} → Produces parts events → ℕ
rules_in nothing = 0
rules_in (read f d) = suc (rules_in d)
rules_in (counted d) = suc (rules_in d)
rules_in (replaced side among d) = suc (rules_in d)

-- what parts make of the front of the tokens that a derivation has, and what derives the rest with no more rules
pub record Front (parts rest : List Part) (events : List Event) (n : ℕ) : Type 0 where
  pub others : List Event
  pub made : MakesAll parts (tokens_in events) (tokens_in others)
  pub derived : Produces rest others
  pub fewer : rules_in derived ≤ n

pub front_of : (n : ℕ) (parts rest : List Part) (events : List Event) (d : Produces (parts ++ rest) events)
    → rules_in d ≤ n →
    Front parts rest events n
front_of n [] rest events d le = record { others = events; made = made_none; derived = d; fewer = le }
front_of zero (p ∷ parts) rest events (read f d) le = absurd (omega (arith, le))
front_of zero (p ∷ parts) rest events (counted d) le = absurd (omega (arith, le))
front_of zero (p ∷ parts) rest events (replaced side among d) le = absurd (omega (arith, le))
front_of (suc n) (p ∷ parts) rest (token x ∷ events) (read f d) le =
    let r = front_of n parts rest events d (omega (arith, le)) in
    record {
      others = r.others;
      made = made_more (made_token f) r.made;
      derived = r.derived;
      fewer = omega (arith, r.fewer);
    }
front_of (suc n) (p ∷ parts) rest (mark m ∷ events) (counted d) le =
    let r = front_of n parts rest events d (omega (arith, le)) in
    record { others = r.others; made = made_more made_mark r.made; derived = r.derived; fewer = omega (arith, r.fewer) }
front_of (suc n) (p ∷ parts) rest events (replaced side among d) le =
    let r = front_of n side (parts ++ rest) events d (omega (arith, le)) in
    let s = front_of n parts rest r.others r.derived r.fewer in
    record {
      others = s.others;
      made = made_more (made side among r.made) s.made;
      derived = s.derived;
      fewer = omega (arith, s.fewer);
    }

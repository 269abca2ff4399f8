-- Which alternative of a production a token chooses, and what stands behind it.
use Rattle.std.proofs.Common.{
  ◌≡◌,
  Bool,
  true,
  false,
  ◌&&◌,
  ◌||◌,
  not,
  List,
  [],
  ◌∷◌,
  ◌++◌,
  Option,
  Some,
  None,
  ◌⊎◌,
  inl,
  inr,
  refl,
  ◌∙◌,
  if◌then◌else◌,
}
use Rattle.nomos_syntax.specs.Lexeme.{Lexeme}
use Rattle.nomos_grammar.specs.declared.part.Terminal.{Terminal}
use Rattle.nomos_grammar.specs.declared.part.Terminal.TheVariants as terminal
use Rattle.nomos_grammar.specs.declared.part.Nonterminal.{Nonterminal}
use Rattle.nomos_grammar.specs.declared.part.Part.{Part}
use Rattle.nomos_grammar.specs.declared.part.Part.TheVariants as part
use Rattle.nomos_grammar.specs.Producing.{
  terminal_of,
  Fits,
  Event,
  tokens_in,
  IsAmong,
  first,
  later,
  Produces,
  nothing,
  read,
  counted,
  replaced,
}
use Rattle.nomos_grammar.specs.Grammar.{alternatives}
use Rattle.nomos_grammar.specs.mirror.Table.{
  vanishes,
  has_empty,
  fitting,
  starts_within,
  is_in,
  rows_of,
  takes,
  pick,
  chosen,
}
use Rattle.nomos_grammar.specs.mirror.Stacks.{firsts, starts, may_vanish, next_in, follow, AreWithin, IsStack}
use Rattle.nomos_grammar.proofs.TerminalLemmas.{
  and_first,
  and_second,
  all_in,
  all_in-sound,
  all_in-test,
  none_in-test,
  among_left,
  among_right,
  among_either,
}
use Rattle.nomos_grammar.proofs.TableLemmas.{
  each_side-at,
  is_nil,
  begins_alike,
  all_begin_alike,
  vanishes_empty,
  all_vanish_empty,
  follows_well,
  taken_with,
  no_later,
  chooses_well,
  all_choose_well,
}

-- what follows a negation
pub or_second : (a b : Bool) → (not a || b) ≡ true → a ≡ true → b ≡ true
or_second true b h e = h
or_second false b h e = cc

-- parts that may vanish, before others
vanish_parts : (side rest : List Part) → may_vanish (side ++ rest) ≡ true →
    (may_vanish side ≡ true) × (may_vanish rest ≡ true)
vanish_parts [] rest h = (refl, h)
vanish_parts (part.Terminal t ∷ side) rest h = cc
vanish_parts (part.Mark m ∷ side) rest h = vanish_parts side rest h
vanish_parts (part.Nonterminal m ∷ side) rest h =
    let v = and_first (vanishes m) (may_vanish (side ++ rest)) h in
    let more = vanish_parts side rest (and_second (vanishes m) (may_vanish (side ++ rest)) h) in
    (rw v more.0, more.1)

-- where the empty side is among the alternatives, the production vanishes
empty_among : (sides : List (List Part)) → IsAmong [] sides → has_empty sides ≡ true
empty_among [] m = elim m [ ]
empty_among ([] ∷ sides) m = refl
empty_among ((p ∷ side) ∷ sides) (later m) = empty_among sides m

-- an alternative that may vanish is the empty one, and then the production vanishes
pub vanishing_side : (n : Nonterminal) (side : List Part) → IsAmong side (alternatives n) →
    may_vanish side ≡ true → (side ≡ []) × (vanishes n ≡ true)
vanishing_side n [] m v = (refl, empty_among (alternatives n) m)
vanishing_side n (p ∷ side) m v =
    let h = each_side-at vanishes_empty (alternatives n) (p ∷ side) (all_vanish_empty n) m in
    let e : not (may_vanish (p ∷ side)) ≡ true = h in
    let f : not true ≡ true = rw v at e in
    cc

-- parts that derive no token may vanish
no_tokens : {parts : List Part} {events : List Event} → Produces parts events → tokens_in events ≡ [] →
    may_vanish parts ≡ true
no_tokens nothing e = refl
no_tokens (read f d) e = cc
no_tokens (counted d) e = no_tokens d e
no_tokens (replaced {n} {rest} side m d) e =
    let both = vanish_parts side rest (no_tokens d e) in
    rw ((vanishing_side n side m both.0).1) both.1

-- what begins with a production, and then with parts that are joined
start_cases : (v w : Bool) (own sides rests both : List Terminal) (t : Terminal) → (IsAmong t both →
    IsAmong t sides ⊎ ((w ≡ true) × IsAmong t rests)) → IsAmong t (own ++ (if v then both else [])) →
    IsAmong t (own ++ (if v then sides else [])) ⊎ (((v && w) ≡ true) × IsAmong t rests)
start_cases true w own sides rests both t split m = elim (among_either t own both m) [
  | inl a ↦ inl (among_left t own sides a)
  | inr b ↦ elim (split b) [ inl a ↦ inl (among_right t own sides a) | inr r ↦ inr r ]
]
start_cases false w own sides rests both t split m = inl m

-- how joined parts begin
starts_joined : (side rest : List Part) (t : Terminal) → IsAmong t (starts (side ++ rest)) →
    IsAmong t (starts side) ⊎ ((may_vanish side ≡ true) × IsAmong t (starts rest))
starts_joined [] rest t m = inr (refl, m)
starts_joined (part.Terminal x ∷ side) rest t m = inl m
starts_joined (part.Mark x ∷ side) rest t m = starts_joined side rest t m
starts_joined (part.Nonterminal x ∷ side) rest t m =
    start_cases (vanishes x) (may_vanish side) (firsts x) (starts side) (starts rest) (starts (side ++ rest)) t
    (starts_joined side rest t) m

fits_itself : (t : Terminal) → IsAmong t (fitting t)
fits_itself terminal.Name = first
fits_itself _ = first

-- what fits a terminal is among the tokens that fit it
fits_among : (t : Terminal) (lexeme : Lexeme) (x : Terminal) → Fits t lexeme → terminal_of lexeme ≡ Some x →
    IsAmong x (fitting t)
fits_among t lexeme x (inl same) e = let h : t ≡ x = cc in rw h (fits_itself x)
fits_among t lexeme x (inr one) e =
    let h : terminal.One ≡ x = cc in
    let k : t ≡ terminal.Number = one.0 in
    rw (k, ← h) (later first)

-- where a production may begin, and what stands behind it where it vanishes
starts_production : (n : Nonterminal) (side rest : List Part) (t : Terminal) → IsAmong side (alternatives n) →
    IsAmong t (starts (side ++ rest)) → IsAmong t (starts (part.Nonterminal n ∷ rest))
starts_production n side rest t m s = elim (starts_joined side rest t s) [
  | inl a ↦ among_left t (firsts n) (if vanishes n then starts rest else [])
      (all_in-sound (starts side) (firsts n) (each_side-at (begins_alike n) (alternatives n) side (all_begin_alike n) m)
      t a)
  | inr b ↦ let v = (vanishing_side n side m b.0).1 in rw v (among_right t (firsts n) (starts rest) b.1)
]

-- the first token that parts derive is one with which they may begin
begins_with : {parts : List Part} {events : List Event} (t : Terminal) → Produces parts events →
    next_in events ≡ Some t → IsAmong t (starts parts)
begins_with t nothing e = cc
begins_with t (read {t = u} {x} f d) e = fits_among u x.lexeme t f e
begins_with t (counted d) e = begins_with t d e
begins_with t (replaced {n} {rest} side m d) e = starts_production n side rest t m (begins_with t d e)

-- only a bad byte is nothing to the grammar, and none is derived
next_none : {parts : List Part} {events : List Event} → Produces parts events → next_in events ≡ None →
    tokens_in events ≡ []
next_none nothing e = refl
next_none (read {t = u} {x} (inl f) d) e = cc
next_none (read {t = u} {x} (inr f) d) e = let h : terminal_of x.lexeme ≡ Some terminal.One = f.1 in cc
next_none (counted d) e = next_none d e
next_none (replaced side m d) e = next_none d e

if_true : {A : Type 0} (b : Bool) (x y : A) → b ≡ true → (if b then x else y) ≡ x
if_true true x y h = refl
if_true false x y h = cc

if_false : {A : Type 0} (b : Bool) (x y : A) → b ≡ false → (if b then x else y) ≡ y
if_false true x y h = cc
if_false false x y h = refl

takes_some : (begins : List Terminal) (t : Terminal) (b : Bool) → not (is_nil begins) ≡ true →
    is_in t begins ≡ b → takes begins (Some t) ≡ b
takes_some [] t b h e = cc
takes_some (x ∷ begins) t b h e = e

takes_none : (begins : List Terminal) → not (is_nil begins) ≡ true → takes begins None ≡ false
takes_none [] h = cc
takes_none (x ∷ begins) h = refl

no_later-at : (begins : List Terminal) (n : Nonterminal) (sides : List (List Part)) (side : List Part) (t : Terminal)
    → no_later begins n (rows_of sides) ≡ true → IsAmong side sides → IsAmong t (taken_with n side)
    → is_in t begins ≡ false
no_later-at begins n [] side t h m a = elim m [ ]
no_later-at begins n (s ∷ []) side t h first a = none_in-test (taken_with n s) begins (and_first _ _ h) t a
no_later-at begins n (s ∷ []) side t h (later m) a = elim m [ ]
no_later-at begins n (s ∷ other ∷ sides) side t h first a = none_in-test (taken_with n s) begins (and_first _ _ h) t a
no_later-at begins n (s ∷ other ∷ sides) side t h (later m) a =
    no_later-at begins n (other ∷ sides) side t (and_second _ _ h) m a

-- what is computed of a row that is not the last
record ChoosesWell (n : Nonterminal) (s : List Part) (begins : List Terminal) (more : List (List Part)) : Type 0 where
  solid : not (is_nil begins) ≡ true
  reads : not (may_vanish s) ≡ true
  taken : all_in (taken_with n s) begins ≡ true
  apart : no_later begins n (rows_of more) ≡ true
  others : chooses_well n (rows_of more) ≡ true

row_parts_of : (n : Nonterminal) (s : List Part) (begins : List Terminal) (more : List (List Part)) →
    (not (is_nil begins) && (not (may_vanish s)
    && (all_in (taken_with n s) begins && (no_later begins n (rows_of more) && chooses_well n (rows_of more)))))
    ≡ true → ChoosesWell n s begins more
row_parts_of n s begins more h =
    let h1 = and_second (not (is_nil begins))
    (not (may_vanish s) && (all_in (taken_with n s) begins
    && (no_later begins n (rows_of more) && chooses_well n (rows_of more)))) h in
    let h2 = and_second (not (may_vanish s))
    (all_in (taken_with n s) begins && (no_later begins n (rows_of more) && chooses_well n (rows_of more))) h1 in
    let h3 = and_second (all_in (taken_with n s) begins)
    (no_later begins n (rows_of more) && chooses_well n (rows_of more)) h2 in
    record {
      solid =
          and_first (not (is_nil begins))
          (not (may_vanish s) && (all_in (taken_with n s) begins
          && (no_later begins n (rows_of more) && chooses_well n (rows_of more)))) h;
      reads =
          and_first (not (may_vanish s))
          (all_in (taken_with n s) begins && (no_later begins n (rows_of more) && chooses_well n (rows_of more))) h1;
      taken =
          and_first (all_in (taken_with n s) begins) (no_later begins n (rows_of more) && chooses_well n (rows_of more))
          h2;
      apart = and_first (no_later begins n (rows_of more)) (chooses_well n (rows_of more)) h3;
      others = and_second (no_later begins n (rows_of more)) (chooses_well n (rows_of more)) h3;
    }

row_parts : (n : Nonterminal) (s other : List Part) (sides : List (List Part)) →
    chooses_well n (rows_of (s ∷ other ∷ sides)) ≡ true → ChoosesWell n s (starts_within 60 s) (other ∷ sides)
row_parts n s other [] h = row_parts_of n s (starts_within 60 s) (other ∷ []) h
row_parts n s other (x ∷ sides) h = row_parts_of n s (starts_within 60 s) (other ∷ x ∷ sides) h

-- the alternative that is taken with a token is the one that the token chooses
chosen_row : (n : Nonterminal) (sides : List (List Part)) (side : List Part) (t : Terminal) →
    chooses_well n (rows_of sides) ≡ true → IsAmong side sides → IsAmong t (taken_with n side) →
    pick (rows_of sides) (Some t) ≡ side
chosen_row n [] side t h m a = elim m [ ]
chosen_row n (s ∷ []) side t h first a = refl
chosen_row n (s ∷ []) side t h (later m) a = elim m [ ]
chosen_row n (s ∷ other ∷ sides) side t h first a =
    let p = row_parts n s other sides h in
    let begins = starts_within 60 s in
    if_true (takes begins (Some t)) s (pick (rows_of (other ∷ sides)) (Some t))
    (takes_some begins t true p.solid (all_in-test (taken_with n s) begins p.taken t a))
chosen_row n (s ∷ other ∷ sides) side t h (later m) a =
    let p = row_parts n s other sides h in
    let begins = starts_within 60 s in
    if_false (takes begins (Some t)) s (pick (rows_of (other ∷ sides)) (Some t))
    (takes_some begins t false p.solid (no_later-at begins n (other ∷ sides) side t p.apart m a))
    ∙ chosen_row n (other ∷ sides) side t p.others m a

-- the alternative that may derive no token is the one that is chosen where no token comes
vanish_row : (n : Nonterminal) (sides : List (List Part)) (side : List Part) →
    chooses_well n (rows_of sides) ≡ true → IsAmong side sides → may_vanish side ≡ true →
    pick (rows_of sides) None ≡ side
vanish_row n [] side h m v = elim m [ ]
vanish_row n (s ∷ []) side h first v = refl
vanish_row n (s ∷ []) side h (later m) v = elim m [ ]
vanish_row n (s ∷ other ∷ sides) side h first v =
    let p = row_parts n s other sides h in
    let clash : not true ≡ true = rw v at p.reads in
    cc
vanish_row n (s ∷ other ∷ sides) side h (later m) v =
    let p = row_parts n s other sides h in
    if_false (takes (starts_within 60 s) None) s (pick (rows_of (other ∷ sides)) None)
    (takes_none (starts_within 60 s) p.solid)
    ∙ vanish_row n (other ∷ sides) side p.others m v

if_among : (b : Bool) (s side : List Part) (sides : List (List Part)) → IsAmong side sides →
    IsAmong (if b then s else side) (s ∷ sides)
if_among true s side sides m = first
if_among false s side sides m = later m

-- what is chosen is an alternative
pub pick_among : (n : Nonterminal) (sides : List (List Part)) (next : Option Terminal) →
    chooses_well n (rows_of sides) ≡ true → IsAmong (pick (rows_of sides) next) sides
pick_among n [] next h = cc
pick_among n (s ∷ []) next h = first
pick_among n (s ∷ other ∷ sides) next h =
    if_among (takes (starts_within 60 s) next) s (pick (rows_of (other ∷ sides)) next) (other ∷ sides)
    (pick_among n (other ∷ sides) next (row_parts n s other sides h).others)

taken_where_begins : (n : Nonterminal) (side : List Part) (t : Terminal) → IsAmong t (starts side) →
    IsAmong t (taken_with n side)
taken_where_begins n [] t a = elim a [ ]
taken_where_begins n (p ∷ side) t a = a

taken_where_vanishes : (n : Nonterminal) (side : List Part) (t : Terminal) → side ≡ [] → IsAmong t (follow n) →
    IsAmong t (taken_with n side)
taken_where_vanishes n side t e a = rw e a

-- with which token an alternative is taken
taken_side : (n : Nonterminal) (side rest : List Part) (t : Terminal) → IsAmong side (alternatives n) →
    AreWithin (starts rest) (follow n) → IsAmong t (starts (side ++ rest)) → IsAmong t (taken_with n side)
taken_side n side rest t m behind a = elim (starts_joined side rest t a) [
  | inl s ↦ taken_where_begins n side t s
  | inr v ↦ taken_where_vanishes n side t ((vanishing_side n side m v.0).0) (behind t v.1)
]

-- an alternative of which the events derive is the one that their first token chooses
pub side_chosen : (n : Nonterminal) (side rest : List Part) (events : List Event) (next : Option Terminal) →
    next_in events ≡ next → AreWithin (starts rest) (follow n) → IsAmong side (alternatives n) →
    Produces (side ++ rest) events → chosen n next ≡ side
unfolding chosen
side_chosen n side rest events None e behind m d =
    vanish_row n (alternatives n) side (all_choose_well n) m ((vanish_parts side rest (no_tokens d (next_none d e))).0)
side_chosen n side rest events (Some t) e behind m d =
    chosen_row n (alternatives n) side t (all_choose_well n) m (taken_side n side rest t m behind (begins_with t d e))

-- the alternative keeps what may stand behind each production
pub stack_joined : (n : Nonterminal) (side rest : List Part) → follows_well n side ≡ true →
    AreWithin (starts rest) (follow n) → IsStack rest → IsStack (side ++ rest)
stack_joined n [] rest h behind s = s
stack_joined n (part.Terminal t ∷ side) rest h behind s = stack_joined n side rest h behind s
stack_joined n (part.Mark m ∷ side) rest h behind s = stack_joined n side rest h behind s
stack_joined n (part.Nonterminal m ∷ side) rest h behind s =
    let h1 = and_second (all_in (starts side) (follow m)) _ h in (
      λ t a. elim (starts_joined side rest t a) [
        | inl b ↦ all_in-sound (starts side) (follow m) (and_first _ _ h) t b
        | inr v ↦ all_in-sound (follow n) (follow m)
            (or_second (may_vanish side) (all_in (follow n) (follow m)) (and_first _ _ h1) v.0) t (behind t v.1)
      ],
      stack_joined n side rest (and_second _ _ h1) behind s,
    )

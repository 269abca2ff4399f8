-- What comes of a token that is read: each rule in turn is kept or broken.
use Rattle.std.proofs.Common.{
  ◌≡◌,
  ℕ,
  ◌≤◌,
  ◌<◌,
  nat_lt,
  Bool,
  true,
  false,
  ◌&&◌,
  ◌||◌,
  List,
  [],
  ◌∷◌,
  ◌++◌,
  Option,
  Some,
  None,
  inl,
  inr,
  refl,
  sym,
  ap,
  subst,
  ◌∙◌,
  arith,
  if◌then◌else◌,
}
use Rattle.std.proofs.lemmas.Bool.{ltb-true, ltb-false}
use Rattle.nomos_syntax.specs.Lexeme.{Lexeme, Placed}
use Rattle.nomos_syntax.specs.TextLimits.{nesting_limit, node_limit}
use Rattle.nomos_grammar.specs.declared.offence.GrammarError.TheVariants.{Syntax, Limit}
use Rattle.nomos_grammar.specs.declared.offence.Which.{Which}
use Rattle.nomos_grammar.specs.declared.offence.Which.TheVariants as which
use Rattle.nomos_grammar.specs.declared.part.Terminal.{Terminal}
use Rattle.nomos_grammar.specs.declared.part.Terminal.TheVariants as terminal
use Rattle.nomos_grammar.specs.declared.part.Part.{Part}
use Rattle.nomos_grammar.specs.declared.part.Part.TheVariants as part
use Rattle.nomos_grammar.specs.CountedPlaces.{Counts, nothing_counted, depth, after_token}
use Rattle.nomos_grammar.specs.Producing.{terminal_of, Fits, file}
use Rattle.nomos_grammar.specs.Offence.{
  star_limit,
  MayBecome,
  MayStand,
  nodes_before,
  limit,
  syntax,
  rules,
  Keeps,
  KeepsAll,
  last_offset,
}
use Rattle.nomos_grammar.specs.mirror.Table.{same}
use Rattle.nomos_grammar.specs.mirror.Stacks.{distance}
use Rattle.nomos_grammar.specs.mirror.ReaderStates.{
  HasRoom,
  IsReady,
  with_terminal,
  Settles,
  HasRead,
  PassesItself,
  BreaksBy,
  passed,
  is_asked,
}
use Rattle.nomos_grammar.proofs.TerminalLemmas.{and_first, and_second, same_decides}
use Rattle.nomos_grammar.proofs.DistanceLemmas.{low_distance, low_file}
use Rattle.nomos_grammar.proofs.GrammarLaws.{stack_file}
use Rattle.nomos_grammar.proofs.StandLemmas.{Comes, comes, may_stand, may_become, stands_so, never_fits, never_more}

-- what is asked for fits, and what fits is asked for
asked_test : (t u : Terminal) (lexeme : Lexeme) (b : Bool) → same t u ≡ b → Some u ≡ terminal_of lexeme →
    (b || (same t terminal.Number && same u terminal.One)) ≡ true → Fits t lexeme
asked_test t u lexeme true is sees h = let e : t ≡ u = (same_decides t u).0 is in inl (sym sees ∙ ap Some (sym e))
asked_test t u lexeme false is sees h =
    let e : t ≡ terminal.Number = (same_decides t terminal.Number).0
    (and_first (same t terminal.Number) (same u terminal.One) h) in
    let f : u ≡ terminal.One = (same_decides u terminal.One).0
    (and_second (same t terminal.Number) (same u terminal.One) h) in
    inr (e, sym sees ∙ ap Some f)

asked_fits : (t : Terminal) (lexeme : Lexeme) (next : Option Terminal) → next ≡ terminal_of lexeme →
    is_asked (Some t) next ≡ true → Fits t lexeme
asked_fits t lexeme None sees h = cc
asked_fits t lexeme (Some u) sees h = asked_test t u lexeme (same t u) refl sees h

or_true : (a b : Bool) → a ≡ true → (a || b) ≡ true
or_true true b h = refl
or_true false b h = cc

or_right : (a b : Bool) → b ≡ true → (a || b) ≡ true
or_right true b h = refl
or_right false b h = h

both_true : (a b : Bool) → a ≡ true → b ≡ true → (a && b) ≡ true
both_true true b h k = k
both_true false b h k = cc

fits_asked : (t : Terminal) (lexeme : Lexeme) (next : Option Terminal) → next ≡ terminal_of lexeme →
    Fits t lexeme → is_asked (Some t) next ≡ true
fits_asked t lexeme None sees (inl f) = cc
fits_asked t lexeme None sees (inr f) = let g : terminal_of lexeme ≡ Some terminal.One = f.1 in cc
fits_asked t lexeme (Some u) sees (inl f) =
    let e : t ≡ u = cc in or_true (same t u) (same t terminal.Number && same u terminal.One) ((same_decides t u).1 e)
fits_asked t lexeme (Some u) sees (inr f) =
    let g : terminal_of lexeme ≡ Some terminal.One = f.1 in
    let e : u ≡ terminal.One = cc in
    or_right (same t u) (same t terminal.Number && same u terminal.One)
    (both_true (same t terminal.Number) (same u terminal.One) ((same_decides t terminal.Number).1 f.0)
    ((same_decides u terminal.One).1 e))

-- the token may stand behind those that are read
pub record Stands (front : List Placed) (x : Placed) (rest : List Part) (d : Counts) : Type 0 where
  pub terminal : Terminal
  pub comes : Comes front x (part.Terminal terminal ∷ rest) d
  pub fits : Fits terminal x.lexeme

stands_case : (front : List Placed) (x : Placed) (asked next : Option Terminal) (rest : List Part) (d : Counts) →
    Comes front x (with_terminal asked rest) d → next ≡ terminal_of x.lexeme → is_asked asked next ≡ true →
    Stands front x rest d
stands_case front x None next rest d c sees h = cc
stands_case front x (Some t) next rest d c sees h =
    record { terminal = t; comes = c; fits = asked_fits t x.lexeme next sees h }

fails_case : (front : List Placed) (x : Placed) (asked next : Option Terminal) (rest : List Part) (d : Counts) →
    Comes front x (with_terminal asked rest) d → (asked ≡ None → rest ≡ []) → next ≡ terminal_of x.lexeme →
    is_asked asked next ≡ false → ¬ MayBecome (front ++ x ∷ [])
fails_case front x None next rest d c ended sees h =
    never_more front x d (subst (λ (parts : List Part). Comes front x parts d) (ended refl) c)
fails_case front x (Some t) next rest d c ended sees h =
    never_fits front x t rest d c (λ f. let yes = fits_asked t x.lexeme next sees f in cc)

module _ (front : List Placed) (x : Placed) (parts : List Part) (c : Counts) (next asked : Option Terminal)
    (rest : List Part) (d : Counts) (has : HasRead front parts c) (settles : Settles next parts c asked rest d)
    (sees : next ≡ terminal_of x.lexeme) where
  pub standing : is_asked asked next ≡ true → Stands front x rest d
  standing h =
      stands_case front x asked next rest d
      (comes front parts (with_terminal asked rest) c d next settles.marks x has settles.leads (sym sees)) sees h

  pub failing : is_asked asked next ≡ false → ¬ MayBecome (front ++ x ∷ [])
  failing h =
      fails_case front x asked next rest d
      (comes front parts (with_terminal asked rest) c d next settles.marks x has settles.leads (sym sees)) settles.ended
      sees h

-- the node that the token before turns out to be is one too many
pub breaks_before : (front : List Placed) (x : Placed) (rest : List Part) (d : Counts) (at : ℕ) →
    Stands front x rest d → node_limit < d.before → at ≡ last_offset front → BreaksBy front x (Limit which.Nodes at)
breaks_before front x rest d at s over last =
    let broken : ¬ Keeps front x nodes_before = λ k.
    let within = stands_so (λ (n : Counts). n.before ≤ node_limit) front x s.terminal rest d s.comes
    (k (may_become front x s.terminal rest d s.comes s.fits)) in
    omega (arith, within, over) in (
      nodes_before,
      record {
        kept_rules = [];
        other_rules =
            limit which.Name ∷ limit which.Number ∷ syntax ∷ limit which.Nesting ∷ limit which.Nodes ∷
            limit which.Stars ∷ [];
        in_order = refl;
        keeps = tt;
        broken = broken;
      },
      ap (λ n. Limit which.Nodes n) (sym last),
    )

-- it is not
pub keeps_before : (front : List Placed) (x : Placed) (rest : List Part) (d : Counts) → Stands front x rest d →
    d.before ≤ node_limit → Keeps front x nodes_before
keeps_before front x rest d s within =
    λ _. may_stand (λ (n : Counts). n.before ≤ node_limit) front x s.terminal rest d s.comes s.fits within

pub fails_before : (front : List Placed) (x : Placed) → ¬ MayBecome (front ++ x ∷ []) → Keeps front x nodes_before
fails_before front x fails = λ m. absurd (fails m)

-- the token passes a limit by itself
pub breaks_itself : (front : List Placed) (x : Placed) (w : Which) (at : ℕ) → Keeps front x nodes_before →
    PassesItself x.lexeme (Some w) → at ≡ x.at → BreaksBy front x (Limit w at)
breaks_itself front x which.Name at k p e = (
  limit which.Name,
  record {
    kept_rules = nodes_before ∷ [];
    other_rules = limit which.Number ∷ syntax ∷ limit which.Nesting ∷ limit which.Nodes ∷ limit which.Stars ∷ [];
    in_order = refl;
    keeps = (k, tt);
    broken = p;
  },
  ap (λ n. Limit which.Name n) (sym e),
)
breaks_itself front x which.Number at k p e = (
  limit which.Number,
  record {
    kept_rules = nodes_before ∷ limit which.Name ∷ [];
    other_rules = syntax ∷ limit which.Nesting ∷ limit which.Nodes ∷ limit which.Stars ∷ [];
    in_order = refl;
    keeps = (k, (p.0, tt));
    broken = p.1;
  },
  ap (λ n. Limit which.Number n) (sym e),
)
breaks_itself front x which.Nesting at k p e = absurd p
breaks_itself front x which.Nodes at k p e = absurd p
breaks_itself front x which.Stars at k p e = absurd p

-- the tokens can become no text
pub breaks_syntax : (front : List Placed) (x : Placed) (at : ℕ) → ¬ MayBecome (front ++ x ∷ []) →
    PassesItself x.lexeme None → at ≡ x.at → BreaksBy front x (Syntax at)
breaks_syntax front x at fails p e = (
  syntax,
  record {
    kept_rules = nodes_before ∷ limit which.Name ∷ limit which.Number ∷ [];
    other_rules = limit which.Nesting ∷ limit which.Nodes ∷ limit which.Stars ∷ [];
    in_order = refl;
    keeps = (fails_before front x fails, (p.0, (p.1, tt)));
    broken = fails;
  },
  ap (λ n. Syntax n) (sym e),
)

-- what counts at the token is too much
module _ (front : List Placed) (x : Placed) (rest : List Part) (d : Counts) (at : ℕ) (s : Stands front x rest d)
    (k : d.before ≤ node_limit) (p : PassesItself x.lexeme None) (e : at ≡ x.at) where
  stands_at : (P : Counts → Type 0) → MayStand P front x → P d
  stands_at P m = stands_so P front x s.terminal rest d s.comes m

  stands_with : (P : Counts → Type 0) → P d → MayStand P front x
  stands_with P h = may_stand P front x s.terminal rest d s.comes s.fits h

  at_first : KeepsAll front x (nodes_before ∷ limit which.Name ∷ limit which.Number ∷ syntax ∷ [])
  at_first = (keeps_before front x rest d s k, (p.0, (p.1, (may_become front x s.terminal rest d s.comes s.fits, tt))))

  breaks_nesting : nesting_limit < depth d → BreaksBy front x (Limit which.Nesting at)
  breaks_nesting over = (
    limit which.Nesting,
    record {
      kept_rules = nodes_before ∷ limit which.Name ∷ limit which.Number ∷ syntax ∷ [];
      other_rules = limit which.Nodes ∷ limit which.Stars ∷ [];
      in_order = refl;
      keeps = at_first;
      broken = λ m. let within = stands_at (λ (n : Counts). depth n ≤ nesting_limit) m in omega (arith, within, over);
    },
    ap (λ n. Limit which.Nesting n) (sym e),
  )

  breaks_nodes : depth d ≤ nesting_limit → node_limit < d.nodes → BreaksBy front x (Limit which.Nodes at)
  breaks_nodes low over = (
    limit which.Nodes,
    record {
      kept_rules = nodes_before ∷ limit which.Name ∷ limit which.Number ∷ syntax ∷ limit which.Nesting ∷ [];
      other_rules = limit which.Stars ∷ [];
      in_order = refl;
      keeps = (
        at_first.0,
        (
          at_first.1.0,
          (
            at_first.1.1.0,
            (at_first.1.1.1.0, (stands_with (λ (n : Counts). depth n ≤ nesting_limit) low, tt)),
          ),
        ),
      );
      broken = λ m. let within = stands_at (λ (n : Counts). n.nodes ≤ node_limit) m in omega (arith, within, over);
    },
    ap (λ n. Limit which.Nodes n) (sym e),
  )

  breaks_stars : depth d ≤ nesting_limit → d.nodes ≤ node_limit → star_limit < d.stars →
      BreaksBy front x (Limit which.Stars at)
  breaks_stars low few over = (
    limit which.Stars,
    record {
      kept_rules =
          nodes_before ∷ limit which.Name ∷ limit which.Number ∷ syntax ∷ limit which.Nesting ∷ limit which.Nodes ∷ [];
      other_rules = [];
      in_order = refl;
      keeps = (
        at_first.0,
        (
          at_first.1.0,
          (
            at_first.1.1.0,
            (
              at_first.1.1.1.0,
              (
                stands_with (λ (n : Counts). depth n ≤ nesting_limit) low,
                (stands_with (λ (n : Counts). n.nodes ≤ node_limit) few, tt),
              ),
            ),
          ),
        ),
      );
      broken = λ m. let within = stands_at (λ (n : Counts). n.stars ≤ star_limit) m in omega (arith, within, over);
    },
    ap (λ n. Limit which.Stars n) (sym e),
  )

  count_cases : (a b c : Bool) → nat_lt nesting_limit (depth d) ≡ a → nat_lt node_limit d.nodes ≡ b →
      nat_lt star_limit d.stars ≡ c → (w : Which) →
      (if a then Some which.Nesting else (if b then Some which.Nodes else (if c then Some which.Stars else None)))
      ≡ Some w → BreaksBy front x (Limit w at)
  count_cases true b c f g h w i =
      let same : which.Nesting ≡ w = cc in
      subst (λ (v : Which). BreaksBy front x (Limit v at)) same (breaks_nesting (ltb-true nesting_limit (depth d) f))
  count_cases false true c f g h w i =
      let same : which.Nodes ≡ w = cc in
      subst (λ (v : Which). BreaksBy front x (Limit v at)) same
      (breaks_nodes (ltb-false nesting_limit (depth d) f) (ltb-true node_limit d.nodes g))
  count_cases false false true f g h w i =
      let same : which.Stars ≡ w = cc in
      subst (λ (v : Which). BreaksBy front x (Limit v at)) same
      (breaks_stars (ltb-false nesting_limit (depth d) f) (ltb-false node_limit d.nodes g)
      (ltb-true star_limit d.stars h))
  count_cases false false false f g h w i = cc

  pub breaks_count : (w : Which) → passed d ≡ Some w → BreaksBy front x (Limit w at)
  breaks_count w i =
      count_cases (nat_lt nesting_limit (depth d)) (nat_lt node_limit d.nodes) (nat_lt star_limit d.stars) refl refl
      refl w i

  keeps_cases : (a b c : Bool) → nat_lt nesting_limit (depth d) ≡ a → nat_lt node_limit d.nodes ≡ b →
      nat_lt star_limit d.stars ≡ c →
      (if a then Some which.Nesting else (if b then Some which.Nodes else (if c then Some which.Stars else None)))
      ≡ None → KeepsAll front x rules
  keeps_cases true b c f g h i = cc
  keeps_cases false true c f g h i = cc
  keeps_cases false false true f g h i = cc
  keeps_cases false false false f g h i = (
    at_first.0,
    (
      at_first.1.0,
      (
        at_first.1.1.0,
        (
          at_first.1.1.1.0,
          (
            stands_with (λ (n : Counts). depth n ≤ nesting_limit) (ltb-false nesting_limit (depth d) f),
            (
              stands_with (λ (n : Counts). n.nodes ≤ node_limit) (ltb-false node_limit d.nodes g),
              (stands_with (λ (n : Counts). n.stars ≤ star_limit) (ltb-false star_limit d.stars h), tt),
            ),
          ),
        ),
      ),
    ),
  )

  -- the token keeps to all rules
  pub keeps_all : passed d ≡ None → KeepsAll front x rules
  keeps_all i =
      keeps_cases (nat_lt nesting_limit (depth d)) (nat_lt node_limit d.nodes) (nat_lt star_limit d.stars) refl refl
      refl i

-- the offset of the token just read
pub last_read : (front : List Placed) (x : Placed) → last_offset (front ++ x ∷ []) ≡ x.at
last_read [] x = refl
last_read (y ∷ []) x = refl
last_read (y ∷ z ∷ front) x = last_read (z ∷ front) x

-- where no limit is passed, there is room again
record IsWithin (d : Counts) : Type 0 where
  low : depth d ≤ nesting_limit
  few : d.nodes ≤ node_limit
  stars : d.stars ≤ star_limit

within_cases : (d : Counts) (a b c : Bool) → nat_lt nesting_limit (depth d) ≡ a → nat_lt node_limit d.nodes ≡ b →
    nat_lt star_limit d.stars ≡ c →
    (if a then Some which.Nesting else (if b then Some which.Nodes else (if c then Some which.Stars else None))) ≡ None
    → IsWithin d
within_cases d true b c f g h i = cc
within_cases d false true c f g h i = cc
within_cases d false false true f g h i = cc
within_cases d false false false f g h i =
    record {
      low = ltb-false nesting_limit (depth d) f;
      few = ltb-false node_limit d.nodes g;
      stars = ltb-false star_limit d.stars h;
    }

room_again : (d : Counts) (n : ℕ) → passed d ≡ None → n ≤ 40 → HasRoom (after_token d) n
room_again d n i near =
    let w = within_cases d (nat_lt nesting_limit (depth d)) (nat_lt node_limit d.nodes) (nat_lt star_limit d.stars) refl
    refl refl i in
    record {
      nested = omega (arith, w.low, near);
      nodes = omega (arith, w.few, near);
      before = omega (arith, w.few, near);
      stars = omega (arith, w.stars, near);
    }

pub ready_again : (asked next : Option Terminal) (rest : List Part) (d : Counts) →
    IsReady (with_terminal asked rest) d → is_asked asked next ≡ true → passed d ≡ None → IsReady rest (after_token d)
ready_again None next rest d ready h i = cc
ready_again (Some t) next rest d ready h i = record {
  stack = ready.stack;
  low = ready.low.1;
  room = room_again d (distance rest) i (low_distance rest ready.low.1);
}

-- a file may follow
pub ready_first : IsReady file nothing_counted
ready_first =
    let near = low_distance file low_file in
    record {
      stack = stack_file;
      low = low_file;
      room =
          record {
            nested = omega (arith, near);
            nodes = omega (arith, near);
            before = omega (arith, near);
            stars = omega (arith, near);
          };
    }

-- What is computed of the table of the grammar, for each production.
use Rattle.std.proofs.Common.{
  ◌≡◌,
  nat_lt,
  nat_le,
  nat_eq,
  length,
  Bool,
  true,
  false,
  ◌&&◌,
  ◌||◌,
  not,
  List,
  [],
  ◌∷◌,
  refl,
}
use Rattle.nomos_grammar.specs.declared.part.Terminal.{Terminal}
use Rattle.nomos_grammar.specs.declared.part.Nonterminal.{Nonterminal}
use Rattle.nomos_grammar.specs.declared.part.Nonterminal.TheVariants as n
use Rattle.nomos_grammar.specs.declared.part.Part.{Part}
use Rattle.nomos_grammar.specs.declared.part.Part.TheVariants as part
use Rattle.nomos_grammar.specs.Producing.{IsAmong, first, later}
use Rattle.nomos_grammar.specs.Grammar.{alternatives}
use Rattle.nomos_grammar.specs.mirror.Table.{TableRow, rows}
use Rattle.nomos_grammar.specs.mirror.Stacks.{firsts, starts, may_vanish, follow, rises, rank, distance}
use Rattle.nomos_grammar.proofs.TerminalLemmas.{and_first, and_second, all_in, none_in}

-- each right side passes
abbrev pub each_side : (List Part → Bool) → List (List Part) → Bool
each_side p [] = true
each_side p (side ∷ sides) = p side && each_side p sides

pub each_side-at : (p : List Part → Bool) (sides : List (List Part)) (side : List Part) →
    each_side p sides ≡ true → IsAmong side sides → p side ≡ true
each_side-at p [] side h m = elim m [ ]
each_side-at p (s ∷ sides) side h first = and_first (p s) (each_side p sides) h
each_side-at p (s ∷ sides) side h (later m) = each_side-at p sides side (and_second (p s) (each_side p sides) h) m

abbrev pub is_nil : {A : Type 0} → List A → Bool
is_nil [] = true
is_nil (x ∷ xs) = false

-- each alternative begins as the production does
abbrev pub begins_alike : Nonterminal → List Part → Bool
begins_alike n side = all_in (starts side) (firsts n)

pub all_begin_alike : (n : Nonterminal) → each_side (begins_alike n) (alternatives n) ≡ true
unfolding firsts
all_begin_alike n.File = refl
all_begin_alike _ = refl

-- an alternative that may derive no token is empty
abbrev pub vanishes_empty : List Part → Bool
vanishes_empty side = is_nil side || not (may_vanish side)

pub all_vanish_empty : (n : Nonterminal) → each_side vanishes_empty (alternatives n) ≡ true
all_vanish_empty n.File = refl
all_vanish_empty _ = refl

-- behind each production in the side stands what may stand there, where the side stands for this production
abbrev pub follows_well : Nonterminal → List Part → Bool
follows_well n [] = true
follows_well n (part.Terminal t ∷ rest) = follows_well n rest
follows_well n (part.Mark m ∷ rest) = follows_well n rest
follows_well n (part.Nonterminal m ∷ rest) =
    all_in (starts rest) (follow m) && ((not (may_vanish rest) || all_in (follow n) (follow m)) && follows_well n rest)

pub all_follow_well : (n : Nonterminal) → each_side (follows_well n) (alternatives n) ≡ true
unfolding firsts follow
all_follow_well n.File = refl
all_follow_well _ = refl

-- with which tokens the side is taken in the place of this production
abbrev pub taken_with : Nonterminal → List Part → List Terminal
taken_with n [] = follow n
taken_with n (p ∷ side) = starts (p ∷ side)

-- no later row is taken with one of these
abbrev pub no_later : List Terminal → Nonterminal → List TableRow → Bool
no_later begins n [] = true
no_later begins n (r ∷ rows) = none_in (taken_with n r.side) begins && no_later begins n rows

-- each row but the last is chosen by just those tokens with which it is taken
abbrev pub chooses_well : Nonterminal → List TableRow → Bool
chooses_well n [] = false
chooses_well n (r ∷ []) = is_nil r.begins
chooses_well n (r ∷ other ∷ rows) =
    not (is_nil r.begins) && (not (may_vanish r.side)
    && (all_in (taken_with n r.side) r.begins
    && (no_later r.begins n (other ∷ rows) && chooses_well n (other ∷ rows))))

pub all_choose_well : (n : Nonterminal) → chooses_well n (rows n) ≡ true
unfolding firsts follow
all_choose_well n.File = refl
all_choose_well _ = refl

-- an alternative that is not empty comes nearer to a token, and is short
abbrev pub comes_nearer : Nonterminal → List Part → Bool
comes_nearer n side = is_nil side || (nat_lt (distance side) (rank n) && nat_lt (length side) 20)

pub all_come_nearer : (n : Nonterminal) → each_side (comes_nearer n) (alternatives n) ≡ true
unfolding rank
all_come_nearer n.File = refl
all_come_nearer _ = refl

-- no mark among the parts adds to a count
abbrev pub never_rises : List Part → Bool
never_rises [] = true
never_rises (part.Mark m ∷ rest) = nat_eq (rises m) 0 && never_rises rest
never_rises (p ∷ rest) = never_rises rest

-- each end of the side is near to a token, and adds nothing where it may vanish
abbrev pub stays_low : List Part → Bool
stays_low [] = true
stays_low (p ∷ rest) =
    nat_le (distance (p ∷ rest)) 40 && ((not (may_vanish (p ∷ rest)) || never_rises (p ∷ rest)) && stays_low rest)

pub all_stay_low : (n : Nonterminal) → each_side stays_low (alternatives n) ≡ true
unfolding rank
all_stay_low n.File = refl
all_stay_low _ = refl

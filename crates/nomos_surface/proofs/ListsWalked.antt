-- What counts where lists are printed, from what counts in each member.
use Rattle.std.proofs.Common.{List, [], ◌∷◌, map}
use Rattle.nomos_grammar.specs.declared.part.Nonterminal.{Nonterminal}
use Rattle.nomos_grammar.specs.declared.part.Part.{Part}
use Rattle.nomos_grammar.specs.Producing.{IsAmong}
use Rattle.nomos_grammar.specs.Grammar.{alternatives, the, sign as sign_part}
use Rattle.nomos_surface.proofs.PrintLaws.{StandsFor, more_stand, parted_stand, list_stand, each_mapped, each_kept}
use Rattle.nomos_surface.proofs.Walked.{none, joined, WalksFor}
use Rattle.nomos_surface.specs.Counts.{Count, in_each}
use Rattle.nomos_surface.specs.Grammatical.{Each}
use Rattle.nomos_surface.specs.Printed.{Printer}
use Rattle.nomos_syntax.specs.declared.symbol.Symbol.{Symbol}

-- what counts in each, and what holds of each
abbrev pub EachWalks : {X : Type 0} (item : Part) (f : X → Printer) (count : X → Count) (Fact : X → Type 0)
    (xs : List X) →
    Each (StandsFor item) (map f xs) → Type 0
EachWalks item f count Fact [] each = Unit {0}
EachWalks item f count Fact (x ∷ xs) each =
    WalksFor {p = item} {printer = f x} each.0 (count x) (Fact x) × EachWalks item f count Fact xs each.1

module _ {X : Type 0} (f : X → Printer) (count : X → Count) (Fact : X → Type 0) (more : Nonterminal) (item : Part)
    (sep : Symbol)
    (again : IsAmong (sign_part sep ∷ item ∷ the more ∷ []) (alternatives more))
    (empty : IsAmong [] (alternatives more)) where
  pub more_walk : (xs : List X) (each : Each (StandsFor item) (map f xs)) → EachWalks item f count Fact xs each →
      WalksFor (more_stand more item sep again empty (map f xs) each) (in_each count xs) (Each Fact xs)
  unfolding more_stand
  more_walk [] each walks rest after y c k = record { fact = tt; behind = _; keeps = k; adds = none }
  more_walk (x ∷ xs) each walks rest after y c k =
      let r = walks.0 _ _ _ _ k.1 in
      let m = more_walk xs each.1 walks.1 _ _ _ _ r.keeps in
      record { fact = (r.fact, m.fact); behind = _; keeps = m.keeps; adds = joined r.adds m.adds }

  pub list_walks : (whole : Nonterminal) (some : IsAmong (item ∷ the more ∷ []) (alternatives whole))
      (none_there : IsAmong [] (alternatives whole)) (xs : List X) (each : Each (StandsFor item) (map f xs)) →
      EachWalks item f count Fact xs each →
      WalksFor (list_stand more item sep again empty whole some none_there (map f xs) each) (in_each count xs)
      (Each Fact xs)
  unfolding list_stand parted_stand
  list_walks whole some none_there [] each walks rest after y c k = record
      { fact = tt; behind = _; keeps = k; adds = none }
  list_walks whole some none_there (x ∷ xs) each walks rest after y c k =
      let r = walks.0 _ _ _ _ k in
      let m = more_walk xs each.1 walks.1 _ _ _ _ r.keeps in
      record { fact = (r.fact, m.fact); behind = _; keeps = m.keeps; adds = joined r.adds m.adds }

pub each_mapped_walks : {X : Type 0} (item : Part) (f : X → Printer) (count : X → Count) (Fact : X → Type 0)
    (stands : (x : X) → StandsFor item (f x)) →
    ((x : X) → WalksFor {p = item} {printer = f x} (stands x) (count x) (Fact x)) → (xs : List X) →
    EachWalks item f count Fact xs (each_mapped (StandsFor item) f stands xs)
unfolding each_mapped
each_mapped_walks item f count Fact stands walks [] = tt
each_mapped_walks item f count Fact stands walks (x ∷ xs) =
    (walks x, each_mapped_walks item f count Fact stands walks xs)

pub each_kept_walks : {X : Type 0} (item : Part) (Q : X → Type 0) (f : X → Printer) (count : X → Count)
    (Fact : X → Type 0)
    (stands : (x : X) → Q x → StandsFor item (f x)) →
    ((x : X) (is : Q x) → WalksFor {p = item} {printer = f x} (stands x is) (count x) (Fact x)) → (xs : List X)
    (are : Each Q xs) → EachWalks item f count Fact xs (each_kept Q (StandsFor item) f stands xs are)
unfolding each_kept
each_kept_walks item Q f count Fact stands walks [] are = tt
each_kept_walks item Q f count Fact stands walks (x ∷ xs) are =
    (walks x are.0, each_kept_walks item Q f count Fact stands walks xs are.1)

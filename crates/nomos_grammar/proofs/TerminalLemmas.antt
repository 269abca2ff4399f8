-- Terminals and lists of them.
use Rattle.std.proofs.Common.{
  ◌≡◌,
  Bool,
  true,
  false,
  ◌&&◌,
  ◌||◌,
  not,
  List,
  [],
  ◌∷◌,
  ◌++◌,
  Decides,
  ◌⊎◌,
  inl,
  inr,
  refl,
  ap,
}
use denote.Enum.Bare.{same_true, true_same}
use Rattle.nomos_ir.specs.contracts.word.Word.{the_type as word_type}
use Rattle.nomos_syntax.specs.contracts.symbol.Symbol.{the_type as symbol_type}
use Rattle.nomos_grammar.specs.declared.part.Terminal.{Terminal}
use Rattle.nomos_grammar.specs.declared.part.Terminal.TheVariants as t
use Rattle.nomos_grammar.specs.Producing.{IsAmong, first, later}
use Rattle.nomos_grammar.specs.mirror.Table.{same, is_in}

pub and_first : (a b : Bool) → (a && b) ≡ true → a ≡ true
and_first true b h = refl
and_first false b h = cc

pub and_second : (a b : Bool) → (a && b) ≡ true → b ≡ true
and_second true b h = h
and_second false b h = cc

pub same_decides : (x y : Terminal) → Decides (same x y) (x ≡ y)
same_decides t.Name t.Name = (λ h. refl, λ h. refl)
same_decides t.Number t.Number = (λ h. refl, λ h. refl)
same_decides t.One t.One = (λ h. refl, λ h. refl)
same_decides (t.Reserved w) (t.Reserved v) =
    (λ h. ap t.Reserved (same_true word_type tt w v h), λ h. let e : w ≡ v = cc in true_same word_type w v e)
same_decides (t.Symbol w) (t.Symbol v) =
    (λ h. ap t.Symbol (same_true symbol_type tt w v h), λ h. let e : w ≡ v = cc in true_same symbol_type w v e)
same_decides x y = (λ h. cc, λ h. cc)

found_or_later : (x y : Terminal) (all : List Terminal) (b : Bool) → (b ≡ true → y ≡ x) → (is_in x all ≡ true →
    IsAmong x all) → (b || is_in x all) ≡ true → IsAmong x (y ∷ all)
found_or_later x y all true here there h = let e : y ≡ x = here refl in rw e first
found_or_later x y all false here there h = later (there h)

-- what the test finds is there
pub is_in-sound : (x : Terminal) (all : List Terminal) → is_in x all ≡ true → IsAmong x all
is_in-sound x [] h = cc
is_in-sound x (y ∷ all) h = found_or_later x y all (same y x) (same_decides y x).0 (is_in-sound x all) h

-- each of these is in that list
abbrev pub all_in : List Terminal → List Terminal → Bool
all_in [] all = true
all_in (x ∷ some) all = is_in x all && all_in some all

pub all_in-sound : (some all : List Terminal) → all_in some all ≡ true → (x : Terminal) → IsAmong x some → IsAmong x all
all_in-sound [] all h x m = elim m [ ]
all_in-sound (y ∷ some) all h x first = is_in-sound y all (and_first (is_in y all) (all_in some all) h)
all_in-sound (y ∷ some) all h x (later m) = all_in-sound some all (and_second (is_in y all) (all_in some all) h) x m

-- none of these is in that list
abbrev pub none_in : List Terminal → List Terminal → Bool
none_in [] all = true
none_in (x ∷ some) all = not (is_in x all) && none_in some all

pub all_in-test : (some all : List Terminal) → all_in some all ≡ true → (x : Terminal) → IsAmong x some →
    is_in x all ≡ true
all_in-test [] all h x m = elim m [ ]
all_in-test (y ∷ some) all h x first = and_first (is_in y all) (all_in some all) h
all_in-test (y ∷ some) all h x (later m) = all_in-test some all (and_second (is_in y all) (all_in some all) h) x m

not_true : (b : Bool) → not b ≡ true → b ≡ false
not_true true h = cc
not_true false h = refl

pub none_in-test : (some all : List Terminal) → none_in some all ≡ true → (x : Terminal) → IsAmong x some →
    is_in x all ≡ false
none_in-test [] all h x m = elim m [ ]
none_in-test (y ∷ some) all h x first = not_true (is_in y all) (and_first (not (is_in y all)) (none_in some all) h)
none_in-test (y ∷ some) all h x (later m) =
    none_in-test some all (and_second (not (is_in y all)) (none_in some all) h) x m

-- one of two lists joined
pub among_left : {A : Type 0} (x : A) (xs ys : List A) → IsAmong x xs → IsAmong x (xs ++ ys)
among_left x [] ys m = elim m [ ]
among_left x (y ∷ xs) ys first = first
among_left x (y ∷ xs) ys (later m) = later (among_left x xs ys m)

pub among_right : {A : Type 0} (x : A) (xs ys : List A) → IsAmong x ys → IsAmong x (xs ++ ys)
among_right x [] ys m = m
among_right x (y ∷ xs) ys m = later (among_right x xs ys m)

-- one of two lists joined is in the one or in the other
pub among_either : {A : Type 0} (x : A) (xs ys : List A) → IsAmong x (xs ++ ys) → IsAmong x xs ⊎ IsAmong x ys
among_either x [] ys m = inr m
among_either x (y ∷ xs) ys first = inl first
among_either x (y ∷ xs) ys (later m) = elim (among_either x xs ys m) [ inl a ↦ inl (later a) | inr b ↦ inr b ]

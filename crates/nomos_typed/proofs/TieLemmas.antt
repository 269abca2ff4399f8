-- Names have the providers and users that their modes ask for exactly where sorted numbers are the same.
use Rattle.std.proofs.Common.{◌≡◌, ◌≤◌, ◌<◌, ◌+◌, ◌↔◌, ◌∙◌, inl, inr, ℕ, true, false, List, [], ◌∷◌, map, filter, length, All, Option, Some, None, IsSome, option_and_then, slice_get, refl, ap, subst, sym, arith}
use Rattle.std.proofs.lemmas.Bool.{cases_eq}
use Rattle.std.proofs.lemmas.Map.Keys.{sorted_head, sorted_tail}
use Rattle.std.proofs.lemmas.List.Elements.{All-weaker}
use Rattle.std.proofs.lemmas.Option.{slice_get_within}
use Rattle.std.specs.Ordering.{nat_cmp}
use Rattle.nomos_contents.specs.Data.{state_of}
use Rattle.nomos_contents.specs.declared.data.StateData.{StateData}
use Rattle.nomos_ir.specs.Order.{count_of}
use Rattle.nomos_ir.specs.Program.{IsProgram}
use Rattle.nomos_ir.specs.declared.ids.TypeId.{TypeId}
use Rattle.nomos_ir.specs.declared.mode.Mode.{Mode}
use Rattle.nomos_ir.specs.declared.mode.Mode.TheVariants as mode
use Rattle.nomos_machine.specs.Objects.{times, mentioned}
use Rattle.nomos_machine.specs.State.{NameTypes, type_of}
use Rattle.nomos_machine.specs.TypedState.{IsOwned}
use Rattle.nomos_machine.proofs.NameLaws.{type_of-first, type_of-further}
use Rattle.nomos_machine.specs.declared.object.Object.{Object}
use Rattle.nomos_types.proofs.ModeLaws.{mode-exists}
use Rattle.nomos_types.specs.Modes.{HasMode}
use Rattle.nomos_typed.proofs.CountLemmas.{above-first, count-below, count-flat, count-gone, count-kept, count-other, count-own}
use Rattle.nomos_typed.specs.Owning.{AreNamesMentioned, AreNamesOwned}
use Rattle.nomos_typed.specs.declared.tie.Often.{Often}
use Rattle.nomos_typed.specs.declared.tie.Often.TheVariants as often
use Rattle.nomos_typed.specs.declared.tie.Tie.{Tie}
use Rattle.nomos_typed.specs.declared.tie.Tie.TheVariants as tie
use Rattle.nomos_typed.specs.declared.told.Told.{Told}
use Rattle.nomos_typed.specs.mirror.Ties.{AreTied, IsOften, all_tied, is_limited, is_once, limited, mode_in, once, tied, times_at, times_for}
use Rattle.nomos_typed.specs.mirror.ComparedWith.{AreInOrder, FindsType, IsTold, acceptance_of, program_of}

abbrev keys : NameTypes → List ℕ
keys types = map (λ t. t.0) types

-- ---- names of a table

-- a name that has a type stands once
pub key-once : (types : NameTypes) (n : ℕ) (t : TypeId) → AreInOrder types → type_of types n ≡ Some t
    → count_of n (keys types) ≡ 1
key-once [] n t up found = absurd cc
key-once (e ∷ types) n t up found = elim (cases_eq e.0 n) [
  | inl same ↦
      let over : All (λ m. e.0 < m) (keys types) =
      above-first e.0 (keys types) (sorted_head nat_cmp e.0 (keys types) up) in
      let none : count_of n (keys types) ≡ 0 =
      count-below n (keys types)
      (All-weaker (λ m. e.0 < m) (λ m. n < m) (λ m more. omega (arith, same, more)) (keys types) over) in
      let own = count-own e.0 (keys types) in
      let at : count_of n (e.0 ∷ keys types) ≡ 1 + count_of n (keys types) =
      subst (λ (m : ℕ). count_of m (e.0 ∷ keys types) ≡ 1 + count_of m (keys types)) same own in
      omega (arith, at, none)
  | inr other ↦
      count-other n e.0 (keys types) other
      ∙ key-once types n t (sorted_tail nat_cmp e.0 (keys types) up) (sym (type_of-further e types n other) ∙ found)
]

-- one that has none does not
pub key-none : (types : NameTypes) (n : ℕ) → type_of types n ≡ None → count_of n (keys types) ≡ 0
key-none [] n none = refl
key-none (e ∷ types) n none = elim (cases_eq e.0 n) [
  | inl same ↦ let some = type_of-first e types n same in absurd cc
  | inr other ↦
      count-other n e.0 (keys types) other ∙ key-none types n (sym (type_of-further e types n other) ∙ none)
]

-- ---- modes of names

module _ (told : Told) (is_told : IsTold told) where
  -- a mode of a name is that of its type
  pub mode-typed : (n : ℕ) (t : TypeId) (m : Mode) → type_of told.types.now n ≡ Some t
      → HasMode (program_of told) t m → mode_in told n ≡ Some m
  mode-typed n t m found has =
      ap (option_and_then (λ (u : TypeId). slice_get told.modes.now u.0)) found ∙ is_told.modes.own t m has

  typed-some : (o : Option TypeId) (m : Mode) → IsProgram (program_of told)
      → option_and_then (λ (u : TypeId). slice_get told.modes.now u.0) o ≡ Some m
      → (t : TypeId) × (o ≡ Some t) × HasMode (program_of told) t m
  typed-some None m is_program is = absurd cc
  typed-some (Some t) m is_program is =
      let within : t.0 < length told.modes.now = slice_get_within told.modes.now t.0 m is in
      let (k, has) = mode-exists (program_of told) t is_program (omega (arith, within, is_told.modes.each)) in
      let same : k ≡ m = let own = is_told.modes.own t k has in cc in
      (t, refl, subst (λ (l : Mode). HasMode (program_of told) t l) same has)

  pub typed-mode : IsProgram (program_of told) → (n : ℕ) (m : Mode) → mode_in told n ≡ Some m
      → (t : TypeId) × (type_of told.types.now n ≡ Some t) × HasMode (program_of told) t m
  typed-mode is_program n m is = typed-some (type_of told.types.now n) m is_program is

  -- where the name has no type of the program it has no mode
  untyped-mode : (o : Option TypeId) → ((t : TypeId) → o ≡ Some t → length (program_of told).types ≤ t.0)
      → option_and_then (λ (u : TypeId). slice_get told.modes.now u.0) o ≡ None
  untyped-mode None over = refl
  untyped-mode (Some t) over = beyond (slice_get told.modes.now t.0) refl
    where
      beyond : (r : Option Mode) → slice_get told.modes.now t.0 ≡ r → r ≡ None
      beyond None is = refl
      beyond (Some m) is =
          let within : t.0 < length told.modes.now = slice_get_within told.modes.now t.0 m is in
          let high = over t refl in
          absurd (omega (arith, within, high, is_told.modes.each))

  pub mode-none : (n : ℕ) → FindsType told n None → mode_in told n ≡ None
  mode-none n over = untyped-mode (type_of told.types.now n) over

  -- ---- each name as often as its mode asks for

  module _ (is_program : IsProgram (program_of told)) (tie : Tie) (objects : List Object) where
    abbrev EachTied : Type 0
    EachTied = (n : ℕ) (m : Mode) → mode_in told n ≡ Some m
        → IsOften (times_at tie m) (times (tied tie) objects n)

    abbrev found_at : ℕ → ℕ
    found_at n = count_of n (filter (limited told tie) (all_tied tie objects))

    abbrev wanted_at : ℕ → ℕ
    wanted_at n = count_of n (filter (once told tie) (keys told.types.now))

    all-times : (n : ℕ) → count_of n (all_tied tie objects) ≡ times (tied tie) objects n
    all-times n = count-flat (tied tie) objects n

    found-kept : (n : ℕ) → limited told tie n ≡ true → found_at n ≡ times (tied tie) objects n
    found-kept n kept = count-kept n (limited told tie) (all_tied tie objects) kept ∙ all-times n

    found-gone : (n : ℕ) → limited told tie n ≡ false → found_at n ≡ 0
    found-gone n gone = count-gone n (limited told tie) (all_tied tie objects) gone

    wanted-one : (n : ℕ) (t : TypeId) → type_of told.types.now n ≡ Some t → once told tie n ≡ true → wanted_at n ≡ 1
    wanted-one n t found kept =
        count-kept n (once told tie) (keys told.types.now) kept ∙ key-once told.types.now n t is_told.types found

    wanted-none : (n : ℕ) → once told tie n ≡ false → wanted_at n ≡ 0
    wanted-none n gone = count-gone n (once told tie) (keys told.types.now) gone

    -- a name whose number of times is known
    at-name : (n : ℕ) (o : Often) (t : TypeId) → type_of told.types.now n ≡ Some t
        → times_for tie (mode_in told n) ≡ o → (found_at n ≡ wanted_at n) ↔ IsOften o (times (tied tie) objects n)
    at-name n often.Once t found is =
        let left = found-kept n (ap is_limited is) in
        let right = wanted-one n t found (ap is_once is) in
        (λ same. omega (arith, left, right, same), λ one. omega (arith, left, right, one))
    at-name n often.Never t found is =
        let left = found-kept n (ap is_limited is) in
        let right = wanted-none n (ap is_once is) in
        (λ same. omega (arith, left, right, same), λ none. omega (arith, left, right, none))
    at-name n often.AnyTimes t found is =
        let left = found-gone n (ap is_limited is) in
        let right = wanted-none n (ap is_once is) in
        (λ same. tt, λ any. left ∙ sym right)

    tied-each : AreTied told tie objects → EachTied
    tied-each are n m is =
        let (t, found, has) = typed-mode is_program n m is in
        (at-name n (times_at tie m) t found (ap (times_for tie) is)).0 (are n)

    each-tied : EachTied → AreTied told tie objects
    each-tied each n = at-mode (mode_in told n) refl
      where
        at-mode : (o : Option Mode) → mode_in told n ≡ o → found_at n ≡ wanted_at n
        at-mode (Some m) is =
            let (t, found, has) = typed-mode is_program n m is in
            (at-name n (times_at tie m) t found (ap (times_for tie) is)).1 (each n m is)
        at-mode None is =
            let any : times_for tie (mode_in told n) ≡ often.AnyTimes = ap (times_for tie) is in
            found-gone n (ap is_limited any) ∙ sym (wanted-none n (ap is_once any))

  -- ---- all names

  module _ (is_program : IsProgram (program_of told)) (state : StateData)
      (types : told.types.now ≡ state.types) where
    abbrev AreAllTied : Type 0
    AreAllTied = AreTied told tie.Provides state.objects
        × AreTied told tie.Uses state.objects
        × AreTied told tie.Shares state.objects

    abbrev Owned : Mode → ℕ → Type 0
    Owned m name = IsOwned m (state_of state) name

    pub tied-owned : AreAllTied → AreNamesOwned (acceptance_of told) state
    tied-owned are name t m found has = by-mode m here
      where
        here : mode_in told name ≡ Some m
        here = mode-typed name t m (ap (λ (l : NameTypes). type_of l name) types ∙ found) has

        by-mode : (k : Mode) → mode_in told name ≡ Some k → Owned k name
        by-mode mode.R is =
            let provides = tied-each is_program tie.Provides state.objects are.0 name mode.R is in
            let uses = tied-each is_program tie.Uses state.objects are.1 name mode.R is in
            (provides, omega (arith, uses))
        by-mode mode.L is =
            let provides = tied-each is_program tie.Provides state.objects are.0 name mode.L is in
            let uses = tied-each is_program tie.Uses state.objects are.1 name mode.L is in
            (provides, uses, refl)
        by-mode mode.T is =
            let provides = tied-each is_program tie.Provides state.objects are.0 name mode.T is in
            let uses = tied-each is_program tie.Uses state.objects are.1 name mode.T is in
            (provides, uses, refl)
        by-mode mode.S is = (tied-each is_program tie.Shares state.objects are.2 name mode.S is, refl)

    owned-here : AreNamesOwned (acceptance_of told) state → (name : ℕ) (m : Mode) → mode_in told name ≡ Some m
        → Owned m name
    owned-here owned name m is =
        let (t, found, has) = typed-mode is_program name m is in
        owned name t m (ap (λ (l : NameTypes). type_of l name) (sym types) ∙ found) has

    owned-provides : AreNamesOwned (acceptance_of told) state → AreTied told tie.Provides state.objects
    owned-provides owned = each-tied is_program tie.Provides state.objects by-mode
      where
        by-mode : (n : ℕ) (m : Mode) → mode_in told n ≡ Some m
            → IsOften (times_at tie.Provides m) (times (tied tie.Provides) state.objects n)
        by-mode n mode.R is = (owned-here owned n mode.R is).0
        by-mode n mode.L is = (owned-here owned n mode.L is).0
        by-mode n mode.T is = (owned-here owned n mode.T is).0
        by-mode n mode.S is = tt

    owned-uses : AreNamesOwned (acceptance_of told) state → AreTied told tie.Uses state.objects
    owned-uses owned = each-tied is_program tie.Uses state.objects by-mode
      where
        by-mode : (n : ℕ) (m : Mode) → mode_in told n ≡ Some m
            → IsOften (times_at tie.Uses m) (times (tied tie.Uses) state.objects n)
        by-mode n mode.R is = let uses = (owned-here owned n mode.R is).1 in omega (arith, uses)
        by-mode n mode.L is = (owned-here owned n mode.L is).1
        by-mode n mode.T is = (owned-here owned n mode.T is).1
        by-mode n mode.S is = tt

    owned-shares : AreNamesOwned (acceptance_of told) state → AreTied told tie.Shares state.objects
    owned-shares owned = each-tied is_program tie.Shares state.objects by-mode
      where
        by-mode : (n : ℕ) (m : Mode) → mode_in told n ≡ Some m
            → IsOften (times_at tie.Shares m) (times (tied tie.Shares) state.objects n)
        by-mode n mode.S is = (owned-here owned n mode.S is).0
        by-mode n mode.R is = tt
        by-mode n mode.L is = tt
        by-mode n mode.T is = tt

    pub owned-exact : AreAllTied ↔ AreNamesOwned (acceptance_of told) state
    owned-exact = (tied-owned, λ owned. (owned-provides owned, owned-uses owned, owned-shares owned))

-- ---- names that are mentioned

key-some : (types : NameTypes) (n : ℕ) → AreInOrder types → IsSome (type_of types n) ↔ (1 ≤ count_of n (keys types))
key-some types n up = by-type (type_of types n) refl
  where
    by-type : (o : Option TypeId) → type_of types n ≡ o → IsSome o ↔ (1 ≤ count_of n (keys types))
    by-type (Some t) is = (λ some. omega (arith, key-once types n t up is), λ there. refl)
    by-type None is = (λ some. absurd cc, λ there. absurd (omega (arith, there, key-none types n is)))

pub mentioned-exact : (state : StateData) (found numbers : List ℕ) → AreInOrder state.types
    → found ≡ all_tied tie.Mentions state.objects → numbers ≡ keys state.types
    → ((n : ℕ) → (1 ≤ count_of n found) ↔ (1 ≤ count_of n numbers)) ↔ AreNamesMentioned state
mentioned-exact state found numbers up left right = (
  λ each n.
      let there = each n in
      let some = key-some state.types n up in (
        λ typed. omega (arith, times-found n, there.1 (omega (arith, typed-found n, some.0 typed))),
        λ times. some.1 (omega (arith, typed-found n, there.0 (omega (arith, times-found n, times)))),
      ),
  λ are n.
      let some = key-some state.types n up in (
        λ there. omega (arith, typed-found n, some.0 ((are n).1 (omega (arith, times-found n, there)))),
        λ there. omega (arith, times-found n, (are n).0 (some.1 (omega (arith, typed-found n, there)))),
      ),
)
  where
    times-found : (n : ℕ) → count_of n found ≡ times mentioned state.objects n
    times-found n = ap (count_of n) left ∙ count-flat mentioned state.objects n

    typed-found : (n : ℕ) → count_of n numbers ≡ count_of n (keys state.types)
    typed-found n = ap (count_of n) right

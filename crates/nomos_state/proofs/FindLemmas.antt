-- What is found first, where tallies tell who does it.
use Rattle.std.proofs.Common.{◌≡◌, ◌≤◌, ◌∙◌, ◌==◌, ℕ, Bool, true, false, cond, List, [], ◌∷◌, ◌++◌, Option, Some, None, Contains, option_and_then, ◌+◌, refl, sym, ap, subst, arith, eqb-true}
use Rattle.std.proofs.lemmas.List.Sums.{sum_by-cons}
use Rattle.std.specs.List.{list_any}
use Rattle.std.specs.Option.{option_map, option_to_list}
use Rattle.nomos_deeds.proofs.WalkLaws.{and-told}
use Rattle.nomos_ir.specs.Order.{count_of}
use Rattle.nomos_ir.specs.declared.mode.Mode.{Mode}
use Rattle.nomos_ir.specs.declared.mode.Mode.TheVariants as mode
use Rattle.nomos_types.proofs.OccurrenceLaws.{count-append, count-here}
use Rattle.nomos_deeds.specs.Readers.{keeper, stands_for}
use Rattle.nomos_deeds.specs.SeenObjects.{seen_message, seen_process}
use Rattle.nomos_machine.specs.Objects.{carried, message_of, object_at, object_number, process_of, shared_of, times, used}
use Rattle.nomos_machine.specs.Sight.{is_offered, is_read_on, message_on, offering, owner, same_way, user_of}
use Rattle.nomos_machine.specs.State.{State}
use Rattle.nomos_machine.specs.declared.object.Object.{Object}
use Rattle.nomos_machine.specs.declared.object.Object.TheVariants as object
use Rattle.nomos_machine.specs.declared.object.Process.{Process}
use Rattle.nomos_machine.proofs.NameLaws.{names-told}
use Rattle.nomos_machine.proofs.PutLaws.{object_at-found}
use Rattle.nomos_state.specs.NameUses.{DoesAt}
use Rattle.nomos_state.specs.Tallying.{names_of}
use Rattle.nomos_state.specs.declared.tally.NameUse.TheVariants as doing
use Rattle.nomos_state.proofs.CountLaws.{find-none, find-one}
use Rattle.nomos_state.specs.NameFinding.{doing_of}

-- ---- who passes a test does it

read-does : (way : Bool) (name : ℕ) (o : Object) → is_read_on way name o ≡ true
    → 1 ≤ count_of name (names_of (doing_of way) o)
read-does way name (object.Process p) is = absurd cc
read-does way name (object.Message m) is = by_way way m.to_client refl both.0
  where
    both : (same_way way m.to_client ≡ true) × ((m.from == name) ≡ true)
    both = and-told (same_way way m.to_client) (m.from == name) is

    first : (more : List ℕ) → 1 ≤ count_of name (m.from ∷ more)
    first more = omega (arith, count-here name m.from more (eqb-true m.from name both.1))

    by_way : (w b : Bool) → m.to_client ≡ b → same_way w b ≡ true
        → 1 ≤ count_of name (names_of (doing_of w) (object.Message m))
    by_way true true to same =
        subst (λ (b : Bool). 1 ≤ count_of name (cond b (m.from ∷ []) (option_to_list m.next))) (sym to) (first [])
    by_way false false to same =
        subst (λ (b : Bool). 1 ≤ count_of name (cond b (option_to_list m.next) (m.from ∷ []) ++ carried m.payload))
        (sym to)
        (first (carried m.payload))
    by_way true false to same = absurd cc
    by_way false true to same = absurd cc

offers-does : (name : ℕ) (o : Object) → is_offered name o ≡ true → 1 ≤ count_of name (names_of doing.Provides o)
offers-does name (object.Process p) is = omega (arith, count-here name p.offers [] (eqb-true p.offers name is))
offers-does name (object.Message m) is = absurd cc

pub uses-does : (name : ℕ) (o : Object) → list_any (λ n. n == name) (used o) ≡ true
    → 1 ≤ count_of name (names_of doing.Uses o)
uses-does name o is = (names-told (used o) name).0 is

-- ---- nobody does it

module _ (objects : List Object) (name : ℕ) where
  pub message-nobody : (way : Bool) → times (names_of (doing_of way)) objects name ≡ 0
      → None ≡ option_map seen_message (message_on objects way name)
  message-nobody way none =
      sym (ap (λ (o : Option Object). option_map seen_message (option_and_then message_of o))
      (find-none (names_of (doing_of way)) name (is_read_on way name) (read-does way name) objects none))

  pub offering-nobody : times (names_of doing.Provides) objects name ≡ 0
      → None ≡ option_map seen_process (offering objects name)
  offering-nobody none =
      sym (ap (λ (o : Option Object). option_map seen_process (option_and_then process_of o))
      (find-none (names_of doing.Provides) name (is_offered name) (offers-does name) objects none))

  -- ---- one object does it

  module _ (number : ℕ) where
    pub message-one : (way : Bool) → times (names_of (doing_of way)) objects name ≡ 1
        → (does : DoesAt (names_of (doing_of way)) objects number name)
        → option_map seen_message (option_and_then message_of (cond (is_read_on way name does.0) (Some does.0) None))
        ≡ option_map seen_message (message_on objects way name)
    message-one way one does =
        let (o, there, did) = does in
        sym (ap (λ (r : Option Object). option_map seen_message (option_and_then message_of r))
        (find-one (names_of (doing_of way)) name (is_read_on way name) (read-does way name) o objects one
        (object_at-found number o objects there).1 did))

    pub offering-one : times (names_of doing.Provides) objects name ≡ 1
        → (does : DoesAt (names_of doing.Provides) objects number name)
        → option_map seen_process (option_and_then process_of (cond (is_offered name does.0) (Some does.0) None))
        ≡ option_map seen_process (offering objects name)
    offering-one one does =
        let (o, there, did) = does in
        sym (ap (λ (r : Option Object). option_map seen_process (option_and_then process_of r))
        (find-one (names_of doing.Provides) name (is_offered name) (offers-does name) o objects one
        (object_at-found number o objects there).1 did))

module _ (s : State) (name : ℕ) where
  pub owner-nobody : times (names_of doing.Uses) s.objects name ≡ 0 → None ≡ owner s name
  owner-nobody none =
      sym (ap (option_map object_number)
      (find-none (names_of doing.Uses) name (λ o. list_any (λ n. n == name) (used o)) (uses-does name) s.objects none))

  -- the one object that uses the name is the first that does
  pub user-one : (o : Object) → times (names_of doing.Uses) s.objects name ≡ 1 → Contains s.objects o
      → 1 ≤ count_of name (names_of doing.Uses o) → user_of s.objects name ≡ Some o
  user-one o one inside did =
      let test : Object → Bool = λ e. list_any (λ n. n == name) (used e) in
      find-one (names_of doing.Uses) name test (uses-does name) o s.objects one inside did
      ∙ ap (λ (b : Bool). cond b (Some o) None) (told (test o) refl)
    where
      told : (b : Bool) → list_any (λ n. n == name) (used o) ≡ b → b ≡ true
      told true is = refl
      told false is = absurd (omega (arith, (names-told (used o) name).1 is))

  pub owner-one : (number : ℕ) → times (names_of doing.Uses) s.objects name ≡ 1
      → DoesAt (names_of doing.Uses) s.objects number name → Some number ≡ owner s name
  owner-one number one (o, there, did) =
      let (numbered, inside) = object_at-found number o s.objects there in
      sym (ap (option_map object_number) (user-one o one inside did) ∙ ap (λ (n : ℕ). Some n) numbered)

-- ---- who stands for a shared name: it provides it, or has it as base

-- the names that an object provides, and the one that it has as base
abbrev kept : Object → List ℕ
kept o = names_of doing.Provides o ++ names_of doing.Bases o

count-kept : (name : ℕ) (o : Object)
    → count_of name (kept o) ≡ count_of name (names_of doing.Provides o) + count_of name (names_of doing.Bases o)
count-kept name o = count-append name (names_of doing.Provides o) (names_of doing.Bases o)

times-kept : (name : ℕ) (objects : List Object)
    → times kept objects name ≡ times (names_of doing.Provides) objects name + times (names_of doing.Bases) objects name
times-kept name [] = refl
times-kept name (o ∷ objects) =
    omega (
      arith,
      sum_by-cons (λ (e : Object). count_of name (kept e)) o objects,
      sum_by-cons (λ (e : Object). count_of name (names_of doing.Provides e)) o objects,
      sum_by-cons (λ (e : Object). count_of name (names_of doing.Bases e)) o objects,
      count-kept name o,
      times-kept name objects,
    )

stands-does : (name : ℕ) (o : Object) → stands_for name o ≡ true → 1 ≤ count_of name (kept o)
stands-does name (object.Message m) is = absurd cc
stands-does name (object.Process p) is = by_mode p.mode is
  where
    Kept : Type 0
    Kept = 1 ≤ count_of name (kept (object.Process p))

    parts : count_of name (kept (object.Process p))
        ≡ count_of name (p.offers ∷ []) + count_of name (option_to_list p.base)
    parts = count-kept name (object.Process p)

    by_mode : (m : Mode) → list_any (λ n. n == name) (shared_of m p.offers p.base) ≡ true → Kept
    by_mode mode.S among = omega (arith, parts, (names-told (p.offers ∷ []) name).0 among)
    by_mode mode.L among = omega (arith, parts, (names-told (option_to_list p.base) name).0 among)
    by_mode mode.R among = absurd cc
    by_mode mode.T among = absurd cc

module _ (objects : List Object) (name : ℕ) where
  pub keeper-nobody : times (names_of doing.Provides) objects name ≡ 0 → times (names_of doing.Bases) objects name ≡ 0
      → None ≡ keeper objects name
  keeper-nobody provides bases =
      let none : times kept objects name ≡ 0 = omega (arith, times-kept name objects, provides, bases) in
      sym (ap (λ (o : Option Object). option_map (λ p. p.pid) (option_and_then process_of o))
      (find-none kept name (stands_for name) (stands-does name) objects none))

  module _ (number : ℕ) where
    -- the one object that keeps the name is the keeper, if it stands for it
    kept-one : times kept objects name ≡ 1 → (o : Object) → object_at objects number ≡ Some o
        → 1 ≤ count_of name (kept o) → cond (stands_for name o) (Some number) None ≡ keeper objects name
    kept-one one o there did =
        let (numbered, inside) = object_at-found number o objects there in
        sym (ap pid (find-one kept name (stands_for name) (stands-does name) o objects one inside did)
        ∙ by_object o numbered)
      where
        pid : Option Object → Option ℕ
        pid o = option_map (λ p. p.pid) (option_and_then process_of o)

        by_test : (p : Process) → p.pid ≡ number → (b : Bool)
            → pid (cond b (Some (object.Process p)) None) ≡ cond b (Some number) None
        by_test p numbered true = ap (λ (n : ℕ). Some n) numbered
        by_test p numbered false = refl

        by_object : (e : Object) → object_number e ≡ number
            → pid (cond (stands_for name e) (Some e) None) ≡ cond (stands_for name e) (Some number) None
        by_object (object.Message m) numbered = refl
        by_object (object.Process p) numbered = by_test p numbered (stands_for name (object.Process p))

    pub keeper-provides : times (names_of doing.Provides) objects name ≡ 1
        → times (names_of doing.Bases) objects name ≡ 0
        → (does : DoesAt (names_of doing.Provides) objects number name)
        → cond (stands_for name does.0) (Some number) None ≡ keeper objects name
    keeper-provides one none does =
        let (o, there, did) = does in
        kept-one (omega (arith, times-kept name objects, one, none)) o there (omega (arith, count-kept name o, did))

    pub keeper-bases : times (names_of doing.Provides) objects name ≡ 0
        → times (names_of doing.Bases) objects name ≡ 1
        → (does : DoesAt (names_of doing.Bases) objects number name)
        → cond (stands_for name does.0) (Some number) None ≡ keeper objects name
    keeper-bases none one does =
        let (o, there, did) = does in
        kept-one (omega (arith, times-kept name objects, one, none)) o there (omega (arith, count-kept name o, did))

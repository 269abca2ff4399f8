-- What is found first among the objects that are kept, and among the names, is the lowest one that is sought.
use Rattle.std.proofs.Common.{◌≡◌, ◌∙◌, ℕ, Bool, true, false, cond, List, [], ◌∷◌, map, find, Option, Some, None, refl, sym, ap}
use Rattle.std.specs.Option.{MatchOption, option_map}
use Rattle.nomos_types.specs.Acceptance.{Acceptance, IsAccepted}
use Rattle.nomos_machine.specs.Objects.{object_number, process_of}
use Rattle.nomos_machine.specs.Optional.{◌>>=◌}
use Rattle.nomos_machine.specs.Run.{IsNextReady, NoneReady}
use Rattle.nomos_machine.specs.State.{State}
use Rattle.nomos_machine.specs.TypedState.{IsTyped}
use Rattle.nomos_machine.specs.declared.object.Object.{Object}
use Rattle.nomos_machine.specs.declared.object.Object.TheVariants as object
use Rattle.nomos_machine.specs.declared.object.Process.{Process}
use Rattle.nomos_machine.proofs.PutLaws.{InOrder}
use Rattle.nomos_deeds.specs.Lowest.{FindsNext}
use Rattle.nomos_deeds.specs.ProcessWalks.{is_acquiring, is_over, is_ready_in, is_transaction}
use Rattle.nomos_deeds.specs.Readers.{IsTransaction, IsWaiting}
use Rattle.nomos_deeds.proofs.WalkLaws as walk
use Rattle.nomos_plain.specs.Parts.{object_in}
use Rattle.nomos_plain.specs.declared.plain_object.PlainObject.{PlainObject}
use Rattle.nomos_plain.proofs.FindLemmas.{find_mapped}

-- what is found passes
find-passed : {X : Type 0} (passes : X → Bool) (xs : List X) (x : X) → find passes xs ≡ Some x → passes x ≡ true
find-passed passes [] x found = absurd cc
find-passed {X} passes (e ∷ xs) x found = at (find-passed passes xs x) (passes e) refl found
  where
    at : (find passes xs ≡ Some x → passes x ≡ true) → (b : Bool) → passes e ≡ b
        → cond b (Some e) (find passes xs) ≡ Some x → passes x ≡ true
    at rest true is found = let same : e ≡ x = cc in ap passes (sym same) ∙ is
    at rest false is found = rest found

-- the number of the process that an object is
abbrev pid_in : Option Object → Option ℕ
pid_in o = option_map (λ p. p.pid) (o >>= process_of)

-- The first object that is kept and passes is the first one that passes, and its number is that of a process.
module _ (after : ℕ) (test : Process → Bool) (objects : List PlainObject) (found : Option PlainObject)
    (is : found ≡ find (λ o. is_over after test (object_in o)) objects) where
  first-kept : option_map object_in found ≡ find (is_over after test) (map object_in objects)
  first-kept = ap (option_map object_in) is ∙ find_mapped object_in (is_over after test) objects

  number-kept : pid_in (option_map object_in found) ≡ option_map object_number (option_map object_in found)
  number-kept = at (option_map object_in found) (sym first-kept)
    where
      at : (o : Option Object) → find (is_over after test) (map object_in objects) ≡ o
          → pid_in o ≡ option_map object_number o
      at (Some (object.Process p)) found = refl
      at (Some (object.Message m)) found =
          let passed : false ≡ true =
          find-passed (is_over after test) (map object_in objects) (object.Message m) found
          in
          absurd cc
      at None found = refl

pub transactions-next : (after : ℕ) (objects : List PlainObject) → InOrder (map object_in objects)
    → (found : Option PlainObject) → found ≡ find (λ o. is_over after is_transaction (object_in o)) objects
    → (answer : Option ℕ) → answer ≡ pid_in (option_map object_in found)
    → FindsNext (IsTransaction (map object_in objects)) after answer
transactions-next after objects order found is answer same =
    walk.transactions-next after (map object_in objects) order (option_map object_in found)
    (first-kept after is_transaction objects found is) answer
    (same ∙ number-kept after is_transaction objects found is)

pub waiting-next : (a : Acceptance) (after : ℕ) (objects : List PlainObject) → InOrder (map object_in objects)
    → (found : Option PlainObject) → found ≡ find (λ o. is_over after (is_acquiring a) (object_in o)) objects
    → (answer : Option ℕ) → answer ≡ pid_in (option_map object_in found)
    → FindsNext (IsWaiting a (map object_in objects)) after answer
waiting-next a after objects order found is answer same =
    walk.waiting-next a after (map object_in objects) order (option_map object_in found)
    (first-kept after (is_acquiring a) objects found is) answer
    (same ∙ number-kept after (is_acquiring a) objects found is)

pub ready-next : (a : Acceptance) (s : State) → IsAccepted a → IsTyped a s → (after : ℕ) (objects : List PlainObject)
    → s.objects ≡ map object_in objects
    → (found : Option PlainObject) → found ≡ find (λ o. is_over after (is_ready_in a s) (object_in o)) objects
    → (answer : Option ℕ) → answer ≡ pid_in (option_map object_in found)
    → MatchOption answer (NoneReady a s after) (IsNextReady a s after)
ready-next a s accepted typed after objects kept found is answer same =
    walk.ready-next a s accepted typed after (map object_in objects) kept (option_map object_in found)
    (first-kept after (is_ready_in a s) objects found is) answer
    (same ∙ number-kept after (is_ready_in a s) objects found is)

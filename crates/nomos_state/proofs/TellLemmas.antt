-- What the object of a number does with a name.
use Rattle.std.proofs.Common.{◌≡◌, ◌∙◌, ◌==◌, ◌||◌, ℕ, Bool, true, false, cond, List, [], Option, Some, None, option_and_then, refl, sym, ap, arith}
use Rattle.std.proofs.lemmas.Option.{same_Some}
use Rattle.std.specs.List.{list_any}
use Rattle.std.specs.Option.{option_map, option_to_list}
use Rattle.nomos_ir.specs.Bindings.{bound_to}
use Rattle.nomos_ir.specs.Order.{count_of}
use Rattle.nomos_ir.proofs.SumLaws.{count-after_unbind}
use Rattle.nomos_deeds.specs.Readers.{stands_for}
use Rattle.nomos_deeds.specs.SeenObjects.{seen_message, seen_process}
use Rattle.nomos_machine.specs.Objects.{message_of, object_at, process_of, provided, used}
use Rattle.nomos_machine.specs.Sight.{is_offered, is_read_on}
use Rattle.nomos_machine.specs.declared.object.Message.{Message}
use Rattle.nomos_machine.specs.declared.object.Object.{Object}
use Rattle.nomos_machine.specs.declared.object.Object.TheVariants as object
use Rattle.nomos_machine.specs.declared.object.Process.{Process}
use Rattle.nomos_machine.proofs.NameLaws.{names-told}
use Rattle.nomos_types.proofs.OccurrenceLaws.{count-here}
use Rattle.nomos_state.specs.NameUses.{DoesAt}

-- an object does this with a name, where the name is among those with which it does
pub told-does : (does : Object → List ℕ) (objects : List Object) (number name : ℕ) (o : Object)
    → object_at objects number ≡ Some o → list_any (λ k. k == name) (does o) ≡ true → DoesAt does objects number name
told-does does objects number name o there among = (o, there, (names-told (does o) name).0 among)

-- a process provides what it offers
pub offered-does : (objects : List Object) (number name : ℕ) (p : Process)
    → object_at objects number ≡ Some (object.Process p) → (p.offers == name) ≡ true
    → DoesAt provided objects number name
offered-does objects number name p there is =
    told-does provided objects number name (object.Process p) there (ap (λ (b : Bool). b || false) is)

-- what holds of whether the object of a number stands for a shared name, holds of whichever object has the number
pub stands-told : (objects : List Object) (number shared : ℕ) (e o : Object) → object_at objects number ≡ Some e
    → object_at objects number ≡ Some o → (b : Bool) → b ≡ stands_for shared e
    → cond b (Some number) None ≡ cond (stands_for shared o) (Some number) None
stands-told objects number shared e o there here b is =
    ap (λ (t : Bool). cond t (Some number) None) (is ∙ ap (stands_for shared) (same_Some e o (sym there ∙ here)))

-- a process uses the name that a variable has
pub bound-does : (objects : List Object) (number name variable : ℕ) (p : Process)
    → object_at objects number ≡ Some (object.Process p) → bound_to variable p.channels ≡ Some name
    → DoesAt used objects number name
bound-does objects number name variable p there bound =
    let one = ap (λ (o : Option ℕ). count_of name (option_to_list o)) bound in (
      object.Process p,
      there,
      omega (arith, count-after_unbind name variable p.channels, one, count-here name name [] refl),
    )

-- the message that is read on the name and goes this way, or none, is what is seen of the object
pub read-seen : (objects : List Object) (number name : ℕ) (to_client : Bool) (m : Message) (o : Object)
    → object_at objects number ≡ Some (object.Message m) → object_at objects number ≡ Some o
    → option_map seen_message (cond (is_read_on to_client name (object.Message m)) (Some m) None)
    ≡ option_map seen_message (option_and_then message_of (cond (is_read_on to_client name o) (Some o) None))
read-seen objects number name to_client m o there here =
    let same : object.Message m ≡ o = same_Some (object.Message m) o (sym there ∙ here) in
    by_test (is_read_on to_client name (object.Message m))
    ∙ ap (λ (e : Object). option_map seen_message (option_and_then message_of
    (cond (is_read_on to_client name e) (Some e) None))) same
  where
    by_test : (b : Bool)
        → option_map seen_message (cond b (Some m) None)
        ≡ option_map seen_message (option_and_then message_of (cond b (Some (object.Message m)) None))
    by_test true = refl
    by_test false = refl

-- the same of the process that offers a name
pub offer-seen : (objects : List Object) (number name : ℕ) (p : Process) (o : Object)
    → object_at objects number ≡ Some (object.Process p) → object_at objects number ≡ Some o
    → option_map seen_process (cond (p.offers == name) (Some p) None)
    ≡ option_map seen_process (option_and_then process_of (cond (is_offered name o) (Some o) None))
offer-seen objects number name p o there here =
    let same : object.Process p ≡ o = same_Some (object.Process p) o (sym there ∙ here) in
    by_test (p.offers == name)
    ∙ ap (λ (e : Object). option_map seen_process (option_and_then process_of
    (cond (is_offered name e) (Some e) None))) same
  where
    by_test : (b : Bool)
        → option_map seen_process (cond b (Some p) None)
        ≡ option_map seen_process (option_and_then process_of (cond b (Some (object.Process p)) None))
    by_test true = refl
    by_test false = refl

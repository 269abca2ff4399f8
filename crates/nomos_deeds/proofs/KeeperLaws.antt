-- In a typed state each contract has one keeper, who alone stands for its name; and a process that stands at `acquire`
-- waits for the name of a contract.
use Rattle.std.proofs.Common.{◌≡◌, ◌≤◌, ℕ, Bool, true, false, Contains, Option, Some, None, find, refl, ap, arith, inl, inr}
use Rattle.std.specs.Option.{option_map}
use Rattle.std.proofs.lemmas.Bool.{cases_eq}
use Rattle.nomos_ir.specs.Order.{count_of}
use Rattle.nomos_types.specs.Acceptance.{Acceptance}
use Rattle.nomos_types.proofs.OccurrenceLaws.{counted}
use Rattle.nomos_machine.specs.Objects.{object_number, process_of, shared_names, times}
use Rattle.nomos_machine.specs.Optional.{◌>>=◌}
use Rattle.nomos_machine.specs.State.{State}
use Rattle.nomos_machine.specs.TypedState.{IsTyped}
use Rattle.nomos_machine.specs.declared.object.Object.{Object}
use Rattle.nomos_machine.specs.declared.object.Object.TheVariants as object
use Rattle.nomos_machine.specs.declared.object.Process.{Process}
use Rattle.nomos_machine.proofs.ApartLaws.{times-two}
use Rattle.nomos_machine.proofs.NameLaws.{contains-times, names-told, times-one}
use Rattle.nomos_deeds.specs.Readers.{keeper, stands_for}
use Rattle.nomos_deeds.proofs.LowestLaws.{IsFirst, first-found, none-passes}

-- The keeper is found by search, stands for the name once, and nobody else does.
pub record HasKeeper (s : State) (name : ℕ) : Type 0 where
  pub process : Process
  pub there : Contains s.objects (object.Process process)
  pub found : keeper s.objects name ≡ Some process.pid
  pub stands : count_of name (shared_names (object.Process process)) ≡ 1
  pub only : (o : Object) → Contains s.objects o → 1 ≤ count_of name (shared_names o) → object_number o ≡ process.pid

module _ {a : Acceptance} {s : State} (typed : IsTyped a s) (name : ℕ) where
  -- ---- who stands for a name

  -- an object that does is told
  shown : (o : Object) → Contains (shared_names o) name → stands_for name o ≡ true
  shown o among = at (stands_for name o) refl
    where
      at : (b : Bool) → stands_for name o ≡ b → b ≡ true
      at true is = refl
      at false is =
          absurd (omega (arith, (names-told (shared_names o) name).1 is, counted name (shared_names o) among))

  found-first : (o : Object) → find (stands_for name) s.objects ≡ Some o
      → IsFirst object_number (stands_for name) s.objects o
  found-first o is = first-found object_number (stands_for name) s.objects o typed.numbered.ascending is

  -- where the name is counted once, one process stands for it
  keeps : times shared_names s.objects name ≡ 1 → HasKeeper s name
  keeps once = by_search (find (stands_for name) s.objects) refl
    where
      by_search : (o : Option Object) → find (stands_for name) s.objects ≡ o → HasKeeper s name
      by_search (Some (object.Process p)) is =
          let first = found-first (object.Process p) is in
          let some : 1 ≤ count_of name (shared_names (object.Process p)) =
          (names-told (shared_names (object.Process p)) name).0 first.passed
          in
          let one = times-one shared_names name s.objects (object.Process p) first.there in
          record {
            process = p;
            there = first.there;
            found = ap (λ (o : Option Object). option_map (λ (q : Process). q.pid) (o >>= process_of)) is;
            stands = omega (arith, some, one, once);
            only = λ o inside stands.
                elim (cases_eq (object_number o) p.pid) [
                  | inl same ↦ same
                  | inr other ↦
                      let two = times-two s.objects typed.numbered.ascending shared_names name (object.Process p) o
                      first.there inside other in
                      absurd (omega (arith, two, some, stands, once))
                ];
          }
      by_search (Some (object.Message m)) is =
          let first = found-first (object.Message m) is in
          let passed : false ≡ true = first.passed in
          absurd cc
      by_search None is =
          let (o, inside, among) = contains-times shared_names name s.objects (omega (arith, once)) in
          absurd (none-passes object_number (stands_for name) s.objects is o inside (shown o among))

-- ---- who waits for a name

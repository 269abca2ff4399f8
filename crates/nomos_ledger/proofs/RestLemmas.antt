-- States at rest.
use Rattle.std.proofs.Common.{◌≡◌, ◌↔◌, ℕ, zero, suc, ◌<◌, Bool, true, false, not, Option, Some, None, IsTrue, is_some, refl, arith}
use Rattle.std.proofs.lemmas.List.Elements.{All-contains}
use Rattle.std.specs.Option.{MatchOption}
use Rattle.nomos_types.specs.Acceptance.{Acceptance, IsAccepted}
use Rattle.nomos_machine.specs.Objects.{object_number}
use Rattle.nomos_machine.specs.Run.{IsNextReady, IsQuiet, NoneReady}
use Rattle.nomos_machine.specs.State.{State, process_at}
use Rattle.nomos_machine.specs.TypedState.{IsTyped, Numbered}
use Rattle.nomos_machine.specs.declared.object.Object.{Object}
use Rattle.nomos_machine.specs.declared.object.Object.TheVariants as object
use Rattle.nomos_machine.specs.declared.object.Process.{Process}
use Rattle.nomos_machine.proofs.PreservationLaws.{process_at-there, ready-none}
use Rattle.nomos_machine.proofs.PutLaws.{object_at-found, object_at-own}
use Rattle.nomos_deeds.specs.Lowest.{FindsNext}
use Rattle.nomos_deeds.specs.Readers.{IsTransaction}
use Rattle.nomos_legal.specs.Ending.{HasTransaction}

-- no process has the number 0
pub none-zero : {s : State} → Numbered s → (o : Option Process) → process_at s 0 ≡ o → process_at s 0 ≡ None
none-zero {s} numbered None is = is
none-zero {s} numbered (Some p) is =
    let (there, number) = process_at-there s 0 p is in
    let over : 0 < object_number (object.Process p) =
    All-contains (λ (o : Object). 0 < object_number o) s.objects (object.Process p) numbered.over there in
    absurd (omega (arith, number, over))

-- no process is ready exactly where none over 0 is
pub quiet-no_next : {a : Acceptance} → IsAccepted a → {s : State} → IsTyped a s → (next : Option ℕ) (none : Bool)
    → is_some next ≡ not none → MatchOption next (NoneReady a s 0) (IsNextReady a s 0) → IsTrue none ↔ IsQuiet a s
quiet-no_next {a} accepted {s} typed None true e idle = (λ yes. quiet, λ all. refl)
  where
    quiet : IsQuiet a s
    quiet zero ready = ready-none accepted typed 0 (none-zero typed.numbered (process_at s 0) refl) ready
    quiet (suc q) ready = idle (suc q) (omega arith) ready
quiet-no_next accepted typed None false e idle = cc
quiet-no_next accepted typed (Some pid) true e next = cc
quiet-no_next accepted typed (Some pid) false e next = (λ yes. cc, λ quiet. absurd (quiet pid next.ready))

-- a transaction that is left is one by its number
left-numbered : {s : State} → Numbered s → (left : HasTransaction s) → IsTransaction s.objects left.process.pid
left-numbered {s} numbered left = record {
  process = left.process;
  there = object_at-own (object.Process left.process) s.objects numbered.ascending left.there;
  at_t = left.at_t;
}

-- a transaction is left exactly where one is found over a number that all are over
pub left-next : {s : State} → Numbered s → (after : ℕ) → ((pid : ℕ) → IsTransaction s.objects pid → after < pid)
    → (next : Option ℕ) (some : Bool) → is_some next ≡ some → FindsNext (IsTransaction s.objects) after next
    → IsTrue some ↔ HasTransaction s
left-next {s} numbered after over None true e none = cc
left-next {s} numbered after over None false e none = (λ yes. cc, λ left. absurd (nobody left))
  where
    nobody : HasTransaction s → ⊥
    nobody left =
        let is = left-numbered numbered left in
        none left.process.pid (over left.process.pid is) is
left-next {s} numbered after over (Some pid) true e found = (
  λ yes. record {
    process = found.holds.process;
    there = (object_at-found pid (object.Process found.holds.process) s.objects found.holds.there).1;
    at_t = found.holds.at_t;
  },
  λ left. refl,
)
left-next {s} numbered after over (Some pid) false e found = cc

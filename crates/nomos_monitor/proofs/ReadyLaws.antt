-- States in which no process is ready.
use Rattle.std.proofs.Common.{◌≡◌, ◌↔◌, ◌<◌, ℕ, zero, suc, Bool, true, false, not, IsTrue, Option, Some, None, refl, arith}
use Rattle.std.specs.Option.{MatchOption, is_some}
use Rattle.std.proofs.lemmas.Bool.{false≢true}
use Rattle.std.proofs.lemmas.List.Elements.{All-contains}
use Rattle.nomos_types.specs.Acceptance.{Acceptance, IsAccepted}
use Rattle.nomos_machine.specs.Objects.{object_number}
use Rattle.nomos_machine.specs.Run.{IsNextReady, IsQuiet, NoneReady}
use Rattle.nomos_machine.specs.State.{State, process_at}
use Rattle.nomos_machine.specs.TypedState.{IsTyped, Numbered}
use Rattle.nomos_machine.specs.declared.object.Object.{Object}
use Rattle.nomos_machine.specs.declared.object.Object.TheVariants as object
use Rattle.nomos_machine.specs.declared.object.Process.{Process}
use Rattle.nomos_machine.proofs.PreservationLaws.{process_at-there, ready-none}

-- no process has the number 0
none-zero : {s : State} → Numbered s → (o : Option Process) → process_at s 0 ≡ o → process_at s 0 ≡ None
none-zero {s} numbered None is = is
none-zero {s} numbered (Some p) is =
    let (there, number) = process_at-there s 0 p is in
    let over : 0 < object_number (object.Process p) =
    All-contains (λ (o : Object). 0 < object_number o) s.objects (object.Process p) numbered.over there in
    absurd (omega (arith, number, over))

-- where no process over 0 is ready none is
pub none_ready-quiet : {a : Acceptance} → IsAccepted a → {s : State} → IsTyped a s → NoneReady a s 0 → IsQuiet a s
none_ready-quiet accepted {s} typed none zero ready =
    ready-none accepted typed 0 (none-zero typed.numbered (process_at s 0) refl) ready
none_ready-quiet accepted {s} typed none (suc q) ready = none (suc q) (omega arith) ready

-- the lowest process over 0 that is ready is the lowest of all
pub next-of_all : {a : Acceptance} → IsAccepted a → {s : State} → IsTyped a s → (next : Option ℕ)
    → MatchOption next (NoneReady a s 0) (IsNextReady a s 0) → MatchOption next (IsQuiet a s) (IsNextReady a s 0)
next-of_all accepted typed None none = none_ready-quiet accepted typed none
next-of_all accepted typed (Some pid) next = next

-- where no process is found none is ready
pub none-quiet : (a : Acceptance) (s : State) (next : Option ℕ) (none : Bool) → is_some next ≡ not none
    → MatchOption next (IsQuiet a s) (IsNextReady a s 0) → IsTrue none ↔ IsQuiet a s
none-quiet a s None true is quiet = (λ holds. quiet, λ at. refl)
none-quiet a s None false is quiet = absurd cc
none-quiet a s (Some pid) true is next = absurd cc
none-quiet a s (Some pid) false is next = (λ holds. absurd (false≢true holds), λ quiet. absurd (quiet pid next.ready))

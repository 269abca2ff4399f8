-- States in which no process is ready.
use Rattle.std.proofs.Common.{ℕ, zero, suc, Option, Some, None, refl, arith}
use Rattle.std.specs.Option.{MatchOption}
use Rattle.nomos_ledger.proofs.RestLemmas.{none-zero}
use Rattle.nomos_types.specs.Acceptance.{Acceptance, IsAccepted}
use Rattle.nomos_machine.specs.Run.{IsNextReady, IsQuiet, NoneReady}
use Rattle.nomos_machine.specs.State.{State, process_at}
use Rattle.nomos_machine.specs.Step.{IsReady}
use Rattle.nomos_machine.specs.TypedState.{IsTyped}
use Rattle.nomos_machine.specs.declared.object.Object.{Object}
use Rattle.nomos_machine.specs.declared.object.Object.TheVariants as object
use Rattle.nomos_machine.proofs.PreservationLaws.{ready-none}

-- where no process over 0 is ready none is
pub none_ready-quiet : {a : Acceptance} → IsAccepted a → {s : State} → IsTyped a s → NoneReady a s 0 → IsQuiet a s
none_ready-quiet accepted {s} typed none zero ready =
    ready-none accepted typed 0 (none-zero typed.numbered (process_at s 0) refl) ready
none_ready-quiet accepted {s} typed none (suc q) ready = none (suc q) (omega arith) ready

-- the lowest process over 0 that is ready is the lowest of all
pub next-of_all : {a : Acceptance} → IsAccepted a → {s : State} → IsTyped a s → (next : Option ℕ)
    → MatchOption next (NoneReady a s 0) (IsNextReady a s 0) → MatchOption next (IsQuiet a s) (IsNextReady a s 0)
next-of_all accepted typed None none = none_ready-quiet accepted typed none
next-of_all accepted typed (Some pid) next = next

-- the lowest process that is ready is ready
pub lowest-ready : (a : Acceptance) (s : State) (next : Option ℕ) → MatchOption next (IsQuiet a s) (IsNextReady a s 0)
    → MatchOption next (IsQuiet a s) (IsReady a s)
lowest-ready a s None quiet = quiet
lowest-ready a s (Some pid) next = next.ready

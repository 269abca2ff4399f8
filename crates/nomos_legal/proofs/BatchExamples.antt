-- How batches of a small ledger end: one that stays, and one for each way in which a batch is undone.
use Rattle.std.proofs.Common.{◌≡◌, ◌≢◌, ◌==◌, ℕ, Bool, true, false, cond, List, [], ◌∷◌, map, All, Some, None, IsSome, codes, refl, subst, arith}
use Rattle.std.proofs.lemmas.List.Elements.{All-nil, All-cons, All-contains}
use Rattle.std.specs.List.{AllByRecursion}
use Rattle.nomos_ir.specs.Evaluation.{evaluation, term_evaluation}
use Rattle.nomos_ir.specs.declared.fault.Fault.TheVariants as fault
use Rattle.nomos_ir.specs.declared.mode.Mode.TheVariants as mode
use Rattle.nomos_types.specs.Acceptance.{Acceptance}
use Rattle.nomos_machine.specs.Deeds.{Deed}
use Rattle.nomos_machine.specs.Objects.{object_number, object_at, process_of}
use Rattle.nomos_machine.specs.Optional.{◌>>=◌}
use Rattle.nomos_machine.specs.RowPrograms.{var_id}
use Rattle.nomos_machine.specs.Run.{IsQuiet, run}
use Rattle.nomos_machine.specs.Starting.{cleared}
use Rattle.nomos_machine.specs.State.{State, empty}
use Rattle.nomos_machine.specs.Step.{deed}
use Rattle.nomos_machine.specs.Step as machine
use Rattle.nomos_machine.specs.declared.object.Object.{Object}
use Rattle.nomos_machine.specs.declared.object.Object.TheVariants as object
use Rattle.nomos_script.specs.declared.item.Batch.{Batch}
use Rattle.nomos_script.specs.declared.item.Start.{Start}
use Rattle.nomos_legal.specs.Batch.{AllStart, after_start, after_starts, state_or}
use Rattle.nomos_legal.specs.Batch as batch
use Rattle.nomos_legal.specs.Ending.{GoesOn, HasTransaction, IsAllowed}
use Rattle.nomos_legal.specs.Ledger.{LedgerState}
use Rattle.nomos_legal.specs.Passage.{IsPassage, runs}
use Rattle.nomos_legal.specs.Passage as passage
use Rattle.nomos_legal.specs.LineStarts as line
use Rattle.nomos_legal.specs.declared.journal.End.TheVariants as end
use Rattle.nomos_legal.specs.declared.resolved.Resolved.{Resolved}
use Rattle.nomos_legal.proofs.Examples.{program, shops, exec, resolved, twice, c_fits, visit-starts}

-- ---- states in which no process does anything

abbrev Rests : Acceptance → State → Object → Type 0
Rests a s (object.Process p) = deed a s p ≡ None
Rests a s (object.Message m) = Unit {0}

none-does : (a : Acceptance) (s : State) (q : ℕ) (objects : List Object) → AllByRecursion (Rests a s) objects
    → ((object_at objects q >>= process_of) >>= deed a s) ≡ None
none-does a s q [] all = refl
none-does a s q (o ∷ objects) all = at o (object_number o == q) all.0 (none-does a s q objects all.1)
  where
    at : (o : Object) (t : Bool) → Rests a s o → ((object_at objects q >>= process_of) >>= deed a s) ≡ None
        → ((cond t (Some o) (object_at objects q) >>= process_of) >>= deed a s) ≡ None
    at (object.Process p) true rests others = rests
    at (object.Message m) true rests others = refl
    at o false rests others = others

quiet-where_all_rest : (a : Acceptance) (s : State) → AllByRecursion (Rests a s) s.objects → IsQuiet a s
quiet-where_all_rest a s all q ready = nothing (subst (IsSome {T = Deed}) (none-does a s q s.objects all) ready)
  where
    nothing : IsSome {T = Deed} None → ⊥
    nothing is = cc

-- ---- states without a transaction

abbrev IsNone : Object → Type 0
IsNone (object.Process p) = p.mode ≢ mode.T
IsNone (object.Message m) = Unit {0}

all-none : (objects : List Object) → AllByRecursion IsNone objects → All IsNone objects
all-none [] all = All-nil IsNone
all-none (o ∷ objects) all = All-cons IsNone o objects all.0 (all-none objects all.1)

s_is_not_t : mode.S ≢ mode.T
s_is_not_t same = cc

no-transaction : (s : State) → AllByRecursion IsNone s.objects → ¬ (HasTransaction s)
no-transaction s all has =
    All-contains IsNone s.objects (object.Process has.process) (all-none s.objects all) has.there has.at_t

-- ---- a batch of one line

abbrev batch_of : Start → Batch
batch_of start = record { line = start.line; starts = start ∷ [] }

abbrev one_line : Start
one_line = exec 1 (codes "visit") [] (codes "c" ∷ [])

abbrev visit_started : Resolved
visit_started = resolved 2 [] (1 ∷ []) None

visit-starts_alone : AllStart program shops (one_line ∷ []) (visit_started ∷ [])
visit-starts_alone =
    batch.line shops one_line visit_started [] [] visit-starts
    (batch.none (after_start program shops visit_started))

abbrev visiting : LedgerState
visiting = after_starts program shops (visit_started ∷ [])

visiting-balances : visiting.state.balances ≡ 15 ∷ []
visiting-balances = refl

-- The transaction ends, and what it had is its sender's again; the numbers that it took are not given again.
abbrev after_visit : State
after_visit = record shops.state { next_object = 4; next_name = 4 }

visit-leaves : run program visiting.state (3 ∷ []) ≡ Some after_visit
visit-leaves = refl

visit-quiet : IsQuiet program after_visit
visit-quiet = quiet-where_all_rest program after_visit (refl, (refl, tt))

no_transaction-left : ¬ (HasTransaction after_visit)
no_transaction-left = no-transaction after_visit (s_is_not_t, (s_is_not_t, tt))

visit-stays : IsPassage program 10
    (runs (batch_of one_line) (3 ∷ []) end.Committed shops visiting after_visit
    (record visiting { state = cleared after_visit }))
visit-stays =
    passage.stays shops (batch_of one_line) (visit_started ∷ []) (3 ∷ []) after_visit visit-starts_alone
    (record { reached = visit-leaves; within = omega arith; allowed = (visit-quiet, no_transaction-left) })

-- ---- a batch that blocks itself

-- it acquires c twice: c pays and goes to its `detach`, and the second acquire waits for it
abbrev twice_line : Start
twice_line = exec 1 (codes "twice") [] (codes "c" ∷ codes "c" ∷ [])

abbrev twice_started : Resolved
twice_started = resolved 4 [] (1 ∷ 1 ∷ []) None

twice-starts : AllStart program shops (twice_line ∷ []) (twice_started ∷ [])
twice-starts =
    batch.line shops twice_line twice_started [] []
    (line.starts 0 4 twice (1 ∷ 1 ∷ []) refl (record { first = refl; there = refl })
    (record { values = line.none; names = line.one (c_fits (var_id 1)) (line.one (c_fits (var_id 2)) line.none) }) tt
    (omega arith))
    (batch.none (after_start program shops twice_started))

abbrev taking : LedgerState
taking = after_starts program shops (twice_started ∷ [])

abbrev blocked : State
blocked = state_or empty (run program taking.state (3 ∷ 1 ∷ []))

blocked-objects : map object_number blocked.objects ≡ 1 ∷ 2 ∷ 3 ∷ 4 ∷ []
blocked-objects = refl

blocked-quiet : IsQuiet program blocked
blocked-quiet = quiet-where_all_rest program blocked (refl, (refl, (refl, (tt, tt))))

transaction-left : HasTransaction blocked
transaction-left = record { process = _; there = (2, omega arith, refl); at_t = refl }

-- the ledger is as it was
twice-blocks : IsPassage program 10
    (runs (batch_of twice_line) (3 ∷ 1 ∷ []) end.Blocked shops taking blocked shops)
twice-blocks =
    passage.undone shops (batch_of twice_line) (twice_started ∷ []) (3 ∷ 1 ∷ []) blocked end.Blocked twice-starts
    (record { reached = refl; within = omega arith; allowed = (blocked-quiet, transaction-left) }) tt

-- it does not stay, nor end by steps
never-committed : ¬ (IsAllowed program blocked 2 10 end.Committed)
never-committed allowed = allowed.1 transaction-left

never-by_steps : ¬ (IsAllowed program blocked 2 2 (end.Steps 2))
never-by_steps allowed = allowed.2 blocked-quiet

-- before the first firing it goes on
goes-on : GoesOn program taking.state 0 10
goes-on = (λ quiet. quiet 3 refl, λ same. omega (arith, same))

-- ---- a batch that goes on and on, and one with a fault

abbrev plain_line : List ℕ → Start
plain_line proc = exec 1 proc [] []

abbrev plain_started : ℕ → Resolved
plain_started number = resolved number [] [] None

again-starts : AllStart program shops (plain_line (codes "again") ∷ []) (plain_started 5 ∷ [])
again-starts =
    batch.line shops (plain_line (codes "again")) (plain_started 5) [] []
    (line.starts 0 5 _ [] refl (record { first = refl; there = refl })
    (record { values = line.none; names = line.none }) tt (omega arith))
    (batch.none (after_start program shops (plain_started 5)))

abbrev again_start : LedgerState
again_start = after_starts program shops (plain_started 5 ∷ [])

again-by_steps : IsPassage program 2
    (runs (batch_of (plain_line (codes "again"))) (3 ∷ 3 ∷ []) (end.Steps 2) shops again_start again_start.state shops)
again-by_steps =
    passage.undone shops (batch_of (plain_line (codes "again"))) (plain_started 5 ∷ []) (3 ∷ 3 ∷ []) again_start.state
    (end.Steps 2) again-starts
    (record { reached = refl; within = omega arith; allowed = (refl, refl, λ quiet. quiet 3 refl) }) tt

-- not before the limit
not-yet : ¬ (IsAllowed program again_start.state 1 2 (end.Steps 1))
not-yet allowed = omega (arith, allowed.0)

faulty-starts : AllStart program shops (plain_line (codes "faulty") ∷ []) (plain_started 6 ∷ [])
faulty-starts =
    batch.line shops (plain_line (codes "faulty")) (plain_started 6) [] []
    (line.starts 0 6 _ [] refl (record { first = refl; there = refl })
    (record { values = line.none; names = line.none }) tt (omega arith))
    (batch.none (after_start program shops (plain_started 6)))

abbrev faulty_start : LedgerState
faulty_start = after_starts program shops (plain_started 6 ∷ [])

faulty : machine.fault program faulty_start.state 3 ≡ Some fault.DivideByZero
unfolding term_evaluation evaluation
faulty = refl

faulty-aborts : IsPassage program 10
    (runs (batch_of (plain_line (codes "faulty"))) [] (end.Aborted 3 fault.DivideByZero) shops faulty_start
    faulty_start.state shops)
faulty-aborts =
    passage.undone shops (batch_of (plain_line (codes "faulty"))) (plain_started 6 ∷ []) [] faulty_start.state
    (end.Aborted 3 fault.DivideByZero) faulty-starts
    (record { reached = refl; within = omega arith; allowed = (omega arith, faulty) }) tt

-- with no firing left a fault ends nothing
no-firing_left : ¬ (IsAllowed program faulty_start.state 10 10 (end.Aborted 3 fault.DivideByZero))
no-firing_left allowed = omega (arith, allowed.0)

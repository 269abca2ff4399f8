-- How the script of a task is run, what is accepted for it, and what may stop its solver.
use Rattle.std.specs.Prelude.{◌≡◌, ℕ, List, true, false, Option, is_some}
use Rattle.nomos_accept.specs.AcceptedText.{IsAcceptedAs, IsProgramWith, IsUnsolved}
use Rattle.nomos_least.specs.LeastBounds.{IsLeastAs, IsLeastUnsolved}
use Rattle.nomos_least.specs.declared.least.LeastBounds.{LeastBounds}
use Rattle.nomos_machine.specs.declared.policy.Policy.{Policy}
use Rattle.nomos_machine.specs.declared.policy.Policy.TheVariants.{First}
use Rattle.nomos_run.specs.declared.orders.Orders.{Orders}
use Rattle.nomos_simplex.specs.declared.solved.Stop.{Stop}
use Rattle.nomos_types.specs.Acceptance.{Acceptance}
use Rattle.nomos_words.specs.Commands.{RunsByOne, row}
use Rattle.nomos_words.specs.Options.{usual_limit}
use Rattle.nomos_words.specs.Words.{Task, least}
use Rattle.nomos_words.specs.declared.workers.Workers.{Workers}
use Rattle.nomos_words.specs.declared.workers.Workers.TheVariants as workers
use Rattle.nomos_workers.specs.declared.batch.Crew.{Crew}
use Rattle.nomos_workers.specs.declared.batch.Crew.TheVariants as crew

-- the most firings of a batch, which the words of a run say
abbrev pub limit_of : Task → ℕ
limit_of task = (row task).limit

abbrev pub crew_of : Workers → Crew
crew_of (workers.One policy) = crew.One policy
crew_of (workers.Many n) = crew.Many n

-- how a script is run by the words
abbrev pub run_orders : Workers → ℕ → Option (List ℕ) → Orders
run_orders by steps journal =
    record { crew = crew_of by; limit = steps; text = is_some journal; result = false }

-- how `bench` runs its script
abbrev pub bench_orders : Orders
bench_orders = record { crew = crew.One First; limit = usual_limit; text = false; result = true }

-- one worker fires, by this policy
abbrev pub IsByOne : Task → Policy → Type 0
IsByOne task policy = RunsByOne (row task).runs policy

-- ---- acceptance

-- The text is accepted so, under the amounts of the pivot run, or, where least bounds are sought, of the least run.
abbrev pub IsGivenFor : Task → List ℕ → Acceptance → Type 0
IsGivenFor (least file) text a = (b : LeastBounds) × (b.accepted ≡ a) × IsLeastAs text b
IsGivenFor _ text a = IsAcceptedAs text a

-- The text reads, each part of its program has a skeleton, and the pivot run stops without an answer.
abbrev pub HasStopped : List ℕ → Stop → Type 0
HasStopped text stop = IsProgramWith text (λ lists. IsUnsolved lists stop)

-- The same, and it is the least run that stops.
abbrev pub HasLeastStopped : List ℕ → Stop → Type 0
HasLeastStopped text stop = IsProgramWith text (λ lists. IsLeastUnsolved lists stop)

-- it is the run that the task asks for
abbrev pub HasStoppedFor : Task → List ℕ → Stop → Type 0
HasStoppedFor (least file) text stop = HasLeastStopped text stop
HasStoppedFor _ text stop = HasStopped text stop

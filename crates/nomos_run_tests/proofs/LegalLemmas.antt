-- The journal of a run that carried out all items is legal for them.
use Rattle.std.proofs.Common.{◌≡◌, ◌∙◌, List, length, take, Option, Some, None, ap, subst}
use Rattle.std.proofs.Math.Seq.{take-length}
use Rattle.std.specs.Prelude.{IfSome}
use Rattle.nomos_types.specs.Acceptance.{Acceptance}
use Rattle.nomos_script.specs.declared.item.ScriptItem.{ScriptItem}
use Rattle.nomos_legal.specs.Legal.{IsLegal, Tells}
use Rattle.nomos_run.specs.Carried.{IsWholeRun, RunsScript}
use Rattle.nomos_run.specs.declared.orders.Orders.{Orders}
use Rattle.nomos_run.specs.declared.orders.ScriptRun.{ScriptRun}
use Rattle.nomos_run.specs.declared.orders.WholeRun.{WholeRun}

-- what holds of what is there, from what holds of it
if_some-map : {X : Type 0} (o : Option X) (P Q : X → Type 0) → ((x : X) → P x → Q x) → IfSome o P → IfSome o Q
if_some-map (Some x) P Q f h = f x h
if_some-map None P Q f h = h

pub whole-legal : {M : Type 0} {a : Acceptance} {items : List ScriptItem} (orders : Orders) (run : ScriptRun M)
    → RunsScript a items orders run → IfSome run.finished (λ f. IsLegal a items run.journal)
whole-legal {M} {a} {items} orders run runs =
    if_some-map run.finished
    (λ (f : WholeRun M). (runs.count ≡ length items) × IsWholeRun a orders runs.passages runs.last f)
    (λ (f : WholeRun M). IsLegal a items run.journal)
    (λ f all.
    let whole : take runs.count items ≡ items = ap (λ n. take n items) all.0 ∙ take-length items in
    record {
      passages = runs.passages;
      last = runs.last;
      tells = subst (λ (l : List ScriptItem). Tells a l run.journal runs.passages runs.last) whole runs.tells;
    })
    runs.all

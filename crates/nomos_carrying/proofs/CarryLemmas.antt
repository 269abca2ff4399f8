-- What is due where a ledger is carried on, from its parts.
use Rattle.std.proofs.Common.{◌≡◌, ℕ, List, length, Option, Some, None, Ok, refl, subst}
use Rattle.std.specs.Prelude.{IfSome}
use Rattle.nomos_answers.specs.Finding.{HasNoLedger, IsNoLedgerOf, SavesWhole, saved, unsaved}
use Rattle.nomos_answers.specs.Outside.{HasText, Input, SourceState, input_of}
use Rattle.nomos_answers.specs.RunsDue.{usual_orders}
use Rattle.nomos_answers.specs.Saves as saves
use Rattle.nomos_answers.specs.Saves.{IsSaveDue}
use Rattle.nomos_answers.specs.Sources.{IsSaveDueFor, kept_text}
use Rattle.nomos_answers.specs.declared.due.Due.{Due}
use Rattle.nomos_answers.specs.declared.resumes.NoLedger.{NoLedger}
use Rattle.nomos_answers.proofs.SourceLemmas.{some_text}
use Rattle.nomos_legal.specs.Ledger.{LedgerState, empty_ledger}
use Rattle.nomos_legal.specs.StandsFor.{StandsFor}
use Rattle.nomos_legal.specs.declared.journal.Journal.{Journal}
use Rattle.nomos_report.specs.Reported.{report_of}
use Rattle.nomos_run.specs.Carried.{IsWholeRun, RunsScriptFrom}
use Rattle.nomos_run.specs.declared.orders.ScriptRun.{ScriptRun}
use Rattle.nomos_run.specs.declared.orders.WholeRun.{WholeRun}
use Rattle.nomos_run.proofs.CarriedLaws.{whole-tells}
use Rattle.nomos_script.specs.declared.item.ScriptItem.{ScriptItem}
use Rattle.nomos_snapshot.specs.Loading.{Loads}
use Rattle.nomos_types.specs.Acceptance.{Acceptance}
use Rattle.nomos_carrying.specs.CarryDue.{BeginsFrom, HasCarried, IsCarryDue}
use Rattle.nomos_carrying.specs.CarryDue as due
use Rattle.nomos_carrying.specs.CarrySources.{IsBeginDueFor, IsCarryDueFor}
use Rattle.nomos_carrying.specs.mirror.Carrying.{GoesOnBy, RunsOn, not_read, ran_on}
use Rattle.nomos_carrying.proofs.NoLedgerLemmas.{none-is}

-- ---- a run

-- a run of all items from a ledger, whose last ledger is to be saved
pub runs-on : {M : Type 0} {a : Acceptance} {first : LedgerState} {items : List ScriptItem} {made : ScriptRun M}
    (whole : WholeRun M) → RunsScriptFrom a first items usual_orders made → made.finished ≡ Some whole → (d : Due)
    → SavesWhole a made.journal whole.report.items whole.ledger d → RunsOn a first items d
runs-on {a = a} {items = items} {made} whole runs finished d saves =
    let all : IfSome (Some whole)
    (λ f. (runs.count ≡ length items) × IsWholeRun a usual_orders runs.passages runs.last f) =
    rw finished at runs.all in
    let told = all.1 in
    record {
      journal = made.journal;
      passages = runs.passages;
      last = runs.last;
      run = record { limit = runs.limit; tells = whole-tells runs whole finished; follows = runs.follows };
      stands = subst (StandsFor a) told.ledger told.stands;
      whole =
          subst (λ (l : LedgerState). SavesWhole a made.journal (report_of a runs.passages) l d) told.ledger
          (subst (λ (text : List ℕ). SavesWhole a made.journal text whole.ledger d) told.report saves);
    }

-- ---- what is due

-- it is due on some text that the script's source may have
pub record IsDueOn (a : Acceptance) (snapshot : Option Input) (script : SourceState) (d : Due) : Type 0 where
  pub text : List ℕ
  pub told : HasText script.left text
  pub is : IsCarryDue a snapshot (input_of script text) d.status d.out.items (kept_text d)

-- what is due of a script, run from the ledger at which it begins
goes-on : {a : Acceptance} {first : LedgerState} {script : SourceState} (snapshot : Option Input) (d : Due)
    → BeginsFrom a snapshot first → GoesOnBy a first script d → IsDueOn a snapshot script d
goes-on {a} {first} {script} snapshot d begins (ran_on text items told reads run) =
    record { text = text; told = told; is = by run.whole }
  where
    has : HasCarried a snapshot (input_of script text) run.journal run.passages run.last
    has = record {
      first = first;
      begins = begins;
      items = items;
      reads = reads;
      run = run.run;
      stands = run.stands;
    }

    by : SavesWhole a run.journal (report_of a run.passages) run.last d
        → IsCarryDue a snapshot (input_of script text) d.status d.out.items (kept_text d)
    by (saved next written loads status out kept journal) =
        rw (status, out, kept) (due.carried run.journal run.passages run.last next has written loads)
    by (unsaved why never bare) =
        rw (bare.status_is, bare.text_is, bare.nothing_kept)
        (due.unsaved run.journal run.passages run.last why has never)
goes-on {a} {first} {script} snapshot d begins (not_read text told bare) =
    record {
      text = text;
      told = told;
      is = rw bare.nothing_kept (due.no_script first d.status d.out.items begins bare.is);
    }

-- the same from the ledger of a snapshot
pub carries-on : {a : Acceptance} {first : LedgerState} {snapshot script : SourceState} (text : List ℕ) (d : Due)
    → HasText snapshot.left text → Loads a text (Ok first) → GoesOnBy a first script d
    → IsCarryDueFor a snapshot script d
carries-on {a} {first} {snapshot} {script} text d told loads goes =
    let on = goes-on (Some (input_of snapshot text)) d loads goes in
    record {
      snapshot_text = text;
      snapshot_told = told;
      script_text = on.text;
      script_told = on.told;
      is = on.is;
    }

-- no ledger to begin at
pub stops-before : {a : Acceptance} {snapshot script : SourceState} (text : List ℕ) (why : NoLedger) (d : Due)
    → HasText snapshot.left text → IsNoLedgerOf a (input_of snapshot text) why → HasNoLedger why d
    → IsCarryDueFor a snapshot script d
stops-before {a} {snapshot} {script} text why d told of none =
    let t = some_text script.left in
    let is = none-is (input_of snapshot text) why d of none in
    record {
      snapshot_text = text;
      snapshot_told = told;
      script_text = t.0;
      script_told = t.1;
      is = rw is.nothing_kept (due.no_ledger (input_of snapshot text) d.status d.out.items refl is.is);
    }

-- what is due where a ledger is saved is due where it is carried on from the empty one
from-save : {a : Acceptance} {script : Input} {status : ℕ} {out : List ℕ} {kept : Option (List ℕ)} {journal : Journal}
    → IsSaveDue a script status out kept journal → IsCarryDue a None script status out kept
from-save (saves.no_script status out is) = due.no_script empty_ledger status out refl is
from-save (saves.unsaved items journal ps last why reads run stands never) =
    due.unsaved journal ps last why
    (record { first = empty_ledger; begins = refl; items = items; reads = reads; run = run; stands = stands })
    never
from-save (saves.saved items journal ps last text reads run stands written loads) =
    due.carried journal ps last text
    (record { first = empty_ledger; begins = refl; items = items; reads = reads; run = run; stands = stands })
    written loads

pub begins-by-save : {a : Acceptance} {script : SourceState} (d : Due) → IsSaveDueFor a script d
    → IsBeginDueFor a script d
begins-by-save d is = record { text = is.text; told = is.told; is = from-save is.is }

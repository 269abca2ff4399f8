-- What is known of a run of which all items have passed, and what is due of one.
use Rattle.std.proofs.Common.{◌≡◌, ℕ, List, length, Some, Result, subst}
use Rattle.std.specs.Prelude.{IfErr, IfSome}
use Rattle.std.specs.Option.{option_map}
use Rattle.nomos_types.specs.Acceptance.{Acceptance}
use Rattle.nomos_script.specs.declared.item.ScriptItem.{ScriptItem}
use Rattle.nomos_legal.specs.Ledger.{LedgerState, empty_ledger}
use Rattle.nomos_legal.specs.Passage.{Passage}
use Rattle.nomos_legal.specs.StandsFor.{StandsFor}
use Rattle.nomos_legal.specs.declared.journal.Journal.{Journal}
use Rattle.nomos_report.specs.Reported.{report_of, run_status}
use Rattle.nomos_walk.specs.Wanted.{journal_text_of, where_wanted}
use Rattle.nomos_run.specs.Carried.{IsWholeRun, RunsScriptFrom}
use Rattle.nomos_run.specs.declared.orders.Orders.{Orders}
use Rattle.nomos_run.specs.declared.orders.ScriptRun.{ScriptRun}
use Rattle.nomos_run.specs.declared.orders.WholeRun.{WholeRun}
use Rattle.nomos_run.proofs.CarriedLaws.{whole-tells}
use Rattle.nomos_answers.specs.Finding.{HasRunPart, RunsFrom, RunsFromPart, SavesIn, SavesWhole}
use Rattle.nomos_answers.specs.RunsDue.{HasRunFrom, usual_orders}
use Rattle.nomos_answers.specs.declared.due.Due.{Due}
use Rattle.nomos_answers.proofs.SourceLemmas.{if_err-map}

-- A run of all items from a ledger, what became of them, and the ledger to which they lead; what is given tells of it.
pub record HasRunWhole {M : Type 0} (a : Acceptance) (first : LedgerState) (items : List ScriptItem) (orders : Orders)
    (made : ScriptRun M) (whole : WholeRun M) : Type 0 where
  pub passages : List Passage
  pub last : LedgerState
  pub run : HasRunFrom a first items orders made.journal passages last
  pub stands : StandsFor a last
  pub report_is : whole.report.items ≡ report_of a passages
  pub text_is : option_map (λ t. t.items) whole.text
      ≡ where_wanted orders.text (journal_text_of a orders.limit passages)
  pub ledger_is : whole.ledger ≡ last

pub whole-run : {M : Type 0} {a : Acceptance} {first : LedgerState} {items : List ScriptItem} {orders : Orders}
    {made : ScriptRun M} (whole : WholeRun M) → RunsScriptFrom a first items orders made → made.finished ≡ Some whole
    → HasRunWhole a first items orders made whole
whole-run {a = a} {items = items} {orders} whole runs finished =
    let all : IfSome (Some whole)
    (λ f. (runs.count ≡ length items) × IsWholeRun a orders runs.passages runs.last f) = rw finished at runs.all in
    let told = all.1 in
    record {
      passages = runs.passages;
      last = runs.last;
      run = record { limit = runs.limit; tells = whole-tells runs whole finished; follows = runs.follows };
      stands = subst (StandsFor a) told.ledger told.stands;
      report_is = told.report;
      text_is = told.text;
      ledger_is = told.ledger;
    }

-- what is due of it where the ledger is to be saved
pub whole-saves : {M : Type 0} {a : Acceptance} {items : List ScriptItem} {made : ScriptRun M} {whole : WholeRun M}
    → HasRunWhole a empty_ledger items usual_orders made whole → (due : Due)
    → SavesWhole a made.journal whole.report.items whole.ledger due → SavesIn a items due
whole-saves {a = a} {made = made} {whole} is due saves = record {
  journal = made.journal;
  passages = is.passages;
  last = is.last;
  run = is.run;
  stands = is.stands;
  whole =
      subst (λ (l : LedgerState). SavesWhole a made.journal (report_of a is.passages) l due) is.ledger_is
      (subst (λ (text : List ℕ). SavesWhole a made.journal text whole.ledger due) is.report_is saves);
}

-- what is due of it where the orders are the usual ones
pub whole-from : {M : Type 0} {a : Acceptance} {first : LedgerState} {items : List ScriptItem} {made : ScriptRun M}
    {whole : WholeRun M} → HasRunWhole a first items usual_orders made whole → (due : Due)
    → due.status ≡ run_status made.journal.entries → due.out ≡ whole.report → due.kept ≡ whole.text
    → due.journal ≡ made.journal → RunsFrom a first items due
whole-from {a = a} {first} {items} {made} {whole} is due status out kept journal = record {
  passages = is.passages;
  last = is.last;
  run = rw journal is.run;
  stands = is.stands;
  status_is = rw journal status;
  text_is = rw out is.report_is;
  nothing_kept = rw kept is.text_is;
}

-- of a run that was not whole there is the journal of some first items
pub part-from : {M : Type 0} {a : Acceptance} {first : LedgerState} {items : List ScriptItem} {made : ScriptRun M}
    → RunsScriptFrom a first items usual_orders made → RunsFromPart a first items made.journal
part-from runs = record {
  count = runs.count;
  passages = runs.passages;
  last = runs.last;
  run = record { limit = runs.limit; tells = runs.tells; follows = runs.follows };
}

-- the same from the empty ledger, where more was to be done behind a run
pub part-behind : {M : Type 0} {a : Acceptance} {items : List ScriptItem} {made : ScriptRun M}
    → RunsScriptFrom a empty_ledger items usual_orders made → (r : Result Due Journal)
    → IfErr r (λ known. known ≡ made.journal) → IfErr r (HasRunPart a items usual_orders)
part-behind {a = a} {items} {made} runs r known =
    if_err-map r (λ j. j ≡ made.journal) (HasRunPart a items usual_orders)
    (λ j is. record {
      count = runs.count;
      passages = runs.passages;
      last = runs.last;
      run = rw is (record { limit = runs.limit; tells = runs.tells; follows = runs.follows });
    }) known

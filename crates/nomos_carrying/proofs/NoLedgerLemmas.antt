-- What is due where there is no ledger to go on from, and where one's next numbers are told.
use Rattle.std.proofs.Common.{◌≡◌, ◌∙◌, ◌++◌, ℕ, List, Option, Some, None, Result, Ok, Err, ap, subst, sym}
use Rattle.std.specs.Prelude.{IfOk, IfSome, codes}
use Rattle.std.specs.Result.{result_ok}
use Rattle.nomos_answers.specs.Finding.{HasNoLedger, IsNoLedgerOf}
use Rattle.nomos_answers.specs.Outside.{HasText, Input, SourceState, input_of}
use Rattle.nomos_answers.specs.Resumes.{IsNoLedger}
use Rattle.nomos_answers.specs.Resumes as resumes
use Rattle.nomos_answers.specs.Sources.{kept_text}
use Rattle.nomos_answers.specs.declared.due.Due.{Due}
use Rattle.nomos_answers.specs.declared.resumes.NoLedger.{NoLedger}
use Rattle.nomos_answers.specs.declared.resumes.NoLedger.TheVariants as no_ledger
use Rattle.nomos_legal.specs.Ledger.{LedgerState}
use Rattle.nomos_report.specs.ReportLines.{line}
use Rattle.nomos_snapshot.specs.Loading.{Loads}
use Rattle.nomos_types.specs.Acceptance.{Acceptance}
use Rattle.nomos_carrying.specs.CarryDue.{IsRenumberingDue, TellsNumbers, next_numbers}
use Rattle.nomos_carrying.specs.CarryDue as due
use Rattle.nomos_carrying.specs.CarrySources.{IsNumbersDueFor, IsRenumberDueFor}
use Rattle.nomos_carrying.specs.Renumbered as renumbered
use Rattle.nomos_carrying.specs.mirror.Renumbering.{TellsNextOf}

-- what holds of a value that there is, if memory was not wanting
pub if_ok-some : {X E : Type 0} (r : Result X E) (P Q : X → Type 0) → ((x : X) → P x → Q x) → IfOk r P
    → IfSome (result_ok r) Q
if_ok-some (Ok x) P Q f h = f x h
if_ok-some (Err e) P Q f h = tt

-- the same of an option
pub if_some-map : {X : Type 0} (o : Option X) (P Q : X → Type 0) → ((x : X) → P x → Q x) → IfSome o P → IfSome o Q
if_some-map (Some x) P Q f h = f x h
if_some-map None P Q f h = tt

-- ---- no ledger

-- what is due says why there is none, and nothing is kept
pub record IsNone (a : Acceptance) (snapshot : Input) (d : Due) : Type 0 where
  pub is : IsNoLedger a snapshot d.status d.out.items
  pub nothing_kept : kept_text d ≡ None

pub none-is : {a : Acceptance} (snapshot : Input) (why : NoLedger) (d : Due) → IsNoLedgerOf a snapshot why
    → HasNoLedger why d → IsNone a snapshot d
none-is snapshot no_ledger.ReadFault d rose none = record {
  is = rw (none.line.status_is, none.line.text_is) (resumes.fault rose);
  nothing_kept = none.line.nothing_kept;
}
none-is snapshot (no_ledger.Refused why) d refuses none = record {
  is =
      rw (none.line.status_is, none.line.text_is)
      (resumes.refused why (refuses (λ e. none.known (ap no_ledger.Refused e))));
  nothing_kept = none.line.nothing_kept;
}

pub numbers-none : {a : Acceptance} (snapshot : SourceState) (text : List ℕ) (why : NoLedger) (d : Due)
    → HasText snapshot.left text → IsNoLedgerOf a (input_of snapshot text) why → HasNoLedger why d
    → IsNumbersDueFor a snapshot d
numbers-none snapshot text why d told of none =
    let is = none-is (input_of snapshot text) why d of none in
    record {
      text = text;
      told = told;
      is = due.numbers_unloaded d.status d.out.items is.is;
      nothing_kept = is.nothing_kept;
    }

pub renumber-none : {a : Acceptance} (snapshot : SourceState) (text : List ℕ) (why : NoLedger) (d : Due)
    → HasText snapshot.left text → IsNoLedgerOf a (input_of snapshot text) why → HasNoLedger why d
    → IsRenumberDueFor a snapshot d
renumber-none snapshot text why d told of none =
    let is = none-is (input_of snapshot text) why d of none in
    record {
      text = text;
      told = told;
      is = rw is.nothing_kept (renumbered.no_ledger d.status d.out.items is.is);
    }

-- ---- next numbers

-- where a renumbering is due, a line more says so
pub tells-high : {object name : ℕ} {text made : List ℕ} → IsRenumberingDue object name → text ≡ next_numbers object name
    → made ≡ text ++ line (codes "renumbering is due") → TellsNumbers object name made
tells-high {object} {name} high first behind =
    subst (TellsNumbers object name)
    (sym (behind ∙ ap (λ (t : List ℕ). t ++ line (codes "renumbering is due")) first)) (due.numbers_high high)

pub numbers-told : {a : Acceptance} (snapshot : SourceState) (text : List ℕ) (l : LedgerState) (d : Due)
    → HasText snapshot.left text → Loads a text (Ok l) → TellsNextOf l None d → IsNumbersDueFor a snapshot d
numbers-told snapshot text l d told loads tells = record {
  text = text;
  told = told;
  is = rw tells.status_is (due.numbers_told l d.out.items loads tells.told);
  nothing_kept = tells.kept_is;
}

-- What a whole run gives: its report, and the text of its journal.
use Rattle.std.proofs.Common.{◌≡◌, ◌∙◌, ℕ, List, length, take, Option, Some, None, refl, sym, ap, subst}
use Rattle.std.specs.Prelude.{Bool, true, false, IfSome}
use Rattle.std.specs.Option.{option_map}
use Rattle.std.proofs.Math.Seq.{take-length}
use Rattle.nomos_types.specs.Acceptance.{Acceptance}
use Rattle.nomos_script.specs.declared.item.ScriptItem.{ScriptItem}
use Rattle.nomos_legal.specs.Ledger.{LedgerState, empty_ledger}
use Rattle.nomos_legal.specs.Legal.{TellsFrom}
use Rattle.nomos_journal.specs.JournalText.{IsTextOf}
use Rattle.nomos_journal.specs.declared.line.Version.TheVariants as version
use Rattle.nomos_report.specs.Reported.{IsReportFrom}
use Rattle.nomos_walk.specs.Wanted.{journal_text_of, where_wanted}
use Rattle.nomos_run.specs.Carried.{IsWholeRun, RunsScript, RunsScriptFrom}
use Rattle.nomos_run.specs.declared.orders.Orders.{Orders}
use Rattle.nomos_run.specs.declared.orders.ScriptRun.{ScriptRun}
use Rattle.nomos_run.specs.declared.orders.WholeRun.{WholeRun}

-- one value is given
pub some_same : {X : Type 0} (x y : X) → Some x ≡ Some y → x ≡ y
some_same x y same = cc

module _ {M : Type 0} {a : Acceptance} {first : LedgerState} {items : List ScriptItem} {orders : Orders}
    {run : ScriptRun M} (runs : RunsScriptFrom a first items orders run) (whole : WholeRun M)
    (given : run.finished ≡ Some whole) where
  is-whole : (runs.count ≡ length items) × IsWholeRun a orders runs.passages runs.last whole
  is-whole =
      subst
      (λ (o : Option (WholeRun M)).
      IfSome o (λ f. (runs.count ≡ length items) × IsWholeRun a orders runs.passages runs.last f)) given runs.all

  -- the journal of a whole run is that of all items
  pub whole-tells : TellsFrom a first items run.journal runs.passages runs.last
  whole-tells =
      subst (λ (is : List ScriptItem). TellsFrom a first is run.journal runs.passages runs.last)
      (ap (λ (n : ℕ). take n items) is-whole.0 ∙ take-length items) runs.tells

  -- its report is that of its journal
  pub whole-report : IsReportFrom a first items run.journal whole.report.items
  whole-report = record {
    passages = runs.passages;
    last = runs.last;
    tells = whole-tells;
    is = is-whole.1.report;
  }

written : (wanted : Bool) (text all : List ℕ) → Some text ≡ where_wanted wanted all → text ≡ all
written true text all same = some_same text all same
written false text all same = absurd cc

-- and its text, where one was wanted
pub whole-text : {M : Type 0} {a : Acceptance} {items : List ScriptItem} {orders : Orders} {run : ScriptRun M}
    (runs : RunsScript a items orders run) (whole : WholeRun M) (given : run.finished ≡ Some whole) (text : List ℕ)
    → Some text ≡ where_wanted orders.text (journal_text_of a orders.limit runs.passages)
    → IsTextOf version.Two a items run.journal text
whole-text {a = a} {orders = orders} runs whole given text is = record {
  passages = runs.passages;
  last = runs.last;
  tells = whole-tells runs whole given;
  lines =
      written orders.text text _ is ∙ ap (λ (limit : ℕ). journal_text_of a limit runs.passages) (sym runs.limit);
}

-- the report and the text of what is given, if the run is whole
pub given-report : {M : Type 0} {a : Acceptance} {first : LedgerState} {items : List ScriptItem} {orders : Orders}
    (run : ScriptRun M) → RunsScriptFrom a first items orders run
    → IfSome run.finished (λ f. IsReportFrom a first items run.journal f.report.items)
given-report {M} {a} {first} {items} run runs = at run.finished refl
  where
    at : (o : Option (WholeRun M)) → run.finished ≡ o
        → IfSome o (λ f. IsReportFrom a first items run.journal f.report.items)
    at (Some whole) given = whole-report runs whole given
    at None given = tt

pub given-text : {M : Type 0} {a : Acceptance} {items : List ScriptItem} {orders : Orders} (run : ScriptRun M)
    → RunsScript a items orders run
    → IfSome run.finished (λ f. IfSome f.text (λ t. IsTextOf version.Two a items run.journal t.items))
given-text {M} {a} {items} {orders} run runs = at run.finished refl
  where
    by : (whole : WholeRun M) → run.finished ≡ Some whole → (o : Option _) → whole.text ≡ o
        → IfSome o (λ t. IsTextOf version.Two a items run.journal t.items)
    by whole given (Some text) is =
        whole-text runs whole given text.items
        (ap (λ o. option_map (λ t. t.items) o) (sym is) ∙ (is-whole runs whole given).1.text)
    by whole given None is = tt

    at : (o : Option (WholeRun M)) → run.finished ≡ o
        → IfSome o (λ f. IfSome f.text (λ t. IsTextOf version.Two a items run.journal t.items))
    at (Some whole) given = by whole given whole.text refl
    at None given = tt

-- Firings that stay, and what is due of a load from its parts.
use Rattle.std.proofs.Common.{◌≡◌, ◌∙◌, ◌+◌, ◌<◌, ◌≤◌, ℕ, Bool, true, List, length, take, get_or, Option, Some, None, inl, inr, refl, ap, sym, subst, arith}
use Rattle.std.specs.Prelude.{IfSome}
use Rattle.std.proofs.Math.Seq.{take-length}
use Rattle.std.proofs.lemmas.List.Sums.{sum_by_more, sum_by-le-sum_by, sum_by-take-le}
use Rattle.std.proofs.lemmas.Bool.{cases_Bool}
use Rattle.nomos_types.specs.Acceptance.{Acceptance}
use Rattle.nomos_script.specs.ScriptReading.{ReadsAs}
use Rattle.nomos_script.specs.declared.item.ScriptItem.{ScriptItem}
use Rattle.nomos_script.proofs.ReadingLaws.{reads_without_syntax}
use Rattle.nomos_ir.specs.Value.{Value}
use Rattle.nomos_legal.specs.Ledger.{LedgerState}
use Rattle.nomos_legal.specs.Legal.{Tells, firings_made}
use Rattle.nomos_legal.specs.StandsFor.{StandsFor}
use Rattle.nomos_legal.specs.declared.journal.Entry.{Entry}
use Rattle.nomos_legal.specs.declared.journal.Journal.{Journal}
use Rattle.nomos_report.specs.Reported.{run_status}
use Rattle.nomos_walk.specs.Wanted.{result_behind, result_where_wanted}
use Rattle.nomos_run.specs.Carried.{IsWholeRun, RunsScript}
use Rattle.nomos_run.specs.declared.orders.Orders.{Orders}
use Rattle.nomos_run.specs.declared.orders.ScriptRun.{ScriptRun}
use Rattle.nomos_run.specs.declared.orders.WholeRun.{WholeRun}
use Rattle.nomos_words.specs.Summary.{summary_text}
use Rattle.nomos_answers.specs.Benches as benches
use Rattle.nomos_answers.specs.Benches.{IsBenchDue, IsBenchPart, all_lasting, figures_of, lasting_firings, load_text, stays}
use Rattle.nomos_answers.specs.Finding.{HasRunLoad, HasRunPart, IsMissing}
use Rattle.nomos_answers.specs.Outside.{FaultCounts}
use Rattle.nomos_answers.specs.Sources.{kept_text}
use Rattle.nomos_answers.specs.declared.benches.Load.{Load}
use Rattle.nomos_answers.specs.declared.due.Due.{Due}
use Rattle.nomos_answers.specs.declared.script_found.NoScript.{NoScript}
use Rattle.nomos_answers.specs.declared.script_found.NoScript.TheVariants as none
use Rattle.nomos_answers.proofs.LoadReadsLaws.{load-reads, load_items}

-- the firings of an entry that stay are firings of it
lasting-few : (e : Entry) → lasting_firings e ≤ length e.firings
lasting-few e = elim (cases_Bool (stays e.end)) [
  | inl staying ↦ rw staying (omega arith)
  | inr undone ↦ rw undone (omega arith)
]

-- so the firings that stay of some first entries, and of one more, are at most those of all
pub lasting-within : (entries : List Entry) (n : ℕ) (e : Entry) → n < length entries → e ≡ get_or entries n e
    → all_lasting (take n entries) + lasting_firings e ≤ firings_made entries
lasting-within entries n e inside is =
    let next : all_lasting (take (n + 1) entries) ≡ all_lasting (take n entries) + lasting_firings (get_or entries n e)
    = sum_by_more lasting_firings entries n e inside in
    let same : lasting_firings e ≡ lasting_firings (get_or entries n e) = ap lasting_firings is in
    let front : all_lasting (take (n + 1) entries) ≤ all_lasting entries
    = sum_by-take-le lasting_firings entries (n + 1) in
    let all : all_lasting entries ≤ firings_made entries
    = sum_by-le-sum_by lasting_firings (λ x. length x.firings) entries lasting-few in
    omega (arith, next, same, front, all)

-- a load whose script reads, and was run
pub bench-due : (a : Acceptance) (orders : Orders) (load : Load) (items : List ScriptItem) (due : Due)
    → ReadsAs (load_text load) items → HasRunLoad a items orders load due
    → IsBenchDue a orders load due.status due.out.items due.journal
bench-due a orders load items due reads run =
    rw (run.status_is, run.text_is) (benches.ran items due.journal run.passages run.last reads run.run run.stands)

-- the same of some first items
pub bench-part : (a : Acceptance) (orders : Orders) (load : Load) (items : List ScriptItem) (journal : Journal)
    → ReadsAs (load_text load) items → HasRunPart a items orders journal → IsBenchPart a orders load journal
bench-part a orders load items journal reads part =
    benches.ran_part items part.count journal part.passages part.last reads part.run

-- a whole run of a load, which asked for the last result
pub load-run : {M : Type 0} (a : Acceptance) (items : List ScriptItem) (orders : Orders) (load : Load)
    (run : ScriptRun M) (whole : WholeRun M) (due : Due) → orders.result ≡ true → (ran : RunsScript a items orders run)
    → run.finished ≡ Some whole → due.journal ≡ run.journal → due.status ≡ run_status run.journal.entries
    → due.out.items ≡ summary_text (figures_of load a run.journal whole.ledger) whole.last_result
    → kept_text due ≡ None → HasRunLoad a items orders load due
load-run a items orders load run whole due wanted ran finished journal status out none =
    let all : IfSome (Some whole) (λ f. (ran.count ≡ length items) × IsWholeRun a orders ran.passages ran.last f) =
    rw finished at ran.all in
    let told = all.1 in
    let items_are : take ran.count items ≡ items = rw all.0 (take-length items) in
    let tells : Tells a items run.journal ran.passages ran.last =
    subst (λ (is : List ScriptItem). Tells a is run.journal ran.passages ran.last) items_are ran.tells in
    let stands : StandsFor a ran.last = subst (StandsFor a) told.ledger told.stands in
    let result : whole.last_result ≡ result_behind None ran.passages =
    told.result ∙ ap (λ (w : Bool). result_where_wanted w ran.passages) wanted in
    record {
      passages = ran.passages;
      last = ran.last;
      run =
          record {
            limit = ap (λ (j : Journal). j.limit) journal ∙ ran.limit;
            tells = subst (λ (j : Journal). Tells a items j ran.passages ran.last) (sym journal) tells;
            follows = ran.follows;
          };
      stands = stands;
      status_is = status ∙ ap (λ (j : Journal). run_status j.entries) (sym journal);
      text_is =
          out
          ∙ ap (λ (j : Journal). summary_text (figures_of load a j whole.ledger) whole.last_result) (sym journal)
          ∙ ap (λ (l : LedgerState). summary_text (figures_of load a due.journal l) whole.last_result) told.ledger
          ∙ ap (λ (v : Option Value). summary_text (figures_of load a due.journal ran.last) v) result;
      nothing_kept = none;
    }

-- no read of a made script fails
abbrev pub no_faults : FaultCounts
no_faults = record { before = 0; after = 0 }

-- no script of a load is missing but for want of memory
pub load-not_missing : (load : Load) → load.bidders ≤ 10000 → (why : NoScript)
    → IsMissing (record { text = load_text load; counts = no_faults }) why → why ≡ none.NoMemory
load-not_missing load few none.TooLong over =
    absurd (omega (arith, over, (load-reads load.seed load.bidders few).limit))
load-not_missing load few (none.Syntax k) bad =
    absurd
    (reads_without_syntax (load_text load) k (load_items load.seed load.bidders)
    (load-reads load.seed load.bidders few) bad)
load-not_missing load few none.ReadFault rose =
    elim rose [
      | inl below ↦ absurd (omega (arith, below))
      | inr last ↦ absurd (omega (arith, last))
    ]
load-not_missing load few none.NoMemory is = refl

-- What a text tells is what became of the items by a legal journal, whose text it is.
use Rattle.std.proofs.Common.{◌≡◌, ◌∙◌, ◌≤◌, ◌++◌, ℕ, List, [], ◌∷◌, length, length-append, Option, Some, None, Ok, refl, sym, subst, ap, arith, append-nil, append_assoc}
use Rattle.std.specs.Option.{option_to_list}
use Rattle.std.proofs.lemmas.List.{flat_map_more}
use Rattle.std.proofs.lemmas.Option.{same_Some}
use Rattle.nomos_types.specs.Acceptance.{Acceptance}
use Rattle.nomos_machine.specs.Optional.{◌>>=◌}
use Rattle.nomos_machine.specs.Run.{run}
use Rattle.nomos_machine.specs.State.{State}
use Rattle.nomos_machine.specs.Step.{step}
use Rattle.nomos_machine.proofs.RunLaws.{run-push}
use Rattle.nomos_script.specs.declared.item.ScriptItem.{ScriptItem}
use Rattle.nomos_script.specs.declared.item.ScriptItem.TheVariants as item
use Rattle.nomos_legal.specs.Batch.{AllStart, after_starts, state_or}
use Rattle.nomos_legal.specs.Ledger.{LedgerState}
use Rattle.nomos_legal.specs.Legal.{IsLimit, TellsFrom, entries_of}
use Rattle.nomos_legal.specs.Passage.{IsPassage, Passage, RunsTo, Undoes, bare, still}
use Rattle.nomos_legal.specs.Passage as passage
use Rattle.nomos_legal.specs.declared.journal.End.{End}
use Rattle.nomos_legal.specs.declared.journal.End.TheVariants as end
use Rattle.nomos_legal.specs.declared.journal.Entry.{Entry}
use Rattle.nomos_legal.specs.declared.journal.Journal.{Journal}
use Rattle.nomos_legal.proofs.LegalLaws.{deposit-passage, entries_of-append, journal_with, tells-more, tells-none-from}
use Rattle.nomos_journal.specs.JournalText.{firing_line, firing_lines, journal_lines, passage_lines}
use Rattle.nomos_journal.specs.Line.{line_text}
use Rattle.nomos_journal.specs.Text.{lines_text}
use Rattle.nomos_journal.specs.declared.line.JournalLine.{JournalLine}
use Rattle.nomos_journal.specs.declared.line.JournalLine.TheVariants as line
use Rattle.nomos_journal.specs.declared.line.Version.{Version}
use Rattle.nomos_journal.proofs.LineLaws.{first_line}
use Rattle.nomos_replay.specs.Answers.{AnswersFrom, Reads, told_show}
use Rattle.nomos_replay.specs.Answers as answers
use Rattle.nomos_replay.specs.Stand.{Goes, Opens, Stand, UnderWay, entry_at, ledger_after, told_run}
use Rattle.nomos_replay.specs.Stand as stand
use Rattle.nomos_replay.specs.Told.{Told, journal_told, next_limit, nothing_told, told_with}

-- ---- lines of firings

-- the lines of a run with one firing more
firing_lines-push : (v : Version) (a : Acceptance) (s t : State) (pids : List ℕ) (pid : ℕ) (l : JournalLine)
    → run a s pids ≡ Some t → firing_line v a t pid ≡ Some l
    → firing_lines v a s (pids ++ pid ∷ []) ≡ firing_lines v a s pids ++ l ∷ []
firing_lines-push v a s t [] pid l reached is =
    let here : s ≡ t = same_Some s t reached in
    append-nil (option_to_list (firing_line v a s pid))
    ∙ ap (λ (x : State). option_to_list (firing_line v a x pid)) here
    ∙ ap (λ (o : Option JournalLine). option_to_list o) is
firing_lines-push v a s t (p ∷ pids) pid l reached is =
    at (step a s p) refl reached (λ u rest. firing_lines-push v a u t pids pid l rest is)
  where
    at : (o : Option State) → step a s p ≡ o → (o >>= λ next. run a next pids) ≡ Some t
        → ((u : State) → run a u pids ≡ Some t
        → firing_lines v a u (pids ++ pid ∷ []) ≡ firing_lines v a u pids ++ l ∷ [])
        → firing_lines v a s ((p ∷ pids) ++ pid ∷ []) ≡ firing_lines v a s (p ∷ pids) ++ l ∷ []
    at (Some u) steps rest others =
        let here : List JournalLine = option_to_list (firing_line v a s p) in
        let same : state_or s (step a s p) ≡ u = ap (state_or s) steps in
        ap (λ (x : State). here ++ firing_lines v a x (pids ++ pid ∷ [])) same
        ∙ ap (λ (ls : List JournalLine). here ++ ls) (others u rest)
        ∙ sym (append_assoc here (firing_lines v a u pids) (l ∷ []))
        ∙ ap (λ (x : State). (here ++ firing_lines v a x pids) ++ l ∷ []) (sym same)
    at None steps rest others = absurd cc

-- ---- what was told

-- the passages are what became of the first items, and the others follow
record ToldSo (a : Acceptance) (first : LedgerState) (all : List ScriptItem) (told : Told) (items : List ScriptItem)
    : Type 0 where
  done : List ScriptItem
  tells : TellsFrom a first done (journal_told told) told.passages told.ledger
  parts : done ++ items ≡ all

-- one passage more
module _ (a : Acceptance) (first : LedgerState) (all : List ScriptItem) where
  so-none : (limit : ℕ) → IsLimit limit → ToldSo a first all (nothing_told first limit) all
  so-none limit is = record { done = []; tells = tells-none-from a first limit is; parts = refl }

  so-more : (told : Told) (p : Passage) (items : List ScriptItem) → ToldSo a first all told (p.item ∷ items)
      → p.before ≡ told.ledger → IsPassage a (next_limit told) p → ToldSo a first all (told_with told p) items
  so-more told p items so before is =
      let tells = tells-more so.tells p before is in
      let same : journal_with (journal_told told) p.entry ≡ journal_told (told_with told p) =
      (λ i. record {
        limit = told.limit;
        entries =
            (ap (λ (es : List Entry). entries_of told.passages ++ es) (sym (append-nil (option_to_list p.entry)))
            ∙ sym (entries_of-append told.passages (p ∷ []))) i;
      })
      in
      record {
        done = so.done ++ p.item ∷ [];
        tells = subst (λ (j : Journal). TellsFrom a first (so.done ++ p.item ∷ []) j (told.passages ++ p ∷ []) p.after)
            same tells;
        parts = append_assoc so.done (p.item ∷ []) items ∙ so.parts;
      }

-- ---- what was read

-- the lines of the item that is under way
abbrev opened_lines : Version → Acceptance → Told → UnderWay → List JournalLine
opened_lines v a told run =
    line.Line run.batch.line ∷ firing_lines v a (after_starts a told.ledger run.starts).state run.firings

-- These lines lead there, and all is as it was told.
data Led (a : Acceptance) (first : LedgerState) (all : List ScriptItem) : List JournalLine → Stand → Type 0 where
  at_head : Led a first all [] stand.at_head
  at_steps : (v : Version) → Led a first all (line.Head v ∷ []) (stand.at_steps v)
  before : (v : Version) (told : Told) (items : List ScriptItem) (lines : List JournalLine)
      → ToldSo a first all told items
      → lines ≡ journal_lines v a told.limit told.passages → Led a first all lines (stand.before v told items)
  owes : (v : Version) (told : Told) (i : ScriptItem) (at : ℕ) (own : End) (after : LedgerState)
      (items : List ScriptItem)
      (lines : List JournalLine) → ToldSo a first all told (i ∷ items)
      → IsPassage a (next_limit told) (still i (bare at own) told.ledger after)
      → lines ≡ journal_lines v a told.limit told.passages ++ line.Line at ∷ []
      → Led a first all lines (stand.owes v told i at own after items)
  fires : (v : Version) (told : Told) (way : UnderWay) (items : List ScriptItem) (lines : List JournalLine)
      → ToldSo a first all told (item.Batch way.batch ∷ items) → AllStart a told.ledger way.batch.starts way.starts
      → run a (after_starts a told.ledger way.starts).state way.firings ≡ Some way.state
      → length way.firings ≤ next_limit told
      → lines ≡ journal_lines v a told.limit told.passages ++ opened_lines v a told way
      → Led a first all lines (stand.fires v told way items)

-- the lines of one passage more
lines-more : (v : Version) (a : Acceptance) (told : Told) (p : Passage) (lines own : List JournalLine)
    → lines ≡ journal_lines v a told.limit told.passages ++ own → passage_lines v a p ≡ own
    → lines ≡ journal_lines v a told.limit (told.passages ++ p ∷ [])
lines-more v a told p lines own are is =
    are ∙ ap (λ (ls : List JournalLine). journal_lines v a told.limit told.passages ++ ls) (sym is)
    ∙ flat_map_more (passage_lines v a) (line.Head v ∷ line.Steps told.limit ∷ []) told.passages p

-- a batch that ended is a passage
run-passage : {a : Acceptance} (told : Told) (run : UnderWay) (e : End)
    → AllStart a told.ledger run.batch.starts run.starts
    → RunsTo a (next_limit told) (after_starts a told.ledger run.starts).state run.firings run.state e
    → IsPassage a (next_limit told)
    (passage.runs run.batch run.firings e told.ledger (after_starts a told.ledger run.starts) run.state
    (ledger_after told.ledger (after_starts a told.ledger run.starts) run.state e))
run-passage told run end.Committed begun reaches =
    passage.stays told.ledger run.batch run.starts run.firings run.state begun reaches
run-passage told run end.Blocked begun reaches =
    passage.undone told.ledger run.batch run.starts run.firings run.state end.Blocked begun reaches tt
run-passage told run (end.Aborted pid f) begun reaches =
    passage.undone told.ledger run.batch run.starts run.firings run.state (end.Aborted pid f) begun reaches tt
run-passage told run (end.Steps n) begun reaches =
    passage.undone told.ledger run.batch run.starts run.firings run.state (end.Steps n) begun reaches tt
run-passage told run end.Deposited begun reaches =
    passage.undone told.ledger run.batch run.starts run.firings run.state end.Deposited begun reaches tt
run-passage told run (end.Refused n cause) begun reaches =
    passage.undone told.ledger run.batch run.starts run.firings run.state (end.Refused n cause) begun reaches tt

module _ {a : Acceptance} {first : LedgerState} {all : List ScriptItem} where
  -- what stands behind the `line` of an item
  led-opened : {v : Version} {told : Told} {items : List ScriptItem} {i : ScriptItem} {next : Stand} {at : ℕ}
      (lines : List JournalLine)
      → Opens a v told items i next → entry_at i ≡ Some at → ToldSo a first all told (i ∷ items)
      → lines ≡ journal_lines v a told.limit told.passages → Led a first all (lines ++ line.Line at ∷ []) next
  led-opened {v} {told} {items} {at = at} lines (stand.deposit n name units own after deposits) is so are =
      let same : at ≡ n = same_Some at n (sym is) in
      owes v told (item.Deposit n name units) n own after items (lines ++ line.Line at ∷ []) so
      (deposit-passage deposits)
      (λ i. are i ++ line.Line (same i) ∷ [])
  led-opened {v} {told} {items} {at = at} lines (stand.refused batch n cause refuses) is so are =
      let same : at ≡ batch.line = same_Some at batch.line (sym is) in
      owes v told (item.Batch batch) batch.line (end.Refused n cause) told.ledger items (lines ++ line.Line at ∷ []) so
      (passage.refused told.ledger batch n cause refuses) (λ i. are i ++ line.Line (same i) ∷ [])
  led-opened {v} {told} {items} {at = at} lines (stand.started batch starts begun) is so are =
      let same : at ≡ batch.line = same_Some at batch.line (sym is) in
      fires v told
      (record {
        batch = batch;
        starts = starts;
        firings = [];
        state = (after_starts a told.ledger starts).state;
      })
      items (lines ++ line.Line at ∷ []) so begun refl (omega arith) (λ i. are i ++ line.Line (same i) ∷ [])

  -- a line that is right leads on
  led-goes : {s t : Stand} {l : JournalLine} {lines : List JournalLine} → Led a first all lines s
      → Goes a first all s l t
      → Led a first all (lines ++ l ∷ []) t
  led-goes at_head (stand.head v) = at_steps v
  led-goes (at_steps v) (stand.steps w limit is) =
      before v (nothing_told first limit) all (line.Head v ∷ line.Steps limit ∷ []) (so-none a first all limit is) refl
  led-goes (before v told items lines so are) (stand.item_line w told2 i others at next is opens) =
      led-opened lines opens is so are
  led-goes (owes v told i at own after items lines so is are)
      (stand.own_end w told2 i2 at2 own2 after2 items2 kept same) =
      let p : Passage = still i (bare at own) told.ledger after in
      let more = append_assoc (journal_lines v a told.limit told.passages) (line.Line at ∷ []) (line.End own ∷ []) in
      let kept_same : lines ++ line.End kept ∷ [] ≡ lines ++ line.End own ∷ [] =
      ap (λ (e : End). lines ++ line.End e ∷ []) same in
      before v (told_with told p) items (lines ++ line.End kept ∷ []) (so-more a first all told p items so refl is)
      (lines-more v a told p (lines ++ line.End kept ∷ []) (line.Line at ∷ line.End own ∷ [])
      (kept_same ∙ ap (λ (ls : List JournalLine). ls ++ line.End own ∷ []) are ∙ more) refl)
  led-goes (fires v told run items lines so begun reached within are)
      (stand.firing w told2 run2 items2 l pid s says steps is) =
      let start : State = (after_starts a told.ledger run.starts).state in
      let more = firing_lines-push v a start run.state run.firings pid l reached is in
      fires v told (record run { firings = run.firings ++ pid ∷ []; state = s }) items (lines ++ l ∷ []) so begun
      (run-push a start run.state s run.firings pid reached steps)
      (omega (arith, says.left, length-append run.firings (pid ∷ [])))
      (ap (λ (ls : List JournalLine). ls ++ l ∷ []) are
      ∙ append_assoc (journal_lines v a told.limit told.passages) (opened_lines v a told run) (l ∷ [])
      ∙ ap (λ (ls : List JournalLine). journal_lines v a told.limit told.passages ++ line.Line run.batch.line ∷ ls)
      (sym more))
  led-goes (fires v told run items lines so begun reached within are)
      (stand.batch_end w told2 run2 items2 kept allowed) =
      let start : LedgerState = after_starts a told.ledger run.starts in
      let p : Passage = passage.runs run.batch run.firings kept told.ledger start run.state
      (ledger_after told.ledger start run.state kept) in
      let is : IsPassage a (next_limit told) p =
      run-passage told run kept begun (record { reached = reached; within = within; allowed = allowed }) in
      let own : List JournalLine =
      line.Line run.batch.line ∷ (firing_lines v a start.state run.firings ++ line.End kept ∷ []) in
      let more = append_assoc (journal_lines v a told.limit told.passages) (opened_lines v a told run)
      (line.End kept ∷ []) in
      before v (told_with told p) items (lines ++ line.End kept ∷ []) (so-more a first all told p items so refl is)
      (lines-more v a told p (lines ++ line.End kept ∷ []) own
      (ap (λ (ls : List JournalLine). ls ++ line.End kept ∷ []) are ∙ more) (append-nil own))

  -- so does a `show`
  led-show : (v : Version) (told : Told) (n : ℕ) (items : List ScriptItem) (lines : List JournalLine)
      → Led a first all lines (stand.before v told (item.Show n ∷ items))
      → Led a first all lines (stand.before v (told_show told n) items)
  led-show v told n items lines (before w told2 items2 lines2 so are) =
      let p : Passage = still (item.Show n) None told.ledger told.ledger in
      before v (told_with told p) items lines (so-more a first all told p items so refl (passage.shown told.ledger n))
      (lines-more v a told p lines [] (are ∙ sym (append-nil (journal_lines v a told.limit told.passages))) refl)

-- The lines that are read up to the end of the text are those of what is told.
record ReadTo (a : Acceptance) (first : LedgerState) (all : List ScriptItem) (told : Told) (lines : List JournalLine)
    (text : List ℕ) : Type 0 where
  version : Version
  so : ToldSo a first all told []
  rest : List JournalLine
  text_is : text ≡ lines_text a.annotations.unit rest
  lines_are : lines ++ rest ≡ journal_lines version a told.limit told.passages

module _ (a : Acceptance) (first : LedgerState) (all : List ScriptItem) where
  read-to : {at : ℕ} {s : Stand} {text : List ℕ} {told : Told} (lines : List JournalLine) → Led a first all lines s
      → Reads a first all at s text (Ok told) → ReadTo a first all told lines text
  read-to lines (before w told2 items lines2 so are) (answers.ends at v told) = record {
    version = v;
    so = so;
    rest = [];
    text_is = refl;
    lines_are = append-nil lines ∙ are;
  }
  read-to lines led (answers.shows at v told n items text answer rest) =
      read-to lines (led-show v told n items lines led) rest
  read-to lines led (answers.goes at s next text left l answer begins goes rest) =
      let further = read-to (lines ++ l ∷ []) (led-goes led goes) rest in
      record {
        version = further.version;
        so = further.so;
        rest = l ∷ further.rest;
        text_is =
            begins.joined
            ∙ ap (λ (t : List ℕ). line_text a.annotations.unit l ++ 10 ∷ t) further.text_is
            ∙ sym (first_line a.annotations.unit l further.rest);
        lines_are = sym (append_assoc lines (l ∷ []) further.rest) ∙ further.lines_are;
      }

-- Where a text is read to its end, it is that of the legal journal that it tells.
pub record IsToldBy (a : Acceptance) (first : LedgerState) (items : List ScriptItem) (text : List ℕ) (told : Told)
    : Type 0 where
  pub version : Version
  pub tells : TellsFrom a first items (journal_told told) told.passages told.ledger
  pub lines : text ≡ lines_text a.annotations.unit (journal_lines version a told.limit told.passages)

pub answer-legal : {a : Acceptance} {first : LedgerState} {items : List ScriptItem} {text : List ℕ} {told : Told}
    → AnswersFrom a first items text (Ok told) → IsToldBy a first items text told
answer-legal {a} {first} {items} {text} {told} (answers.reads answer within reads) =
    let read = read-to a first items [] at_head reads in
    record {
      version = read.version;
      tells =
          subst (λ (is : List ScriptItem). TellsFrom a first is (journal_told told) told.passages told.ledger)
          (sym (append-nil read.so.done) ∙ read.so.parts) read.so.tells;
      lines = read.text_is ∙ ap (lines_text a.annotations.unit) read.lines_are;
    }

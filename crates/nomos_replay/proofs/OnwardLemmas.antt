-- What is told onward of an item, line by line.
use Rattle.std.proofs.Common.{◌≡◌, ◌∙◌, ◌+◌, ◌-◌, ◌<◌, ◌^◌, ◌++◌, ℕ, List, [], ◌∷◌, length, Option, Some, None, Result, Ok, Err, IfOk, IfErr, MatchResult, refl, sym, subst, ap, arith}
use Rattle.std.proofs.lemmas.Result.{MatchResult-weaker}
use Rattle.nomos_types.specs.Acceptance.{Acceptance}
use Rattle.nomos_machine.specs.State.{State}
use Rattle.nomos_script.specs.Size.{start_count}
use Rattle.nomos_script.specs.declared.item.Batch.{Batch}
use Rattle.nomos_script.specs.declared.item.ScriptItem.{ScriptItem}
use Rattle.nomos_script.specs.declared.item.ScriptItem.TheVariants as item
use Rattle.nomos_legal.specs.Batch.{AllStart, after_starts}
use Rattle.nomos_legal.specs.Ending.{IsAllowed}
use Rattle.nomos_legal.specs.Leaving.{left_by, passage_of}
use Rattle.nomos_legal.specs.Ledger.{FitsDeposits, LedgerState, deposited}
use Rattle.nomos_legal.specs.Legal.{batch_limit}
use Rattle.nomos_legal.specs.NextNumbers.{HasNumbered}
use Rattle.nomos_legal.specs.Passage.{IsPassage, Passage, bare, runs, still}
use Rattle.nomos_legal.specs.Passage as passage
use Rattle.nomos_legal.specs.StandsFor.{WorldStandsFor}
use Rattle.nomos_legal.specs.World.{WorldState, ledger_begun, pids_of}
use Rattle.nomos_legal.specs.declared.journal.End.{End}
use Rattle.nomos_legal.specs.declared.journal.End.TheVariants as end
use Rattle.nomos_legal.specs.declared.journal.Entry.{Entry}
use Rattle.nomos_legal.specs.declared.refusal.Refusal.TheVariants as refusal
use Rattle.nomos_legal.proofs.StartLaws.{starts-length}
use Rattle.nomos_legal.proofs.WorldLaws.{committed-is}
use Rattle.nomos_journal.specs.declared.line.JournalLine.TheVariants as line
use Rattle.nomos_journal.specs.declared.line.Version.{Version}
use Rattle.nomos_ledger.specs.Beginning.{HasBegun}
use Rattle.nomos_ledger.specs.Running.{RunsOn}
use Rattle.nomos_ledger.proofs.RunningLaws.{ran-before}
use Rattle.nomos_report.specs.Reported.{HasNoFirings}
use Rattle.nomos_walk.specs.WalkState.{WalkState}
use Rattle.nomos_walk.specs.Walks.{HasBegunBatch, HasItemRoom, HasRoomFor, IsStill, PassesStill, batch_entry, walk_with}
use Rattle.nomos_walk.specs.declared.started.PassedItem.{PassedItem}
use Rattle.nomos_walk.proofs.ComeLaws.{ran-passes}
use Rattle.nomos_replay.specs.Answers as answers
use Rattle.nomos_replay.specs.Stand.{Opens, Stand, UnderWay, entry_at, fires, ledger_after, owes, told_run}
use Rattle.nomos_replay.specs.Stand as stand
use Rattle.nomos_replay.specs.Told.{Told, next_limit, told_with}
use Rattle.nomos_replay.specs.declared.error.ReplayError.{ReplayError}
use Rattle.nomos_replay.specs.declared.journal_lines.JournalLines.{JournalLines}
use Rattle.nomos_replay.specs.mirror.Items.{PassesOn, told_of}
use Rattle.nomos_replay.specs.mirror.JournalReading.{Carries, HasRead, HasReadEnd, HasReadLine, Stops, StopsAtEnd}
use Rattle.nomos_replay.specs.mirror.BatchUnderWay.{under_way}
use Rattle.nomos_replay.proofs.ReadingLemmas.{carries-line, carries-on, stops-later}

-- an end that is allowed after firings is none of an item without them
allowed-fires : (a : Acceptance) (s : State) (n most : ℕ) (e : End) → IsAllowed a s n most e → HasNoFirings e → ⊥
allowed-fires a s n most end.Deposited allowed none = allowed
allowed-fires a s n most end.Committed allowed none = none
allowed-fires a s n most end.Blocked allowed none = none
allowed-fires a s n most (end.Steps k) allowed none = none
allowed-fires a s n most (end.Aborted pid f) allowed none = none
allowed-fires a s n most (end.Refused at cause) allowed none = allowed

-- what a batch leaves, in the words of a text
left-same : {a : Acceptance} {w : WorldState} → WorldStandsFor a w → (e : End)
    → ledger_after w.origin (ledger_begun a w) w.state e ≡ left_by e w
left-same stands end.Committed = sym (committed-is stands)
left-same stands end.Deposited = refl
left-same stands end.Blocked = refl
left-same stands (end.Aborted pid f) = refl
left-same stands (end.Steps n) = refl
left-same stands (end.Refused n cause) = refl

-- what is told of a batch is the passage that it is
run-told : (a : Acceptance) (told : Told) (batch : Batch) (w : WorldState) (e : End) → WorldStandsFor a w
    → told.ledger ≡ w.origin → told_run a told (under_way batch w) e ≡ told_with told (passage_of a batch w e)
run-told a told batch w e stands same =
    ap (λ (l : LedgerState). told_with told
    (runs batch (pids_of w.firings) e l (after_starts a l w.starts) w.state
    (ledger_after l (after_starts a l w.starts) w.state e))) same
    ∙ ap (λ (k : LedgerState). told_with told
    (runs batch (pids_of w.firings) e w.origin (ledger_begun a w) w.state k)) (left-same stands e)

-- where there is room for an item, there is for its batch that has begun
pub begun-item_room : {old there : WalkState} {l : LedgerState} {i : ScriptItem} {at spent : ℕ} {w : WorldState}
    → HasBegunBatch old l i at spent w there → HasRoomFor old l i
    → HasItemRoom w.origin (length w.starts) (batch_limit there.limit there.made)
begun-item_room {old} {there} {l} {w = w} under room =
    let most : ℕ = batch_limit old.limit old.made in
    let here : HasItemRoom l (start_count (item.Batch under.batch ∷ [])) most =
    subst (λ (j : ScriptItem). HasItemRoom l (start_count (j ∷ [])) most) under.item room in
    let each = starts-length under.begun.starts in
    subst (λ (x : WalkState). HasItemRoom w.origin (length w.starts) (batch_limit x.limit x.made)) (sym under.walk)
    (record {
      accounts = subst (λ (m : LedgerState). length m.accounts < 2 ^ 32 - 1) (sym under.begun.origin) here.accounts;
      given = here.given;
      numbered = subst (λ (m : LedgerState). HasNumbered here.given m.state) (sym under.begun.origin) here.numbered;
      few = omega (arith, here.few, each);
    })

module _ (a : Acceptance) (v : Version) where
  -- ---- items without firings

  module _ (told : Told) (i : ScriptItem) (at : ℕ) (own : End) (after : LedgerState) {source middle : JournalLines}
      (is : entry_at i ≡ Some at) (opens : (items : List ScriptItem)
      → Opens a v told items i (owes v told i at own after items))
      (read : HasRead a.annotations.unit source (line.Line at) middle) where
    -- the line of an item that owes an end leads to where it is owed
    owed-line : (first : LedgerState) (all items : List ScriptItem)
        → Carries a first all source (stand.before v told (i ∷ items)) middle (owes v told i at own after items)
    owed-line first all items =
        carries-line a first all read
        (stand.item_line v told i items at (owes v told i at own after items) is (opens items))

    -- and its end on
    owed-carries : {later : JournalLines} → HasRead a.annotations.unit middle (line.End own) later
        → (first : LedgerState)
        (all items : List ScriptItem)
        → Carries a first all source (stand.before v told (i ∷ items)) later
        (stand.before v (told_with told (still i (bare at own) told.ledger after)) items)
    owed-carries ends first all items =
        carries-on a first all (owed-line first all items)
        (carries-line a first all ends (stand.own_end v told i at own after items own refl))

    -- or the text is refused there
    owed-stops : (e : ReplayError)
        → ((first : LedgerState) (all items : List ScriptItem)
        → Stops a first all middle (owes v told i at own after items) e)
        → (first : LedgerState) (all items : List ScriptItem)
        → Stops a first all source (stand.before v told (i ∷ items)) e
    owed-stops e stops first all items = stops-later a first all (owed-line first all items) e (stops first all items)

  module _ (limit : ℕ) (ps : List Passage) where
    made-opens : (l : LedgerState) (at units : ℕ) (name : List ℕ) → FitsDeposits l units
        → (items : List ScriptItem)
        → Opens a v (told_of limit ps l) items (item.Deposit at name units)
        (owes v (told_of limit ps l) (item.Deposit at name units) at end.Deposited
        (deposited a.annotations.unit l name units) items)
    made-opens l at units name fits items =
        stand.deposit at name units end.Deposited (deposited a.annotations.unit l name units)
        (record { made = λ _. (refl, refl); refused = λ never. absurd (never fits) })

    never-opens : (l : LedgerState) (at units : ℕ) (name : List ℕ) → ¬ FitsDeposits l units
        → (items : List ScriptItem)
        → Opens a v (told_of limit ps l) items (item.Deposit at name units)
        (owes v (told_of limit ps l) (item.Deposit at name units) at (end.Refused at refusal.TooMuchGas) l items)
    never-opens l at units name never items =
        stand.deposit at name units (end.Refused at refusal.TooMuchGas) l
        (record { made = λ fits. absurd (never fits); refused = λ _. (refl, refl) })

    -- an item without firings whose line and end were read is told
    still-carries : {most : ℕ} {p : Passage} → IsPassage a most p → IsStill p.entry
        → (source middle later : JournalLines)
        → HasReadLine a.annotations.unit (entry_at p.item) source middle
        → HasReadEnd a.annotations.unit p.entry middle later → (first : LedgerState) (all items : List ScriptItem)
        → Carries a first all source (stand.before v (told_of limit ps p.before) (p.item ∷ items)) later
        (stand.before v (told_of limit (ps ++ p ∷ []) p.after) items)
    still-carries (passage.deposit l at units name fits) none source middle later read ends first all items =
        owed-carries (told_of limit ps l) (item.Deposit at name units) at end.Deposited
        (deposited a.annotations.unit l name units) refl (made-opens l at units name fits) read ends first all items
    still-carries (passage.no_deposit l at units name never) none source middle later read ends first all items =
        owed-carries (told_of limit ps l) (item.Deposit at name units) at (end.Refused at refusal.TooMuchGas) l refl
        (never-opens l at units name never) read ends first all items
    still-carries (passage.refused l batch at cause refuses) none source middle later read ends first all items =
        owed-carries (told_of limit ps l) (item.Batch batch) batch.line (end.Refused at cause) l refl
        (λ others. stand.refused batch at cause refuses) read ends first all items
    still-carries (passage.stays l batch starts pids last begun reaches) none source middle later read ends first all
        items = absurd none
    still-carries {most} (passage.undone l batch starts pids last answer begun reaches undoes) none source middle later
        read ends first all items = absurd (allowed-fires a last (length pids) most answer reaches.allowed none)
    still-carries (passage.shown l at) none source middle later read ends first all items =
        let here : Carries a first all source (stand.before v (told_of limit ps l) (item.Show at ∷ items)) source
        (stand.before v (told_of limit (ps ++ still (item.Show at) None l l ∷ []) l) items) = record {
          answers = λ answer rest.
              answers.shows (source.at + 1) v (told_of limit ps l) at items source.lines answer rest;
        } in
        subst (λ (x : JournalLines). Carries a first all source
        (stand.before v (told_of limit ps l) (item.Show at ∷ items)) x
        (stand.before v (told_of limit (ps ++ still (item.Show at) None l l ∷ []) l) items)) (sym (ends ∙ read)) here

    -- or the text is refused at its end
    still-refused : {most : ℕ} {p : Passage} → IsPassage a most p → IsStill p.entry → (source middle : JournalLines)
        (e : ReplayError) → HasReadLine a.annotations.unit (entry_at p.item) source middle
        → StopsAtEnd a v middle p.entry e → (first : LedgerState) (all items : List ScriptItem)
        → Stops a first all source (stand.before v (told_of limit ps p.before) (p.item ∷ items)) e
    still-refused (passage.deposit l at units name fits) none source middle e read stops =
        let told = told_of limit ps l in
        let i = item.Deposit at name units in
        let after = deposited a.annotations.unit l name units in
        owed-stops told i at end.Deposited after refl (made-opens l at units name fits) read e
        (λ first all items. stops told i at after first all items)
    still-refused (passage.no_deposit l at units name never) none source middle e read stops =
        let told = told_of limit ps l in
        let i = item.Deposit at name units in
        owed-stops told i at (end.Refused at refusal.TooMuchGas) l refl (never-opens l at units name never) read e
        (λ first all items. stops told i at l first all items)
    still-refused (passage.refused l batch at cause refuses) none source middle e read stops =
        let told = told_of limit ps l in
        let i = item.Batch batch in
        owed-stops told i batch.line (end.Refused at cause) l refl (λ others. stand.refused batch at cause refuses) read
        e
        (λ first all items. stops told i batch.line l first all items)
    still-refused (passage.stays l batch starts pids last begun reaches) none source middle e read stops = absurd none
    still-refused {most} (passage.undone l batch starts pids last answer begun reaches undoes) none source middle e read
        stops =
        absurd (allowed-fires a last (length pids) most answer reaches.allowed none)
    still-refused (passage.shown l at) none source middle e read stops = absurd stops

  module _ {M : Type 0} (told : Told) {old after : WalkState} (program : old.accepted ≡ a) {l : LedgerState}
      (same : told.ledger ≡ l) {i : ScriptItem} {passed : PassedItem M} (passes : PassesStill old l i passed after)
      (source middle : JournalLines) (read : HasReadLine a.annotations.unit (entry_at i) source middle) where
    is-passage : IsPassage a 0 passes.passage
    is-passage = subst (λ (b : Acceptance). IsPassage b 0 passes.passage) program (passes.is 0)

    read-line : HasReadLine a.annotations.unit (entry_at passes.passage.item) source middle
    read-line =
        subst (λ (j : ScriptItem). HasReadLine a.annotations.unit (entry_at j) source middle) (sym passes.item) read

    -- an item that has passed without firings, and whose end was read
    pub still-on : (kept : PassedItem M) {later : JournalLines} → kept.ledger ≡ passed.ledger
        → kept.entry ≡ passed.entry
        → HasReadEnd a.annotations.unit passed.entry middle later
        → PassesOn a v told old (λ items. stand.before v told (i ∷ items)) source i kept later after
    still-on kept {later} ledger entry ends = record {
      passage = passes.passage;
      passes = record {
        is = passes.is _;
        item = passes.item;
        before_is = passes.before_is ∙ sym same;
        after_is = passes.after_is ∙ sym ledger;
        entry = passes.entry ∙ sym entry;
        walk = passes.walk;
      };
      carries = λ first all items.
          subst (λ (m : LedgerState). Carries a first all source
          (stand.before v (told_of told.limit told.passages m) (i ∷ items)) later
          (stand.before v (told_with told passes.passage) items)) (passes.before_is ∙ sym same)
          (subst (λ (j : ScriptItem). Carries a first all source
          (stand.before v (told_of told.limit told.passages passes.passage.before) (j ∷ items)) later
          (stand.before v (told_with told passes.passage) items)) passes.item
          (still-carries told.limit told.passages is-passage passes.still source middle later read-line
          (subst (λ (o : Option Entry). HasReadEnd a.annotations.unit o middle later) (sym passes.entry) ends)
          first all items));
    }

    -- or the text is refused there
    pub still-stops : (e : ReplayError) → StopsAtEnd a v middle passed.entry e → (first : LedgerState)
        (all items : List ScriptItem) → Stops a first all source (stand.before v told (i ∷ items)) e
    still-stops e stops first all items =
        subst (λ (m : LedgerState). Stops a first all source
        (stand.before v (told_of told.limit told.passages m) (i ∷ items)) e) (passes.before_is ∙ sym same)
        (subst (λ (j : ScriptItem). Stops a first all source
        (stand.before v (told_of told.limit told.passages passes.passage.before) (j ∷ items)) e) passes.item
        (still-refused told.limit told.passages is-passage passes.still source middle e read-line
        (subst (λ (o : Option Entry). StopsAtEnd a v middle o e) (sym passes.entry) stops) first all items))

    -- whatever is answered
    pub still-answer : (r : Result (PassedItem M) ReplayError) (later : JournalLines)
        → IfOk r (λ kept. (kept.ledger ≡ passed.ledger) × (kept.entry ≡ passed.entry)
        × HasReadEnd a.annotations.unit passed.entry middle later)
        → IfErr r (StopsAtEnd a v middle passed.entry)
        → MatchResult r
        (λ kept. PassesOn a v told old (λ items. stand.before v told (i ∷ items)) source i kept later after)
        (λ e. (first : LedgerState) (all items : List ScriptItem)
        → Stops a first all source (stand.before v told (i ∷ items)) e)
    still-answer (Ok kept) later is stops = still-on kept is.0 is.1 is.2
    still-answer (Err e) later is stops = still-stops e stops

  -- ---- batches

  -- a batch of which nothing fired is under way behind its `line`
  opens-started : {l : LedgerState} {w : WorldState} (told : Told) (batch : Batch) → HasBegun a l batch w
      → told.ledger ≡ l → (items : List ScriptItem)
      → Opens a v told items (item.Batch batch) (fires v told (under_way batch w) items)
  opens-started {l} {w} told batch begun same items =
      let origin : told.ledger ≡ w.origin = same ∙ sym begun.origin in
      let starts = subst (λ (m : LedgerState). AllStart a m batch.starts w.starts) (sym same) begun.starts in
      let none : [] ≡ pids_of w.firings = sym (ap pids_of begun.firings) in
      let state : (after_starts a told.ledger w.starts).state ≡ w.state =
      ap (λ (m : LedgerState). (after_starts a m w.starts).state) origin ∙ sym begun.state in
      subst (λ (run : UnderWay). Opens a v told items (item.Batch batch) (fires v told run items))
      (λ i. record { batch = batch; starts = w.starts; firings = none i; state = state i })
      (stand.started batch w.starts starts)

  -- a batch whose firings and end were read has passed as they tell
  pub batch-on : {M : Type 0} (told : Told) {old after : WalkState} → old.accepted ≡ a → {i : ScriptItem}
      {at spent : ℕ} {w u : WorldState} (e : End) (passed : PassedItem M)
      (under : HasBegunBatch old told.ledger i at spent w old)
      → RunsOn a (batch_limit old.limit old.made) w u
      → IsAllowed a u.state (length u.firings) (batch_limit old.limit old.made) e
      → passed.ledger ≡ left_by e u → passed.entry ≡ Some (batch_entry at u e)
      → ((batch : Batch) → batch.line ≡ at → after ≡ walk_with (passage_of old.accepted batch u e) old)
      → {source later : JournalLines}
      → ((first : LedgerState) (all items : List ScriptItem)
      → Carries a first all source (fires v told (under_way under.batch w) items) later
      (stand.before v (told_run a told (under_way under.batch u) e) items))
      → PassesOn a v told old (fires v told (under_way under.batch w)) source i passed later after
  batch-on told {old} {after} program {i} {at} {spent} {w} {u} e passed under ran allowed ledger entry walk {source}
      {later} carries =
      let most : ℕ = batch_limit old.limit old.made in
      let runs_on : RunsOn old.accepted most w u = subst (λ (b : Acceptance). RunsOn b most w u) (sym program) ran in
      let may : IsAllowed old.accepted u.state (length u.firings) most e =
      subst (λ (b : Acceptance). IsAllowed b u.state (length u.firings) most e) (sym program) allowed in
      let told_is : told_run a told (under_way under.batch u) e
      ≡ told_with told (passage_of old.accepted under.batch u e) =
      run-told a told under.batch u e ran.stands (sym (ran-before under.begun runs_on))
      ∙ ap (λ (b : Acceptance). told_with told (passage_of b under.batch u e)) (sym program) in
      record {
        passage = passage_of old.accepted under.batch u e;
        passes = ran-passes e passed under runs_on may ledger entry walk;
        carries = λ first all items.
            subst (λ (t : Told). Carries a first all source (fires v told (under_way under.batch w) items) later
            (stand.before v t items)) told_is (carries first all items);
      }

  -- what is answered of a batch under way, of the walk with which it began
  abbrev BatchAnswers : {M : Type 0} → Result (PassedItem M) ReplayError → ℕ → ℕ → WorldState → JournalLines
      → JournalLines
      → WalkState → WalkState → Type 0
  BatchAnswers {M} r at spent w source later after old =
      (told : Told) (i : ScriptItem) (begun : HasBegunBatch old told.ledger i at spent w old)
      → next_limit told ≡ batch_limit old.limit old.made
      → MatchResult r
      (λ passed. PassesOn a v told old (fires v told (under_way begun.batch w)) source i passed later after)
      (λ e. (first : LedgerState) (all items : List ScriptItem)
      → Stops a first all source (fires v told (under_way begun.batch w) items) e)

  -- so it is answered where its `line` was read
  pub begun-answer : {M : Type 0} (r : Result (PassedItem M) ReplayError) (told : Told) {old there : WalkState}
      (after : WalkState) → old.accepted ≡ a → {l : LedgerState} → told.ledger ≡ l
      → next_limit told ≡ batch_limit old.limit old.made → {i : ScriptItem} {at spent : ℕ} {w : WorldState}
      → HasBegunBatch old l i at spent w there → (source middle later : JournalLines)
      → HasReadLine a.annotations.unit (entry_at i) source middle
      → BatchAnswers r at spent w middle later after there
      → MatchResult r
      (λ passed. PassesOn a v told old (λ items. stand.before v told (i ∷ items)) source i passed later after)
      (λ e. (first : LedgerState) (all items : List ScriptItem)
      → Stops a first all source (stand.before v told (i ∷ items)) e)
  begun-answer {M} r told {old} {there} after program {l} same limit {i} {at} {spent} {w} under source middle later read
      answer =
      let batch : Batch = under.batch in
      let here : BatchAnswers r at spent w middle later after old =
      subst (BatchAnswers r at spent w middle later after) under.walk answer in
      let begun : HasBegunBatch old told.ledger i at spent w old = record {
        batch = batch;
        item = under.item;
        line_is = under.line_is;
        spent_is = under.spent_is ∙ ap (λ (m : LedgerState). m.state.spent) (sym same);
        begun = subst (λ (m : LedgerState). HasBegun old.accepted m batch w) (sym same) under.begun;
        stands = under.stands;
        walk = refl;
      } in
      let named : HasRead a.annotations.unit source (line.Line batch.line) middle =
      subst (λ (j : ScriptItem). HasReadLine a.annotations.unit (entry_at j) source middle) under.item read in
      let opens : (items : List ScriptItem) → Opens a v told items i (fires v told (under_way batch w) items) =
      λ items. subst (λ (j : ScriptItem). Opens a v told items j (fires v told (under_way batch w) items))
      (sym under.item)
      (opens-started told batch (subst (λ (b : Acceptance). HasBegun b l batch w) program under.begun) same items) in
      let goes : (first : LedgerState) (all items : List ScriptItem)
      → Carries a first all source (stand.before v told (i ∷ items)) middle (fires v told (under_way batch w) items) =
      λ first all items. carries-line a first all named
      (stand.item_line v told i items batch.line (fires v told (under_way batch w) items) (ap entry_at under.item)
      (opens items)) in
      MatchResult-weaker r (here told i begun limit)
      (λ passed on. record {
        passage = on.passage;
        passes = on.passes;
        carries = λ first all items. carries-on a first all (goes first all items) (on.carries first all items);
      })
      (λ e stops first all items. stops-later a first all (goes first all items) e (stops first all items))

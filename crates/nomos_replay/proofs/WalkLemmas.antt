-- The walk over the items of a script, and what is answered at its end.
use Rattle.std.proofs.Common.{◌≡◌, ◌≢◌, ◌∙◌, ◌+◌, ◌<◌, ◌≤◌, ◌^◌, inl, inr, ℕ, List, [], ◌∷◌, ◌++◌, length, take, Some, Result, Ok, Err, IsSome, MatchResult, refl, sym, subst, ap}
use Rattle.std.specs.Option.{option_to_list}
use Rattle.std.specs.Prelude.{◌⊎◌}
use Rattle.std.proofs.lemmas.Option.{same_Some}
use Rattle.std.proofs.lemmas.Result.{MatchResult-weaker}
use Rattle.nomos_types.specs.Acceptance.{Acceptance, IsAccepted}
use Rattle.nomos_script.specs.declared.item.ScriptItem.{ScriptItem}
use Rattle.nomos_script.specs.Size.{IsScriptSize}
use Rattle.nomos_legal.specs.Ledger.{IsLedger, LedgerState}
use Rattle.nomos_legal.specs.Legal.{IsLimit, TellsFrom, batch_limit, max_firings}
use Rattle.nomos_legal.specs.NextNumbers.{HasNumbered}
use Rattle.nomos_legal.specs.StandsFor.{StandsNamed, StandsFor}
use Rattle.nomos_legal.specs.declared.journal.Entry.{Entry}
use Rattle.nomos_legal.specs.declared.journal.Journal.{Journal}
use Rattle.nomos_legal.proofs.RightLaws.{legal-right-from}
use Rattle.nomos_journal.specs.JournalText.{journal_lines}
use Rattle.nomos_journal.specs.Text.{lines_text}
use Rattle.nomos_journal.specs.declared.line.Version.{Version}
use Rattle.nomos_report.specs.Reported.{report_of}
use Rattle.nomos_walk.specs.Coming.{HasCome, journal_of}
use Rattle.nomos_walk.specs.Papers.{papers_of}
use Rattle.nomos_walk.specs.WalkState.{WalkState}
use Rattle.nomos_walk.specs.Walks.{HasRoomFor, walk_of}
use Rattle.nomos_walk.specs.declared.papers.Papers.{Papers}
use Rattle.nomos_walk.specs.declared.papers.WantedTexts.{WantedTexts}
use Rattle.nomos_walk.specs.declared.started.PassedItem.{PassedItem}
use Rattle.nomos_walk.proofs.ComeLaws.{come-accepted, come-made, come-more, come-none, come-room}
use Rattle.nomos_replay.specs.Answers.{AnswersFrom, BeginsWith, HasNoForm, Reads, max_bytes}
use Rattle.nomos_replay.specs.Answers as answers
use Rattle.nomos_replay.specs.Replayed.{HasReplayedFrom, IsRefusedFrom, IsTextFrom}
use Rattle.nomos_replay.specs.Stand.{at_head, before}
use Rattle.nomos_replay.specs.Told.{Told, journal_told, next_limit, nothing_told}
use Rattle.nomos_script.specs.WrittenItems.{AreWritten}
use Rattle.nomos_replay.specs.declared.answering.ToldText.{ToldText}
use Rattle.nomos_replay.specs.declared.error.ReplayError.{ReplayError}
use Rattle.nomos_replay.specs.declared.error.ReplayError.TheVariants as error
use Rattle.nomos_replay.specs.declared.told_item.Reading.{Reading}
use Rattle.nomos_replay.specs.declared.journal_lines.JournalLines.{JournalLines}
use Rattle.nomos_replay.specs.mirror.Items.{AllTold, ArePapersOf, IsAnswered, IsLegalText, PassesOn, ToldUpTo, report_alone, told_of}
use Rattle.nomos_replay.specs.mirror.JournalReading.{Carries, Stops}
use Rattle.nomos_replay.proofs.FormLaws.{journal-form-from}
use Rattle.nomos_replay.proofs.LegalTextLaws.{answer-legal}
use Rattle.nomos_replay.proofs.LengthLaws.{journal-within}
use Rattle.nomos_replay.proofs.OneAnswerLaws.{answers-one}
use Rattle.nomos_replay.proofs.ReadingLemmas.{carries-on, carries-same, stops-later}
use Rattle.nomos_replay.proofs.RoundTripLaws.{legal-answer}

-- a ledger that stands has a name for each balance
pub ledger-standing : {a : Acceptance} {l : LedgerState} → StandsFor a l → IsLedger l → StandsNamed a l
ledger-standing stands ledger = record { stands = stands; counted = ledger.each_account }

module _ (a : Acceptance) (v : Version) (first : LedgerState) (limit : ℕ) (wanted : WantedTexts) where
  -- before the first item
  pub told-none : (items : List ScriptItem) (reading : Reading) (w : WalkState) → IsLimit limit
      → w ≡ walk_of a limit wanted [] → reading.entries.items ≡ []
      → ToldUpTo a v first limit wanted reading.source items [] items reading first w
  told-none items reading w is walk none = record {
    passages = [];
    come =
        subst (λ (es : List Entry). HasCome a first limit wanted [] es [] first w) (sym none)
        (subst (λ (x : WalkState). HasCome a first limit wanted [] [] [] first x) (sym walk)
        (come-none a first limit wanted is));
    carries = λ all. carries-same a first all reading.source (before v (nothing_told first limit) items);
  }

  module _ {source : JournalLines} {items done left : List ScriptItem} {later : Reading} {l : LedgerState}
      {w : WalkState}
      (so : ToldUpTo a v first limit wanted source items done left later l w) where
    -- the program is that of the walk
    pub told-accepted : w.accepted ≡ a
    told-accepted = come-accepted so.come

    -- the ledger stands for it
    pub told-stands : IsAccepted a → StandsNamed a first → StandsFor a l
    told-stands accepted standing = (legal-right-from accepted standing so.come.tells).1.stands

    -- a batch may make firings still
    pub told-made : w.made ≤ max_firings
    told-made = come-made so.come

    -- the limit of the next batch is that of the walk
    pub told-limit : next_limit (told_of limit so.passages l) ≡ batch_limit w.limit w.made
    told-limit = sym (ap (λ (x : WalkState). batch_limit x.limit x.made) so.come.walk)

  -- there is room for the next item
  pub told-room : {source : JournalLines} (items : List ScriptItem) (n : ℕ) {left : List ScriptItem} {later : Reading}
      {l : LedgerState} {w : WalkState} → ToldUpTo a v first limit wanted source items (take n items) left later l w
      → IsAccepted a → StandsNamed a first → HasNumbered (2 ^ 31) first.state → length first.accounts < 2 ^ 31
      → (i : ScriptItem) → IsScriptSize items → take (n + 1) items ≡ take n items ++ i ∷ [] → HasRoomFor w l i
  told-room items n so accepted standing numbers few i size more =
      come-room items n so.come accepted standing numbers few i size more

  module _ {source : JournalLines} {items done : List ScriptItem} (i : ScriptItem) {rest : List ScriptItem}
      {later : Reading}
      {l : LedgerState} {w : WalkState} (so : ToldUpTo a v first limit wanted source items done (i ∷ rest) later l
      w) where
    -- one item more
    pub told-next : {M : Type 0} (passed : PassedItem M) (next : Reading) {x : WalkState} {more : List ScriptItem}
        → more ≡ done ++ i ∷ []
        → PassesOn a v (told_of limit so.passages l) w
        (λ is. before v (told_of limit so.passages l) (i ∷ is)) later.source i passed next.source x
        → next.entries.items ≡ later.entries.items ++ option_to_list passed.entry
        → ToldUpTo a v first limit wanted source items more rest next passed.ledger x
    told-next passed next {x} {more} front on kept = record {
      passages = so.passages ++ on.passage ∷ [];
      come =
          subst (λ (is : List ScriptItem). HasCome a first limit wanted is next.entries.items
          (so.passages ++ on.passage ∷ []) passed.ledger x) (sym front)
          (come-more on.passage passed so.come on.passes kept);
      carries = λ all.
          carries-on a first all (so.carries all)
          (subst (λ (k : LedgerState). Carries a first all later.source
          (before v (told_of limit so.passages l) (i ∷ rest)) next.source
          (before v (told_of limit (so.passages ++ on.passage ∷ []) k) rest)) on.passes.after_is
          (on.carries first all rest));
    }

    -- or the text is refused there
    pub told-stops : (e : ReplayError)
        → ((begin : LedgerState) (all is : List ScriptItem)
        → Stops a begin all later.source (before v (told_of limit so.passages l) (i ∷ is)) e)
        → (all : List ScriptItem) → Stops a first all source (before v (nothing_told first limit) items) e
    told-stops e stops all = stops-later a first all (so.carries all) e (stops first all rest)

  module _ {source : JournalLines} {items : List ScriptItem} {later : Reading} {l : LedgerState} {w : WalkState}
      (so : ToldUpTo a v first limit wanted source items items [] later l w) where
    -- all is told where the text ends there
    pub told-all : {M : Type 0} (whole : ToldText M) → later.source.lines ≡ []
        → whole.journal ≡ journal_of limit later.entries.items → whole.ledger ≡ l → whole.papers ≡ w.papers
        → AllTold a v first limit wanted source items whole
    told-all whole over journal ledger papers =
        let told : Told = told_of limit so.passages l in
        record {
          told = told;
          is = record {
            journal = journal ∙ sym (λ i. record { limit = limit; entries = so.come.tells.entries_are i });
            ledger = ledger;
            papers = papers ∙ ap (λ (x : WalkState). x.papers) so.come.walk;
          };
          reads = λ all.
              (so.carries all).answers (Ok told)
              (subst (λ (text : List ℕ). Reads a first all (later.source.at + 1) (before v told []) text (Ok told))
              (sym over) (answers.ends (later.source.at + 1) v told));
        }

    -- and one line is too many where it goes on
    pub told-too_many : later.source.lines ≢ [] → (all : List ScriptItem)
        → Reads a first all (source.at + 1) (before v (nothing_told first limit) items) source.lines
        (Err (error.BadLine (later.source.at + 1)))
    told-too_many some all =
        (so.carries all).answers (Err (error.BadLine (later.source.at + 1)))
        (answers.bad (later.source.at + 1) (before v (told_of limit so.passages l) []) later.source.lines some
        (λ line left begins stands. elim stands [ ]))

-- ---- answers

module _ (a : Acceptance) (first : LedgerState) (items : List ScriptItem) (text : List ℕ) where
  -- where the text is refused from its beginning on it is refused
  pub refused-so : length text ≤ max_bytes → (e : ReplayError)
      → Stops a first items (record { lines = text; at = 0 }) at_head e → IsRefusedFrom a first items text e
  refused-so within error.NoMemory stops = tt
  refused-so within error.TooLong stops = answers.reads (Err error.TooLong) within stops
  refused-so within (error.BadLine at) stops = answers.reads (Err (error.BadLine at)) within stops
  refused-so within (error.NotEnabled at pid) stops = answers.reads (Err (error.NotEnabled at pid)) within stops
  refused-so within (error.WrongFiring at pid) stops = answers.reads (Err (error.WrongFiring at pid)) within stops
  refused-so within (error.WrongEnd at kept found) stops =
      answers.reads (Err (error.WrongEnd at kept found)) within stops

  -- what is told to the end of the text is answered
  pub answered : {M : Type 0} → length text ≤ max_bytes → (v : Version) (limit : ℕ) (wanted : WantedTexts)
      (source : JournalLines) (whole : ToldText M)
      → Carries a first items (record { lines = text; at = 0 }) at_head source
      (before v (nothing_told first limit) items)
      → AllTold a v first limit wanted source items whole → IsAnswered a first items text wanted whole
  answered within v limit wanted source whole carries all = record {
    told = all.told;
    is = all.is;
    answers = answers.reads (Ok all.told) within (carries.answers (Ok all.told) (all.reads items));
  }

  module _ {M : Type 0} {wanted : WantedTexts} {whole : ToldText M}
      (answer : IsAnswered a first items text wanted whole) where
    -- so it tells what became of the items by the journal that is given
    answered-tells : TellsFrom a first items whole.journal answer.told.passages whole.ledger
    answered-tells =
        subst (λ (j : Journal). TellsFrom a first items j answer.told.passages whole.ledger) (sym answer.is.journal)
        (subst (λ (k : LedgerState). TellsFrom a first items (journal_told answer.told) answer.told.passages k)
        (sym answer.is.ledger) (answer-legal answer.answers).tells)

    -- the ledger to which it leads stands for the program
    pub answered-stands : IsAccepted a → StandsNamed a first → StandsFor a whole.ledger
    answered-stands accepted standing = (legal-right-from accepted standing answered-tells).1.stands

    -- the text of a legal journal gives that journal
    pub legal-told : IsAccepted a → (journal : Journal) → IsLegalText a first items journal text
        → whole.journal ≡ journal
    legal-told accepted journal legal =
        let given = legal-answer legal.version legal.tells legal.forms text legal.lines legal.within in
        let same = answers-one accepted answer.answers given in
        let told : answer.told ≡ record { limit = journal.limit; passages = legal.passages; ledger = legal.last } =
        cc same in
        answer.is.journal ∙ ap journal_told told
        ∙ (λ i. record { limit = journal.limit; entries = legal.tells.entries_are i })

    -- with what is wanted of it
    pub legal-papers : IsAccepted a → (journal : Journal) → IsLegalText a first items journal text
        → ArePapersOf a first items journal wanted whole.papers
    legal-papers accepted journal legal =
        let same = legal-told accepted journal legal in
        record {
          passages = answer.told.passages;
          last = whole.ledger;
          tells =
              subst (λ (j : Journal). TellsFrom a first items j answer.told.passages whole.ledger) same answered-tells;
          papers_are =
              answer.is.papers
              ∙ ap (λ (j : Journal). papers_of a j.limit wanted answer.told.passages) (sym answer.is.journal ∙ same);
        }

    -- it is not refused
    pub answered-once : IsAccepted a → (why : ReplayError) → AnswersFrom a first items text (Err why) → ⊥
    answered-once accepted why given = let same = answers-one accepted answer.answers given in cc

  -- where a report alone is wanted, one is written
  pub answered-written : {M : Type 0} {whole : ToldText M} → IsAnswered a first items text report_alone whole
      → IsSome whole.papers.report
  answered-written answer = subst (λ (p : Papers). IsSome p.report) (sym answer.is.papers) refl

  -- it is the text of the journal that is given, with its report
  pub answered-legal : {M : Type 0} {whole : ToldText M} → IsAnswered a first items text report_alone whole
      → (journal : Journal) (l : LedgerState) (printed : List ℕ) → journal ≡ whole.journal → l ≡ whole.ledger
      → Some printed ≡ whole.papers.report → HasReplayedFrom a first items text journal l printed
  answered-legal {whole = whole} answer journal l printed journal_is ledger_is printed_is =
      let legal = answer-legal answer.answers in
      let told = answered-tells answer in
      record {
        version = legal.version;
        passages = answer.told.passages;
        tells =
            subst (λ (j : Journal). TellsFrom a first items j answer.told.passages l) (sym journal_is)
            (subst (λ (k : LedgerState). TellsFrom a first items whole.journal answer.told.passages k) (sym ledger_is)
            told);
        lines =
            legal.lines
            ∙ ap (λ (j : Journal). lines_text a.annotations.unit
            (journal_lines legal.version a j.limit answer.told.passages)) (sym (journal_is ∙ answer.is.journal));
        printed =
            same_Some printed (report_of a answer.told.passages)
            (printed_is ∙ ap (λ (p : Papers). p.report) answer.is.papers);
      }

  -- what is refused otherwise is not answered
  pub one-refusal : IsAccepted a → (why : ReplayError) → AnswersFrom a first items text (Err why) → (e : ReplayError)
      → IsRefusedFrom a first items text e → (e ≡ why) ⊎ (e ≡ error.NoMemory)
  one-refusal accepted why given e refused = by e refused
    where
      same : (e : ReplayError) → AnswersFrom a first items text (Err e) → e ≡ why
      same e other = let is = answers-one accepted other given in cc

      by : (e : ReplayError) → IsRefusedFrom a first items text e → (e ≡ why) ⊎ (e ≡ error.NoMemory)
      by error.NoMemory is = inr refl
      by error.TooLong is = inl (same error.TooLong is)
      by (error.BadLine at) is = inl (same (error.BadLine at) is)
      by (error.NotEnabled at pid) is = inl (same (error.NotEnabled at pid) is)
      by (error.WrongFiring at pid) is = inl (same (error.WrongFiring at pid) is)
      by (error.WrongEnd at kept found) is = inl (same (error.WrongEnd at kept found) is)

  -- and the text of a legal journal is not refused
  pub legal-refused : IsAccepted a → (journal : Journal) → IsLegalText a first items journal text → (e : ReplayError)
      → IsRefusedFrom a first items text e → e ≡ error.NoMemory
  legal-refused accepted journal legal e refused = by e refused
    where
      given : AnswersFrom a first items text
          (Ok (record { limit = journal.limit; passages = legal.passages; ledger = legal.last }))
      given = legal-answer legal.version legal.tells legal.forms text legal.lines legal.within

      never : (e : ReplayError) → AnswersFrom a first items text (Err e) → ⊥
      never e other = let same = answers-one accepted other given in cc

      by : (e : ReplayError) → IsRefusedFrom a first items text e → e ≡ error.NoMemory
      by error.NoMemory is = refl
      by error.TooLong is = absurd (never error.TooLong is)
      by (error.BadLine at) is = absurd (never (error.BadLine at) is)
      by (error.NotEnabled at pid) is = absurd (never (error.NotEnabled at pid) is)
      by (error.WrongFiring at pid) is = absurd (never (error.WrongFiring at pid) is)
      by (error.WrongEnd at kept found) is = absurd (never (error.WrongEnd at kept found) is)

-- what is answered of the items is answered of the text
module _ (a : Acceptance) (first : LedgerState) (items : List ScriptItem) (text : List ℕ)
    (within : length text ≤ max_bytes) (v : Version) (limit : ℕ) (wanted : WantedTexts) (source : JournalLines)
    (carries : Carries a first items (record { lines = text; at = 0 }) at_head source
    (before v (nothing_told first limit) items)) where
  pub answer-all : {M : Type 0} (r : Result (ToldText M) ReplayError)
      → MatchResult r (AllTold a v first limit wanted source items)
      (λ e. (all : List ScriptItem) → Stops a first all source (before v (nothing_told first limit) items) e)
      → MatchResult r (IsAnswered a first items text wanted) (IsRefusedFrom a first items text)
  answer-all r answer =
      MatchResult-weaker r answer (λ whole all. answered a first items text within v limit wanted source whole carries
      all)
      (λ e stops. refused-so a first items text within e (stops-later a first items carries e (stops items)))

-- the text of a legal journal has lines, and is short enough to be read
pub text-legal : {a : Acceptance} → IsAccepted a → {first : LedgerState} → StandsNamed a first
    → HasNumbered (2 ^ 31) first.state → {items : List ScriptItem} → IsScriptSize items → AreWritten items
    → (v : Version) (journal : Journal) {text : List ℕ} → IsTextFrom v a first items journal text
    → IsLegalText a first items journal text
text-legal {a} accepted standing numbers size written v journal {text} is =
    let forms = journal-form-from accepted standing numbers v size written is.tells in
    record {
      version = v;
      passages = is.passages;
      last = is.last;
      tells = is.tells;
      forms = forms;
      lines = is.lines;
      within =
          subst (λ (t : List ℕ). length t ≤ max_bytes) (sym is.lines)
          (journal-within accepted v size written is.tells forms);
    }

-- What becomes of the items of a script that is run, one after another.
use Rattle.std.proofs.Common.{◌≡◌, ◌∙◌, ℕ, ◌+◌, ◌^◌, ◌<◌, ◌≤◌, List, [], ◌∷◌, ◌++◌, length, take, Option, Some, None, refl, sym, ap, subst, arith}
use Rattle.std.specs.Prelude.{Bool, true, false, Result, Ok, Err, IfOk, IfSome, IsSome, OnErr, OnOk}
use Rattle.std.specs.Option.{option_map, option_to_list}
use Rattle.std.proofs.Math.Seq.{take-length}
use Rattle.std.proofs.lemmas.List.{take_all}
use Rattle.nomos_types.specs.Acceptance.{Acceptance, IsAccepted}
use Rattle.nomos_machine.specs.State.{State}
use Rattle.nomos_machine.specs.declared.policy.Policy.{Policy}
use Rattle.nomos_script.specs.Size.{IsScriptSize}
use Rattle.nomos_script.specs.declared.item.Batch.{Batch}
use Rattle.nomos_script.specs.declared.item.ScriptItem.{ScriptItem}
use Rattle.nomos_legal.proofs.FollowLaws.{follow-more, follow-none}
use Rattle.nomos_legal.proofs.LegalLaws.{tells-none-from}
use Rattle.nomos_legal.proofs.RightLaws.{legal-right-from}
use Rattle.nomos_legal.specs.Ending.{IsAllowed}
use Rattle.nomos_legal.specs.Leaving.{left_by, passage_of}
use Rattle.nomos_legal.specs.Ledger.{IsLedger, LedgerState, empty_ledger}
use Rattle.nomos_legal.specs.Legal.{IsLimit, TellsFrom, batch_limit, max_firings}
use Rattle.nomos_legal.specs.NextNumbers.{HasNumbered}
use Rattle.nomos_legal.specs.Passage.{Passage}
use Rattle.nomos_legal.specs.StandsFor.{StandsNamed, StandsFor}
use Rattle.nomos_legal.specs.World.{WorldState}
use Rattle.nomos_legal.specs.declared.journal.End.{End}
use Rattle.nomos_legal.specs.declared.journal.Entry.{Entry}
use Rattle.nomos_ledger.specs.Running.{RunsOn}
use Rattle.nomos_report.specs.Reported.{report_of}
use Rattle.nomos_walk.proofs.ComeLaws.{come-accepted, come-made, come-more, come-none, come-room, come-stands, ran-passes, still-by, still-passes}
use Rattle.nomos_walk.proofs.MoreLaws.{result-given}
use Rattle.nomos_walk.specs.Coming.{HasCome, journal_of}
use Rattle.nomos_walk.specs.WalkState.{WalkState}
use Rattle.nomos_walk.specs.Walks.{HasBegunBatch, HasRoomFor, PassesAs, PassesStill, batch_entry, walk_of, walk_with}
use Rattle.nomos_walk.specs.Papers.{kept_result}
use Rattle.nomos_walk.specs.declared.started.PassedItem.{PassedItem}
use Rattle.nomos_workers.proofs.BatchLaws.{ran-follows}
use Rattle.nomos_workers.specs.OneWorker.{EndsBy, RunsBy}
use Rattle.nomos_workers.specs.Shops.{MayEnd}
use Rattle.nomos_workers.specs.declared.batch.BatchEnd.{BatchEnd}
use Rattle.nomos_workers.specs.declared.batch.BatchEnd.TheVariants as batch_end
use Rattle.nomos_workers.specs.declared.batch.Crew.{Crew}
use Rattle.nomos_workers.specs.declared.batch.Crew.TheVariants as crews
use Rattle.nomos_run.proofs.CarriedLaws.{some_same}
use Rattle.nomos_run.specs.Carried.{IsWholeRun, RunsScript, RunsScriptFrom}
use Rattle.nomos_run.specs.declared.orders.Orders.{Orders}
use Rattle.nomos_run.specs.declared.orders.ScriptRun.{ScriptRun}
use Rattle.nomos_run.specs.declared.orders.WholeRun.{WholeRun}
use Rattle.nomos_run.specs.mirror.Runs.{CarriesOut, FinishesAs, HasGone, IsWholeOf, RunsSoFar, wanted_by}

-- ---- an item

-- an end of one worker is one that a batch may come to
pub by-may : (policy : Policy) (a : Acceptance) (limit : ℕ) (w : WorldState) (e : BatchEnd) → EndsBy policy a limit w e
    → MayEnd a w.state (length w.firings) limit e
by-may policy a limit w (batch_end.Done e) ends = ends.0
by-may policy a limit w batch_end.NoMemory ends = tt

-- an end that it came to is one that is allowed
pub done-allowed : (a : Acceptance) (s : State) (count limit : ℕ) {ended : BatchEnd} {e : End}
    → ended ≡ batch_end.Done e → MayEnd a s count limit ended → IsAllowed a s count limit e
done-allowed a s count limit is ends = subst (λ (d : BatchEnd). MayEnd a s count limit d) is ends

-- what a batch that was run and finished comes to
pub finished-as : {M E : Type 0} (before after : WalkState) {line : ℕ} (v : WorldState) {ended : BatchEnd}
    (r : Result (PassedItem M) E) (e : End) → ended ≡ batch_end.Done e
    → IsAllowed before.accepted v.state (length v.firings) (batch_limit before.limit before.made) e
    → IfOk r (λ passed. passed.ledger ≡ left_by e v) → IfOk r (λ passed. passed.entry ≡ Some (batch_entry line v e))
    → ((batch : Batch) → batch.line ≡ line
    → OnOk r (after ≡ walk_with (passage_of before.accepted batch v e) before))
    → IfOk r (λ passed. FinishesAs before line v ended passed after)
finished-as before after v (Ok passed) e is allowed ledger entry walk = record {
  answer = e;
  ended_is = is;
  allowed = allowed;
  ledger = ledger;
  entry = entry;
  walk = walk;
}
finished-as before after v (Err error) e is allowed ledger entry walk = tt

-- one worker has one policy
pub one-policy : (p q : Policy) → crews.One p ≡ crews.One q → p ≡ q
one-policy p q same = cc

-- a batch that a crew has run, and that was finished, was carried out
pub batch-carried : {M : Type 0} (crew : Crew) {before after : WalkState} {l : LedgerState} {i : ScriptItem}
    {line spent : ℕ} {w v : WorldState} (ended : BatchEnd) (passed : PassedItem M)
    → HasBegunBatch before l i line spent w before
    → RunsOn before.accepted (batch_limit before.limit before.made) w v
    → ((policy : Policy) → crew ≡ crews.One policy → RunsBy policy before.accepted
    (batch_limit before.limit before.made) w v × EndsBy policy before.accepted
    (batch_limit before.limit before.made) v ended)
    → FinishesAs before line v ended passed after → CarriesOut crew before l i passed after
batch-carried crew {before} {w = w} {v = v} ended passed under runs one finishes =
    let a : Acceptance = before.accepted in
    let most : ℕ = batch_limit before.limit before.made in
    record {
      passage = passage_of a under.batch v finishes.answer;
      passes =
          ran-passes finishes.answer passed under runs finishes.allowed finishes.ledger finishes.entry finishes.walk;
      by = λ policy is.
          let both = one policy is in
          let aborts = (subst (λ (e : BatchEnd). EndsBy policy a most v e) finishes.ended_is both.1).1 in
          ran-follows policy a most under.batch w v finishes.answer both.0 aborts;
    }

-- an item without firings was carried out
pub still-carried : {M : Type 0} (crew : Crew) {before after : WalkState} {l : LedgerState} {i : ScriptItem}
    {passed : PassedItem M} → PassesStill before l i passed after → CarriesOut crew before l i passed after
still-carried crew passes = record {
  passage = passes.passage;
  passes = still-passes passes;
  by = λ policy one. still-by policy (passes.is 0) passes.still;
}

-- ---- runs

-- before any item
pub gone-none : (a : Acceptance) (first : LedgerState) (orders : Orders) → IsLimit orders.limit
    → HasGone a first orders [] [] first (walk_of a orders.limit (wanted_by orders) [])
gone-none a first orders is = record {
  passages = [];
  come = come-none a first orders.limit (wanted_by orders) is;
  follows = λ policy one. follow-none policy a;
}

-- as the code begins
pub gone-begun : (a : Acceptance) (first : LedgerState) (orders : Orders) {entries : List Entry} {w : WalkState}
    → IsLimit orders.limit → w ≡ walk_of a orders.limit (wanted_by orders) [] → entries ≡ []
    → HasGone a first orders [] entries first w
gone-begun a first orders {w = w} is walk none =
    subst (λ (es : List Entry). HasGone a first orders [] es first w) (sym none)
    (subst (λ (x : WalkState). HasGone a first orders [] [] first x) (sym walk) (gone-none a first orders is))

-- with one item more
pub gone-more : {M : Type 0} {a : Acceptance} {first : LedgerState} {orders : Orders} {items : List ScriptItem}
    {entries kept : List Entry} {l : LedgerState} {w v : WalkState} {i : ScriptItem} (passed : PassedItem M)
    → HasGone a first orders items entries l w → CarriesOut orders.crew w l i passed v
    → kept ≡ entries ++ option_to_list passed.entry
    → HasGone a first orders (items ++ i ∷ []) kept passed.ledger v
gone-more {a = a} {first} {orders} {items} {entries} {l = l} {w = w} {v = v} {i = i} passed gone carried kept_is =
    let ps : List Passage = gone.passages in
    let at : WalkState = walk_of a orders.limit (wanted_by orders) ps in
    let come : HasCome a first orders.limit (wanted_by orders) items entries ps l at =
    record { tells = gone.come.tells; walk = refl }
    in
    let here : CarriesOut orders.crew at l i passed v =
    subst (λ (x : WalkState). CarriesOut orders.crew x l i passed v) gone.come.walk carried
    in
    record {
      passages = ps ++ here.passage ∷ [];
      come = come-more here.passage passed come here.passes kept_is;
      follows = λ policy one. follow-more policy a ps here.passage (gone.follows policy one) (here.by policy one);
    }

-- a ledger that stands has a name for each balance
pub ledger-standing : {a : Acceptance} {l : LedgerState} → StandsFor a l → IsLedger l → StandsNamed a l
ledger-standing stands ledger = record { stands = stands; counted = ledger.each_account }

module _ {a : Acceptance} {first : LedgerState} {orders : Orders} (items : List ScriptItem) (n : ℕ)
    {entries : List Entry} {l : LedgerState} {w : WalkState}
    (gone : HasGone a first orders (take n items) entries l w) where
  -- the ledger stands for the program
  pub gone-stands : IsAccepted a → StandsNamed a first → StandsFor w.accepted l
  gone-stands accepted standing = come-stands gone.come accepted standing

  -- there is room for the next item
  pub gone-room : IsAccepted a → StandsNamed a first → HasNumbered (2 ^ 31) first.state
      → length first.accounts < 2 ^ 31 → (i : ScriptItem) → IsScriptSize items
      → take (n + 1) items ≡ take n items ++ i ∷ [] → HasRoomFor w l i
  gone-room accepted standing numbers few i size more =
      come-room items n gone.come accepted standing numbers few i size more

  pub gone-made : w.made ≤ max_firings
  gone-made = come-made gone.come

  -- where memory is wanting, the entries are those of the items before
  pub gone-so_far : {kept : List Entry} → kept ≡ entries → RunsSoFar a first items orders kept
  gone-so_far same = record {
    count = n;
    passages = gone.passages;
    last = l;
    tells =
        subst
        (λ (es : List Entry). TellsFrom a first (take n items) (journal_of orders.limit es) gone.passages l) (sym same)
        gone.come.tells;
    follows = gone.follows;
  }

  -- behind all items the run is whole
  pub gone-all : length items ≤ n → HasGone a first orders items entries l w
  gone-all all =
      subst (λ (is : List ScriptItem). HasGone a first orders is entries l w) (take_all n items all) gone

-- a report is made
pub gone-report : {a : Acceptance} {first : LedgerState} {orders : Orders} {items : List ScriptItem}
    {entries : List Entry} {l : LedgerState} {w : WalkState} → HasGone a first orders items entries l w
    → IsSome w.papers.report
gone-report gone = subst (λ (x : WalkState). IsSome x.papers.report) (sym gone.come.walk) refl

-- before any item
pub none-so_far : (a : Acceptance) (first : LedgerState) (items : List ScriptItem) (orders : Orders)
    → IsLimit orders.limit → RunsSoFar a first items orders []
none-so_far a first items orders is = record {
  count = 0;
  passages = [];
  last = first;
  tells = tells-none-from a first orders.limit is;
  follows = λ policy one. follow-none policy a;
}

-- what holds anyway holds where there is an error
pub on_err : {T E P : Type 0} (r : Result T E) → P → OnErr r P
on_err (Ok x) holds = tt
on_err (Err e) holds = holds

-- what is given of a run that carried out some first items
pub run-so_far : {M : Type 0} {a : Acceptance} {first : LedgerState} {items : List ScriptItem} {orders : Orders}
    {entries : List Entry} (run : ScriptRun M) → RunsSoFar a first items orders entries
    → run.journal ≡ journal_of orders.limit entries → run.finished ≡ None → RunsScriptFrom a first items orders run
run-so_far {a = a} {first} {items} {orders} run is journal none = record {
  count = is.count;
  passages = is.passages;
  last = is.last;
  limit = ap (λ j. j.limit) journal;
  tells = rw journal is.tells;
  follows = is.follows;
  all = rw none tt;
}

-- what is given of a run that carried out all items
pub run-whole : {M : Type 0} {a : Acceptance} {first : LedgerState} {items : List ScriptItem} {orders : Orders}
    {entries : List Entry} {l : LedgerState} {w : WalkState} (run : ScriptRun M) → IsAccepted a → StandsNamed a first
    → HasGone a first orders items entries l w → run.journal ≡ journal_of orders.limit entries
    → IfSome run.finished (IsWholeOf w l) → RunsScriptFrom a first items orders run
run-whole {M} {a} {first} {items} {orders} {entries} {l} {w} run accepted standing gone journal whole = record {
  count = length items;
  passages = ps;
  last = l;
  limit = ap (λ j. j.limit) journal;
  tells =
      rw journal (subst (λ (is : List ScriptItem). TellsFrom a first is (journal_of orders.limit entries) ps l)
      (sym (take-length items)) gone.come.tells);
  follows = gone.follows;
  all = at run.finished whole;
}
  where
    ps : List Passage
    ps = gone.passages

    at : (o : Option (WholeRun M)) → IfSome o (IsWholeOf w l)
        → IfSome o (λ f. (length items ≡ length items) × IsWholeRun a orders ps l f)
    at (Some f) is =
        let reports : Some f.report.items ≡ Some (report_of a ps) =
        is.report ∙ ap (λ (x : WalkState). x.papers.report) gone.come.walk
        in (
          refl,
          record {
            report = some_same f.report.items (report_of a ps) reports;
            text = is.text ∙ ap (λ (x : WalkState). x.papers.text) gone.come.walk;
            result =
                is.result
                ∙ ap (λ (x : WalkState). kept_result x.papers.result) gone.come.walk
                ∙ result-given orders.result ps;
            ledger = is.ledger;
            stands =
                subst (λ (m : LedgerState). StandsFor a m) (sym is.ledger)
                (legal-right-from accepted standing gone.come.tells).1.stands;
          },
        )
    at None is = tt

-- what is given of a run, whole or not
run-given : {M E : Type 0} {a : Acceptance} {first : LedgerState} {items : List ScriptItem} {orders : Orders}
    {entries : List Entry} (w : WalkState) (run : ScriptRun M) (last : Result LedgerState E) → IsAccepted a
    → StandsNamed a first → IfOk last (λ l. HasGone a first orders items entries l w)
    → OnErr last (RunsSoFar a first items orders entries) → run.journal ≡ journal_of orders.limit entries
    → IfSome run.finished (λ f. IfOk last (λ l. IsWholeOf w l f)) → OnErr last (run.finished ≡ None)
    → RunsScriptFrom a first items orders run
run-given w run (Ok l) accepted standing gone so_far journal whole none =
    run-whole run accepted standing gone journal whole
run-given w run (Err e) accepted standing gone so_far journal whole none = run-so_far run so_far journal none

-- the same, where the program is that of the walk
pub script-run : {M E : Type 0} {a b : Acceptance} {first : LedgerState} {items script : List ScriptItem}
    {orders : Orders} {entries : List Entry} (w : WalkState) (run : ScriptRun M) (last : Result LedgerState E) → b ≡ a
    → items ≡ script → IsAccepted a → StandsNamed a first → IfOk last (λ l. HasGone b first orders items entries l w)
    → OnErr last (RunsSoFar b first items orders entries) → run.journal ≡ journal_of orders.limit entries
    → IfSome run.finished (λ f. IfOk last (λ l. IsWholeOf w l f)) → OnErr last (run.finished ≡ None)
    → RunsScriptFrom a first script orders run
script-run {a = a} {b} {first} {items} {script} {orders} w run last same items_are accepted standing gone so_far journal
    whole none =
    subst (λ (is : List ScriptItem). RunsScriptFrom a first is orders run) items_are
    (subst (λ (x : Acceptance). RunsScriptFrom x first items orders run) same
    (run-given w run last (subst IsAccepted (sym same) accepted)
    (subst (λ (x : Acceptance). StandsNamed x first) (sym same) standing) gone so_far journal whole none))

-- the empty ledger is at the very beginning
pub empty-numbers : (l : LedgerState) → l ≡ empty_ledger → HasNumbered (2 ^ 31) l.state
empty-numbers l none =
    subst (λ (m : LedgerState). HasNumbered (2 ^ 31) m.state) (sym none)
    (record { objects = omega arith; names = omega arith })

pub empty-accounts : (l : LedgerState) → l ≡ empty_ledger → length l.accounts < 2 ^ 31
empty-accounts l none =
    subst (λ (m : LedgerState). length m.accounts < 2 ^ 31) (sym none) (omega arith)

-- a run from it
pub run-empty : {M : Type 0} {a : Acceptance} {items : List ScriptItem} {orders : Orders} {l : LedgerState}
    (run : ScriptRun M) → l ≡ empty_ledger → RunsScriptFrom a l items orders run → RunsScript a items orders run
run-empty {a = a} {items} {orders} run none runs =
    subst (λ (m : LedgerState). RunsScriptFrom a m items orders run) none runs

-- a run that has begun knows its program
pub begun-accepted : {a : Acceptance} {first : LedgerState} {orders : Orders} {items : List ScriptItem}
    {entries : List Entry} {l : LedgerState} {w : WalkState} → HasGone a first orders items entries l w
    → w.accepted ≡ a
begun-accepted gone = come-accepted gone.come

pub begun-there : {a : Acceptance} {first : LedgerState} {orders : Orders} {items : List ScriptItem}
    {entries : List Entry} {l : LedgerState} {w : WalkState} → HasGone a first orders items entries l w
    → HasGone w.accepted first orders items entries l w
begun-there {first = first} {orders} {items} {entries} {l} {w} gone =
    subst (λ (x : Acceptance). HasGone x first orders items entries l w) (sym (begun-accepted gone)) gone

-- a report is made behind any item
pub last-report : {E : Type 0} (a : Acceptance) (first : LedgerState) (items : List ScriptItem) (orders : Orders)
    (entries : List Entry) (w : WalkState) (last : Result LedgerState E)
    → IfOk last (λ l. HasGone a first orders items entries l w) → IfOk last (λ _. IsSome w.papers.report)
last-report a first items orders entries w (Ok l) gone = gone-report gone
last-report a first items orders entries w (Err e) gone = tt

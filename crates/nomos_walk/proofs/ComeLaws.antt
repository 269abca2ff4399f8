-- How a walk comes along a script, item by item, from any ledger: what those rely on who fire its batches.
use Rattle.std.proofs.Common.{◌≡◌, ◌∙◌, ℕ, ◌+◌, ◌^◌, ◌<◌, ◌≤◌, List, [], ◌∷◌, ◌++◌, length, take, Option, Some, refl, sym, ap, subst, arith}
use Rattle.std.specs.Option.{option_to_list}
use Rattle.nomos_types.specs.Acceptance.{Acceptance, IsAccepted}
use Rattle.nomos_machine.specs.State.{State}
use Rattle.nomos_machine.specs.declared.policy.Policy.{Policy}
use Rattle.nomos_script.specs.Size.{IsScriptSize, start_count}
use Rattle.nomos_script.specs.declared.item.Batch.{Batch}
use Rattle.nomos_script.specs.declared.item.ScriptItem.{ScriptItem}
use Rattle.nomos_script.specs.declared.item.ScriptItem.TheVariants as item
use Rattle.nomos_legal.proofs.FollowLaws.{still-follows}
use Rattle.nomos_legal.proofs.LegalLaws.{tells-none-from}
use Rattle.nomos_legal.proofs.RightLaws.{legal-right-from}
use Rattle.nomos_legal.specs.Ending.{IsAllowed}
use Rattle.nomos_legal.specs.Leaving.{left_by, passage_of}
use Rattle.nomos_legal.specs.Ledger.{LedgerState, deposited}
use Rattle.nomos_legal.specs.Legal.{IsLimit, PassesBy, TellsFrom, batch_limit, max_firings}
use Rattle.nomos_legal.specs.NextNumbers.{HasNumbered}
use Rattle.nomos_legal.specs.Passage.{IsPassage, Passage}
use Rattle.nomos_legal.specs.Passage as passage
use Rattle.nomos_legal.specs.StandsFor.{StandsNamed, StandsFor, WorldStandsFor}
use Rattle.nomos_legal.specs.World.{WorldState}
use Rattle.nomos_legal.specs.declared.journal.End.{End}
use Rattle.nomos_legal.specs.declared.journal.End.TheVariants as end
use Rattle.nomos_legal.specs.declared.journal.Entry.{Entry}
use Rattle.nomos_legal.specs.declared.refusal.Refusal.TheVariants as refusal
use Rattle.nomos_ledger.proofs.RunningLaws.{begun-may_run, ran-before, ran-passage}
use Rattle.nomos_ledger.specs.Beginning.{HasBegun}
use Rattle.nomos_ledger.specs.Running.{MayRun, RunsOn}
use Rattle.nomos_report.specs.Reported.{HasNoFirings}
use Rattle.nomos_walk.proofs.MoreLaws.{tells-next, walk-next}
use Rattle.nomos_walk.proofs.RoomLemmas.{walk-made, walk-room}
use Rattle.nomos_walk.specs.Coming.{HasCome, journal_of}
use Rattle.nomos_walk.specs.WalkState.{WalkState}
use Rattle.nomos_walk.specs.Walks.{HasBegunBatch, HasItemRoom, HasRoomFor, IsStill, PassesAs, PassesStill, batch_entry, walk_of, walk_with}
use Rattle.nomos_walk.specs.declared.papers.WantedTexts.{WantedTexts}
use Rattle.nomos_walk.specs.declared.started.PassedItem.{PassedItem}

-- ---- items without firings

-- an end without firings is none of a batch that ran
ran-not_still : (a : Acceptance) (s : State) (n most : ℕ) (e : End) → IsAllowed a s n most e → HasNoFirings e → ⊥
ran-not_still a s n most end.Deposited allowed none = allowed
ran-not_still a s n most end.Committed allowed none = none
ran-not_still a s n most end.Blocked allowed none = none
ran-not_still a s n most (end.Steps k) allowed none = none
ran-not_still a s n most (end.Aborted pid f) allowed none = none
ran-not_still a s n most (end.Refused line cause) allowed none = allowed

-- an item without firings follows every policy
pub still-by : (policy : Policy) {a : Acceptance} {most : ℕ} {p : Passage} → IsPassage a most p → IsStill p.entry
    → PassesBy policy a p p.entry
still-by policy {a} (passage.deposit l line units name fits) none =
    still-follows policy a (item.Deposit line name units) l (deposited a.annotations.unit l name units) line
    end.Deposited (λ P. tt)
still-by policy {a} (passage.no_deposit l line units name never) none =
    still-follows policy a (item.Deposit line name units) l l line (end.Refused line refusal.TooMuchGas) (λ P. tt)
still-by policy {a} (passage.refused l batch line cause refuses) none =
    still-follows policy a (item.Batch batch) l l batch.line (end.Refused line cause) (λ P. tt)
still-by policy (passage.stays l batch starts pids last begun reaches) none = absurd none
still-by policy {a} {most} (passage.undone l batch starts pids last answer begun reaches undoes) none =
    absurd (ran-not_still a last (length pids) most answer reaches.allowed none)
still-by policy (passage.shown l line) none = tt

-- an item that has passed without firings has passed so
pub still-passes : {M : Type 0} {before after : WalkState} {l : LedgerState} {i : ScriptItem} {passed : PassedItem M}
    (passes : PassesStill before l i passed after) → PassesAs before l i passes.passage passed after
still-passes passes = record {
  is = passes.is _;
  item = passes.item;
  before_is = passes.before_is;
  after_is = passes.after_is;
  entry = passes.entry;
  walk = passes.walk;
}

-- ---- batches

-- A batch that has begun may run, where there was room for its item.
pub begun-room : {a : Acceptance} → IsAccepted a → {l : LedgerState} {batch : Batch} {w : WorldState} {most : ℕ}
    → HasItemRoom l (start_count (item.Batch batch ∷ [])) most → HasBegun a l batch w → WorldStandsFor a w
    → MayRun a most w
begun-room accepted {most = most} room begun stands =
    begun-may_run accepted begun stands room.given most room.numbered (omega (arith, room.few))

-- A batch that has begun and was run has passed, with any end that is allowed.
pub ran-passes : {M : Type 0} {before after : WalkState} {l : LedgerState} {i : ScriptItem} {line spent : ℕ}
    {w v : WorldState} (e : End) (passed : PassedItem M) (under : HasBegunBatch before l i line spent w before)
    → RunsOn before.accepted (batch_limit before.limit before.made) w v
    → IsAllowed before.accepted v.state (length v.firings) (batch_limit before.limit before.made) e
    → passed.ledger ≡ left_by e v → passed.entry ≡ Some (batch_entry line v e)
    → ((batch : Batch) → batch.line ≡ line → after ≡ walk_with (passage_of before.accepted batch v e) before)
    → PassesAs before l i (passage_of before.accepted under.batch v e) passed after
ran-passes {v = v} e passed under runs allowed ledger entry walk = record {
  is = ran-passage under.begun runs e allowed;
  item = sym under.item;
  before_is = ran-before under.begun runs;
  after_is = sym ledger;
  entry = ap (λ (n : ℕ). Some (batch_entry n v e)) (sym under.line_is) ∙ sym entry;
  walk = walk under.batch (sym under.line_is);
}

-- ---- how far a walk has come

-- before any item
pub come-none : (a : Acceptance) (first : LedgerState) (limit : ℕ) (wanted : WantedTexts) → IsLimit limit
    → HasCome a first limit wanted [] [] [] first (walk_of a limit wanted [])
come-none a first limit wanted is = record { tells = tells-none-from a first limit is; walk = refl }

-- with one item more
pub come-more : {M : Type 0} {a : Acceptance} {first : LedgerState} {limit : ℕ} {wanted : WantedTexts}
    {items : List ScriptItem} {entries kept : List Entry} {ps : List Passage} {l : LedgerState} {w v : WalkState}
    {i : ScriptItem} (p : Passage) (passed : PassedItem M) → HasCome a first limit wanted items entries ps l w
    → PassesAs w l i p passed v → kept ≡ entries ++ option_to_list passed.entry
    → HasCome a first limit wanted (items ++ i ∷ []) kept (ps ++ p ∷ []) passed.ledger v
come-more {a = a} {first} {limit} {wanted} {items} {entries} {kept} {ps} {l} {w} {v} {i} p passed come passes kept_is =
    let here : PassesAs (walk_of a limit wanted ps) l i p passed v =
    subst (λ (x : WalkState). PassesAs x l i p passed v) come.walk passes
    in
    record {
      tells =
          tells-next i p kept passed.ledger come.tells here.before_is here.is here.item
          (ap (λ (e : Option Entry). entries ++ option_to_list e) here.entry ∙ sym kept_is) here.after_is;
      walk = here.walk ∙ walk-next a limit wanted ps p;
    }

module _ {a : Acceptance} {first : LedgerState} {limit : ℕ} {wanted : WantedTexts} {items : List ScriptItem}
    {entries : List Entry} {ps : List Passage} {l : LedgerState} {w : WalkState}
    (come : HasCome a first limit wanted items entries ps l w) where
  -- the program is that of the walk
  pub come-accepted : w.accepted ≡ a
  come-accepted = ap (λ (x : WalkState). x.accepted) come.walk

  -- its ledger stands for the program
  pub come-stands : IsAccepted a → StandsNamed a first → StandsFor w.accepted l
  come-stands accepted standing =
      subst (λ (b : Acceptance). StandsFor b l) (sym come-accepted)
      (legal-right-from accepted standing come.tells).1.stands

  -- a batch may make firings still
  pub come-made : w.made ≤ max_firings
  come-made = subst (λ (x : WalkState). x.made ≤ max_firings) (sym come.walk) (walk-made come.tells)

-- Where the first ledger is not too far on, there is room for the next item.
pub come-room : {a : Acceptance} {first : LedgerState} {limit : ℕ} {wanted : WantedTexts} (items : List ScriptItem)
    (n : ℕ) {entries : List Entry} {ps : List Passage} {l : LedgerState} {w : WalkState}
    → HasCome a first limit wanted (take n items) entries ps l w → IsAccepted a → StandsNamed a first
    → HasNumbered (2 ^ 31) first.state → length first.accounts < 2 ^ 31 → (i : ScriptItem) → IsScriptSize items
    → take (n + 1) items ≡ take n items ++ i ∷ [] → HasRoomFor w l i
come-room {wanted = wanted} items n {l = l} come accepted standing numbers few i size more =
    subst (λ (x : WalkState). HasRoomFor x l i) (sym come.walk)
    (walk-room accepted standing numbers few wanted n i size more come.tells)

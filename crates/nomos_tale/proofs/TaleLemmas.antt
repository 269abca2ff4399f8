-- What becomes of the items of a script that is told, one after another.
use Rattle.std.proofs.Common.{◌≡◌, ◌∙◌, ℕ, ◌+◌, ◌^◌, ◌<◌, ◌≤◌, List, [], ◌∷◌, ◌++◌, length, take, refl, sym, ap, subst, arith}
use Rattle.std.specs.Option.{option_to_list}
use Rattle.std.specs.Prelude.{Some}
use Rattle.nomos_types.specs.Acceptance.{Acceptance, IsAccepted}
use Rattle.nomos_script.specs.Size.{IsScriptSize}
use Rattle.nomos_script.specs.declared.item.Batch.{Batch}
use Rattle.nomos_script.specs.declared.item.ScriptItem.{ScriptItem}
use Rattle.nomos_legal.specs.Ending.{IsAllowed}
use Rattle.nomos_legal.specs.Leaving.{left_by, passage_of}
use Rattle.nomos_legal.specs.Ledger.{IsLedger, LedgerState, empty_ledger}
use Rattle.nomos_legal.specs.Legal.{IsLimit, batch_limit, max_firings}
use Rattle.nomos_legal.specs.NextNumbers.{HasNumbered}
use Rattle.nomos_legal.specs.StandsFor.{StandsNamed, StandsFor}
use Rattle.nomos_legal.specs.World.{WorldState}
use Rattle.nomos_legal.specs.declared.journal.End.{End}
use Rattle.nomos_ledger.specs.Running.{RunsOn}
use Rattle.nomos_walk.proofs.ComeLaws.{come-accepted, come-made, come-more, come-none, come-room, come-stands, ran-passes, still-passes}
use Rattle.nomos_walk.specs.Coming.{HasCome}
use Rattle.nomos_walk.specs.WalkState.{WalkState}
use Rattle.nomos_walk.specs.Walks.{HasBegunBatch, HasRoomFor, PassesAs, PassesStill, batch_entry, walk_of, walk_with}
use Rattle.nomos_walk.specs.declared.started.PassedItem.{PassedItem}
use Rattle.nomos_tale.specs.mirror.Tales.{HasTold, IsTold, no_texts}

-- ---- an item

-- a batch that was run and finished was told
pub batch-told : {M : Type 0} {before after : WalkState} {l : LedgerState} {i : ScriptItem} {line spent : ℕ}
    (a : Acceptance) (limit : ℕ) (w v begun ran : WorldState) (e : End) (passed : PassedItem M)
    → a ≡ before.accepted → limit ≡ batch_limit before.limit before.made → begun ≡ w → v ≡ ran
    → HasBegunBatch before l i line spent w before → RunsOn a limit begun ran
    → IsAllowed a ran.state (length ran.firings) limit e → passed.ledger ≡ left_by e v
    → passed.entry ≡ Some (batch_entry line v e)
    → ((batch : Batch) → batch.line ≡ line → after ≡ walk_with (passage_of before.accepted batch v e) before)
    → IsTold before l i passed after
batch-told {before = before} a limit w v begun ran e passed a_is limit_is begun_is ran_is under runs allowed ledger
    entry
    walk =
    let most : ℕ = batch_limit before.limit before.made in
    let here : RunsOn before.accepted most w v =
    subst (λ (x : WorldState). RunsOn before.accepted most w x) (sym ran_is)
    (subst (λ (x : WorldState). RunsOn before.accepted most x ran) begun_is
    (subst (λ (n : ℕ). RunsOn before.accepted n begun ran) limit_is
    (subst (λ (b : Acceptance). RunsOn b limit begun ran) a_is runs)))
    in
    let ends : IsAllowed before.accepted v.state (length v.firings) most e =
    subst (λ (x : WorldState). IsAllowed before.accepted x.state (length x.firings) most e) (sym ran_is)
    (subst (λ (n : ℕ). IsAllowed before.accepted ran.state (length ran.firings) n e) limit_is
    (subst (λ (b : Acceptance). IsAllowed b ran.state (length ran.firings) limit e) a_is allowed))
    in
    record {
      passage = passage_of before.accepted under.batch v e;
      passes = ran-passes e passed under here ends ledger entry walk;
    }

-- ---- items

-- before any item
pub told-none : (a : Acceptance) (limit : ℕ) {l : LedgerState} {w : WalkState} → IsLimit limit → l ≡ empty_ledger
    → w ≡ walk_of a limit no_texts [] → HasTold a limit [] l w
told-none a limit {l} {w} is empty walk =
    subst (λ (m : LedgerState). HasTold a limit [] m w) (sym empty)
    (subst (λ (x : WalkState). HasTold a limit [] empty_ledger x) (sym walk)
    (record { entries = []; passages = []; come = come-none a empty_ledger limit no_texts is }))

-- with one item more
pub told-more : {M : Type 0} {a : Acceptance} {limit : ℕ} {items : List ScriptItem} {l : LedgerState} {w v : WalkState}
    {i : ScriptItem} (passed : PassedItem M) → HasTold a limit items l w → IsTold w l i passed v
    → HasTold a limit (items ++ i ∷ []) passed.ledger v
told-more passed told item = record {
  entries = told.entries ++ option_to_list passed.entry;
  passages = told.passages ++ item.passage ∷ [];
  come = come-more item.passage passed told.come item.passes refl;
}

-- the empty ledger stands, and is at the very beginning
pub empty-standing : (a : Acceptance) → StandsFor a empty_ledger → StandsNamed a empty_ledger
empty-standing a stands = record { stands = stands; counted = refl }

pub empty-numbers : HasNumbered (2 ^ 31) empty_ledger.state
empty-numbers = record { objects = omega arith; names = omega arith }

pub empty-accounts : length empty_ledger.accounts < 2 ^ 31
empty-accounts = omega arith

module _ {a : Acceptance} {limit : ℕ} (items : List ScriptItem) (n : ℕ) {l : LedgerState} {w : WalkState}
    (told : HasTold a limit (take n items) l w) where
  pub told-accepted : w.accepted ≡ a
  told-accepted = come-accepted told.come

  -- the ledger stands for the program
  pub told-stands : IsAccepted a → StandsFor a empty_ledger → StandsFor w.accepted l
  told-stands accepted stands = come-stands told.come accepted (empty-standing a stands)

  -- there is room for the next item
  pub told-room : IsAccepted a → StandsFor a empty_ledger → (i : ScriptItem) → IsScriptSize items
      → take (n + 1) items ≡ take n items ++ i ∷ [] → HasRoomFor w l i
  told-room accepted stands i size more =
      come-room items n told.come accepted (empty-standing a stands) empty-numbers empty-accounts i size more

  pub told-made : w.made ≤ max_firings
  told-made = come-made told.come

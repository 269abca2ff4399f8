-- How a script is gone along item by item.
use Rattle.std.specs.Prelude.{◌≡◌, ℕ, ◌+◌, ◌-◌, ◌<◌, ◌^◌, List, [], ◌∷◌, length, Option, Some, None}
use Rattle.nomos_types.specs.Acceptance.{Acceptance}
use Rattle.nomos_script.specs.declared.item.Batch.{Batch}
use Rattle.nomos_script.specs.declared.item.ScriptItem.{ScriptItem}
use Rattle.nomos_script.specs.declared.item.ScriptItem.TheVariants as item
use Rattle.nomos_script.specs.Size.{start_count}
use Rattle.nomos_legal.specs.Ledger.{LedgerState}
use Rattle.nomos_legal.specs.Legal.{batch_limit, entries_of, firings_in, firings_made}
use Rattle.nomos_legal.specs.NextNumbers.{HasNumbered}
use Rattle.nomos_legal.specs.Passage.{IsPassage, Passage}
use Rattle.nomos_legal.specs.StandsFor.{WorldStandsFor}
use Rattle.nomos_legal.specs.World.{WorldState, pids_of}
use Rattle.nomos_legal.specs.declared.journal.End.{End}
use Rattle.nomos_legal.specs.declared.journal.Entry.{Entry}
use Rattle.nomos_ledger.specs.Beginning.{HasBegun}
use Rattle.nomos_report.specs.Reported.{HasNoFirings}
use Rattle.nomos_walk.specs.declared.papers.WantedTexts.{WantedTexts}
use Rattle.nomos_walk.specs.declared.started.PassedItem.{PassedItem}
use Rattle.nomos_walk.specs.declared.started.StartedItem.{StartedItem}
use Rattle.nomos_walk.specs.declared.started.StartedItem.TheVariants as started
use Rattle.nomos_walk.specs.Papers.{papers_of, papers_with}
use Rattle.nomos_walk.specs.WalkState.{WalkState}

-- ---- walks

-- the walk behind these passages
abbrev pub walk_of : Acceptance → ℕ → WantedTexts → List Passage → WalkState
walk_of a limit wanted ps = record {
  accepted = a;
  limit = limit;
  made = firings_made (entries_of ps);
  papers = papers_of a limit wanted ps;
}

-- the walk behind one passage more
abbrev pub walk_with : Passage → WalkState → WalkState
walk_with p w = record w {
  made = w.made + length (firings_in p.entry);
  papers = papers_with w.accepted p w.papers;
}

-- There is room for an item with so many starts whose batch may make so many firings: for one account more, and for the
-- numbers of objects and names.
pub record HasItemRoom (l : LedgerState) (starts most : ℕ) : Type 0 where
  pub accounts : length l.accounts < 2 ^ 32 - 1
  pub given : ℕ
  pub numbered : HasNumbered given l.state
  pub few : given + starts + most < 2 ^ 32 - 1

-- so there is for this item on a walk
abbrev pub HasRoomFor : WalkState → LedgerState → ScriptItem → Type 0
HasRoomFor w l i = HasItemRoom l (start_count (i ∷ [])) (batch_limit w.limit w.made)

-- ---- items without firings

-- no entry, or one without firings
abbrev pub IsStill : Option Entry → Type 0
IsStill None = Unit {0}
IsStill (Some entry) = HasNoFirings entry.end

-- An item has passed without firings: this became of it.
pub record PassesStill {M : Type 0} (before : WalkState) (l : LedgerState) (i : ScriptItem) (passed : PassedItem M)
    (after : WalkState) : Type 0 where
  pub passage : Passage
  pub is : (most : ℕ) → IsPassage before.accepted most passage
  pub still : IsStill passage.entry
  pub item : passage.item ≡ i
  pub before_is : passage.before ≡ l
  pub after_is : passage.after ≡ passed.ledger
  pub entry : passage.entry ≡ passed.entry
  pub walk : after ≡ walk_with passage before

-- ---- batches under way

-- The lines of a batch have started: nothing was written yet.
pub record HasBegunBatch (before : WalkState) (l : LedgerState) (i : ScriptItem) (line spent : ℕ) (w : WorldState)
    (after : WalkState) : Type 0 where
  pub batch : Batch
  pub item : i ≡ item.Batch batch
  pub line_is : line ≡ batch.line
  pub spent_is : spent ≡ l.state.spent
  pub begun : HasBegun before.accepted l batch w
  pub stands : WorldStandsFor before.accepted w
  pub walk : after ≡ before

-- what the start of an item comes to
abbrev pub StartsAs : {M : Type 0} → WalkState → LedgerState → ScriptItem → StartedItem M → WalkState → Type 0
StartsAs before l i (started.Passed passed) after = PassesStill before l i passed after
StartsAs before l i (started.UnderWay under) after =
    HasBegunBatch before l i under.outset.line under.outset.spent under.world after

-- ---- batches that have ended

-- the entry of a batch, which stands at this line, has come to this world and ended so
abbrev pub batch_entry : ℕ → WorldState → End → Entry
batch_entry line w e = record { line = line; firings = pids_of w.firings; end = e }

-- the walk behind so many firings more
abbrev pub walk_counting : ℕ → WalkState → WalkState
walk_counting firings w = record w { made = w.made + firings }

-- the walk with the lines of one passage more, whose firings are not counted yet
abbrev pub walk_writing : Passage → WalkState → WalkState
walk_writing p w = record w { papers = papers_with w.accepted p w.papers }

-- An item has passed: this passage became of it.
pub record PassesAs {M : Type 0} (before : WalkState) (l : LedgerState) (i : ScriptItem) (p : Passage)
    (passed : PassedItem M) (after : WalkState) : Type 0 where
  pub is : IsPassage before.accepted (batch_limit before.limit before.made) p
  pub item : p.item ≡ i
  pub before_is : p.before ≡ l
  pub after_is : p.after ≡ passed.ledger
  pub entry : p.entry ≡ passed.entry
  pub walk : after ≡ walk_with p before

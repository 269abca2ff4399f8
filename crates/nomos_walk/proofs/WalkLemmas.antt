-- What becomes of an item on a walk.
use Rattle.std.proofs.Common.{◌≡◌, ◌∙◌, ℕ, ◌+◌, ◌≤◌, ◌<◌, ◌^◌, List, length, Some, None, ⊎_elim, refl, sym, ap, subst, arith}
use Rattle.std.specs.Prelude.{Result, Ok, Err, OnOk}
use Rattle.std.proofs.lemmas.Bool.{cases_lt}
use Rattle.nomos_types.specs.Acceptance.{Acceptance}
use Rattle.nomos_script.specs.declared.item.Batch.{Batch}
use Rattle.nomos_script.specs.declared.item.ScriptItem.{ScriptItem}
use Rattle.nomos_script.specs.declared.item.ScriptItem.TheVariants as item
use Rattle.nomos_legal.proofs.LegalLaws.{deposit-passage}
use Rattle.nomos_legal.specs.Batch.{OneRefuses}
use Rattle.nomos_legal.specs.Ledger.{FitsDeposits, LedgerState}
use Rattle.nomos_legal.specs.Legal.{firings_in}
use Rattle.nomos_legal.specs.Passage.{Passage, bare, still}
use Rattle.nomos_legal.specs.Passage as passage
use Rattle.nomos_legal.specs.StandsFor.{Deposits}
use Rattle.nomos_legal.specs.declared.journal.End.{End}
use Rattle.nomos_legal.specs.declared.journal.End.TheVariants as end
use Rattle.nomos_legal.specs.declared.refusal.Refusal.{Refusal}
use Rattle.nomos_report.specs.Reported.{HasNoFirings}
use Rattle.nomos_walk.specs.declared.started.PassedItem.{PassedItem}
use Rattle.nomos_walk.specs.Papers.{papers_with}
use Rattle.nomos_walk.specs.WalkState.{WalkState}
use Rattle.nomos_walk.specs.Walks.{PassesStill, walk_counting, walk_with, walk_writing}

-- ---- walks

-- A walk that is as it was but for so many firings and what is written has gone along the passage.
pub walk-more : (before after : WalkState) (p : Passage) → after.accepted ≡ before.accepted
    → after.limit ≡ before.limit → after.made ≡ before.made + length (firings_in p.entry)
    → after.papers ≡ papers_with before.accepted p before.papers → after ≡ walk_with p before
walk-more before after p accepted limit made papers =
    λ i. record { accepted = accepted i; limit = limit i; made = made i; papers = papers i }

-- ---- items without firings

-- a deposit has no firings
pub deposits-still : {a : Acceptance} {l after : LedgerState} {line units : ℕ} {name : List ℕ} {answer : End}
    → Deposits a l line name units answer after → HasNoFirings answer
deposits-still {l = l} {line = line} {units = units} deposits =
    ⊎_elim
    (λ (fits : l.deposits + units < 2 ^ 64). subst HasNoFirings (sym (deposits.made fits).0) tt)
    (λ (too_much : 2 ^ 64 ≤ l.deposits + units).
    let never : FitsDeposits l units → ⊥ = λ fits. omega (arith, fits, too_much) in
    subst HasNoFirings (sym (deposits.refused never).0) tt)
    (cases_lt (l.deposits + units) (2 ^ 64))

pub deposit-passes : {M : Type 0} (before after : WalkState) (l last : LedgerState) (line units : ℕ) (name : List ℕ)
    (e : End) (passed : PassedItem M) → Deposits before.accepted l line name units e last → passed.ledger ≡ last
    → passed.entry ≡ bare line e → after ≡ walk_with (still (item.Deposit line name units) (bare line e) l last) before
    → PassesStill before l (item.Deposit line name units) passed after
deposit-passes before after l last line units name e passed deposits ledger entry walk = record {
  passage = still (item.Deposit line name units) (bare line e) l last;
  is = λ most. deposit-passage deposits;
  still = deposits-still deposits;
  item = refl;
  before_is = refl;
  after_is = sym ledger;
  entry = sym entry;
  walk = walk;
}

pub refusal-passes : {M : Type 0} (before after : WalkState) (l last : LedgerState) (batch : Batch) (line : ℕ)
    (cause : Refusal) (passed : PassedItem M) → OneRefuses before.accepted l batch.starts line cause → last ≡ l
    → passed.ledger ≡ last → passed.entry ≡ bare batch.line (end.Refused line cause)
    → after ≡ walk_with (still (item.Batch batch) (bare batch.line (end.Refused line cause)) l last) before
    → PassesStill before l (item.Batch batch) passed after
refusal-passes before after l last batch line cause passed refuses same ledger entry walk = record {
  passage = still (item.Batch batch) (bare batch.line (end.Refused line cause)) l l;
  is = λ most. passage.refused l batch line cause refuses;
  still = tt;
  item = refl;
  before_is = refl;
  after_is = sym (ledger ∙ same);
  entry = sym entry;
  walk =
      subst
      (λ (m : LedgerState). after
      ≡ walk_with (still (item.Batch batch) (bare batch.line (end.Refused line cause)) l m) before) same walk;
}

pub show-passes : {M : Type 0} (before after : WalkState) (l : LedgerState) (line : ℕ) (passed : PassedItem M)
    → passed.ledger ≡ l → passed.entry ≡ None → after ≡ walk_with (still (item.Show line) None l l) before
    → PassesStill before l (item.Show line) passed after
show-passes before after l line passed ledger entry walk = record {
  passage = still (item.Show line) None l l;
  is = λ most. passage.shown l line;
  still = tt;
  item = refl;
  before_is = refl;
  after_is = sym ledger;
  entry = sym entry;
  walk = walk;
}

-- ---- batches

-- what follows where there is no error
pub ok-map : {T E P Q : Type 0} (r : Result T E) → OnOk r P → (P → Q) → OnOk r Q
ok-map (Ok x) holds follows = follows holds
ok-map (Err e) holds follows = tt

-- the lines of a passage are written
pub walk-written : (before after : WalkState) (p : Passage) → after.accepted ≡ before.accepted
    → after.limit ≡ before.limit → after.made ≡ before.made
    → after.papers ≡ papers_with before.accepted p before.papers → after ≡ walk_writing p before
walk-written before after p accepted limit made papers =
    λ i. record { accepted = accepted i; limit = limit i; made = made i; papers = papers i }

-- so many firings are counted
pub walk-counted : (before after : WalkState) (n : ℕ) → after.accepted ≡ before.accepted → after.limit ≡ before.limit
    → after.made ≡ before.made + n → after.papers ≡ before.papers → after ≡ walk_counting n before
walk-counted before after n accepted limit made papers =
    λ i. record { accepted = accepted i; limit = limit i; made = made i; papers = papers i }

-- Along every legal journal nothing is wrong, each name has its type, each linear channel has one owner, all gas is
-- what was deposited, and no firing debits an account.
use Rattle.std.proofs.Common.{◌≡◌, ◌∙◌, ℕ, ◌*◌, List, [], length, take, Option, Some, refl, sym, subst, ap}
use Rattle.std.proofs.lemmas.List.Elements.{All-nil, All-cons}
use Rattle.nomos_ir.specs.Order.{count_of}
use Rattle.nomos_types.specs.Acceptance.{Acceptance, IsAccepted}
use Rattle.nomos_machine.specs.Run.{IsQuiet, run}
use Rattle.nomos_machine.specs.Starting.{cleared}
use Rattle.nomos_machine.specs.State.{State, gas_of}
use Rattle.nomos_machine.specs.TypedState.{IsTyped}
use Rattle.nomos_machine.proofs.NotWrongLaws.{typed-not_wrong}
use Rattle.nomos_machine.proofs.OwnerLaws.{name-has_owner}
use Rattle.nomos_machine.proofs.RunLaws.{run-front}
use Rattle.nomos_script.specs.declared.item.ScriptItem.{ScriptItem}
use Rattle.nomos_script.specs.declared.item.Start.{Start}
use Rattle.nomos_legal.specs.Batch.{AllStart, after_starts}
use Rattle.nomos_legal.specs.Ending.{HasTransaction}
use Rattle.nomos_legal.specs.Ledger.{LedgerState, FitsDeposits, deposited, empty_ledger}
use Rattle.nomos_legal.specs.Legal.{Leads, Tells, TellsFrom, firings_in}
use Rattle.nomos_legal.specs.Legal as legal
use Rattle.nomos_legal.specs.Passage.{Passage, IsPassage, still}
use Rattle.nomos_legal.specs.Passage as passage
use Rattle.nomos_legal.specs.Right.{IsRight, RunsRight, GoesRight, AllGoRight}
use Rattle.nomos_legal.specs.StandsFor.{IsSettled, StandsFor, StandsNamed}
use Rattle.nomos_legal.specs.declared.journal.Entry.{Entry}
use Rattle.nomos_legal.specs.declared.journal.Journal.{Journal}
use Rattle.nomos_legal.specs.declared.resolved.Resolved.{Resolved}
use Rattle.nomos_legal.proofs.DebitLaws.{passage-debits}
use Rattle.nomos_legal.proofs.SettledLaws.{counted-stands, deposited-counted, empty-stands}
use Rattle.nomos_legal.proofs.StartLaws.{Started, starts-started}
use Rattle.nomos_legal.proofs.WorldLaws.{Reached, settled-reached, reached-stands}

-- ---- states

module _ {a : Acceptance} (accepted : IsAccepted a) {s : State} (typed : IsTyped a s) (inside : s.outside ≡ []) where
  not-outside : (name : ℕ) → count_of name s.outside ≡ 0
  not-outside name = ap (count_of name) inside

  -- the state is right, where it has all gas
  typed-right : (deposits : ℕ) → gas_of s ≡ deposits * a.annotations.unit → IsRight a deposits s
  typed-right deposits gas = record {
    not_wrong = typed-not_wrong accepted typed;
    typed = typed.numbered.typed;
    owned = λ name t m found at linear.
        name-has_owner accepted typed name t m found at linear (not-outside name);
    gas = gas;
  }

-- the state of a settled ledger is right
pub settled-right : {a : Acceptance} → IsAccepted a → {l : LedgerState} → IsSettled a l → IsRight a l.deposits l.state
settled-right accepted {l} settled = typed-right accepted settled.typed settled.outside l.deposits settled.gas

-- what firings reach from it is right
pub reached-right : {a : Acceptance} → IsAccepted a → {l : LedgerState} {t : State} → Reached a l t
    → IsRight a l.deposits t
reached-right accepted {l} reached = typed-right accepted reached.typed reached.outside l.deposits reached.gas

-- and each front of these firings reaches what is right
pub runs-right : {a : Acceptance} → IsAccepted a → {l : LedgerState} → IsSettled a l → (pids : List ℕ) (t : State)
    → run a l.state pids ≡ Some t → RunsRight a l.deposits l.state pids
runs-right {a} accepted {l} settled pids t is k =
    let (s, front) = run-front a l.state t pids is k in
    (s, front, reached-right accepted (settled-reached accepted settled (take k pids) s front))

-- ---- passages

-- what is proved of a passage, debits apart
record Passes (a : Acceptance) (p : Passage) : Type 0 where
  before : IsRight a p.before.deposits p.before.state
  firings : RunsRight a p.before.deposits p.start.state (firings_in p.entry)
  after : IsRight a p.after.deposits p.after.state
  standing : StandsNamed a p.after

module _ {a : Acceptance} (accepted : IsAccepted a) where
  standing-right : {l : LedgerState} → StandsNamed a l → IsRight a l.deposits l.state
  standing-right standing = settled-right accepted standing.stands.settled

  -- without firings
  still-right : {l : LedgerState} → StandsNamed a l → RunsRight a l.deposits l.state []
  still-right {l} standing = runs-right accepted standing.stands.settled [] l.state refl

  -- a deposit that fits
  deposited-standing : {l : LedgerState} (name : List ℕ) (units : ℕ) → FitsDeposits l units → StandsNamed a l
      → StandsNamed a (deposited a.annotations.unit l name units)
  deposited-standing {l} name units fits standing = record {
    stands = counted-stands accepted l standing.counted name units fits standing.stands;
    counted = deposited-counted accepted l standing.counted name units fits;
  }

  -- the start of a batch
  pub batch-started : {l : LedgerState} {lines : List Start} {starts : List Resolved} → StandsNamed a l
      → AllStart a l lines starts → Started a (length starts) l (after_starts a l starts)
  batch-started standing begun = starts-started accepted standing.stands.settled standing.counted begun

  -- its firings
  batch-right : {l : LedgerState} {lines : List Start} {starts : List Resolved} (pids : List ℕ) {t : State}
      → StandsNamed a l → AllStart a l lines starts → run a (after_starts a l starts).state pids ≡ Some t
      → RunsRight a l.deposits (after_starts a l starts).state pids
  batch-right {l} {starts = starts} pids {t} standing begun reached =
      let start = batch-started standing begun in
      subst (λ (n : ℕ). RunsRight a n (after_starts a l starts).state pids) start.counts.deposits
      (runs-right accepted start.settled pids t reached)

  -- what it leaves, where it stays
  kept-standing : {l : LedgerState} {lines : List Start} {starts : List Resolved} (pids : List ℕ) {t : State}
      → StandsNamed a l → AllStart a l lines starts → run a (after_starts a l starts).state pids ≡ Some t
      → IsQuiet a t × ¬ (HasTransaction t) → StandsNamed a (record (after_starts a l starts) { state = cleared t })
  kept-standing pids {t} standing begun reached ends =
      let start = batch-started standing begun in
      let there = settled-reached accepted start.settled pids t reached in
      record {
        stands = reached-stands accepted there start.settled.few ends;
        counted = start.counted ∙ sym there.accounts;
      }

  -- an item without firings at which nothing changes
  unchanged : (item : ScriptItem) (entry : Option Entry) → firings_in entry ≡ [] → {l : LedgerState} → StandsNamed a l
      → Passes a (still item entry l l)
  unchanged item entry none {l} standing = record {
    before = standing-right standing;
    firings = subst (RunsRight a l.deposits l.state) (sym none) (still-right standing);
    after = standing-right standing;
    standing = standing;
  }

  passage-passes : {most : ℕ} {p : Passage} → IsPassage a most p → StandsNamed a p.before → Passes a p
  passage-passes (passage.deposit l line units name fits) standing =
      let after = deposited-standing name units fits standing in
      record {
        before = standing-right standing;
        firings = still-right standing;
        after = standing-right after;
        standing = after;
      }
  passage-passes (passage.no_deposit l line units name never) standing = unchanged _ _ refl standing
  passage-passes (passage.refused l batch line cause refuses) standing = unchanged _ _ refl standing
  passage-passes (passage.stays l batch starts pids last begun reaches) standing =
      let after = kept-standing pids standing begun reaches.reached reaches.allowed in
      record {
        before = standing-right standing;
        firings = batch-right pids standing begun reaches.reached;
        after = standing-right after;
        standing = after;
      }
  passage-passes (passage.undone l batch starts pids last answer begun reaches undoes) standing = record {
    before = standing-right standing;
    firings = batch-right pids standing begun reaches.reached;
    after = standing-right standing;
    standing = standing;
  }
  passage-passes (passage.shown l line) standing = unchanged _ _ refl standing

  pub passage-standing : {most : ℕ} {p : Passage} → IsPassage a most p → StandsNamed a p.before → StandsNamed a p.after
  passage-standing is standing = (passage-passes is standing).standing

  passage-right : {most : ℕ} {p : Passage} → IsPassage a most p → StandsNamed a p.before → GoesRight a p
  passage-right is standing =
      let passes = passage-passes is standing in
      record {
        before = passes.before;
        firings = passes.firings;
        after = passes.after;
        debits = passage-debits accepted is standing.stands.settled standing.counted;
      }

-- ---- journals

leads-right : {a : Acceptance} → IsAccepted a → {limit made : ℕ} {l last : LedgerState} {ps : List Passage}
    → Leads a limit made l ps last → StandsNamed a l → AllGoRight a ps × StandsNamed a last
leads-right {a} accepted (legal.done made l) standing = (All-nil (GoesRight a), standing)
leads-right {a} accepted (legal.passes made p ps last is rest) standing =
    let (others, after) = leads-right accepted rest (passage-standing accepted is standing) in
    (All-cons (GoesRight a) p ps (passage-right accepted is standing) others, after)

pub empty-standing : (a : Acceptance) → StandsNamed a empty_ledger
empty-standing a = record { stands = empty-stands a; counted = refl }

-- What a reader of a legal journal relies on: all its passages go right, those of batches that are undone too, and the
-- ledger to which it leads stands for the program; from any ledger that stands.
pub legal-right-from : {a : Acceptance} → IsAccepted a → {first : LedgerState} → StandsNamed a first
    → {items : List ScriptItem} {journal : Journal} {ps : List Passage} {last : LedgerState}
    → TellsFrom a first items journal ps last → AllGoRight a ps × StandsNamed a last
legal-right-from {a} accepted standing tells = leads-right accepted tells.leads standing

pub legal-right : {a : Acceptance} → IsAccepted a → {items : List ScriptItem} {journal : Journal} {ps : List Passage}
    {last : LedgerState} → Tells a items journal ps last → AllGoRight a ps × StandsFor a last
legal-right {a} accepted tells =
    let (right, standing) = legal-right-from accepted (empty-standing a) tells in
    (right, standing.stands)

-- A line, a batch, an end and a journal come to one outcome each.
use Rattle.std.proofs.Common.{◌+◌, ◌≡◌, ◌∙◌, ℕ, ◌<◌, ◌≤◌, List, ◌∷◌, Option, Some, None, Result, Ok, Err, position, slice_get, slice_index, refl, sym, subst, ap, arith, [], length, map, ◌++◌, Bool, true, false, is_some}
use Rattle.std.specs.Option.{option_to_list}
use Rattle.std.proofs.lemmas.Option.{none-some, same_Some}
use Rattle.nomos_ir.specs.declared.declaration.ProcDecl.{ProcDecl}
use Rattle.nomos_ir.specs.declared.ids.TypeId.{TypeId}
use Rattle.nomos_ir.specs.declared.ids.VarId.{VarId}
use Rattle.nomos_types.specs.Acceptance.{Acceptance}
use Rattle.nomos_types.specs.Amount.{dths}
use Rattle.nomos_machine.specs.Run.{run}
use Rattle.nomos_machine.specs.Starting.{cleared}
use Rattle.nomos_machine.specs.State.{State}
use Rattle.nomos_script.specs.declared.item.Batch.{Batch}
use Rattle.nomos_script.specs.declared.item.ScriptItem.{ScriptItem}
use Rattle.nomos_script.specs.declared.item.ScriptItem.TheVariants as item
use Rattle.nomos_script.specs.declared.item.Start.{Start}
use Rattle.nomos_legal.specs.Batch.{AllStart, OneRefuses, after_start, after_starts}
use Rattle.nomos_legal.specs.Batch as batch
use Rattle.nomos_legal.specs.Ending.{EndsAs, IsAllowed}
use Rattle.nomos_legal.specs.Ledger.{LedgerState, account_of, deposited, shared_name}
use Rattle.nomos_legal.specs.Legal.{Leads, TellsFrom, batch_limit, entries_of, firings_in}
use Rattle.nomos_legal.specs.Legal as legal
use Rattle.nomos_legal.specs.Passage.{Passage, IsPassage, RunsTo, Undoes, bare, runs, still}
use Rattle.nomos_legal.specs.Passage as passage
use Rattle.nomos_legal.specs.LineStarts.{ContractFits, ContractsFit, ArgumentsFit, IsPayer, IsDeclaration, NameIsFree, Resolves, is_wanted, started_by}
use Rattle.nomos_legal.specs.LineStarts as line
use Rattle.nomos_legal.specs.declared.journal.End.{End}
use Rattle.nomos_legal.specs.declared.journal.End.TheVariants as end
use Rattle.nomos_legal.specs.declared.journal.Entry.{Entry}
use Rattle.nomos_legal.specs.declared.journal.Journal.{Journal}
use Rattle.nomos_legal.specs.declared.refusal.Refusal.{Refusal}
use Rattle.nomos_legal.specs.declared.refusal.Refusal.TheVariants as refusal
use Rattle.nomos_legal.specs.declared.resolved.Resolved.{Resolved}

-- ---- lines

-- the shared names that fit are determined
fit-one : {a : Acceptance} {l : LedgerState} {names : List (List ℕ)} {pars : List (VarId × TypeId)}
    {shared others : List ℕ} → ContractsFit a l names pars shared → ContractsFit a l names pars others → shared ≡ others
fit-one line.none line.none = refl
fit-one (line.one {shared = n} fits rest) (line.one {shared = m} fits_other rest_other) =
    let first : n ≡ m = same_Some n m (sym fits.found ∙ fits_other.found) in
    let further = fit-one rest rest_other in
    (λ i. first i ∷ further i)

-- The rows of a line as one question after another.
abbrev Outcome : Type 0
Outcome = Result Resolved Refusal

module _ (a : Acceptance) (l : LedgerState) (start : Start) where
  data ByGas (payer number : ℕ) (d : ProcDecl) (shared : List ℕ) : Outcome → Type 0 where
    lacks : slice_index l.state.balances payer < dths a.annotations d.amount
        → ByGas payer number d shared
        (Err (refusal.NoGas start.sender (slice_index l.state.balances payer) (dths a.annotations d.amount)))
    has : dths a.annotations d.amount ≤ slice_index l.state.balances payer
        → ByGas payer number d shared (Ok (started_by start number shared payer))

  data ByName (payer number : ℕ) (d : ProcDecl) (shared : List ℕ) : Outcome → Type 0 where
    taken : (name : List ℕ) (contract : ℕ) → start.contract ≡ Some name → shared_name l.contracts name ≡ Some contract
        → ByName payer number d shared (Err (refusal.NameTaken name))
    free : (o : Outcome) → NameIsFree l start.contract → ByGas payer number d shared o → ByName payer number d shared o

  data ByArguments (payer number : ℕ) (d : ProcDecl) : Outcome → Type 0 where
    bad : ((shared : List ℕ) → ¬ (ArgumentsFit a l start d shared))
        → ByArguments payer number d (Err (refusal.BadArguments start.proc))
    good : (o : Outcome) (shared : List ℕ) → ArgumentsFit a l start d shared → ByName payer number d shared o
        → ByArguments payer number d o

  data ByProcess (payer : ℕ) : Outcome → Type 0 where
    missing : position (is_wanted start) a.program.procs ≡ None
        → ByProcess payer (Err (refusal.NoProcess start.proc))
    there : (o : Outcome) (number : ℕ) (d : ProcDecl) → IsDeclaration a start number d → ByArguments payer number d o
        → ByProcess payer o

  data ByAccount : Outcome → Type 0 where
    nobody : account_of l.accounts start.sender ≡ None → ByAccount (Err (refusal.NoAccount start.sender))
    somebody : (o : Outcome) (payer : ℕ) → IsPayer l start payer → ByProcess payer o → ByAccount o

-- a name that is taken is not free
taken-free : (l : LedgerState) (contract : Option (List ℕ)) (name : List ℕ) (shared : ℕ) → contract ≡ Some name
    → shared_name l.contracts name ≡ Some shared → NameIsFree l contract → ⊥
taken-free l (Some n) name shared is found is_free =
    let same : n ≡ name = same_Some n name is in
    none-some shared (sym is_free ∙ ap (shared_name l.contracts) same ∙ found)
taken-free l None name shared is found is_free = none-some name is

module _ {a : Acceptance} {l : LedgerState} {start : Start} where
  by-account : {o : Outcome} → Resolves a l start o → ByAccount a l start o
  by-account (line.no_account none) = nobody none
  by-account (line.no_process payer pays none) = somebody _ payer pays (missing none)
  by-account (line.bad_arguments payer number d pays declared none) =
      somebody _ payer pays (there _ number d declared (bad none))
  by-account (line.name_taken payer number d shared name contract pays declared fits is found) =
      somebody _ payer pays (there _ number d declared (good _ shared fits (taken name contract is found)))
  by-account (line.no_gas payer number d shared pays declared fits is few) =
      somebody _ payer pays (there _ number d declared (good _ shared fits (free _ is (lacks few))))
  by-account (line.starts payer number d shared pays declared fits is enough) =
      somebody _ payer pays (there _ number d declared (good _ shared fits (free _ is (has enough))))

  gas-one : {payer number : ℕ} {d : ProcDecl} {shared : List ℕ} {o p : Outcome}
      → ByGas a l start payer number d shared o → ByGas a l start payer number d shared p → o ≡ p
  gas-one (lacks one) (lacks other) = refl
  gas-one (has one) (has other) = refl
  gas-one (lacks one) (has other) = absurd (omega (arith, one, other))
  gas-one (has one) (lacks other) = absurd (omega (arith, one, other))

  name-one : {payer number : ℕ} {d : ProcDecl} {shared : List ℕ} {o p : Outcome}
      → ByName a l start payer number d shared o → ByName a l start payer number d shared p → o ≡ p
  name-one (taken name contract is found) (taken other contract_other is_other found_other) =
      let same : name ≡ other = same_Some name other (sym is ∙ is_other) in
      ap (λ (n : List ℕ). Err (refusal.NameTaken n)) same
  name-one (free o is gas) (free p is_other gas_other) = gas-one gas gas_other
  name-one (taken name contract is found) (free p is_other gas_other) =
      absurd (taken-free l start.contract name contract is found is_other)
  name-one (free o is gas) (taken other contract is_other found_other) =
      absurd (taken-free l start.contract other contract is_other found_other is)

  arguments-one : {payer number : ℕ} {d : ProcDecl} {o p : Outcome}
      → ByArguments a l start payer number d o → ByArguments a l start payer number d p → o ≡ p
  arguments-one (bad none) (bad none_other) = refl
  arguments-one {payer = payer} {number = number} {d = d} (good o shared fits name)
      (good p others fits_other name_other) =
      let same : others ≡ shared = fit-one fits_other.names fits.names in
      name-one name (subst (λ (names : List ℕ). ByName a l start payer number d names p) same name_other)
  arguments-one (bad none) (good p others fits_other name_other) = absurd (none others fits_other)
  arguments-one (good o shared fits name) (bad none_other) = absurd (none_other shared fits)

  process-one : {payer : ℕ} {o p : Outcome} → ByProcess a l start payer o → ByProcess a l start payer p → o ≡ p
  process-one (missing none) (missing none_other) = refl
  process-one {payer = payer} (there o number d declared arguments) (there p other e declared_other arguments_other) =
      let same : other ≡ number = same_Some other number (sym declared_other.first ∙ declared.first) in
      let at : slice_get a.program.procs other ≡ Some d = ap (slice_get a.program.procs) same ∙ declared.there in
      let same_declaration : e ≡ d = same_Some e d (sym declared_other.there ∙ at) in
      arguments-one arguments
      (subst (λ (n : ℕ). ByArguments a l start payer n d p) same
      (subst (λ (x : ProcDecl). ByArguments a l start payer other x p) same_declaration arguments_other))
  process-one (missing none) (there p other e declared_other arguments_other) =
      absurd (none-some other (sym none ∙ declared_other.first))
  process-one (there o number d declared arguments) (missing none_other) =
      absurd (none-some number (sym none_other ∙ declared.first))

  account-one : {o p : Outcome} → ByAccount a l start o → ByAccount a l start p → o ≡ p
  account-one (nobody none) (nobody none_other) = refl
  account-one (somebody o payer pays process) (somebody p other pays_other process_other) =
      let same : other ≡ payer = same_Some other payer (sym pays_other ∙ pays) in
      process-one process (subst (λ (n : ℕ). ByProcess a l start n p) same process_other)
  account-one (nobody none) (somebody p other pays_other process_other) =
      absurd (none-some other (sym none ∙ pays_other))
  account-one (somebody o payer pays process) (nobody none_other) = absurd (none-some payer (sym none_other ∙ pays))

  -- a line comes to one outcome
  pub resolves-one : {o p : Outcome} → Resolves a l start o → Resolves a l start p → o ≡ p
  resolves-one one other = account-one (by-account one) (by-account other)

  pub starts-one : {r q : Resolved} → Resolves a l start (Ok r) → Resolves a l start (Ok q) → r ≡ q
  starts-one one other = let same = resolves-one one other in cc

  pub cause-one : {c d : Refusal} → Resolves a l start (Err c) → Resolves a l start (Err d) → c ≡ d
  cause-one one other = let same = resolves-one one other in cc

  -- it does not start and be refused
  pub starts-or_refused : {r : Resolved} {c : Refusal} → Resolves a l start (Ok r) → Resolves a l start (Err c) → ⊥
  starts-or_refused one other = let same = resolves-one one other in cc

-- ---- batches

-- the lines of a batch come to the same starts
pub all_start-one : {a : Acceptance} {l : LedgerState} {starts : List Start} {rs qs : List Resolved}
    → AllStart a l starts rs → AllStart a l starts qs → rs ≡ qs
all_start-one (batch.none l) (batch.none k) = refl
all_start-one {a} (batch.line l start r starts rs resolves rest)
    (batch.line k first q others qs resolves_other rest_other) =
    let same : q ≡ r = starts-one resolves_other resolves in
    let further : rs ≡ qs =
    all_start-one rest (subst (λ (x : Resolved). AllStart a (after_start a l x) starts qs) same rest_other)
    in
    (λ i. sym same i ∷ further i)

-- it is refused for one line and one cause
pub refuses-one : {a : Acceptance} {l : LedgerState} {starts : List Start} {line other : ℕ} {cause why : Refusal}
    → OneRefuses a l starts line cause → OneRefuses a l starts other why → (line ≡ other) × (cause ≡ why)
refuses-one (batch.this l start starts cause refused) (batch.this k first others why refused_other) =
    (refl, cause-one refused refused_other)
refuses-one {a} {line = line} (batch.later l start r starts line_here cause resolves rest)
    (batch.later k first q others line_other why resolves_other rest_other) =
    let same : q ≡ r = starts-one resolves_other resolves in
    refuses-one rest (subst (λ (x : Resolved). OneRefuses a (after_start a l x) starts line_other why) same rest_other)
refuses-one (batch.this l start starts cause refused)
    (batch.later k first q others line_other why resolves_other rest_other) =
    absurd (starts-or_refused resolves_other refused)
refuses-one (batch.later l start r starts line_here cause resolves rest) (batch.this k first others why refused_other) =
    absurd (starts-or_refused resolves refused_other)

-- and it does not start and be refused
pub starts-or_refuses : {a : Acceptance} {l : LedgerState} {starts : List Start} {rs : List Resolved} {line : ℕ}
    {cause : Refusal} → AllStart a l starts rs → OneRefuses a l starts line cause → ⊥
starts-or_refuses (batch.none l) refuses = elim refuses [ ]
starts-or_refuses (batch.line l start r starts rs resolves rest) (batch.this k first others why refused) =
    starts-or_refused resolves refused
starts-or_refuses {a} (batch.line l start r starts rs resolves rest)
    (batch.later k first q others line why resolves_other rest_other) =
    let same : q ≡ r = starts-one resolves_other resolves in
    starts-or_refuses rest (subst (λ (x : Resolved). OneRefuses a (after_start a l x) starts line why) same rest_other)

-- ---- ends

-- the end that a state gives is one
pub ends-one : (a : Acceptance) (s : State) (count limit : ℕ) (e f : End) → EndsAs a s count limit e
    → EndsAs a s count limit f → e ≡ f
ends-one a s count limit end.Committed end.Committed one other = refl
ends-one a s count limit end.Blocked end.Blocked one other = refl
ends-one a s count limit (end.Steps n) (end.Steps m) one other = ap end.Steps (one.0 ∙ sym other.0)
ends-one a s count limit end.Committed end.Blocked one other = absurd (one.1 other.1)
ends-one a s count limit end.Blocked end.Committed one other = absurd (other.1 one.1)
ends-one a s count limit end.Committed (end.Steps m) one other = absurd (other.2 one.0)
ends-one a s count limit (end.Steps n) end.Committed one other = absurd (one.2 other.0)
ends-one a s count limit end.Blocked (end.Steps m) one other = absurd (other.2 one.0)
ends-one a s count limit (end.Steps n) end.Blocked one other = absurd (one.2 other.0)
ends-one a s count limit _ end.Deposited one other = absurd other
ends-one a s count limit _ (end.Aborted pid f) one other = absurd other
ends-one a s count limit _ (end.Refused line cause) one other = absurd other
ends-one a s count limit end.Deposited _ one other = absurd one
ends-one a s count limit (end.Aborted pid f) _ one other = absurd one
ends-one a s count limit (end.Refused line cause) _ one other = absurd one

-- ---- passages

-- the lists of entries and their parts
abbrev ending : Option Entry → List End
ending (Some entry) = entry.end ∷ []
ending None = []

abbrev firing : Option Entry → List (List ℕ)
firing (Some entry) = entry.firings ∷ []
firing None = []

-- the lines of one batch come to the same starts in one ledger
begun-one : {a : Acceptance} {l k : LedgerState} {batch other : Batch} {starts others : List Resolved}
    → AllStart a l batch.starts starts → AllStart a k other.starts others → l ≡ k → batch ≡ other → starts ≡ others
begun-one {a} {l} {k} {batch} {other} {starts} {others} one two ledger batches =
    all_start-one one
    (subst (λ (b : Batch). AllStart a l b.starts others) (sym batches)
    (subst (λ (m : LedgerState). AllStart a m other.starts others) (sym ledger) two))

-- and the same firings lead to one state
reached-one : (a : Acceptance) {l k : LedgerState} {starts others : List Resolved} {pids more : List ℕ} {s t : State}
    → run a (after_starts a l starts).state pids ≡ Some s → run a (after_starts a k others).state more ≡ Some t
    → l ≡ k → starts ≡ others → pids ≡ more → s ≡ t
reached-one a {s = s} {t = t} one two ledger starts pids =
    same_Some s t (sym one ∙ (λ i. run a (after_starts a (ledger i) (starts i)).state (pids i)) ∙ two)

-- What becomes of an item of a ledger, with this entry, is one thing.
record Alike (p q : Passage) : Type 0 where
  item : p.item ≡ q.item
  entry : p.entry ≡ q.entry
  before : p.before ≡ q.before

-- the item and the end
abbrev told_by : Passage → ScriptItem × List End
told_by p = (p.item, ending p.entry)

told : {p q : Passage} → Alike p q → told_by p ≡ told_by q
told alike = (λ i. (alike.item i, ending (alike.entry i)))

passage-same : {a : Acceptance} {most : ℕ} {p q : Passage} → IsPassage a most p → IsPassage a most q → Alike p q → p ≡ q
passage-same {a} (passage.deposit l line units name fits)
    (passage.deposit k line_other units_other name_other fits_other) alike =
    let lines : line ≡ line_other = cc (alike.item) in
    let amounts : units ≡ units_other = cc (alike.item) in
    let names : name ≡ name_other = cc (alike.item) in
    (λ i. still (item.Deposit (lines i) (names i) (amounts i)) (bare (lines i) end.Deposited) (alike.before i)
    (deposited a.annotations.unit (alike.before i) (names i) (amounts i)))
passage-same (passage.deposit l line units name fits) _ alike = absurd (let same = told alike in cc)
passage-same (passage.no_deposit l line units name never)
    (passage.no_deposit k line_other units_other name_other never_other) alike =
    let lines : line ≡ line_other = cc (alike.item) in
    let amounts : units ≡ units_other = cc (alike.item) in
    let names : name ≡ name_other = cc (alike.item) in
    (λ i. still (item.Deposit (lines i) (names i) (amounts i))
    (bare (lines i) (end.Refused (lines i) refusal.TooMuchGas))
    (alike.before i) (alike.before i))
passage-same (passage.no_deposit l line units name never) _ alike = absurd (let same = told alike in cc)
passage-same (passage.refused l batch line cause refuses)
    (passage.refused k other line_other cause_other refuses_other) alike =
    let batches : batch ≡ other = cc (alike.item) in
    (λ i. still (item.Batch (batches i)) (alike.entry i) (alike.before i) (alike.before i))
passage-same {a} {most} (passage.refused l batch line cause refuses)
    (passage.undone k other starts pids last answer begun reaches undoes) alike =
    let is : answer ≡ end.Refused line cause = cc (ap ending alike.entry) in
    absurd (subst (λ (e : End). IsAllowed a last (length pids) most e) is reaches.allowed)
passage-same (passage.refused l batch line cause refuses) _ alike = absurd (let same = told alike in cc)
passage-same (passage.shown l line) (passage.shown k line_other) alike =
    let lines : line ≡ line_other = cc (alike.item) in
    (λ i. still (item.Show (lines i)) None (alike.before i) (alike.before i))
passage-same (passage.shown l line) _ alike = absurd (cc (alike.item))
passage-same {a} (passage.stays l batch starts pids last begun reaches)
    (passage.stays k other others more last_other begun_other reaches_other) alike =
    let batches : batch ≡ other = cc (alike.item) in
    let fired : pids ≡ more = cc (ap firing alike.entry) in
    let same : starts ≡ others = begun-one begun begun_other alike.before batches in
    let state : last ≡ last_other = reached-one a reaches.reached reaches_other.reached alike.before same fired in
    (λ i. runs (batches i) (fired i) end.Committed (alike.before i) (after_starts a (alike.before i) (same i)) (state i)
    (record (after_starts a (alike.before i) (same i)) { state = cleared (state i) }))
passage-same (passage.stays l batch starts pids last begun reaches)
    (passage.undone k other others more last_other answer begun_other reaches_other undoes) alike =
    let is : answer ≡ end.Committed = cc (ap ending alike.entry) in absurd (subst Undoes is undoes)
passage-same (passage.stays l batch starts pids last begun reaches) _ alike =
    absurd (let same = told alike in cc)
passage-same {a} (passage.undone l batch starts pids last answer begun reaches undoes)
    (passage.undone k other others more last_other answer_other begun_other reaches_other undoes_other) alike =
    let batches : batch ≡ other = cc (alike.item) in
    let fired : pids ≡ more = cc (ap firing alike.entry) in
    let answers : answer ≡ answer_other = cc (ap ending alike.entry) in
    let same : starts ≡ others = begun-one begun begun_other alike.before batches in
    let state : last ≡ last_other = reached-one a reaches.reached reaches_other.reached alike.before same fired in
    (λ i. runs (batches i) (fired i) (answers i) (alike.before i) (after_starts a (alike.before i) (same i)) (state i)
    (alike.before i))
passage-same {a} {most} (passage.undone l batch starts pids last answer begun reaches undoes)
    (passage.refused k other line cause refuses) alike =
    let is : answer ≡ end.Refused line cause = cc (ap ending alike.entry) in
    absurd (subst (λ (e : End). IsAllowed a last (length pids) most e) is reaches.allowed)
passage-same (passage.undone l batch starts pids last answer begun reaches undoes)
    (passage.stays k other others more last_other begun_other reaches_other) alike =
    let is : answer ≡ end.Committed = cc (ap ending alike.entry) in absurd (subst Undoes is undoes)
passage-same (passage.undone l batch starts pids last answer begun reaches undoes) _ alike = absurd (cc (alike.item))

-- what becomes of an item is one thing
pub passage-one : {a : Acceptance} {most : ℕ} {p q : Passage} → IsPassage a most p → IsPassage a most q
    → p.item ≡ q.item → p.entry ≡ q.entry → p.before ≡ q.before → p ≡ q
passage-one one two item entry before = passage-same one two (record { item = item; entry = entry; before = before })

-- ---- journals

-- all items but a `show` have an entry
abbrev pub has_entry : ScriptItem → Bool
has_entry (item.Show line) = false
has_entry _ = true

pub entry-told : {a : Acceptance} {most : ℕ} {p : Passage} → IsPassage a most p → is_some p.entry ≡ has_entry p.item
entry-told (passage.deposit l line units name fits) = refl
entry-told (passage.no_deposit l line units name never) = refl
entry-told (passage.refused l batch line cause refuses) = refl
entry-told (passage.stays l batch starts pids last begun reaches) = refl
entry-told (passage.undone l batch starts pids last answer begun reaches undoes) = refl
entry-told (passage.shown l line) = refl

-- where both are there or neither is, lists that begin with them are equal only where they are
pub first-entry : (e f : Option Entry) (es fs : List Entry) → is_some e ≡ is_some f
    → option_to_list e ++ es ≡ option_to_list f ++ fs → (e ≡ f) × (es ≡ fs)
first-entry (Some e) (Some f) es fs both same = (cc, cc)
first-entry None None es fs both same = (refl, same)
first-entry (Some e) None es fs both same = absurd cc
first-entry None (Some f) es fs both same = absurd cc

leads-same : {a : Acceptance} {limit made k : ℕ} {l h last m : LedgerState} {ps qs : List Passage}
    → Leads a limit made l ps last → Leads a limit k h qs m → made ≡ k → l ≡ h
    → map (λ p. p.item) ps ≡ map (λ p. p.item) qs → entries_of ps ≡ entries_of qs → (ps ≡ qs) × (last ≡ m)
leads-same (legal.done made l) (legal.done k h) count ledger items entries = (refl, ledger)
leads-same (legal.done made l) (legal.passes k q qs m is rest) count ledger items entries = absurd cc
leads-same (legal.passes made p ps last is rest) (legal.done k h) count ledger items entries = absurd cc
leads-same {a} {limit} (legal.passes made p ps last is rest) (legal.passes k q qs m is_other rest_other) count ledger
    items entries =
    let item : p.item ≡ q.item = cc items in
    let others : map (λ (x : Passage). x.item) ps ≡ map (λ (x : Passage). x.item) qs = cc items in
    let both : is_some p.entry ≡ is_some q.entry = entry-told is ∙ ap has_entry item ∙ sym (entry-told is_other) in
    let (entry, more) = first-entry p.entry q.entry (entries_of ps) (entries_of qs) both entries in
    let same : p ≡ q =
    passage-one is (subst (λ (n : ℕ). IsPassage a (batch_limit limit n) q) (sym count) is_other) item entry ledger
    in
    let (further, end_ledger) =
    leads-same rest rest_other (λ i. count i + length (firings_in (entry i))) (ap (λ (x : Passage). x.after) same)
    others more
    in
    ((λ i. same i ∷ further i), end_ledger)

-- the passages of a journal from a ledger, and the ledger to which they lead, are determined
pub tells-one : {a : Acceptance} {first : LedgerState} {items : List ScriptItem} {journal : Journal}
    {ps qs : List Passage} {last m : LedgerState} → TellsFrom a first items journal ps last
    → TellsFrom a first items journal qs m → (ps ≡ qs) × (last ≡ m)
tells-one one two =
    leads-same one.leads two.leads refl refl (one.items_are ∙ sym two.items_are) (one.entries_are ∙ sym two.entries_are)

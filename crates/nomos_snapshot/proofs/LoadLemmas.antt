-- What is answered of a text, question by question.
use Rattle.std.proofs.Common.{◌≡◌, ◌≢◌, ◌<◌, ◌≤◌, ◌^◌, ◌↔◌, ℕ, Bool, true, false, IsTrue, List, All, Some, None, Result, Ok, Err, IfOk, IfErr, MatchResult, length, slice_get, get_or, inl, inr, ◌+◌, refl, ap, sym, subst, ◌∙◌, arith}
use Rattle.std.proofs.lemmas.Bool.{cases_lt, false≢true}
use Rattle.std.proofs.lemmas.Option.{get_or_from_slice_get, slice_get_within}
use Rattle.nomos_contents.specs.Data.{IsOrdered, state_of}
use Rattle.nomos_contents.specs.declared.data.StateData.{StateData}
use Rattle.nomos_ir.specs.declared.ids.TypeId.{TypeId}
use Rattle.nomos_ir.specs.declared.mode.Mode.{Mode}
use Rattle.nomos_ir.specs.declared.mode.Mode.TheVariants as mode
use Rattle.nomos_legal.specs.Ending.{HasTransaction}
use Rattle.nomos_legal.specs.Ledger.{AreNamed, Contracts, LedgerState}
use Rattle.nomos_legal.specs.StandsFor.{StandsFor}
use Rattle.nomos_machine.specs.Objects.{object_number}
use Rattle.nomos_machine.specs.Run.{IsNextReady}
use Rattle.nomos_machine.specs.State.{State, gas_of, type_of}
use Rattle.nomos_machine.specs.TypedState.{IsContractName, IsTyped}
use Rattle.nomos_types.specs.Acceptance.{Acceptance, IsAccepted}
use Rattle.nomos_types.specs.Modes.{HasMode}
use Rattle.nomos_types.specs.ModeTable.{AreModesOf}
use Rattle.nomos_types.proofs.ModeLaws.{mode-exists}
use Rattle.nomos_snapshot.specs.Loading.{Admits, IsSoundLedger, IsWorth, LoadAnswer, Loads, TellsLedger}
use Rattle.nomos_snapshot.specs.Loading as loading
use Rattle.nomos_snapshot.specs.Saving.{HasLowNumbers}
use Rattle.nomos_snapshot.specs.Snapshotted.{HasSnapshot}
use Rattle.nomos_snapshot.specs.Text.{snapshot_text}
use Rattle.nomos_snapshot.specs.ToldLines.{AreSorted, parts_ledger}
use Rattle.nomos_snapshot.specs.mirror.Loaded.{AreShared, AreSharedTo, AreWide, IsSoundState, MayStand, Refuses}
use Rattle.nomos_snapshot.specs.declared.error.LoadError.{LoadError}
use Rattle.nomos_snapshot.specs.declared.error.LoadError.TheVariants as error
use Rattle.nomos_snapshot.specs.declared.ledger_parts.LedgerParts.{LedgerParts}
use Rattle.nomos_snapshot.proofs.LoadingLaws.{loads-loaded, loads-one, stands-loads}
use Rattle.nomos_snapshot.proofs.OrderLaws.{reads-few, reads-orderly}
use Rattle.nomos_snapshot.proofs.WideLemmas.{wide-untyped}

-- ---- the parts that a text tells

pub parts-sorted : {a : Acceptance} {text : List ℕ} (parts : LedgerParts) → TellsLedger a text (parts_ledger parts)
    → AreSorted parts.contents
parts-sorted parts told =
    let orderly = reads-orderly told.reads in
    let few = reads-few told.reads in
    record {
      objects = orderly.objects;
      table = orderly.names;
      variables = orderly.variables;
      few = omega (arith, orderly.even, few, told.short);
    }

pub parts-named : {a : Acceptance} {text : List ℕ} (parts : LedgerParts) → TellsLedger a text (parts_ledger parts)
    → AreNamed parts.accounts parts.contracts parts.contents.balances
parts-named parts told =
    let orderly = reads-orderly told.reads in
    let few = reads-few told.reads in
    record {
      few = omega (arith, few, told.short);
      each_account = orderly.even;
      accounts_differ = orderly.accounts;
      contracts_differ = orderly.contracts;
    }

-- a list that no machine keeps stands in no typed state
pub wide-loads : {a : Acceptance} {text : List ℕ} {l : LedgerState} → IsAccepted a → TellsLedger a text l
    → AreWide l.state.objects → Loads a text (Err error.NotTyped)
wide-loads {l = l} accepted tells wide =
    loading.told l (Err error.NotTyped) tells
    (loading.not_typed (λ sound. wide-untyped accepted sound.typed wide))

-- ---- the state

pub sorted-ordered : {d : StateData} → AreSorted d → All (λ o. object_number o < d.next_object) d.objects
    → All (λ t. t.0 < d.next_name) d.types → IsOrdered d
sorted-ordered sorted below names = record {
  objects = sorted.objects;
  below = below;
  table = sorted.table;
  names = names;
  variables = sorted.variables;
  few = omega (arith, sorted.few);
}

pub typed-ordered : {a : Acceptance} {d : StateData} → AreSorted d → IsTyped a (state_of d) → IsOrdered d
typed-ordered sorted typed = sorted-ordered sorted typed.numbered.below typed.numbered.names

pub never : {P : Type 0} → ¬ P → IsTrue false ↔ P
never none = (λ so. absurd (false≢true so), λ is. absurd (none is))

-- what is asked first, and answered with no
pub asked-first : {P : Type 0} (answer : Bool) → (IsTrue answer ↔ P) → answer ≡ false → ¬ P
asked-first answer tells none p = false≢true (sym none ∙ tells.1 p)

pub typed-sound : {a : Acceptance} {s : State} (answer : Bool) → ¬ (HasTransaction s)
    → (IsTrue answer ↔ IsTyped a s) → IsTrue answer ↔ IsSoundState a s
typed-sound answer none tells = (
  λ is. record { typed = tells.0 is; no_transaction = none },
  λ sound. tells.1 sound.typed,
)

-- ---- names of contracts

pub shared-name : {a : Acceptance} {s : State} (modes : List Mode) (name : ℕ) (t : TypeId) (answer : Bool)
    → IsAccepted a
    → AreModesOf a.program modes → Some t ≡ type_of s.types name
    → (IsTrue answer ↔ (slice_get modes t.0 ≡ Some mode.S)) → IsTrue answer ↔ IsContractName a s name
shared-name {a} {s} modes name t answer accepted are found tells = (
  λ is.
      let there : slice_get modes t.0 ≡ Some mode.S = tells.0 is in
      let within : t.0 < length a.program.types =
      omega (arith, slice_get_within modes t.0 mode.S there, are.each) in
      let (m, has) = mode-exists a.program t accepted.is_program within in
      let own = are.own t m has in
      let same : m ≡ mode.S = cc in
      record { own = t; found = sym found; mode = subst (λ (n : Mode). HasMode a.program t n) same has },
  λ is.
      let its = is.found in
      let same : is.own ≡ t = cc in
      tells.1 (are.own t mode.S (subst (λ (u : TypeId). HasMode a.program u mode.S) same is.mode)),
)

pub no-shared_name : {a : Acceptance} {s : State} (name : ℕ) → None ≡ type_of s.types name
    → ¬ (IsContractName a s name)
no-shared_name name none is =
    let found = is.found in
    absurd cc

-- the contract at a place has another name
pub contract-not : {a : Acceptance} {s : State} (contracts : Contracts) (i : ℕ) (pair : List ℕ × ℕ)
    → Some pair ≡ slice_get contracts i → ¬ (IsContractName a s pair.1) → ¬ (AreShared a s contracts)
contract-not {a} {s} contracts i pair found none all =
    let there = sym found in
    none (subst (λ (e : List ℕ × ℕ). IsContractName a s e.1) (get_or_from_slice_get contracts i pair pair there)
    (all i pair (slice_get_within contracts i pair there)))

pub shared-none : {a : Acceptance} {s : State} (contracts : Contracts) → AreSharedTo a s contracts 0
shared-none contracts = record { each = λ k d below. absurd (omega (arith, below)) }

-- the contract at the next place has such a name too
pub shared-more : {a : Acceptance} {s : State} (contracts : Contracts) (i : ℕ) (pair : List ℕ × ℕ)
    → Some pair ≡ slice_get contracts i → IsContractName a s pair.1 → AreSharedTo a s contracts i
    → AreSharedTo a s contracts (i + 1)
shared-more {a} {s} contracts i pair found is so_far = record {
  each = λ k d below. elim (cases_lt k i) [
    | inl before ↦ so_far.each k d before
    | inr from ↦
        let same : i ≡ k = omega (arith, below, from) in
        subst (λ (n : ℕ). IsContractName a s (get_or contracts n d).1) same
        (subst (λ (e : List ℕ × ℕ). IsContractName a s e.1)
        (sym (get_or_from_slice_get contracts i pair d (sym found))) is)
  ];
}

pub shared-all : {a : Acceptance} {s : State} (contracts : Contracts) (i : ℕ) → length contracts ≤ i
    → AreSharedTo a s contracts i → IsTrue true ↔ AreShared a s contracts
shared-all contracts i past so_far = (
  λ so. λ k d within. so_far.each k d (omega (arith, past, within)),
  λ all. refl,
)

-- ---- what is left to ask

pub sound-ledger : {a : Acceptance} {s : State} {contracts : Contracts} (l : LedgerState) → l.state ≡ s
    → l.contracts ≡ contracts → IsSoundState a s → AreShared a s contracts → IsSoundLedger a l
sound-ledger {a} {s} {contracts} l state_is contracts_is sound shared = record {
  typed = subst (λ (t : State). IsTyped a t) (sym state_is) sound.typed;
  contracts =
      subst (λ (t : State). All (λ c. IsContractName a t c.1) l.contracts) (sym state_is)
      (subst (λ (cs : Contracts). All (λ c. IsContractName a s c.1) cs) (sym contracts_is) shared);
  no_transaction = λ left. sound.no_transaction (subst (λ (t : State). HasTransaction t) state_is left);
}

pub refuses-names : {a : Acceptance} {s : State} {contracts : Contracts} → ¬ (AreShared a s contracts)
    → Refuses a s contracts error.NotTyped
refuses-names {a} {s} {contracts} none = λ l state_is contracts_is.
    loading.not_typed (λ sound. none
    (subst (λ (cs : Contracts). All (λ c. IsContractName a s c.1) cs) contracts_is
    (subst (λ (t : State). All (λ c. IsContractName a t c.1) l.contracts) state_is sound.contracts)))

pub refuses-gas : {a : Acceptance} {s : State} {contracts : Contracts} (gas : ℕ) → IsSoundState a s
    → AreShared a s contracts → gas ≡ gas_of s → ((units : ℕ) → ¬ (IsWorth a gas units))
    → Refuses a s contracts (error.Gas gas)
refuses-gas {a} {s} gas sound shared is none = λ l state_is contracts_is.
    let same : gas_of l.state ≡ gas = ap (λ (t : State). gas_of t) state_is ∙ sym is in
    subst (λ (g : ℕ). Admits a l (Err (error.Gas g))) same
    (loading.no_units (sound-ledger l state_is contracts_is sound shared)
    (λ units. subst (λ (g : ℕ). ¬ (IsWorth a g units)) (sym same) (none units)))

pub refuses-ready : {a : Acceptance} {s : State} {contracts : Contracts} (units pid : ℕ) → IsSoundState a s
    → AreShared a s contracts → IsWorth a (gas_of s) units → IsNextReady a s 0 pid
    → Refuses a s contracts (error.NotQuiet pid)
refuses-ready {a} {s} units pid sound shared worth ready = λ l state_is contracts_is.
    loading.not_quiet units pid (sound-ledger l state_is contracts_is sound shared)
    (subst (λ (t : State). IsWorth a (gas_of t) units) (sym state_is) worth)
    (subst (λ (t : State). IsNextReady a t 0 pid) (sym state_is) ready)

-- ---- the ledger

pub opened-admits : {a : Acceptance} (parts : LedgerParts) (s : State) (units : ℕ) (l : LedgerState)
    → s ≡ state_of parts.contents
    → l ≡ record { accounts = parts.accounts; contracts = parts.contracts; deposits = units; state = s }
    → IsSoundState a s → MayStand a s parts.contracts units → Admits a (parts_ledger parts) (Ok l)
opened-admits {a} parts s units l same is sound may =
    let at : State → ℕ → LedgerState =
    λ t n. record { accounts = parts.accounts; contracts = parts.contracts; deposits = n; state = t } in
    let here : Admits a (at s 0) (Ok (at s units)) =
    loading.admitted units (sound-ledger (at s 0) refl refl sound may.shared) may.worth may.quiet in
    subst (λ (m : LedgerState). Admits a m (Ok l)) (ap (λ (t : State). at t 0) same)
    (subst (λ (m : LedgerState). Admits a (at s 0) (Ok m)) (sym is) here)

pub opened-refuses : {a : Acceptance} (parts : LedgerParts) (s : State) (why : LoadError)
    → s ≡ state_of parts.contents → Refuses a s parts.contracts why → Admits a (parts_ledger parts) (Err why)
opened-refuses parts s why same refuses = refuses (parts_ledger parts) (sym same) refl

pub unsound-admits : {a : Acceptance} (parts : LedgerParts) → ¬ (IsSoundState a (state_of parts.contents))
    → Admits a (parts_ledger parts) (Err error.NotTyped)
unsound-admits parts none =
    loading.not_typed (λ sound. none (record { typed = sound.typed; no_transaction = sound.no_transaction }))

-- what is answered of the ledger that a text tells is answered of the text
pub told-admitted : {a : Acceptance} {text : List ℕ} (parts : LedgerParts) (r : Result LedgerState LoadError)
    → TellsLedger a text (parts_ledger parts) → IfOk r (λ l. Admits a (parts_ledger parts) (Ok l))
    → IfOk r (λ l. Loads a text (Ok l))
told-admitted parts (Ok l) tells admits = loading.told (parts_ledger parts) (Ok l) tells admits
told-admitted parts (Err why) tells admits = tt

pub told-refused : {a : Acceptance} {text : List ℕ} (parts : LedgerParts) (r : Result LedgerState LoadError)
    → TellsLedger a text (parts_ledger parts)
    → IfErr r (λ why. why ≢ error.NoMemory → Admits a (parts_ledger parts) (Err why))
    → IfErr r (λ why. why ≢ error.NoMemory → Loads a text (Err why))
told-refused parts (Ok l) tells refuses = tt
told-refused parts (Err why) tells refuses = λ other. loading.told (parts_ledger parts) (Err why) tells (refuses other)

-- ---- one answer

pub answers-only : {a : Acceptance} (text : List ℕ) → IsAccepted a → (r : Result LedgerState LoadError)
    → IfOk r (λ l. Loads a text (Ok l)) → IfErr r (λ why. why ≢ error.NoMemory → Loads a text (Err why))
    → (answer : LoadAnswer) → Loads a text answer
    → MatchResult r (λ l. answer ≡ Ok l) (λ why. why ≢ error.NoMemory → answer ≡ Err why)
answers-only text accepted (Ok l) ok err answer loads = loads-one accepted loads ok
answers-only text accepted (Err why) ok err answer loads = λ other. loads-one accepted loads (err other)

-- what cannot be another error is want of memory
wants-memory : (why : LoadError) → ¬ (why ≢ error.NoMemory) → why ≡ error.NoMemory
wants-memory error.TooLong none = absurd (none (λ same. absurd cc))
wants-memory (error.BadLine at) none = absurd (none (λ same. absurd cc))
wants-memory error.NotTyped none = absurd (none (λ same. absurd cc))
wants-memory (error.Gas gas) none = absurd (none (λ same. absurd cc))
wants-memory (error.NotQuiet pid) none = absurd (none (λ same. absurd cc))
wants-memory error.NoMemory none = refl

pub answers-again : {a : Acceptance} (text : List ℕ) → IsAccepted a → (r : Result LedgerState LoadError)
    → IfOk r (λ l. Loads a text (Ok l)) → IfErr r (λ why. why ≢ error.NoMemory → Loads a text (Err why))
    → (l : LedgerState) → Loads a text (Ok l) → MatchResult r (λ k. k ≡ l) (λ why. why ≡ error.NoMemory)
answers-again text accepted (Ok k) ok err l loads =
    let same = loads-one accepted ok loads in
    cc
answers-again text accepted (Err why) ok err l loads =
    wants-memory why (λ other.
    let same = loads-one accepted loads (err other) in
    absurd cc)

pub answers-whole : {a : Acceptance} (text : List ℕ) → IsAccepted a → (r : Result LedgerState LoadError)
    → IfOk r (λ l. Loads a text (Ok l)) → IfErr r (λ why. why ≢ error.NoMemory → Loads a text (Err why))
    → (l : LedgerState) → HasSnapshot a l → text ≡ snapshot_text a l
    → MatchResult r (λ k. k ≡ l) (λ why. why ≡ error.NoMemory)
answers-whole {a} text accepted r ok err l has is =
    answers-again text accepted r ok err l
    (subst (λ (t : List ℕ). Loads a t (Ok l)) (sym is) (stands-loads has.stands has.named has.lines has.short))

-- ---- what a ledger that is loaded is

pub loaded-text : {a : Acceptance} (text : List ℕ) → IsAccepted a → (r : Result LedgerState LoadError)
    → IfOk r (λ l. Loads a text (Ok l)) → IfOk r (λ l. text ≡ snapshot_text a l)
loaded-text text accepted (Ok l) ok = (loads-loaded accepted ok).text_is
loaded-text text accepted (Err why) ok = tt

pub loaded-stands : {a : Acceptance} (text : List ℕ) → IsAccepted a → (r : Result LedgerState LoadError)
    → IfOk r (λ l. Loads a text (Ok l)) → IfOk r (StandsFor a)
loaded-stands text accepted (Ok l) ok = (loads-loaded accepted ok).stands
loaded-stands text accepted (Err why) ok = tt

-- the ledger keeps its accounts, and they are fewer than the text has bytes
admits-accounts : {a : Acceptance} {told : LedgerState} {answer : LoadAnswer} → Admits a told answer
    → (l : LedgerState) → answer ≡ Ok l → told.accounts ≡ l.accounts
admits-accounts (loading.not_typed unsound) l is = cc
admits-accounts (loading.no_units sound none) l is = cc
admits-accounts (loading.not_quiet units pid sound worth ready) l is = cc
admits-accounts {told = told} (loading.admitted units sound worth quiet) l is =
    let same : record told { deposits = units } ≡ l = cc in
    ap (λ (m : LedgerState). m.accounts) same

loads-few : {a : Acceptance} {text : List ℕ} {answer : LoadAnswer} → Loads a text answer → (l : LedgerState)
    → answer ≡ Ok l → length l.accounts < 2 ^ 31
loads-few (loading.too_long long) l is = absurd cc
loads-few (loading.bad_line k short reads) l is = absurd cc
loads-few (loading.told told answer tells admits) l is =
    let same = ap (λ (names : List (List ℕ)). length names) (admits-accounts admits l is) in
    omega (arith, same, reads-few tells.reads, tells.short)

pub loaded-numbers : {a : Acceptance} (text : List ℕ) → IsAccepted a → (r : Result LedgerState LoadError)
    → IfOk r (λ l. Loads a text (Ok l)) → IfOk r (λ l. HasLowNumbers l.state × (length l.accounts < 2 ^ 31))
loaded-numbers text accepted (Ok l) ok = ((loads-loaded accepted ok).low, loads-few ok l refl)
loaded-numbers text accepted (Err why) ok = tt

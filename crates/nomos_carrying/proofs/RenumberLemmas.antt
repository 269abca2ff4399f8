-- The ledger of a text, renumbered: that it is of that text's ledger, that it stands, and what is due of it.
use Rattle.std.proofs.Common.{◌≡◌, ◌≢◌, ◌∙◌, ◌/◌, ◌<◌, ◌≤◌, ℕ, List, map, Option, Some, None, Result, Ok, Err, IfErr, IfOk, refl, ap, sym, subst, arith}
use Rattle.std.specs.Prelude.{IfSome}
use Rattle.std.proofs.Math.Nat.{mul-div_cancel}
use Rattle.std.proofs.lemmas.List.{length-map}
use Rattle.std.proofs.lemmas.List.Elements.{All-map}
use Rattle.std.proofs.lemmas.Map.Views.{length-le_from_below}
use Rattle.nomos_answers.specs.Finding.{HasNoLedger, IsBare}
use Rattle.nomos_answers.specs.Outside.{Input}
use Rattle.nomos_answers.specs.Resumes as resumes
use Rattle.nomos_answers.specs.SnapshotLines.{unloaded_line, unsaved_line}
use Rattle.nomos_answers.specs.declared.due.Due.{Due}
use Rattle.nomos_answers.specs.declared.resumes.NoLedger.TheVariants as no_ledger
use Rattle.nomos_ir.specs.declared.ids.TypeId.{TypeId}
use Rattle.nomos_legal.specs.Ledger.{AreNamed, LedgerState}
use Rattle.nomos_legal.specs.StandsFor.{StandsFor}
use Rattle.nomos_machine.specs.Objects.{object_number}
use Rattle.nomos_machine.specs.Run.{NoneReady}
use Rattle.nomos_machine.specs.State.{State, gas_of}
use Rattle.nomos_machine.specs.TypedState.{Numbered}
use Rattle.nomos_ledger.proofs.ReadyLaws.{none_ready-quiet}
use Rattle.nomos_types.specs.Acceptance.{Acceptance, IsAccepted}
use Rattle.nomos_snapshot.specs.Loading.{Admits, IsSoundLedger, IsWorth, Loads, TellsLedger}
use Rattle.nomos_snapshot.specs.Loading as loading
use Rattle.nomos_snapshot.specs.Saving.{HasLowNumbers, Saves}
use Rattle.nomos_snapshot.specs.Saving as saving
use Rattle.nomos_snapshot.specs.Text.{snapshot_text}
use Rattle.nomos_snapshot.specs.ToldLines.{AreSorted, parts_ledger}
use Rattle.nomos_snapshot.specs.declared.error.LoadError.{LoadError}
use Rattle.nomos_snapshot.specs.declared.error.SaveError.{SaveError}
use Rattle.nomos_snapshot.specs.declared.error.SaveError.TheVariants as save_error
use Rattle.nomos_snapshot.specs.declared.error.LoadError.TheVariants as error
use Rattle.nomos_snapshot.specs.declared.ledger_parts.LedgerParts.{LedgerParts}
use Rattle.nomos_snapshot.proofs.LoadingLaws.{loads-loaded}
use Rattle.nomos_snapshot.proofs.OneReadingLaws.{text-one}
use Rattle.nomos_snapshot.proofs.OrderLaws.{reads-few, reads-orderly}
use Rattle.nomos_words.specs.Options.{usual_limit}
use Rattle.nomos_carrying.specs.Renumbered.{IsRenumbered, ledger_by}
use Rattle.nomos_carrying.specs.Renumbered as renumbered
use Rattle.nomos_carrying.specs.mirror.Dense.{AreFew}
use Rattle.nomos_carrying.specs.mirror.Renumbering.{HasParts, HasRenumbered, IsDueOf, KeepsRenumbered, NotRenumbered, TellsNextOf, keeps, keeps_none, not_admitted, not_loaded}
use Rattle.nomos_carrying.proofs.DenseLemmas.{purses-by}

-- ---- what a text tells, and what it is loaded as

-- The second ledger is the first with the deposits that its gas is worth, and it stands for the program but for what is
-- ready.
record IsAdmittedAs (a : Acceptance) (told l : LedgerState) : Type 0 where
  is : l ≡ record told { deposits = l.deposits }
  sound : IsSoundLedger a told
  worth : IsWorth a (gas_of told.state) l.deposits
  quiet : NoneReady a told.state 0

admits-as : {a : Acceptance} {told : LedgerState} {answer : Result LedgerState LoadError} → Admits a told answer
    → (l : LedgerState) → answer ≡ Ok l → IsAdmittedAs a told l
admits-as (loading.not_typed unsound) l is = cc
admits-as (loading.no_units sound none) l is = cc
admits-as (loading.not_quiet units pid sound worth ready) l is = cc
admits-as {a} {told} (loading.admitted units sound worth quiet) l is =
    let same : record told { deposits = units } ≡ l = cc in
    subst (IsAdmittedAs a told) same (record { is = refl; sound = sound; worth = worth; quiet = quiet })

-- what a text is loaded as is what it tells, with its deposits
loads-as : {a : Acceptance} {text : List ℕ} {told : LedgerState} {answer : Result LedgerState LoadError} → IsAccepted a
    → TellsLedger a text told → Loads a text answer → (l : LedgerState) → answer ≡ Ok l → IsAdmittedAs a told l
loads-as accepted tells (loading.too_long long) l is = cc
loads-as accepted tells (loading.bad_line k short reads) l is = cc
loads-as {a} {text} {told} accepted tells (loading.told k answer tells2 admits) l is =
    let same : k ≡ told = text-one accepted.is_program.names accepted.is_program.spaces tells2.reads tells.reads in
    subst (λ (n : LedgerState). IsAdmittedAs a n l) same (admits-as admits l is)

-- its parts stand in order
pub told-sorted : {a : Acceptance} {text : List ℕ} (parts : LedgerParts) → TellsLedger a text (parts_ledger parts)
    → AreSorted parts.contents
told-sorted parts told =
    let orderly = reads-orderly told.reads in
    let few = reads-few told.reads in
    record {
      objects = orderly.objects;
      table = orderly.names;
      variables = orderly.variables;
      few = omega (arith, orderly.even, few, told.short);
    }

-- and no two of its accounts or contracts have one name
pub told-named : {a : Acceptance} {text : List ℕ} (parts : LedgerParts) → TellsLedger a text (parts_ledger parts)
    → AreNamed parts.accounts parts.contracts parts.contents.balances
told-named parts told =
    let orderly = reads-orderly told.reads in
    let few = reads-few told.reads in
    record {
      few = omega (arith, few, told.short);
      each_account = orderly.even;
      accounts_differ = orderly.accounts;
      contracts_differ = orderly.contracts;
    }

-- there are no more objects, and no more names, than the next numbers allow
pub told-few : {a : Acceptance} {text : List ℕ} (parts : LedgerParts) → IsAccepted a → HasParts a text parts
    → AreFew parts.contents
told-few {a} {text} parts accepted has =
    let is = (loads-as accepted has.tells has.loads has.ledger refl).is in
    let loaded = loads-loaded accepted has.loads in
    let s : State = (parts_ledger parts).state in
    let same : has.ledger.state ≡ s = ap (λ (l : LedgerState). l.state) is in
    let numbered : Numbered s = subst Numbered same loaded.stands.settled.typed.numbered in
    let low : HasLowNumbers s = subst HasLowNumbers same loaded.low in
    let sorted = told-sorted parts has.tells in
    let objects = length-le_from_below s.next_object (map object_number s.objects) sorted.objects
    (All-map (λ n. n < s.next_object) object_number s.objects numbered.below) in
    let names = length-le_from_below s.next_name (map (λ t. t.0) s.types) sorted.table
    (All-map (λ n. n < s.next_name) (λ (t : ℕ × TypeId). t.0) s.types numbered.names) in
    record {
      objects = omega (arith, objects, low.objects, length-map s.objects object_number);
      names = omega (arith, names, low.names, length-map s.types (λ (t : ℕ × TypeId). t.0));
    }

-- ---- the renumbered ledger

-- a ledger has the same gas behind a renumbering
renumbered-gas : {l m : LedgerState} → IsRenumbered l m → gas_of m.state ≡ gas_of l.state
renumbered-gas {l} {m} r =
    let same : gas_of m.state ≡ gas_of (ledger_by r.objects r.names l).state =
    ap (λ (k : LedgerState). gas_of k.state) r.is in
    omega (arith, same, purses-by r.objects r.names l.state.objects)

-- the deposits are no part of what is numbered
renumbered-with : {told made : LedgerState} → IsRenumbered told made → (units : ℕ)
    → IsRenumbered (record told { deposits = units }) (record made { deposits = units })
renumbered-with r units = record {
  objects = r.objects;
  names = r.names;
  objects_dense = r.objects_dense;
  names_dense = r.names_dense;
  is = ap (λ (k : LedgerState). record k { deposits = units }) r.is;
}

-- a gas is worth one count of units
worth-one : {a : Acceptance} {gas m n : ℕ} → 1 ≤ a.annotations.unit → IsWorth a gas m → IsWorth a gas n → m ≡ n
worth-one {a} {gas} {m} {n} some one two =
    let unit : ℕ = a.annotations.unit in
    let over : 0 < unit = omega arith in
    sym (mul-div_cancel m over) ∙ ap (λ (k : ℕ). k / unit) (sym one.is ∙ two.is) ∙ mul-div_cancel n over

-- what is admitted of parts stands for the program
admitted-stands : {a : Acceptance} {l : LedgerState} (parts : LedgerParts) → IsAccepted a
    → IsAdmittedAs a (parts_ledger parts) l → StandsFor a l
admitted-stands {a} {l} parts accepted entered =
    subst (StandsFor a) (sym entered.is) (record {
      settled = record {
        typed = entered.sound.typed;
        outside = refl;
        results = refl;
        few = entered.worth.few;
        gas = entered.worth.is;
        contracts = entered.sound.contracts;
      };
      quiet = none_ready-quiet accepted entered.sound.typed entered.quiet;
      no_transaction = entered.sound.no_transaction;
    })

-- ---- what is found

-- what is admitted of renumbered parts is the text's ledger, renumbered
admitted-renumbered : {a : Acceptance} {text : List ℕ} (parts made : LedgerParts) (m : LedgerState) → IsAccepted a
    → HasParts a text parts → IsRenumbered (parts_ledger parts) (parts_ledger made)
    → Admits a (parts_ledger made) (Ok m) → HasRenumbered a text m
admitted-renumbered {a} {text} parts made m accepted has r admits =
    let old = loads-as accepted has.tells has.loads has.ledger refl in
    let new = admits-as admits m refl in
    let gas : gas_of (parts_ledger made).state ≡ gas_of (parts_ledger parts).state = renumbered-gas r in
    let worth : IsWorth a (gas_of (parts_ledger parts).state) m.deposits =
    subst (λ (g : ℕ). IsWorth a g m.deposits) gas new.worth in
    let units : has.ledger.deposits ≡ m.deposits = worth-one accepted.some_unit old.worth worth in
    let was : record (parts_ledger parts) { deposits = m.deposits } ≡ has.ledger =
    ap (λ (n : ℕ). record (parts_ledger parts) { deposits = n }) (sym units) ∙ sym old.is in
    record {
      ledger = has.ledger;
      loads = has.loads;
      is =
          subst (λ (k : LedgerState). IsRenumbered k m) was
          (subst (IsRenumbered (record (parts_ledger parts) { deposits = m.deposits })) (sym new.is)
          (renumbered-with r m.deposits));
      stands = admitted-stands made accepted new;
    }

-- why a ledger is refused has nothing to do with its deposits
refuses-with : {a : Acceptance} {told : LedgerState} {answer : Result LedgerState LoadError} → Admits a told answer
    → (why : LoadError) → answer ≡ Err why → (units : ℕ) → Admits a (record told { deposits = units }) (Err why)
refuses-with {a} {told} (loading.not_typed unsound) why is units =
    let same : error.NotTyped ≡ why = cc in
    subst (λ (w : LoadError). Admits a (record told { deposits = units }) (Err w)) same
    (loading.not_typed (λ sound. unsound (sound-with sound)))
  where
    sound-with : IsSoundLedger a (record told { deposits = units }) → IsSoundLedger a told
    sound-with sound =
        record { typed = sound.typed; contracts = sound.contracts; no_transaction = sound.no_transaction }
refuses-with {a} {told} (loading.no_units sound none) why is units =
    let same : error.Gas (gas_of told.state) ≡ why = cc in
    subst (λ (w : LoadError). Admits a (record told { deposits = units }) (Err w)) same
    (loading.no_units
    (record { typed = sound.typed; contracts = sound.contracts; no_transaction = sound.no_transaction }) none)
refuses-with {a} {told} (loading.not_quiet n pid sound worth ready) why is units =
    let same : error.NotQuiet pid ≡ why = cc in
    subst (λ (w : LoadError). Admits a (record told { deposits = units }) (Err w)) same
    (loading.not_quiet n pid
    (record { typed = sound.typed; contracts = sound.contracts; no_transaction = sound.no_transaction }) worth ready)
refuses-with (loading.admitted n sound worth quiet) why is units = absurd cc

refused-renumbered : {a : Acceptance} {text : List ℕ} (parts made : LedgerParts) (why : LoadError) → IsAccepted a
    → HasParts a text parts → IsRenumbered (parts_ledger parts) (parts_ledger made)
    → Admits a (parts_ledger made) (Err why) → NotRenumbered a text why
refused-renumbered {a} {text} parts made why accepted has r admits =
    let old = loads-as accepted has.tells has.loads has.ledger refl in
    not_admitted has.ledger (record (parts_ledger made) { deposits = has.ledger.deposits }) has.loads
    (subst (λ (k : LedgerState). IsRenumbered k (record (parts_ledger made) { deposits = has.ledger.deposits }))
    (sym old.is) (renumbered-with r has.ledger.deposits))
    (refuses-with admits why refl has.ledger.deposits)

-- ---- answers of calls

-- the parts of a text that is loaded
pub parts-ok : {a : Acceptance} {text : List ℕ} (l : LedgerState) (r : Result LedgerParts LoadError)
    → Loads a text (Ok l) → IfOk r (λ parts. TellsLedger a text (parts_ledger parts)) → IfOk r (HasParts a text)
parts-ok l (Ok parts) loads tells = record { ledger = l; loads = loads; tells = tells }
parts-ok l (Err why) loads tells = tt

pub parts-err : (a : Acceptance) (text : List ℕ) (r : Result LedgerParts LoadError)
    → IfErr r (λ why. why ≢ error.NoMemory → Loads a text (Err why))
    → IfErr r (λ why. why ≢ error.NoMemory → NotRenumbered a text why)
parts-err a text (Ok parts) refuses = tt
parts-err a text (Err why) refuses = λ other. not_loaded (refuses other)

pub admitted-ok : {a : Acceptance} {text : List ℕ} (parts made : LedgerParts) (r : Result LedgerState LoadError)
    → IsAccepted a → HasParts a text parts → IsRenumbered (parts_ledger parts) (parts_ledger made)
    → IfOk r (λ l. Admits a (parts_ledger made) (Ok l)) → IfOk r (HasRenumbered a text)
admitted-ok parts made (Ok m) accepted has r admits = admitted-renumbered parts made m accepted has r admits
admitted-ok parts made (Err why) accepted has r admits = tt

pub admitted-err : {a : Acceptance} {text : List ℕ} (parts made : LedgerParts) (r : Result LedgerState LoadError)
    → IsAccepted a → HasParts a text parts → IsRenumbered (parts_ledger parts) (parts_ledger made)
    → IfErr r (λ why. why ≢ error.NoMemory → Admits a (parts_ledger made) (Err why))
    → IfErr r (λ why. why ≢ error.NoMemory → NotRenumbered a text why)
admitted-err parts made (Ok m) accepted has r refuses = tt
admitted-err parts made (Err why) accepted has r refuses =
    λ other. refused-renumbered parts made why accepted has r (refuses other)

-- ---- what is due

-- a saved text is that of its ledger
saves-text : {a : Acceptance} {l : LedgerState} {answer : Result (List ℕ) SaveError} → Saves a l answer
    → (text : List ℕ) → answer ≡ Ok text → text ≡ snapshot_text a l
saves-text (saving.numbers high) text is = cc
saves-text (saving.too_long low long) text is = cc
saves-text (saving.saved low short) text is = cc

pub keeps-saved : {a : Acceptance} (m : LedgerState) (text : List ℕ) (d : Due) → Saves a m (Ok text)
    → Loads a text (Ok m) → TellsNextOf m (Some text) d → KeepsRenumbered a m d
keeps-saved {a} m text d written loads tells =
    let same = saves-text written text refl in
    keeps (subst (λ (t : List ℕ). Loads a t (Ok m)) same loads)
    (subst (λ (t : List ℕ). TellsNextOf m (Some t) d) same tells)

pub keeps-unsaved : {a : Acceptance} (m : LedgerState) (why : SaveError) (o : Option Due)
    → (why ≢ save_error.NoMemory → Saves a m (Err why)) → IfSome o (λ d. IsBare d 11 (unsaved_line why) usual_limit)
    → IfSome o (λ _. why ≢ save_error.NoMemory) → IfSome o (KeepsRenumbered a m)
keeps-unsaved m why (Some d) never bare known = keeps_none why (never known) bare
keeps-unsaved m why None never bare known = tt

-- of a renumbered ledger this is due
pub renumbered-due : {a : Acceptance} (snapshot : Input) (m : LedgerState) (d : Due)
    → HasRenumbered a snapshot.text m → KeepsRenumbered a m d → IsDueOf a snapshot d
renumbered-due snapshot m d has (keeps loads tells) =
    rw (tells.status_is, tells.kept_is)
    (renumbered.renumbered has.ledger m d.out.items has.loads has.is loads tells.told)
renumbered-due snapshot m d has (keeps_none why never bare) =
    rw (bare.status_is, bare.text_is, bare.nothing_kept)
    (renumbered.unsaved has.ledger m why has.loads has.is has.stands never)

-- and this where there is none
pub not_renumbered-due : {a : Acceptance} (snapshot : Input) (why : LoadError) (d : Due)
    → (why ≢ error.NoMemory → NotRenumbered a snapshot.text why) → HasNoLedger (no_ledger.Refused why) d
    → IsDueOf a snapshot d
not_renumbered-due {a} snapshot why d not none = by (not (λ e. none.known (ap no_ledger.Refused e)))
  where
    by : NotRenumbered a snapshot.text why → IsDueOf a snapshot d
    by (not_loaded refuses) =
        rw (none.line.status_is, none.line.text_is, none.line.nothing_kept)
        (renumbered.no_ledger 11 (unloaded_line why) (resumes.refused why refuses))
    by (not_admitted l m loads is refuses) =
        rw (none.line.status_is, none.line.text_is, none.line.nothing_kept)
        (renumbered.not_admitted l m why loads is refuses)

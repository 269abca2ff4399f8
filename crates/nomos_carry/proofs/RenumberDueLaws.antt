-- Where a ledger is renumbered one thing is due, unless the source of its snapshot failed.
use Rattle.std.proofs.Common.{◌≡◌, ◌∙◌, ◌≤◌, ◌<◌, ◌/◌, inl, inr, ℕ, List, Option, Some, Result, Ok, Err, refl, sym, ap, subst, arith}
use Rattle.std.proofs.Math.Nat.{mul-div_cancel}
use Rattle.std.proofs.lemmas.Bool.{cases_lt}
use Rattle.nomos_answers.specs.Outside.{Input}
use Rattle.nomos_answers.specs.SnapshotLines.{unloaded_line, unsaved_line}
use Rattle.nomos_legal.specs.Ledger.{LedgerState}
use Rattle.nomos_legal.specs.StandsFor.{StandsFor}
use Rattle.nomos_machine.specs.Run.{IsNextReady}
use Rattle.nomos_machine.specs.State.{State}
use Rattle.nomos_snapshot.proofs.LoadingLaws.{loads-loaded, loads-one}
use Rattle.nomos_snapshot.specs.Loading as loading
use Rattle.nomos_snapshot.specs.Loading.{Admits, IsWorth, Loads}
use Rattle.nomos_snapshot.specs.Saving as saving
use Rattle.nomos_snapshot.specs.Saving.{Saves}
use Rattle.nomos_snapshot.specs.Text.{snapshot_text}
use Rattle.nomos_snapshot.specs.declared.error.LoadError.{LoadError}
use Rattle.nomos_snapshot.specs.declared.error.SaveError.{SaveError}
use Rattle.nomos_types.specs.Acceptance.{Acceptance, IsAccepted}
use Rattle.nomos_carrying.proofs.RenumberedLaws.{renumbered-one}
use Rattle.nomos_carrying.specs.Renumbered as renumbering
use Rattle.nomos_carrying.specs.Renumbered.{IsRenumberDue, IsRenumbered}
use Rattle.nomos_top.proofs.OneDueLaws.{saves-one}
use Rattle.nomos_carry.proofs.OneDueLaws.{OneDue, ledger-tells, no_ledger-loads, no_ledger-one}

-- ---- what is answered of a ledger

-- the gas is that of one count of units
worth-one : {a : Acceptance} {gas m n : ℕ} → 1 ≤ a.annotations.unit → IsWorth a gas m → IsWorth a gas n → m ≡ n
worth-one {a} {gas} {m} {n} some one two =
    let unit : ℕ = a.annotations.unit in
    let over : 0 < unit = omega arith in
    sym (mul-div_cancel m over) ∙ ap (λ (k : ℕ). k / unit) (sym one.is ∙ two.is) ∙ mul-div_cancel n over

-- one process is the lowest that is ready
ready-one : {a : Acceptance} {s : State} {p q : ℕ} → IsNextReady a s 0 p → IsNextReady a s 0 q → p ≡ q
ready-one {p = p} {q} one two = elim (cases_lt p q) [
  | inl below ↦ absurd (two.lowest p one.over below one.ready)
  | inr from ↦ elim (cases_lt q p) [
    | inl below ↦ absurd (one.lowest q two.over below two.ready)
    | inr to ↦ omega (arith, from, to)
  ]
]

-- a ledger is not admitted for one reason
refused-one : {a : Acceptance} {l : LedgerState} {x y : Result LedgerState LoadError} (why cause : LoadError)
    → Admits a l x → Admits a l y → x ≡ Err why → y ≡ Err cause → why ≡ cause
refused-one why cause (loading.not_typed unsound) (loading.not_typed unsound2) is was = cc
refused-one why cause (loading.not_typed unsound) (loading.no_units sound none) is was = absurd (unsound sound)
refused-one why cause (loading.not_typed unsound) (loading.not_quiet units pid sound worth ready) is was =
    absurd (unsound sound)
refused-one why cause (loading.not_typed unsound) (loading.admitted units sound worth quiet) is was =
    absurd (unsound sound)
refused-one why cause (loading.no_units sound none) (loading.not_typed unsound) is was = absurd (unsound sound)
refused-one why cause (loading.no_units sound none) (loading.no_units sound2 none2) is was = cc
refused-one why cause (loading.no_units sound none) (loading.not_quiet units pid sound2 worth ready) is was =
    absurd (none units worth)
refused-one why cause (loading.no_units sound none) (loading.admitted units sound2 worth quiet) is was =
    absurd (none units worth)
refused-one why cause (loading.not_quiet units pid sound worth ready) (loading.not_typed unsound) is was =
    absurd (unsound sound)
refused-one why cause (loading.not_quiet units pid sound worth ready) (loading.no_units sound2 none) is was =
    absurd (none units worth)
refused-one why cause (loading.not_quiet units pid sound worth ready)
    (loading.not_quiet units2 pid2 sound2 worth2 ready2) is was =
    let same : pid ≡ pid2 = ready-one ready ready2 in cc
refused-one why cause (loading.not_quiet units pid sound worth ready) (loading.admitted units2 sound2 worth2 quiet) is
    was =
    absurd (quiet pid ready.over ready.ready)
refused-one why cause (loading.admitted units sound worth quiet) other is was = cc

-- a ledger that stands is admitted
stands-admitted : {a : Acceptance} {l : LedgerState} → StandsFor a l → {x : Result LedgerState LoadError}
    (why : LoadError) → Admits a l x → x ≡ Err why → ⊥
stands-admitted {a} {l} stands why (loading.not_typed unsound) is =
    unsound (record {
      typed = stands.settled.typed;
      contracts = stands.settled.contracts;
      no_transaction = stands.no_transaction;
    })
stands-admitted {a} {l} stands why (loading.no_units sound none) is =
    none l.deposits (record { few = stands.settled.few; is = stands.settled.gas })
stands-admitted stands why (loading.not_quiet units pid sound worth ready) is = stands.quiet pid ready.ready
stands-admitted stands why (loading.admitted units sound worth quiet) is = cc

-- a ledger whose snapshot is loaded as it is saved
loaded-saved : {a : Acceptance} {l : LedgerState} → IsAccepted a → Loads a (snapshot_text a l) (Ok l)
    → {x : Result (List ℕ) SaveError} (why : SaveError) → Saves a l x → x ≡ Err why → ⊥
loaded-saved accepted loads why (saving.numbers high) is = high (loads-loaded accepted loads).low
loaded-saved accepted loads why (saving.too_long low long) is =
    let short = (loads-loaded accepted loads).short in omega (arith, short, long)
loaded-saved accepted loads why (saving.saved low short) is = cc

-- ---- the renumbered ledger

-- of one snapshot there is one
one-renumbered : {a : Acceptance} → IsAccepted a → (x y : Input) → x.text ≡ y.text → (l m k n : LedgerState)
    → Loads a x.text (Ok l) → IsRenumbered l m → Loads a y.text (Ok k) → IsRenumbered k n → m ≡ n
one-renumbered {a} accepted x y same l m k n loads is loads2 was =
    let both : Ok l ≡ Ok k = loads-one accepted (subst (λ (t : List ℕ). Loads a t (Ok l)) same loads) loads2 in
    let ledgers : k ≡ l = cc in
    renumbered-one accepted loads is (subst (λ (e : LedgerState). IsRenumbered e n) ledgers was)

-- ---- what is due

module _ {a : Acceptance} (accepted : IsAccepted a) (x y : Input) (same : x.text ≡ y.text) where
  -- the cause for which it is not admitted
  admitted-same : (m n : LedgerState) → m ≡ n → (why cause : LoadError) → Admits a m (Err why) → Admits a n (Err cause)
      → why ≡ cause
  admitted-same m n ledgers why cause one two =
      refused-one why cause (subst (λ (e : LedgerState). Admits a e (Err why)) ledgers one) two refl refl

  saved-same : (m n : LedgerState) → m ≡ n → (why cause : SaveError) → Saves a m (Err why) → Saves a n (Err cause)
      → why ≡ cause
  saved-same m n ledgers why cause one two =
      let both : Err why ≡ Err cause =
      saves-one (subst (λ (e : LedgerState). Saves a e (Err why)) ledgers one) two in cc

  stands-same : (m n : LedgerState) → m ≡ n → (why : LoadError) → StandsFor a m → Admits a n (Err why) → ⊥
  stands-same m n ledgers why stands two = stands-admitted (subst (StandsFor a) ledgers stands) why two refl

  keeps-same : (m n : LedgerState) → m ≡ n → (why : SaveError) → Loads a (snapshot_text a m) (Ok m)
      → Saves a n (Err why) → ⊥
  keeps-same m n ledgers why loads two =
      loaded-saved accepted (subst (λ (e : LedgerState). Loads a (snapshot_text a e) (Ok e)) ledgers loads) why two refl

  pub renumber-one : (status : ℕ) (out : List ℕ) (next : Option (List ℕ)) (other : ℕ) (also : List ℕ)
      (later : Option (List ℕ)) → IsRenumberDue a x status out next → IsRenumberDue a y other also later
      → OneDue status out next other also later
  renumber-one status out next other also later (renumbering.no_ledger n o none) (renumbering.no_ledger m p none2) =
      no_ledger-one accepted x y same n o m p none none2
  renumber-one status out next other also later (renumbering.no_ledger n o none)
      (renumbering.not_admitted l m why loads is bad) =
      inr (inl (no_ledger-loads accepted x y same n o l none loads))
  renumber-one status out next other also later (renumbering.no_ledger n o none)
      (renumbering.unsaved l m why loads is stands bad) =
      inr (inl (no_ledger-loads accepted x y same n o l none loads))
  renumber-one status out next other also later (renumbering.no_ledger n o none)
      (renumbering.renumbered l m told loads is keeps tells) =
      inr (inl (no_ledger-loads accepted x y same n o l none loads))
  renumber-one status out next other also later (renumbering.not_admitted l m why loads is bad)
      (renumbering.no_ledger n o none) =
      inr (inr (no_ledger-loads accepted y x (sym same) n o l none loads))
  renumber-one status out next other also later (renumbering.not_admitted l m why loads is bad)
      (renumbering.not_admitted k n cause loads2 was bad2) =
      let ledgers = one-renumbered accepted x y same l m k n loads is loads2 was in
      inl (refl, ap unloaded_line (admitted-same m n ledgers why cause bad bad2), refl)
  renumber-one status out next other also later (renumbering.not_admitted l m why loads is bad)
      (renumbering.unsaved k n cause loads2 was stands bad2) =
      let ledgers = one-renumbered accepted x y same l m k n loads is loads2 was in
      absurd (stands-same n m (sym ledgers) why stands bad)
  renumber-one status out next other also later (renumbering.not_admitted l m why loads is bad)
      (renumbering.renumbered k n told loads2 was keeps tells) =
      let ledgers = one-renumbered accepted x y same l m k n loads is loads2 was in
      absurd (stands-same n m (sym ledgers) why (loads-loaded accepted keeps).stands bad)
  renumber-one status out next other also later (renumbering.unsaved l m why loads is stands bad)
      (renumbering.no_ledger n o none) =
      inr (inr (no_ledger-loads accepted y x (sym same) n o l none loads))
  renumber-one status out next other also later (renumbering.unsaved l m why loads is stands bad)
      (renumbering.not_admitted k n cause loads2 was bad2) =
      let ledgers = one-renumbered accepted x y same l m k n loads is loads2 was in
      absurd (stands-same m n ledgers cause stands bad2)
  renumber-one status out next other also later (renumbering.unsaved l m why loads is stands bad)
      (renumbering.unsaved k n cause loads2 was stands2 bad2) =
      let ledgers = one-renumbered accepted x y same l m k n loads is loads2 was in
      inl (refl, ap unsaved_line (saved-same m n ledgers why cause bad bad2), refl)
  renumber-one status out next other also later (renumbering.unsaved l m why loads is stands bad)
      (renumbering.renumbered k n told loads2 was keeps tells) =
      let ledgers = one-renumbered accepted x y same l m k n loads is loads2 was in
      absurd (keeps-same n m (sym ledgers) why keeps bad)
  renumber-one status out next other also later (renumbering.renumbered l m told loads is keeps tells)
      (renumbering.no_ledger n o none) =
      inr (inr (no_ledger-loads accepted y x (sym same) n o l none loads))
  renumber-one status out next other also later (renumbering.renumbered l m told loads is keeps tells)
      (renumbering.not_admitted k n cause loads2 was bad2) =
      let ledgers = one-renumbered accepted x y same l m k n loads is loads2 was in
      absurd (stands-same m n ledgers cause (loads-loaded accepted keeps).stands bad2)
  renumber-one status out next other also later (renumbering.renumbered l m told loads is keeps tells)
      (renumbering.unsaved k n cause loads2 was stands bad2) =
      let ledgers = one-renumbered accepted x y same l m k n loads is loads2 was in
      absurd (keeps-same m n ledgers cause keeps bad2)
  renumber-one status out next other also later (renumbering.renumbered l m told loads is keeps tells)
      (renumbering.renumbered k n told2 loads2 was keeps2 tells2) =
      let ledgers = one-renumbered accepted x y same l m k n loads is loads2 was in
      inl (
        refl,
        ledger-tells m n ledgers told told2 tells tells2,
        ap (λ (e : LedgerState). Some (snapshot_text a e)) ledgers,
      )

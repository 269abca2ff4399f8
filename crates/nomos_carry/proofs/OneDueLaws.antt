-- On an accepted contract, with one snapshot and one script, one thing is due, unless a source failed.
use Rattle.std.proofs.Common.{◌≡◌, ◌∙◌, ◌⊎◌, inl, inr, ℕ, List, ◌++◌, length, Option, Some, None, Result, Ok, Err, refl, sym, ap, subst, arith}
use Rattle.std.specs.Prelude.{codes, decimal}
use Rattle.nomos_answers.specs.DueLines as lines
use Rattle.nomos_answers.specs.DueLines.{IsNoScript, script_refusal}
use Rattle.nomos_answers.specs.Outside.{Input}
use Rattle.nomos_answers.specs.Resumes as resumes
use Rattle.nomos_answers.specs.Resumes.{IsNoLedger}
use Rattle.nomos_answers.specs.RunsDue.{HasRunFrom, usual_orders}
use Rattle.nomos_answers.specs.SnapshotLines.{unloaded_line, unsaved_line}
use Rattle.nomos_legal.specs.Ledger.{LedgerState}
use Rattle.nomos_legal.specs.Passage.{Passage}
use Rattle.nomos_legal.specs.declared.journal.Journal.{Journal}
use Rattle.nomos_report.specs.Reported.{report_of, run_status}
use Rattle.nomos_script.proofs.ReadingLaws.{reads_once, reads_without_syntax, syntax_once}
use Rattle.nomos_script.specs.ScriptReading.{IsSyntaxAt, ReadsAs}
use Rattle.nomos_script.specs.declared.item.ScriptItem.{ScriptItem}
use Rattle.nomos_snapshot.proofs.LoadingLaws.{loads-one}
use Rattle.nomos_snapshot.specs.Loading.{Loads}
use Rattle.nomos_snapshot.specs.Saving as saving
use Rattle.nomos_snapshot.specs.Saving.{Saves}
use Rattle.nomos_snapshot.specs.Text.{snapshot_text}
use Rattle.nomos_snapshot.specs.declared.error.SaveError.{SaveError}
use Rattle.nomos_top.proofs.OneDueLaws.{saves-one, usual-one}
use Rattle.nomos_types.specs.Acceptance.{Acceptance, IsAccepted}
use Rattle.nomos_carrying.specs.CarryDue as carrying
use Rattle.nomos_carrying.specs.CarryDue.{BeginsFrom, HasCarried, IsCarryDue, IsNumbersDue, TellsNumbers}

-- ---- what is due, twice

-- it is the same, or one of both tells that a source failed
abbrev pub OneDue : ℕ → List ℕ → Option (List ℕ) → ℕ → List ℕ → Option (List ℕ) → Type 0
OneDue status out next other also later =
    ((status ≡ other) × (out ≡ also) × (next ≡ later)) ⊎ ((status ≡ 5) ⊎ (other ≡ 5))

-- ---- what is saved

-- the text that is saved is the ledger's
saves-is : {a : Acceptance} {l : LedgerState} (text : List ℕ) {x : Result (List ℕ) SaveError} → Saves a l x
    → x ≡ Ok text → text ≡ snapshot_text a l
saves-is text (saving.numbers high) is = cc
saves-is text (saving.too_long low long) is = cc
saves-is text (saving.saved low short) is = cc

pub saves-text : {a : Acceptance} {l : LedgerState} (text : List ℕ) → Saves a l (Ok text) → text ≡ snapshot_text a l
saves-text text saves = saves-is text saves refl

-- ---- ledgers and scripts that are not there

-- no ledger and a ledger: the source of the snapshot failed
pub no_ledger-loads : {a : Acceptance} → IsAccepted a → (x y : Input) → x.text ≡ y.text → (status : ℕ) (out : List ℕ)
    (first : LedgerState) → IsNoLedger a x status out → Loads a y.text (Ok first) → status ≡ 5
no_ledger-loads accepted x y same status out first (resumes.fault rose) loads = refl
no_ledger-loads {a} accepted x y same status out first (resumes.refused why refused) loads =
    absurd
    (let both : Ok first ≡ Err why =
    loads-one accepted loads (subst (λ (t : List ℕ). Loads a t (Err why)) same refused) in cc)

pub no_ledger-one : {a : Acceptance} → IsAccepted a → (x y : Input) → x.text ≡ y.text → (status : ℕ) (out : List ℕ)
    (other : ℕ) (also : List ℕ) → IsNoLedger a x status out → IsNoLedger a y other also
    → OneDue status out None other also None
no_ledger-one accepted x y same status out other also (resumes.fault rose) two = inr (inl refl)
no_ledger-one accepted x y same status out other also (resumes.refused why refused) (resumes.fault rose) =
    inr (inr refl)
no_ledger-one {a} accepted x y same status out other also (resumes.refused why refused) (resumes.refused cause was) =
    let both : Err why ≡ Err cause =
    loads-one accepted (subst (λ (t : List ℕ). Loads a t (Err why)) same refused) was in
    let whys : why ≡ cause = cc in
    inl (refl, ap unloaded_line whys, refl)

-- no script and a script: the source of the script failed
no_script-reads : (x y : Input) → x.text ≡ y.text → (status : ℕ) (out : List ℕ) (items : List ScriptItem)
    → IsNoScript x status out → ReadsAs y.text items → status ≡ 5
no_script-reads x y same status out items (lines.fault rose) reads = refl
no_script-reads x y same status out items (lines.too_long over) reads =
    absurd (omega (arith, over, reads.limit, ap (λ (t : List ℕ). length t) same))
no_script-reads x y same status out items (lines.syntax k bad) reads =
    absurd (reads_without_syntax y.text k items reads (subst (λ (t : List ℕ). IsSyntaxAt t k) same bad))

no_script-one : (x y : Input) → x.text ≡ y.text → (status : ℕ) (out : List ℕ) (other : ℕ) (also : List ℕ)
    → IsNoScript x status out → IsNoScript y other also → OneDue status out None other also None
no_script-one x y same status out other also (lines.fault rose) two = inr (inl refl)
no_script-one x y same status out other also (lines.too_long over) (lines.fault rose) = inr (inr refl)
no_script-one x y same status out other also (lines.too_long over) (lines.too_long over2) = inl (refl, refl, refl)
no_script-one x y same status out other also (lines.too_long over) (lines.syntax k (inl bad)) =
    absurd (omega (arith, over, bad.here.limit, ap (λ (t : List ℕ). length t) same))
no_script-one x y same status out other also (lines.too_long over) (lines.syntax k (inr bad)) =
    absurd (omega (arith, over, bad.here.limit, ap (λ (t : List ℕ). length t) same))
no_script-one x y same status out other also (lines.syntax k bad) (lines.fault rose) = inr (inr refl)
no_script-one x y same status out other also (lines.syntax k (inl bad)) (lines.too_long over) =
    absurd (omega (arith, over, bad.here.limit, ap (λ (t : List ℕ). length t) same))
no_script-one x y same status out other also (lines.syntax k (inr bad)) (lines.too_long over) =
    absurd (omega (arith, over, bad.here.limit, ap (λ (t : List ℕ). length t) same))
no_script-one x y same status out other also (lines.syntax k bad) (lines.syntax m worse) =
    let here = subst (λ (t : List ℕ). IsSyntaxAt t m) (sym same) worse in
    inl (refl, ap (λ (n : ℕ). script_refusal (codes "Syntax " ++ decimal n)) (syntax_once x.text k m bad here), refl)

-- ---- where a script begins, and what becomes of it

-- snapshots of one text, or none twice
abbrev pub AreAlike : Option Input → Option Input → Type 0
AreAlike (Some x) (Some y) = x.text ≡ y.text
AreAlike None None = Unit {0}
AreAlike _ _ = ⊥

alike-sym : (x y : Option Input) → AreAlike x y → AreAlike y x
alike-sym None None alike = tt
alike-sym (Some x) (Some y) alike = sym alike
alike-sym (Some x) None alike = absurd alike
alike-sym None (Some y) alike = absurd alike

begins-one : {a : Acceptance} → IsAccepted a → (x y : Option Input) → AreAlike x y → (first other : LedgerState)
    → BeginsFrom a x first → BeginsFrom a y other → first ≡ other
begins-one accepted None None alike first other one two = one ∙ sym two
begins-one {a} accepted (Some x) (Some y) alike first other one two =
    let both : Ok first ≡ Ok other =
    loads-one accepted (subst (λ (t : List ℕ). Loads a t (Ok first)) alike one) two in
    cc
begins-one accepted (Some x) None alike first other one two = absurd alike
begins-one accepted None (Some y) alike first other one two = absurd alike

-- a snapshot of which nothing is loaded, and one at which a script begins
no_ledger-begins : {a : Acceptance} → IsAccepted a → (x y : Option Input) → AreAlike x y → (s : Input) (status : ℕ)
    (out : List ℕ) (first : LedgerState) → x ≡ Some s → IsNoLedger a s status out → BeginsFrom a y first → status ≡ 5
no_ledger-begins accepted None y alike s status out first is none begins =
    absurd (let both : None ≡ Some s = is in cc)
no_ledger-begins accepted (Some x) None alike s status out first is none begins = absurd alike
no_ledger-begins {a} accepted (Some x) (Some y) alike s status out first is none begins =
    let same : x ≡ s = cc in
    no_ledger-loads accepted x y alike status out first
    (subst (λ (i : Input). IsNoLedger a i status out) (sym same) none) begins

no_ledgers-one : {a : Acceptance} → IsAccepted a → (x y : Option Input) → AreAlike x y → (s u : Input) (status : ℕ)
    (out : List ℕ) (other : ℕ) (also : List ℕ) → x ≡ Some s → y ≡ Some u → IsNoLedger a s status out
    → IsNoLedger a u other also → OneDue status out None other also None
no_ledgers-one accepted None y alike s u status out other also is was one two =
    absurd (let both : None ≡ Some s = is in cc)
no_ledgers-one accepted (Some x) None alike s u status out other also is was one two = absurd alike
no_ledgers-one {a} accepted (Some x) (Some y) alike s u status out other also is was one two =
    let same : x ≡ s = cc in
    let also_same : y ≡ u = cc in
    no_ledger-one accepted x y alike status out other also
    (subst (λ (i : Input). IsNoLedger a i status out) (sym same) one)
    (subst (λ (i : Input). IsNoLedger a i other also) (sym also_same) two)

carried-one : {a : Acceptance} → IsAccepted a → (x y : Option Input) (s u : Input) → AreAlike x y → s.text ≡ u.text
    → (journal other : Journal) (ps qs : List Passage) (last m : LedgerState) → HasCarried a x s journal ps last
    → HasCarried a y u other qs m → (journal ≡ other) × (ps ≡ qs) × (last ≡ m)
carried-one {a} accepted x y s u alike same journal other ps qs last m one two =
    let firsts : two.first ≡ one.first =
    sym (begins-one accepted x y alike one.first two.first one.begins two.begins) in
    let reads : ReadsAs u.text one.items = subst (λ (t : List ℕ). ReadsAs t one.items) same one.reads in
    let items : two.items ≡ one.items = reads_once u.text two.items one.items two.reads reads in
    let run : HasRunFrom a one.first one.items usual_orders other qs m =
    subst (λ (l : LedgerState). HasRunFrom a l one.items usual_orders other qs m) firsts
    (subst (λ (is : List ScriptItem). HasRunFrom a two.first is usual_orders other qs m) items two.run) in
    usual-one one.run run

-- ---- what is due where a ledger is carried on

pub carry-one : {a : Acceptance} → IsAccepted a → (x y : Option Input) (s u : Input) → AreAlike x y → s.text ≡ u.text
    → (status : ℕ) (out : List ℕ) (next : Option (List ℕ)) (other : ℕ) (also : List ℕ) (later : Option (List ℕ))
    → IsCarryDue a x s status out next → IsCarryDue a y u other also later → OneDue status out next other also later
carry-one accepted x y s u alike same status out next other also later (carrying.no_ledger i n o is none)
    (carrying.no_ledger j m p was none2) =
    no_ledgers-one accepted x y alike i j n o m p is was none none2
carry-one accepted x y s u alike same status out next other also later (carrying.no_ledger i n o is none)
    (carrying.no_script first m p begins bad) =
    inr (inl (no_ledger-begins accepted x y alike i n o first is none begins))
carry-one accepted x y s u alike same status out next other also later (carrying.no_ledger i n o is none)
    (carrying.unsaved journal ps last why has bad) =
    inr (inl (no_ledger-begins accepted x y alike i n o has.first is none has.begins))
carry-one accepted x y s u alike same status out next other also later (carrying.no_ledger i n o is none)
    (carrying.carried journal ps last text has saves loads) =
    inr (inl (no_ledger-begins accepted x y alike i n o has.first is none has.begins))
carry-one accepted x y s u alike same status out next other also later (carrying.no_script first n o begins bad)
    (carrying.no_ledger j m p was none) =
    inr (inr (no_ledger-begins accepted y x (alike-sym x y alike) j m p first was none begins))
carry-one accepted x y s u alike same status out next other also later (carrying.no_script first n o begins bad)
    (carrying.no_script first2 m p begins2 bad2) =
    no_script-one s u same n o m p bad bad2
carry-one accepted x y s u alike same status out next other also later (carrying.no_script first n o begins bad)
    (carrying.unsaved journal ps last why has bad2) =
    inr (inl (no_script-reads s u same n o has.items bad has.reads))
carry-one accepted x y s u alike same status out next other also later (carrying.no_script first n o begins bad)
    (carrying.carried journal ps last text has saves loads) =
    inr (inl (no_script-reads s u same n o has.items bad has.reads))
carry-one accepted x y s u alike same status out next other also later (carrying.unsaved journal ps last why has bad)
    (carrying.no_ledger j m p was none) =
    inr (inr (no_ledger-begins accepted y x (alike-sym x y alike) j m p has.first was none has.begins))
carry-one accepted x y s u alike same status out next other also later (carrying.unsaved journal ps last why has bad)
    (carrying.no_script first m p begins bad2) =
    inr (inr (no_script-reads u s (sym same) m p has.items bad2 has.reads))
carry-one {a} accepted x y s u alike same status out next other also later
    (carrying.unsaved journal ps last why has bad) (carrying.unsaved journal2 qs m cause has2 bad2) =
    let one = carried-one accepted x y s u alike same journal journal2 ps qs last m has has2 in
    let here : Saves a m (Err why) = subst (λ (l : LedgerState). Saves a l (Err why)) one.2 bad in
    let both : Err why ≡ Err cause = saves-one here bad2 in
    let whys : why ≡ cause = cc in
    inl (refl, ap unsaved_line whys, refl)
carry-one {a} accepted x y s u alike same status out next other also later
    (carrying.unsaved journal ps last why has bad) (carrying.carried journal2 qs m text has2 saves loads) =
    let one = carried-one accepted x y s u alike same journal journal2 ps qs last m has has2 in
    let here : Saves a m (Err why) = subst (λ (l : LedgerState). Saves a l (Err why)) one.2 bad in
    absurd (let both : Err why ≡ Ok text = saves-one here saves in cc)
carry-one accepted x y s u alike same status out next other also later
    (carrying.carried journal ps last text has saves loads) (carrying.no_ledger j m p was none) =
    inr (inr (no_ledger-begins accepted y x (alike-sym x y alike) j m p has.first was none has.begins))
carry-one accepted x y s u alike same status out next other also later
    (carrying.carried journal ps last text has saves loads) (carrying.no_script first m p begins bad2) =
    inr (inr (no_script-reads u s (sym same) m p has.items bad2 has.reads))
carry-one {a} accepted x y s u alike same status out next other also later
    (carrying.carried journal ps last text has saves loads) (carrying.unsaved journal2 qs m why has2 bad) =
    let one = carried-one accepted x y s u alike same journal journal2 ps qs last m has has2 in
    let here : Saves a m (Ok text) = subst (λ (l : LedgerState). Saves a l (Ok text)) one.2 saves in
    absurd (let both : Ok text ≡ Err why = saves-one here bad in cc)
carry-one {a} accepted x y s u alike same status out next other also later
    (carrying.carried journal ps last text has saves loads) (carrying.carried journal2 qs m text2 has2 saves2 loads2) =
    let one = carried-one accepted x y s u alike same journal journal2 ps qs last m has has2 in
    let here : Saves a m (Ok text) = subst (λ (l : LedgerState). Saves a l (Ok text)) one.2 saves in
    let both : Ok text ≡ Ok text2 = saves-one here saves2 in
    let texts : text ≡ text2 = cc in
    inl (
      ap (λ (j : Journal). run_status j.entries) one.0,
      ap (λ (passages : List Passage). report_of a passages) one.1,
      ap (λ (t : List ℕ). Some t) texts,
    )

-- ---- next numbers

tells-one : (object name : ℕ) (out also : List ℕ) → TellsNumbers object name out → TellsNumbers object name also
    → out ≡ also
tells-one object name out also (carrying.numbers_low low) (carrying.numbers_low low2) = refl
tells-one object name out also (carrying.numbers_low low) (carrying.numbers_high high) = absurd (low high)
tells-one object name out also (carrying.numbers_high high) (carrying.numbers_low low) = absurd (low high)
tells-one object name out also (carrying.numbers_high high) (carrying.numbers_high high2) = refl

pub ledger-tells : (l m : LedgerState) → l ≡ m → (out also : List ℕ)
    → TellsNumbers l.state.next_object l.state.next_name out → TellsNumbers m.state.next_object m.state.next_name also
    → out ≡ also
ledger-tells l m same out also one two =
    tells-one m.state.next_object m.state.next_name out also
    (subst (λ (k : LedgerState). TellsNumbers k.state.next_object k.state.next_name out) same one) two

pub numbers-one : {a : Acceptance} → IsAccepted a → (x y : Input) → x.text ≡ y.text → (status : ℕ) (out : List ℕ)
    (other : ℕ) (also : List ℕ) → IsNumbersDue a x status out → IsNumbersDue a y other also
    → OneDue status out None other also None
numbers-one accepted x y same status out other also (carrying.numbers_unloaded n o none)
    (carrying.numbers_unloaded m p none2) =
    no_ledger-one accepted x y same n o m p none none2
numbers-one accepted x y same status out other also (carrying.numbers_unloaded n o none)
    (carrying.numbers_told l p loads tells) =
    inr (inl (no_ledger-loads accepted x y same n o l none loads))
numbers-one accepted x y same status out other also (carrying.numbers_told l o loads tells)
    (carrying.numbers_unloaded m p none) =
    inr (inr (no_ledger-loads accepted y x (sym same) m p l none loads))
numbers-one {a} accepted x y same status out other also (carrying.numbers_told l o loads tells)
    (carrying.numbers_told m p loads2 tells2) =
    let both : Ok l ≡ Ok m = loads-one accepted (subst (λ (t : List ℕ). Loads a t (Ok l)) same loads) loads2 in
    let ledgers : l ≡ m = cc in
    inl (refl, ledger-tells l m ledgers o p tells tells2, refl)

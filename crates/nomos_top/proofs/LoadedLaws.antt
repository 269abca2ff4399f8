-- A ledger that is loaded has a name for each balance, so that a script goes right from it.
use Rattle.std.proofs.Common.{◌≡◌, ℕ, List, [], ◌∷◌, ◌++◌, length, None, Result, Ok, refl, sym, subst, arith, length-append}
use Rattle.nomos_legal.proofs.RightLaws.{empty-standing}
use Rattle.nomos_legal.specs.Ledger.{LedgerState}
use Rattle.nomos_legal.specs.StandsFor.{NamesBalances, StandsNamed}
use Rattle.nomos_snapshot.proofs.LeadLaws.{head-lines, onward, reads-lines}
use Rattle.nomos_snapshot.proofs.LoadingLaws.{loads-loaded}
use Rattle.nomos_snapshot.specs.GatheredLines as gathering
use Rattle.nomos_snapshot.specs.GatheredLines.{Gathered, Goes, Stand, at_head, behind, ledger_of, no_ledger}
use Rattle.nomos_snapshot.specs.LineOrder as leading
use Rattle.nomos_snapshot.specs.LineOrder.{LeadTo}
use Rattle.nomos_snapshot.specs.Loading as loading
use Rattle.nomos_snapshot.specs.Loading.{Admits, Loads}
use Rattle.nomos_snapshot.specs.SnapshotReading.{Reads}
use Rattle.nomos_snapshot.specs.declared.error.LoadError.{LoadError}
use Rattle.nomos_snapshot.specs.declared.line.SnapshotLine.{SnapshotLine}
use Rattle.nomos_top.specs.Headline.{BeginsBy}
use Rattle.nomos_types.specs.Acceptance.{Acceptance, IsAccepted}
use Rattle.nomos_words.specs.Commands.{Third, no_third, a_journal, a_snapshot, a_talk}

-- one element behind each of two lists
one-more : {A B : Type 0} (xs : List A) (x : A) (ys : List B) (y : B) → length xs ≡ length ys
    → length (xs ++ x ∷ []) ≡ length (ys ++ y ∷ [])
one-more xs x ys y same = omega (arith, same, length-append xs (x ∷ []), length-append ys (y ∷ []))

goes-counted : {a : Acceptance} {g h : Gathered} {l : SnapshotLine} → NamesBalances g.ledger
    → Goes a (behind g) l (behind h) → NamesBalances h.ledger
goes-counted counted (gathering.account l name dths before new) =
    one-more l.accounts name l.state.balances dths counted
goes-counted counted (gathering.contract l name shared before new) = counted
goes-counted counted (gathering.name l name t before over) = counted
goes-counted counted (gathering.process g p over) = counted
goes-counted counted (gathering.message g m over) = counted
goes-counted counted (gathering.value l p v x over) = counted
goes-counted counted (gathering.list l p v amount items over) = counted
goes-counted counted (gathering.channel l p v name over) = counted

lead-counted : {a : Acceptance} {stand : Stand} {ls : List SnapshotLine} {ledger : LedgerState} (g : Gathered)
    → stand ≡ behind g → NamesBalances g.ledger → LeadTo a stand ls ledger → NamesBalances ledger
lead-counted g is counted (leading.done h) =
    let same : h ≡ g = cc in
    subst (λ (k : Gathered). NamesBalances (ledger_of k)) (sym same) counted
lead-counted {a} g is counted (leading.line {next = next} l form goes rest) =
    let here : Goes a (behind g) l next = subst (λ (s : Stand). Goes a s l next) is goes in
    let o = onward here in
    lead-counted o.after o.is (goes-counted counted o.goes) rest

reads-counted : {a : Acceptance} {text : List ℕ} {l : LedgerState} → Reads a 1 at_head text (Ok l) → NamesBalances l
reads-counted {a} {text} {l} reads =
    let lines = reads-lines reads in
    let (o, n, spent, ls, is, rest) = head-lines lines.lead in
    lead-counted (record { ledger = no_ledger o n spent; process = None }) refl refl rest

admits-counted : {a : Acceptance} {told l : LedgerState} {answer : Result LedgerState LoadError} → NamesBalances told
    → Admits a told answer → answer ≡ Ok l → NamesBalances l
admits-counted counted (loading.not_typed unsound) is = cc
admits-counted counted (loading.no_units sound none) is = cc
admits-counted counted (loading.not_quiet units pid sound worth ready) is = cc
admits-counted {told = told} {l = l} counted (loading.admitted units sound worth quiet) is =
    let same : record told { deposits = units } ≡ l = cc in
    subst NamesBalances same counted

loads-counted : {a : Acceptance} {text : List ℕ} {l : LedgerState} {answer : Result LedgerState LoadError}
    → Loads a text answer → answer ≡ Ok l → NamesBalances l
loads-counted (loading.too_long long) is = cc
loads-counted (loading.bad_line k short reads) is = cc
loads-counted (loading.told told answer tells admits) is = admits-counted (reads-counted tells.reads) admits is

-- a ledger at which a script begins stands, with a name for each balance
pub begins-standing : (third : Third) {a : Acceptance} (text : List ℕ) (first : LedgerState) → IsAccepted a
    → BeginsBy third a text first → StandsNamed a first
begins-standing no_third {a} text first accepted is = subst (StandsNamed a) (sym is) (empty-standing a)
begins-standing (a_journal word) {a} text first accepted is = subst (StandsNamed a) (sym is) (empty-standing a)
begins-standing (a_snapshot word) text first accepted is =
    record { stands = (loads-loaded accepted is).stands; counted = loads-counted is refl }
begins-standing (a_talk word) {a} text first accepted is = subst (StandsNamed a) (sym is) (empty-standing a)

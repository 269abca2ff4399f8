-- A text is loaded as one ledger at most, which stands for the program; one that does is loaded from its snapshot.
use Rattle.std.proofs.Common.{◌≡◌, ℕ, ◌+◌, ◌<◌, ◌≤◌, ◌/◌, List, [], ◌∷◌, length, All, None, Result, Ok, Err, refl, ap, sym, subst, ◌∙◌, inl, inr, arith, length-append}
use Rattle.std.proofs.Math.Nat.{mul-div_cancel}
use Rattle.std.proofs.lemmas.Bool.{cases_lt}
use Rattle.std.proofs.lemmas.List.Elements.{All-cons, All-head, All-nil, All-tail}
use Rattle.nomos_legal.specs.Ledger.{IsLedger, LedgerState}
use Rattle.nomos_legal.specs.StandsFor.{StandsFor}
use Rattle.nomos_machine.specs.Run.{IsNextReady, NoneReady}
use Rattle.nomos_machine.specs.State.{State}
use Rattle.nomos_ledger.proofs.ReadyLaws.{none_ready-quiet}
use Rattle.nomos_types.specs.Acceptance.{Acceptance, IsAccepted}
use Rattle.nomos_snapshot.specs.GatheredLines.{Gathered, Goes, Stand, at_head, behind, ledger_of, no_ledger}
use Rattle.nomos_snapshot.specs.GatheredLines as gathering
use Rattle.nomos_snapshot.specs.LineOrder.{LeadTo}
use Rattle.nomos_snapshot.specs.LineOrder as leading
use Rattle.nomos_snapshot.specs.Line.{IsLine, line_text}
use Rattle.nomos_snapshot.specs.Loading.{Admits, IsSoundLedger, IsWorth, Loads, longest_snapshot}
use Rattle.nomos_snapshot.specs.Loading as loading
use Rattle.nomos_snapshot.specs.Orderly.{IsOrderly, kept}
use Rattle.nomos_snapshot.specs.SnapshotReading.{Reads}
use Rattle.nomos_snapshot.specs.SnapshotReading as reading
use Rattle.nomos_snapshot.specs.Saving.{HasLowNumbers}
use Rattle.nomos_snapshot.specs.Text.{body_lines, ledger_lines, snapshot_text}
use Rattle.nomos_snapshot.specs.declared.error.LoadError.{LoadError}
use Rattle.nomos_snapshot.specs.declared.error.LoadError.TheVariants as error
use Rattle.nomos_snapshot.specs.declared.line.SnapshotLine.{SnapshotLine}
use Rattle.nomos_snapshot.specs.declared.line.SnapshotLine.TheVariants as line
use Rattle.nomos_snapshot.proofs.LeadLaws.{head-lines, lead-lines, lines-read, onward, reads-lines, reads-snapshot}
use Rattle.nomos_snapshot.proofs.OneReadingLaws.{reads-one}
use Rattle.nomos_snapshot.proofs.OrderlyLaws.{ledger-leads}

-- ---- one answer

-- the gas is that of one count of units
worth-one : {a : Acceptance} {gas m n : ℕ} → 1 ≤ a.annotations.unit → IsWorth a gas m → IsWorth a gas n → m ≡ n
worth-one {a} {gas} {m} {n} some one two =
    let unit : ℕ = a.annotations.unit in
    let over : 0 < unit = omega arith in
    sym (mul-div_cancel m over) ∙ ap (λ (k : ℕ). k / unit) (sym one.is ∙ two.is) ∙ mul-div_cancel n over

-- one process is the lowest that is ready
ready-one : {a : Acceptance} {s : State} {p q : ℕ} → IsNextReady a s 0 p → IsNextReady a s 0 q → p ≡ q
ready-one {p = p} {q} one two = elim (cases_lt p q) [
  | inl below ↦ absurd (two.lowest p one.over below one.ready)
  | inr from ↦ elim (cases_lt q p) [
    | inl below ↦ absurd (one.lowest q two.over below two.ready)
    | inr to ↦ omega (arith, from, to)
  ]
]

admits-one : {a : Acceptance} {l : LedgerState} {x y : Result LedgerState LoadError} → 1 ≤ a.annotations.unit
    → Admits a l x → Admits a l y → x ≡ y
admits-one some (loading.not_typed unsound) (loading.not_typed unsound2) = refl
admits-one some (loading.not_typed unsound) (loading.no_units sound none) = absurd (unsound sound)
admits-one some (loading.not_typed unsound) (loading.not_quiet units pid sound worth ready) = absurd (unsound sound)
admits-one some (loading.not_typed unsound) (loading.admitted units sound worth quiet) = absurd (unsound sound)
admits-one some (loading.no_units sound none) (loading.not_typed unsound) = absurd (unsound sound)
admits-one some (loading.no_units sound none) (loading.no_units sound2 none2) = refl
admits-one some (loading.no_units sound none) (loading.not_quiet units pid sound2 worth ready) =
    absurd (none units worth)
admits-one some (loading.no_units sound none) (loading.admitted units sound2 worth quiet) = absurd (none units worth)
admits-one some (loading.not_quiet units pid sound worth ready) (loading.not_typed unsound) = absurd (unsound sound)
admits-one some (loading.not_quiet units pid sound worth ready) (loading.no_units sound2 none) =
    absurd (none units worth)
admits-one some (loading.not_quiet units pid sound worth ready) (loading.not_quiet units2 pid2 sound2 worth2 ready2) =
    ap (λ (p : ℕ). Err (error.NotQuiet p)) (ready-one ready ready2)
admits-one some (loading.not_quiet units pid sound worth ready) (loading.admitted units2 sound2 worth2 quiet) =
    absurd (quiet pid ready.over ready.ready)
admits-one some (loading.admitted units sound worth quiet) (loading.not_typed unsound) = absurd (unsound sound)
admits-one some (loading.admitted units sound worth quiet) (loading.no_units sound2 none) = absurd (none units worth)
admits-one some (loading.admitted units sound worth quiet) (loading.not_quiet units2 pid sound2 worth2 ready) =
    absurd (quiet pid ready.over ready.ready)
admits-one {l = l} some (loading.admitted units sound worth quiet) (loading.admitted units2 sound2 worth2 quiet2) =
    ap (λ (n : ℕ). Ok (record l { deposits = n })) (worth-one some worth worth2)

-- So of a text one thing is answered.
pub loads-one : {a : Acceptance} {text : List ℕ} {x y : Result LedgerState LoadError} → IsAccepted a
    → Loads a text x → Loads a text y → x ≡ y
loads-one accepted (loading.too_long long) (loading.too_long long2) = refl
loads-one accepted (loading.too_long long) (loading.bad_line k short reads) = absurd (omega (arith, long, short))
loads-one accepted (loading.too_long long) (loading.told l answer is admits) =
    absurd (omega (arith, long, is.short))
loads-one accepted (loading.bad_line k short reads) (loading.too_long long) = absurd (omega (arith, long, short))
loads-one {a} accepted (loading.bad_line k short reads) (loading.bad_line k2 short2 reads2) =
    let same = reads-one accepted.is_program.names accepted.is_program.spaces reads reads2 in
    let lines : k ≡ k2 = cc in
    ap (λ (n : ℕ). Err (error.BadLine n)) lines
loads-one {a} accepted (loading.bad_line k short reads) (loading.told l answer is admits) =
    let same = reads-one accepted.is_program.names accepted.is_program.spaces reads is.reads in cc
loads-one accepted (loading.told l answer is admits) (loading.too_long long) =
    absurd (omega (arith, long, is.short))
loads-one accepted (loading.told l answer is admits) (loading.bad_line k short2 reads2) =
    let same = reads-one accepted.is_program.names accepted.is_program.spaces is.reads reads2 in cc
loads-one {a} accepted (loading.told l x is admits) (loading.told m y is2 admits2) =
    let same = reads-one accepted.is_program.names accepted.is_program.spaces is.reads is2.reads in
    let ledgers : m ≡ l = cc in
    let here : Admits a l y = subst (λ (k : LedgerState). Admits a k y) ledgers admits2 in
    admits-one accepted.some_unit admits here

-- ---- what is told of a text

-- nothing is emitted, and nothing is outside
record IsPlainLedger (l : LedgerState) : Type 0 where
  results : l.state.results ≡ []
  outside : l.state.outside ≡ []

goes-bare : {a : Acceptance} {g h : Gathered} {l : SnapshotLine} → IsPlainLedger g.ledger
    → Goes a (behind g) l (behind h) → IsPlainLedger h.ledger
goes-bare bare (gathering.account l name dths before new) = record { results = bare.results; outside = bare.outside }
goes-bare bare (gathering.contract l name shared before new) = record { results = bare.results; outside = bare.outside }
goes-bare bare (gathering.name l name t before over) = record { results = bare.results; outside = bare.outside }
goes-bare bare (gathering.process g p over) = record { results = bare.results; outside = bare.outside }
goes-bare bare (gathering.message g m over) = record { results = bare.results; outside = bare.outside }
goes-bare bare (gathering.value l p v x over) = bare
goes-bare bare (gathering.list l p v amount items over) = bare
goes-bare bare (gathering.channel l p v name over) = bare

lead-bare : {a : Acceptance} {stand : Stand} {ls : List SnapshotLine} {ledger : LedgerState} (g : Gathered)
    → stand ≡ behind g → IsPlainLedger g.ledger → LeadTo a stand ls ledger → IsPlainLedger ledger
lead-bare g is bare (leading.done h) =
    let same : h ≡ g = cc in
    subst (λ (k : Gathered). IsPlainLedger (ledger_of k)) (sym same)
    (record { results = bare.results; outside = bare.outside })
lead-bare {a} g is bare (leading.line {next = next} l form goes rest) =
    let here : Goes a (behind g) l next = subst (λ (s : Stand). Goes a s l next) is goes in
    let o = onward here in
    lead-bare o.after o.is (goes-bare bare o.goes) rest

lead-forms : {a : Acceptance} {stand : Stand} {ls : List SnapshotLine} {ledger : LedgerState}
    → LeadTo a stand ls ledger → All (IsLine a.program) ls
lead-forms {a} (leading.done g) = All-nil (IsLine a.program)
lead-forms {a} (leading.line {ls = ls} l form goes rest) = All-cons (IsLine a.program) l ls form (lead-forms rest)

-- What a text tells has emitted nothing and has nothing outside, and all its lines have the form.
pub record IsToldLedger (a : Acceptance) (l : LedgerState) : Type 0 where
  pub results : l.state.results ≡ []
  pub outside : l.state.outside ≡ []
  pub lines : All (IsLine a.program) (ledger_lines a.annotations.unit l)

pub reads-told : {a : Acceptance} {text : List ℕ} {l : LedgerState} → Reads a 1 at_head text (Ok l) → IsToldLedger a l
reads-told {a} {text} {l} reads =
    let lines = reads-lines reads in
    let (o, n, spent, ls, is, rest) = head-lines lines.lead in
    let bare = lead-bare (record { ledger = no_ledger o n spent; process = None }) refl
    (record { results = refl; outside = refl }) rest in
    record {
      results = bare.results;
      outside = bare.outside;
      lines = subst (All (IsLine a.program)) (lead-lines lines.lead) (lead-forms lines.lead);
    }

-- its next numbers are low
pub told-low : {a : Acceptance} {l : LedgerState} → IsToldLedger a l → HasLowNumbers l.state
told-low {a} {l} is =
    let unit_line = line.Unit a.annotations.unit in
    let next_line = line.Next l.state.next_object l.state.next_name in
    let spent_line = line.Spent l.state.spent in
    let body = body_lines l in
    let l1 = All-tail (IsLine a.program) line.Head (unit_line ∷ next_line ∷ spent_line ∷ body) is.lines in
    let l2 = All-tail (IsLine a.program) unit_line (next_line ∷ spent_line ∷ body) l1 in
    let next = All-head (IsLine a.program) next_line (spent_line ∷ body) l2 in
    record { objects = next.0; names = next.1 }

-- the first bad line is one of the text's, or the one behind them
pub reads-early : {a : Acceptance} {at k : ℕ} {stand : Stand} {text : List ℕ} {answer : Result LedgerState ℕ}
    → Reads a at stand text answer → answer ≡ Err k → k ≤ at + length text
reads-early (reading.ends at g) is = cc
reads-early {a} {k = k} (reading.goes at stand next text left l answer begins goes rest) is =
    let others : k ≤ at + 1 + length left = reads-early rest is in
    let long = ap length begins.joined ∙ length-append (line_text a.program l) (10 ∷ left) in
    omega (arith, others, long)
reads-early {k = k} (reading.bad at stand text wants none) is =
    let same : at ≡ k = cc in
    omega (arith, same)

-- ---- what is loaded stands for the program

-- What a text is loaded as: its snapshot is the text, it stands for the program, and its next numbers are low.
pub record IsLoadedFrom (a : Acceptance) (text : List ℕ) (l : LedgerState) : Type 0 where
  pub text_is : text ≡ snapshot_text a l
  pub short : length text ≤ longest_snapshot
  pub stands : StandsFor a l
  pub low : HasLowNumbers l.state

admitted-loaded : {a : Acceptance} {text : List ℕ} {told : LedgerState} {answer : Result LedgerState LoadError}
    → IsAccepted a → length text ≤ longest_snapshot → Reads a 1 at_head text (Ok told) → Admits a told answer
    → (l : LedgerState) → answer ≡ Ok l → IsLoadedFrom a text l
admitted-loaded accepted short reads (loading.not_typed unsound) l is = cc
admitted-loaded accepted short reads (loading.no_units sound none) l is = cc
admitted-loaded accepted short reads (loading.not_quiet units pid sound worth ready) l is = cc
admitted-loaded {a} {text} {told} accepted short reads (loading.admitted units sound worth quiet) l is =
    let bare = reads-told reads in
    let same : record told { deposits = units } ≡ l = cc in
    subst (λ (k : LedgerState). IsLoadedFrom a text k) same (record {
      text_is = reads-snapshot reads;
      short = short;
      stands = record {
        settled = record {
          typed = sound.typed;
          outside = bare.outside;
          results = bare.results;
          few = worth.few;
          gas = worth.is;
          contracts = sound.contracts;
        };
        quiet = none_ready-quiet accepted sound.typed quiet;
        no_transaction = sound.no_transaction;
      };
      low = told-low bare;
    })

pub loads-loaded : {a : Acceptance} {text : List ℕ} {l : LedgerState} → IsAccepted a → Loads a text (Ok l)
    → IsLoadedFrom a text l
loads-loaded {l = l} accepted (loading.told told answer is admits) =
    admitted-loaded accepted is.short is.reads admits l refl

-- ---- and the snapshot of a ledger that stands is loaded as it

-- a ledger that is one and stands for the program is in order
stands-orderly : {a : Acceptance} {l : LedgerState} → StandsFor a l → IsLedger l → IsOrderly l
stands-orderly stands is = record {
  even = is.each_account;
  accounts = is.accounts_differ;
  contracts = is.contracts_differ;
  names = stands.settled.typed.numbered.table;
  objects = stands.settled.typed.numbered.ascending;
  variables = stands.settled.typed.numbered.variables;
}

kept-same : (l : LedgerState) → l.state.results ≡ [] → l.state.outside ≡ []
    → l ≡ record (kept l) { deposits = l.deposits }
kept-same l results outside = λ i. record l { state = record l.state { results = results i; outside = outside i } }

sound-stands : {a : Acceptance} {l : LedgerState} → StandsFor a l → IsSoundLedger a (kept l)
sound-stands {a} {l} stands =
    let same = ap (λ (k : LedgerState). k.state) (kept-same l stands.settled.results stands.settled.outside) in
    subst (λ (s : State). IsSoundLedger a (record l { deposits = 0; state = s })) same (record {
      typed = stands.settled.typed;
      contracts = stands.settled.contracts;
      no_transaction = stands.no_transaction;
    })

quiet-none : {a : Acceptance} {l : LedgerState} → StandsFor a l → NoneReady a (kept l).state 0
quiet-none {a} {l} stands =
    let same = ap (λ (k : LedgerState). k.state) (kept-same l stands.settled.results stands.settled.outside) in
    subst (λ (s : State). NoneReady a s 0) same (λ q over. stands.quiet q)

pub stands-loads : {a : Acceptance} {l : LedgerState} → StandsFor a l → IsLedger l
    → All (IsLine a.program) (ledger_lines a.annotations.unit l) → length (snapshot_text a l) ≤ longest_snapshot
    → Loads a (snapshot_text a l) (Ok l)
stands-loads {a} {l} stands is lines short =
    let reads : Reads a 1 at_head (snapshot_text a l) (Ok (kept l)) =
    lines-read 1 (ledger-leads l (stands-orderly stands is) lines) in
    subst (λ (k : LedgerState). Loads a (snapshot_text a l) (Ok k))
    (sym (kept-same l stands.settled.results stands.settled.outside))
    (loading.told (kept l) (Ok (record (kept l) { deposits = l.deposits })) (record { short = short; reads = reads })
    (loading.admitted l.deposits (sound-stands stands)
    (record { few = stands.settled.few; is = stands.settled.gas }) (quiet-none stands)))

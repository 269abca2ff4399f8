-- Lines that lead to a ledger are those of its snapshot; so a ledger has one row of lines.
use Rattle.std.proofs.Common.{◌≡◌, ℕ, ◌+◌, List, [], ◌∷◌, ◌++◌, map, length, zip, None, Ok, refl, ap, sym, subst, ◌∙◌, arith}
use Rattle.std.proofs.lemmas.List.{append-nil, append_assoc, map-append, length-append}
use Rattle.std.proofs.lemmas.List.Concat.{flat_map-append}
use Rattle.std.specs.List.{flat_map}
use Rattle.nomos_ir.specs.declared.ids.TypeId.{TypeId}
use Rattle.nomos_deeds.specs.SeenObjects.{seen_process}
use Rattle.nomos_deeds.specs.declared.sight.SeenProcess.{SeenProcess}
use Rattle.nomos_legal.specs.Ledger.{LedgerState, Contracts}
use Rattle.nomos_machine.specs.State.{NameTypes}
use Rattle.nomos_machine.specs.declared.object.Object.{Object}
use Rattle.nomos_machine.specs.declared.object.Object.TheVariants as object
use Rattle.nomos_machine.specs.declared.object.Process.{Process}
use Rattle.nomos_types.specs.Acceptance.{Acceptance}
use Rattle.nomos_snapshot.proofs.VariableLaws.{value-line, list-line, channel-line}
use Rattle.nomos_snapshot.specs.GatheredLines.{Gathered, Goes, Stand, at_head, behind, ledger_of, settled, unfinished, with_account, with_contract, with_name, with_objects}
use Rattle.nomos_snapshot.specs.GatheredLines as gathering
use Rattle.nomos_snapshot.specs.Line.{line_text, lines_text}
use Rattle.nomos_snapshot.specs.SnapshotReading.{Reads}
use Rattle.nomos_snapshot.specs.SnapshotReading as reading
use Rattle.nomos_snapshot.specs.LineOrder.{LeadTo}
use Rattle.nomos_snapshot.specs.LineOrder as leading
use Rattle.nomos_snapshot.specs.Text.{body_lines, ledger_lines, object_lines, snapshot_text, variable_lines}
use Rattle.nomos_snapshot.specs.declared.line.SnapshotLine.{SnapshotLine}
use Rattle.nomos_snapshot.specs.declared.line.SnapshotLine.TheVariants as line

-- ---- rows of lines

-- a pair more at the end of both
zip-more : {X Y : Type 0} (xs : List X) (ys : List Y) (x : X) (y : Y) → length xs ≡ length ys
    → zip (xs ++ x ∷ []) (ys ++ y ∷ []) ≡ zip xs ys ++ (x, y) ∷ []
zip-more [] [] x y same = refl
zip-more [] (z ∷ ys) x y same = absurd (omega (arith, same))
zip-more (w ∷ xs) [] x y same = absurd (omega (arith, same))
zip-more (w ∷ xs) (z ∷ ys) x y same = ap (λ l. (w, z) ∷ l) (zip-more xs ys x y (omega (arith, same)))

abbrev account_lines : List (List ℕ) → List ℕ → List SnapshotLine
account_lines accounts balances = map (λ e. line.Account e.0 e.1) (zip accounts balances)

abbrev contract_lines : Contracts → List SnapshotLine
contract_lines contracts = map (λ c. line.Contract c.0 c.1) contracts

abbrev name_lines : NameTypes → List SnapshotLine
name_lines types = map (λ t. line.Name t.0 t.1) types

abbrev all_lines : List Object → List SnapshotLine
all_lines objects = flat_map object_lines objects

-- the lines of the four sections
abbrev sections : List SnapshotLine → List SnapshotLine → List SnapshotLine → List SnapshotLine → List SnapshotLine
sections accounts contracts names objects = accounts ++ (contracts ++ (names ++ objects))

-- a line more at the end of one section, where those behind it are empty
more-objects : (accounts contracts names objects more : List SnapshotLine)
    → sections accounts contracts names (objects ++ more) ≡ sections accounts contracts names objects ++ more
more-objects accounts contracts names objects more =
    ap (λ (l : List SnapshotLine). accounts ++ (contracts ++ l)) (sym (append_assoc names objects more))
    ∙ ap (λ (l : List SnapshotLine). accounts ++ l) (sym (append_assoc contracts (names ++ objects) more))
    ∙ sym (append_assoc accounts (contracts ++ (names ++ objects)) more)

more-names : (accounts contracts names more : List SnapshotLine)
    → sections accounts contracts (names ++ more) [] ≡ sections accounts contracts names [] ++ more
more-names accounts contracts names more =
    ap (λ (l : List SnapshotLine). accounts ++ (contracts ++ l))
    (append-nil (names ++ more) ∙ ap (λ (l : List SnapshotLine). l ++ more) (sym (append-nil names)))
    ∙ ap (λ (l : List SnapshotLine). accounts ++ l) (sym (append_assoc contracts (names ++ []) more))
    ∙ sym (append_assoc accounts (contracts ++ (names ++ [])) more)

more-contracts : (accounts contracts more : List SnapshotLine)
    → sections accounts (contracts ++ more) [] [] ≡ sections accounts contracts [] [] ++ more
more-contracts accounts contracts more =
    ap (λ (l : List SnapshotLine). accounts ++ l)
    (append-nil (contracts ++ more) ∙ ap (λ (l : List SnapshotLine). l ++ more) (sym (append-nil contracts)))
    ∙ sym (append_assoc accounts (contracts ++ []) more)

more-accounts : (accounts more : List SnapshotLine)
    → sections (accounts ++ more) [] [] [] ≡ sections accounts [] [] [] ++ more
more-accounts accounts more =
    append-nil (accounts ++ more) ∙ ap (λ (l : List SnapshotLine). l ++ more) (sym (append-nil accounts))

-- ---- what a line adds

-- one balance for each account
abbrev IsEven : LedgerState → Type 0
IsEven l = length l.accounts ≡ length l.state.balances

-- The body of the second ledger has these lines more, and all else that a snapshot says is the same.
record Adds (before after : LedgerState) (more : List SnapshotLine) : Type 0 where
  body : body_lines after ≡ body_lines before ++ more
  next_object : after.state.next_object ≡ before.state.next_object
  next_name : after.state.next_name ≡ before.state.next_name
  spent : after.state.spent ≡ before.state.spent
  even : IsEven after

-- nothing behind the objects
pub no-more : (l : LedgerState) → with_objects l [] ≡ l
no-more l = ap (λ (os : List Object). record l { state = record l.state { objects = os } }) (append-nil l.state.objects)

-- objects more
objects-added : (l : LedgerState) (objects more : List Object) (lines : List SnapshotLine) → IsEven l
    → all_lines more ≡ all_lines objects ++ lines → Adds (with_objects l objects) (with_objects l more) lines
objects-added l objects more lines even is = record {
  body =
      ap (λ (ls : List SnapshotLine). sections (account_lines l.accounts l.state.balances)
      (contract_lines l.contracts) (name_lines l.state.types) ls)
      (flat_map-append object_lines l.state.objects more
      ∙ ap (λ (ls : List SnapshotLine). all_lines l.state.objects ++ ls) is
      ∙ sym (append_assoc (all_lines l.state.objects) (all_lines objects) lines)
      ∙ ap (λ (ls : List SnapshotLine). ls ++ lines) (sym (flat_map-append object_lines l.state.objects objects)))
      ∙ more-objects (account_lines l.accounts l.state.balances) (contract_lines l.contracts)
      (name_lines l.state.types) (all_lines (l.state.objects ++ objects)) lines;
  next_object = refl;
  next_name = refl;
  spent = refl;
  even = even;
}

-- a name, contract or account more, where nothing stands behind it
name-added : (l : LedgerState) (name : ℕ) (t : TypeId) → IsEven l → l.state.objects ≡ []
    → Adds l (with_name name t l) (line.Name name t ∷ [])
name-added l name t even none = record {
  body =
      ap (λ (os : List Object). sections (account_lines l.accounts l.state.balances) (contract_lines l.contracts)
      (name_lines (l.state.types ++ (name, t) ∷ [])) (all_lines os)) none
      ∙ ap (λ (ls : List SnapshotLine). sections (account_lines l.accounts l.state.balances)
      (contract_lines l.contracts) ls [])
      (map-append (λ (e : ℕ × TypeId). line.Name e.0 e.1) l.state.types ((name, t) ∷ []))
      ∙ more-names (account_lines l.accounts l.state.balances) (contract_lines l.contracts)
      (name_lines l.state.types) (line.Name name t ∷ [])
      ∙ ap (λ (os : List Object). sections (account_lines l.accounts l.state.balances) (contract_lines l.contracts)
      (name_lines l.state.types) (all_lines os) ++ line.Name name t ∷ []) (sym none);
  next_object = refl;
  next_name = refl;
  spent = refl;
  even = even;
}

contract-added : (l : LedgerState) (name : List ℕ) (shared : ℕ) → IsEven l → l.state.types ≡ [] → l.state.objects ≡ []
    → Adds l (with_contract name shared l) (line.Contract name shared ∷ [])
contract-added l name shared even no_types none = record {
  body =
      ap (λ (ts : NameTypes). sections (account_lines l.accounts l.state.balances)
      (contract_lines (l.contracts ++ (name, shared) ∷ [])) (name_lines ts) (all_lines l.state.objects)) no_types
      ∙ ap (λ (os : List Object). sections (account_lines l.accounts l.state.balances)
      (contract_lines (l.contracts ++ (name, shared) ∷ [])) [] (all_lines os)) none
      ∙ ap (λ (ls : List SnapshotLine). sections (account_lines l.accounts l.state.balances) ls [] [])
      (map-append (λ (c : List ℕ × ℕ). line.Contract c.0 c.1) l.contracts ((name, shared) ∷ []))
      ∙ more-contracts (account_lines l.accounts l.state.balances) (contract_lines l.contracts)
      (line.Contract name shared ∷ [])
      ∙ ap (λ (os : List Object). sections (account_lines l.accounts l.state.balances)
      (contract_lines l.contracts) [] (all_lines os) ++ line.Contract name shared ∷ []) (sym none)
      ∙ ap (λ (ts : NameTypes). sections (account_lines l.accounts l.state.balances)
      (contract_lines l.contracts) (name_lines ts) (all_lines l.state.objects) ++ line.Contract name shared ∷ [])
      (sym no_types);
  next_object = refl;
  next_name = refl;
  spent = refl;
  even = even;
}

account-added : (l : LedgerState) (name : List ℕ) (dths : ℕ) → IsEven l → l.contracts ≡ [] → l.state.types ≡ []
    → l.state.objects ≡ [] → Adds l (with_account name dths l) (line.Account name dths ∷ [])
account-added l name dths even no_contracts no_types none =
    let accounts : List (List ℕ) = l.accounts ++ name ∷ [] in
    let balances : List ℕ = l.state.balances ++ dths ∷ [] in
    let Three : Contracts → NameTypes → List Object → List SnapshotLine =
    λ cs ts os. contract_lines cs ++ (name_lines ts ++ all_lines os) in
    let nothing : Three l.contracts l.state.types l.state.objects ≡ [] =
    ap (λ (cs : Contracts). Three cs l.state.types l.state.objects) no_contracts
    ∙ ap (λ (ts : NameTypes). Three [] ts l.state.objects) no_types
    ∙ ap (λ (os : List Object). Three [] [] os) none in
    record {
      body =
          ap (λ (ls : List SnapshotLine). account_lines accounts balances ++ ls) nothing
          ∙ ap (λ (es : List (List ℕ × ℕ)). map (λ e. line.Account e.0 e.1) es ++ [])
          (zip-more l.accounts l.state.balances name dths even)
          ∙ ap (λ (ls : List SnapshotLine). ls ++ [])
          (map-append (λ (e : List ℕ × ℕ). line.Account e.0 e.1) (zip l.accounts l.state.balances) ((name, dths) ∷ []))
          ∙ more-accounts (account_lines l.accounts l.state.balances) (line.Account name dths ∷ [])
          ∙ ap (λ (ls : List SnapshotLine). (account_lines l.accounts l.state.balances ++ ls) ++ line.Account name dths
          ∷ [])
          (sym nothing);
      next_object = refl;
      next_name = refl;
      spent = refl;
      even =
          length-append l.accounts (name ∷ []) ∙ ap (λ n. n + 1) even
          ∙ sym (length-append l.state.balances (dths ∷ []));
    }

-- the same behind no process
settled-adds : {l k : LedgerState} {more : List SnapshotLine} → Adds l k more
    → Adds (with_objects l []) (with_objects k []) more
settled-adds {l} {k} {more} adds =
    subst (λ (m : LedgerState). Adds m (with_objects k []) more) (sym (no-more l))
    (subst (λ (m : LedgerState). Adds l m more) (sym (no-more k)) adds)

-- a process with one line more
process-more : (p q : Process) (l : SnapshotLine) → seen_process q ≡ seen_process p
    → variable_lines q ≡ variable_lines p ++ l ∷ []
    → all_lines (object.Process q ∷ []) ≡ all_lines (object.Process p ∷ []) ++ l ∷ []
process-more p q l same is =
    append-nil (line.Process (seen_process q) ∷ variable_lines q)
    ∙ ap (λ (x : SeenProcess). line.Process x ∷ variable_lines q) same
    ∙ ap (λ (ls : List SnapshotLine). line.Process (seen_process p) ∷ ls) is
    ∙ ap (λ (ls : List SnapshotLine). ls ++ l ∷ [])
    (sym (append-nil (line.Process (seen_process p) ∷ variable_lines p)))

-- what a line adds to what was gathered
goes-adds : {a : Acceptance} {g h : Gathered} {l : SnapshotLine} → IsEven g.ledger → Goes a (behind g) l (behind h)
    → Adds (ledger_of g) (ledger_of h) (l ∷ [])
goes-adds even (gathering.account l name dths before new) =
    settled-adds (account-added l name dths even before.0 before.1 before.2)
goes-adds even (gathering.contract l name shared before new) =
    settled-adds (contract-added l name shared even before.0 before.1)
goes-adds even (gathering.name l name t before over) = settled-adds (name-added l name t even before)
goes-adds even (gathering.process g p over) =
    subst (λ (m : LedgerState). Adds m (with_objects (ledger_of g) (object.Process (gathering.process_with p) ∷ []))
    (line.Process p ∷ [])) (no-more (ledger_of g))
    (objects-added (ledger_of g) [] (object.Process (gathering.process_with p) ∷ []) (line.Process p ∷ []) even refl)
goes-adds even (gathering.message g m over) =
    subst (λ (k : LedgerState). Adds k (with_objects (with_objects (ledger_of g) (object.Message m ∷ [])) [])
    (line.Message m ∷ [])) (no-more (ledger_of g))
    (subst (λ (k : LedgerState). Adds (with_objects (ledger_of g) []) k (line.Message m ∷ []))
    (sym (no-more (with_objects (ledger_of g) (object.Message m ∷ []))))
    (objects-added (ledger_of g) [] (object.Message m ∷ []) (line.Message m ∷ []) even refl))
goes-adds even (gathering.value l p v x over) =
    objects-added l (object.Process p ∷ []) (object.Process (gathering.with_value v x p) ∷ []) (line.Value v x ∷ [])
    even
    (process-more p (gathering.with_value v x p) (line.Value v x) refl (value-line p v over x))
goes-adds even (gathering.list l p v amount items over) =
    objects-added l (object.Process p ∷ []) (object.Process (gathering.with_list v amount items p) ∷ [])
    (line.List v amount items ∷ []) even
    (process-more p (gathering.with_list v amount items p) (line.List v amount items) refl
    (list-line p v over amount items))
goes-adds even (gathering.channel l p v name over) =
    objects-added l (object.Process p ∷ []) (object.Process (gathering.with_channel v name p) ∷ [])
    (line.Channel v name ∷ []) even
    (process-more p (gathering.with_channel v name p) (line.Channel v name) refl (channel-line p v over name))

-- ---- all lines

-- behind what was gathered stands what is gathered
pub record Onward (a : Acceptance) (g : Gathered) (l : SnapshotLine) (next : Stand) : Type 0 where
  pub after : Gathered
  pub is : next ≡ behind after
  pub goes : Goes a (behind g) l (behind after)

pub onward : {a : Acceptance} {g : Gathered} {l : SnapshotLine} {next : Stand} → Goes a (behind g) l next
    → Onward a g l next
onward (gathering.account l name dths before new) =
    record { after = _; is = refl; goes = gathering.account l name dths before new }
onward (gathering.contract l name shared before new) =
    record { after = _; is = refl; goes = gathering.contract l name shared before new }
onward (gathering.name l name t before over) =
    record { after = _; is = refl; goes = gathering.name l name t before over }
onward (gathering.process g p over) = record { after = _; is = refl; goes = gathering.process g p over }
onward (gathering.message g m over) = record { after = _; is = refl; goes = gathering.message g m over }
onward (gathering.value l p v x over) = record { after = _; is = refl; goes = gathering.value l p v x over }
onward (gathering.list l p v amount items over) =
    record { after = _; is = refl; goes = gathering.list l p v amount items over }
onward (gathering.channel l p v name over) = record { after = _; is = refl; goes = gathering.channel l p v name over }

-- lines one after another
adds-both : {l k m : LedgerState} {x : SnapshotLine} {ls : List SnapshotLine} → Adds l k (x ∷ []) → Adds k m ls
    → Adds l m (x ∷ ls)
adds-both {l} {x = x} {ls} first rest = record {
  body =
      rest.body ∙ ap (λ (b : List SnapshotLine). b ++ ls) first.body
      ∙ append_assoc (body_lines l) (x ∷ []) ls;
  next_object = rest.next_object ∙ first.next_object;
  next_name = rest.next_name ∙ first.next_name;
  spent = rest.spent ∙ first.spent;
  even = rest.even;
}

lead-adds : {a : Acceptance} {stand : Stand} {ls : List SnapshotLine} {ledger : LedgerState} (g : Gathered)
    → stand ≡ behind g → IsEven g.ledger → LeadTo a stand ls ledger → Adds (ledger_of g) ledger ls
lead-adds g is even (leading.done h) =
    let same : h ≡ g = cc in
    subst (λ (k : Gathered). Adds (ledger_of g) (ledger_of k) []) (sym same) (record {
      body = sym (append-nil (body_lines (ledger_of g)));
      next_object = refl;
      next_name = refl;
      spent = refl;
      even = even;
    })
lead-adds {a} {stand} g is even (leading.line {next = next} l is_line goes rest) =
    let here : Goes a (behind g) l next = subst (λ (s : Stand). Goes a s l next) is goes in
    let o = onward here in
    let adds : Adds (ledger_of g) (ledger_of o.after) (l ∷ []) = goes-adds even o.goes in
    adds-both adds (lead-adds o.after o.is adds.even rest)

-- the first four lines, and what stands behind them
pub head-lines : {a : Acceptance} {lines : List SnapshotLine} {ledger : LedgerState} → LeadTo a at_head lines ledger
    → (next_object : ℕ) × (next_name : ℕ) × (spent : ℕ) × (ls : List SnapshotLine)
    × (lines ≡ line.Head ∷ line.Unit a.annotations.unit ∷ line.Next next_object next_name ∷ line.Spent spent ∷ ls)
    × LeadTo a (settled (gathering.no_ledger next_object next_name spent)) ls ledger
head-lines (leading.line l1 i1 gathering.head (leading.line l2 i2 gathering.unit (leading.line l3 i3
    (gathering.next o n) (leading.line {ls = ls} l4 i4 (gathering.spent o2 n2 g) rest)))) =
    (o, n, g, ls, refl, rest)

-- Lines that lead to a ledger are those of its snapshot.
pub lead-lines : {a : Acceptance} {lines : List SnapshotLine} {ledger : LedgerState} → LeadTo a at_head lines ledger
    → lines ≡ ledger_lines a.annotations.unit ledger
lead-lines {a} {lines} {ledger} lead =
    let (o, n, g, ls, is, rest) = head-lines lead in
    let adds = lead-adds (record { ledger = gathering.no_ledger o n g; process = None }) refl refl rest in
    is
    ∙ ap (λ (k : ℕ). line.Head ∷ line.Unit a.annotations.unit ∷ line.Next k n ∷ line.Spent g ∷ ls)
    (sym adds.next_object)
    ∙ ap (λ (k : ℕ). line.Head ∷ line.Unit a.annotations.unit ∷ line.Next ledger.state.next_object k ∷ line.Spent g
    ∷ ls)
    (sym adds.next_name)
    ∙ ap (λ (k : ℕ). line.Head ∷ line.Unit a.annotations.unit
    ∷ line.Next ledger.state.next_object ledger.state.next_name ∷ line.Spent k ∷ ls) (sym adds.spent)
    ∙ ap (λ (b : List SnapshotLine). line.Head ∷ line.Unit a.annotations.unit
    ∷ line.Next ledger.state.next_object ledger.state.next_name ∷ line.Spent ledger.state.spent ∷ b) (sym adds.body)

-- ---- texts

-- a text that tells a ledger is one of lines that lead to it
pub record LinesOf (a : Acceptance) (stand : Stand) (text : List ℕ) (ledger : LedgerState) : Type 0 where
  pub lines : List SnapshotLine
  pub lead : LeadTo a stand lines ledger
  pub is : text ≡ lines_text a.program lines

pub reads-lines : {a : Acceptance} {at : ℕ} {stand : Stand} {text : List ℕ} {ledger : LedgerState}
    → Reads a at stand text (Ok ledger) → LinesOf a stand text ledger
reads-lines (reading.ends at g) = record { lines = []; lead = leading.done g; is = refl }
reads-lines {a} (reading.goes at stand next text left l answer begins goes rest) =
    let others = reads-lines rest in
    record {
      lines = l ∷ others.lines;
      lead = leading.line l begins.is goes others.lead;
      is =
          begins.joined
          ∙ ap (λ (t : List ℕ). line_text a.program l ++ 10 ∷ t) others.is
          ∙ sym (append_assoc (line_text a.program l) (10 ∷ []) (lines_text a.program others.lines));
    }

-- So a text that tells a ledger is its snapshot.
pub reads-snapshot : {a : Acceptance} {text : List ℕ} {ledger : LedgerState} → Reads a 1 at_head text (Ok ledger)
    → text ≡ snapshot_text a ledger
reads-snapshot {a} reads =
    let told = reads-lines reads in
    told.is ∙ ap (lines_text a.program) (lead-lines told.lead)

-- And the lines that lead to a ledger make a text that tells it.
pub lines-read : {a : Acceptance} (at : ℕ) {stand : Stand} {lines : List SnapshotLine} {ledger : LedgerState}
    → LeadTo a stand lines ledger → Reads a at stand (lines_text a.program lines) (Ok ledger)
lines-read at (leading.done g) = reading.ends at g
lines-read {a} at (leading.line {stand = stand} {next} {ls} {ledger} l is goes rest) =
    reading.goes at stand next (lines_text a.program (l ∷ ls)) (lines_text a.program ls) l (Ok ledger)
    (record {
      is = is;
      joined = append_assoc (line_text a.program l) (10 ∷ []) (lines_text a.program ls);
    })
    goes (lines-read (at + 1) rest)

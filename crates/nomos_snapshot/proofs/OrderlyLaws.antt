-- The lines of a ledger that is in order lead to it.
use Rattle.std.proofs.Common.{◌≡◌, ◌≢◌, ℕ, suc, ◌+◌, ◌<◌, false, List, [], ◌∷◌, ◌++◌, length, map, zip, All, Less, Some, None, refl, ap, sym, subst, ◌∙◌, inl, inr, ltb, arith}
use Rattle.std.specs.Prelude.{AllPairs, bytes_eq}
use Rattle.std.specs.List.{AllByRecursion, flat_map, position_or_len}
use Rattle.std.specs.List.Sorted.{IsStrictlySortedBy}
use Rattle.std.specs.Ordering.{nat_cmp}
use Rattle.std.proofs.lemmas.Bool.{cases_Bool}
use Rattle.std.proofs.lemmas.Bool.Decides.{nat_tests}
use Rattle.std.proofs.lemmas.Cmp.{ranked}
use Rattle.std.proofs.lemmas.List.{append-nil, append_assoc}
use Rattle.std.proofs.lemmas.List.Elements.{All-cons, All-head, All-nil, All-push, All-tail}
use Rattle.std.proofs.lemmas.Map.Keys.{sorted_head, sorted_tail}
use Rattle.std.proofs.lemmas.Slice.Eq.{bytes_eq-Decides}
use Rattle.nomos_deeds.specs.SeenObjects.{seen_process}
use Rattle.nomos_ir.specs.declared.ids.TypeId.{TypeId}
use Rattle.nomos_legal.specs.Ledger.{Contracts, LedgerState, account_of, shared_name}
use Rattle.nomos_machine.specs.Objects.{object_number}
use Rattle.nomos_machine.specs.State.{NameTypes}
use Rattle.nomos_machine.specs.TypedState.{HasVariables}
use Rattle.nomos_machine.specs.declared.object.Object.{Object}
use Rattle.nomos_machine.specs.declared.object.Object.TheVariants as object
use Rattle.nomos_types.specs.Acceptance.{Acceptance}
use Rattle.nomos_snapshot.specs.GatheredLines.{Gathered, IsOverObjects, at_head, behind, ledger_of, settled, with_objects}
use Rattle.nomos_snapshot.specs.GatheredLines as gathering
use Rattle.nomos_snapshot.specs.LineOrder.{LeadTo}
use Rattle.nomos_snapshot.specs.LineOrder as leading
use Rattle.nomos_snapshot.specs.Line.{IsLine}
use Rattle.nomos_snapshot.specs.Orderly.{IsOrderly, kept}
use Rattle.nomos_snapshot.specs.Text.{ledger_lines, object_lines, variable_lines}
use Rattle.nomos_snapshot.specs.declared.line.SnapshotLine.{SnapshotLine}
use Rattle.nomos_snapshot.specs.declared.line.SnapshotLine.TheVariants as line
use Rattle.nomos_snapshot.proofs.LeadLaws.{no-more}
use Rattle.nomos_snapshot.proofs.ProcessLaws.{all-both, process-lead}

-- ---- parts of rows

pub All-front : {X : Type 0} (P : X → Type 0) (xs ys : List X) → All P (xs ++ ys) → All P xs
All-front P [] ys all = All-nil P
All-front P (x ∷ xs) ys all =
    All-cons P x xs (All-head P x (xs ++ ys) all) (All-front P xs ys (All-tail P x (xs ++ ys) all))

All-back : {X : Type 0} (P : X → Type 0) (xs ys : List X) → All P (xs ++ ys) → All P ys
All-back P [] ys all = all
All-back P (x ∷ xs) ys all = All-back P xs ys (All-tail P x (xs ++ ys) all)

-- ---- objects

-- the ledger with these objects in place of its own
with_these : LedgerState → List Object → LedgerState
with_these l objects = record l { state = record l.state { objects = objects } }

-- the first number is below the others
each-over : {X : Type 0} (number : X → ℕ) (n : ℕ) (xs : List X)
    → AllByRecursion (λ m. nat_cmp n m ≡ Less) (map number xs) → All (λ x. n < number x) xs
each-over number n [] all = All-nil (λ x. n < number x)
each-over number n (x ∷ xs) all =
    All-cons (λ y. n < number y) x xs (ranked n (number x) Less (sym all.0)) (each-over number n xs all.1)

-- what is left is over what was taken, with one more
pushed-under : {X : Type 0} (number : X → ℕ) (done rest : List X) (x : X)
    → All (λ y. All (λ d. number d < number y) done) (x ∷ rest) → IsStrictlySortedBy nat_cmp (map number (x ∷ rest))
    → All (λ y. All (λ d. number d < number y) (done ++ x ∷ [])) rest
pushed-under number done rest x under sorted =
    let before = All-tail (λ y. All (λ d. number d < number y) done) x rest under in
    let above = each-over number (number x) rest (sorted_head nat_cmp (number x) (map number rest) sorted) in
    all-both (λ y. All (λ d. number d < number y) done) (λ y. number x < number y)
    (λ y. All (λ d. number d < number y) (done ++ x ∷ []))
    (λ y was more. All-push (λ d. number d < number y) done x was more) rest before above

objects-lead : {a : Acceptance} (base : LedgerState) (done rest : List Object) (g : Gathered)
    → ledger_of g ≡ with_these base done → All HasVariables rest
    → IsStrictlySortedBy nat_cmp (map object_number rest)
    → All (λ o. All (λ d. object_number d < object_number o) done) rest
    → All (IsLine a.program) (flat_map object_lines rest)
    → LeadTo a (behind g) (flat_map object_lines rest) (with_these base (done ++ rest))
unfolding with_these
objects-lead {a} base done [] g is variables sorted under lines =
    subst (λ (l : LedgerState). LeadTo a (behind g) [] l)
    (is ∙ ap (λ (os : List Object). record base { state = record base.state { objects = os } }) (sym (append-nil done)))
    (leading.done g)
objects-lead {a} base done (object.Message m ∷ rest) g is variables sorted under lines =
    let o : Object = object.Message m in
    let after : Gathered = record { ledger = with_objects (ledger_of g) (o ∷ []); process = None } in
    let others = All-tail (IsLine a.program) (line.Message m) (flat_map object_lines rest) lines in
    let over : IsOverObjects m.number (ledger_of g) =
    subst (λ (l : LedgerState). IsOverObjects m.number l) (sym is)
    (All-head (λ x. All (λ d. object_number d < object_number x) done) o rest under) in
    let lead = objects-lead base (done ++ o ∷ []) rest after
    (no-more (with_objects (ledger_of g) (o ∷ [])) ∙ ap (λ (l : LedgerState). with_objects l (o ∷ [])) is)
    (All-tail HasVariables o rest variables) (sorted_tail nat_cmp m.number (map object_number rest) sorted)
    (pushed-under object_number done rest o under sorted) others in
    leading.line (line.Message m) (All-head (IsLine a.program) (line.Message m) (flat_map object_lines rest) lines)
    (gathering.message g m over)
    (subst (λ (os : List Object). LeadTo a (behind after) (flat_map object_lines rest)
    (record base { state = record base.state { objects = os } })) (append_assoc done (o ∷ []) rest) lead)
objects-lead {a} base done (object.Process p ∷ rest) g is variables sorted under lines =
    let o : Object = object.Process p in
    let after : Gathered = record { ledger = ledger_of g; process = Some p } in
    let own : All (IsLine a.program) (line.Process (seen_process p) ∷ variable_lines p) =
    All-front (IsLine a.program) (line.Process (seen_process p) ∷ variable_lines p) (flat_map object_lines rest)
    lines in
    let others : All (IsLine a.program) (flat_map object_lines rest) =
    All-back (IsLine a.program) (line.Process (seen_process p) ∷ variable_lines p) (flat_map object_lines rest) lines in
    let over : IsOverObjects p.pid (ledger_of g) =
    subst (λ (l : LedgerState). IsOverObjects p.pid l) (sym is)
    (All-head (λ x. All (λ d. object_number d < object_number x) done) o rest under) in
    let lead = objects-lead base (done ++ o ∷ []) rest after (ap (λ (l : LedgerState). with_objects l (o ∷ [])) is)
    (All-tail HasVariables o rest variables) (sorted_tail nat_cmp p.pid (map object_number rest) sorted)
    (pushed-under object_number done rest o under sorted) others in
    process-lead g p (flat_map object_lines rest)
    (record base { state = record base.state { objects = done ++ o ∷ rest } })
    (All-head HasVariables o rest variables) over own
    (subst (λ (os : List Object). LeadTo a (behind after) (flat_map object_lines rest)
    (record base { state = record base.state { objects = os } })) (append_assoc done (o ∷ []) rest) lead)

-- ---- names

-- the ledger with these names, and no object yet
with_names : LedgerState → NameTypes → LedgerState
with_names l types = record l { state = record l.state { types = types; objects = [] } }

names-lead : {a : Acceptance} (base : LedgerState) (done rest : NameTypes) (more : List SnapshotLine)
    (ledger : LedgerState)
    → IsStrictlySortedBy nat_cmp (map (λ t. t.0) rest) → All (λ t. All (λ d. d.0 < t.0) done) rest
    → All (IsLine a.program) (map (λ t. line.Name t.0 t.1) rest)
    → LeadTo a (settled (with_names base (done ++ rest))) more ledger
    → LeadTo a (settled (with_names base done)) (map (λ t. line.Name t.0 t.1) rest ++ more) ledger
unfolding with_names
names-lead {a} base done [] more ledger sorted under lines lead =
    subst (λ (ts : NameTypes).
    LeadTo a (settled (record base { state = record base.state { types = ts; objects = [] } }))
    more ledger) (append-nil done) lead
names-lead {a} base done (t ∷ rest) more ledger sorted under lines lead =
    leading.line (line.Name t.0 t.1)
    (All-head (IsLine a.program) (line.Name t.0 t.1) (map (λ t. line.Name t.0 t.1) rest) lines)
    (gathering.name (with_names base done) t.0 t.1 refl (All-head (λ x. All (λ d. d.0 < x.0) done) t rest under))
    (names-lead base (done ++ t ∷ []) rest more ledger (sorted_tail nat_cmp t.0 (map (λ x. x.0) rest) sorted)
    (pushed-under (λ (x : ℕ × TypeId). x.0) done rest t under sorted)
    (All-tail (IsLine a.program) (line.Name t.0 t.1) (map (λ t. line.Name t.0 t.1) rest) lines)
    (subst (λ (ts : NameTypes).
    LeadTo a (settled (record base { state = record base.state { types = ts; objects = [] } }))
    more ledger) (sym (append_assoc done (t ∷ []) rest)) lead))

-- ---- names that differ

pub pairs-head : {X : Type 0} (R : X → X → Type 0) (x : X) (xs : List X) → AllPairs R (x ∷ xs) → All (λ y. R x y) xs
pairs-head R x xs pairs = λ k d within. pairs 0 (suc k) d (omega arith) (omega (arith, within))

pub pairs-tail : {X : Type 0} (R : X → X → Type 0) (x : X) (xs : List X) → AllPairs R (x ∷ xs) → AllPairs R xs
pairs-tail R x xs pairs = λ i j d before within. pairs (suc i) (suc j) d (omega (arith, before)) (omega (arith, within))

-- what is left differs from what was taken, with one more
pushed-apart : {X : Type 0} (R : X → X → Type 0) (done rest : List X) (x : X)
    → All (λ y. All (λ d. R d y) done) (x ∷ rest)
    → AllPairs R (x ∷ rest) → All (λ y. All (λ d. R d y) (done ++ x ∷ [])) rest
pushed-apart R done rest x apart pairs =
    let before = All-tail (λ y. All (λ d. R d y) done) x rest apart in
    let others = pairs-head R x rest pairs in
    all-both (λ y. All (λ d. R d y) done) (λ y. R x y) (λ y. All (λ d. R d y) (done ++ x ∷ []))
    (λ y was more. All-push (λ d. R d y) done x was more) rest before others

text-differs : (m n : List ℕ) → m ≢ n → bytes_eq m n ≡ false
text-differs m n other = elim (cases_Bool (bytes_eq m n)) [
  | inl same ↦ absurd (other ((bytes_eq-Decides m n).0 same))
  | inr other_text ↦ other_text
]

-- a contract whose name none has
no-contract : (contracts : Contracts) (name : List ℕ) → All (λ c. c.0 ≢ name) contracts
    → shared_name contracts name ≡ None
no-contract [] name all = refl
no-contract (c ∷ contracts) name all =
    rw (text-differs c.0 name (All-head (λ d. d.0 ≢ name) c contracts all))
    (no-contract contracts name (All-tail (λ d. d.0 ≢ name) c contracts all))

-- the ledger with these contracts, and no name or object yet
with_contracts : LedgerState → Contracts → LedgerState
with_contracts l contracts = record l { contracts = contracts; state = record l.state { types = []; objects = [] } }

contracts-lead : {a : Acceptance} (base : LedgerState) (done rest : Contracts) (more : List SnapshotLine)
    (ledger : LedgerState) → AllPairs (λ c d. c.0 ≢ d.0) rest → All (λ c. All (λ d. d.0 ≢ c.0) done) rest
    → All (IsLine a.program) (map (λ c. line.Contract c.0 c.1) rest)
    → LeadTo a (settled (with_contracts base (done ++ rest))) more ledger
    → LeadTo a (settled (with_contracts base done)) (map (λ c. line.Contract c.0 c.1) rest ++ more) ledger
unfolding with_contracts
contracts-lead {a} base done [] more ledger pairs apart lines lead =
    subst (λ (cs : Contracts). LeadTo a (settled (record base {
      contracts = cs;
      state = record base.state { types = []; objects = [] };
    })) more ledger) (append-nil done) lead
contracts-lead {a} base done (c ∷ rest) more ledger pairs apart lines lead =
    leading.line (line.Contract c.0 c.1)
    (All-head (IsLine a.program) (line.Contract c.0 c.1) (map (λ c. line.Contract c.0 c.1) rest) lines)
    (gathering.contract (with_contracts base done) c.0 c.1 (refl, refl)
    (no-contract done c.0 (All-head (λ x. All (λ d. d.0 ≢ x.0) done) c rest apart)))
    (contracts-lead base (done ++ c ∷ []) rest more ledger (pairs-tail (λ x y. x.0 ≢ y.0) c rest pairs)
    (pushed-apart (λ d x. d.0 ≢ x.0) done rest c apart pairs)
    (All-tail (IsLine a.program) (line.Contract c.0 c.1) (map (λ c. line.Contract c.0 c.1) rest) lines)
    (subst (λ (cs : Contracts). LeadTo a (settled (record base {
      contracts = cs;
      state = record base.state { types = []; objects = [] };
    })) more ledger) (sym (append_assoc done (c ∷ []) rest)) lead))

-- ---- accounts

none-placed : (names : List (List ℕ)) (name : List ℕ) → All (λ m. m ≢ name) names
    → position_or_len (λ m. bytes_eq m name) names ≡ length names
none-placed [] name all = refl
none-placed (m ∷ names) name all =
    let at : position_or_len (λ n. bytes_eq n name) (m ∷ names) ≡ 1 + position_or_len (λ n. bytes_eq n name) names =
    rw (text-differs m name (All-head (λ n. n ≢ name) m names all)) refl in
    let rest = none-placed names name (All-tail (λ n. n ≢ name) m names all) in
    omega (arith, at, rest)

no-account : (names : List (List ℕ)) (name : List ℕ) → All (λ m. m ≢ name) names → account_of names name ≡ None
no-account names name all =
    let at = none-placed names name all in
    elim (cases_Bool (ltb (position_or_len (λ m. bytes_eq m name) names) (length names))) [
      | inl some ↦ absurd (grind (arith, nat_tests))
      | inr past ↦ rw past refl
    ]

-- the ledger with these accounts, and nothing behind them yet
with_accounts : LedgerState → List (List ℕ) → List ℕ → LedgerState
with_accounts l accounts balances = record l {
  accounts = accounts;
  contracts = [];
  state = record l.state { balances = balances; types = []; objects = [] };
}

accounts-lead : {a : Acceptance} (base : LedgerState) (done rest : List (List ℕ)) (paid owed : List ℕ)
    (more : List SnapshotLine) (ledger : LedgerState) → length rest ≡ length owed → AllPairs (λ m n. m ≢ n) rest
    → All (λ n. All (λ m. m ≢ n) done) rest → All (IsLine a.program) (map (λ e. line.Account e.0 e.1) (zip rest owed))
    → LeadTo a (settled (with_accounts base (done ++ rest) (paid ++ owed))) more ledger
    → LeadTo a (settled (with_accounts base done paid)) (map (λ e. line.Account e.0 e.1) (zip rest owed) ++ more) ledger
unfolding with_accounts
accounts-lead {a} base done [] paid [] more ledger even pairs apart lines lead =
    let here : with_accounts base (done ++ []) (paid ++ []) ≡ with_accounts base done paid =
    λ i. record base {
      accounts = append-nil done i;
      contracts = [];
      state = record base.state { balances = append-nil paid i; types = []; objects = [] };
    } in
    subst (λ (l : LedgerState). LeadTo a (settled l) more ledger) here lead
accounts-lead base done [] paid (b ∷ owed) more ledger even pairs apart lines lead = absurd (omega (arith, even))
accounts-lead base done (n ∷ rest) paid [] more ledger even pairs apart lines lead = absurd (omega (arith, even))
accounts-lead {a} base done (n ∷ rest) paid (b ∷ owed) more ledger even pairs apart lines lead =
    let there : with_accounts base (done ++ n ∷ rest) (paid ++ b ∷ owed)
    ≡ with_accounts base ((done ++ n ∷ []) ++ rest) ((paid ++ b ∷ []) ++ owed) =
    λ i. record base {
      accounts = sym (append_assoc done (n ∷ []) rest) i;
      contracts = [];
      state = record base.state { balances = sym (append_assoc paid (b ∷ []) owed) i; types = []; objects = [] };
    } in
    leading.line (line.Account n b)
    (All-head (IsLine a.program) (line.Account n b) (map (λ e. line.Account e.0 e.1) (zip rest owed)) lines)
    (gathering.account (with_accounts base done paid) n b (refl, refl, refl)
    (no-account done n (All-head (λ x. All (λ m. m ≢ x) done) n rest apart)))
    (accounts-lead base (done ++ n ∷ []) rest (paid ++ b ∷ []) owed more ledger (omega (arith, even))
    (pairs-tail (λ x y. x ≢ y) n rest pairs) (pushed-apart (λ d x. d ≢ x) done rest n apart pairs)
    (All-tail (IsLine a.program) (line.Account n b) (map (λ e. line.Account e.0 e.1) (zip rest owed)) lines)
    (subst (λ (l : LedgerState). LeadTo a (settled l) more ledger) there lead))

-- ---- the whole

-- nothing stands before the first
all-first : {X : Type 0} (R : X → X → Type 0) (xs : List X) → All (λ x. All (λ d. R d x) []) xs
all-first R [] = All-nil (λ x. All (λ d. R d x) [])
all-first R (x ∷ xs) = All-cons (λ y. All (λ d. R d y) []) x xs (All-nil (λ d. R d x)) (all-first R xs)

-- So the lines of a ledger in order, each of which has the form, lead to the ledger, but for what a snapshot lacks.
pub ledger-leads : {a : Acceptance} (l : LedgerState) → IsOrderly l
    → All (IsLine a.program) (ledger_lines a.annotations.unit l)
    → LeadTo a at_head (ledger_lines a.annotations.unit l) (kept l)
unfolding with_these with_names with_contracts with_accounts
ledger-leads {a} l orderly lines =
    let accounts = map (λ (e : List ℕ × ℕ). line.Account e.0 e.1) (zip l.accounts l.state.balances) in
    let contracts = map (λ (c : List ℕ × ℕ). line.Contract c.0 c.1) l.contracts in
    let names = map (λ (t : ℕ × TypeId). line.Name t.0 t.1) l.state.types in
    let objects = flat_map object_lines l.state.objects in
    let unit_line = line.Unit a.annotations.unit in
    let next_line = line.Next l.state.next_object l.state.next_name in
    let spent_line = line.Spent l.state.spent in
    let body = accounts ++ (contracts ++ (names ++ objects)) in
    let l1 = All-tail (IsLine a.program) line.Head (unit_line ∷ next_line ∷ spent_line ∷ body) lines in
    let l2 = All-tail (IsLine a.program) unit_line (next_line ∷ spent_line ∷ body) l1 in
    let l3 = All-tail (IsLine a.program) next_line (spent_line ∷ body) l2 in
    let l4 = All-tail (IsLine a.program) spent_line body l3 in
    let l5 = All-back (IsLine a.program) accounts (contracts ++ (names ++ objects)) l4 in
    let l6 = All-back (IsLine a.program) contracts (names ++ objects) l5 in
    let l7 = All-back (IsLine a.program) names objects l6 in
    leading.line line.Head (All-head (IsLine a.program) line.Head (unit_line ∷ next_line ∷ spent_line ∷ body) lines)
    gathering.head
    (leading.line unit_line (All-head (IsLine a.program) unit_line (next_line ∷ spent_line ∷ body) l1) gathering.unit
    (leading.line next_line (All-head (IsLine a.program) next_line (spent_line ∷ body) l2)
    (gathering.next l.state.next_object l.state.next_name)
    (leading.line spent_line (All-head (IsLine a.program) spent_line body l3)
    (gathering.spent l.state.next_object l.state.next_name l.state.spent)
    (accounts-lead (kept l) [] l.accounts [] l.state.balances (contracts ++ (names ++ objects)) (kept l) orderly.even
    orderly.accounts (all-first (λ m n. m ≢ n) l.accounts)
    (All-front (IsLine a.program) accounts (contracts ++ (names ++ objects)) l4)
    (contracts-lead (kept l) [] l.contracts (names ++ objects) (kept l) orderly.contracts
    (all-first (λ c d. c.0 ≢ d.0) l.contracts) (All-front (IsLine a.program) contracts (names ++ objects) l5)
    (names-lead (kept l) [] l.state.types objects (kept l) orderly.names
    (all-first (λ (c d : ℕ × TypeId). c.0 < d.0) l.state.types) (All-front (IsLine a.program) names objects l6)
    (objects-lead (kept l) [] l.state.objects (record { ledger = with_names (kept l) l.state.types; process = None })
    (no-more (with_names (kept l) l.state.types)) orderly.variables orderly.objects
    (all-first (λ d o. object_number d < object_number o) l.state.objects) l7)))))))

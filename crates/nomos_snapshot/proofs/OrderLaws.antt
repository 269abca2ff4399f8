-- What a text tells is in order, and has no more accounts than the text has bytes.
use Rattle.std.proofs.Common.{◌≡◌, ◌≢◌, ℕ, ◌+◌, ◌<◌, ◌≤◌, ◌==◌, false, List, [], ◌∷◌, ◌++◌, length, map, zip, All, Less, Option, Some, None, Ok, refl, ap, sym, subst, ◌∙◌, inl, inr, ltb, cond, ne_eqb, arith}
use Rattle.std.specs.Prelude.{AllPairs, bytes_eq}
use Rattle.std.specs.List.{AllByRecursion, flat_map, position_or_len}
use Rattle.std.specs.List.Sorted.{IsStrictlySortedBy}
use Rattle.std.specs.Map.{keys_of}
use Rattle.std.specs.Ordering.{nat_cmp}
use Rattle.std.specs.Cmp.{nat_cmp_is}
use Rattle.std.proofs.lemmas.Bool.{cases_Bool, cases_eq}
use Rattle.std.proofs.lemmas.Bool.Decides.{nat_tests}
use Rattle.std.proofs.lemmas.List.{length-append, length-map, map-append}
use Rattle.std.proofs.lemmas.List.Elements.{All-cons, All-head, All-nil, All-push, All-tail}
use Rattle.std.proofs.lemmas.List.Kept.{AllPairs-cons}
use Rattle.std.proofs.lemmas.Map.Keys.{sorted_head, sorted_tail}
use Rattle.std.proofs.lemmas.Slice.Eq.{bytes_eq-Decides}
use Rattle.nomos_ir.specs.Bindings.{IsAscending, bound_to, by_number}
use Rattle.nomos_ir.specs.Value.{Value}
use Rattle.nomos_ir.specs.declared.ids.TypeId.{TypeId}
use Rattle.nomos_ir.specs.declared.ids.VarId.{VarId}
use Rattle.nomos_deeds.specs.declared.sight.SeenProcess.{SeenProcess}
use Rattle.nomos_legal.specs.Ledger.{Contracts, LedgerState, account_of, shared_name}
use Rattle.nomos_machine.specs.Objects.{object_number}
use Rattle.nomos_machine.specs.TypedState.{HasVariables, VariablesDiffer}
use Rattle.nomos_machine.specs.declared.object.Object.{Object}
use Rattle.nomos_machine.specs.declared.object.Object.TheVariants as object
use Rattle.nomos_machine.specs.declared.object.PotentialList.{PotentialList}
use Rattle.nomos_machine.specs.declared.object.Process.{Process}
use Rattle.nomos_machine.proofs.PutLaws.{push-order}
use Rattle.nomos_machine.proofs.StartingLaws.{no-order}
use Rattle.nomos_types.specs.Acceptance.{Acceptance}
use Rattle.nomos_types.specs.Judgement.{count_one}
use Rattle.nomos_snapshot.specs.GatheredLines.{Gathered, Goes, IsOverObjects, IsOverVariables, Stand, at_head, behind, ledger_of, no_ledger, process_with, with_account, with_channel, with_contract, with_list, with_name, with_objects, with_value}
use Rattle.nomos_snapshot.specs.GatheredLines as gathering
use Rattle.nomos_snapshot.specs.LineOrder.{LeadTo}
use Rattle.nomos_snapshot.specs.LineOrder as leading
use Rattle.nomos_snapshot.specs.Line.{line_text, lines_text}
use Rattle.nomos_snapshot.specs.Orderly.{IsOrderly}
use Rattle.nomos_snapshot.specs.SnapshotReading.{Reads}
use Rattle.nomos_snapshot.specs.Text.{ledger_lines, object_lines}
use Rattle.nomos_snapshot.specs.declared.line.SnapshotLine.{SnapshotLine}
use Rattle.nomos_snapshot.specs.declared.line.SnapshotLine.TheVariants as line
use Rattle.nomos_ir.specs.declared.lists.ProgramLists.{ProgramLists}
use Rattle.nomos_snapshot.proofs.LeadLaws.{head-lines, no-more, onward, reads-lines, reads-snapshot}
use Rattle.nomos_snapshot.proofs.OrderlyLaws.{All-front, pairs-head, pairs-tail}

-- ---- variables

-- a variable over all others comes behind them
key-push : {X : Type 0} (w v : VarId) (x : X) (b : List (VarId × X))
    → AllByRecursion (λ u. by_number w u ≡ Less) (keys_of b) → w.0 < v.0
    → AllByRecursion (λ u. by_number w u ≡ Less) (keys_of (b ++ (v, x) ∷ []))
key-push w v x [] over lower = (sym (nat_cmp_is w.0 v.0 Less lower), tt)
key-push w v x (e ∷ b) over lower = (over.0, key-push w v x b over.1 lower)

ascending-cons : {X : Type 0} (e : VarId × X) (b : List (VarId × X))
    → AllByRecursion (λ u. by_number e.0 u ≡ Less) (keys_of b) → IsAscending b → IsAscending (e ∷ b)
unfolding IsStrictlySortedBy
ascending-cons e b over ascending = (over, ascending)

ascending-none : IsStrictlySortedBy by_number []
unfolding IsStrictlySortedBy
ascending-none = tt

ascending-push : {X : Type 0} (v : VarId) (x : X) (b : List (VarId × X)) → IsAscending b → All (λ e. e.0.0 < v.0) b
    → IsAscending (b ++ (v, x) ∷ [])
ascending-push v x [] ascending below = ascending-cons (v, x) [] tt ascending
ascending-push v x (e ∷ b) ascending below =
    ascending-cons e (b ++ (v, x) ∷ [])
    (key-push e.0 v x b (sorted_head by_number e.0 (keys_of b) ascending) (All-head (λ f. f.0.0 < v.0) e b below))
    (ascending-push v x b (sorted_tail by_number e.0 (keys_of b) ascending) (All-tail (λ f. f.0.0 < v.0) e b below))

-- what is bound, where the test of the first variable is known to fail
pub bound-past : {X : Type 0} (v : ℕ) (e : VarId × X) (b : List (VarId × X)) → e.0.0 ≢ v
    → bound_to v (e ∷ b) ≡ bound_to v b
bound-past {X} v e b other =
    ap (λ (t : _). cond t (Some e.1) (bound_to v b)) (ne_eqb e.0.0 v other)

bound-push : {X : Type 0} (w : ℕ) (v : VarId) (x : X) (b : List (VarId × X)) → v.0 ≢ w
    → bound_to w (b ++ (v, x) ∷ []) ≡ bound_to w b
bound-push w v x [] other = bound-past w (v, x) [] other
bound-push {X} w v x (e ∷ b) other = ap (λ (o : Option X). cond (e.0.0 == w) (Some e.1) o) (bound-push w v x b other)

bound-below : {X : Type 0} (v : ℕ) (b : List (VarId × X)) → All (λ e. e.0.0 < v) b → bound_to v b ≡ None
bound-below v [] below = refl
bound-below v (e ∷ b) below =
    let lower : e.0.0 < v = All-head (λ f. f.0.0 < v) e b below in
    bound-past v e b (omega arith) ∙ bound-below v b (All-tail (λ f. f.0.0 < v) e b below)

count-few : {X : Type 0} (o : Option X) → count_one o ≤ 1
count-few None = omega arith
count-few (Some x) = omega arith

-- no variable stands in two of three maps, of which the first has one more that is over all of them
apart-push : {X Y Z : Type 0} (v : VarId) (x : X) (xs : List (VarId × X)) (ys : List (VarId × Y))
    (zs : List (VarId × Z)) → All (λ e. e.0.0 < v.0) ys → All (λ e. e.0.0 < v.0) zs
    → ((w : ℕ) → count_one (bound_to w xs) + count_one (bound_to w ys) + count_one (bound_to w zs) ≤ 1)
    → (w : ℕ) → count_one (bound_to w (xs ++ (v, x) ∷ [])) + count_one (bound_to w ys) + count_one (bound_to w zs) ≤ 1
apart-push {X} {Y} {Z} v x xs ys zs ys_below zs_below apart w = elim (cases_eq v.0 w) [
  | inl same ↦
      let second = ap (λ (o : Option Y). count_one o)
      (bound-below w ys (subst (λ (n : ℕ). All (λ e. e.0.0 < n) ys) same ys_below)) in
      let third = ap (λ (o : Option Z). count_one o)
      (bound-below w zs (subst (λ (n : ℕ). All (λ e. e.0.0 < n) zs) same zs_below)) in
      omega (arith, second, third, count-few (bound_to w (xs ++ (v, x) ∷ [])))
  | inr other ↦
      omega (arith, ap (λ (o : Option X). count_one o) (bound-push w v x xs other), apart w)
]

value-differ : (p : Process) (v : VarId) (x : Value) → VariablesDiffer p → IsOverVariables v p
    → VariablesDiffer (with_value v x p)
value-differ p v x differ over = record {
  values = ascending-push v x p.values differ.values over.values;
  lists = differ.lists;
  channels = differ.channels;
  apart = apart-push v x p.values p.lists p.channels over.lists over.channels differ.apart;
}

list-differ : (p : Process) (v : VarId) (amount : ℕ) (items : List Value) → VariablesDiffer p → IsOverVariables v p
    → VariablesDiffer (with_list v amount items p)
list-differ p v amount items differ over =
    let l : PotentialList = record { amount = amount; items = items } in
    record {
      values = differ.values;
      lists = ascending-push v l p.lists differ.lists over.lists;
      channels = differ.channels;
      apart = λ w.
          let now = apart-push v l p.lists p.values p.channels over.values over.channels
          (λ u. omega (arith, differ.apart u)) w in
          omega (arith, now);
    }

channel-differ : (p : Process) (v : VarId) (name : ℕ) → VariablesDiffer p → IsOverVariables v p
    → VariablesDiffer (with_channel v name p)
channel-differ p v name differ over = record {
  values = differ.values;
  lists = differ.lists;
  channels = ascending-push v name p.channels differ.channels over.channels;
  apart = λ w.
      let now = apart-push v name p.channels p.values p.lists over.values over.lists
      (λ u. omega (arith, differ.apart u)) w in
      omega (arith, now);
}

none-differ : (p : SeenProcess) → VariablesDiffer (process_with p)
none-differ p = record {
  values = ascending-none;
  lists = ascending-none;
  channels = ascending-none;
  apart = λ w. omega arith;
}

-- ---- names that differ

pairs-push : {X : Type 0} (R : X → X → Type 0) (xs : List X) (x : X) → AllPairs R xs → All (λ y. R y x) xs
    → AllPairs R (xs ++ x ∷ [])
pairs-push R [] x pairs each = λ i j d before within. absurd (omega (arith, before, within))
pairs-push R (y ∷ xs) x pairs each =
    AllPairs-cons R y (xs ++ x ∷ [])
    (All-push (λ z. R y z) xs x (pairs-head R y xs pairs) (All-head (λ z. R z x) y xs each))
    (pairs-push R xs x (pairs-tail R y xs pairs) (All-tail (λ z. R z x) y xs each))

text-other : (m n : List ℕ) → bytes_eq m n ≡ false → m ≢ n
text-other m n other same =
    let yes = (bytes_eq-Decides m n).1 same in
    absurd cc

-- a name that stands at none of the places
none-same : (names : List (List ℕ)) (name : List ℕ)
    → length names ≤ position_or_len (λ m. bytes_eq m name) names → All (λ m. m ≢ name) names
none-same [] name past = All-nil (λ m. m ≢ name)
none-same (m ∷ names) name past = elim (cases_Bool (bytes_eq m name)) [
  | inl same ↦
      let at : position_or_len (λ n. bytes_eq n name) (m ∷ names) ≡ 0 = rw same refl in
      absurd (omega (arith, at, past))
  | inr other ↦
      let at : position_or_len (λ n. bytes_eq n name) (m ∷ names) ≡ 1 + position_or_len (λ n. bytes_eq n name) names =
      rw other refl in
      All-cons (λ n. n ≢ name) m names (text-other m name other) (none-same names name (omega (arith, at, past)))
]

account-new : (names : List (List ℕ)) (name : List ℕ) → account_of names name ≡ None → All (λ m. m ≢ name) names
account-new names name none =
    elim (cases_Bool (ltb (position_or_len (λ m. bytes_eq m name) names) (length names))) [
      | inl some ↦
          let there : account_of names name ≡ Some (position_or_len (λ m. bytes_eq m name) names) = rw some refl in
          absurd (let both = sym none ∙ there in cc)
      | inr past ↦ none-same names name (grind (arith, nat_tests))
    ]

contract-new : (contracts : Contracts) (name : List ℕ) → shared_name contracts name ≡ None
    → All (λ c. c.0 ≢ name) contracts
contract-new [] name none = All-nil (λ c. c.0 ≢ name)
contract-new (c ∷ contracts) name none = elim (cases_Bool (bytes_eq c.0 name)) [
  | inl same ↦
      let there : shared_name (c ∷ contracts) name ≡ Some c.1 = rw same refl in
      absurd (let both = sym none ∙ there in cc)
  | inr other ↦
      let further : shared_name (c ∷ contracts) name ≡ shared_name contracts name = rw other refl in
      All-cons (λ d. d.0 ≢ name) c contracts (text-other c.0 name other)
      (contract-new contracts name (sym further ∙ none))
]

-- ---- ledgers

-- the same without objects more
bare : {l : LedgerState} → IsOrderly (with_objects l []) → IsOrderly l
bare {l} orderly = subst IsOrderly (no-more l) orderly

bare-back : {l : LedgerState} → IsOrderly l → IsOrderly (with_objects l [])
bare-back {l} orderly = subst IsOrderly (sym (no-more l)) orderly

account-orderly : (l : LedgerState) (name : List ℕ) (dths : ℕ) → account_of l.accounts name ≡ None → IsOrderly l
    → IsOrderly (with_account name dths l)
account-orderly l name dths new orderly = record {
  even =
      length-append l.accounts (name ∷ []) ∙ ap (λ n. n + 1) orderly.even
      ∙ sym (length-append l.state.balances (dths ∷ []));
  accounts = pairs-push (λ m n. m ≢ n) l.accounts name orderly.accounts (account-new l.accounts name new);
  contracts = orderly.contracts;
  names = orderly.names;
  objects = orderly.objects;
  variables = orderly.variables;
}

contract-orderly : (l : LedgerState) (name : List ℕ) (shared : ℕ) → shared_name l.contracts name ≡ None → IsOrderly l
    → IsOrderly (with_contract name shared l)
contract-orderly l name shared new orderly = record {
  even = orderly.even;
  accounts = orderly.accounts;
  contracts =
      pairs-push (λ c d. c.0 ≢ d.0) l.contracts (name, shared) orderly.contracts (contract-new l.contracts name new);
  names = orderly.names;
  objects = orderly.objects;
  variables = orderly.variables;
}

name-orderly : (l : LedgerState) (name : ℕ) (t : TypeId) → All (λ e. e.0 < name) l.state.types → IsOrderly l
    → IsOrderly (with_name name t l)
name-orderly l name t over orderly = record {
  even = orderly.even;
  accounts = orderly.accounts;
  contracts = orderly.contracts;
  names = push-order (λ (e : ℕ × TypeId). e.0) (name, t) l.state.types orderly.names over;
  objects = orderly.objects;
  variables = orderly.variables;
}

-- an object more
object-orderly : (l : LedgerState) (o : Object) → IsOverObjects (object_number o) l → HasVariables o → IsOrderly l
    → IsOrderly (with_objects l (o ∷ []))
object-orderly l o over has orderly = record {
  even = orderly.even;
  accounts = orderly.accounts;
  contracts = orderly.contracts;
  names = orderly.names;
  objects = push-order object_number o l.state.objects orderly.objects over;
  variables = All-push HasVariables l.state.objects o orderly.variables has;
}

-- another process of the same number in the last place
last-orderly : (l : LedgerState) (p q : Process) → q.pid ≡ p.pid → (VariablesDiffer p → VariablesDiffer q)
    → IsOrderly (with_objects l (object.Process p ∷ [])) → IsOrderly (with_objects l (object.Process q ∷ []))
last-orderly l p q same keeps orderly =
    let os = l.state.objects in
    let numbers : map object_number (os ++ object.Process p ∷ []) ≡ map object_number (os ++ object.Process q ∷ []) =
    map-append object_number os (object.Process p ∷ [])
    ∙ ap (λ (n : ℕ). map object_number os ++ n ∷ []) (sym same)
    ∙ sym (map-append object_number os (object.Process q ∷ [])) in
    let last : VariablesDiffer p = last-has os (object.Process p) orderly.variables in
    record {
      even = orderly.even;
      accounts = orderly.accounts;
      contracts = orderly.contracts;
      names = orderly.names;
      objects = subst (IsStrictlySortedBy nat_cmp) numbers orderly.objects;
      variables =
          All-push HasVariables os (object.Process q)
          (All-front HasVariables os (object.Process p ∷ []) orderly.variables)
          (keeps last);
    }
  where
    last-has : (os : List Object) (o : Object) → All HasVariables (os ++ o ∷ []) → HasVariables o
    last-has [] o all = All-head HasVariables o [] all
    last-has (x ∷ os) o all = last-has os o (All-tail HasVariables x (os ++ o ∷ []) all)

goes-orderly : {a : Acceptance} {g h : Gathered} {l : SnapshotLine} → Goes a (behind g) l (behind h)
    → IsOrderly (ledger_of g) → IsOrderly (ledger_of h)
goes-orderly (gathering.account l name dths before new) orderly =
    bare-back (account-orderly l name dths new (bare orderly))
goes-orderly (gathering.contract l name shared before new) orderly =
    bare-back (contract-orderly l name shared new (bare orderly))
goes-orderly (gathering.name l name t before over) orderly = bare-back (name-orderly l name t over (bare orderly))
goes-orderly (gathering.process g p over) orderly =
    object-orderly (ledger_of g) (object.Process (process_with p)) over (none-differ p) orderly
goes-orderly (gathering.message g m over) orderly =
    bare-back (object-orderly (ledger_of g) (object.Message m) over tt orderly)
goes-orderly (gathering.value l p v x over) orderly =
    last-orderly l p (with_value v x p) refl (λ differ. value-differ p v x differ over) orderly
goes-orderly (gathering.list l p v amount items over) orderly =
    last-orderly l p (with_list v amount items p) refl (λ differ. list-differ p v amount items differ over) orderly
goes-orderly (gathering.channel l p v name over) orderly =
    last-orderly l p (with_channel v name p) refl (λ differ. channel-differ p v name differ over) orderly

lead-orderly : {a : Acceptance} {stand : Stand} {ls : List SnapshotLine} {ledger : LedgerState} (g : Gathered)
    → stand ≡ behind g → IsOrderly (ledger_of g) → LeadTo a stand ls ledger → IsOrderly ledger
lead-orderly g is orderly (leading.done h) =
    let same : h ≡ g = cc in
    subst (λ (k : Gathered). IsOrderly (ledger_of k)) (sym same) orderly
lead-orderly {a} g is orderly (leading.line {next = next} l form goes rest) =
    let here : Goes a (behind g) l next = subst (λ (s : Stand). Goes a s l next) is goes in
    let o = onward here in
    lead-orderly o.after o.is (goes-orderly o.goes orderly) rest

none-orderly : (next_object next_name spent : ℕ) → IsOrderly (no_ledger next_object next_name spent)
none-orderly next_object next_name spent = record {
  even = refl;
  accounts = λ i j d before within. absurd (omega (arith, within));
  contracts = λ i j d before within. absurd (omega (arith, within));
  names = no-order;
  objects = no-order;
  variables = All-nil HasVariables;
}

-- So a text tells a ledger that is in order.
pub reads-orderly : {a : Acceptance} {text : List ℕ} {l : LedgerState} → Reads a 1 at_head text (Ok l) → IsOrderly l
reads-orderly reads =
    let lines = reads-lines reads in
    let (o, n, spent, ls, is, rest) = head-lines lines.lead in
    lead-orderly (record { ledger = no_ledger o n spent; process = None }) refl (none-orderly o n spent) rest

-- ---- how many accounts

zip-length : {X Y : Type 0} (xs : List X) (ys : List Y) → length xs ≡ length ys → length (zip xs ys) ≡ length xs
zip-length [] [] even = refl
zip-length [] (y ∷ ys) even = absurd (omega (arith, even))
zip-length (x ∷ xs) [] even = absurd (omega (arith, even))
zip-length (x ∷ xs) (y ∷ ys) even =
    let rest = zip-length xs ys (omega (arith, even)) in
    omega (arith, rest)

-- each line has a byte at least
lines-long : (lists : ProgramLists) (ls : List SnapshotLine) → length ls ≤ length (lines_text lists ls)
lines-long lists [] = omega arith
lines-long lists (l ∷ ls) =
    let others = lines-long lists ls in
    let whole = length-append (line_text lists l ++ 10 ∷ []) (lines_text lists ls) in
    let first = length-append (line_text lists l) (10 ∷ []) in
    omega (arith, others, whole, first)

accounts-lines : (unit : ℕ) (l : LedgerState) → length l.accounts ≡ length l.state.balances
    → length l.accounts ≤ length (ledger_lines unit l)
accounts-lines unit l even =
    let pairs = zip l.accounts l.state.balances in
    let accounts = map (λ (e : List ℕ × ℕ). line.Account e.0 e.1) pairs in
    let others = map (λ (c : List ℕ × ℕ). line.Contract c.0 c.1) l.contracts
    ++ (map (λ (t : ℕ × TypeId). line.Name t.0 t.1) l.state.types ++ flat_map object_lines l.state.objects) in
    let each = length-map pairs (λ (e : List ℕ × ℕ). line.Account e.0 e.1) in
    omega (arith, length-append accounts others, each, zip-length l.accounts l.state.balances even)

-- A text has as many bytes as the ledger that it tells has accounts, at least.
pub reads-few : {a : Acceptance} {text : List ℕ} {l : LedgerState} → Reads a 1 at_head text (Ok l)
    → length l.accounts ≤ length text
reads-few {a} {text} {l} reads =
    let lines = ledger_lines a.annotations.unit l in
    omega (
      arith,
      accounts-lines a.annotations.unit l (reads-orderly reads).even,
      lines-long a.program lines,
      ap length (reads-snapshot reads),
    )

-- Which lines may stand behind what was gathered, by the least numbers that may follow.
use Rattle.std.proofs.Common.{◌≡◌, ◌≢◌, ◌↔◌, ℕ, ◌+◌, ◌<◌, ◌≤◌, List, [], ◌∷◌, ◌++◌, map, length, All, Option, Some, None, IfSome, Bool, true, false, Vec, refl, ap, sym, subst, ◌∙◌, arith}
use Rattle.std.specs.Global.{Global}
use Rattle.std.specs.Option.{option_map, option_to_list}
use Rattle.std.proofs.lemmas.List.{append-nil, length-append, map-append}
use Rattle.std.proofs.lemmas.List.Elements.{All-head, All-nil, All-push, All-tail}
use Rattle.std.proofs.lemmas.Bool.{false≢true}
use Rattle.nomos_deeds.specs.declared.sight.SeenProcess.{SeenProcess}
use Rattle.nomos_ir.specs.Value.{Value}
use Rattle.nomos_ir.specs.declared.ids.TypeId.{TypeId}
use Rattle.nomos_ir.specs.declared.ids.VarId.{VarId}
use Rattle.nomos_legal.specs.Ledger.{Contracts, LedgerState, account_of, shared_name}
use Rattle.nomos_machine.specs.Objects.{object_number}
use Rattle.nomos_machine.specs.State.{NameTypes}
use Rattle.nomos_machine.specs.declared.object.Message.{Message}
use Rattle.nomos_machine.specs.declared.object.Object.{Object}
use Rattle.nomos_machine.specs.declared.object.Object.TheVariants as object
use Rattle.nomos_machine.specs.declared.object.PotentialList.{PotentialList}
use Rattle.nomos_machine.specs.declared.object.Process.{Process}
use Rattle.nomos_types.specs.Acceptance.{Acceptance}
use Rattle.nomos_snapshot.specs.GatheredLines.{BeforeContracts, BeforeNames, BeforeObjects, Gathered, Goes, IsOverNames, IsOverObjects, IsOverVariables, Stand, at_head, at_next, at_spent, at_unit, behind, ledger_of, process_with, settled, unfinished, with_account, with_channel, with_contract, with_list, with_name, with_objects, with_value}
use Rattle.nomos_snapshot.specs.GatheredLines as gathering
use Rattle.nomos_snapshot.specs.declared.gathered.Gathering.{Gathering}
use Rattle.nomos_snapshot.specs.declared.line.SnapshotLine.{SnapshotLine}
use Rattle.nomos_snapshot.specs.declared.line.SnapshotLine.TheVariants as line
use Rattle.nomos_snapshot.specs.declared.told_lines.ToldList.{ToldList}
use Rattle.nomos_snapshot.specs.declared.told_lines.ToldObject.{ToldObject}
use Rattle.nomos_snapshot.specs.declared.told_lines.ToldObject.TheVariants as told_object
use Rattle.nomos_snapshot.specs.declared.told_lines.ToldProcess.{ToldProcess}
use Rattle.nomos_snapshot.specs.ToldLines.{IsKept, IsProcessKept, IsSettled, LeadsOn, PutsBehind, list_told, object_told, process_told, told}
use Rattle.nomos_types.proofs.AmountLaws.{all-first}
use Rattle.nomos_snapshot.proofs.ProcessLaws.{over-channel, over-list, over-value}

-- ---- lists

last-of : {X : Type 0} (P : X → Type 0) (xs : List X) (x : X) → All P (xs ++ x ∷ []) → P x
last-of P [] x all = All-head P x [] all
last-of P (y ∷ xs) x all = last-of P xs x (All-tail P y (xs ++ x ∷ []) all)

pub none-long : {X : Type 0} (xs : List X) → ¬ (0 < length xs) → xs ≡ []
none-long [] none = refl
none-long (x ∷ xs) none = absurd (none (omega arith))

-- where all are below 0 there is none
none-below : {X : Type 0} (f : X → ℕ) (xs : List X) → All (λ x. f x < 0) xs → xs ≡ []
none-below f [] all = refl
none-below f (x ∷ xs) all = absurd (let low = All-head (λ y. f y < 0) x xs all in omega (arith, low))

-- ---- variables

pub value-kept : (p q : ToldProcess) (v : VarId) (x : Value) → IsProcessKept p → p.from ≤ v.0
    → process_told q ≡ with_value v x (process_told p) → q.from ≡ v.0 + 1 → IsProcessKept q
value-kept p q v x kept from same next = λ w. (
  (λ over.
      let here : IsOverVariables w (with_value v x (process_told p)) = subst (λ r. IsOverVariables w r) same over in
      let last : v.0 < w.0 = last-of (λ e. e.0.0 < w.0) (process_told p).values (v, x) here.values in
      omega (arith, next, last)),
  (λ low. subst (λ r. IsOverVariables w r) (sym same)
      (over-value v x w (process_told p) (omega (arith, next, low)) ((kept w).1 (omega (arith, low, next, from))))),
)

pub list-kept : (p q : ToldProcess) (v : VarId) (l : PotentialList) → IsProcessKept p → p.from ≤ v.0
    → process_told q ≡ with_list v l.amount l.items (process_told p) → q.from ≡ v.0 + 1 → IsProcessKept q
list-kept p q v l kept from same next = λ w. (
  (λ over.
      let here : IsOverVariables w (with_list v l.amount l.items (process_told p)) =
      subst (λ r. IsOverVariables w r) same over in
      let last : v.0 < w.0 = last-of (λ e. e.0.0 < w.0) (process_told p).lists (v, l) here.lists in
      omega (arith, next, last)),
  (λ low. subst (λ r. IsOverVariables w r) (sym same)
      (over-list (v, l) w (process_told p) (omega (arith, next, low)) ((kept w).1 (omega (arith, low, next, from))))),
)

pub channel-kept : (p q : ToldProcess) (v : VarId) (name : ℕ) → IsProcessKept p → p.from ≤ v.0
    → process_told q ≡ with_channel v name (process_told p) → q.from ≡ v.0 + 1 → IsProcessKept q
channel-kept p q v name kept from same next = λ w. (
  (λ over.
      let here : IsOverVariables w (with_channel v name (process_told p)) =
      subst (λ r. IsOverVariables w r) same over in
      let last : v.0 < w.0 = last-of (λ e. e.0.0 < w.0) (process_told p).channels (v, name) here.channels in
      omega (arith, next, last)),
  (λ low. subst (λ r. IsOverVariables w r) (sym same)
      (over-channel v name w (process_told p) (omega (arith, next, low)) ((kept w).1 (omega
      (arith, low, next, from))))),
)

pub value-taken : (p : ToldProcess) (values : Vec (VarId × Value) Global) (from : ℕ) (v : VarId) (x : Value)
    → IsProcessKept p
    → p.from ≤ v.0 → values.items ≡ p.values.items ++ (v, x) ∷ [] → from ≡ v.0 + 1
    → PutsBehind v (with_value v x) p (record p { values = values; from = from }) true
value-taken p values from v x kept low more next =
    let same = ap (λ (vs : List (VarId × Value)). record (process_told p) { values = vs }) more in
    ((kept v).1 low, same, value-kept p (record p { values = values; from = from }) v x kept low same next)

pub list-taken : (p : ToldProcess) (lists : Vec (VarId × ToldList) Global) (from : ℕ) (v : VarId) (l : ToldList)
    → IsProcessKept p → p.from ≤ v.0 → lists.items ≡ p.lists.items ++ (v, l) ∷ [] → from ≡ v.0 + 1
    → PutsBehind v (with_list v l.amount l.items) p (record p { lists = lists; from = from }) true
list-taken p lists from v l kept low more next =
    let same = ap (λ (ls : List (VarId × PotentialList)). record (process_told p) { lists = ls })
    (ap (map (λ (e : VarId × ToldList). (e.0, list_told e.1))) more
    ∙ map-append (λ (e : VarId × ToldList). (e.0, list_told e.1)) p.lists.items ((v, l) ∷ [])) in
    ((kept v).1 low, same, list-kept p (record p { lists = lists; from = from }) v (list_told l) kept low same next)

pub channel-taken : (p : ToldProcess) (channels : Vec (VarId × ℕ) Global) (from : ℕ) (v : VarId) (name : ℕ)
    → IsProcessKept p
    → p.from ≤ v.0 → channels.items ≡ p.channels.items ++ (v, name) ∷ [] → from ≡ v.0 + 1
    → PutsBehind v (with_channel v name) p (record p { channels = channels; from = from }) true
channel-taken p channels from v name kept low more next =
    let same = ap (λ (cs : List (VarId × ℕ)). record (process_told p) { channels = cs }) more in
    ((kept v).1 low, same, channel-kept p (record p { channels = channels; from = from }) v name kept low same next)

-- ---- accounts, contracts and names

-- no object, and no process whose variables may follow
pub record NoObjects (g : Gathered) : Type 0 where
  pub none : g.process ≡ None
  pub before : BeforeObjects g.ledger

none-mapped : {X Y : Type 0} (f : X → Y) (o : Option X) → map f (option_to_list o) ≡ [] → o ≡ None
none-mapped f None e = refl
none-mapped f (Some x) e = absurd (omega (arith, ap length e))

both-empty : {X : Type 0} (xs ys : List X) → xs ++ ys ≡ [] → (xs ≡ []) × (ys ≡ [])
both-empty [] ys e = (refl, e)
both-empty (x ∷ xs) ys e = absurd (omega (arith, ap length e))

pub no-objects : (g : Gathering) → IsKept g → g.objects_from ≤ 0 → NoObjects (told g)
no-objects g kept low =
    let none = none-below object_number (ledger_of (told g)).state.objects ((kept.objects 0).1 low) in
    let both = both-empty (told g).ledger.state.objects (map object.Process (option_to_list (told g).process)) none in
    record { none = none-mapped object.Process (told g).process both.1; before = both.0 }

pub objects-none : (g : Gathering) → IsKept g → NoObjects (told g) → g.objects_from ≤ 0
objects-none g kept none =
    let empty : (ledger_of (told g)).state.objects ≡ [] =
    ap (λ (os : List Object). os ++ map object.Process (option_to_list (told g).process)) none.before
    ∙ ap (λ (o : Option Process). map object.Process (option_to_list o)) none.none in
    (kept.objects 0).0 (subst (λ (os : List Object). All (λ o. object_number o < 0) os) (sym empty) (All-nil (λ
    (o : Object). object_number o < 0)))

pub no-names : (g : Gathering) → IsKept g → g.names_from ≤ 0 → (told g).ledger.state.types ≡ []
no-names g kept low = none-below (λ (t : ℕ × TypeId). t.0) (told g).ledger.state.types ((kept.names 0).1 low)

pub names-none : (g : Gathering) → IsKept g → (told g).ledger.state.types ≡ [] → g.names_from ≤ 0
names-none g kept none =
    (kept.names 0).0 (subst (λ (ts : List (ℕ × TypeId)). All (λ t. t.0 < 0) ts) (sym none) (All-nil (λ
    (t : ℕ × TypeId). t.0 < 0)))

-- when an account, a contract and a name may stand there
pub record AccountTurn (g : Gathered) (name : List ℕ) : Type 0 where
  pub none : NoObjects g
  pub names : g.ledger.state.types ≡ []
  pub contracts : g.ledger.contracts ≡ []
  pub new : account_of g.ledger.accounts name ≡ None

pub account-turn : {a : Acceptance} {g : Gathered} {name : List ℕ} {dths : ℕ} {next : Stand}
    → Goes a (behind g) (line.Account name dths) next → AccountTurn g name
account-turn (gathering.account l name dths before new) = record {
  none = record { none = refl; before = before.2 };
  names = before.1;
  contracts = before.0;
  new = new;
}

pub account-goes : (a : Acceptance) (g : Gathered) (name : List ℕ) (dths : ℕ) → AccountTurn g name
    → Goes a (behind g) (line.Account name dths) (settled (with_account name dths g.ledger))
account-goes a g name dths turn =
    subst (λ (p : Option Process). Goes a (behind (record { ledger = g.ledger; process = p })) (line.Account name dths)
    (settled (with_account name dths g.ledger))) (sym turn.none.none)
    (gathering.account g.ledger name dths (turn.contracts, turn.names, turn.none.before) turn.new)

pub record ContractTurn (g : Gathered) (name : List ℕ) : Type 0 where
  pub none : NoObjects g
  pub names : g.ledger.state.types ≡ []
  pub new : shared_name g.ledger.contracts name ≡ None

pub contract-turn : {a : Acceptance} {g : Gathered} {name : List ℕ} {shared : ℕ} {next : Stand}
    → Goes a (behind g) (line.Contract name shared) next → ContractTurn g name
contract-turn (gathering.contract l name shared before new) = record {
  none = record { none = refl; before = before.1 };
  names = before.0;
  new = new;
}

pub contract-goes : (a : Acceptance) (g : Gathered) (name : List ℕ) (shared : ℕ) → ContractTurn g name
    → Goes a (behind g) (line.Contract name shared) (settled (with_contract name shared g.ledger))
contract-goes a g name shared turn =
    subst (λ (p : Option Process). Goes a (behind (record { ledger = g.ledger; process = p }))
    (line.Contract name shared) (settled (with_contract name shared g.ledger))) (sym turn.none.none)
    (gathering.contract g.ledger name shared (turn.names, turn.none.before) turn.new)

pub record NameTurn (g : Gathered) (name : ℕ) : Type 0 where
  pub none : NoObjects g
  pub over : IsOverNames name g.ledger

pub name-turn : {a : Acceptance} {g : Gathered} {name : ℕ} {t : TypeId} {next : Stand}
    → Goes a (behind g) (line.Name name t) next → NameTurn g name
name-turn (gathering.name l name t before over) = record {
  none = record { none = refl; before = before };
  over = over;
}

pub name-goes : (a : Acceptance) (g : Gathered) (name : ℕ) (t : TypeId) → NameTurn g name
    → Goes a (behind g) (line.Name name t) (settled (with_name name t g.ledger))
name-goes a g name t turn =
    subst (λ (p : Option Process). Goes a (behind (record { ledger = g.ledger; process = p })) (line.Name name t)
    (settled (with_name name t g.ledger))) (sym turn.none.none)
    (gathering.name g.ledger name t turn.none.before turn.over)

-- ---- processes, their variables and messages

pub process-turn : {a : Acceptance} {g : Gathered} {p : SeenProcess} {next : Stand}
    → Goes a (behind g) (line.Process p) next → IsOverObjects p.pid (ledger_of g)
process-turn (gathering.process g p over) = over

pub message-turn : {a : Acceptance} {g : Gathered} {m : Message} {next : Stand}
    → Goes a (behind g) (line.Message m) next → IsOverObjects m.number (ledger_of g)
message-turn (gathering.message g m over) = over

-- ---- one more, and what may follow it

pub process-goes : (a : Acceptance) (g : Gathering) (p : SeenProcess) → IsKept g → g.objects_from ≤ p.pid
    → Goes a (behind (told g)) (line.Process p) (unfinished (ledger_of (told g)) (process_with p))
process-goes a g p kept low = gathering.process (told g) p ((kept.objects p.pid).1 low)

pub message-goes : (a : Acceptance) (g : Gathering) (m : Message) → IsKept g → g.objects_from ≤ m.number
    → Goes a (behind (told g)) (line.Message m) (settled (with_objects (ledger_of (told g)) (object.Message m ∷ [])))
message-goes a g m kept low = gathering.message (told g) m ((kept.objects m.number).1 low)

-- an object more, whose number is not below the least one
pub object-more : (from : ℕ) (os more : List Object) (o : Object)
    → ((n : ℕ) → All (λ p. object_number p < n) os ↔ (from ≤ n)) → from ≤ object_number o → more ≡ os ++ o ∷ []
    → (n : ℕ) → All (λ p. object_number p < n) more ↔ (object_number o + 1 ≤ n)
object-more from os more o floor low same n = (
  (λ all.
      let last : object_number o < n =
      last-of (λ p. object_number p < n) os o (subst (λ (ps : List Object). All
      (λ p. object_number p < n) ps) same all) in
      omega (arith, last)),
  (λ high. subst (λ (ps : List Object). All (λ p. object_number p < n) ps) (sym same)
      (All-push (λ (p : Object). object_number p < n) os o ((floor n).1 (omega (arith, low, high))) (omega
      (arith, high)))),
)

-- a name more
pub name-more : (from name : ℕ) (t : TypeId) (ts more : List (ℕ × TypeId)) → ((n : ℕ) → All (λ e. e.0 < n) ts ↔
    (from ≤ n))
    → from ≤ name → more ≡ ts ++ (name, t) ∷ [] → (n : ℕ) → All (λ e. e.0 < n) more ↔ (name + 1 ≤ n)
name-more from name t ts more floor low same n = (
  (λ all.
      let last : name < n =
      last-of (λ e. e.0 < n) ts (name, t) (subst (λ (es : List (ℕ × TypeId)). All (λ e. e.0 < n) es) same all) in
      omega (arith, last)),
  (λ high. subst (λ (es : List (ℕ × TypeId)). All (λ e. e.0 < n) es) (sym same)
      (All-push (λ (e : ℕ × TypeId). e.0 < n) ts (name, t) ((floor n).1 (omega (arith, low, high))) (omega
      (arith, high)))),
)

-- ---- a process that is one of the objects

pub settled-objects : (objects after : List ToldObject) (process : Option ToldProcess) (p : ToldProcess)
    → process ≡ Some p
    → after ≡ objects ++ told_object.Process p ∷ []
    → map object_told after
    ≡ map object_told objects ++ map object.Process (option_to_list (option_map process_told process))
settled-objects objects after process p some same =
    ap (map object_told) same ∙ map-append object_told objects (told_object.Process p ∷ [])
    ∙ ap (λ (o : Option ToldProcess). map object_told objects ++ map object.Process (option_to_list
    (option_map process_told o)))
    (sym some)

-- ---- the first four lines

pub head-only : {a : Acceptance} {l : SnapshotLine} {next : Stand} → Goes a at_head l next → l ≡ line.Head
head-only gathering.head = refl

pub unit-only : {a : Acceptance} {l : SnapshotLine} {next : Stand} → Goes a at_unit l next
    → l ≡ line.Unit a.annotations.unit
unit-only gathering.unit = refl

pub next-only : {a : Acceptance} {l : SnapshotLine} {next : Stand} → ((n m : ℕ) → l ≢ line.Next n m)
    → ¬ (Goes a at_next l next)
next-only none (gathering.next n m) = none n m refl

pub spent-only : {a : Acceptance} {l : SnapshotLine} {next : Stand} {object name : ℕ} → ((n : ℕ) → l ≢ line.Spent n)
    → ¬ (Goes a (at_spent object name) l next)
spent-only none (gathering.spent object name dths) = none dths refl

-- ---- what the code has then

settle-none : (g : Gathered) → g.process ≡ None → settled g.ledger ≡ behind g
settle-none g none = ap (λ (p : Option Process). behind (record { ledger = g.ledger; process = p })) (sym none)

lands : {a : Acceptance} {g : Gathered} {l : SnapshotLine} {ledger : LedgerState} (h : Gathered)
    → Goes a (behind g) l (settled ledger) → h.ledger ≡ ledger → h.process ≡ None → Goes a (behind g) l (behind h)
lands {a} {g} {l} h goes same none =
    subst (λ (s : Stand). Goes a (behind g) l s) (ap (λ (k : LedgerState). settled k) (sym same)
    ∙ settle-none h none) goes

pub account-taken : (g : Gathering) (accounts : List (List ℕ)) (balances : Vec ℕ Global) (name : List ℕ) (dths : ℕ)
    → IsKept g
    → AccountTurn (told g) name → accounts ≡ g.accounts ++ name ∷ [] → balances.items ≡ g.balances.items ++ dths ∷ []
    → LeadsOn (line.Account name dths) g (record g { accounts = accounts; balances = balances }) true
account-taken g accounts balances name dths kept turn more paid = λ a. (
  lands (told (record g { accounts = accounts; balances = balances })) (account-goes a (told g) name dths turn)
      (ap (λ (ns : List (List ℕ)). record (told g).ledger {
        accounts = ns;
        state = record
            (told g).ledger.state { balances = balances.items };
      }) more
      ∙ ap (λ (bs : List ℕ). record (told g).ledger {
        accounts = g.accounts ++ name ∷ [];
        state = record
            (told g).ledger.state { balances = bs };
      }) paid)
      turn.none.none,
  record {
    even = ap length more ∙ length-append g.accounts (name ∷ []) ∙ ap (λ n. n + 1) kept.even
        ∙ sym (length-append g.balances.items (dths ∷ [])) ∙ ap length (sym paid);
    objects = kept.objects;
    names = kept.names;
    variables = kept.variables;
  },
)

pub contract-taken : (g : Gathering) (contracts : Contracts) (name : List ℕ) (shared : ℕ) → IsKept g
    → ContractTurn (told g) name → contracts ≡ g.contracts ++ (name, shared) ∷ []
    → LeadsOn (line.Contract name shared) g (record g { contracts = contracts }) true
contract-taken g contracts name shared kept turn more = λ a. (
  lands (told (record g { contracts = contracts })) (contract-goes a (told g) name shared turn)
      (ap (λ (cs : Contracts). record (told g).ledger { contracts = cs }) more) turn.none.none,
  record { even = kept.even; objects = kept.objects; names = kept.names; variables = kept.variables },
)

pub name-taken : (g : Gathering) (types : Vec (ℕ × TypeId) Global) (from name : ℕ) (t : TypeId) → IsKept g → NoObjects
    (told g)
    → g.names_from ≤ name → types.items ≡ g.types.items ++ (name, t) ∷ [] → from ≡ name + 1
    → LeadsOn (line.Name name t) g (record g { types = types; names_from = from }) true
name-taken g types from name t kept none low more next = λ a. (
  lands (told (record g { types = types; names_from = from }))
      (name-goes a (told g) name t (record { none = none; over = (kept.names name).1 low }))
      (ap (λ (ts : NameTypes). record (told g).ledger { state = record (told g).ledger.state { types = ts } }) more)
      none.none,
  record {
    even = kept.even;
    objects = kept.objects;
    names = subst (λ (f : ℕ). (n : ℕ) → All (λ e. e.0 < n) types.items ↔ (f ≤ n)) (sym next)
        (name-more g.names_from name t g.types.items types.items kept.names low more);
    variables = kept.variables;
  },
)

-- the process is one of the objects
pub process-settled : (g : Gathering) (objects : Vec ToldObject Global) (process : Option ToldProcess) (p : ToldProcess)
    → IsKept g → g.process ≡ Some p → process ≡ None → objects.items ≡ g.objects.items ++ told_object.Process p ∷ []
    → IsSettled g (record g { objects = objects; process = process })
process-settled g objects process p kept some none more =
    let same = settled-objects g.objects.items objects.items g.process p some more in
    record {
      told =
          ap (λ (o : Option ToldProcess). told (record g { objects = objects; process = o })) none
          ∙ ap (λ (os : List Object). record {
            ledger = record (told g).ledger { state = record (told g).ledger.state { objects = os } };
            process = None;
          }) same;
      kept = record {
        even = kept.even;
        objects = λ n.
            subst (λ (os : List Object). All (λ o. object_number o < n) os ↔ (g.objects_from ≤ n))
            (sym (ap (λ (o : Option ToldProcess). map object_told objects.items
            ++ map object.Process (option_to_list (option_map process_told o))) none
            ∙ append-nil (map object_told objects.items) ∙ same)) (kept.objects n);
        names = kept.names;
        variables = subst (λ (o : Option ToldProcess). IfSome o IsProcessKept) (sym none) tt;
      };
      from = refl;
    }

pub process-taken : (g h : Gathering) (p : ToldProcess) (seen : SeenProcess) (from : ℕ) → IsKept g → IsSettled g h
    → g.objects_from ≤ seen.pid → process_told p ≡ process_with seen → IsProcessKept p → from ≡ seen.pid + 1
    → LeadsOn (line.Process seen) g (record h { process = Some p; objects_from = from }) true
process-taken g h p seen from kept settle low is fresh over =
    let ledger : (told h).ledger ≡ ledger_of (told g) = ap (λ (k : Gathered). k.ledger) settle.told in
    let to : unfinished (ledger_of (told g)) (process_with seen)
    ≡ behind (told (record h { process = Some p; objects_from = from })) =
    ap (λ (l : LedgerState). unfinished l (process_with seen)) (sym ledger)
    ∙ ap (λ (q : Process). unfinished (told h).ledger q) (sym is) in
    let objects : (told h).ledger.state.objects ++ object.Process (process_told p) ∷ []
    ≡ (ledger_of (told g)).state.objects ++ object.Process (process_with seen) ∷ [] =
    ap (λ (l : LedgerState). l.state.objects ++ object.Process (process_told p) ∷ []) ledger
    ∙ ap (λ (q : Process). (ledger_of (told g)).state.objects ++ object.Process q ∷ []) is in
    λ a. (
      subst (λ (s : Stand). Goes a (behind (told g)) (line.Process seen) s) to (process-goes a g seen kept low),
      record {
        even = settle.kept.even;
        objects = subst (λ (f : ℕ). (n : ℕ)
            → All (λ o. object_number o < n) ((told h).ledger.state.objects ++ object.Process (process_told p) ∷ []) ↔
            (f ≤ n))
            (sym over)
            (object-more g.objects_from (ledger_of (told g)).state.objects
            ((told h).ledger.state.objects ++ object.Process (process_told p) ∷ []) (object.Process (process_with seen))
            kept.objects low objects);
        names = settle.kept.names;
        variables = fresh;
      },
    )

pub message-taken : (g h : Gathering) (objects : Vec ToldObject Global) (m : Message) (from : ℕ) → IsKept g
    → IsSettled g h
    → g.objects_from ≤ m.number → objects.items ≡ h.objects.items ++ told_object.Message m ∷ [] → from ≡ m.number + 1
    → LeadsOn (line.Message m) g (record h { objects = objects; objects_from = from }) true
message-taken g h objects m from kept settle low more over =
    let ledger : (told h).ledger ≡ ledger_of (told g) = ap (λ (k : Gathered). k.ledger) settle.told in
    let none : (told h).process ≡ None = ap (λ (k : Gathered). k.process) settle.told in
    let grown : (told (record h { objects = objects; objects_from = from })).ledger
    ≡ with_objects (ledger_of (told g)) (object.Message m ∷ []) =
    ap (λ (os : List Object). record (told h).ledger { state = record (told h).ledger.state { objects = os } })
    (ap (map object_told) more ∙ map-append object_told h.objects.items (told_object.Message m ∷ []))
    ∙ ap (λ (l : LedgerState). with_objects l (object.Message m ∷ [])) ledger in
    let all : (ledger_of (told (record h { objects = objects; objects_from = from }))).state.objects
    ≡ (ledger_of (told g)).state.objects ++ object.Message m ∷ [] =
    ap (λ (o : Option Process). map object_told objects.items ++ map object.Process (option_to_list o)) none
    ∙ append-nil (map object_told objects.items) ∙ ap (λ (l : LedgerState). l.state.objects) grown in
    λ a. (
      lands (told (record h { objects = objects; objects_from = from })) (message-goes a g m kept low) grown none,
      record {
        even = settle.kept.even;
        objects = subst (λ (f : ℕ). (n : ℕ) → All (λ o. object_number o < n)
            (ledger_of (told (record h { objects = objects; objects_from = from }))).state.objects ↔ (f ≤ n)) (sym over)
            (object-more g.objects_from (ledger_of (told g)).state.objects
            (ledger_of (told (record h { objects = objects; objects_from = from }))).state.objects (object.Message m)
            kept.objects low all);
        names = settle.kept.names;
        variables = settle.kept.variables;
      },
    )

-- another object of the same number
same-number : (n : ℕ) (os : List Object) (o p : Object) → object_number o ≡ object_number p
    → All (λ q. object_number q < n) (os ++ o ∷ []) → All (λ q. object_number q < n) (os ++ p ∷ [])
same-number n os o p same all =
    All-push (λ (q : Object). object_number q < n) os p (all-first (λ (q : Object). object_number q < n) os
    (o ∷ []) all)
    (subst (λ k. k < n) same (last-of (λ (q : Object). object_number q < n) os o all))

pub variable-taken : {l : SnapshotLine} (g : Gathering) (p q : ToldProcess) (fits : Bool) (v : VarId)
    (change : Process → Process) → IsKept g → g.process ≡ Some p → PutsBehind v change p q fits → fits ≡ true
    → ((r : Process) → (change r).pid ≡ r.pid)
    → ((a : Acceptance) (k : LedgerState) (r : Process) → IsOverVariables v r
    → Goes a (unfinished k r) l (unfinished k (change r)))
    → LeadsOn l g (record g { process = Some q }) true
variable-taken {l} g p q false v change kept some puts is pid row = absurd (false≢true is)
variable-taken {l} g p q true v change kept some puts is pid row =
    let stands : behind (told g) ≡ unfinished (told g).ledger (process_told p) =
    ap (λ (o : Option ToldProcess). behind (record {
      ledger =
          (told g).ledger;
      process = option_map process_told o;
    })) some in
    let leads : unfinished (told g).ledger (change (process_told p)) ≡ unfinished (told g).ledger (process_told q) =
    ap (λ (r : Process). unfinished (told g).ledger r) (sym puts.1) in
    let number : (process_told p).pid ≡ (process_told q).pid =
    sym (pid (process_told p)) ∙ ap (λ (r : Process). r.pid) (sym puts.1) in
    let all : (ledger_of (told g)).state.objects
    ≡ (told g).ledger.state.objects ++ object.Process (process_told p) ∷ [] =
    ap (λ (o : Option ToldProcess). (told g).ledger.state.objects
    ++ map object.Process (option_to_list (option_map process_told o))) some in
    λ a. (
      subst (λ (s : Stand). Goes a s l (unfinished (told g).ledger (process_told q))) (sym stands)
          (subst (λ (s : Stand). Goes a (unfinished (told g).ledger (process_told p)) l s) leads
          (row a (told g).ledger (process_told p) puts.0)),
      record {
        even = kept.even;
        objects = λ n. (
          (λ over. (kept.objects n).0
              (subst (λ (os : List Object). All (λ o. object_number o < n) os) (sym all)
              (same-number n (told g).ledger.state.objects (object.Process (process_told q)) (object.Process
              (process_told p))
              (sym number) over))),
          (λ high. same-number n (told g).ledger.state.objects (object.Process (process_told p))
              (object.Process (process_told q)) number
              (subst (λ (os : List Object). All (λ o. object_number o < n) os) all ((kept.objects n).1 high))),
        );
        names = kept.names;
        variables = puts.2;
      },
    )

pub value-row : (v : VarId) (x : Value) (a : Acceptance) (k : LedgerState) (r : Process) → IsOverVariables v r
    → Goes a (unfinished k r) (line.Value v x) (unfinished k (with_value v x r))
value-row v x a k r over = gathering.value k r v x over

pub list-row : (v : VarId) (amount : ℕ) (items : List Value) (a : Acceptance) (k : LedgerState) (r : Process)
    → IsOverVariables v r → Goes a (unfinished k r) (line.List v amount items) (unfinished k
    (with_list v amount items r))
list-row v amount items a k r over = gathering.list k r v amount items over

pub channel-row : (v : VarId) (name : ℕ) (a : Acceptance) (k : LedgerState) (r : Process) → IsOverVariables v r
    → Goes a (unfinished k r) (line.Channel v name) (unfinished k (with_channel v name r))
channel-row v name a k r over = gathering.channel k r v name over

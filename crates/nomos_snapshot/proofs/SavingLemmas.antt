-- Lines are written one behind another.
use Rattle.std.proofs.Common.{◌≡◌, ℕ, ◌+◌, ◌<◌, ◌≤◌, ◌^◌, List, [], ◌∷◌, ◌++◌, length, map, zip, drop, get_or, Some, Ok, Err, slice_get, refl, sym, ◌∙◌, ap, subst, append_assoc}
use Rattle.std.specs.List.{flat_map}
use Rattle.std.proofs.lemmas.List.{append-nil, at_drop_all, drop_more}
use Rattle.std.proofs.lemmas.List.Concat.{flat_map-append}
use Rattle.std.proofs.lemmas.List.Elements.{All-append, All-cons, All-nil}
use Rattle.std.proofs.lemmas.Option.{get_or_from_slice_get, slice_get_within}
use Rattle.nomos_contents.specs.Data.{state_of}
use Rattle.nomos_contents.specs.declared.data.StateData.{StateData}
use Rattle.nomos_ir.specs.declared.ids.TypeId.{TypeId}
use Rattle.nomos_ir.specs.declared.lists.ProgramLists.{ProgramLists}
use Rattle.nomos_legal.specs.Ledger.{IsLedger, LedgerState}
use Rattle.nomos_legal.specs.StandsFor.{StandsFor}
use Rattle.nomos_deeds.specs.SeenObjects.{seen_process}
use Rattle.nomos_deeds.specs.declared.sight.SeenProcess.{SeenProcess}
use Rattle.nomos_machine.specs.State.{State}
use Rattle.nomos_machine.specs.declared.object.Object.TheVariants as object
use Rattle.nomos_machine.specs.declared.object.Process.{Process}
use Rattle.nomos_types.specs.Acceptance.{Acceptance}
use Rattle.nomos_snapshot.specs.Line.{IsGas, IsLine, IsNext, IsNumber, IsProcessLine, line_text, lines_text}
use Rattle.nomos_snapshot.specs.declared.line.SnapshotLine.{SnapshotLine}
use Rattle.nomos_snapshot.specs.declared.error.SaveError.TheVariants as error
use Rattle.nomos_snapshot.specs.declared.line.SnapshotLine.TheVariants as line
use Rattle.nomos_snapshot.specs.Loading.{Loads, longest_snapshot}
use Rattle.nomos_snapshot.specs.Saving.{HasLowNumbers, Saves, numbers, saved, too_long}
use Rattle.nomos_snapshot.specs.Text.{ledger_lines, object_lines, variable_lines}
use Rattle.nomos_snapshot.specs.mirror.Remaining.{WritesLines}
use Rattle.nomos_snapshot.proofs.LoadingLaws.{stands-loads}

-- ---- lines

-- one line
pub writes-one : {lists : ProgramLists} {before after : List ℕ} (l : SnapshotLine) → IsLine lists l
    → after ≡ before ++ (line_text lists l ++ 10 ∷ []) → WritesLines lists before after (l ∷ [])
writes-one {lists} {before} l form is = record {
  written = is ∙ ap (λ (t : List ℕ). before ++ t) (sym (append-nil (line_text lists l ++ 10 ∷ [])));
  form = All-cons (IsLine lists) l [] form (All-nil (IsLine lists));
}

-- lines behind lines
pub writes-both : {lists : ProgramLists} {before between after : List ℕ} (first others : List SnapshotLine)
    → WritesLines lists before between first → WritesLines lists between after others
    → WritesLines lists before after (first ++ others)
writes-both {lists} {before} first others one two = record {
  written =
      two.written ∙ ap (λ (t : List ℕ). t ++ lines_text lists others) one.written
      ∙ append_assoc before (lines_text lists first) (lines_text lists others)
      ∙ ap (λ (t : List ℕ). before ++ t)
      (sym (flat_map-append (λ (l : SnapshotLine). line_text lists l ++ 10 ∷ []) first others));
  form = All-append (IsLine lists) first others one.form two.form;
}

pub writes-none : {lists : ProgramLists} (before : List ℕ) → WritesLines lists before before []
writes-none {lists} before = record { written = sym (append-nil before); form = All-nil (IsLine lists) }

-- the first four lines
pub heads-written : {lists : ProgramLists} {before one two three after : List ℕ} (unit next_object next_name dths : ℕ)
    → IsNumber unit → IsNext next_object → IsNext next_name → IsGas dths
    → one ≡ before ++ (line_text lists line.Head ++ 10 ∷ [])
    → two ≡ one ++ (line_text lists (line.Unit unit) ++ 10 ∷ [])
    → three ≡ two ++ (line_text lists (line.Next next_object next_name) ++ 10 ∷ [])
    → after ≡ three ++ (line_text lists (line.Spent dths) ++ 10 ∷ [])
    → WritesLines lists before after
    (line.Head ∷ line.Unit unit ∷ line.Next next_object next_name ∷ line.Spent dths ∷ [])
heads-written unit next_object next_name dths small objects names gas is_one is_two is_three is_after =
    writes-both (line.Head ∷ []) (line.Unit unit ∷ line.Next next_object next_name ∷ line.Spent dths ∷ [])
    (writes-one line.Head tt is_one)
    (writes-both (line.Unit unit ∷ []) (line.Next next_object next_name ∷ line.Spent dths ∷ [])
    (writes-one (line.Unit unit) small is_two)
    (writes-both (line.Next next_object next_name ∷ []) (line.Spent dths ∷ [])
    (writes-one (line.Next next_object next_name) (objects, names) is_three)
    (writes-one (line.Spent dths) gas is_after)))

-- a process and its variables
pub process-written : {lists : ProgramLists} {before between after : List ℕ} (p : Process) (seen : SeenProcess)
    → seen ≡ seen_process p → IsProcessLine lists seen
    → between ≡ before ++ (line_text lists (line.Process seen) ++ 10 ∷ [])
    → WritesLines lists between after (variable_lines p)
    → WritesLines lists before after (object_lines (object.Process p))
process-written {lists} {before} {between} {after} p seen same form is others =
    subst (λ (q : SeenProcess). WritesLines lists before after (line.Process q ∷ variable_lines p)) same
    (writes-both (line.Process seen ∷ []) (variable_lines p) (writes-one (line.Process seen) form is) others)

-- ---- what is left to write

-- Where what is left is written, all is.
pub record IsAhead (lists : ProgramLists) (before text : List ℕ) (all left : List SnapshotLine) : Type 0 where
  pub rest : (after : List ℕ) → WritesLines lists text after left → WritesLines lists before after all

pub ahead-start : {lists : ProgramLists} (before : List ℕ) (all left : List SnapshotLine) → left ≡ all
    → IsAhead lists before before all left
ahead-start {lists} before all left is =
    record { rest = λ after writes. subst (λ (ls : List SnapshotLine). WritesLines lists before after ls) is writes }

pub ahead-more : {lists : ProgramLists} {before text more : List ℕ} {all : List SnapshotLine}
    (first left : List SnapshotLine) (whole : List SnapshotLine) → whole ≡ first ++ left
    → IsAhead lists before text all whole → WritesLines lists text more first → IsAhead lists before more all left
ahead-more {lists} {before} {text} {more} {all} first left whole is ahead writes =
    record {
      rest = λ after others.
          ahead.rest after (subst (λ (ls : List SnapshotLine). WritesLines lists text after ls) (sym is)
          (writes-both first left writes others));
    }

pub ahead-end : {lists : ProgramLists} {before text : List ℕ} {all : List SnapshotLine} (left : List SnapshotLine)
    → left ≡ [] → IsAhead lists before text all left → WritesLines lists before text all
ahead-end {lists} {before} {text} left none ahead =
    ahead.rest text (subst (λ (ls : List SnapshotLine). WritesLines lists text text ls) (sym none) (writes-none text))

-- ---- what is left of a list

-- at a place stands an element, and the others behind it
pub left-more : {X : Type 0} (xs : List X) (i : ℕ) (x : X) → i < length xs → x ≡ get_or xs i x
    → drop i xs ≡ x ∷ drop (i + 1) xs
left-more xs i x within item = drop_more xs i x within ∙ ap (λ (y : _). y ∷ drop (i + 1) xs) (sym item)

pub left-found : {X : Type 0} (xs : List X) (i : ℕ) (x : X) → slice_get xs i ≡ Some x → drop i xs ≡ x ∷ drop (i + 1) xs
left-found xs i x found =
    left-more xs i x (slice_get_within xs i x found) (sym (get_or_from_slice_get xs i x x found))

-- past the end nothing is left
pub left-none : {X : Type 0} (xs : List X) (i : ℕ) → length xs ≤ i → drop i xs ≡ []
left-none xs i past = at_drop_all (λ (ys : List _). ys) xs i past

-- no pair where there is no second
pub zip-none : {X Y : Type 0} (xs : List X) → zip {X = Y} xs [] ≡ []
zip-none [] = refl
zip-none (x ∷ xs) = refl

-- the lines of accounts that are left begin with that of the next one
pub accounts-more : (names : List (List ℕ)) (balances : List ℕ) (i n : ℕ) (name : List ℕ) → n ≡ i
    → slice_get names n ≡ Some name → i < length balances
    → map (λ e. line.Account e.0 e.1) (zip (drop i names) (drop i balances))
    ≡ line.Account name (get_or balances i 0)
    ∷ map (λ e. line.Account e.0 e.1) (zip (drop (i + 1) names) (drop (i + 1) balances))
accounts-more names balances i n name same found within =
    let there : slice_get names i ≡ Some name = subst (λ (k : ℕ). slice_get names k ≡ Some name) same found in
    let first = left-found names i name there in
    let second = drop_more balances i 0 within in
    λ j. map (λ (e : List ℕ × ℕ). line.Account e.0 e.1) (zip (first j) (second j))

-- ---- a whole ledger

pub ledger-written : {lists : ProgramLists} {before one two three four after : List ℕ} (unit : ℕ) (l : LedgerState)
    (d : StateData) → state_of d ≡ l.state
    → WritesLines lists before one
    (line.Head ∷ line.Unit unit ∷ line.Next d.next_object d.next_name ∷ line.Spent d.spent ∷ [])
    → WritesLines lists one two (map (λ e. line.Account e.0 e.1) (zip l.accounts d.balances))
    → WritesLines lists two three (map (λ c. line.Contract c.0 c.1) l.contracts)
    → WritesLines lists three four (map (λ t. line.Name t.0 t.1) d.types)
    → WritesLines lists four after (flat_map object_lines d.objects)
    → WritesLines lists before after (ledger_lines unit l)
ledger-written {lists} {before} {after = after} unit l d same heads accounts contracts names objects =
    let account_lines : List SnapshotLine =
    map (λ (e : List ℕ × ℕ). line.Account e.0 e.1) (zip l.accounts d.balances) in
    let contract_lines : List SnapshotLine = map (λ (c : List ℕ × ℕ). line.Contract c.0 c.1) l.contracts in
    let name_lines : List SnapshotLine = map (λ (t : ℕ × TypeId). line.Name t.0 t.1) d.types in
    let lines : List SnapshotLine = flat_map object_lines d.objects in
    let first : List SnapshotLine =
    line.Head ∷ line.Unit unit ∷ line.Next d.next_object d.next_name ∷ line.Spent d.spent ∷ [] in
    subst (λ (s : State). WritesLines lists before after (ledger_lines unit (record l { state = s }))) same
    (writes-both first (account_lines ++ (contract_lines ++ (name_lines ++ lines))) heads
    (writes-both account_lines (contract_lines ++ (name_lines ++ lines)) accounts
    (writes-both contract_lines (name_lines ++ lines) contracts (writes-both name_lines lines names objects))))

-- ---- what is answered

pub low-numbers : (d : StateData) → d.next_object ≤ 2 ^ 31 → d.next_name ≤ 2 ^ 31 → HasLowNumbers (state_of d)
low-numbers d objects names = record { objects = objects; names = names }

pub saves-numbers : {a : Acceptance} {l : LedgerState} (d : StateData) → state_of d ≡ l.state
    → ¬ (HasLowNumbers (state_of d)) → Saves a l (Err (error.Numbers d.next_object d.next_name))
saves-numbers {a} {l} d same high =
    subst (λ (s : State). Saves a (record l { state = s }) (Err (error.Numbers d.next_object d.next_name))) same
    (numbers high)

pub saves-long : {a : Acceptance} {l : LedgerState} {text : List ℕ} (d : StateData) → state_of d ≡ l.state
    → HasLowNumbers (state_of d) → WritesLines a.program [] text (ledger_lines a.annotations.unit l)
    → longest_snapshot < length text → Saves a l (Err error.TooLong)
saves-long {a} {l} d same low writes long =
    too_long (subst HasLowNumbers same low)
    (subst (λ (t : List ℕ). longest_snapshot < length t) writes.written long)

pub saves-text : {a : Acceptance} {l : LedgerState} {text : List ℕ} (d : StateData) → state_of d ≡ l.state
    → HasLowNumbers (state_of d) → WritesLines a.program [] text (ledger_lines a.annotations.unit l)
    → length text ≤ longest_snapshot → Saves a l (Ok text)
saves-text {a} {l} d same low writes short =
    subst (λ (t : List ℕ). Saves a l (Ok t)) (sym writes.written)
    (saved (subst HasLowNumbers same low)
    (subst (λ (t : List ℕ). length t ≤ longest_snapshot) writes.written short))

pub saves-loads : {a : Acceptance} {l : LedgerState} {text : List ℕ} → StandsFor a l → IsLedger l
    → WritesLines a.program [] text (ledger_lines a.annotations.unit l) → length text ≤ longest_snapshot
    → Loads a text (Ok l)
saves-loads {a} {l} stands is writes short =
    subst (λ (t : List ℕ). Loads a t (Ok l)) (sym writes.written)
    (stands-loads stands is writes.form (subst (λ (t : List ℕ). length t ≤ longest_snapshot) writes.written short))

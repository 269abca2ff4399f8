-- The lines of a snapshot.
use Rattle.std.specs.Prelude.{ℕ, ◌≤◌, ◌<◌, ◌^◌, Bool, true, false, List, [], ◌∷◌, ◌++◌, length, codes, decimal, Option, Some, None, slice_get}
use Rattle.std.specs.List.{flat_map}
use Rattle.nomos_ir.specs.Value.{list, value_list}
use Rattle.nomos_ir.specs.declared.ids.CodeId.{CodeId}
use Rattle.nomos_ir.specs.declared.ids.Label.{Label}
use Rattle.nomos_ir.specs.declared.ids.TypeId.{TypeId}
use Rattle.nomos_ir.specs.declared.lists.ProgramLists.{ProgramLists}
use Rattle.nomos_ir.specs.declared.mode.Mode.{Mode}
use Rattle.nomos_ir.specs.declared.mode.Mode.TheVariants as mode
use Rattle.nomos_deeds.specs.declared.sight.SeenProcess.{SeenProcess}
use Rattle.nomos_machine.specs.declared.object.Message.{Message}
use Rattle.nomos_machine.specs.declared.object.Payload.{Payload}
use Rattle.nomos_machine.specs.declared.object.Payload.TheVariants as payload
use Rattle.nomos_script.specs.ScriptNames.{IsScriptName}
use Rattle.nomos_printing.specs.ValueTexts.{value_text}
use Rattle.nomos_snapshot.specs.LineValue.{IsLineValue}
use Rattle.nomos_snapshot.specs.LineWords.{joined}
use Rattle.nomos_snapshot.specs.declared.line.SnapshotLine.{SnapshotLine}
use Rattle.nomos_snapshot.specs.declared.line.SnapshotLine.TheVariants as line

-- ---- words

abbrev pub mode_word : Mode → List ℕ
mode_word mode.R = codes "R"
mode_word mode.S = codes "S"
mode_word mode.L = codes "L"
mode_word mode.T = codes "T"

-- the way of a message
abbrev pub way_word : Bool → List ℕ
way_word true = codes "client"
way_word false = codes "provider"

-- a name that may be absent
abbrev pub name_word : Option ℕ → List ℕ
name_word (Some name) = decimal name
name_word None = codes "-"

-- the text of a label of the program
abbrev pub label_word : ProgramLists → ℕ → List ℕ
label_word lists l = found (slice_get lists.labels l)
  where
    found : Option (List ℕ) → List ℕ
    found (Some text) = text
    found None = []

abbrev pub payload_words : ProgramLists → Payload → List (List ℕ)
payload_words lists (payload.Label l) = codes "label" ∷ label_word lists l.0 ∷ []
payload_words lists (payload.Value v) = codes "value" ∷ value_text v ∷ []
payload_words lists (payload.Channel name) = codes "channel" ∷ decimal name ∷ []
payload_words lists payload.Pay = codes "pay" ∷ []
payload_words lists payload.Close = codes "close" ∷ []

-- ---- lines

-- the words of a line
abbrev pub line_words : ProgramLists → SnapshotLine → List (List ℕ)
line_words lists line.Head = codes "nomos-ledger" ∷ codes "1" ∷ []
line_words lists (line.Unit unit) = codes "unit" ∷ decimal unit ∷ []
line_words lists (line.Next next_object next_name) = codes "next" ∷ decimal next_object ∷ decimal next_name ∷ []
line_words lists (line.Spent dths) = codes "spent" ∷ decimal dths ∷ []
line_words lists (line.Account name dths) = codes "account" ∷ name ∷ decimal dths ∷ []
line_words lists (line.Contract name shared) = codes "contract" ∷ name ∷ decimal shared ∷ []
line_words lists (line.Name name t) = codes "name" ∷ decimal name ∷ decimal t.0 ∷ []
line_words lists (line.Process p) =
    codes "process" ∷ decimal p.pid ∷ mode_word p.mode ∷ decimal p.code.0 ∷ codes "offers" ∷ decimal p.offers
    ∷ codes "base" ∷ name_word p.base ∷ codes "purse" ∷ decimal p.purse ∷ codes "payer" ∷ decimal p.payer ∷ []
line_words lists (line.Value v x) = codes "value" ∷ decimal v.0 ∷ value_text x ∷ []
line_words lists (line.List v amount items) =
    codes "list" ∷ decimal v.0 ∷ decimal amount ∷ value_text (list (value_list items)) ∷ []
line_words lists (line.Channel v name) = codes "chan" ∷ decimal v.0 ∷ decimal name ∷ []
line_words lists (line.Message m) =
    codes "message" ∷ decimal m.number ∷ way_word m.to_client ∷ decimal m.from ∷ name_word m.next
    ∷ (payload_words lists m.payload ++ codes "purse" ∷ decimal m.purse ∷ [])

-- a line without its line feed
abbrev pub line_text : ProgramLists → SnapshotLine → List ℕ
line_text lists l = joined (line_words lists l)

-- lines, each with its line feed
abbrev pub lines_text : ProgramLists → List SnapshotLine → List ℕ
lines_text lists lines = flat_map (λ l. line_text lists l ++ 10 ∷ []) lines

-- ---- which lines there are

-- a number of 32 bits, and one of gas
abbrev pub IsNumber : ℕ → Type 0
IsNumber n = n < 2 ^ 32

abbrev pub IsGas : ℕ → Type 0
IsGas n = n < 2 ^ 95

-- the number of a type node of the program
abbrev pub IsTypeNumber : ProgramLists → TypeId → Type 0
IsTypeNumber lists t = IsNumber t.0 × (t.0 < length lists.types)

-- the number of an instruction of the program
abbrev pub IsPlace : ProgramLists → CodeId → Type 0
IsPlace lists c = IsNumber c.0 × (c.0 < length lists.code)

-- the number of a label of the program
abbrev pub IsLabel : ProgramLists → Label → Type 0
IsLabel lists l = IsNumber l.0 × (l.0 < length lists.labels)

-- the next numbers leave room for further runs
abbrev pub IsNext : ℕ → Type 0
IsNext n = n ≤ 2 ^ 31

abbrev pub IsNumberIfAny : Option ℕ → Type 0
IsNumberIfAny (Some n) = IsNumber n
IsNumberIfAny None = Unit {0}

abbrev pub IsLinePayload : ProgramLists → Payload → Type 0
IsLinePayload lists (payload.Label l) = IsLabel lists l
IsLinePayload lists (payload.Value v) = IsLineValue v
IsLinePayload lists (payload.Channel name) = IsNumber name
IsLinePayload lists payload.Pay = Unit {0}
IsLinePayload lists payload.Close = Unit {0}

-- the line of a process whose place is one of the program's
pub record IsProcessLine (lists : ProgramLists) (p : SeenProcess) : Type 0 where
  pub pid : IsNumber p.pid
  pub place : IsPlace lists p.code
  pub offers : IsNumber p.offers
  pub base : IsNumberIfAny p.base
  pub purse : IsGas p.purse
  pub payer : IsNumber p.payer

-- the line of a message whose label, if it brings one, is one of the program's
pub record IsMessageLine (lists : ProgramLists) (m : Message) : Type 0 where
  pub number : IsNumber m.number
  pub from : IsNumber m.from
  pub next : IsNumberIfAny m.next
  pub payload_is : IsLinePayload lists m.payload
  pub purse : IsGas m.purse

-- a line whose numbers, names and values are within their bounds, and whose type, place or label is the program's
abbrev pub IsLine : ProgramLists → SnapshotLine → Type 0
IsLine lists line.Head = Unit {0}
IsLine lists (line.Unit unit) = IsNumber unit
IsLine lists (line.Next next_object next_name) = IsNext next_object × IsNext next_name
IsLine lists (line.Spent dths) = IsGas dths
IsLine lists (line.Account name dths) = IsScriptName name × IsGas dths
IsLine lists (line.Contract name shared) = IsScriptName name × IsNumber shared
IsLine lists (line.Name name t) = IsNumber name × IsTypeNumber lists t
IsLine lists (line.Process p) = IsProcessLine lists p
IsLine lists (line.Value v x) = IsNumber v.0 × IsLineValue x
IsLine lists (line.List v amount items) = IsNumber v.0 × IsGas amount × IsLineValue (list (value_list items))
IsLine lists (line.Channel v name) = IsNumber v.0 × IsNumber name
IsLine lists (line.Message m) = IsMessageLine lists m

-- A mirror: the kinds of lines, by their first word, and lines of one kind by the words behind it.
use Rattle.std.specs.Prelude.{◌≡◌, ◌≢◌, ℕ, List, [], ◌∷◌, Option, MatchOption, codes, decimal, drop, find}
use Rattle.std.specs.Str.{bytes_eq}
use Rattle.nomos_ir.specs.Value.{list, value_list}
use Rattle.nomos_ir.specs.declared.lists.ProgramLists.{ProgramLists}
use Rattle.nomos_script.specs.ScriptNames.{IsScriptName}
use Rattle.nomos_snapshot.specs.Line.{IsGas, IsNext, IsNumber, IsNumberIfAny, IsMessageLine, IsProcessLine, IsTypeNumber, line_words, name_word, way_word}
use Rattle.nomos_snapshot.specs.LineValue.{IsLineValue}
use Rattle.nomos_snapshot.specs.declared.line_kind.LineKind.{LineKind}
use Rattle.nomos_snapshot.specs.declared.line_kind.LineKind.TheVariants as kind
use Rattle.nomos_snapshot.specs.declared.line.SnapshotLine.{SnapshotLine}
use Rattle.nomos_snapshot.specs.declared.line.SnapshotLine.TheVariants as line
use Rattle.nomos_snapshot.specs.declared.message_lines.MessageHead.{MessageHead}

-- ---- kinds

abbrev pub kind_word : LineKind → List ℕ
kind_word kind.Head = codes "nomos-ledger"
kind_word kind.Unit = codes "unit"
kind_word kind.Next = codes "next"
kind_word kind.Spent = codes "spent"
kind_word kind.Account = codes "account"
kind_word kind.Contract = codes "contract"
kind_word kind.Name = codes "name"
kind_word kind.Process = codes "process"
kind_word kind.Value = codes "value"
kind_word kind.List = codes "list"
kind_word kind.Channel = codes "chan"
kind_word kind.Message = codes "message"

-- every kind
abbrev pub all_kinds : List LineKind
all_kinds =
    kind.Head ∷ kind.Unit ∷ kind.Next ∷ kind.Spent ∷ kind.Account ∷ kind.Contract ∷ kind.Name ∷ kind.Process ∷
    kind.Value ∷ kind.List ∷ kind.Channel ∷ kind.Message ∷ []

-- the first kind with this word
unfoldable pub kind_named : List ℕ → Option LineKind
kind_named text = find (λ k. bytes_eq (kind_word k) text) all_kinds

-- the kind of a line
abbrev pub kind_of : SnapshotLine → LineKind
kind_of line.Head = kind.Head
kind_of (line.Unit unit) = kind.Unit
kind_of (line.Next next_object next_name) = kind.Next
kind_of (line.Spent dths) = kind.Spent
kind_of (line.Account name dths) = kind.Account
kind_of (line.Contract name shared) = kind.Contract
kind_of (line.Name name t) = kind.Name
kind_of (line.Process p) = kind.Process
kind_of (line.Value v x) = kind.Value
kind_of (line.List v amount items) = kind.List
kind_of (line.Channel v name) = kind.Channel
kind_of (line.Message m) = kind.Message

-- ---- lines of one kind

-- The answer is a line of the kind that has these words behind its first one, if there is one.
abbrev pub ReadsWords : (SnapshotLine → Type 0) → ProgramLists → List (List ℕ) → Option SnapshotLine → Type 0
ReadsWords IsOne lists words answer =
    MatchOption answer ((l : SnapshotLine) → IsOne l → words ≢ drop 1 (line_words lists l))
    (λ l. IsOne l × (words ≡ drop 1 (line_words lists l)))

abbrev pub IsHeadLine : SnapshotLine → Type 0
IsHeadLine line.Head = Unit {0}
IsHeadLine _ = ⊥

abbrev pub IsUnitLine : SnapshotLine → Type 0
IsUnitLine (line.Unit unit) = IsNumber unit
IsUnitLine _ = ⊥

abbrev pub IsNextLine : SnapshotLine → Type 0
IsNextLine (line.Next next_object next_name) = IsNext next_object × IsNext next_name
IsNextLine _ = ⊥

abbrev pub IsSpentLine : SnapshotLine → Type 0
IsSpentLine (line.Spent dths) = IsGas dths
IsSpentLine _ = ⊥

abbrev pub IsAccountLine : SnapshotLine → Type 0
IsAccountLine (line.Account name dths) = IsScriptName name × IsGas dths
IsAccountLine _ = ⊥

abbrev pub IsContractLine : SnapshotLine → Type 0
IsContractLine (line.Contract name shared) = IsScriptName name × IsNumber shared
IsContractLine _ = ⊥

abbrev pub IsNameLine : ProgramLists → SnapshotLine → Type 0
IsNameLine lists (line.Name name t) = IsNumber name × IsTypeNumber lists t
IsNameLine lists _ = ⊥

abbrev pub IsProcessOf : ProgramLists → SnapshotLine → Type 0
IsProcessOf lists (line.Process p) = IsProcessLine lists p
IsProcessOf lists _ = ⊥

abbrev pub IsValueLine : SnapshotLine → Type 0
IsValueLine (line.Value v x) = IsNumber v.0 × IsLineValue x
IsValueLine _ = ⊥

abbrev pub IsListLine : SnapshotLine → Type 0
IsListLine (line.List v amount items) = IsNumber v.0 × IsGas amount × IsLineValue (list (value_list items))
IsListLine _ = ⊥

abbrev pub IsChannelLine : SnapshotLine → Type 0
IsChannelLine (line.Channel v name) = IsNumber v.0 × IsNumber name
IsChannelLine _ = ⊥

abbrev pub IsMessageOf : ProgramLists → SnapshotLine → Type 0
IsMessageOf lists (line.Message m) = IsMessageLine lists m
IsMessageOf lists _ = ⊥

-- a line of this kind
abbrev pub IsOfKind : ProgramLists → LineKind → SnapshotLine → Type 0
IsOfKind lists kind.Head = IsHeadLine
IsOfKind lists kind.Unit = IsUnitLine
IsOfKind lists kind.Next = IsNextLine
IsOfKind lists kind.Spent = IsSpentLine
IsOfKind lists kind.Account = IsAccountLine
IsOfKind lists kind.Contract = IsContractLine
IsOfKind lists kind.Name = IsNameLine lists
IsOfKind lists kind.Process = IsProcessOf lists
IsOfKind lists kind.Value = IsValueLine
IsOfKind lists kind.List = IsListLine
IsOfKind lists kind.Channel = IsChannelLine
IsOfKind lists kind.Message = IsMessageOf lists

-- ---- parts of lines

-- what stands in the line of a message before what it brings
pub record IsMessageHead (h : MessageHead) : Type 0 where
  pub number : IsNumber h.number
  pub from : IsNumber h.from
  pub next : IsNumberIfAny h.next

abbrev pub head_words : MessageHead → List (List ℕ) → List (List ℕ)
head_words h rest = decimal h.number ∷ way_word h.to_client ∷ decimal h.from ∷ name_word h.next ∷ rest

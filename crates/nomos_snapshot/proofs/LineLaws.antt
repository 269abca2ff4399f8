-- No two lines of a snapshot are written alike, and none has a line feed.
use Rattle.std.proofs.Common.{◌≡◌, ◌≢◌, ℕ, ◌<◌, ◌^◌, Bool, true, false, List, [], ◌∷◌, ◌++◌, get_or, length, Option, Some, None, refl, subst, arith}
use Rattle.std.specs.Prelude.{decimal, codes, slice_get, not, ◌==◌, All, IsTrue}
use Rattle.std.specs.List.{list_all}
use Rattle.std.proofs.lemmas.Bool.{false≢true}
use Rattle.std.proofs.lemmas.List.Elements.{All-nil, All-cons, All-get_or, All-weaker}
use Rattle.std.proofs.lemmas.Option.{slice_get-get_or}
use Rattle.nomos_ir.specs.Name.{IsShortName, is_word_byte}
use Rattle.nomos_ir.specs.Naming.{NamesAreShort}
use Rattle.nomos_ir.specs.Value.{Value, list, value_list}
use Rattle.nomos_ir.specs.declared.lists.ProgramLists.{ProgramLists}
use Rattle.nomos_ir.specs.declared.mode.Mode.{Mode}
use Rattle.nomos_ir.specs.declared.mode.Mode.TheVariants as mode
use Rattle.nomos_machine.specs.declared.object.Payload.{Payload}
use Rattle.nomos_machine.specs.declared.object.Payload.TheVariants as payload
use Rattle.nomos_script.specs.ScriptNames.{IsScriptName}
use Rattle.nomos_printing.specs.Splitting.{Lacks}
use Rattle.nomos_printing.specs.ValueTexts.{value_text}
use Rattle.nomos_printing.proofs.SplittingLaws.{Lacks-decimal, Lacks-tested}
use Rattle.nomos_snapshot.specs.Line.{IsLine, IsLinePayload, IsNumberIfAny, label_word, line_text, line_words, mode_word, name_word, payload_words, way_word}
use Rattle.nomos_snapshot.specs.LineValue.{IsLineValue}
use Rattle.nomos_snapshot.specs.declared.line.SnapshotLine.{SnapshotLine}
use Rattle.nomos_snapshot.specs.declared.line.SnapshotLine.TheVariants as line
use Rattle.nomos_snapshot.proofs.ValueLemmas.{IsSolid, value-solid}
use Rattle.nomos_snapshot.proofs.WordLemmas.{joined-lacks}

-- ---- words without blank and line feed

-- neither a blank nor a line feed
pub record IsBare (word : List ℕ) : Type 0 where
  pub blank : Lacks 32 word
  pub feed : Lacks 10 word

bare-number : (n : ℕ) → n < 2 ^ 128 → IsBare (decimal n)
bare-number n small = record {
  blank = Lacks-decimal 32 n small (omega arith);
  feed = Lacks-decimal 10 n small (omega arith);
}

bare-letters : (text : List ℕ) → All (λ b. IsTrue (is_word_byte b)) text → IsBare text
bare-letters text each = record {
  blank = All-weaker (λ b. IsTrue (is_word_byte b)) (λ b. b ≢ 32)
      (λ b word e. let P : ℕ → Type 0 = λ c. IsTrue (is_word_byte c) in false≢true (subst P e word)) text each;
  feed = All-weaker (λ b. IsTrue (is_word_byte b)) (λ b. b ≢ 10)
      (λ b word e. let P : ℕ → Type 0 = λ c. IsTrue (is_word_byte c) in false≢true (subst P e word)) text each;
}

bare-name : (name : List ℕ) → IsScriptName name → IsBare name
bare-name name is = bare-letters name is.word.each

-- a label of the program
label-is : (lists : ProgramLists) (l : ℕ) (text : List ℕ) → slice_get lists.labels l ≡ Some text
    → label_word lists l ≡ text
label-is lists l text e = rw e refl

pub label-at : (lists : ProgramLists) (l : ℕ) → l < length lists.labels → label_word lists l ≡ get_or lists.labels l []
label-at lists l within = label-is lists l (get_or lists.labels l []) (slice_get-get_or lists.labels l [] within)

bare-label : (lists : ProgramLists) (l : ℕ) → NamesAreShort lists → l < length lists.labels
    → IsBare (label_word lists l)
bare-label lists l short within =
    rw (label-at lists l within)
    (bare-letters (get_or lists.labels l [])
    (All-get_or IsShortName lists.labels l [] within short.labels).name.word.each)

bare-value : (v : Value) → IsLineValue v → IsBare (value_text v)
bare-value v is = record {
  blank = All-weaker IsSolid (λ b. b ≢ 32) (λ b solid e. absurd (omega (arith, solid, e))) (value_text v)
      (value-solid v is.small);
  feed = All-weaker IsSolid (λ b. b ≢ 10) (λ b solid e. absurd (omega (arith, solid, e))) (value_text v)
      (value-solid v is.small);
}

bare-mode : (m : Mode) → IsBare (mode_word m)
bare-mode mode.R = record { blank = Lacks-tested 32 (codes "R") refl; feed = Lacks-tested 10 (codes "R") refl }
bare-mode mode.S = record { blank = Lacks-tested 32 (codes "S") refl; feed = Lacks-tested 10 (codes "S") refl }
bare-mode mode.L = record { blank = Lacks-tested 32 (codes "L") refl; feed = Lacks-tested 10 (codes "L") refl }
bare-mode mode.T = record { blank = Lacks-tested 32 (codes "T") refl; feed = Lacks-tested 10 (codes "T") refl }

bare-way : (b : Bool) → IsBare (way_word b)
bare-way true = record { blank = Lacks-tested 32 (codes "client") refl; feed = Lacks-tested 10 (codes "client") refl }
bare-way false =
    record { blank = Lacks-tested 32 (codes "provider") refl; feed = Lacks-tested 10 (codes "provider") refl }

bare-any : (name : Option ℕ) → IsNumberIfAny name → IsBare (name_word name)
bare-any (Some n) is = bare-number n (omega (arith, is))
bare-any None is = record { blank = Lacks-tested 32 (codes "-") refl; feed = Lacks-tested 10 (codes "-") refl }

-- a word that is written out
bare-word : (w : List ℕ) → list_all (λ b. not (b == 32)) w ≡ true → list_all (λ b. not (b == 10)) w ≡ true → IsBare w
bare-word w no_blank no_feed = record { blank = Lacks-tested 32 w no_blank; feed = Lacks-tested 10 w no_feed }

-- the words of a line
abbrev AreBare : List (List ℕ) → Type 0
AreBare [] = Unit {0}
AreBare (w ∷ ws) = IsBare w × AreBare ws

bare-append : (ws vs : List (List ℕ)) → AreBare ws → AreBare vs → AreBare (ws ++ vs)
bare-append [] vs a b = b
bare-append (w ∷ ws) vs a b = (a.0, bare-append ws vs a.1 b)

bare-payload : (lists : ProgramLists) (p : Payload) → NamesAreShort lists → IsLinePayload lists p
    → AreBare (payload_words lists p)
bare-payload lists (payload.Label l) short is = (
  bare-word (codes "label") refl refl,
  (bare-label lists l.0 short is.1, tt),
)
bare-payload lists (payload.Value v) short is = (bare-word (codes "value") refl refl, (bare-value v is, tt))
bare-payload lists (payload.Channel name) short is =
    (bare-word (codes "channel") refl refl, (bare-number name (omega (arith, is)), tt))
bare-payload lists payload.Pay short is = (bare-word (codes "pay") refl refl, tt)
bare-payload lists payload.Close short is = (bare-word (codes "close") refl refl, tt)

line-bare : (lists : ProgramLists) (l : SnapshotLine) → NamesAreShort lists → IsLine lists l
    → AreBare (line_words lists l)
line-bare lists line.Head short is = (bare-word (codes "nomos-ledger") refl refl, (bare-word (codes "1") refl refl, tt))
line-bare lists (line.Unit unit) short is = (
  bare-word (codes "unit") refl refl,
  (bare-number unit (omega (arith, is)), tt),
)
line-bare lists (line.Next o n) short is = (
  bare-word (codes "next") refl refl,
  (bare-number o (omega (arith, is.0)), (bare-number n (omega (arith, is.1)), tt)),
)
line-bare lists (line.Spent dths) short is =
    (bare-word (codes "spent") refl refl, (bare-number dths (omega (arith, is)), tt))
line-bare lists (line.Account name dths) short is =
    (bare-word (codes "account") refl refl, (bare-name name is.0, (bare-number dths (omega (arith, is.1)), tt)))
line-bare lists (line.Contract name shared) short is =
    (bare-word (codes "contract") refl refl, (bare-name name is.0, (bare-number shared (omega (arith, is.1)), tt)))
line-bare lists (line.Name name t) short is = (
  bare-word (codes "name") refl refl,
  (bare-number name (omega (arith, is.0)), (bare-number t.0 (omega (arith, is.1.0)), tt)),
)
line-bare lists (line.Process p) short is = (
  bare-word (codes "process") refl refl,
  (
    bare-number p.pid (omega (arith, is.pid)),
    (
      bare-mode p.mode,
      (
        bare-number p.code.0 (omega (arith, is.place.0)),
        (
          bare-word (codes "offers") refl refl,
          (
            bare-number p.offers (omega (arith, is.offers)),
            (
              bare-word (codes "base") refl refl,
              (
                bare-any p.base is.base,
                (
                  bare-word (codes "purse") refl refl,
                  (
                    bare-number p.purse (omega (arith, is.purse)),
                    (bare-word (codes "payer") refl refl, (bare-number p.payer (omega (arith, is.payer)), tt)),
                  ),
                ),
              ),
            ),
          ),
        ),
      ),
    ),
  ),
)
line-bare lists (line.Value v x) short is =
    (bare-word (codes "value") refl refl, (bare-number v.0 (omega (arith, is.0)), (bare-value x is.1, tt)))
line-bare lists (line.List v amount items) short is = (
  bare-word (codes "list") refl refl,
  (
    bare-number v.0 (omega (arith, is.0)),
    (
      bare-number amount (omega (arith, is.1)),
      (bare-value (list (value_list items)) is.2, tt),
    ),
  ),
)
line-bare lists (line.Channel v name) short is = (
  bare-word (codes "chan") refl refl,
  (bare-number v.0 (omega (arith, is.0)), (bare-number name (omega (arith, is.1)), tt)),
)
line-bare lists (line.Message m) short is = (
  bare-word (codes "message") refl refl,
  (
    bare-number m.number (omega (arith, is.number)),
    (
      bare-way m.to_client,
      (
        bare-number m.from (omega (arith, is.from)),
        (
          bare-any m.next is.next,
          bare-append (payload_words lists m.payload) (codes "purse" ∷ decimal m.purse ∷ [])
              (bare-payload lists m.payload short is.payload_is)
              (bare-word (codes "purse") refl refl, (bare-number m.purse (omega (arith, is.purse)), tt)),
        ),
      ),
    ),
  ),
)

-- each of the words
by_recursion : (ws : List (List ℕ)) → AreBare ws → All IsBare ws
by_recursion [] all = All-nil IsBare
by_recursion (w ∷ ws) all = All-cons IsBare w ws all.0 (by_recursion ws all.1)

pub line-blankless : (lists : ProgramLists) (l : SnapshotLine) → NamesAreShort lists → IsLine lists l
    → All (Lacks 32) (line_words lists l)
line-blankless lists l short is =
    All-weaker IsBare (Lacks 32) (λ w bare. bare.blank) (line_words lists l)
    (by_recursion (line_words lists l) (line-bare lists l short is))

-- a line has no line feed
pub line-feedless : (lists : ProgramLists) (l : SnapshotLine) → NamesAreShort lists → IsLine lists l
    → Lacks 10 (line_text lists l)
line-feedless lists l short is =
    joined-lacks 10 (line_words lists l) (λ e. absurd (omega (arith, e)))
    (All-weaker IsBare (Lacks 10) (λ w bare. bare.feed) (line_words lists l)
    (by_recursion (line_words lists l) (line-bare lists l short is)))

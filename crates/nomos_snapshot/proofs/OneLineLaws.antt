-- No two lines of a snapshot are written alike.
use Rattle.std.proofs.Common.{◌≡◌, ℕ, ◌+◌, ◌*◌, ◌<◌, Bool, true, false, List, [], ◌∷◌, ◌++◌, get_or, length, Option, Some, None, refl, sym, ◌∙◌, ap, arith, inl, inr}
use Rattle.std.specs.Prelude.{decimal, codes}
use Rattle.std.proofs.lemmas.Bool.{cases_lt}
use Rattle.std.proofs.lemmas.Fmt.{decimal_is_IsNumeral_wide}
use Rattle.std.proofs.lemmas.Str.Parse.{digit_at}
use Rattle.nomos_deeds.specs.declared.sight.SeenProcess.{SeenProcess}
use Rattle.nomos_ir.specs.Naming.{NamesAreShort, NamesDiffer}
use Rattle.nomos_ir.specs.Value.{Value, list, value_list}
use Rattle.nomos_ir.specs.declared.ids.TypeId.{TypeId}
use Rattle.nomos_ir.specs.declared.ids.VarId.{VarId}
use Rattle.nomos_ir.specs.declared.lists.ProgramLists.{ProgramLists}
use Rattle.nomos_ir.specs.declared.mode.Mode.{Mode}
use Rattle.nomos_ir.specs.declared.mode.Mode.TheVariants as mode
use Rattle.nomos_machine.specs.declared.object.Message.{Message}
use Rattle.nomos_machine.specs.declared.object.Payload.{Payload}
use Rattle.nomos_machine.specs.declared.object.Payload.TheVariants as payload
use Rattle.nomos_printing.specs.ValueTexts.{value_text}
use Rattle.nomos_printing.proofs.OneTextLaws.{decimal-only}
use Rattle.nomos_snapshot.specs.Line.{IsGas, IsLine, IsLinePayload, IsMessageLine, IsNumber, IsNumberIfAny, IsProcessLine, label_word, line_text, line_words, mode_word, name_word, payload_words, way_word}
use Rattle.nomos_snapshot.specs.LineWords.{words_in}
use Rattle.nomos_snapshot.specs.declared.line.SnapshotLine.{SnapshotLine}
use Rattle.nomos_snapshot.specs.declared.line.SnapshotLine.TheVariants as line
use Rattle.nomos_snapshot.proofs.LineLaws.{label-at, line-blankless}
use Rattle.nomos_snapshot.proofs.RowLemmas.{value_text-only}
use Rattle.nomos_snapshot.proofs.WordLemmas.{words-joined}

-- ---- words

number-only : (m n : ℕ) → IsNumber m → IsNumber n → decimal m ≡ decimal n → m ≡ n
number-only m n a b e = decimal-only m n (omega (arith, a)) (omega (arith, b)) e

gas-only : (m n : ℕ) → IsGas m → IsGas n → decimal m ≡ decimal n → m ≡ n
gas-only m n a b e = decimal-only m n (omega (arith, a)) (omega (arith, b)) e

-- a number is not `-`
no-dash : (n : ℕ) → IsNumber n → decimal n ≡ codes "-" → ⊥
no-dash n is e =
    let numeral = (decimal_is_IsNumeral_wide n (omega (arith, is))).0 in
    let digit = digit_at (decimal n) 0 numeral.1 numeral.0 in
    absurd (omega (arith, digit, ap (λ t. get_or t 0 0) e))

pub any-only : (m n : Option ℕ) → IsNumberIfAny m → IsNumberIfAny n → name_word m ≡ name_word n → m ≡ n
any-only (Some m) (Some n) a b e = ap (λ (k : ℕ). Some k) (number-only m n a b e)
any-only (Some m) None a b e = absurd (no-dash m a e)
any-only None (Some n) a b e = absurd (no-dash n b (sym e))
any-only None None a b e = refl

mode-only : (m n : Mode) → mode_word m ≡ mode_word n → m ≡ n
mode-only mode.R mode.R e = refl
mode-only mode.S mode.S e = refl
mode-only mode.L mode.L e = refl
mode-only mode.T mode.T e = refl
mode-only mode.R n e = absurd (omega (arith, ap (λ t. get_or t 0 0) e))
mode-only mode.S n e = absurd (omega (arith, ap (λ t. get_or t 0 0) e))
mode-only mode.L n e = absurd (omega (arith, ap (λ t. get_or t 0 0) e))
mode-only mode.T n e = absurd (omega (arith, ap (λ t. get_or t 0 0) e))

way-only : (a b : Bool) → way_word a ≡ way_word b → a ≡ b
way-only true true e = refl
way-only false false e = refl
way-only true false e = absurd (omega (arith, ap (λ t. get_or t 0 0) e))
way-only false true e = absurd (omega (arith, ap (λ t. get_or t 0 0) e))

label-only : (lists : ProgramLists) (l m : ℕ) → NamesDiffer lists → l < length lists.labels → m < length lists.labels
    → label_word lists l ≡ label_word lists m → l ≡ m
label-only lists l m differ a b e =
    let same = sym (label-at lists l a) ∙ e ∙ label-at lists m b in
    elim (cases_lt l m) [
      | inl before ↦ absurd (differ.labels l m [] before b same)
      | inr from ↦ elim (cases_lt m l) [
        | inl behind ↦ absurd (differ.labels m l [] behind a (sym same))
        | inr to ↦ omega (arith, from, to)
      ]
    ]

-- ---- payloads

-- what is brought is told apart by its first word
payload-sign : List (List ℕ) → ℕ
payload-sign ws = get_or (get_or ws 0 []) 0 0 * 256 + get_or (get_or ws 0 []) 1 0

record SamePayload (p q : Payload) (ws vs : List (List ℕ)) : Type 0 where
  is : p ≡ q
  rest : ws ≡ vs

payload-only : (lists : ProgramLists) (p q : Payload) (ws vs : List (List ℕ)) → NamesDiffer lists
    → IsLinePayload lists p → IsLinePayload lists q → payload_words lists p ++ ws ≡ payload_words lists q ++ vs
    → SamePayload p q ws vs
unfolding payload-sign
payload-only lists (payload.Label l) (payload.Label m) ws vs differ a b e =
    let word : label_word lists l.0 ≡ label_word lists m.0 = cc in
    let number = label-only lists l.0 m.0 differ a.1 b.1 word in
    record { is = ap (λ (n : ℕ). payload.Label (record { 0 = n })) number; rest = cc }
payload-only lists (payload.Value v) (payload.Value w) ws vs differ a b e =
    let word : value_text v ≡ value_text w = cc in
    record { is = ap payload.Value (value_text-only v w a b word); rest = cc }
payload-only lists (payload.Channel m) (payload.Channel n) ws vs differ a b e =
    let word : decimal m ≡ decimal n = cc in
    record { is = ap payload.Channel (number-only m n a b word); rest = cc }
payload-only lists payload.Pay payload.Pay ws vs differ a b e = record { is = refl; rest = cc }
payload-only lists payload.Close payload.Close ws vs differ a b e = record { is = refl; rest = cc }
payload-only lists (payload.Label l) q ws vs differ a b e = absurd (omega (arith, ap payload-sign e))
payload-only lists (payload.Value v) q ws vs differ a b e = absurd (omega (arith, ap payload-sign e))
payload-only lists (payload.Channel n) q ws vs differ a b e = absurd (omega (arith, ap payload-sign e))
payload-only lists payload.Pay q ws vs differ a b e = absurd (omega (arith, ap payload-sign e))
payload-only lists payload.Close q ws vs differ a b e = absurd (omega (arith, ap payload-sign e))

-- ---- lines

-- a process and a message by their parts
process-same : (p q : SeenProcess) → p.pid ≡ q.pid → p.mode ≡ q.mode → p.code.0 ≡ q.code.0 → p.offers ≡ q.offers
    → p.base ≡ q.base → p.purse ≡ q.purse → p.payer ≡ q.payer → p ≡ q
process-same p q pid mode_is code offers base purse payer =
    λ i. record {
      pid = pid i;
      mode = mode_is i;
      code = record { 0 = code i };
      offers = offers i;
      base = base i;
      purse = purse i;
      payer = payer i;
    }

message-same : (m n : Message) → m.number ≡ n.number → m.to_client ≡ n.to_client → m.from ≡ n.from → m.next ≡ n.next
    → m.payload ≡ n.payload → m.purse ≡ n.purse → m ≡ n
message-same m n number way from next brings purse =
    λ i. record {
      number = number i;
      to_client = way i;
      from = from i;
      next = next i;
      payload = brings i;
      purse = purse i;
    }

processes-only : (lists : ProgramLists) (p q : SeenProcess) → IsProcessLine lists p → IsProcessLine lists q
    → line_words lists (line.Process p) ≡ line_words lists (line.Process q) → p ≡ q
processes-only lists p q a b e =
    let pid : decimal p.pid ≡ decimal q.pid = cc in
    let mode_is : mode_word p.mode ≡ mode_word q.mode = cc in
    let code : decimal p.code.0 ≡ decimal q.code.0 = cc in
    let offers : decimal p.offers ≡ decimal q.offers = cc in
    let base : name_word p.base ≡ name_word q.base = cc in
    let purse : decimal p.purse ≡ decimal q.purse = cc in
    let payer : decimal p.payer ≡ decimal q.payer = cc in
    process-same p q (number-only p.pid q.pid a.pid b.pid pid) (mode-only p.mode q.mode mode_is)
    (number-only p.code.0 q.code.0 a.place.0 b.place.0 code) (number-only p.offers q.offers a.offers b.offers offers)
    (any-only p.base q.base a.base b.base base) (gas-only p.purse q.purse a.purse b.purse purse)
    (number-only p.payer q.payer a.payer b.payer payer)

messages-only : (lists : ProgramLists) (m n : Message) → NamesDiffer lists → IsMessageLine lists m
    → IsMessageLine lists n
    → line_words lists (line.Message m) ≡ line_words lists (line.Message n) → m ≡ n
messages-only lists m n differ a b e =
    let number : decimal m.number ≡ decimal n.number = cc in
    let way : way_word m.to_client ≡ way_word n.to_client = cc in
    let from : decimal m.from ≡ decimal n.from = cc in
    let next : name_word m.next ≡ name_word n.next = cc in
    let back : payload_words lists m.payload ++ codes "purse" ∷ decimal m.purse ∷ []
    ≡ payload_words lists n.payload ++ codes "purse" ∷ decimal n.purse ∷ [] = cc in
    let brings = payload-only lists m.payload n.payload (codes "purse" ∷ decimal m.purse ∷ [])
    (codes "purse" ∷ decimal n.purse ∷ []) differ a.payload_is b.payload_is back in
    let rest : codes "purse" ∷ decimal m.purse ∷ [] ≡ codes "purse" ∷ decimal n.purse ∷ [] = brings.rest in
    let purse : decimal m.purse ≡ decimal n.purse = cc in
    message-same m n (number-only m.number n.number a.number b.number number) (way-only m.to_client n.to_client way)
    (number-only m.from n.from a.from b.from from) (any-only m.next n.next a.next b.next next) brings.is
    (gas-only m.purse n.purse a.purse b.purse purse)

-- a value that is a list
items-only : (xs ys : List Value) → value_list xs ≡ value_list ys → xs ≡ ys
items-only [] [] e = refl
items-only [] (y ∷ ys) e = cc
items-only (x ∷ xs) [] e = cc
items-only (x ∷ xs) (y ∷ ys) e =
    let first : x ≡ y = cc in
    let rest : value_list xs ≡ value_list ys = cc in
    let others = items-only xs ys rest in
    cc (first, others)

-- a line is told apart by the first two bytes of its first word
line-sign : List (List ℕ) → ℕ
line-sign ws = get_or (get_or ws 0 []) 0 0 * 256 + get_or (get_or ws 0 []) 1 0

pub words-only : (lists : ProgramLists) (l m : SnapshotLine) → NamesDiffer lists → IsLine lists l → IsLine lists m
    → line_words lists l ≡ line_words lists m → l ≡ m
unfolding line-sign
words-only lists line.Head line.Head differ a b e = refl
words-only lists (line.Unit x) (line.Unit y) differ a b e =
    let word : decimal x ≡ decimal y = cc in
    ap line.Unit (number-only x y a b word)
words-only lists (line.Next o n) (line.Next p m) differ a b e =
    let first : decimal o ≡ decimal p = cc in
    let second : decimal n ≡ decimal m = cc in
    let objects = number-only o p (omega (arith, a.0)) (omega (arith, b.0)) first in
    let names = number-only n m (omega (arith, a.1)) (omega (arith, b.1)) second in
    cc (objects, names)
words-only lists (line.Spent x) (line.Spent y) differ a b e =
    let word : decimal x ≡ decimal y = cc in
    ap line.Spent (gas-only x y a b word)
words-only lists (line.Account name x) (line.Account other y) differ a b e =
    let first : name ≡ other = cc in
    let word : decimal x ≡ decimal y = cc in
    let gas = gas-only x y a.1 b.1 word in
    cc (first, gas)
words-only lists (line.Contract name x) (line.Contract other y) differ a b e =
    let first : name ≡ other = cc in
    let word : decimal x ≡ decimal y = cc in
    let shared = number-only x y a.1 b.1 word in
    cc (first, shared)
words-only lists (line.Name name t) (line.Name other s) differ a b e =
    let first : decimal name ≡ decimal other = cc in
    let word : decimal t.0 ≡ decimal s.0 = cc in
    let names = number-only name other a.0 b.0 first in
    let types : t ≡ s = ap (λ (n : ℕ). let x : TypeId = record { 0 = n } in x) (number-only t.0 s.0 a.1.0 b.1.0 word) in
    cc (names, types)
words-only lists (line.Process p) (line.Process q) differ a b e = ap line.Process (processes-only lists p q a b e)
words-only lists (line.Value v x) (line.Value w y) differ a b e =
    let first : decimal v.0 ≡ decimal w.0 = cc in
    let word : value_text x ≡ value_text y = cc in
    let variables : v ≡ w = ap (λ (n : ℕ). let u : VarId = record { 0 = n } in u) (number-only v.0 w.0 a.0 b.0 first) in
    let values = value_text-only x y a.1 b.1 word in
    cc (variables, values)
words-only lists (line.List v n items) (line.List w m others) differ a b e =
    let first : decimal v.0 ≡ decimal w.0 = cc in
    let second : decimal n ≡ decimal m = cc in
    let word : value_text (list (value_list items)) ≡ value_text (list (value_list others)) = cc in
    let variables : v ≡ w = ap (λ (n : ℕ). let u : VarId = record { 0 = n } in u) (number-only v.0 w.0 a.0 b.0 first) in
    let amounts = gas-only n m a.1 b.1 second in
    let values : list (value_list items) ≡ list (value_list others) =
    value_text-only (list (value_list items)) (list (value_list others)) a.2 b.2 word in
    let inner : value_list items ≡ value_list others = cc in
    let rows = items-only items others inner in
    cc (variables, amounts, rows)
words-only lists (line.Channel v n) (line.Channel w m) differ a b e =
    let first : decimal v.0 ≡ decimal w.0 = cc in
    let second : decimal n ≡ decimal m = cc in
    let variables : v ≡ w = ap (λ (n : ℕ). let u : VarId = record { 0 = n } in u) (number-only v.0 w.0 a.0 b.0 first) in
    let names = number-only n m a.1 b.1 second in
    cc (variables, names)
words-only lists (line.Message m) (line.Message n) differ a b e = ap line.Message (messages-only lists m n differ a b e)
words-only lists line.Head m differ a b e = absurd (omega (arith, ap line-sign e))
words-only lists (line.Unit x) m differ a b e = absurd (omega (arith, ap line-sign e))
words-only lists (line.Next x y) m differ a b e = absurd (omega (arith, ap line-sign e))
words-only lists (line.Spent x) m differ a b e = absurd (omega (arith, ap line-sign e))
words-only lists (line.Account x y) m differ a b e = absurd (omega (arith, ap line-sign e))
words-only lists (line.Contract x y) m differ a b e = absurd (omega (arith, ap line-sign e))
words-only lists (line.Name x y) m differ a b e = absurd (omega (arith, ap line-sign e))
words-only lists (line.Process p) m differ a b e = absurd (omega (arith, ap line-sign e))
words-only lists (line.Value x y) m differ a b e = absurd (omega (arith, ap line-sign e))
words-only lists (line.List x y z) m differ a b e = absurd (omega (arith, ap line-sign e))
words-only lists (line.Channel x y) m differ a b e = absurd (omega (arith, ap line-sign e))
words-only lists (line.Message x) m differ a b e = absurd (omega (arith, ap line-sign e))

-- ---- texts of lines

-- there is a word at least
pub line-words : (lists : ProgramLists) (l : SnapshotLine) → NamesAreShort lists → IsLine lists l
    → words_in (line_text lists l) ≡ line_words lists l
line-words lists line.Head short is = words-joined _ _ (line-blankless lists line.Head short is)
line-words lists (line.Unit x) short is = words-joined _ _ (line-blankless lists (line.Unit x) short is)
line-words lists (line.Next x y) short is = words-joined _ _ (line-blankless lists (line.Next x y) short is)
line-words lists (line.Spent x) short is = words-joined _ _ (line-blankless lists (line.Spent x) short is)
line-words lists (line.Account x y) short is = words-joined _ _ (line-blankless lists (line.Account x y) short is)
line-words lists (line.Contract x y) short is = words-joined _ _ (line-blankless lists (line.Contract x y) short is)
line-words lists (line.Name x y) short is = words-joined _ _ (line-blankless lists (line.Name x y) short is)
line-words lists (line.Process p) short is = words-joined _ _ (line-blankless lists (line.Process p) short is)
line-words lists (line.Value x y) short is = words-joined _ _ (line-blankless lists (line.Value x y) short is)
line-words lists (line.List x y z) short is = words-joined _ _ (line-blankless lists (line.List x y z) short is)
line-words lists (line.Channel x y) short is = words-joined _ _ (line-blankless lists (line.Channel x y) short is)
line-words lists (line.Message m) short is = words-joined _ _ (line-blankless lists (line.Message m) short is)

pub line_text-only : (lists : ProgramLists) (l m : SnapshotLine) → NamesAreShort lists → NamesDiffer lists
    → IsLine lists l → IsLine lists m → line_text lists l ≡ line_text lists m → l ≡ m
line_text-only lists l m short differ a b e =
    words-only lists l m differ a b (sym (line-words lists l short a) ∙ ap words_in e ∙ line-words lists m short b)

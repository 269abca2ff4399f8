-- The script of a load reads.
use Rattle.std.proofs.Common.{◌≡◌, ◌∙◌, ◌<◌, ◌≤◌, ◌^◌, ◌++◌, ◌==◌, ◌&&◌, ℕ, zero, suc, Bool, true, false, List, [], ◌∷◌, length, take, drop, map, refl, sym, subst, ap, arith, append-nil, append_assoc}
use Rattle.std.specs.List.{All, list_all, prefix_len}
use Rattle.std.specs.Prelude.{IsTrue, codes, decimal, nat_le, not}
use Rattle.std.specs.Char.{digit_value}
use Rattle.std.specs.Str.Parse.{AllDigits, IsNumeral, digits_value}
use Rattle.std.proofs.Math.Seq.{drop-append_seam, take-append_seam}
use Rattle.std.proofs.lemmas.Bool.{and_parts, le-leb, lt-leb, ne_eqb}
use Rattle.std.proofs.lemmas.Fmt.{decimal_is_IsNumeral, length-decimal-le}
use Rattle.std.proofs.lemmas.List.Elements.{All-cons, All-head, All-nil, All-tail}
use Rattle.std.proofs.lemmas.List.Folds.{list_all-append}
use Rattle.std.proofs.lemmas.Str.Parse.{digit_from_value}
use Rattle.nomos_ir.specs.Name.{is_digit, is_letter, is_word_byte}
use Rattle.nomos_script.specs.Form.{Form, Invocation, IsValidInvocation, LineReadsAs, create, deposit, exec}
use Rattle.nomos_script.specs.Item.{items_of}
use Rattle.nomos_script.specs.Lines.{lines_of, put_byte}
use Rattle.nomos_script.specs.Paragraph.{IsParagraph, StandsAlone, forms_of, single}
use Rattle.nomos_script.specs.ScriptNames.{IsScriptName}
use Rattle.nomos_script.specs.ScriptReading.{LinesReadAs, ReadsAs}
use Rattle.nomos_script.specs.ScriptScan.{Token, begins_comment, is_blank, mark, number, piece_at, tokens_from, tokens_of, word}
use Rattle.nomos_script.specs.ValueTree.{AreValidValues, ValueTrees, no_trees, tree, written_number}
use Rattle.nomos_script.specs.declared.item.ScriptItem.{ScriptItem}
use Rattle.nomos_script.proofs.ScanLemmas.{tokens_of-number, tokens_of-word}
use Rattle.nomos_words.specs.BenchLoad.{bid, bid_line, bidder_lines, bidders_lines, gas_line, load_script, wallet_line}
use Rattle.nomos_words.proofs.LoadLaws.{bid_within, load_script-short}

-- ---- lines

-- a byte that ends no line
abbrev is_plain : ℕ → Bool
is_plain b = not (b == 10) && not (b == 13)

abbrev ArePlain : List ℕ → Type 0
ArePlain bytes = list_all is_plain bytes ≡ true

untrue : (x : Bool) → not x ≡ true → x ≡ false
untrue true is = absurd cc
untrue false is = refl

-- bytes that end no line are a line, before a line feed
one-line : (line rest : List ℕ) → ArePlain line → lines_of (line ++ 10 ∷ rest) ≡ line ∷ lines_of rest
unfolding lines_of
one-line [] rest plain = refl
one-line (b ∷ line) rest plain =
    let both = and_parts (is_plain b) (list_all is_plain line) plain in
    let own = and_parts (not (b == 10)) (not (b == 13)) both.0 in
    rw (untrue (b == 10) own.0, untrue (b == 13) own.1) (ap (put_byte b) (one-line line rest both.1))

-- whatever follows these bytes, they are lines of these forms
abbrev TextReadsAs : List ℕ → List Form → Type 0
TextReadsAs text forms =
    (rest : List ℕ) (others : List Form) → LinesReadAs (lines_of rest) others
    → LinesReadAs (lines_of (text ++ rest)) (forms ++ others)

text-none : TextReadsAs [] []
text-none rest others reads = reads

text-both : (text more : List ℕ) (forms others : List Form) → TextReadsAs text forms → TextReadsAs more others
    → TextReadsAs (text ++ more) (forms ++ others)
text-both text more forms others first second rest behind reads =
    subst (λ (t : List ℕ). LinesReadAs (lines_of t) ((forms ++ others) ++ behind)) (sym (append_assoc text more rest))
    (subst (λ (fs : List Form). LinesReadAs (lines_of (text ++ (more ++ rest))) fs)
    (sym (append_assoc forms others behind))
    (first (more ++ rest) (others ++ behind) (second rest behind reads)))

text-line : (line : List ℕ) (form : Form) → ArePlain line → LineReadsAs line form
    → TextReadsAs (line ++ 10 ∷ []) (form ∷ [])
text-line line form plain is rest others reads =
    subst (λ (t : List ℕ). LinesReadAs (lines_of t) (form ∷ others)) (sym (append_assoc line (10 ∷ []) rest))
    (subst (λ (lines : List (List ℕ)). LinesReadAs lines (form ∷ others)) (sym (one-line line rest plain)) (is, reads))

-- ---- tokens

no_comment : (b : ℕ) (bytes : List ℕ) → (b == 47) ≡ false → begins_comment b bytes ≡ false
no_comment b [] slashless = refl
no_comment b (c ∷ bytes) slashless = rw slashless refl

-- as far as all bytes pass
passes-all : (p : ℕ → Bool) (bytes : List ℕ) (c : ℕ) (rest : List ℕ) → list_all p bytes ≡ true → p c ≡ false
    → prefix_len p (bytes ++ c ∷ rest) ≡ length bytes
passes-all p [] c rest all stops = rw stops refl
passes-all p (b ∷ bytes) c rest all stops =
    let both = and_parts (p b) (list_all p bytes) all in rw (both.0, passes-all p bytes c rest both.1 stops)
    (omega arith)

-- a word up to a byte of none
word-before : (b : ℕ) (bytes : List ℕ) (c : ℕ) (rest : List ℕ) → is_blank b ≡ false → (b == 47) ≡ false
    → is_letter b ≡ true → list_all is_word_byte bytes ≡ true → is_word_byte c ≡ false
    → tokens_of (b ∷ (bytes ++ c ∷ rest)) ≡ word (b ∷ bytes) ∷ tokens_of (c ∷ rest)
word-before b bytes c rest solid slashless letter all stops =
    let text : List ℕ = bytes ++ c ∷ rest in
    let count : prefix_len is_word_byte text ≡ length bytes = passes-all is_word_byte bytes c rest all stops in
    tokens_of-word b text solid (no_comment b text slashless) letter
    ∙ ap (λ (n : ℕ). word (b ∷ take n text) ∷ tokens_of (drop n text)) count
    ∙ ap (λ (t : List ℕ). word (b ∷ t) ∷ tokens_of (drop (length bytes) text)) (take-append_seam bytes (c ∷ rest))
    ∙ ap (λ (t : List ℕ). word (b ∷ bytes) ∷ tokens_of t) (drop-append_seam bytes (c ∷ rest))

-- a number up to a byte of none
number-before : (d : ℕ) (digits : List ℕ) (c : ℕ) (rest : List ℕ) → is_blank d ≡ false → (d == 47) ≡ false
    → is_letter d ≡ false → is_digit d ≡ true → list_all is_digit digits ≡ true → is_digit c ≡ false
    → tokens_of (d ∷ (digits ++ c ∷ rest)) ≡ number (d ∷ digits) ∷ tokens_of (c ∷ rest)
number-before d digits c rest solid slashless other digit all stops =
    let text : List ℕ = digits ++ c ∷ rest in
    let count : prefix_len is_digit text ≡ length digits = passes-all is_digit digits c rest all stops in
    tokens_of-number d text solid (no_comment d text slashless) other digit
    ∙ ap (λ (n : ℕ). number (d ∷ take n text) ∷ tokens_of (drop n text)) count
    ∙ ap (λ (t : List ℕ). number (d ∷ t) ∷ tokens_of (drop (length digits) text)) (take-append_seam digits (c ∷ rest))
    ∙ ap (λ (t : List ℕ). number (d ∷ digits) ∷ tokens_of t) (drop-append_seam digits (c ∷ rest))

-- ---- digits

-- what a byte is that is a digit
record IsDigitByte (b : ℕ) : Type 0 where
  digit : is_digit b ≡ true
  other : is_letter b ≡ false
  word_byte : is_word_byte b ≡ true
  plain : is_plain b ≡ true
  solid : is_blank b ≡ false
  slashless : (b == 47) ≡ false

digit-byte : (b : ℕ) → digit_value b < 10 → IsDigitByte b
digit-byte b small =
    let range = digit_from_value b small in
    let low : 48 ≤ b = range.0 in
    let high : b ≤ 57 = range.1 in
    let d1 : nat_le 48 b ≡ true = le-leb 48 b low in
    let d2 : nat_le b 57 ≡ true = le-leb b 57 high in
    let n10 : (b == 10) ≡ false = ne_eqb b 10 (λ is. absurd (omega (arith, low, is))) in
    let n13 : (b == 13) ≡ false = ne_eqb b 13 (λ is. absurd (omega (arith, low, is))) in
    let n32 : (b == 32) ≡ false = ne_eqb b 32 (λ is. absurd (omega (arith, low, is))) in
    let n9 : (b == 9) ≡ false = ne_eqb b 9 (λ is. absurd (omega (arith, low, is))) in
    let n47 : (b == 47) ≡ false = ne_eqb b 47 (λ is. absurd (omega (arith, low, is))) in
    let n95 : (b == 95) ≡ false = ne_eqb b 95 (λ is. absurd (omega (arith, high, is))) in
    let l97 : nat_le 97 b ≡ false = lt-leb 97 b (omega (arith, high)) in
    let l65 : nat_le 65 b ≡ false = lt-leb 65 b (omega (arith, high)) in
    let digit : is_digit b ≡ true = rw (d1, d2) refl in
    let other : is_letter b ≡ false = rw (l97, l65, n95) refl in
    record {
      digit = digit;
      other = other;
      word_byte = rw (other, digit) refl;
      plain = rw (n10, n13) refl;
      solid = rw (n32, n9) refl;
      slashless = n47;
    }

-- what digits are
record AreDigitBytes (bytes : List ℕ) : Type 0 where
  digits : list_all is_digit bytes ≡ true
  words : list_all is_word_byte bytes ≡ true
  plain : ArePlain bytes

digit-bytes : (bytes : List ℕ) → AllDigits 10 bytes → AreDigitBytes bytes
digit-bytes [] all = record { digits = refl; words = refl; plain = refl }
digit-bytes (b ∷ bytes) all =
    let own = digit-byte b all.0 in
    let others = digit-bytes bytes all.1 in
    record {
      digits = rw (own.digit, others.digits) refl;
      words = rw (own.word_byte, others.words) refl;
      plain = rw (own.plain, others.plain) refl;
    }

-- a number as it is written
record Decimal (n : ℕ) : Type 0 where
  first : ℕ
  others : List ℕ
  is : decimal n ≡ first ∷ others
  own : IsDigitByte first
  behind : list_all is_digit others ≡ true
  all : AreDigitBytes (decimal n)
  value : digits_value 10 (decimal n) ≡ n

decimal-of : (n : ℕ) → n < 2 ^ 64 → Decimal n
decimal-of n small = at (decimal n) refl
  where
    written : IsNumeral 10 (decimal n) × (digits_value 10 (decimal n) ≡ n)
    written = decimal_is_IsNumeral n small

    at : (bytes : List ℕ) → decimal n ≡ bytes → Decimal n
    at [] is = absurd (omega (arith, written.0.0, ap length is))
    at (b ∷ bytes) is =
        let digits : AllDigits 10 (b ∷ bytes) = subst (AllDigits 10) is written.0.1 in
        record {
          first = b;
          others = bytes;
          is = is;
          own = digit-byte b digits.0;
          behind = (digit-bytes bytes digits.1).digits;
          all = digit-bytes (decimal n) written.0.1;
          value = written.1;
        }

-- ---- names

-- bytes that all pass
all-pass : (p : ℕ → Bool) (bytes : List ℕ) → list_all p bytes ≡ true → All (λ b. IsTrue (p b)) bytes
all-pass p [] all = All-nil (λ b. IsTrue (p b))
all-pass p (b ∷ bytes) all =
    let both = and_parts (p b) (list_all p bytes) all in
    All-cons (λ c. IsTrue (p c)) b bytes both.0 (all-pass p bytes both.1)

-- a letter, and bytes of words behind it
script-name : (b : ℕ) (bytes : List ℕ) → is_letter b ≡ true → list_all is_word_byte bytes ≡ true → length bytes ≤ 63
    → IsScriptName (b ∷ bytes)
script-name b bytes letter words short = record {
  word = record {
    first = (omega arith, letter);
    each = all-pass is_word_byte (b ∷ bytes) (rw (letter, words) refl);
  };
  short = omega (arith, short);
}

-- a letter with a number
numbered-name : (b : ℕ) → is_letter b ≡ true → (k : ℕ) → k ≤ 10000 → Decimal k → IsScriptName (b ∷ decimal k)
numbered-name b letter k few d =
    let short = length-decimal-le 5 k (omega arith) (omega (arith, few)) (omega (arith, few)) in
    script-name b (decimal k) letter d.all.words (omega (arith, short))

-- ---- the lines of a bidder

abbrev user : ℕ → List ℕ
user k = codes "u" ++ decimal k

abbrev wallet : ℕ → List ℕ
wallet k = codes "w" ++ decimal k

abbrev one_value : List ℕ → ValueTrees
one_value digits = tree (written_number false digits) no_trees

abbrev gas_form : ℕ → Form
gas_form k = deposit (user k) (codes "3")

abbrev wallet_form : ℕ → Form
wallet_form k =
    create (wallet k)
    (record { sender = user k; proc = codes "keep"; values = one_value (codes "0"); names = [] })

abbrev bid_form : ℕ → ℕ → Form
bid_form k amount =
    exec
    (record {
      sender = user k;
      proc = codes "place";
      values = one_value (decimal amount);
      names = codes "auc" ∷ wallet k ∷ [];
    })

-- what stands before a line feed ends no line
plain-both : (xs ys : List ℕ) → ArePlain xs → ArePlain ys → ArePlain (xs ++ ys)
plain-both xs ys first second = list_all-append is_plain xs ys ∙ rw (first, second) refl

-- ---- deposits

gas-tokens : (k : ℕ) → Decimal k
    → tokens_of (codes "deposit u" ++ (decimal k ++ codes " 3"))
    ≡ word (codes "deposit") ∷ word (user k) ∷ number (codes "3") ∷ []
unfolding tokens_from piece_at
gas-tokens k d =
    ap (λ (ts : List Token). word (codes "deposit") ∷ ts)
    (word-before 117 (decimal k) 32 (codes "3") refl refl refl d.all.words refl)

gas-reads : (k : ℕ) → k ≤ 10000 → Decimal k → TextReadsAs (gas_line k) (gas_form k ∷ [])
gas-reads k few d =
    let line : List ℕ = codes "deposit u" ++ (decimal k ++ codes " 3") in
    let text : line ++ 10 ∷ [] ≡ gas_line k =
    ap (λ (t : List ℕ). codes "deposit u" ++ t) (append_assoc (decimal k) (codes " 3") (10 ∷ [])) in
    let plain : ArePlain line = plain-both (codes "deposit u") (decimal k ++ codes " 3") refl
    (plain-both (decimal k) (codes " 3") d.all.plain refl) in
    subst (λ (t : List ℕ). TextReadsAs t (gas_form k ∷ [])) text
    (text-line line (gas_form k) plain
    (record {
      printed = gas-tokens k d;
      valid = (numbered-name 117 refl k few d, omega arith);
    }))

-- ---- wallets

wallet-tokens : (k : ℕ) → Decimal k
    → tokens_of (codes "let w" ++ (decimal k ++ (codes " = new u" ++ (decimal k ++ codes " keep(0;)"))))
    ≡ word (codes "let") ∷ word (wallet k) ∷ mark (codes "=") ∷ word (codes "new") ∷ word (user k) ∷ word (codes "keep")
    ∷ mark (codes "(") ∷ number (codes "0") ∷ mark (codes ";") ∷ mark (codes ")") ∷ []
unfolding tokens_from piece_at
wallet-tokens k d =
    let rest : List ℕ = decimal k ++ codes " keep(0;)" in
    ap (λ (ts : List Token). word (codes "let") ∷ ts)
    (word-before 119 (decimal k) 32 (codes "= new u" ++ rest) refl refl refl d.all.words refl)
    ∙ ap (λ (ts : List Token). word (codes "let") ∷ word (wallet k) ∷ mark (codes "=") ∷ word (codes "new") ∷ ts)
    (word-before 117 (decimal k) 32 (codes "keep(0;)") refl refl refl d.all.words refl)

wallet-reads : (k : ℕ) → k ≤ 10000 → Decimal k → TextReadsAs (wallet_line k) (wallet_form k ∷ [])
wallet-reads k few d =
    let n : List ℕ = decimal k in
    let last : List ℕ = n ++ codes " keep(0;)" in
    let line : List ℕ = codes "let w" ++ (n ++ (codes " = new u" ++ last)) in
    let text : line ++ 10 ∷ [] ≡ wallet_line k =
    ap (λ (t : List ℕ). codes "let w" ++ t)
    (append_assoc n (codes " = new u" ++ last) (10 ∷ [])
    ∙ ap (λ (t : List ℕ). n ++ (codes " = new u" ++ t)) (append_assoc n (codes " keep(0;)") (10 ∷ []))
    ∙ sym (append_assoc n (codes " = new u") (n ++ codes " keep(0;)\n"))
    ∙ sym (append_assoc (n ++ codes " = new u") n (codes " keep(0;)\n"))) in
    let plain : ArePlain line = plain-both (codes "let w") (n ++ (codes " = new u" ++ last)) refl
    (plain-both n (codes " = new u" ++ last) d.all.plain
    (plain-both (codes " = new u") last refl (plain-both n (codes " keep(0;)") d.all.plain refl))) in
    let invocation : IsValidInvocation
    (record { sender = user k; proc = codes "keep"; values = one_value (codes "0"); names = [] }) =
    record {
      sender = numbered-name 117 refl k few d;
      proc = script-name 107 (codes "eep") refl refl (omega arith);
      values = (record { numbers = omega arith; nested = omega arith; light = omega arith }, tt);
      names = All-nil IsScriptName;
    } in
    subst (λ (t : List ℕ). TextReadsAs t (wallet_form k ∷ [])) text
    (text-line line (wallet_form k) plain
    (record { printed = wallet-tokens k d; valid = (numbered-name 119 refl k few d, invocation) }))

-- ---- bids

bid-tokens : (k amount : ℕ) → Decimal k → Decimal amount
    → tokens_of
    (codes "exec u" ++ (decimal k
    ++ (codes " place(" ++ (decimal amount ++ (codes "; auc, w" ++ (decimal k ++ codes ")"))))))
    ≡ word (codes "exec") ∷ word (user k) ∷ word (codes "place") ∷ mark (codes "(") ∷ number (decimal amount)
    ∷ mark (codes ";") ∷ word (codes "auc") ∷ mark (codes ",") ∷ word (wallet k) ∷ mark (codes ")") ∷ []
unfolding tokens_from piece_at
bid-tokens k amount d a =
    let n : List ℕ = decimal k in
    let last : List ℕ = codes "; auc, w" ++ (n ++ codes ")") in
    let front : List Token = word (codes "exec") ∷ word (user k) ∷ word (codes "place") ∷ mark (codes "(") ∷ [] in
    let written : decimal amount ++ last ≡ a.first ∷ (a.others ++ last) = ap (λ (t : List ℕ). t ++ last) a.is in
    ap (λ (ts : List Token). word (codes "exec") ∷ ts)
    (word-before 117 n 32 (codes "place(" ++ (decimal amount ++ last)) refl refl refl d.all.words refl)
    ∙ ap (λ (t : List ℕ). word (codes "exec") ∷ word (user k) ∷ tokens_of (codes " place(" ++ t)) written
    ∙ ap (λ (ts : List Token). front ++ ts)
    (number-before a.first a.others 59 (codes " auc, w" ++ (n ++ codes ")")) a.own.solid a.own.slashless a.own.other
    a.own.digit a.behind refl)
    ∙ ap (λ (digits : List ℕ). front ++ (number digits ∷ tokens_of last)) (sym a.is)
    ∙ ap (λ (ts : List Token). front
    ++ (number (decimal amount) ∷ mark (codes ";") ∷ word (codes "auc") ∷ mark (codes ",") ∷ ts))
    (word-before 119 n 41 [] refl refl refl d.all.words refl)

bid-reads : (k amount : ℕ) → k ≤ 10000 → amount ≤ 1000 → Decimal k → Decimal amount
    → TextReadsAs (bid_line k amount) (bid_form k amount ∷ [])
bid-reads k amount few small d a =
    let n : List ℕ = decimal k in
    let m : List ℕ = decimal amount in
    let place : List ℕ = codes " place(" in
    let auction : List ℕ = codes "; auc, w" in
    let line : List ℕ = codes "exec u" ++ (n ++ (place ++ (m ++ (auction ++ (n ++ codes ")"))))) in
    let text : line ++ 10 ∷ [] ≡ bid_line k amount =
    ap (λ (t : List ℕ). codes "exec u" ++ t)
    (append_assoc n (place ++ (m ++ (auction ++ (n ++ codes ")")))) (10 ∷ [])
    ∙ ap (λ (t : List ℕ). n ++ (place ++ t))
    (append_assoc m (auction ++ (n ++ codes ")")) (10 ∷ [])
    ∙ ap (λ (t : List ℕ). m ++ (auction ++ t)) (append_assoc n (codes ")") (10 ∷ [])))
    ∙ sym (append_assoc n place (m ++ (auction ++ (n ++ codes ")\n"))))
    ∙ sym (append_assoc (n ++ place) m (auction ++ (n ++ codes ")\n")))
    ∙ sym (append_assoc ((n ++ place) ++ m) auction (n ++ codes ")\n"))
    ∙ sym (append_assoc (((n ++ place) ++ m) ++ auction) n (codes ")\n"))) in
    let plain : ArePlain line = plain-both (codes "exec u") (n ++ (place ++ (m ++ (auction ++ (n ++ codes ")"))))) refl
    (plain-both n (place ++ (m ++ (auction ++ (n ++ codes ")")))) d.all.plain
    (plain-both place (m ++ (auction ++ (n ++ codes ")"))) refl
    (plain-both m (auction ++ (n ++ codes ")")) a.all.plain
    (plain-both auction (n ++ codes ")") refl (plain-both n (codes ")") d.all.plain refl))))) in
    let invocation : IsValidInvocation
    (record {
      sender = user k;
      proc = codes "place";
      values = one_value m;
      names = codes "auc" ∷ wallet k ∷ [];
    }) =
    record {
      sender = numbered-name 117 refl k few d;
      proc = script-name 112 (codes "lace") refl refl (omega arith);
      values = (record { numbers = omega (arith, a.value, small); nested = omega arith; light = omega arith }, tt);
      names =
          All-cons IsScriptName (codes "auc") (wallet k ∷ []) (script-name 97 (codes "uc") refl refl (omega arith))
          (All-cons IsScriptName (wallet k) [] (numbered-name 119 refl k few d) (All-nil IsScriptName));
    } in
    subst (λ (t : List ℕ). TextReadsAs t (bid_form k amount ∷ [])) text
    (text-line line (bid_form k amount) plain (record { printed = bid-tokens k amount d a; valid = invocation }))

-- ---- the script

abbrev bidder_forms : ℕ → ℕ → List Form
bidder_forms k amount = gas_form k ∷ wallet_form k ∷ bid_form k amount ∷ []

abbrev bidders_forms : ℕ → ℕ → List Form
bidders_forms seed zero = []
bidders_forms seed (suc k) = bidders_forms seed k ++ bidder_forms (suc k) (bid seed (suc k))

abbrev seller : List ℕ
seller = codes "seller"

abbrev keep_call : Invocation
keep_call = record { sender = seller; proc = codes "keep"; values = one_value (codes "0"); names = [] }

abbrev start_call : Invocation
start_call =
    record { sender = seller; proc = codes "start"; values = one_value (codes "0"); names = codes "ws" ∷ [] }

-- the seller makes a wallet and an auction
abbrev front_forms : List Form
front_forms =
    deposit seller (codes "2") ∷ create (codes "ws") keep_call ∷ create (codes "auc") start_call ∷ []

abbrev ask_call : Invocation
ask_call = record { sender = seller; proc = codes "ask"; values = no_trees; names = codes "auc" ∷ [] }

-- and asks for the best
abbrev last_forms : List Form
last_forms = exec ask_call ∷ []

-- the forms of all lines
abbrev pub load_forms : ℕ → ℕ → List Form
load_forms seed bidders = front_forms ++ (bidders_forms seed bidders ++ last_forms)

bidders-read : (seed k : ℕ) → k ≤ 10000 → TextReadsAs (bidders_lines seed k) (bidders_forms seed k)
bidders-read seed zero few = text-none
bidders-read seed (suc k) few =
    let n : ℕ = suc k in
    let amount : ℕ = bid seed n in
    let d : Decimal n = decimal-of n (omega (arith, few)) in
    let small = (bid_within seed n).1 in
    let a : Decimal amount = decimal-of amount (omega (arith, small)) in
    let own : TextReadsAs (bidder_lines n amount) (bidder_forms n amount) =
    text-both (gas_line n ++ wallet_line n) (bid_line n amount) (gas_form n ∷ wallet_form n ∷ [])
    (bid_form n amount ∷ [])
    (text-both (gas_line n) (wallet_line n) (gas_form n ∷ []) (wallet_form n ∷ []) (gas-reads n few d)
    (wallet-reads n few d))
    (bid-reads n amount few small d a) in
    text-both (bidders_lines seed k) (bidder_lines n amount) (bidders_forms seed k) (bidder_forms n amount)
    (bidders-read seed k (omega (arith, few))) own

name-seller : IsScriptName seller
name-seller = script-name 115 (codes "eller") refl refl (omega arith)

name-ws : IsScriptName (codes "ws")
name-ws = script-name 119 (codes "s") refl refl (omega arith)

name-auc : IsScriptName (codes "auc")
name-auc = script-name 97 (codes "uc") refl refl (omega arith)

nought : AreValidValues (one_value (codes "0"))
nought = (record { numbers = omega arith; nested = omega arith; light = omega arith }, tt)

keep-valid : IsValidInvocation keep_call
keep-valid = record {
  sender = name-seller;
  proc = script-name 107 (codes "eep") refl refl (omega arith);
  values = nought;
  names = All-nil IsScriptName;
}

start-valid : IsValidInvocation start_call
start-valid = record {
  sender = name-seller;
  proc = script-name 115 (codes "tart") refl refl (omega arith);
  values = nought;
  names = All-cons IsScriptName (codes "ws") [] name-ws (All-nil IsScriptName);
}

gas-line : LineReadsAs (codes "deposit seller 2") (deposit seller (codes "2"))
unfolding tokens_from piece_at
gas-line = record { printed = refl; valid = (name-seller, omega arith) }

keep-line : LineReadsAs (codes "let ws = new seller keep(0;)") (create (codes "ws") keep_call)
unfolding tokens_from piece_at
keep-line = record { printed = refl; valid = (name-ws, keep-valid) }

start-line : LineReadsAs (codes "let auc = new seller start(0; ws)") (create (codes "auc") start_call)
unfolding tokens_from piece_at
start-line = record { printed = refl; valid = (name-auc, start-valid) }

front-reads : TextReadsAs
    (codes "deposit seller 2\nlet ws = new seller keep(0;)\nlet auc = new seller start(0; ws)\n") front_forms
front-reads =
    text-both (codes "deposit seller 2\nlet ws = new seller keep(0;)\n") (codes "let auc = new seller start(0; ws)\n")
    (deposit seller (codes "2") ∷ create (codes "ws") keep_call ∷ []) (create (codes "auc") start_call ∷ [])
    (text-both (codes "deposit seller 2\n") (codes "let ws = new seller keep(0;)\n") (deposit seller (codes "2") ∷ [])
    (create (codes "ws") keep_call ∷ [])
    (text-line (codes "deposit seller 2") (deposit seller (codes "2")) refl gas-line)
    (text-line (codes "let ws = new seller keep(0;)") (create (codes "ws") keep_call) refl keep-line))
    (text-line (codes "let auc = new seller start(0; ws)") (create (codes "auc") start_call) refl start-line)

last-line : LineReadsAs (codes "exec seller ask(; auc)") (exec ask_call)
unfolding tokens_from piece_at
last-line = record {
  printed = refl;
  valid = record {
    sender = name-seller;
    proc = script-name 97 (codes "sk") refl refl (omega arith);
    values = tt;
    names = All-cons IsScriptName (codes "auc") [] name-auc (All-nil IsScriptName);
  };
}

last-reads : TextReadsAs (codes "exec seller ask(; auc)\n") last_forms
last-reads = text-line (codes "exec seller ask(; auc)") (exec ask_call) refl last-line

-- ---- single lines

forms-of : (forms : List Form) → forms_of (map single forms) ≡ forms
forms-of [] = refl
forms-of (form ∷ forms) = ap (λ (fs : List Form). form ∷ fs) (forms-of forms)

-- each may stand alone
alone-both : (forms others : List Form) → All IsParagraph (map single forms) → All IsParagraph (map single others)
    → All IsParagraph (map single (forms ++ others))
alone-both [] others none rest = rest
alone-both (form ∷ forms) others all rest =
    All-cons IsParagraph (single form) (map single (forms ++ others))
    (All-head IsParagraph (single form) (map single forms) all)
    (alone-both forms others (All-tail IsParagraph (single form) (map single forms) all) rest)

alone-one : (form : Form) (forms : List Form) → StandsAlone form → All IsParagraph (map single forms)
    → All IsParagraph (map single (form ∷ forms))
alone-one form forms alone rest = All-cons IsParagraph (single form) (map single forms) alone rest

none-alone : All IsParagraph []
none-alone = All-nil IsParagraph

bidders-alone : (seed k : ℕ) → All IsParagraph (map single (bidders_forms seed k))
bidders-alone seed zero = none-alone
bidders-alone seed (suc k) =
    let n : ℕ = suc k in
    let last : List Form = bid_form n (bid seed n) ∷ [] in
    alone-both (bidders_forms seed k) (bidder_forms n (bid seed n)) (bidders-alone seed k)
    (alone-one (gas_form n) (wallet_form n ∷ last) tt
    (alone-one (wallet_form n) last tt (alone-one (bid_form n (bid seed n)) [] tt none-alone)))

load-alone : (seed bidders : ℕ) → All IsParagraph (map single (load_forms seed bidders))
load-alone seed bidders =
    let auction : List Form = create (codes "auc") start_call ∷ [] in
    alone-both front_forms (bidders_forms seed bidders ++ last_forms)
    (alone-one (deposit seller (codes "2")) (create (codes "ws") keep_call ∷ auction) tt
    (alone-one (create (codes "ws") keep_call) auction tt
    (alone-one (create (codes "auc") start_call) [] tt none-alone)))
    (alone-both (bidders_forms seed bidders) last_forms (bidders-alone seed bidders)
    (alone-one (exec ask_call) [] tt none-alone))

-- ---- the law

close : (text : List ℕ) (forms : List Form) → TextReadsAs text forms → LinesReadAs (lines_of text) forms
unfolding lines_of
close text forms reads =
    subst (λ (t : List ℕ). LinesReadAs (lines_of t) forms) (append-nil text)
    (subst (λ (fs : List Form). LinesReadAs (lines_of (text ++ [])) fs) (append-nil forms) (reads [] [] tt))

-- the items of a load
abbrev pub load_items : ℕ → ℕ → List ScriptItem
load_items seed bidders = items_of 1 (map single (load_forms seed bidders))

-- The script of a load of up to 10,000 bidders reads as these items.
pub load-reads : (seed bidders : ℕ) → bidders ≤ 10000 → ReadsAs (load_script seed bidders) (load_items seed bidders)
unfolding load_script
load-reads seed bidders few =
    let forms : List Form = load_forms seed bidders in
    let bidding : List ℕ = bidders_lines seed bidders in
    let last : List ℕ = codes "exec seller ask(; auc)\n" in
    let front : List ℕ =
    codes "deposit seller 2\nlet ws = new seller keep(0;)\nlet auc = new seller start(0; ws)\n" in
    let whole : TextReadsAs (front ++ (bidding ++ last)) forms =
    text-both front (bidding ++ last) front_forms (bidders_forms seed bidders ++ last_forms) front-reads
    (text-both bidding last (bidders_forms seed bidders) last_forms (bidders-read seed bidders few) last-reads) in
    let lines : LinesReadAs (lines_of (load_script seed bidders)) forms = close (load_script seed bidders) forms
    whole in
    record {
      limit = load_script-short seed bidders few;
      paragraphs = map single forms;
      lines = record {
        forms = subst (LinesReadAs (lines_of (load_script seed bidders))) (sym (forms-of forms)) lines;
        each = load-alone seed bidders;
      };
      stand_for = refl;
    }

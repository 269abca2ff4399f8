-- A text within the limit holds no more than a script may: an item has nine bytes at least.
use Rattle.std.proofs.Common.{◌≡◌, ℕ, zero, suc, ◌+◌, ◌*◌, ◌≤◌, ◌==◌, ◌&&◌, true, false, List, [], ◌∷◌, ◌++◌, length, Option, Some, None, codes, inl, inr, arith}
use Rattle.std.specs.Option.{option_to_list}
use Rattle.std.proofs.lemmas.Bool.{cases_Bool}
use Rattle.std.proofs.lemmas.List.Sums.{prefix_len-le-length}
use Rattle.std.proofs.lemmas.List.Folds.{length-prefix_len}
use Rattle.nomos_ir.specs.Name.{is_letter, is_digit, is_word_byte}
use Rattle.nomos_script.specs.declared.item.ScriptItem.{ScriptItem}
use Rattle.nomos_script.specs.Form.{Form, Invocation, blank, deposit, create, exec, begin, end, show, LineReadsAs, IsValidInvocation, print_invocation, print_names, print_more_names}
use Rattle.nomos_script.specs.Item.{items_of, starts_of}
use Rattle.nomos_script.specs.Lines.{begins_with_feed, put_byte, lines_of}
use Rattle.nomos_script.specs.Paragraph.{Paragraph, single, several, forms_of}
use Rattle.nomos_script.specs.ScriptReading.{LinesReadAs, ReadsAs}
use Rattle.nomos_script.specs.ScriptScan.{Token, word, number, mark, Piece, is_blank, begins_comment, piece_at, tokens_from}
use Rattle.nomos_script.specs.Size.{entry_count, start_count, IsScriptSize}
use Rattle.nomos_script.specs.ValueTree.{ValueTree, written_number, written_truth, written_list, ValueTrees, no_trees, tree, print_value, print_values, print_more_values}
use Rattle.nomos_script.proofs.ScanLemmas.{piece_at-blank, piece_at-comment, piece_at-word, piece_at-number, piece_at-mark}

-- how many bytes lines take, a line feed for each one
total : List (List ℕ) → ℕ
total [] = 0
total (line ∷ lines) = length line + 1 + total lines

-- one more byte
put_byte-total : (b n : ℕ) (lines : List (List ℕ)) → 1 ≤ n → total lines ≤ n → total (put_byte b lines) ≤ n + 1
unfolding total
put_byte-total b n [] some h = omega (arith, some)
put_byte-total b n (line ∷ lines) some h = omega (arith, h)

-- the lines take no more than the text, but for one line feed
lines_total : (text : List ℕ) → total (lines_of text) ≤ length text + 1
unfolding total lines_of
lines_total [] = omega arith
lines_total (b ∷ bytes) = let rest = lines_total bytes in elim (cases_Bool (b == 10)) [
  | inl feed ↦ rw feed (omega (arith, rest))
  | inr other ↦ elim (cases_Bool (b == 13 && begins_with_feed bytes)) [
    | inl return ↦ rw (other, return) (omega (arith, rest))
    | inr byte ↦ rw (other, byte) (omega
        (arith, put_byte-total b (length bytes + 1) (lines_of bytes) (omega arith) rest))
  ]
]

-- how many bytes tokens take at least
width : List Token → ℕ
width [] = 0
width (word text ∷ tokens) = length text + width tokens
width (number digits ∷ tokens) = 1 + width tokens
width (mark text ∷ tokens) = 1 + width tokens

-- a piece lies in its line, and its token in the piece
record Fits (bytes : List ℕ) (piece : Piece) : Type 0 where
  within : piece.more ≤ length bytes
  token : width (option_to_list piece.token) ≤ 1 + piece.more

piece_fits : (b : ℕ) (bytes : List ℕ) → Fits bytes (piece_at b bytes)
unfolding width
piece_fits b bytes = elim (cases_Bool (is_blank b)) [
  | inl between ↦ rw (piece_at-blank b bytes between) (record { within = omega arith; token = omega arith })
  | inr solid ↦ elim (cases_Bool (begins_comment b bytes)) [
    | inl comment ↦ rw (piece_at-comment b bytes solid comment) (record { within = omega arith; token = omega arith })
    | inr code ↦ elim (cases_Bool (is_letter b)) [
      | inl letter ↦
          rw (piece_at-word b bytes solid code letter)
          (record {
            within = prefix_len-le-length is_word_byte bytes;
            token = omega (arith, length-prefix_len is_word_byte bytes);
          })
      | inr other ↦ elim (cases_Bool (is_digit b)) [
        | inl digit ↦
            rw (piece_at-number b bytes solid code other digit)
            (record { within = prefix_len-le-length is_digit bytes; token = omega arith })
        | inr rest ↦ rw (piece_at-mark b bytes solid code other rest)
            (record { within = omega arith; token = omega arith })
      ]
    ]
  ]
]

width-token : (token : Option Token) (tokens : List Token)
    → width (option_to_list token ++ tokens) ≡ width (option_to_list token) + width tokens
unfolding width
width-token None tokens = omega arith
width-token (Some (word text)) tokens = omega arith
width-token (Some (number digits)) tokens = omega arith
width-token (Some (mark text)) tokens = omega arith

-- the tokens take no more than their line
tokens_width : (inside : ℕ) (bytes : List ℕ) → inside ≤ length bytes
    → width (tokens_from inside bytes) + inside ≤ length bytes
unfolding width tokens_from
tokens_width inside [] within = omega (arith, within)
tokens_width (suc inside) (b ∷ bytes) within =
    let rest = tokens_width inside bytes (omega (arith, within)) in omega (arith, rest)
tokens_width zero (b ∷ bytes) within =
    let piece = piece_at b bytes in
    let fits = piece_fits b bytes in
    let rest = tokens_width piece.more bytes fits.within in
    omega (arith, width-token piece.token (tokens_from piece.more bytes), rest, fits.token)

-- values and names take no bytes away
mutual
  unfolding width

  value_width : (v : ValueTree) (after : List Token) → width after ≤ width (print_value v after)
  value_width (written_number true digits) after = omega arith
  value_width (written_number false digits) after = omega arith
  value_width (written_truth true) after = omega arith
  value_width (written_truth false) after = omega arith
  value_width (written_list vs) after =
      let rest = values_width vs (mark (codes "]") ∷ after) in omega (arith, rest)

  values_width : (vs : ValueTrees) (after : List Token) → width after ≤ width (print_values vs after)
  values_width no_trees after = omega arith
  values_width (tree v vs) after =
      let here = value_width v (print_more_values vs after) in
      let rest = more_width vs after in
      omega (arith, here, rest)

  more_width : (vs : ValueTrees) (after : List Token) → width after ≤ width (print_more_values vs after)
  more_width no_trees after = omega arith
  more_width (tree v vs) after =
      let here = value_width v (print_more_values vs after) in
      let rest = more_width vs after in
      omega (arith, here, rest)

more_names_width : (names : List (List ℕ)) (after : List Token) → width after ≤ width (print_more_names names after)
unfolding width
more_names_width [] after = omega arith
more_names_width (n ∷ names) after = let rest = more_names_width names after in omega (arith, rest)

names_width : (names : List (List ℕ)) (after : List Token) → width after ≤ width (print_names names after)
unfolding width
names_width [] after = omega arith
names_width (n ∷ names) after = let rest = more_names_width names after in omega (arith, rest)

-- how many bytes lines of a form take at least, with their line feeds
abbrev form_width : Form → ℕ
form_width blank = 0
form_width (deposit name digits) = 10
form_width (create contract i) = 10
form_width (exec i) = 10
form_width begin = 6
form_width end = 4
form_width show = 0

-- two names and three marks
invocation_width : (i : Invocation) → IsValidInvocation i → 5 ≤ width (print_invocation i)
unfolding width
invocation_width i valid =
    let values = values_width i.values (mark (codes ";") ∷ print_names i.names (mark (codes ")") ∷ [])) in
    let names = names_width i.names (mark (codes ")") ∷ []) in
    omega (arith, valid.sender.word.first.0, valid.proc.word.first.0, values, names)

line_width : (line : List ℕ) (f : Form) → LineReadsAs line f → form_width f ≤ length line + 1
unfolding width
line_width line blank h = omega arith
line_width line (deposit name digits) h =
    let room = rw h.printed at (tokens_width 0 line (omega arith)) in
    omega (arith, room, h.valid.0.word.first.0)
line_width line (create contract i) h =
    let room = rw h.printed at (tokens_width 0 line (omega arith)) in
    omega (arith, room, invocation_width i h.valid.1, h.valid.0.word.first.0)
line_width line (exec i) h =
    let room = rw h.printed at (tokens_width 0 line (omega arith)) in
    omega (arith, room, invocation_width i h.valid)
line_width line begin h = let room = rw h.printed at (tokens_width 0 line (omega arith)) in omega (arith, room)
line_width line end h = let room = rw h.printed at (tokens_width 0 line (omega arith)) in omega (arith, room)
line_width line show h = omega arith

forms_width : List Form → ℕ
forms_width [] = 0
forms_width (f ∷ forms) = form_width f + forms_width forms

lines_width : (lines : List (List ℕ)) (forms : List Form) → LinesReadAs lines forms → forms_width forms ≤ total lines
unfolding forms_width total
lines_width [] [] h = omega arith
lines_width [] (f ∷ forms) h = absurd h
lines_width (l ∷ lines) [] h = absurd h
lines_width (l ∷ lines) (f ∷ forms) h =
    let rest = lines_width lines forms h.1 in
    let here = line_width l f h.0 in
    omega (arith, rest, here)

forms_width-append : (fs gs : List Form) → forms_width (fs ++ gs) ≡ forms_width fs + forms_width gs
unfolding forms_width
forms_width-append [] gs = omega arith
forms_width-append (f ∷ fs) gs = let rest = forms_width-append fs gs in omega (arith, rest)

-- each start has a line of its own
inside_width : (n : ℕ) (forms : List Form) → 10 * length (starts_of n forms) ≤ forms_width forms
unfolding forms_width
inside_width n [] = omega arith
inside_width n (blank ∷ forms) = let rest = inside_width (n + 1) forms in omega (arith, rest)
inside_width n (create contract i ∷ forms) = let rest = inside_width (n + 1) forms in omega (arith, rest)
inside_width n (exec i ∷ forms) = let rest = inside_width (n + 1) forms in omega (arith, rest)
inside_width n (deposit name digits ∷ forms) = let rest = inside_width (n + 1) forms in omega (arith, rest)
inside_width n (begin ∷ forms) = let rest = inside_width (n + 1) forms in omega (arith, rest)
inside_width n (end ∷ forms) = let rest = inside_width (n + 1) forms in omega (arith, rest)
inside_width n (show ∷ forms) = let rest = inside_width (n + 1) forms in omega (arith, rest)

-- paragraphs have ten bytes for each entry, and for each start
record Small (n : ℕ) (paragraphs : List Paragraph) : Type 0 where
  entries : 10 * entry_count (items_of n paragraphs) ≤ forms_width (forms_of paragraphs)
  starts : 10 * start_count (items_of n paragraphs) ≤ forms_width (forms_of paragraphs)

paragraphs_small : (n : ℕ) (paragraphs : List Paragraph) → Small n paragraphs
unfolding forms_width
paragraphs_small n [] = record { entries = omega arith; starts = omega arith }
paragraphs_small n (single blank ∷ paragraphs) =
    let rest = paragraphs_small (n + 1) paragraphs in
    record { entries = omega (arith, rest.entries); starts = omega (arith, rest.starts) }
paragraphs_small n (single (deposit name digits) ∷ paragraphs) =
    let rest = paragraphs_small (n + 1) paragraphs in
    record { entries = omega (arith, rest.entries); starts = omega (arith, rest.starts) }
paragraphs_small n (single (create contract i) ∷ paragraphs) =
    let rest = paragraphs_small (n + 1) paragraphs in
    record { entries = omega (arith, rest.entries); starts = omega (arith, rest.starts) }
paragraphs_small n (single (exec i) ∷ paragraphs) =
    let rest = paragraphs_small (n + 1) paragraphs in
    record { entries = omega (arith, rest.entries); starts = omega (arith, rest.starts) }
paragraphs_small n (single begin ∷ paragraphs) =
    let rest = paragraphs_small (n + 1) paragraphs in
    record { entries = omega (arith, rest.entries); starts = omega (arith, rest.starts) }
paragraphs_small n (single end ∷ paragraphs) =
    let rest = paragraphs_small (n + 1) paragraphs in
    record { entries = omega (arith, rest.entries); starts = omega (arith, rest.starts) }
paragraphs_small n (single show ∷ paragraphs) =
    let rest = paragraphs_small (n + 1) paragraphs in
    record { entries = omega (arith, rest.entries); starts = omega (arith, rest.starts) }
paragraphs_small n (several forms ∷ paragraphs) =
    let rest = paragraphs_small (n + length forms + 2) paragraphs in
    let together = forms_width-append forms (end ∷ forms_of paragraphs) in
    let inside = inside_width (n + 1) forms in
    record {
      entries = omega (arith, rest.entries, together);
      starts = omega (arith, rest.starts, together, inside);
    }

-- a text that reads holds no more than a script may
pub reads_within_size : (text : List ℕ) (items : List ScriptItem) → ReadsAs text items → IsScriptSize items
reads_within_size text items h =
    let small = paragraphs_small 1 h.paragraphs in
    let lines = lines_width (lines_of text) (forms_of h.paragraphs) h.lines.forms in
    let bytes = lines_total text in
    rw (← h.stand_for) (record {
      entries = omega (arith, small.entries, lines, bytes, h.limit);
      starts = omega (arith, small.starts, lines, bytes, h.limit);
    })

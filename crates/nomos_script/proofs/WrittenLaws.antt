-- The items that a text reads as are as scripts write them: their lines are below ten million, and their names are
-- names.
use Rattle.std.proofs.Common.{ℕ, ◌+◌, ◌<◌, ◌≤◌, ◌==◌, ◌&&◌, List, [], ◌∷◌, ◌++◌, length, length-append, All, Some, None, inl, inr, subst, arith}
use Rattle.std.proofs.lemmas.Bool.{cases_Bool}
use Rattle.std.proofs.lemmas.List.Elements.{All-nil, All-cons, All-head, All-tail}
use Rattle.nomos_script.specs.Form.{Form, blank, deposit, create, exec, begin, end, show, IsValid, units_of}
use Rattle.nomos_script.specs.Item.{items_of, starts_of, start_at}
use Rattle.nomos_script.specs.Lines.{begins_with_feed, put_byte, lines_of}
use Rattle.nomos_script.specs.Paragraph.{Paragraph, single, several, forms_of}
use Rattle.nomos_script.specs.ScriptReading.{LinesReadAs, ReadsAs}
use Rattle.nomos_script.specs.WrittenItems.{AreWritten, IsWrittenItem, IsWrittenStart, line_bound}
use Rattle.nomos_script.specs.declared.item.ScriptItem.{ScriptItem}
use Rattle.nomos_script.specs.declared.item.ScriptItem.TheVariants as item
use Rattle.nomos_script.specs.declared.item.Start.{Start}
use Rattle.nomos_script.proofs.PartLaws.{all-first, all-last}
use Rattle.nomos_script.proofs.ReadingLaws.{LinesReadAs-length}

-- one more byte, at the front of a line
put_byte-lines : (b n : ℕ) (lines : List (List ℕ)) → length lines ≤ n → length (put_byte b lines) ≤ n + 1
put_byte-lines b n [] h = omega arith
put_byte-lines b n (line ∷ lines) h = omega (arith, h)

-- a text has no more lines than bytes
lines_few : (text : List ℕ) → length (lines_of text) ≤ length text
unfolding lines_of
lines_few [] = omega arith
lines_few (b ∷ bytes) = let rest = lines_few bytes in elim (cases_Bool (b == 10)) [
  | inl feed ↦ rw feed (omega (arith, rest))
  | inr other ↦ elim (cases_Bool (b == 13 && begins_with_feed bytes)) [
    | inl return ↦ rw (other, return) (omega (arith, rest))
    | inr byte ↦ rw (other, byte) (omega (arith, put_byte-lines b (length bytes) (lines_of bytes) rest))
  ]
]

-- each form of lines is valid
AreValid : List Form → Type 0
AreValid forms = All IsValid forms

lines_valid : (lines : List (List ℕ)) (forms : List Form) → LinesReadAs lines forms → AreValid forms
unfolding AreValid
lines_valid [] [] h = All-nil IsValid
lines_valid [] (f ∷ forms) h = absurd h
lines_valid (l ∷ lines) [] h = absurd h
lines_valid (l ∷ lines) (f ∷ forms) h = All-cons IsValid f forms h.0.valid (lines_valid lines forms h.1)

-- what lines start is as scripts write it
starts_written : (n : ℕ) (forms : List Form) → AreValid forms → n + length forms ≤ line_bound
    → All IsWrittenStart (starts_of n forms)
unfolding AreValid
starts_written n [] h few = All-nil IsWrittenStart
starts_written n (create contract i ∷ forms) h few =
    let here = All-head IsValid (create contract i) forms h in
    let start : IsWrittenStart (start_at n (Some contract) i) = record {
      line = omega (arith, few);
      sender = here.1.sender;
      proc = here.1.proc;
      names = here.1.names;
      contract = here.0;
    } in
    All-cons IsWrittenStart (start_at n (Some contract) i) (starts_of (n + 1) forms) start
    (starts_written (n + 1) forms (All-tail IsValid (create contract i) forms h) (omega (arith, few)))
starts_written n (exec i ∷ forms) h few =
    let here = All-head IsValid (exec i) forms h in
    let start : IsWrittenStart (start_at n None i) =
    record { line = omega (arith, few); sender = here.sender; proc = here.proc; names = here.names; contract = tt } in
    All-cons IsWrittenStart (start_at n None i) (starts_of (n + 1) forms) start
    (starts_written (n + 1) forms (All-tail IsValid (exec i) forms h) (omega (arith, few)))
starts_written n (blank ∷ forms) h few =
    starts_written (n + 1) forms (All-tail IsValid blank forms h) (omega (arith, few))
starts_written n (deposit name digits ∷ forms) h few =
    starts_written (n + 1) forms (All-tail IsValid (deposit name digits) forms h) (omega (arith, few))
starts_written n (begin ∷ forms) h few =
    starts_written (n + 1) forms (All-tail IsValid begin forms h) (omega (arith, few))
starts_written n (end ∷ forms) h few =
    starts_written (n + 1) forms (All-tail IsValid end forms h) (omega (arith, few))
starts_written n (show ∷ forms) h few =
    starts_written (n + 1) forms (All-tail IsValid show forms h) (omega (arith, few))

-- one line is a batch
batch-written : (n : ℕ) (start : Start) (items : List ScriptItem) → start.line < line_bound → IsWrittenStart start
    → AreWritten items
    → AreWritten (item.Batch (record { line = start.line; starts = start ∷ [] }) ∷ items)
batch-written n start items less is rest =
    All-cons IsWrittenItem (item.Batch (record { line = start.line; starts = start ∷ [] })) items
    (less, All-cons IsWrittenStart start [] is (All-nil IsWrittenStart)) rest

items_written : (n : ℕ) (paragraphs : List Paragraph) → AreValid (forms_of paragraphs)
    → n + length (forms_of paragraphs) ≤ line_bound → AreWritten (items_of n paragraphs)
unfolding AreValid
items_written n [] h few = All-nil IsWrittenItem
items_written n (single blank ∷ paragraphs) h few =
    items_written (n + 1) paragraphs (All-tail IsValid blank (forms_of paragraphs) h) (omega (arith, few))
items_written n (single (deposit name digits) ∷ paragraphs) h few =
    let here = All-head IsValid (deposit name digits) (forms_of paragraphs) h in
    All-cons IsWrittenItem (item.Deposit n name (units_of digits)) (items_of (n + 1) paragraphs)
    (omega (arith, few), here.0)
    (items_written (n + 1) paragraphs (All-tail IsValid (deposit name digits) (forms_of paragraphs) h)
    (omega (arith, few)))
items_written n (single (create contract i) ∷ paragraphs) h few =
    let here = All-head IsValid (create contract i) (forms_of paragraphs) h in
    let less : n < line_bound = omega (arith, few) in
    batch-written n (start_at n (Some contract) i) (items_of (n + 1) paragraphs) less
    (record {
      line = less;
      sender = here.1.sender;
      proc = here.1.proc;
      names = here.1.names;
      contract = here.0;
    })
    (items_written (n + 1) paragraphs (All-tail IsValid (create contract i) (forms_of paragraphs) h)
    (omega (arith, few)))
items_written n (single (exec i) ∷ paragraphs) h few =
    let here = All-head IsValid (exec i) (forms_of paragraphs) h in
    let less : n < line_bound = omega (arith, few) in
    batch-written n (start_at n None i) (items_of (n + 1) paragraphs) less
    (record { line = less; sender = here.sender; proc = here.proc; names = here.names; contract = tt })
    (items_written (n + 1) paragraphs (All-tail IsValid (exec i) (forms_of paragraphs) h) (omega (arith, few)))
items_written n (single begin ∷ paragraphs) h few =
    items_written (n + 1) paragraphs (All-tail IsValid begin (forms_of paragraphs) h) (omega (arith, few))
items_written n (single end ∷ paragraphs) h few =
    items_written (n + 1) paragraphs (All-tail IsValid end (forms_of paragraphs) h) (omega (arith, few))
items_written n (single show ∷ paragraphs) h few =
    All-cons IsWrittenItem (item.Show n) (items_of (n + 1) paragraphs) (omega (arith, few))
    (items_written (n + 1) paragraphs (All-tail IsValid show (forms_of paragraphs) h) (omega (arith, few)))
items_written n (several forms ∷ paragraphs) h few =
    let inside = All-tail IsValid begin (forms ++ end ∷ forms_of paragraphs) h in
    let behind = all-last IsValid forms (end ∷ forms_of paragraphs) inside in
    let long = length-append forms (end ∷ forms_of paragraphs) in
    let starts = starts_written (n + 1) forms (all-first IsValid forms (end ∷ forms_of paragraphs) inside)
    (omega (arith, few, long)) in
    All-cons IsWrittenItem (item.Batch (record { line = n; starts = starts_of (n + 1) forms }))
    (items_of (n + length forms + 2) paragraphs) (omega (arith, few, long), starts)
    (items_written (n + length forms + 2) paragraphs (All-tail IsValid end (forms_of paragraphs) behind)
    (omega (arith, few, long)))

-- the items of a text that reads are as scripts write them
pub reads-written : (text : List ℕ) (items : List ScriptItem) → ReadsAs text items → AreWritten items
reads-written text items h =
    let many = LinesReadAs-length (lines_of text) (forms_of h.paragraphs) h.lines.forms in
    subst AreWritten h.stand_for
    (items_written 1 h.paragraphs (lines_valid (lines_of text) (forms_of h.paragraphs) h.lines.forms)
    (omega (arith, many, lines_few text, h.limit)))

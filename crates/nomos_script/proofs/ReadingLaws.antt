-- A text reads as one list of items at most; it reads, or is refused at one line.
use Rattle.std.proofs.Common.{◌≡◌, ℕ, ◌+◌, ◌<◌, ◌⊎◌, inl, inr, List, [], ◌∷◌, ◌++◌, length, Option, Some, None, All, codes, refl, sym, ◌∙◌, ap, append_assoc, arith}
use Rattle.std.proofs.lemmas.List.{append-nil}
use Rattle.std.proofs.lemmas.List.Elements.{All-nil, All-cons, All-append}
use Rattle.nomos_script.specs.declared.item.ScriptItem.{ScriptItem}
use Rattle.nomos_script.specs.declared.parsing.ScriptError.{ScriptError}
use Rattle.nomos_script.specs.declared.parsing.ScriptError.TheVariants as error
use Rattle.nomos_script.specs.Form.{Form, begin, end, LineReadsAs}
use Rattle.nomos_script.specs.Item.{items_of}
use Rattle.nomos_script.specs.Lines.{lines_of}
use Rattle.nomos_script.specs.Paragraph.{Paragraph, several, forms_of, StandsInside, IsParagraph}
use Rattle.nomos_script.specs.ScriptReading.{LinesReadAs, AreLinesOf, ReadsAs, BeginScript, IsBadAt, IsOpenAt, IsSyntaxAt}
use Rattle.nomos_script.specs.ScriptScan.{piece_at, tokens_from, tokens_of}
use Rattle.nomos_script.specs.mirror.Assembling.{Assembled, nothing_assembled, line_said, add_line}
use Rattle.nomos_script.specs.mirror.ValueReading.{and_then}
use Rattle.nomos_script.proofs.AssemblyLemmas.{assemble, assembled, and_then-same, assemble-append, assemble-inside, assemble-paragraphs, forms_of-push}
use Rattle.nomos_script.proofs.FormLemmas.{said_once}

-- lines that are read in two ways come to the same
pub assemble-once : (n : ℕ) (lines : List (List ℕ)) (fs gs : List Form) (a : Assembled) → LinesReadAs lines fs
    → LinesReadAs lines gs → assemble n fs a ≡ assemble n gs a
assemble-once n [] [] [] a h k = refl
assemble-once n [] [] (g ∷ gs) a h k = absurd k
assemble-once n [] (f ∷ fs) gs a h k = absurd h
assemble-once n (l ∷ lines) [] gs a h k = absurd h
assemble-once n (l ∷ lines) (f ∷ fs) [] a h k = absurd k
assemble-once n (l ∷ lines) (f ∷ fs) (g ∷ gs) a h k =
    ap (λ said. and_then (add_line n said a) (λ b. assemble (n + 1) fs b))
    (said_once n (tokens_of l) f g h.0 k.0)
    ∙ and_then-same (add_line n (line_said n g) a) (λ b. assemble (n + 1) fs b) (λ b. assemble (n + 1) gs b)
    (λ b. assemble-once (n + 1) lines fs gs b h.1 k.1)

-- lines have as many forms
pub LinesReadAs-length : (lines : List (List ℕ)) (forms : List Form) → LinesReadAs lines forms
    → length forms ≡ length lines
LinesReadAs-length [] [] h = refl
LinesReadAs-length [] (f ∷ forms) h = absurd h
LinesReadAs-length (l ∷ lines) [] h = absurd h
LinesReadAs-length (l ∷ lines) (f ∷ forms) h = let rest = LinesReadAs-length lines forms h.1 in omega (arith, rest)

pub LinesReadAs-append : (xs ys : List (List ℕ)) (fs gs : List Form) → LinesReadAs xs fs → LinesReadAs ys gs
    → LinesReadAs (xs ++ ys) (fs ++ gs)
LinesReadAs-append [] ys [] gs h k = k
LinesReadAs-append [] ys (f ∷ fs) gs h k = absurd h
LinesReadAs-append (x ∷ xs) ys [] gs h k = absurd h
LinesReadAs-append (x ∷ xs) ys (f ∷ fs) gs h k = (h.0, LinesReadAs-append xs ys fs gs h.1 k)

-- the forms of lines that are put together
pub record Parted (xs ys : List (List ℕ)) (forms : List Form) : Type 0 where
  pub front : List Form
  pub back : List Form
  pub split : forms ≡ front ++ back
  pub first : LinesReadAs xs front
  pub second : LinesReadAs ys back

pub part_forms : (xs ys : List (List ℕ)) (forms : List Form) → LinesReadAs (xs ++ ys) forms → Parted xs ys forms
part_forms [] ys forms h = record { front = []; back = forms; split = refl; first = tt; second = h }
part_forms (x ∷ xs) ys [] h = absurd h
part_forms (x ∷ xs) ys (f ∷ forms) h =
    let p = part_forms xs ys forms h.1 in
    record {
      front = f ∷ p.front;
      back = p.back;
      split = ap (λ fs. f ∷ fs) p.split;
      first = (h.0, p.first);
      second = p.second;
    }

-- the lines of forms that are put together
pub record Cut (lines : List (List ℕ)) (fs gs : List Form) : Type 0 where
  pub front : List (List ℕ)
  pub back : List (List ℕ)
  pub split : lines ≡ front ++ back
  pub first : LinesReadAs front fs
  pub second : LinesReadAs back gs

pub cut_lines : (lines : List (List ℕ)) (fs gs : List Form) → LinesReadAs lines (fs ++ gs) → Cut lines fs gs
cut_lines lines [] gs h = record { front = []; back = lines; split = refl; first = tt; second = h }
cut_lines [] (f ∷ fs) gs h = absurd h
cut_lines (l ∷ lines) (f ∷ fs) gs h =
    let p = cut_lines lines fs gs h.1 in
    record {
      front = l ∷ p.front;
      back = p.back;
      split = ap (λ ls. l ∷ ls) p.split;
      first = (h.0, p.first);
      second = p.second;
    }

-- the line `end`
pub end_line : LineReadsAs (codes "end") end
unfolding tokens_from piece_at
end_line = record { printed = refl; valid = tt }

-- lines of paragraphs and of a batch that is open begin a script
pub open_begins : (lines : List (List ℕ)) (forms inside : List Form) (paragraphs : List Paragraph)
    → LinesReadAs lines forms → forms ≡ forms_of paragraphs ++ begin ∷ inside → All IsParagraph paragraphs
    → All StandsInside inside → BeginScript lines
open_begins lines forms inside paragraphs h split each stand = (
  codes "end" ∷ [],
  paragraphs ++ several inside ∷ [],
  record {
    forms =
        let whole : forms ++ end ∷ [] ≡ forms_of (paragraphs ++ several inside ∷ []) =
        ap (λ fs. fs ++ end ∷ []) split
        ∙ append_assoc (forms_of paragraphs) (begin ∷ inside) (end ∷ [])
        ∙ sym (forms_of-push paragraphs (several inside)) in
        rw (← whole) (LinesReadAs-append lines (codes "end" ∷ []) forms (end ∷ []) h (end_line, tt));
    each =
        All-append IsParagraph paragraphs (several inside ∷ []) each
        (All-cons IsParagraph (several inside) [] stand (All-nil IsParagraph));
  },
)

pub closed_begins : (lines : List (List ℕ)) (paragraphs : List Paragraph) → AreLinesOf lines paragraphs
    → BeginScript lines
closed_begins lines paragraphs h =
    let whole = append-nil lines in ([], paragraphs, rw whole h)

-- the front of lines that begin a script begins one
begins-front : (xs ys : List (List ℕ)) → BeginScript (xs ++ ys) → BeginScript xs
begins-front xs ys (more, paragraphs, h) = (ys ++ more, paragraphs, rw (append_assoc xs ys more) at h)

-- what the lines of a text come to
whole_of : (lines : List (List ℕ)) (paragraphs : List Paragraph) → AreLinesOf lines paragraphs
    → assemble 1 (forms_of paragraphs) nothing_assembled ≡ Some (assembled (items_of 1 paragraphs) None [])
whole_of lines paragraphs h = assemble-paragraphs 1 paragraphs [] h.each

items_in : Option Assembled → List ScriptItem
items_in None = []
items_in (Some a) = a.items

opened_in : Option Assembled → Option ℕ
opened_in None = None
opened_in (Some a) = a.opened

-- a text reads as one list of items at most
pub reads_once : (text : List ℕ) (items others : List ScriptItem) → ReadsAs text items → ReadsAs text others
    → items ≡ others
unfolding items_in
reads_once text items others h k =
    sym h.stand_for
    ∙ ap items_in (sym (whole_of (lines_of text) h.paragraphs h.lines)
    ∙ assemble-once 1 (lines_of text) (forms_of h.paragraphs) (forms_of k.paragraphs) nothing_assembled h.lines.forms
    k.lines.forms
    ∙ whole_of (lines_of text) k.paragraphs k.lines)
    ∙ k.stand_for

-- the forms of a text with an open batch, and what they come to
open_forms : (text : List ℕ) (k : ℕ) → IsOpenAt text k → List Form
open_forms text k h = forms_of h.paragraphs ++ begin ∷ h.inside

open-reads : (text : List ℕ) (k : ℕ) (h : IsOpenAt text k) → LinesReadAs (lines_of text) (open_forms text k h)
unfolding open_forms
open-reads text k h =
    rw h.here.split (LinesReadAs-append h.before (h.line ∷ h.after) (forms_of h.paragraphs) (begin ∷ h.inside)
    h.closed.forms (h.opens, h.reads))

open-comes : (text : List ℕ) (k : ℕ) (h : IsOpenAt text k)
    → opened_in (assemble 1 (open_forms text k h) nothing_assembled) ≡ Some k
unfolding open_forms opened_in
open-comes text k h =
    let items = items_of 1 h.paragraphs in
    let n = 1 + length (forms_of h.paragraphs) in
    let here : 1 + length (forms_of h.paragraphs) ≡ k =
    omega (arith, LinesReadAs-length h.before (forms_of h.paragraphs) h.closed.forms, h.here.numbered) in
    ap opened_in (assemble-append 1 (forms_of h.paragraphs) (begin ∷ h.inside) nothing_assembled
    ∙ ap (λ o. and_then o (λ b. assemble (1 + length (forms_of h.paragraphs)) (begin ∷ h.inside) b))
    (whole_of h.before h.paragraphs h.closed)
    ∙ assemble-inside (1 + length (forms_of h.paragraphs) + 1) (1 + length (forms_of h.paragraphs)) h.inside items []
    h.stand)
    ∙ ap Some here

open-starts : (text : List ℕ) (k : ℕ) → IsOpenAt text k → BeginScript (lines_of text)
unfolding open_forms
open-starts text k h =
    open_begins (lines_of text) (open_forms text k h) h.inside h.paragraphs (open-reads text k h) refl h.closed.each
    h.stand

-- a text of which all lines begin a script has no bad line
begins-not_bad : (text : List ℕ) (k : ℕ) → BeginScript (lines_of text) → ¬ IsBadAt text k
begins-not_bad text k h = λ bad.
    let split : lines_of text ≡ (bad.before ++ bad.line ∷ []) ++ bad.after =
    bad.here.split ∙ sym (append_assoc bad.before (bad.line ∷ []) bad.after) in
    bad.bad (begins-front (bad.before ++ bad.line ∷ []) bad.after (rw split at h))

-- a text that reads is not refused
pub reads_without_syntax : (text : List ℕ) (k : ℕ) (items : List ScriptItem) → ReadsAs text items
    → ¬ IsSyntaxAt text k
unfolding opened_in
reads_without_syntax text k items h = λ refused. elim refused [
  | inl bad ↦ begins-not_bad text k (closed_begins (lines_of text) h.paragraphs h.lines) bad
  | inr left ↦
      let some = ap opened_in (sym (whole_of (lines_of text) h.paragraphs h.lines)
      ∙ assemble-once 1 (lines_of text) (forms_of h.paragraphs) (open_forms text k left) nothing_assembled
      h.lines.forms (open-reads text k left))
      ∙ open-comes text k left in
      cc some
]

-- of two places in a list the earlier one, with what stands at it, is in front of the later one
earlier : {X : Type 0} (xs ys zs ws : List X) (x y : X) → xs ++ x ∷ ys ≡ zs ++ y ∷ ws → length xs < length zs
    → (rest : List X) × (zs ≡ (xs ++ x ∷ []) ++ rest)
earlier xs ys [] ws x y same less = absurd (omega (arith, less))
earlier [] ys (z ∷ zs) ws x y same less = let here : x ≡ z = cc same in (zs, rw here refl)
earlier (v ∷ xs) ys (z ∷ zs) ws x y same less =
    let here : v ≡ z = cc same in
    let rest = earlier xs ys zs ws x y (cc same) (omega (arith, less)) in
    (rest.0, rw here (ap (λ l. z ∷ l) rest.1))

-- no bad line stands before another
bad-first : (text : List ℕ) (k j : ℕ) (h : IsBadAt text k) (g : IsBadAt text j)
    → length h.before < length g.before → ⊥
bad-first text k j h g less =
    let e = earlier h.before h.after g.before g.after h.line g.line (sym h.here.split ∙ g.here.split) less in
    h.bad (begins-front (h.before ++ h.line ∷ []) e.0 (rw e.1 at g.begins))

compare_lengths : (m n : ℕ) → (m < n) ⊎ ((n < m) ⊎ (m ≡ n))
compare_lengths m n = grind arith

-- a text is refused at one line at most
bad_once : (text : List ℕ) (k j : ℕ) → IsBadAt text k → IsBadAt text j → k ≡ j
bad_once text k j h g = elim (compare_lengths (length h.before) (length g.before)) [
  | inl less ↦ absurd (bad-first text k j h g less)
  | inr other ↦ elim other [
    | inl more ↦ absurd (bad-first text j k g h more)
    | inr same ↦ omega (arith, same, h.here.numbered, g.here.numbered)
  ]
]

open_once : (text : List ℕ) (k j : ℕ) → IsOpenAt text k → IsOpenAt text j → k ≡ j
unfolding opened_in
open_once text k j h g =
    let same = sym (open-comes text k h)
    ∙ ap opened_in (assemble-once 1 (lines_of text) (open_forms text k h) (open_forms text j g) nothing_assembled
    (open-reads text k h) (open-reads text j g))
    ∙ open-comes text j g in
    cc same

pub syntax_once : (text : List ℕ) (k j : ℕ) → IsSyntaxAt text k → IsSyntaxAt text j → k ≡ j
syntax_once text k j (inl h) (inl g) = bad_once text k j h g
syntax_once text k j (inl h) (inr g) = absurd (begins-not_bad text k (open-starts text j g) h)
syntax_once text k j (inr h) (inl g) = absurd (begins-not_bad text j (open-starts text k h) g)
syntax_once text k j (inr h) (inr g) = open_once text k j h g

-- so the error is that of the text's cause, or memory ran out
pub syntax_answered : (text : List ℕ) (k : ℕ) (e : ScriptError) → (e ≡ error.TooLong → ⊥)
    → ((j : ℕ) → e ≡ error.Syntax j → IsSyntaxAt text j) → IsSyntaxAt text k
    → (e ≡ error.Syntax k) ⊎ (e ≡ error.NoMemory)
syntax_answered text k error.TooLong fits says h = absurd (fits refl)
syntax_answered text k (error.Syntax j) fits says h = inl (ap error.Syntax (syntax_once text j k (says j refl) h))
syntax_answered text k error.NoMemory fits says h = inr refl

-- a text that reads is refused for want of memory alone
pub reads_answered : (text : List ℕ) (items : List ScriptItem) (e : ScriptError) → (e ≡ error.TooLong → ⊥)
    → ((j : ℕ) → e ≡ error.Syntax j → IsSyntaxAt text j) → ReadsAs text items → e ≡ error.NoMemory
reads_answered text items error.TooLong fits says h = absurd (fits refl)
reads_answered text items (error.Syntax j) fits says h = absurd (reads_without_syntax text j items h (says j refl))
reads_answered text items error.NoMemory fits says h = refl

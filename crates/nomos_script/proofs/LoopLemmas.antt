-- How a script grows line by line.
use Rattle.std.proofs.Common.{◌≡◌, ℕ, ◌+◌, ◌<◌, ◌≤◌, ◌==◌, true, List, [], ◌∷◌, ◌++◌, length, Option, Some, None, Err, IsErrOf, inl, inr, All, refl, sym, ◌∙◌, ap, append_assoc, arith, length-append}
use Rattle.std.proofs.lemmas.Bool.{eqb-true}
use Rattle.std.proofs.lemmas.List.{append-nil}
use Rattle.nomos_script.specs.declared.parsing.ScriptError.TheVariants as error
use Rattle.nomos_script.specs.Form.{Form, begin, LineReadsAs}
use Rattle.nomos_script.specs.Lines.{lines_of}
use Rattle.nomos_script.specs.Paragraph.{Paragraph, forms_of, StandsInside, IsParagraph}
use Rattle.nomos_ir.specs.Limits.{text_limit}
use Rattle.nomos_script.specs.ScriptReading.{LinesReadAs, ReadsAs, BeginScript, IsBadAt, IsOpenAt, IsSyntaxAt}
use Rattle.nomos_script.specs.mirror.ReaderSeen.{AddsLine}
use Rattle.nomos_script.specs.mirror.Assembling.{Assembled, nothing_assembled, line_said, add_line}
use Rattle.nomos_script.specs.mirror.ValueReading.{and_then}
use Rattle.nomos_script.proofs.AssemblyLemmas.{assemble, assemble-append, assemble-paragraphs}
use Rattle.nomos_script.proofs.LineLemmas.{lines_of-nil}
use Rattle.nomos_script.proofs.ReadingLaws.{assemble-once, LinesReadAs-length, LinesReadAs-append, part_forms, cut_lines, open_begins, closed_begins}
use Rattle.nomos_script.proofs.StandingLemmas.{StandsWith, Standing, standing-none, standing-line}

-- The lines before the rest of the text were read, and the next one has this number.
pub record ReadSoFar (text rest : List ℕ) (number : ℕ) (a : Assembled) : Type 0 where
  pub before : List (List ℕ)
  pub forms : List Form
  pub split : lines_of text ≡ before ++ lines_of rest
  pub read : LinesReadAs before forms
  pub numbered : number ≡ length before + 1
  pub standing : Standing forms a
  pub come : assemble 1 forms nothing_assembled ≡ Some a
  pub room : number + length rest ≤ length text + 1

-- at first none
pub ReadSoFar-none : (text : List ℕ) → ReadSoFar text text 1 nothing_assembled
ReadSoFar-none text = record {
  before = [];
  forms = [];
  split = refl;
  read = tt;
  numbered = refl;
  standing = standing-none;
  come = refl;
  room = omega arith;
}

place : (text rest : List ℕ) (number : ℕ) (a : Assembled) (s : ReadSoFar text rest number a)
    → number ≡ 1 + length s.forms
place text rest number a s = omega (arith, LinesReadAs-length s.before s.forms s.read, s.numbered)

-- one more line was read
pub ReadSoFar-line : (text rest line after : List ℕ) (number : ℕ) (a b : Assembled) → ReadSoFar text rest number a
    → lines_of rest ≡ line ∷ lines_of after → length after < length rest → AddsLine number line a b
    → ReadSoFar text after (number + 1) b
ReadSoFar-line text rest line after number a b s split shorter (form, reads, added) =
    let here = place text rest number a s in
    let there : add_line (1 + length s.forms) (line_said (1 + length s.forms) form) a ≡ Some b = rw here at added in
    record {
      before = s.before ++ line ∷ [];
      forms = s.forms ++ form ∷ [];
      split = rw (append_assoc, ← split) s.split;
      read = LinesReadAs-append s.before (line ∷ []) s.forms (form ∷ []) s.read (reads, tt);
      numbered = omega (arith, length-append s.before (line ∷ []), s.numbered);
      standing = standing-line s.forms form a b s.standing there;
      come = assemble-append 1 s.forms (form ∷ []) nothing_assembled
          ∙ ap (λ o. and_then o (λ d. assemble (1 + length s.forms) (form ∷ []) d)) s.come
          ∙ ap (λ o. and_then o (λ d. assemble (1 + length s.forms + 1) [] d)) there;
      room = omega (arith, s.room, shorter);
    }

begins-with : (before : List (List ℕ)) (forms : List Form) (a : Assembled) (opened : Option ℕ) → a.opened ≡ opened
    → LinesReadAs before forms → Standing forms a → BeginScript before
begins-with before forms a None is read s =
    let w : StandsWith None forms s.paragraphs a.starts = rw is at s.with in
    closed_begins before s.paragraphs (record { forms = rw w.0 at read; each = s.each })
begins-with before forms a (Some first) is read s =
    let w : StandsWith (Some first) forms s.paragraphs a.starts = rw is at s.with in
    open_begins before forms w.inside s.paragraphs read w.split s.each w.stand

-- the lines so far begin a script
so_far-begins : (before : List (List ℕ)) (forms : List Form) (a : Assembled) → LinesReadAs before forms
    → Standing forms a → BeginScript before
so_far-begins before forms a read s = begins-with before forms a a.opened refl read s

-- all lines were read, and no batch is open
pub ReadSoFar-all : (text rest : List ℕ) (number : ℕ) (a : Assembled) → length text ≤ text_limit
    → length rest == 0 ≡ true → ReadSoFar text rest number a → a.opened ≡ None → ReadsAs text a.items
ReadSoFar-all text [] number a limit done s closed =
    let whole : lines_of text ≡ s.before = rw (lines_of-nil, append-nil) at s.split in
    let w : StandsWith None s.forms s.standing.paragraphs a.starts = rw closed at s.standing.with in
    record {
      limit = limit;
      paragraphs = s.standing.paragraphs;
      lines = record { forms = rw (whole, ← w.0) s.read; each = s.standing.each };
      stand_for = s.standing.stand_for;
    }
ReadSoFar-all text (b ∷ rest) number a limit done s closed =
    absurd (omega (arith, eqb-true (length (b ∷ rest)) 0 done))

open_at : (text : List ℕ) (first : ℕ) (paragraphs : List Paragraph) (inside : List Form) (front back : List (List ℕ))
    → length text ≤ text_limit → lines_of text ≡ front ++ back → LinesReadAs front (forms_of paragraphs)
    → LinesReadAs back (begin ∷ inside) → All IsParagraph paragraphs → All StandsInside inside
    → first ≡ 1 + length (forms_of paragraphs) → IsOpenAt text first
open_at text first paragraphs inside front [] limit split read more each stand numbered = absurd more
open_at text first paragraphs inside front (line ∷ back) limit split read more each stand numbered = record {
  before = front;
  line = line;
  after = back;
  here = record {
    limit = limit;
    split = split;
    numbered = omega (arith, LinesReadAs-length front (forms_of paragraphs) read, numbered);
  };
  paragraphs = paragraphs;
  closed = record { forms = read; each = each };
  opens = more.0;
  inside = inside;
  reads = more.1;
  stand = stand;
}

-- all lines were read, and a batch is open
pub ReadSoFar-open : (text rest : List ℕ) (number first : ℕ) (a : Assembled) → length text ≤ text_limit
    → length rest == 0 ≡ true → ReadSoFar text rest number a → a.opened ≡ Some first → IsOpenAt text first
ReadSoFar-open text [] number first a limit done s opened =
    let whole : lines_of text ≡ s.before = rw (lines_of-nil, append-nil) at s.split in
    let w : StandsWith (Some first) s.forms s.standing.paragraphs a.starts = rw opened at s.standing.with in
    let read : LinesReadAs (lines_of text) (forms_of s.standing.paragraphs ++ begin ∷ w.inside) =
    rw (whole, ← w.split) s.read in
    let cut = cut_lines (lines_of text) (forms_of s.standing.paragraphs) (begin ∷ w.inside) read in
    open_at text first s.standing.paragraphs w.inside cut.front cut.back limit cut.split cut.first cut.second
    s.standing.each w.stand w.numbered
ReadSoFar-open text (b ∷ rest) number first a limit done s opened =
    absurd (omega (arith, eqb-true (length (b ∷ rest)) 0 done))

-- no script goes on with a line that could not be added
no_more : (before : List (List ℕ)) (line : List ℕ) (more : List (List ℕ)) (number : ℕ) (a : Assembled)
    (forms front back : List Form) {w : Assembled} → LinesReadAs before forms → LinesReadAs before front
    → LinesReadAs (line ∷ more) back → assemble 1 forms nothing_assembled ≡ Some a
    → number ≡ 1 + length forms
    → ((form : Form) → LineReadsAs line form → add_line number (line_said number form) a ≡ None)
    → assemble 1 (front ++ back) nothing_assembled ≡ Some w → ⊥
no_more before line more number a forms front [] read first second come here none whole = absurd second
no_more before line more number a forms front (g ∷ back) read first second come here none whole =
    let there : number ≡ 1 + length front =
    omega (arith, here, LinesReadAs-length before forms read, LinesReadAs-length before front first) in
    let stops : add_line (1 + length front) (line_said (1 + length front) g) a ≡ None =
    rw there at (none g second.0) in
    let nothing = assemble-append 1 front (g ∷ back) nothing_assembled
    ∙ ap (λ o. and_then o (λ b. assemble (1 + length front) (g ∷ back) b))
    (assemble-once 1 before front forms nothing_assembled first read ∙ come)
    ∙ ap (λ o. and_then o (λ b. assemble (1 + length front + 1) back b)) stops in
    let both = sym nothing ∙ whole in
    cc both

-- what the next line is refused for
pub ReadSoFar-bad : (text rest line after : List ℕ) (number : ℕ) (a : Assembled) → length text ≤ text_limit
    → ReadSoFar text rest number a → lines_of rest ≡ line ∷ lines_of after
    → ((form : Form) → LineReadsAs line form → add_line number (line_said number form) a ≡ None)
    → IsBadAt text number
ReadSoFar-bad text rest line after number a limit s split none = record {
  before = s.before;
  line = line;
  after = lines_of after;
  here = record { limit = limit; split = rw split at s.split; numbered = s.numbered };
  begins = so_far-begins s.before s.forms a s.read s.standing;
  bad = λ (more, paragraphs, h).
      let p = part_forms s.before (line ∷ more) (forms_of paragraphs)
      (rw (append_assoc s.before (line ∷ []) more) at h.forms) in
      no_more s.before line more number a s.forms p.front p.back s.read p.first p.second s.come
      (place text rest number a s) none (ap (λ fs. assemble 1 fs nothing_assembled) (sym p.split)
      ∙ assemble-paragraphs 1 paragraphs [] h.each);
}

-- the line that an error names is the one that it was made with
pub syntax_is : {T : Type 0} (n k : ℕ) → IsErrOf {T = T} (Err (error.Syntax n)) (error.Syntax k) → n ≡ k
syntax_is n k e = cc e

pub bad_answered : {T : Type 0} (text : List ℕ) (n k : ℕ) → IsBadAt text n
    → IsErrOf {T = T} (Err (error.Syntax n)) (error.Syntax k) → IsSyntaxAt text k
bad_answered text n k h e = let same = syntax_is n k e in inl (rw (← same) h)

pub open_answered : {T : Type 0} (text : List ℕ) (n k : ℕ) → IsOpenAt text n
    → IsErrOf {T = T} (Err (error.Syntax n)) (error.Syntax k) → IsSyntaxAt text k
open_answered text n k h e = let same = syntax_is n k e in inr (rw (← same) h)

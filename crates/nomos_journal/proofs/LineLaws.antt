-- What is written of a line is read as that line: so a text has one row of lines.
use Rattle.std.proofs.Common.{◌≡◌, ◌≢◌, ℕ, ◌+◌, ◌*◌, ◌<◌, ◌≤◌, ◌^◌, List, [], ◌∷◌, ◌++◌, length, get_or, length-append, Some, refl, sym, ◌∙◌, ap, arith, append_assoc}
use Rattle.std.specs.Prelude.{decimal, codes}
use Rattle.std.specs.List.{All}
use Rattle.std.proofs.lemmas.Fmt.{length-decimal-le_wide}
use Rattle.std.proofs.lemmas.List.Elements.{All-head, All-tail}
use Rattle.nomos_ir.specs.CodeForm.{form_name}
use Rattle.nomos_ir.specs.declared.code_form.CodeForm.{CodeForm}
use Rattle.nomos_legal.specs.declared.journal.End.{End}
use Rattle.nomos_printing.specs.End.{end_text, IsEnd, HasLineBelow}
use Rattle.nomos_printing.specs.ReadAs.{ReadsAs}
use Rattle.nomos_printing.specs.Splitting.{Lacks, ComesApart}
use Rattle.nomos_printing.proofs.LengthLaws.{length-decimal_64, length-end_text_line}
use Rattle.nomos_printing.proofs.OneTextLaws.{ReadsItself, one_text, number_itself, end_itself}
use Rattle.nomos_printing.proofs.SplittingLaws.{Lacks-decimal, Lacks-tested, Lacks-append, apart-only}
use Rattle.nomos_printing.proofs.FeedLaws.{feedless_number, feedless_end}
use Rattle.nomos_journal.specs.Line.{head_text, line_text, IsLine}
use Rattle.nomos_journal.specs.Text.{lines_text}
use Rattle.nomos_journal.specs.declared.line.JournalLine.{JournalLine}
use Rattle.nomos_journal.specs.declared.line.JournalLine.TheVariants as line
use Rattle.nomos_journal.specs.declared.line.Version.TheVariants as version
use Rattle.nomos_journal.specs.mirror.JournalLineKinds.{IsFiring, IsShortLine}
use Rattle.nomos_journal.proofs.FormLemmas.{form_itself, feedless_form, length-form_name, no_fifth_blank}
use Rattle.nomos_journal.proofs.LineLemmas.{BeginsOtherwise, worked_parts, fired_parts, firing_first, worked_some, fired_some, pid_some, firing_reads, at_some, steps_some, head_reads, other_reads, short_reads, end_some}

-- ---- each line is read as itself

-- a firing begins with no word
firing_otherwise : (unit : ℕ) (l : JournalLine) → IsFiring l → BeginsOtherwise (line_text unit l)
firing_otherwise unit l is =
    let digit = firing_first unit l is in
    record {
      at = λ rest same. absurd (omega (arith, digit, ap (λ t. get_or t 0 0) same));
      steps = λ rest same. absurd (omega (arith, digit, ap (λ t. get_or t 0 0) same));
      one = λ same. absurd (omega (arith, digit, ap (λ t. get_or t 0 0) same));
      two = λ same. absurd (omega (arith, digit, ap (λ t. get_or t 0 0) same));
    }

-- a line without an end does not begin with its word
no_end : (unit : ℕ) (l : JournalLine) → IsShortLine l → (rest : List ℕ) → line_text unit l ≢ codes "end " ++ rest
no_end unit (line.Head version.One) is rest same = absurd (omega (arith, ap (λ t. get_or t 0 0) same))
no_end unit (line.Head version.Two) is rest same = absurd (omega (arith, ap (λ t. get_or t 0 0) same))
no_end unit (line.Steps n) is rest same = absurd (omega (arith, ap (λ t. get_or t 0 0) same))
no_end unit (line.Line n) is rest same = absurd (omega (arith, ap (λ t. get_or t 0 0) same))
no_end unit (line.Pid pid) is rest same =
    absurd (omega (arith, firing_first unit (line.Pid pid) is, ap (λ t. get_or t 0 0) same))
no_end unit (line.Worked pid gas) is rest same = absurd
    (omega (arith, firing_first unit (line.Worked pid gas) is, ap (λ t. get_or t 0 0) same))
no_end unit (line.Fired pid f) is rest same = absurd
    (omega (arith, firing_first unit (line.Fired pid f) is, ap (λ t. get_or t 0 0) same))
no_end unit (line.End e) is rest same = absurd is

-- so is a line that is read as a firing, or as one without an end
short_itself : (unit : ℕ) (l : JournalLine) → IsShortLine l → ReadsAs IsShortLine (line_text unit) (line_text unit l)
    (Some l)
    → ReadsAs IsLine (line_text unit) (line_text unit l) (Some l)
short_itself unit l is reads = short_reads unit (line_text unit l) (Some l) (no_end unit l is) reads

firing_itself : (unit : ℕ) (l : JournalLine) → IsFiring l → IsShortLine l
    → ReadsAs IsFiring (line_text unit) (line_text unit l) (Some l)
    → ReadsAs IsLine (line_text unit) (line_text unit l) (Some l)
firing_itself unit l is short reads =
    short_itself unit l short
    (other_reads unit (line_text unit l) (Some l) (firing_otherwise unit l is) reads)

-- a number comes apart from what stands behind its blank
number_apart : (pid : ℕ) (text rest : List ℕ) → pid < 2 ^ 32 → text ≡ decimal pid ++ 32 ∷ rest
    → ComesApart 32 text (decimal pid) rest
number_apart pid text rest small e =
    record { lacks = Lacks-decimal 32 pid (omega (arith, small)) (omega arith); joined = e }

pub line_itself : (unit : ℕ) → unit < 2 ^ 32 → ReadsItself IsLine (line_text unit)
line_itself unit unit_small (line.Head version.One) is =
    short_itself unit (line.Head version.One) tt (head_reads unit (head_text version.One) version.One refl)
line_itself unit unit_small (line.Head version.Two) is =
    short_itself unit (line.Head version.Two) tt (head_reads unit (head_text version.Two) version.Two refl)
line_itself unit unit_small (line.Steps n) is =
    short_itself unit (line.Steps n) is
    (steps_some unit (codes "steps " ++ decimal n) (decimal n) n refl (number_itself 32 (omega arith) n is))
line_itself unit unit_small (line.Line n) is =
    short_itself unit (line.Line n) is
    (at_some unit (codes "line " ++ decimal n) (decimal n) n refl (number_itself 32 (omega arith) n is))
line_itself unit unit_small (line.Pid pid) is =
    firing_itself unit (line.Pid pid) is is
    (pid_some unit (decimal pid) pid (Lacks-decimal 32 pid (omega (arith, is)) (omega arith))
    (number_itself 32 (omega arith) pid is))
line_itself unit unit_small (line.Worked pid gas) is =
    let text = line_text unit (line.Worked pid gas) in
    let back = codes "work " ++ decimal gas in
    firing_itself unit (line.Worked pid gas) is is
    (firing_reads unit text (decimal pid) back pid (Some (line.Worked pid gas))
    (number_apart pid text back is.0 (worked_parts pid gas)) (number_itself 32 (omega arith) pid is.0)
    (worked_some pid back (decimal gas) gas refl (number_itself 64 (omega arith) gas is.1)))
line_itself unit unit_small (line.Fired pid f) is =
    let text = line_text unit (line.Fired pid f) in
    firing_itself unit (line.Fired pid f) is is
    (firing_reads unit text (decimal pid) (form_name f) pid (Some (line.Fired pid f))
    (number_apart pid text (form_name f) is.0 (fired_parts pid f)) (number_itself 32 (omega arith) pid is.0)
    (fired_some pid (form_name f) f (λ rest same. no_fifth_blank f (ap (λ t. get_or t 4 0) same)) (form_itself f is.1)))
line_itself unit unit_small (line.End e) is =
    end_some unit (codes "end " ++ end_text unit e) (end_text unit e) e refl (end_itself unit unit_small e is)

-- no two lines are written alike
pub line_text-only : (unit : ℕ) → unit < 2 ^ 32 → (l m : JournalLine) → IsLine l → IsLine m
    → line_text unit l ≡ line_text unit m → l ≡ m
line_text-only unit unit_small l m l_is m_is same = one_text (line_itself unit unit_small) l m l_is m_is same

-- ---- texts

-- a line has no line feed
pub feedless_line : (unit : ℕ) (l : JournalLine) → unit < 2 ^ 32 → IsLine l → Lacks 10 (line_text unit l)
feedless_line unit (line.Head version.One) unit_small is = Lacks-tested 10 (head_text version.One) refl
feedless_line unit (line.Head version.Two) unit_small is = Lacks-tested 10 (head_text version.Two) refl
feedless_line unit (line.Steps n) unit_small is =
    Lacks-append 10 (codes "steps ") (decimal n) (Lacks-tested 10 (codes "steps ") refl)
    (feedless_number n (omega (arith, is)))
feedless_line unit (line.Line n) unit_small is =
    Lacks-append 10 (codes "line ") (decimal n) (Lacks-tested 10 (codes "line ") refl)
    (feedless_number n (omega (arith, is)))
feedless_line unit (line.Pid pid) unit_small is = feedless_number pid (omega (arith, is))
feedless_line unit (line.Worked pid gas) unit_small is =
    Lacks-append 10 (decimal pid ++ codes " work ") (decimal gas)
    (Lacks-append 10 (decimal pid) (codes " work ") (feedless_number pid (omega (arith, is.0)))
    (Lacks-tested 10 (codes " work ") refl))
    (feedless_number gas (omega (arith, is.1)))
feedless_line unit (line.Fired pid f) unit_small is =
    Lacks-append 10 (decimal pid ++ codes " ") (form_name f)
    (Lacks-append 10 (decimal pid) (codes " ") (feedless_number pid (omega (arith, is.0)))
    (Lacks-tested 10 (codes " ") refl))
    (feedless_form f)
feedless_line unit (line.End e) unit_small is =
    Lacks-append 10 (codes "end ") (end_text unit e) (Lacks-tested 10 (codes "end ") refl)
    (feedless_end unit e unit_small is)

-- the first line of a text, and the others
pub first_line : (unit : ℕ) (l : JournalLine) (ls : List JournalLine)
    → lines_text unit (l ∷ ls) ≡ line_text unit l ++ 10 ∷ lines_text unit ls
first_line unit l ls = append_assoc (line_text unit l) (10 ∷ []) (lines_text unit ls)

-- a text with a line is not empty
some_text : (unit : ℕ) (l : JournalLine) (ls : List JournalLine) → [] ≡ lines_text unit (l ∷ ls) → ⊥
some_text unit l ls same =
    let long : 0 ≡ length (line_text unit l ++ 10 ∷ lines_text unit ls) = ap length (same ∙ first_line unit l ls) in
    let more : length (line_text unit l ++ 10 ∷ lines_text unit ls)
    ≡ length (line_text unit l) + length (10 ∷ lines_text unit ls) =
    length-append (line_text unit l) (10 ∷ lines_text unit ls) in
    omega (arith, long, more)

-- a text has one row of lines
pub lines_text-only : (unit : ℕ) → unit < 2 ^ 32 → (ls ms : List JournalLine) → All IsLine ls → All IsLine ms
    → lines_text unit ls ≡ lines_text unit ms → ls ≡ ms
lines_text-only unit unit_small [] [] ls_are ms_are same = refl
lines_text-only unit unit_small [] (m ∷ ms) ls_are ms_are same = absurd (some_text unit m ms same)
lines_text-only unit unit_small (l ∷ ls) [] ls_are ms_are same = absurd (some_text unit l ls (sym same))
lines_text-only unit unit_small (l ∷ ls) (m ∷ ms) ls_are ms_are same =
    let l_is = All-head IsLine l ls ls_are in
    let m_is = All-head IsLine m ms ms_are in
    let parts = apart-only 10 (line_text unit l) (line_text unit m) (lines_text unit ls) (lines_text unit ms)
    (feedless_line unit l unit_small l_is) (feedless_line unit m unit_small m_is)
    (sym (first_line unit l ls) ∙ same ∙ first_line unit m ms) in
    let first : l ≡ m = line_text-only unit unit_small l m l_is m_is parts.0 in
    let others : ls ≡ ms = lines_text-only unit unit_small ls ms (All-tail IsLine l ls ls_are)
    (All-tail IsLine m ms ms_are) parts.1 in
    ap (λ x. x ∷ ls) first ∙ ap (λ xs. m ∷ xs) others

-- ---- lengths

-- three parts of a line
three_lengths : (a b d : List ℕ) (m n k : ℕ) → length a ≤ m → length b ≤ n → length d ≤ k
    → length ((a ++ b ++ d) ++ 10 ∷ []) ≤ m + n + k + 1
three_lengths a b d m n k a_short b_short d_short = simp length-append (omega (arith, a_short, b_short, d_short))

-- two parts of one
two_lengths : (a b : List ℕ) (m n : ℕ) → length a ≤ m → length b ≤ n → length ((a ++ b) ++ 10 ∷ []) ≤ m + n + 1
two_lengths a b m n a_short b_short = simp length-append (omega (arith, a_short, b_short))

-- a firing's line of version 2 with its line feed, where the number of the process has at most so many digits
pub length-worked : (unit digits pid gas : ℕ) → 1 ≤ digits → digits ≤ 10 → pid < 10 ^ digits → pid < 2 ^ 32
    → gas < 2 ^ 64 → length (line_text unit (line.Worked pid gas) ++ 10 ∷ []) ≤ 27 + digits
length-worked unit digits pid gas some few below small gas_small =
    let pid_short = length-decimal-le_wide digits pid (omega (arith, some)) below (omega (arith, small)) in
    let all = three_lengths (decimal pid) (codes " work ") (decimal gas) digits 6 20 pid_short (omega arith)
    (length-decimal_64 gas gas_small) in
    omega (arith, all)

pub length-fired : (unit digits pid : ℕ) (f : CodeForm) → 1 ≤ digits → digits ≤ 10 → pid < 10 ^ digits → pid < 2 ^ 32
    → length (line_text unit (line.Fired pid f) ++ 10 ∷ []) ≤ 9 + digits
length-fired unit digits pid f some few below small =
    let pid_short = length-decimal-le_wide digits pid (omega (arith, some)) below (omega (arith, small)) in
    let all = three_lengths (decimal pid) (codes " ") (form_name f) digits 1 7 pid_short (omega arith)
    (length-form_name f) in
    omega (arith, all)

-- the lines of an entry around its firings, with their line feeds, where the lines of the script that they name have at
-- most so many digits
pub length-frame : (unit digits n : ℕ) (e : End) → 1 ≤ digits → digits ≤ 10 → unit < 2 ^ 32 → n < 10 ^ digits
    → n < 2 ^ 32 → IsEnd e → HasLineBelow digits e
    → length (line_text unit (line.Line n) ++ 10 ∷ []) + length (line_text unit (line.End e) ++ 10 ∷ [])
    ≤ 205 + 2 * digits
length-frame unit digits n e some few unit_small below small is end_below =
    let n_short = length-decimal-le_wide digits n (omega (arith, some)) below (omega (arith, small)) in
    let line_short = two_lengths (codes "line ") (decimal n) 5 digits (omega arith) n_short in
    let end_short = two_lengths (codes "end ") (end_text unit e) 4 (194 + digits) (omega arith)
    (length-end_text_line unit digits e some few unit_small is end_below) in
    omega (arith, line_short, end_short)

-- at most 37 bytes for a firing of version 2
pub length-worked_line : (unit pid gas : ℕ) → pid < 2 ^ 32 → gas < 2 ^ 64
    → length (line_text unit (line.Worked pid gas) ++ 10 ∷ []) ≤ 37
length-worked_line unit pid gas small gas_small =
    length-worked unit 10 pid gas (omega arith) (omega arith) (omega (arith, small)) small gas_small

pub length-fired_line : (unit pid : ℕ) (f : CodeForm) → pid < 2 ^ 32
    → length (line_text unit (line.Fired pid f) ++ 10 ∷ []) ≤ 19
length-fired_line unit pid f small =
    length-fired unit 10 pid f (omega arith) (omega arith) (omega (arith, small)) small

-- at most 219 bytes for the lines around them, in scripts of fewer than ten million lines
pub length-frame_line : (unit n : ℕ) (e : End) → unit < 2 ^ 32 → n < 10 ^ 7 → IsEnd e → HasLineBelow 7 e
    → length (line_text unit (line.Line n) ++ 10 ∷ []) + length (line_text unit (line.End e) ++ 10 ∷ []) ≤ 219
length-frame_line unit n e unit_small below is end_below =
    length-frame unit 7 n e (omega arith) (omega arith) unit_small below (omega (arith, below)) is end_below

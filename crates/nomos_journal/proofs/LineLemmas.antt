-- Lines that are read by their first word.
use Rattle.std.proofs.Common.{◌≡◌, ◌≢◌, ℕ, ◌<◌, ◌≤◌, ◌^◌, List, [], ◌∷◌, ◌++◌, drop, get_or, Option, Some, None, IfSome, refl, sym, ◌∙◌, ap, subst, arith, append_assoc, append-nil}
use Rattle.std.specs.Prelude.{decimal, codes}
use Rattle.std.proofs.lemmas.Fmt.{decimal_nonempty, decimal_is_IsNumeral_wide}
use Rattle.std.proofs.lemmas.List.{get_or_append_left}
use Rattle.std.proofs.lemmas.Str.Parse.{digit_at}
use Rattle.nomos_ir.specs.CodeForm.{form_name}
use Rattle.nomos_ir.specs.declared.code_form.CodeForm.{CodeForm}
use Rattle.nomos_legal.specs.declared.journal.End.{End}
use Rattle.nomos_printing.specs.End.{end_text, IsEnd}
use Rattle.nomos_printing.specs.Number.{ReadsBits}
use Rattle.nomos_printing.specs.ReadAs.{ReadsAs}
use Rattle.nomos_printing.specs.Splitting.{Lacks, ComesApart}
use Rattle.nomos_printing.proofs.ReadingLaws.{ReadsAs-none}
use Rattle.nomos_printing.proofs.SplittingLaws.{Lacks-apart, Lacks-decimal, ComesApart-parts}
use Rattle.nomos_journal.specs.Line.{head_text, line_text, IsLine, IsGasless}
use Rattle.nomos_journal.specs.declared.line.JournalLine.{JournalLine}
use Rattle.nomos_journal.specs.declared.line.JournalLine.TheVariants as line
use Rattle.nomos_journal.specs.declared.line.Version.{Version}
use Rattle.nomos_journal.specs.declared.line.Version.TheVariants as version
use Rattle.nomos_journal.specs.mirror.JournalLineKinds.{IsFiredBy, IsFiring, IsShortLine, fired_text}
use Rattle.nomos_journal.proofs.FormLemmas.{no_fifth_blank}

-- ---- what a process fired

-- the gas of a firing at a `work`
gas_each : (by : ℕ) (rest : List ℕ) (l : JournalLine) → IsFiredBy by l → codes "work " ++ rest ≡ fired_text l
    → (gas : ℕ) × (gas < 2 ^ 64) × (l ≡ line.Worked by gas) × (rest ≡ decimal gas)
gas_each by rest (line.Head version.One) is same = absurd is
gas_each by rest (line.Head version.Two) is same = absurd is
gas_each by rest (line.Steps n) is same = absurd is
gas_each by rest (line.Line n) is same = absurd is
gas_each by rest (line.Pid pid) is same = absurd is
gas_each by rest (line.Worked pid gas) is same = (gas, is.1, ap (λ n. line.Worked n gas) is.0, ap (λ t. drop 5 t) same)
gas_each by rest (line.Fired pid f) is same = absurd (no_fifth_blank f (sym (ap (λ t. get_or t 4 0) same)))
gas_each by rest (line.End e) is same = absurd is

-- a firing at a `work`
pub worked_some : (by : ℕ) (text rest : List ℕ) (gas : ℕ) → text ≡ codes "work " ++ rest → ReadsBits 64 rest (Some gas)
    → ReadsAs (IsFiredBy by) fired_text text (Some (line.Worked by gas))
worked_some by text rest gas begins reads =
    record {
      found = ((refl, reads.found.0), begins ∙ ap (λ t. codes "work " ++ t) reads.found.1);
      each = λ l is same.
          let g = gas_each by rest l is (sym begins ∙ same) in
          let told : Some gas ≡ Some g.0 = reads.each g.0 g.1 g.3 in
          let gas_is : gas ≡ g.0 = cc in
          ap (λ x. Some (line.Worked by x)) gas_is ∙ ap (λ x. Some x) (sym g.2);
    }

-- the form of a firing elsewhere
form_each : (by : ℕ) (text : List ℕ) → ((rest : List ℕ) → text ≢ codes "work " ++ rest) → (l : JournalLine)
    → IsFiredBy by l → text ≡ fired_text l
    → (f : CodeForm) × IsGasless f × (l ≡ line.Fired by f) × (text ≡ form_name f)
form_each by text other (line.Head version.One) is same = absurd is
form_each by text other (line.Head version.Two) is same = absurd is
form_each by text other (line.Steps n) is same = absurd is
form_each by text other (line.Line n) is same = absurd is
form_each by text other (line.Pid pid) is same = absurd is
form_each by text other (line.Worked pid gas) is same = absurd (other (decimal gas) same)
form_each by text other (line.Fired pid f) is same = (f, is.1, ap (λ n. line.Fired n f) is.0, same)
form_each by text other (line.End e) is same = absurd is

-- a firing elsewhere
pub fired_some : (by : ℕ) (text : List ℕ) (f : CodeForm) → ((rest : List ℕ) → text ≢ codes "work " ++ rest)
    → ReadsAs IsGasless form_name text (Some f) → ReadsAs (IsFiredBy by) fired_text text (Some (line.Fired by f))
fired_some by text f other reads =
    record {
      found = ((refl, reads.found.0), reads.found.1);
      each = λ l is same.
          let g = form_each by text other l is same in
          let told : Some f ≡ Some g.0 = reads.each g.0 g.1 g.3 in
          let form_is : f ≡ g.0 = cc in
          ap (λ x. Some (line.Fired by x)) form_is ∙ ap (λ x. Some x) (sym g.2);
    }

-- ---- firings

-- the blank behind the number
pub worked_parts : (pid gas : ℕ) → (decimal pid ++ codes " work ") ++ decimal gas
    ≡ decimal pid ++ 32 ∷ (codes "work " ++ decimal gas)
worked_parts pid gas = append_assoc (decimal pid) (codes " work ") (decimal gas)

pub fired_parts : (pid : ℕ) (f : CodeForm) → (decimal pid ++ codes " ") ++ form_name f ≡ decimal pid ++ 32 ∷ form_name f
fired_parts pid f = append_assoc (decimal pid) (codes " ") (form_name f)

-- a text that comes apart has a blank
blank_in : (text front back : List ℕ) → Lacks 32 text → text ≡ front ++ 32 ∷ back → ⊥
blank_in text front back lacks e = let lacks' : Lacks 32 (front ++ 32 ∷ back) = rw (← e) lacks in
    Lacks-apart 32 front back lacks'

-- a firing without a blank
pid_each : (unit : ℕ) (text : List ℕ) → Lacks 32 text → (l : JournalLine) → IsFiring l → text ≡ line_text unit l
    → (pid : ℕ) × (pid < 2 ^ 32) × (l ≡ line.Pid pid) × (text ≡ decimal pid)
pid_each unit text lacks (line.Head version.One) is same = absurd is
pid_each unit text lacks (line.Head version.Two) is same = absurd is
pid_each unit text lacks (line.Steps n) is same = absurd is
pid_each unit text lacks (line.Line n) is same = absurd is
pid_each unit text lacks (line.Pid pid) is same = (pid, is, refl, same)
pid_each unit text lacks (line.Worked pid gas) is same =
    absurd (blank_in text (decimal pid) (codes "work " ++ decimal gas) lacks (same ∙ worked_parts pid gas))
pid_each unit text lacks (line.Fired pid f) is same =
    absurd (blank_in text (decimal pid) (form_name f) lacks (same ∙ fired_parts pid f))
pid_each unit text lacks (line.End e) is same = absurd is

pub pid_none : (unit : ℕ) (text : List ℕ) → Lacks 32 text → ReadsBits 32 text None
    → ReadsAs IsFiring (line_text unit) text None
pid_none unit text lacks reads =
    ReadsAs-none text (λ l is same.
    let p = pid_each unit text lacks l is same in
    let none = reads.each p.0 p.1 p.3 in
    cc)

pub pid_some : (unit : ℕ) (text : List ℕ) (pid : ℕ) → Lacks 32 text → ReadsBits 32 text (Some pid)
    → ReadsAs IsFiring (line_text unit) text (Some (line.Pid pid))
pid_some unit text pid lacks reads =
    record {
      found = (reads.found.0, reads.found.1);
      each = λ l is same.
          let p = pid_each unit text lacks l is same in
          let told : Some pid ≡ Some p.0 = reads.each p.0 p.1 p.3 in
          let pid_is : pid ≡ p.0 = cc in
          ap (λ x. Some (line.Pid x)) pid_is ∙ ap (λ x. Some x) (sym p.2);
    }

-- a firing with a blank
parts_each : (unit : ℕ) (text front back : List ℕ) → ComesApart 32 text front back → (l : JournalLine) → IsFiring l
    → text ≡ line_text unit l
    → (pid : ℕ) × (pid < 2 ^ 32) × (front ≡ decimal pid) × IsFiredBy pid l × (back ≡ fired_text l)
parts_each unit text front back apart (line.Head version.One) is same = absurd is
parts_each unit text front back apart (line.Head version.Two) is same = absurd is
parts_each unit text front back apart (line.Steps n) is same = absurd is
parts_each unit text front back apart (line.Line n) is same = absurd is
parts_each unit text front back apart (line.Pid pid) is same =
    absurd (blank_in (decimal pid) front back (Lacks-decimal 32 pid (omega (arith, is)) (omega arith))
    (sym same ∙ apart.joined))
parts_each unit text front back apart (line.Worked pid gas) is same =
    let parts = ComesApart-parts 32 text front back (decimal pid) (codes "work " ++ decimal gas) apart
    (Lacks-decimal 32 pid (omega (arith, is.0)) (omega arith)) (same ∙ worked_parts pid gas) in
    (pid, is.0, parts.0, (refl, is.1), parts.1)
parts_each unit text front back apart (line.Fired pid f) is same =
    let parts = ComesApart-parts 32 text front back (decimal pid) (form_name f) apart
    (Lacks-decimal 32 pid (omega (arith, is.0)) (omega arith)) (same ∙ fired_parts pid f) in
    (pid, is.0, parts.0, (refl, is.1), parts.1)
parts_each unit text front back apart (line.End e) is same = absurd is

-- without a number
pub firing_none : (unit : ℕ) (text front back : List ℕ) → ComesApart 32 text front back → ReadsBits 32 front None
    → ReadsAs IsFiring (line_text unit) text None
firing_none unit text front back apart reads =
    ReadsAs-none text (λ l is same.
    let p = parts_each unit text front back apart l is same in
    let none = reads.each p.0 p.1 p.2 in
    cc)

-- a firing by a process is one, and its text is that of the process and of what it fired
firing_of : (unit by : ℕ) (l : JournalLine) → by < 2 ^ 32 → IsFiredBy by l
    → IsFiring l × (line_text unit l ≡ decimal by ++ 32 ∷ fired_text l)
firing_of unit by (line.Head version.One) small is = absurd is
firing_of unit by (line.Head version.Two) small is = absurd is
firing_of unit by (line.Steps n) small is = absurd is
firing_of unit by (line.Line n) small is = absurd is
firing_of unit by (line.Pid pid) small is = absurd is
firing_of unit by (line.Worked pid gas) small is =
    let P : ℕ → Type 0 = λ n. line_text unit (line.Worked pid gas) ≡ decimal n ++ 32 ∷ (codes "work " ++ decimal gas) in
    ((omega (arith, is.0, small), is.1), subst P is.0 (worked_parts pid gas))
firing_of unit by (line.Fired pid f) small is =
    let P : ℕ → Type 0 = λ n. line_text unit (line.Fired pid f) ≡ decimal n ++ 32 ∷ form_name f in
    ((omega (arith, is.0, small), is.1), subst P is.0 (fired_parts pid f))
firing_of unit by (line.End e) small is = absurd is

firing_found : (unit : ℕ) (text front back : List ℕ) (by : ℕ) (answer : Option JournalLine)
    → ComesApart 32 text front back → ReadsBits 32 front (Some by) → ReadsAs (IsFiredBy by) fired_text back answer
    → IfSome answer (λ l. IsFiring l × (text ≡ line_text unit l))
firing_found unit text front back by None apart number fired = tt
firing_found unit text front back by (Some l) apart number fired =
    let is = firing_of unit by l number.found.0 fired.found.0 in (
      is.0,
      apart.joined ∙ ap (λ t. t ++ 32 ∷ back) number.found.1 ∙ ap (λ t. decimal by ++ 32 ∷ t) fired.found.1
          ∙ sym is.1,
    )

-- with a number
pub firing_reads : (unit : ℕ) (text front back : List ℕ) (by : ℕ) (answer : Option JournalLine)
    → ComesApart 32 text front back → ReadsBits 32 front (Some by) → ReadsAs (IsFiredBy by) fired_text back answer
    → ReadsAs IsFiring (line_text unit) text answer
firing_reads unit text front back by answer apart number fired =
    record {
      found = firing_found unit text front back by answer apart number fired;
      each = λ l is same.
          let p = parts_each unit text front back apart l is same in
          let told : Some by ≡ Some p.0 = number.each p.0 p.1 p.2 in
          let by_is : p.0 ≡ by = cc in
          let P : ℕ → Type 0 = λ n. IsFiredBy n l in
          fired.each l (subst P by_is p.3) p.4;
    }

-- ---- lines without an end

-- the first byte of a firing is a digit
digit_in_front : (n : ℕ) (rest : List ℕ) → n < 2 ^ 32 → get_or (decimal n ++ rest) 0 0 ≤ 57
digit_in_front n rest small =
    let some = decimal_nonempty n (omega (arith, small)) in
    let digit = digit_at (decimal n) 0 (decimal_is_IsNumeral_wide n (omega (arith, small))).0.1 some in
    rw (get_or_append_left (decimal n) rest 0 0 some) (omega (arith, digit))

pub firing_first : (unit : ℕ) (l : JournalLine) → IsFiring l → get_or (line_text unit l) 0 0 ≤ 57
firing_first unit (line.Head version.One) is = absurd is
firing_first unit (line.Head version.Two) is = absurd is
firing_first unit (line.Steps n) is = absurd is
firing_first unit (line.Line n) is = absurd is
firing_first unit (line.Pid pid) is = rw (← append-nil (decimal pid)) (digit_in_front pid [] is)
firing_first unit (line.Worked pid gas) is = rw (worked_parts pid gas)
    (digit_in_front pid (32 ∷ (codes "work " ++ decimal gas)) is.0)
firing_first unit (line.Fired pid f) is = rw (fired_parts pid f) (digit_in_front pid (32 ∷ form_name f) is.0)
firing_first unit (line.End e) is = absurd is

-- the line of a deposit or a batch
at_each : (unit : ℕ) (rest : List ℕ) (l : JournalLine) → IsShortLine l → codes "line " ++ rest ≡ line_text unit l
    → (n : ℕ) × (n < 2 ^ 32) × (l ≡ line.Line n) × (rest ≡ decimal n)
at_each unit rest (line.Head version.One) is same = absurd (omega (arith, ap (λ t. get_or t 0 0) same))
at_each unit rest (line.Head version.Two) is same = absurd (omega (arith, ap (λ t. get_or t 0 0) same))
at_each unit rest (line.Steps n) is same = absurd (omega (arith, ap (λ t. get_or t 0 0) same))
at_each unit rest (line.Line n) is same = (n, is, refl, ap (λ t. drop 5 t) same)
at_each unit rest (line.Pid pid) is same =
    absurd (omega (arith, firing_first unit (line.Pid pid) is, ap (λ t. get_or t 0 0) same))
at_each unit rest (line.Worked pid gas) is same = absurd
    (omega (arith, firing_first unit (line.Worked pid gas) is, ap (λ t. get_or t 0 0) same))
at_each unit rest (line.Fired pid f) is same = absurd
    (omega (arith, firing_first unit (line.Fired pid f) is, ap (λ t. get_or t 0 0) same))
at_each unit rest (line.End e) is same = absurd is

-- the most firings
steps_each : (unit : ℕ) (rest : List ℕ) (l : JournalLine) → IsShortLine l → codes "steps " ++ rest ≡ line_text unit l
    → (n : ℕ) × (n < 2 ^ 32) × (l ≡ line.Steps n) × (rest ≡ decimal n)
steps_each unit rest (line.Head version.One) is same = absurd (omega (arith, ap (λ t. get_or t 0 0) same))
steps_each unit rest (line.Head version.Two) is same = absurd (omega (arith, ap (λ t. get_or t 0 0) same))
steps_each unit rest (line.Steps n) is same = (n, is, refl, ap (λ t. drop 6 t) same)
steps_each unit rest (line.Line n) is same = absurd (omega (arith, ap (λ t. get_or t 0 0) same))
steps_each unit rest (line.Pid pid) is same = absurd
    (omega (arith, firing_first unit (line.Pid pid) is, ap (λ t. get_or t 0 0) same))
steps_each unit rest (line.Worked pid gas) is same =
    absurd (omega (arith, firing_first unit (line.Worked pid gas) is, ap (λ t. get_or t 0 0) same))
steps_each unit rest (line.Fired pid f) is same = absurd
    (omega (arith, firing_first unit (line.Fired pid f) is, ap (λ t. get_or t 0 0) same))
steps_each unit rest (line.End e) is same = absurd is

pub at_none : (unit : ℕ) (text rest : List ℕ) → text ≡ codes "line " ++ rest → ReadsBits 32 rest None
    → ReadsAs IsShortLine (line_text unit) text None
at_none unit text rest begins reads =
    ReadsAs-none text (λ l is same.
    let n = at_each unit rest l is (sym begins ∙ same) in
    let none = reads.each n.0 n.1 n.3 in
    cc)

pub at_some : (unit : ℕ) (text rest : List ℕ) (n : ℕ) → text ≡ codes "line " ++ rest → ReadsBits 32 rest (Some n)
    → ReadsAs IsShortLine (line_text unit) text (Some (line.Line n))
at_some unit text rest n begins reads =
    record {
      found = (reads.found.0, begins ∙ ap (λ t. codes "line " ++ t) reads.found.1);
      each = λ l is same.
          let m = at_each unit rest l is (sym begins ∙ same) in
          let told : Some n ≡ Some m.0 = reads.each m.0 m.1 m.3 in
          let n_is : n ≡ m.0 = cc in
          ap (λ x. Some (line.Line x)) n_is ∙ ap (λ x. Some x) (sym m.2);
    }

pub steps_none : (unit : ℕ) (text rest : List ℕ) → text ≡ codes "steps " ++ rest → ReadsBits 32 rest None
    → ReadsAs IsShortLine (line_text unit) text None
steps_none unit text rest begins reads =
    ReadsAs-none text (λ l is same.
    let n = steps_each unit rest l is (sym begins ∙ same) in
    let none = reads.each n.0 n.1 n.3 in
    cc)

pub steps_some : (unit : ℕ) (text rest : List ℕ) (n : ℕ) → text ≡ codes "steps " ++ rest → ReadsBits 32 rest (Some n)
    → ReadsAs IsShortLine (line_text unit) text (Some (line.Steps n))
steps_some unit text rest n begins reads =
    record {
      found = (reads.found.0, begins ∙ ap (λ t. codes "steps " ++ t) reads.found.1);
      each = λ l is same.
          let m = steps_each unit rest l is (sym begins ∙ same) in
          let told : Some n ≡ Some m.0 = reads.each m.0 m.1 m.3 in
          let n_is : n ≡ m.0 = cc in
          ap (λ x. Some (line.Steps x)) n_is ∙ ap (λ x. Some x) (sym m.2);
    }

head_each_one : (unit : ℕ) (l : JournalLine) → IsShortLine l → head_text version.One ≡ line_text unit l
    → Some (line.Head version.One) ≡ Some l
head_each_one unit (line.Head version.One) is same = refl
head_each_one unit (line.Head version.Two) is same = absurd (omega (arith, ap (λ t. get_or t 14 0) same))
head_each_one unit (line.Steps n) is same = absurd (omega (arith, ap (λ t. get_or t 0 0) same))
head_each_one unit (line.Line n) is same = absurd (omega (arith, ap (λ t. get_or t 0 0) same))
head_each_one unit (line.Pid pid) is same = absurd
    (omega (arith, firing_first unit (line.Pid pid) is, ap (λ t. get_or t 0 0) same))
head_each_one unit (line.Worked pid gas) is same =
    absurd (omega (arith, firing_first unit (line.Worked pid gas) is, ap (λ t. get_or t 0 0) same))
head_each_one unit (line.Fired pid f) is same = absurd
    (omega (arith, firing_first unit (line.Fired pid f) is, ap (λ t. get_or t 0 0) same))
head_each_one unit (line.End e) is same = absurd is

head_each_two : (unit : ℕ) (l : JournalLine) → IsShortLine l → head_text version.Two ≡ line_text unit l
    → Some (line.Head version.Two) ≡ Some l
head_each_two unit (line.Head version.One) is same = absurd (omega (arith, ap (λ t. get_or t 14 0) same))
head_each_two unit (line.Head version.Two) is same = refl
head_each_two unit (line.Steps n) is same = absurd (omega (arith, ap (λ t. get_or t 0 0) same))
head_each_two unit (line.Line n) is same = absurd (omega (arith, ap (λ t. get_or t 0 0) same))
head_each_two unit (line.Pid pid) is same = absurd
    (omega (arith, firing_first unit (line.Pid pid) is, ap (λ t. get_or t 0 0) same))
head_each_two unit (line.Worked pid gas) is same =
    absurd (omega (arith, firing_first unit (line.Worked pid gas) is, ap (λ t. get_or t 0 0) same))
head_each_two unit (line.Fired pid f) is same = absurd
    (omega (arith, firing_first unit (line.Fired pid f) is, ap (λ t. get_or t 0 0) same))
head_each_two unit (line.End e) is same = absurd is

-- the first line of a text
pub head_reads : (unit : ℕ) (text : List ℕ) (v : Version) → text ≡ head_text v
    → ReadsAs IsShortLine (line_text unit) text (Some (line.Head v))
head_reads unit text version.One e =
    record { found = (tt, e); each = λ l is same. head_each_one unit l is (sym e ∙ same) }
head_reads unit text version.Two e =
    record { found = (tt, e); each = λ l is same. head_each_two unit l is (sym e ∙ same) }

-- what is told of a text that begins with no word
pub record BeginsOtherwise (text : List ℕ) : Type 0 where
  pub at : (rest : List ℕ) → text ≢ codes "line " ++ rest
  pub steps : (rest : List ℕ) → text ≢ codes "steps " ++ rest
  pub one : text ≢ head_text version.One
  pub two : text ≢ head_text version.Two

other_each : (unit : ℕ) (text : List ℕ) (answer : Option JournalLine) → BeginsOtherwise text
    → ReadsAs IsFiring (line_text unit) text answer → (l : JournalLine) → IsShortLine l → text ≡ line_text unit l
    → answer ≡ Some l
other_each unit text answer other reads (line.Head version.One) is same = absurd (other.one same)
other_each unit text answer other reads (line.Head version.Two) is same = absurd (other.two same)
other_each unit text answer other reads (line.Steps n) is same = absurd (other.steps (decimal n) same)
other_each unit text answer other reads (line.Line n) is same = absurd (other.at (decimal n) same)
other_each unit text answer other reads (line.Pid pid) is same = reads.each (line.Pid pid) is same
other_each unit text answer other reads (line.Worked pid gas) is same = reads.each (line.Worked pid gas) is same
other_each unit text answer other reads (line.Fired pid f) is same = reads.each (line.Fired pid f) is same
other_each unit text answer other reads (line.End e) is same = absurd is

-- a firing is no end
IsShortLine-firing : (l : JournalLine) → IsFiring l → IsShortLine l
IsShortLine-firing (line.Head version.One) is = absurd is
IsShortLine-firing (line.Head version.Two) is = absurd is
IsShortLine-firing (line.Steps n) is = absurd is
IsShortLine-firing (line.Line n) is = absurd is
IsShortLine-firing (line.Pid pid) is = is
IsShortLine-firing (line.Worked pid gas) is = is
IsShortLine-firing (line.Fired pid f) is = is
IsShortLine-firing (line.End e) is = absurd is

other_found : (unit : ℕ) (text : List ℕ) (answer : Option JournalLine) → ReadsAs IsFiring (line_text unit) text answer
    → IfSome answer (λ l. IsShortLine l × (text ≡ line_text unit l))
other_found unit text None reads = tt
other_found unit text (Some l) reads = (IsShortLine-firing l reads.found.0, reads.found.1)

-- a firing, or nothing
pub other_reads : (unit : ℕ) (text : List ℕ) (answer : Option JournalLine) → BeginsOtherwise text
    → ReadsAs IsFiring (line_text unit) text answer → ReadsAs IsShortLine (line_text unit) text answer
other_reads unit text answer other reads =
    record { found = other_found unit text answer reads; each = other_each unit text answer other reads }

-- ---- all lines

short_each : (unit : ℕ) (text : List ℕ) (answer : Option JournalLine) → ((rest : List ℕ) → text ≢ codes "end " ++ rest)
    → ReadsAs IsShortLine (line_text unit) text answer → (l : JournalLine) → IsLine l → text ≡ line_text unit l
    → answer ≡ Some l
short_each unit text answer other reads (line.Head version.One) is same = reads.each (line.Head version.One) is same
short_each unit text answer other reads (line.Head version.Two) is same = reads.each (line.Head version.Two) is same
short_each unit text answer other reads (line.Steps n) is same = reads.each (line.Steps n) is same
short_each unit text answer other reads (line.Line n) is same = reads.each (line.Line n) is same
short_each unit text answer other reads (line.Pid pid) is same = reads.each (line.Pid pid) is same
short_each unit text answer other reads (line.Worked pid gas) is same = reads.each (line.Worked pid gas) is same
short_each unit text answer other reads (line.Fired pid f) is same = reads.each (line.Fired pid f) is same
short_each unit text answer other reads (line.End e) is same = absurd (other (end_text unit e) same)

-- a line without an end is one
IsLine-short : (l : JournalLine) → IsShortLine l → IsLine l
IsLine-short (line.Head version.One) is = is
IsLine-short (line.Head version.Two) is = is
IsLine-short (line.Steps n) is = is
IsLine-short (line.Line n) is = is
IsLine-short (line.Pid pid) is = is
IsLine-short (line.Worked pid gas) is = is
IsLine-short (line.Fired pid f) is = is
IsLine-short (line.End e) is = absurd is

short_found : (unit : ℕ) (text : List ℕ) (answer : Option JournalLine)
    → ReadsAs IsShortLine (line_text unit) text answer
    → IfSome answer (λ l. IsLine l × (text ≡ line_text unit l))
short_found unit text None reads = tt
short_found unit text (Some l) reads = (IsLine-short l reads.found.0, reads.found.1)

-- a line without an end, or nothing
pub short_reads : (unit : ℕ) (text : List ℕ) (answer : Option JournalLine)
    → ((rest : List ℕ) → text ≢ codes "end " ++ rest) → ReadsAs IsShortLine (line_text unit) text answer
    → ReadsAs IsLine (line_text unit) text answer
short_reads unit text answer other reads =
    record { found = short_found unit text answer reads; each = short_each unit text answer other reads }

-- an end
end_each : (unit : ℕ) (rest : List ℕ) (l : JournalLine) → IsLine l → codes "end " ++ rest ≡ line_text unit l
    → (e : End) × IsEnd e × (l ≡ line.End e) × (rest ≡ end_text unit e)
end_each unit rest (line.Head version.One) is same = absurd (omega (arith, ap (λ t. get_or t 0 0) same))
end_each unit rest (line.Head version.Two) is same = absurd (omega (arith, ap (λ t. get_or t 0 0) same))
end_each unit rest (line.Steps n) is same = absurd (omega (arith, ap (λ t. get_or t 0 0) same))
end_each unit rest (line.Line n) is same = absurd (omega (arith, ap (λ t. get_or t 0 0) same))
end_each unit rest (line.Pid pid) is same = absurd
    (omega (arith, firing_first unit (line.Pid pid) is, ap (λ t. get_or t 0 0) same))
end_each unit rest (line.Worked pid gas) is same =
    absurd (omega (arith, firing_first unit (line.Worked pid gas) is, ap (λ t. get_or t 0 0) same))
end_each unit rest (line.Fired pid f) is same = absurd
    (omega (arith, firing_first unit (line.Fired pid f) is, ap (λ t. get_or t 0 0) same))
end_each unit rest (line.End e) is same = (e, is, refl, ap (λ t. drop 4 t) same)

pub end_none : (unit : ℕ) (text rest : List ℕ) → text ≡ codes "end " ++ rest → ReadsAs IsEnd (end_text unit) rest None
    → ReadsAs IsLine (line_text unit) text None
end_none unit text rest begins reads =
    ReadsAs-none text (λ l is same.
    let e = end_each unit rest l is (sym begins ∙ same) in
    let none = reads.each e.0 e.1 e.3 in
    cc)

pub end_some : (unit : ℕ) (text rest : List ℕ) (e : End) → text ≡ codes "end " ++ rest
    → ReadsAs IsEnd (end_text unit) rest (Some e) → ReadsAs IsLine (line_text unit) text (Some (line.End e))
end_some unit text rest e begins reads =
    record {
      found = (reads.found.0, begins ∙ ap (λ t. codes "end " ++ t) reads.found.1);
      each = λ l is same.
          let f = end_each unit rest l is (sym begins ∙ same) in
          let told : Some e ≡ Some f.0 = reads.each f.0 f.1 f.3 in
          let e_is : e ≡ f.0 = cc in
          ap (λ x. Some (line.End x)) e_is ∙ ap (λ x. Some x) (sym f.2);
    }

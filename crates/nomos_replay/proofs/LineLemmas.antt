-- The first line of a text is one line.
use Rattle.std.proofs.Common.{◌≡◌, ◌∙◌, ◌<◌, ◌^◌, ℕ, List, [], ◌∷◌, ◌++◌, length, length-append, Some, None, sym, ap, subst, arith}
use Rattle.std.proofs.lemmas.Option.{none-some}
use Rattle.nomos_legal.specs.declared.journal.End.{End}
use Rattle.nomos_printing.specs.ReadAs.{ReadsAs}
use Rattle.nomos_printing.specs.Splitting.{ComesApart, Lacks}
use Rattle.nomos_printing.proofs.SplittingLaws.{Lacks-apart, apart-only}
use Rattle.nomos_journal.specs.Line.{line_text, IsLine}
use Rattle.nomos_journal.specs.declared.line.JournalLine.{JournalLine}
use Rattle.nomos_journal.specs.declared.line.JournalLine.TheVariants as line
use Rattle.nomos_journal.specs.declared.line.Version.{Version}
use Rattle.nomos_journal.specs.declared.line.Version.TheVariants as version
use Rattle.nomos_journal.proofs.LineLaws.{feedless_line, line_text-only}
use Rattle.nomos_replay.specs.Answers.{BeginsWith}
use Rattle.nomos_replay.specs.Stand.{says_fired}

-- a text that begins with a line is not empty
pub some-line : (unit : ℕ) (text : List ℕ) (l : JournalLine) (left : List ℕ) → BeginsWith unit text l left
    → text ≡ [] → ⊥
some-line unit text l left begins none =
    let long : length (line_text unit l ++ 10 ∷ left) ≡ 0 = ap length (sym begins.joined ∙ none) in
    omega (arith, long, length-append (line_text unit l) (10 ∷ left))

-- it begins with one line, and one text is left
pub one-line : (unit : ℕ) → unit < 2 ^ 32 → (text : List ℕ) (l m : JournalLine) (left rest : List ℕ)
    → BeginsWith unit text l left → BeginsWith unit text m rest → (l ≡ m) × (left ≡ rest)
one-line unit small text l m left rest one other =
    let parts = apart-only 10 (line_text unit l) (line_text unit m) left rest (feedless_line unit l small one.is)
    (feedless_line unit m small other.is) (sym one.joined ∙ other.joined) in
    (line_text-only unit small l m one.is other.is parts.0, parts.1)

-- what stands before the first line feed is a line where the text begins with one
pub whole-none : (unit : ℕ) → unit < 2 ^ 32 → (text bytes rest : List ℕ) → ComesApart 10 text bytes rest
    → ReadsAs IsLine (line_text unit) bytes None → (l : JournalLine) (left : List ℕ) → BeginsWith unit text l left → ⊥
whole-none unit small text bytes rest apart none l left begins =
    let parts = apart-only 10 bytes (line_text unit l) rest left apart.lacks (feedless_line unit l small begins.is)
    (sym apart.joined ∙ begins.joined) in
    none-some l (none.each l begins.is parts.0)

-- a text without a line feed begins with no line
pub cut-none : (unit : ℕ) (text : List ℕ) → Lacks 10 text → (l : JournalLine) (left : List ℕ)
    → BeginsWith unit text l left → ⊥
cut-none unit text lacks l left begins =
    Lacks-apart 10 (line_text unit l) left (subst (Lacks 10) begins.joined lacks)

-- no end is a firing
pub end-fires_none : (v : Version) (e : End) (pid : ℕ) → says_fired v (line.End e) ≡ Some pid → ⊥
end-fires_none version.One e pid is = cc
end-fires_none version.Two e pid is = cc

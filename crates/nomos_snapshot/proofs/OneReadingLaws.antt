-- A text tells one thing: a ledger, or its first bad line.
use Rattle.std.proofs.Common.{◌≡◌, ℕ, ◌+◌, List, [], ◌∷◌, length, Option, Some, None, Result, Ok, refl, sym, ◌∙◌, ap, subst, arith, length-append}
use Rattle.nomos_ir.specs.Naming.{NamesAreShort, NamesDiffer}
use Rattle.nomos_ir.specs.declared.lists.ProgramLists.{ProgramLists}
use Rattle.nomos_legal.specs.Ledger.{LedgerState}
use Rattle.nomos_printing.proofs.SplittingLaws.{apart-only}
use Rattle.nomos_types.specs.Acceptance.{Acceptance}
use Rattle.nomos_machine.specs.declared.object.Object.TheVariants as object
use Rattle.nomos_machine.specs.declared.object.Process.{Process}
use Rattle.nomos_snapshot.specs.GatheredLines.{Goes, Stand, at_head, at_next, at_spent, at_unit, behind, ledger_of, no_ledger, process_with, settled, unfinished, with_account, with_channel, with_contract, with_list, with_name, with_objects, with_value}
use Rattle.nomos_snapshot.specs.GatheredLines as gathering
use Rattle.nomos_snapshot.specs.Line.{line_text}
use Rattle.nomos_snapshot.specs.SnapshotReading.{BeginsWith, NoneMayStand, Reads, WantsLine}
use Rattle.nomos_snapshot.specs.SnapshotReading as reading
use Rattle.nomos_snapshot.specs.declared.line.SnapshotLine.{SnapshotLine}
use Rattle.nomos_snapshot.specs.declared.line.SnapshotLine.TheVariants as line
use Rattle.nomos_snapshot.proofs.LineLaws.{line-feedless}
use Rattle.nomos_snapshot.proofs.OneLineLaws.{line_text-only}

-- a text begins with one line
record OneBegin (l m : SnapshotLine) (left right : List ℕ) : Type 0 where
  line : l ≡ m
  rest : left ≡ right

begins-one : (lists : ProgramLists) (text : List ℕ) (l m : SnapshotLine) (left right : List ℕ) → NamesAreShort lists
    → NamesDiffer lists → BeginsWith lists text l left → BeginsWith lists text m right → OneBegin l m left right
begins-one lists text l m left right short differ a b =
    let both = apart-only 10 (line_text lists l) (line_text lists m) left right (line-feedless lists l short a.is)
    (line-feedless lists m short b.is) (sym a.joined ∙ b.joined) in
    record { line = line_text-only lists l m short differ a.is b.is both.0; rest = both.1 }

-- where a line leads
changed : LedgerState → Option Process → (Process → Process) → Stand
changed l (Some p) change = unfinished l (change p)
changed l None change = settled l

led-to : Stand → SnapshotLine → Stand
led-to at_head line.Head = at_unit
led-to at_unit (line.Unit unit) = at_next
led-to at_next (line.Next next_object next_name) = at_spent next_object next_name
led-to (at_spent next_object next_name) (line.Spent dths) = settled (no_ledger next_object next_name dths)
led-to (behind g) (line.Account name dths) = settled (with_account name dths g.ledger)
led-to (behind g) (line.Contract name shared) = settled (with_contract name shared g.ledger)
led-to (behind g) (line.Name name t) = settled (with_name name t g.ledger)
led-to (behind g) (line.Process p) = unfinished (ledger_of g) (process_with p)
led-to (behind g) (line.Value v x) = changed g.ledger g.process (with_value v x)
led-to (behind g) (line.List v amount items) = changed g.ledger g.process (with_list v amount items)
led-to (behind g) (line.Channel v name) = changed g.ledger g.process (with_channel v name)
led-to (behind g) (line.Message m) = settled (with_objects (ledger_of g) (object.Message m ∷ []))
led-to stand l = stand

goes-to : {a : Acceptance} {stand next : Stand} {l : SnapshotLine} → Goes a stand l next → next ≡ led-to stand l
unfolding changed led-to
goes-to gathering.head = refl
goes-to gathering.unit = refl
goes-to (gathering.next o n) = refl
goes-to (gathering.spent o n dths) = refl
goes-to (gathering.account l name dths before new) = refl
goes-to (gathering.contract l name shared before new) = refl
goes-to (gathering.name l name t before over) = refl
goes-to (gathering.process g p over) = refl
goes-to (gathering.value l p v x over) = refl
goes-to (gathering.list l p v amount items over) = refl
goes-to (gathering.channel l p v name over) = refl
goes-to (gathering.message g m over) = refl

-- so from where a text stands a line leads to one place
goes-one : {a : Acceptance} {stand next other : Stand} {l : SnapshotLine} → Goes a stand l next → Goes a stand l other
    → next ≡ other
goes-one one two = goes-to one ∙ sym (goes-to two)

-- a text with a line is not empty
some-begins : (lists : ProgramLists) (l : SnapshotLine) (left : List ℕ) → BeginsWith lists [] l left → ⊥
some-begins lists l left begins =
    let long = ap length begins.joined in
    absurd (omega (arith, long, length-append (line_text lists l) (10 ∷ left)))

pub reads-one : {a : Acceptance} {at : ℕ} {stand : Stand} {text : List ℕ} {x y : Result LedgerState ℕ}
    → NamesAreShort a.program → NamesDiffer a.program → Reads a at stand text x → Reads a at stand text y → x ≡ y
reads-one short differ (reading.ends at g) (reading.ends at2 g2) = refl
reads-one {a} short differ (reading.ends at g) (reading.goes at2 stand next text left l answer begins goes rest) =
    absurd (some-begins a.program l left begins)
reads-one short differ (reading.ends at g) (reading.bad at2 stand text wants none) = absurd (wants refl)
reads-one {a} short differ (reading.goes at stand next text left l answer begins goes rest) (reading.ends at2 g2) =
    absurd (some-begins a.program l left begins)
reads-one {a} short differ (reading.goes at stand next text left l answer begins goes rest)
    (reading.goes at2 stand2 next2 text2 left2 l2 answer2 begins2 goes2 rest2) =
    let one = begins-one a.program text l l2 left left2 short differ begins begins2 in
    let goes_here : Goes a stand l next2 = subst (λ (k : SnapshotLine). Goes a stand k next2) (sym one.line) goes2 in
    let places : next2 ≡ next = goes-one goes_here goes in
    let rest_here : Reads a (at + 1) next left answer2 =
    subst (λ (t : List ℕ). Reads a (at + 1) next t answer2) (sym one.rest)
    (subst (λ (s : Stand). Reads a (at + 1) s left2 answer2) places rest2) in
    reads-one short differ rest rest_here
reads-one short differ (reading.goes at stand next text left l answer begins goes rest)
    (reading.bad at2 stand2 text2 wants none) = absurd (none l left next begins goes)
reads-one short differ (reading.bad at stand text wants none) (reading.ends at2 g2) = absurd (wants refl)
reads-one short differ (reading.bad at stand text wants none)
    (reading.goes at2 stand2 next2 text2 left l answer begins goes rest) = absurd (none l left next2 begins goes)
reads-one short differ (reading.bad at stand text wants none) (reading.bad at2 stand2 text2 wants2 none2) = refl

-- So a text is that of one ledger.
pub text-one : {a : Acceptance} {text : List ℕ} {l k : LedgerState} → NamesAreShort a.program → NamesDiffer a.program
    → Reads a 1 at_head text (Ok l) → Reads a 1 at_head text (Ok k) → l ≡ k
text-one short differ one two = let same = reads-one short differ one two in cc

-- Where a line leads from where a text stands.
use Rattle.std.proofs.Common.{◌≡◌, ◌≢◌, ℕ, List, Bool, true, false, Option, Some, None, Result, Ok, Err, IfOk, refl, ap, sym, subst, ◌∙◌}
use Rattle.std.proofs.lemmas.Bool.{false≢true}
use Rattle.nomos_ir.specs.Naming.{NamesAreShort, NamesDiffer}
use Rattle.nomos_types.specs.Acceptance.{Acceptance}
use Rattle.nomos_snapshot.specs.GatheredLines.{Gathered, Goes, Stand, at_head, at_next, at_spent, at_unit, behind, no_ledger}
use Rattle.nomos_snapshot.specs.GatheredLines as gathering
use Rattle.nomos_snapshot.specs.Line.{IsLine, line_text}
use Rattle.nomos_snapshot.specs.ToldLines.{CannotGo, IsKept, LeadsOn, told}
use Rattle.nomos_snapshot.specs.declared.gathered.Gathering.{Gathering}
use Rattle.nomos_snapshot.specs.declared.line.SnapshotLine.{SnapshotLine}
use Rattle.nomos_snapshot.specs.declared.line.SnapshotLine.TheVariants as line
use Rattle.nomos_snapshot.specs.declared.stand.TextStand.{TextStand}
use Rattle.nomos_snapshot.specs.declared.stand.TextStand.TheVariants as stand
use Rattle.nomos_snapshot.specs.mirror.Stands.{IsLed, IsLedBy, IsStandKept, stand_told}
use Rattle.nomos_snapshot.proofs.GatheringLemmas.{head-only, next-only, spent-only, unit-only}
use Rattle.nomos_snapshot.proofs.TextReadingLemmas.{none-led}

-- the line may stand there, and leads to what is kept
abbrev pub Leads : Acceptance → TextStand → SnapshotLine → TextStand → Type 0
Leads a from l to = Goes a (stand_told from) l (stand_told to) × IsStandKept to

moved : (a : Acceptance) (from from2 : TextStand) (l l2 : SnapshotLine) (to : Stand) → from ≡ from2 → l ≡ l2
    → Goes a (stand_told from2) l2 to → Goes a (stand_told from) l to
moved a from from2 l l2 to is so goes =
    subst (λ (s : TextStand). Goes a (stand_told s) l to) (sym is)
    (subst (λ (k : SnapshotLine). Goes a (stand_told from2) k to) (sym so) goes)

from-there : (a : Acceptance) (from from2 : TextStand) (l : SnapshotLine) (to : Stand) → from ≡ from2
    → Goes a (stand_told from) l to → Goes a (stand_told from2) l to
from-there a from from2 l to is goes = subst (λ (s : TextStand). Goes a (stand_told s) l to) is goes

pub head-led : (a : Acceptance) (from : TextStand) (l : SnapshotLine) → from ≡ stand.Head → l ≡ line.Head
    → Leads a from l stand.Unit
head-led a from l is so = (moved a from stand.Head l line.Head at_unit is so gathering.head, tt)

pub head-none : (a : Acceptance) (from : TextStand) (l : SnapshotLine) → from ≡ stand.Head → l ≢ line.Head
    → CannotGo a (stand_told from) l
head-none a from l is other to goes = other (head-only (from-there a from stand.Head l to is goes))

pub unit-led : (a : Acceptance) (from : TextStand) (l : SnapshotLine) (n : ℕ) → from ≡ stand.Unit → l ≡ line.Unit n
    → n ≡ a.annotations.unit → Leads a from l stand.Next
unit-led a from l n is so same =
    (moved a from stand.Unit l (line.Unit a.annotations.unit) at_next is (so ∙ ap line.Unit same) gathering.unit, tt)

pub unit-none : (a : Acceptance) (from : TextStand) (l : SnapshotLine) → from ≡ stand.Unit
    → l ≢ line.Unit a.annotations.unit → CannotGo a (stand_told from) l
unit-none a from l is other to goes = other (unit-only (from-there a from stand.Unit l to is goes))

pub unit-differs : (l : SnapshotLine) (n m : ℕ) → l ≡ line.Unit n → n ≢ m → l ≢ line.Unit m
unit-differs l n m so differ e =
    let units : line.Unit n ≡ line.Unit m = sym so ∙ e in
    differ cc

pub next-led : (a : Acceptance) (from : TextStand) (l : SnapshotLine) (n m : ℕ) → from ≡ stand.Next → l ≡ line.Next n m
    → Leads a from l (stand.Spent n m)
next-led a from l n m is so = (moved a from stand.Next l (line.Next n m) (at_spent n m) is so (gathering.next n m), tt)

pub next-none : (a : Acceptance) (from : TextStand) (l : SnapshotLine) → from ≡ stand.Next
    → ((n m : ℕ) → l ≢ line.Next n m) → CannotGo a (stand_told from) l
next-none a from l is other to goes = next-only other (from-there a from stand.Next l to is goes)

pub spent-led : (a : Acceptance) (from : TextStand) (l : SnapshotLine) (n m dths : ℕ) (g : Gathering)
    → from ≡ stand.Spent n m → l ≡ line.Spent dths → told g ≡ record { ledger = no_ledger n m dths; process = None }
    → IsKept g → Leads a from l (stand.Behind g)
spent-led a from l n m dths g is so made kept = (
  moved a from (stand.Spent n m) l (line.Spent dths) (behind (told g)) is so
      (subst (λ (k : Gathered). Goes a (at_spent n m) (line.Spent dths) (behind k)) (sym made)
      (gathering.spent n m dths)),
  kept,
)

pub spent-none : (a : Acceptance) (from : TextStand) (l : SnapshotLine) (n m : ℕ) → from ≡ stand.Spent n m
    → ((k : ℕ) → l ≢ line.Spent k) → CannotGo a (stand_told from) l
spent-none a from l n m is other to goes = spent-only other (from-there a from (stand.Spent n m) l to is goes)

pub line-led : (a : Acceptance) (from : TextStand) (l : SnapshotLine) (g h : Gathering) (fits : Bool)
    → from ≡ stand.Behind g → fits ≡ true → LeadsOn l g h fits → Leads a from l (stand.Behind h)
line-led a from l g h true is so leads = (
  moved a from (stand.Behind g) l l (behind (told h)) is refl (leads a).0,
  (leads a).1,
)
line-led a from l g h false is so leads = absurd (false≢true so)

pub line-none : (a : Acceptance) (from : TextStand) (l : SnapshotLine) (g h : Gathering) (fits : Bool)
    → from ≡ stand.Behind g → fits ≡ false → LeadsOn l g h fits → CannotGo a (stand_told from) l
line-none a from l g h false is so leads to goes = leads a to (from-there a from (stand.Behind g) l to is goes)
line-none a from l g h true is so leads to goes = absurd (false≢true (sym so))

-- the text of a line
pub led-by : {E : Type 0} (a : Acceptance) (from : TextStand) (text : List ℕ) (l : SnapshotLine)
    (answer : Result (Option TextStand) E) → NamesAreShort a.program → NamesDiffer a.program → IsLine a.program l
    → text ≡ line_text a.program l → IfOk answer (IsLed a from l) → IfOk answer (IsLedBy a from text)
led-by a from text l (Err e) short differ is written led = tt
led-by a from text l (Ok None) short differ is written led = none-led a from text l short differ is written led
led-by a from text l (Ok (Some to)) short differ is written led =
    record { line = l; is = is; written = written; goes = led.0; kept = led.1 }

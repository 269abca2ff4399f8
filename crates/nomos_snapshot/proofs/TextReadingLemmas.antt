-- A text is read line by line.
use Rattle.std.proofs.Common.{◌≡◌, ◌≢◌, ℕ, ◌+◌, ◌==◌, Bool, true, inl, inr, List, [], ◌∷◌, ◌++◌, length, Ok, Err, refl, ap, sym, subst, ◌∙◌, arith}
use Rattle.std.proofs.lemmas.List.{length-append}
use Rattle.std.proofs.lemmas.Bool.{false≢true}
use Rattle.std.proofs.lemmas.Bool.Decides.{eqb_tells}
use Rattle.nomos_ir.specs.Naming.{NamesAreShort, NamesDiffer}
use Rattle.nomos_printing.specs.Splitting.{ComesApart, Lacks}
use Rattle.nomos_printing.proofs.SplittingLaws.{ComesApart-parts, Lacks-apart}
use Rattle.nomos_types.specs.Acceptance.{Acceptance}
use Rattle.nomos_snapshot.specs.GatheredLines.{Gathered, Stand, at_head, at_next, at_spent, at_unit, behind, ledger_of}
use Rattle.nomos_snapshot.specs.Line.{IsLine, line_text}
use Rattle.nomos_snapshot.specs.SnapshotReading.{NoneMayStand, Reads, WantsLine}
use Rattle.nomos_snapshot.specs.SnapshotReading as reading
use Rattle.nomos_snapshot.specs.declared.line.SnapshotLine.{SnapshotLine}
use Rattle.nomos_snapshot.specs.declared.stand.TextStand.{TextStand}
use Rattle.nomos_snapshot.specs.declared.stand.TextStand.TheVariants as stand
use Rattle.nomos_snapshot.specs.mirror.Stands.{HasRead, LedBy, stand_told}
use Rattle.nomos_snapshot.specs.ToldLines.{CannotGo}
use Rattle.nomos_snapshot.proofs.GatheringLemmas.{none-long}
use Rattle.nomos_snapshot.proofs.LineLaws.{line-feedless}
use Rattle.nomos_snapshot.proofs.OneLineLaws.{line_text-only}

pub nothing-read : (a : Acceptance) (text : List ℕ) → HasRead a text text 1 stand.Head
nothing-read a text = record { kept = tt; tells = λ answer read. read }

-- a line more
pub line-read : (a : Acceptance) (text left line rest : List ℕ) (at : ℕ) (from to : TextStand)
    → HasRead a text left at from → ComesApart 10 left line rest → LedBy a from line to
    → HasRead a text rest (at + 1) to
line-read a text left line rest at from to was apart led = record {
  kept = led.kept;
  tells = λ answer read.
      was.tells answer
      (reading.goes at (stand_told from) (stand_told to) left rest led.line answer
      (record { is = led.is; joined = apart.joined ∙ ap (λ (t : List ℕ). t ++ 10 ∷ rest) led.written }) led.goes read);
}

wants-some : (s : Stand) (text : List ℕ) → text ≢ [] → WantsLine s text
wants-some at_head text some = tt
wants-some at_unit text some = tt
wants-some at_next text some = tt
wants-some (at_spent n m) text some = tt
wants-some (behind g) text some = some

wants-first : (s : Stand) (text : List ℕ) → ((g : Gathered) → s ≢ behind g) → WantsLine s text
wants-first at_head text first = tt
wants-first at_unit text first = tt
wants-first at_next text first = tt
wants-first (at_spent n m) text first = tt
wants-first (behind g) text first = absurd (first g refl)

-- a line that may not stand there
pub bad-read : (a : Acceptance) (text left line rest : List ℕ) (at : ℕ) (from : TextStand) → NamesAreShort a.program
    → HasRead a text left at from → ComesApart 10 left line rest
    → ((l : SnapshotLine) → IsLine a.program l → line ≡ line_text a.program l → CannotGo a (stand_told from) l)
    → Reads a 1 at_head text (Err at)
bad-read a text left line rest at from short was apart none =
    was.tells (Err at)
    (reading.bad at (stand_told from) left
    (wants-some (stand_told from) left
    (λ e. absurd (omega (arith, ap length (sym apart.joined ∙ e), length-append line (10 ∷ rest)))))
    (λ l left_behind next begins.
    let parts = ComesApart-parts 10 left line rest (line_text a.program l) left_behind apart
    (line-feedless a.program l short begins.is) begins.joined in
    none l begins.is parts.0 next))

-- a text without a line feed has no line
unended : (a : Acceptance) (s : Stand) (text : List ℕ) → Lacks 10 text → NoneMayStand a s text
unended a s text lacks l left next begins goes =
    Lacks-apart 10 (line_text a.program l) left (subst (λ (t : List ℕ). Lacks 10 t) begins.joined lacks)

pub unended-read : (a : Acceptance) (text left : List ℕ) (at : ℕ) (from : TextStand) → HasRead a text left at from
    → Lacks 10 left → left ≢ [] → Reads a 1 at_head text (Err at)
unended-read a text left at from was lacks some =
    was.tells (Err at)
    (reading.bad at (stand_told from) left (wants-some (stand_told from) left some)
    (unended a (stand_told from) left lacks))

-- a text that ends before its fifth line
pub short-read : (a : Acceptance) (text left : List ℕ) (at : ℕ) (from : TextStand) → HasRead a text left at from
    → Lacks 10 left → ((g : Gathered) → stand_told from ≢ behind g) → Reads a 1 at_head text (Err at)
short-read a text left at from was lacks first =
    was.tells (Err at)
    (reading.bad at (stand_told from) left (wants-first (stand_told from) left first)
    (unended a (stand_told from) left lacks))

-- a text that ends where it may
pub whole-read : (a : Acceptance) (text left : List ℕ) (at : ℕ) (from : TextStand) (g : Gathered)
    → HasRead a text left at from → left ≡ [] → stand_told from ≡ behind g → Reads a 1 at_head text (Ok (ledger_of g))
whole-read a text left at from g was none ends =
    was.tells (Ok (ledger_of g))
    (subst (λ (s : Stand). Reads a at s left (Ok (ledger_of g))) (sym ends)
    (subst (λ (t : List ℕ). Reads a at (behind g) t (Ok (ledger_of g))) (sym none) (reading.ends at g)))

-- what is written as a line that may not stand there is written as none that may
pub none-led : (a : Acceptance) (from : TextStand) (text : List ℕ) (l : SnapshotLine) → NamesAreShort a.program
    → NamesDiffer a.program → IsLine a.program l → text ≡ line_text a.program l → CannotGo a (stand_told from) l
    → (m : SnapshotLine) → IsLine a.program m → text ≡ line_text a.program m → CannotGo a (stand_told from) m
none-led a from text l short differ is written cannot m also so =
    subst (λ (k : SnapshotLine). CannotGo a (stand_told from) k)
    (line_text-only a.program l m short differ is also (sym written ∙ so)) cannot

-- a text of no bytes
pub empty-text : (text : List ℕ) (is_empty : Bool) → is_empty ≡ (length text == 0) → is_empty ≡ true → text ≡ []
empty-text text is_empty is so = elim (eqb_tells (length text) 0) [
  | inl p ↦ none-long text (λ some. absurd (omega (arith, some, p.1)))
  | inr p ↦ absurd (false≢true (sym p.0 ∙ sym is ∙ so))
]

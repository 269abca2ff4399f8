-- A text has one answer.
use Rattle.std.proofs.Common.{◌≡◌, ◌∙◌, ◌+◌, ◌<◌, ◌≤◌, ◌^◌, ◌++◌, inl, inr, ℕ, List, [], ◌∷◌, Option, Some, None, Result, Err, ⊎_elim, refl, sym, subst, ap, arith}
use Rattle.std.proofs.lemmas.Bool.{cases_lt}
use Rattle.std.proofs.lemmas.Option.{none-some, same_Some}
use Rattle.nomos_ir.specs.declared.fault.Fault.{Fault}
use Rattle.nomos_types.specs.Acceptance.{Acceptance, IsAccepted}
use Rattle.nomos_machine.specs.State.{State}
use Rattle.nomos_machine.specs.Step.{fault, step}
use Rattle.nomos_script.specs.declared.item.ScriptItem.{ScriptItem}
use Rattle.nomos_script.specs.declared.item.ScriptItem.TheVariants as item
use Rattle.nomos_legal.specs.Batch.{after_starts}
use Rattle.nomos_legal.specs.Ending.{EndsAs, GoesOn}
use Rattle.nomos_legal.specs.Ledger.{LedgerState, FitsDeposits}
use Rattle.nomos_legal.specs.StandsFor.{Deposits}
use Rattle.nomos_legal.specs.declared.journal.End.{End}
use Rattle.nomos_legal.specs.declared.journal.End.TheVariants as end
use Rattle.nomos_legal.proofs.UniqueLaws.{all_start-one, ends-one, refuses-one, starts-or_refuses}
use Rattle.nomos_journal.specs.JournalText.{firing_line}
use Rattle.nomos_journal.specs.declared.line.JournalLine.{JournalLine}
use Rattle.nomos_journal.specs.declared.line.JournalLine.TheVariants as line
use Rattle.nomos_journal.specs.declared.line.Version.{Version}
use Rattle.nomos_replay.specs.Answers.{AnswersFrom, BeginsWith, HasNoForm, Reads, WantsLine, max_bytes}
use Rattle.nomos_replay.specs.Answers as answers
use Rattle.nomos_replay.specs.Spoiled.{Finds, Spoils}
use Rattle.nomos_replay.specs.Spoiled as spoiled
use Rattle.nomos_replay.specs.Stand.{Goes, MayStand, Opens, SaysFiring, Stand, UnderWay, fires, says_fired}
use Rattle.nomos_replay.specs.Stand as stand
use Rattle.nomos_replay.specs.Told.{Told}
use Rattle.nomos_replay.specs.declared.error.ReplayError.{ReplayError}
use Rattle.nomos_replay.specs.declared.error.ReplayError.TheVariants as error
use Rattle.nomos_replay.proofs.LineLemmas.{end-fires_none, one-line, some-line}

-- ---- what stands behind a `line`

-- a deposit has one end and leaves one ledger
deposits-one : {a : Acceptance} {l k m : LedgerState} {at units : ℕ} {name : List ℕ} {e f : End}
    → Deposits a l at name units e k → Deposits a l at name units f m → (e ≡ f) × (k ≡ m)
deposits-one {l = l} {units = units} one other =
    ⊎_elim
    (λ (fits : l.deposits + units < 2 ^ 64).
    let (end, after) = one.made fits in
    let (end_other, after_other) = other.made fits in
    (end ∙ sym end_other, after ∙ sym after_other))
    (λ (too_much : 2 ^ 64 ≤ l.deposits + units).
    let never : ¬ FitsDeposits l units = λ fits. omega (arith, fits, too_much) in
    let (end, after) = one.refused never in
    let (end_other, after_other) = other.refused never in
    (end ∙ sym end_other, after ∙ sym after_other))
    (cases_lt (l.deposits + units) (2 ^ 64))

module _ {a : Acceptance} {v : Version} {told : Told} {items : List ScriptItem} where
  opens-one : {i : ScriptItem} {s t : Stand} → Opens a v told items i s → Opens a v told items i t → s ≡ t
  opens-one (stand.deposit at name units own after is) (stand.deposit at2 name2 units2 other after2 is_other) =
      let same = deposits-one is is_other in
      (λ i. stand.owes v told (item.Deposit at name units) at (same.0 i) (same.1 i) items)
  opens-one (stand.refused batch at cause is) (stand.refused batch2 at2 cause2 is_other) =
      let same = refuses-one is is_other in
      (λ i. stand.owes v told (item.Batch batch) batch.line (end.Refused (same.0 i) (same.1 i)) told.ledger items)
  opens-one (stand.started batch starts is) (stand.started batch2 others is_other) =
      let same = all_start-one is is_other in
      (λ i. stand.fires v told
      (record {
        batch = batch;
        starts = same i;
        firings = [];
        state = (after_starts a told.ledger (same i)).state;
      })
      items)
  opens-one (stand.refused batch at cause is) (stand.started batch2 others is_other) =
      absurd (starts-or_refuses is_other is)
  opens-one (stand.started batch starts is) (stand.refused batch2 at2 cause2 is_other) =
      absurd (starts-or_refuses is is_other)

-- ---- lines

says-one : {v : Version} {told : Told} {run : UnderWay} {l : JournalLine} {pid other : ℕ} → SaysFiring v told run l pid
    → SaysFiring v told run l other → pid ≡ other
says-one {pid = pid} {other = other} one two = same_Some pid other (sym one.process ∙ two.process)

-- a line that says a firing is no end
says-no_end : {v : Version} {told : Told} {run : UnderWay} {e : End} {pid : ℕ} → SaysFiring v told run (line.End e) pid
    → ⊥
says-no_end {v} {e = e} {pid = pid} says = end-fires_none v e pid says.process

module _ {a : Acceptance} {first : LedgerState} {all : List ScriptItem} where
  -- a line that is right leads on to one place
  goes-one : {s t u : Stand} {l : JournalLine} → Goes a first all s l t → Goes a first all s l u → t ≡ u
  goes-one (stand.head v) (stand.head w) = refl
  goes-one (stand.steps v limit is) (stand.steps w limit2 is_other) = refl
  goes-one (stand.item_line v told i items at next is opens)
      (stand.item_line w told2 i2 items2 at2 other is_other opens_other) = opens-one opens opens_other
  goes-one (stand.own_end v told i at own after items kept is)
      (stand.own_end w told2 i2 at2 own2 after2 items2 kept2 is_other) = refl
  goes-one (stand.firing v told run items l pid s says steps is)
      (stand.firing w told2 run2 items2 l2 other t says_other steps_other is_other) =
      let same : pid ≡ other = says-one says says_other in
      let next : s ≡ t = same_Some s t (sym steps ∙ ap (step a run.state) same ∙ steps_other) in
      (λ i. stand.fires v told (record run { firings = run.firings ++ same i ∷ []; state = next i }) items)
  goes-one (stand.firing v told run items l pid s says steps is) (stand.batch_end w told2 run2 items2 kept allowed) =
      absurd (says-no_end says)
  goes-one (stand.batch_end v told run items kept allowed) (stand.firing w told2 run2 items2 l pid s says steps is) =
      absurd (says-no_end says)
  goes-one (stand.batch_end v told run items kept allowed) (stand.batch_end w told2 run2 items2 kept2 allowed_other) =
      refl

  -- and has a form
  pub goes-form : {s t : Stand} {l : JournalLine} → Goes a first all s l t → MayStand s l
  goes-form (stand.head v) = stand.head v
  goes-form (stand.steps v limit is) = stand.steps v limit is
  goes-form (stand.item_line v told i items at next is opens) = stand.item_line v told i items at is
  goes-form (stand.own_end v told i at own after items kept is) = stand.own_end v told i at own after items kept
  goes-form (stand.firing v told run items l pid s says steps is) = stand.firing v told run items l pid says
  goes-form (stand.batch_end v told run items kept allowed) = stand.batch_end v told run items kept

-- so does one that spoils the text
pub spoils-form : {a : Acceptance} {at : ℕ} {s : Stand} {l : JournalLine} {e : ReplayError} → Spoils a at s l e
    → MayStand s l
spoils-form (spoiled.not_enabled v told run items l pid says none) = stand.firing v told run items l pid says
spoils-form (spoiled.wrong_firing v told run items l pid s says steps other) = stand.firing v told run items l pid says
spoils-form (spoiled.not_own_end v told i n own after items kept other) =
    stand.own_end v told i n own after items kept
spoils-form (spoiled.not_allowed v told run items kept found not_so finds) = stand.batch_end v told run items kept

-- ---- ends that are found

-- where a state gives an end, the batch does not go on
ends-or_goes_on : (a : Acceptance) (s : State) (count most : ℕ) (e : End) → EndsAs a s count most e
    → GoesOn a s count most → ⊥
ends-or_goes_on a s count most end.Committed ends on = on.0 ends.0
ends-or_goes_on a s count most end.Blocked ends on = on.0 ends.0
ends-or_goes_on a s count most (end.Steps n) ends on = on.1 ends.1
ends-or_goes_on a s count most end.Deposited ends on = ends
ends-or_goes_on a s count most (end.Aborted pid f) ends on = ends
ends-or_goes_on a s count most (end.Refused n cause) ends on = ends

-- the lowest process with a fault is one, and so is its fault
lowest-one : (a : Acceptance) (s : State) (pid other : ℕ) (f g : Fault) → fault a s pid ≡ Some f
    → fault a s other ≡ Some g → ((q : ℕ) → q < pid → fault a s q ≡ None)
    → ((q : ℕ) → q < other → fault a s q ≡ None) → (pid ≡ other) × (f ≡ g)
lowest-one a s pid other f g has has_other lowest lowest_other =
    elim (cases_lt pid other) [
      | inl less ↦ absurd (none-some f (sym (lowest_other pid less) ∙ has))
      | inr least ↦ elim (cases_lt other pid) [
        | inl less ↦ absurd (none-some g (sym (lowest other less) ∙ has_other))
        | inr most ↦
            let same : pid ≡ other = omega (arith, least, most) in
            (same, same_Some f g (sym has ∙ ap (fault a s) same ∙ has_other))
      ]
    ]

finds-one : {a : Acceptance} {s : State} {count most : ℕ} {e f : Option End} → Finds a s count most e
    → Finds a s count most f → e ≡ f
finds-one {a} {s} {count} {most} (spoiled.given e ends) (spoiled.given f ends_other) =
    ap (λ (x : End). Some x) (ends-one a s count most e f ends ends_other)
finds-one {a} {s} {count} {most} (spoiled.given e ends) (spoiled.aborted pid on f has lowest) =
    absurd (ends-or_goes_on a s count most e ends on)
finds-one {a} {s} {count} {most} (spoiled.given e ends) (spoiled.running on none) =
    absurd (ends-or_goes_on a s count most e ends on)
finds-one {a} {s} {count} {most} (spoiled.aborted pid on f has lowest) (spoiled.given e ends) =
    absurd (ends-or_goes_on a s count most e ends on)
finds-one {a} {s} (spoiled.aborted pid on f has lowest) (spoiled.aborted other on_other g has_other lowest_other) =
    let same = lowest-one a s pid other f g has has_other lowest lowest_other in
    (λ i. Some (end.Aborted (same.0 i) (same.1 i)))
finds-one (spoiled.aborted pid on f has lowest) (spoiled.running on_other none) =
    absurd (none-some f (sym (none pid) ∙ has))
finds-one {a} {s} {count} {most} (spoiled.running on none) (spoiled.given e ends) =
    absurd (ends-or_goes_on a s count most e ends on)
finds-one (spoiled.running on none) (spoiled.aborted pid on_other f has lowest) =
    absurd (none-some f (sym (none pid) ∙ has))
finds-one (spoiled.running on none) (spoiled.running on_other none_other) = refl

-- ---- causes

-- a line spoils the text for one cause
spoils-one : {a : Acceptance} {at : ℕ} {s : Stand} {l : JournalLine} {e f : ReplayError} → Spoils a at s l e
    → Spoils a at s l f → e ≡ f
spoils-one {at = at} (spoiled.not_enabled v told run items l pid says none)
    (spoiled.not_enabled w told2 run2 items2 l2 other says_other none_other) =
    ap (λ (n : ℕ). error.NotEnabled at n) (says-one says says_other)
spoils-one {a} (spoiled.not_enabled v told run items l pid says none)
    (spoiled.wrong_firing w told2 run2 items2 l2 other s says_other steps differs) =
    absurd (none-some s (sym none ∙ ap (step a run.state) (says-one says says_other) ∙ steps))
spoils-one (spoiled.not_enabled v told run items l pid says none)
    (spoiled.not_allowed w told2 run2 items2 kept found not_so finds) = absurd (says-no_end says)
spoils-one {a} (spoiled.wrong_firing v told run items l pid s says steps differs)
    (spoiled.not_enabled w told2 run2 items2 l2 other says_other none) =
    absurd (none-some s (sym none ∙ ap (step a run.state) (says-one says_other says) ∙ steps))
spoils-one {at = at} (spoiled.wrong_firing v told run items l pid s says steps differs)
    (spoiled.wrong_firing w told2 run2 items2 l2 other t says_other steps_other differs_other) =
    ap (λ (n : ℕ). error.WrongFiring at n) (says-one says says_other)
spoils-one (spoiled.wrong_firing v told run items l pid s says steps differs)
    (spoiled.not_allowed w told2 run2 items2 kept found not_so finds) = absurd (says-no_end says)
spoils-one (spoiled.not_own_end v told i n own after items kept other)
    (spoiled.not_own_end w told2 i2 n2 own2 after2 items2 kept2 other2) = refl
spoils-one (spoiled.not_allowed v told run items kept found not_so finds)
    (spoiled.not_enabled w told2 run2 items2 l pid says none) = absurd (says-no_end says)
spoils-one (spoiled.not_allowed v told run items kept found not_so finds)
    (spoiled.wrong_firing w told2 run2 items2 l pid s says steps differs) = absurd (says-no_end says)
spoils-one {at = at} (spoiled.not_allowed v told run items kept found not_so finds)
    (spoiled.not_allowed w told2 run2 items2 kept2 other not_so_other finds_other) =
    ap (λ (e : Option End). error.WrongEnd at kept e) (finds-one finds finds_other)

-- a line that is right spoils nothing
goes-or_spoils : {a : Acceptance} {first : LedgerState} {all : List ScriptItem} {at : ℕ} {s t : Stand} {l : JournalLine}
    {e : ReplayError}
    → Goes a first all s l t → Spoils a at s l e → ⊥
goes-or_spoils (stand.head v) spoils = elim spoils [ ]
goes-or_spoils (stand.steps v limit is) spoils = elim spoils [ ]
goes-or_spoils (stand.item_line v told i items at next is opens) spoils = elim spoils [ ]
goes-or_spoils {a} (stand.firing v told run items l pid s says steps is)
    (spoiled.not_enabled w told2 run2 items2 l2 other says_other none) =
    none-some s (sym none ∙ ap (step a run.state) (says-one says_other says) ∙ steps)
goes-or_spoils {a} (stand.firing v told run items l pid s says steps is)
    (spoiled.wrong_firing w told2 run2 items2 l2 other t says_other steps_other differs) =
    differs (ap (firing_line v a run.state) (says-one says_other says) ∙ is)
goes-or_spoils (stand.firing v told run items l pid s says steps is)
    (spoiled.not_allowed w told2 run2 items2 kept found not_so finds) = says-no_end says
goes-or_spoils (stand.own_end v told i at own after items kept is)
    (spoiled.not_own_end w told2 i2 n2 own2 after2 items2 kept2 other) = other is
goes-or_spoils (stand.batch_end v told run items kept allowed)
    (spoiled.not_allowed w told2 run2 items2 kept2 found not_so finds) = not_so allowed
goes-or_spoils (stand.batch_end v told run items kept allowed)
    (spoiled.not_enabled w told2 run2 items2 l pid says none) = says-no_end says
goes-or_spoils (stand.batch_end v told run items kept allowed)
    (spoiled.wrong_firing w told2 run2 items2 l pid s says steps differs) = says-no_end says

-- ---- texts

-- no line is right at a `show`
show-none : {a : Acceptance} {first : LedgerState} {all : List ScriptItem} {v : Version} {told : Told} {n : ℕ}
    {items : List ScriptItem}
    {l : JournalLine} {next : Stand} → Goes a first all (stand.before v told (item.Show n ∷ items)) l next → ⊥
show-none (stand.item_line v told i items at next is opens) = none-some at is

module _ {a : Acceptance} (small : a.annotations.unit < 2 ^ 32) {first : LedgerState} {all : List ScriptItem} where
  reads-one : {at : ℕ} {s : Stand} {text : List ℕ} {x y : Result Told ReplayError} → Reads a first all at s text x
      → Reads a first all at s text y → x ≡ y
  reads-one (answers.ends at v told) (answers.ends at2 w told2) = refl
  reads-one (answers.ends at v told) (answers.goes at2 s next text left l answer begins goes rest) =
      absurd (some-line a.annotations.unit [] l left begins refl)
  reads-one (answers.ends at v told) (answers.spoils at2 s text left l cause begins spoils) =
      absurd (some-line a.annotations.unit [] l left begins refl)
  reads-one (answers.ends at v told) (answers.bad at2 s text wants none) = absurd (wants refl)
  reads-one (answers.shows at v told n items text answer rest)
      (answers.shows at2 w told2 n2 items2 text2 other rest_other) = reads-one rest rest_other
  reads-one (answers.shows at v told n items text answer rest)
      (answers.goes at2 s next text2 left l other begins goes rest_other) = absurd (show-none goes)
  reads-one (answers.shows at v told n items text answer rest)
      (answers.spoils at2 s text2 left l cause begins spoils) = elim spoils [ ]
  reads-one (answers.shows at v told n items text answer rest) (answers.bad at2 s text2 wants none) = absurd wants
  reads-one (answers.goes at s next text left l answer begins goes rest) (answers.ends at2 w told2) =
      absurd (some-line a.annotations.unit [] l left begins refl)
  reads-one (answers.goes at s next text left l answer begins goes rest)
      (answers.shows at2 w told n items text2 other rest_other) = absurd (show-none goes)
  reads-one (answers.goes at s next text left l answer begins goes rest)
      (answers.goes at2 s2 next2 text2 left2 m other begins_other goes_other rest_other) =
      let (same, back) = one-line a.annotations.unit small text m l left2 left begins_other begins in
      let place : next2 ≡ next = goes-one (subst (λ (x : JournalLine). Goes a first all s x next2) same goes_other)
      goes in
      reads-one rest
      (subst (λ (t : List ℕ). Reads a first all (at + 1) next t other) back
      (subst (λ (x : Stand). Reads a first all (at + 1) x left2 other) place rest_other))
  reads-one (answers.goes at s next text left l answer begins goes rest)
      (answers.spoils at2 s2 text2 left2 m cause begins_other spoils) =
      let (same, back) = one-line a.annotations.unit small text m l left2 left begins_other begins in
      absurd (goes-or_spoils goes (subst (λ (x : JournalLine). Spoils a at s x cause) same spoils))
  reads-one (answers.goes at s next text left l answer begins goes rest) (answers.bad at2 s2 text2 wants none) =
      absurd (none l left begins (goes-form goes))
  reads-one (answers.spoils at s text left l cause begins spoils) (answers.ends at2 w told2) =
      absurd (some-line a.annotations.unit [] l left begins refl)
  reads-one (answers.spoils at s text left l cause begins spoils)
      (answers.shows at2 w told n items text2 other rest_other) = elim spoils [ ]
  reads-one (answers.spoils at s text left l cause begins spoils)
      (answers.goes at2 s2 next2 text2 left2 m other begins_other goes_other rest_other) =
      let (same, back) = one-line a.annotations.unit small text m l left2 left begins_other begins in
      absurd (goes-or_spoils (subst (λ (x : JournalLine). Goes a first all s x next2) same goes_other) spoils)
  reads-one (answers.spoils at s text left l cause begins spoils)
      (answers.spoils at2 s2 text2 left2 m cause2 begins_other spoils_other) =
      let (same, back) = one-line a.annotations.unit small text m l left2 left begins_other begins in
      ap (λ (e : ReplayError). Err e)
      (spoils-one spoils (subst (λ (x : JournalLine). Spoils a at s x cause2) same spoils_other))
  reads-one (answers.spoils at s text left l cause begins spoils) (answers.bad at2 s2 text2 wants none) =
      absurd (none l left begins (spoils-form spoils))
  reads-one (answers.bad at s text wants none) (answers.ends at2 w told2) = absurd (wants refl)
  reads-one (answers.bad at s text wants none) (answers.shows at2 w told n items text2 other rest_other) = absurd wants
  reads-one (answers.bad at s text wants none) (answers.goes at2 s2 next2 text2 left2 m other begins goes rest) =
      absurd (none m left2 begins (goes-form goes))
  reads-one (answers.bad at s text wants none) (answers.spoils at2 s2 text2 left2 m cause begins spoils) =
      absurd (none m left2 begins (spoils-form spoils))
  reads-one (answers.bad at s text wants none) (answers.bad at2 s2 text2 wants_other none_other) = refl

-- A text has one answer.
pub answers-one : {a : Acceptance} → IsAccepted a → {first : LedgerState} {items : List ScriptItem} {text : List ℕ}
    {x y : Result Told ReplayError} → AnswersFrom a first items text x → AnswersFrom a first items text y → x ≡ y
answers-one accepted (answers.too_long over) (answers.too_long over_other) = refl
answers-one accepted (answers.too_long over) (answers.reads answer within reads) = absurd (omega (arith, over, within))
answers-one accepted (answers.reads answer within reads) (answers.too_long over) = absurd (omega (arith, over, within))
answers-one {a} accepted (answers.reads answer within reads) (answers.reads other within_other reads_other) =
    let small : a.annotations.unit < 2 ^ 32 = omega (arith, accepted.small_unit) in
    reads-one small reads reads_other

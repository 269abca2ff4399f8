-- Of a contract that is not accepted one thing is told, and nothing of one that is.
use Rattle.std.proofs.Common.{◌≡◌, ◌∙◌, ◌⊎◌, inl, inr, ℕ, List, Err, refl, sym, ap, subst}
use Rattle.nomos_accept.specs.AcceptedText.{Answers, IsAcceptedAs, IsCauseOf, PivotRunEndsWith, found_amounts}
use Rattle.nomos_accept.specs.declared.why.AcceptError.{AcceptError}
use Rattle.nomos_accept.specs.declared.why.AcceptError.TheVariants as error
use Rattle.nomos_answers.specs.Outside.{Input}
use Rattle.nomos_ir.specs.declared.lists.ProgramLists.{ProgramLists}
use Rattle.nomos_simplex.specs.declared.solved.Solved.TheVariants as solved
use Rattle.nomos_simplex.specs.declared.solved.Stop.{Stop}
use Rattle.nomos_top.proofs.OneAnswerLaws.{one-answer}
use Rattle.nomos_top.specs.Outcome as outcome
use Rattle.nomos_top.specs.Outcome.{IsUnaccepted}
use Rattle.nomos_top.specs.Refusal.{unsolved_line}
use Rattle.nomos_top.specs.TaskRuns.{HasStopped}
use Rattle.nomos_types.specs.Acceptance.{Acceptance}
use Rattle.nomos_words.specs.Words.{check}

-- ---- of one text

-- the pivot run does not stop on what is accepted
accepted-no_stop : (text : List ℕ) (a : Acceptance) (stop : Stop) → IsAcceptedAs text a → HasStopped text stop → ⊥
accepted-no_stop text a stop is (lists, read, unsolved) =
    let one = one-answer text in
    let same : lists ≡ a.program = one.reads_once lists a.program read is.typed.read in
    let ends : PivotRunEndsWith a.program (solved.Unsolved stop) =
    subst (λ (p : ProgramLists). PivotRunEndsWith p (solved.Unsolved stop)) same unsolved.ends in
    let both : solved.Found (found_amounts a.annotations) ≡ solved.Unsolved stop =
    one.one_end a.program (solved.Found (found_amounts a.annotations)) (solved.Unsolved stop) is.typed.read is.run ends
    in
    cc

-- it stops once
stop-one : (text : List ℕ) (s u : Stop) → HasStopped text s → HasStopped text u → s ≡ u
stop-one text s u (lists, read, unsolved) (others, reads, stops) =
    let one = one-answer text in
    let same : others ≡ lists = one.reads_once others lists reads read in
    let ends : PivotRunEndsWith lists (solved.Unsolved u) =
    subst (λ (p : ProgramLists). PivotRunEndsWith p (solved.Unsolved u)) same stops.ends in
    let both : solved.Unsolved s ≡ solved.Unsolved u =
    one.one_end lists (solved.Unsolved s) (solved.Unsolved u) read unsolved.ends ends in
    cc

-- a text of which an error is true is not accepted
pub error-none : (text : List ℕ) (e : AcceptError) → Answers text (Err e) → (e ≡ error.NoMemory → ⊥) → (a : Acceptance)
    → ¬ (IsAcceptedAs text a)
error-none text (error.Refused why) answers known a is = answers.never a.program a.annotations is.typed
error-none text (error.Unsolved stop) answers known a is = accepted-no_stop text a stop is answers
error-none text error.NoMemory answers known a is = known refl

-- ---- what is due

-- one thing is due, or a source failed
abbrev pub OneRefusal : ℕ → List ℕ → ℕ → List ℕ → Type 0
OneRefusal status out other also = ((status ≡ other) × (out ≡ also)) ⊎ ((status ≡ 5) ⊎ (other ≡ 5))

pub refusal-one : (text file word : List ℕ) (x y : Input) → x.text ≡ text → y.text ≡ text → (status : ℕ)
    (out : List ℕ) (other : ℕ) (also : List ℕ) → IsUnaccepted (check file) x status out
    → IsUnaccepted (check word) y other also → OneRefusal status out other also
refusal-one text file word x y here there status out other also (outcome.fault reads rose) two = inr (inl refl)
refusal-one text file word x y here there status out other also (outcome.refused why is) (outcome.fault reads rose) =
    inr (inr refl)
refusal-one text file word x y here there status out other also (outcome.refused why is) (outcome.refused cause was) =
    let one = one-answer x.text in
    inl (
      refl,
      one.one_refusal why cause is.cause
          (subst (λ (t : List ℕ). IsCauseOf t cause) (there ∙ sym here) was.cause),
    )
refusal-one text file word x y here there status out other also (outcome.refused why is) (outcome.unsolved stop was) =
    let one = one-answer x.text in
    absurd ((one.caused_goes_on why stop is.cause).0
    (subst (λ (t : List ℕ). HasStopped t stop) (there ∙ sym here) was))
refusal-one text file word x y here there status out other also (outcome.unsolved stop is) (outcome.fault reads rose) =
    inr (inr refl)
refusal-one text file word x y here there status out other also (outcome.unsolved stop is) (outcome.refused why was) =
    let one = one-answer y.text in
    absurd ((one.caused_goes_on why stop was.cause).0
    (subst (λ (t : List ℕ). HasStopped t stop) (here ∙ sym there) is))
refusal-one text file word x y here there status out other also (outcome.unsolved stop is)
    (outcome.unsolved stops was) =
    inl (
      refl,
      ap unsolved_line (stop-one x.text stop stops is
          (subst (λ (t : List ℕ). HasStopped t stops) (there ∙ sym here) was)),
    )

-- of what is accepted the contract alone can fail
pub accepted-fault : (file : List ℕ) (x : Input) (a : Acceptance) (status : ℕ) (out : List ℕ) → IsAcceptedAs x.text a
    → IsUnaccepted (check file) x status out → status ≡ 5
accepted-fault file x a status out is (outcome.fault reads rose) = refl
accepted-fault file x a status out is (outcome.refused why was) = absurd (was.never a.program a.annotations is.typed)
accepted-fault file x a status out is (outcome.unsolved stop was) = absurd (accepted-no_stop x.text a stop is was)

-- what is accepted is accepted as one
pub accepted-one : (text : List ℕ) (a b : Acceptance) → IsAcceptedAs text a → IsAcceptedAs text b → a ≡ b
accepted-one text a b = (one-answer text).accepted_once a b

-- Of a text of which a cause is true nothing is accepted, and neither run stops on it; nor on a text that is accepted,
-- which is accepted once.
use Rattle.std.proofs.Common.{◌≡◌, ℕ, List, ap, sym, subst, ◌∙◌}
use Rattle.nomos_accept.proofs.AcceptLaws.{one-program}
use Rattle.nomos_accept.proofs.NeverLaws.{cause-refutes}
use Rattle.nomos_accept.proofs.RowListLaws.{ends-once}
use Rattle.nomos_accept.specs.AcceptedText.{IsAcceptedAs, IsCauseOf, PivotRunEndsWith, found_amounts}
use Rattle.nomos_accept.specs.TypedText.{IsReadAs}
use Rattle.nomos_accept.specs.declared.why.Why.{Why}
use Rattle.nomos_forms.specs.declared.found.Found.{Found}
use Rattle.nomos_forms.specs.declared.verdict.Verdict.{Verdict}
use Rattle.nomos_ir.specs.declared.lists.ProgramLists.{ProgramLists}
use Rattle.nomos_least.proofs.OneLeastLaws.{least_ends-once}
use Rattle.nomos_least.specs.LeastBounds.{IsLeastAs, LeastRunEndsWith}
use Rattle.nomos_least.specs.declared.least.LeastBounds.{LeastBounds}
use Rattle.nomos_simplex.specs.LeastRun.{LeastRun, refuted as least_refuted}
use Rattle.nomos_simplex.specs.declared.solved.Solved.TheVariants as solved
use Rattle.nomos_simplex.specs.declared.solved.SolvedLeast.TheVariants as least_solved
use Rattle.nomos_simplex.specs.declared.solved.Stop.{Stop}
use Rattle.nomos_top.specs.TaskRuns.{IsGivenFor, HasStopped, HasLeastStopped, HasStoppedFor}
use Rattle.nomos_types.specs.Acceptance.{Acceptance, acceptance}
use Rattle.nomos_types.specs.Amount.{Annotations}
use Rattle.nomos_types.specs.Typed.{IsTypedProgram}
use Rattle.nomos_words.specs.Words.{Task, check, run, replay, bench, least, pool, talk, save, resume}

-- ---- what a cause rules out

-- A text of which a cause is true, and that reads as a program that is typed under some amounts, skeletons too, is
-- refused for its potential: the pivot run on the rows of the program ends with weights.
cause-refuted : (text : List ℕ) (v : Why) (lists : ProgramLists) (x : Annotations) → IsCauseOf text v
    → IsReadAs text lists → IsTypedProgram lists x
    → (verdict : Verdict) × PivotRunEndsWith lists (solved.Refuted verdict)
cause-refuted text v lists x cause read typed =
    let (verdict, refuted) = cause-refutes text v lists x cause read typed in (verdict, refuted.ends)

-- ---- the ends of the two runs

-- the least run ends as the pivot run does where that ends with weights
least-refuted : (lists : ProgramLists) (verdict : Verdict) → PivotRunEndsWith lists (solved.Refuted verdict)
    → LeastRunEndsWith lists (least_solved.Refuted verdict)
least-refuted lists verdict ends =
    record { rows = ends.rows; are_rows = ends.are_rows; run = least_refuted verdict ends.run }

-- the least run of least bounds
bounds-end : (text : List ℕ) (b : LeastBounds) → IsLeastAs text b
    → LeastRunEndsWith b.accepted.program (least_solved.Found (found_amounts b.accepted.annotations) b.proof)
bounds-end text b h = record {
  rows = b.rows;
  are_rows = h.are_rows;
  run =
      subst (λ goal. LeastRun b.rows goal (least_solved.Found (found_amounts b.accepted.annotations) b.proof)) h.goal
      h.run;
}

-- the pivot run stops on the one program of a text
pub stops : (text : List ℕ) (lists : ProgramLists) (stop : Stop) → IsReadAs text lists → HasStopped text stop
    → PivotRunEndsWith lists (solved.Unsolved stop)
stops text lists stop read stopped =
    subst (λ (p : ProgramLists). PivotRunEndsWith p (solved.Unsolved stop))
    (one-program text stopped.0 lists stopped.1 read)
    stopped.2.ends

-- so does the least run
pub least-stops : (text : List ℕ) (lists : ProgramLists) (stop : Stop) → IsReadAs text lists
    → HasLeastStopped text stop → LeastRunEndsWith lists (least_solved.Unsolved stop)
least-stops text lists stop read stopped =
    subst (λ (p : ProgramLists). LeastRunEndsWith p (least_solved.Unsolved stop))
    (one-program text stopped.0 lists stopped.1 read)
    stopped.2.ends

-- ---- so they exclude one another

-- a text with a cause has no stop
pub cause-no_stop : (text : List ℕ) (v : Why) (stop : Stop) → IsCauseOf text v → ¬ (HasStopped text stop)
cause-no_stop text v stop cause (lists, read, unsolved) =
    let (verdict, ends) = cause-refuted text v lists _ cause read unsolved.skeletons in
    let same : solved.Unsolved stop ≡ solved.Refuted verdict =
    ends-once lists (solved.Unsolved stop) (solved.Refuted verdict) unsolved.ends ends in
    absurd cc

pub cause-no_least_stop : (text : List ℕ) (v : Why) (stop : Stop) → IsCauseOf text v → ¬ (HasLeastStopped text stop)
cause-no_least_stop text v stop cause (lists, read, unsolved) =
    let (verdict, ends) = cause-refuted text v lists _ cause read unsolved.skeletons in
    let same : least_solved.Unsolved stop ≡ least_solved.Refuted verdict =
    least_ends-once lists (least_solved.Unsolved stop) (least_solved.Refuted verdict) unsolved.ends
    (least-refuted lists verdict ends) in
    absurd cc

pub cause-no_stop_for : (task : Task) (text : List ℕ) (v : Why) (stop : Stop) → IsCauseOf text v
    → ¬ (HasStoppedFor task text stop)
cause-no_stop_for (check file) text v stop cause stopped = cause-no_stop text v stop cause stopped
cause-no_stop_for (run file script by steps journal) text v stop cause stopped = cause-no_stop text v stop cause stopped
cause-no_stop_for (replay file script journal) text v stop cause stopped = cause-no_stop text v stop cause stopped
cause-no_stop_for (bench seed bidders) text v stop cause stopped = cause-no_stop text v stop cause stopped
cause-no_stop_for (pool file script threads) text v stop cause stopped = cause-no_stop text v stop cause stopped
cause-no_stop_for (talk file script name proc words) text v stop cause stopped = cause-no_stop text v stop cause stopped
cause-no_stop_for (save file script snapshot) text v stop cause stopped = cause-no_stop text v stop cause stopped
cause-no_stop_for (resume file snapshot script) text v stop cause stopped = cause-no_stop text v stop cause stopped
cause-no_stop_for (least file) text v stop cause stopped = cause-no_least_stop text v stop cause stopped

-- what is accepted has no cause
pub accepted-no_cause : (text : List ℕ) (a : Acceptance) (v : Why) → IsAcceptedAs text a → ¬ (IsCauseOf text v)
accepted-no_cause text a v h cause =
    let (verdict, ends) = cause-refuted text v a.program a.annotations cause h.typed.read h.typed.typed in
    let same : solved.Found (found_amounts a.annotations) ≡ solved.Refuted verdict =
    ends-once a.program (solved.Found (found_amounts a.annotations)) (solved.Refuted verdict) h.run ends in
    absurd cc

pub least-no_cause : (text : List ℕ) (b : LeastBounds) (v : Why) → IsLeastAs text b → ¬ (IsCauseOf text v)
least-no_cause text b v h cause =
    let a = b.accepted in
    let (verdict, ends) = cause-refuted text v a.program a.annotations cause h.typed.read h.typed.typed in
    let same : least_solved.Found (found_amounts a.annotations) b.proof ≡ least_solved.Refuted verdict =
    least_ends-once a.program (least_solved.Found (found_amounts a.annotations) b.proof) (least_solved.Refuted verdict)
    (bounds-end text b h) (least-refuted a.program verdict ends) in
    absurd cc

pub given-no_cause : (task : Task) (text : List ℕ) (a : Acceptance) (v : Why) → IsGivenFor task text a
    → ¬ (IsCauseOf text v)
given-no_cause (check file) text a v is cause = accepted-no_cause text a v is cause
given-no_cause (run file script by steps journal) text a v is cause = accepted-no_cause text a v is cause
given-no_cause (replay file script journal) text a v is cause = accepted-no_cause text a v is cause
given-no_cause (bench seed bidders) text a v is cause = accepted-no_cause text a v is cause
given-no_cause (pool file script threads) text a v is cause = accepted-no_cause text a v is cause
given-no_cause (talk file script name proc words) text a v is cause = accepted-no_cause text a v is cause
given-no_cause (save file script snapshot) text a v is cause = accepted-no_cause text a v is cause
given-no_cause (resume file snapshot script) text a v is cause = accepted-no_cause text a v is cause
given-no_cause (least file) text a v is cause = least-no_cause text is.0 v is.2 cause

-- where the pivot run accepts it has not stopped, and where there are least bounds the least run has not
accepted-no_stop : (text : List ℕ) (a : Acceptance) (stop : Stop) → IsAcceptedAs text a → ¬ (HasStopped text stop)
accepted-no_stop text a stop h stopped =
    let same : solved.Found (found_amounts a.annotations) ≡ solved.Unsolved stop =
    ends-once a.program (solved.Found (found_amounts a.annotations)) (solved.Unsolved stop) h.run
    (stops text a.program stop h.typed.read stopped) in
    absurd cc

least-no_stop : (text : List ℕ) (b : LeastBounds) (stop : Stop) → IsLeastAs text b → ¬ (HasLeastStopped text stop)
least-no_stop text b stop h stopped =
    let a = b.accepted in
    let same : least_solved.Found (found_amounts a.annotations) b.proof ≡ least_solved.Unsolved stop =
    least_ends-once a.program (least_solved.Found (found_amounts a.annotations) b.proof) (least_solved.Unsolved stop)
    (bounds-end text b h) (least-stops text a.program stop h.typed.read stopped) in
    absurd cc

pub given-no_stop : (task : Task) (text : List ℕ) (a : Acceptance) (stop : Stop) → IsGivenFor task text a
    → ¬ (HasStoppedFor task text stop)
given-no_stop (check file) text a stop is stopped = accepted-no_stop text a stop is stopped
given-no_stop (run file script by steps journal) text a stop is stopped = accepted-no_stop text a stop is stopped
given-no_stop (replay file script journal) text a stop is stopped = accepted-no_stop text a stop is stopped
given-no_stop (bench seed bidders) text a stop is stopped = accepted-no_stop text a stop is stopped
given-no_stop (pool file script threads) text a stop is stopped = accepted-no_stop text a stop is stopped
given-no_stop (talk file script name proc words) text a stop is stopped = accepted-no_stop text a stop is stopped
given-no_stop (save file script snapshot) text a stop is stopped = accepted-no_stop text a stop is stopped
given-no_stop (resume file snapshot script) text a stop is stopped = accepted-no_stop text a stop is stopped
given-no_stop (least file) text a stop is stopped = least-no_stop text is.0 stop is.2 stopped

-- ---- and what is accepted is one

-- a program under these amounts
with_amounts : ProgramLists → Found → Acceptance
with_amounts lists found = acceptance lists found.stars found.unit

amounts-one : (a b : Acceptance) → a.program ≡ b.program
    → found_amounts a.annotations ≡ found_amounts b.annotations → a ≡ b
unfolding with_amounts
amounts-one a b programs amounts =
    ap (λ (p : ProgramLists). with_amounts p (found_amounts a.annotations)) programs
    ∙ ap (λ (x : Found). with_amounts b.program x) amounts

pub accepted-one : (text : List ℕ) (a b : Acceptance) → IsAcceptedAs text a → IsAcceptedAs text b → a ≡ b
accepted-one text a b h k =
    let programs = one-program text a.program b.program h.typed.read k.typed.read in
    let ends : PivotRunEndsWith b.program (solved.Found (found_amounts a.annotations)) =
    subst (λ (p : ProgramLists). PivotRunEndsWith p (solved.Found (found_amounts a.annotations))) programs h.run in
    let same : solved.Found (found_amounts a.annotations) ≡ solved.Found (found_amounts b.annotations) =
    ends-once b.program (solved.Found (found_amounts a.annotations)) (solved.Found (found_amounts b.annotations)) ends
    k.run in
    amounts-one a b programs cc

-- least bounds are one, with the weights that show them
pub least-same : (text : List ℕ) (b c : LeastBounds) → IsLeastAs text b → IsLeastAs text c
    → (b.accepted ≡ c.accepted) × (b.proof ≡ c.proof)
least-same text b c h k =
    let x = b.accepted in
    let y = c.accepted in
    let programs = one-program text x.program y.program h.typed.read k.typed.read in
    let ends : LeastRunEndsWith y.program (least_solved.Found (found_amounts x.annotations) b.proof) =
    subst (λ (p : ProgramLists). LeastRunEndsWith p (least_solved.Found (found_amounts x.annotations) b.proof)) programs
    (bounds-end text b h) in
    let same : least_solved.Found (found_amounts x.annotations) b.proof
    ≡ least_solved.Found (found_amounts y.annotations) c.proof =
    least_ends-once y.program (least_solved.Found (found_amounts x.annotations) b.proof)
    (least_solved.Found (found_amounts y.annotations) c.proof) ends (bounds-end text c k) in
    (amounts-one x y programs cc, cc)

pub given-one : (task : Task) (text : List ℕ) (a b : Acceptance) → IsGivenFor task text a → IsGivenFor task text b
    → a ≡ b
given-one (check file) text a b h k = accepted-one text a b h k
given-one (run file script by steps journal) text a b h k = accepted-one text a b h k
given-one (replay file script journal) text a b h k = accepted-one text a b h k
given-one (bench seed bidders) text a b h k = accepted-one text a b h k
given-one (pool file script threads) text a b h k = accepted-one text a b h k
given-one (talk file script name proc words) text a b h k = accepted-one text a b h k
given-one (save file script snapshot) text a b h k = accepted-one text a b h k
given-one (resume file snapshot script) text a b h k = accepted-one text a b h k
given-one (least file) text a b h k = sym h.1 ∙ (least-same text h.0 k.0 h.2 k.2).0 ∙ k.1

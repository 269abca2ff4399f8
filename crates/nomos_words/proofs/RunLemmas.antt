-- What the words behind `run` ask for.
use Rattle.std.proofs.Common.{◌≡◌, ℕ, List, [], ◌∷◌, get_or, drop, Some, None, IfSome, refl, sym, ap, subst, ◌∙◌, arith}
use Rattle.std.specs.Prelude.{codes}
use Rattle.std.proofs.lemmas.Option.{same_Some}
use Rattle.nomos_words.specs.FindsOne.{FindsOne}
use Rattle.nomos_words.specs.Options.{AreSteps, AreWorkers, IsFileWord}
use Rattle.nomos_words.specs.Words.{Asks, Task, check, run, replay, bench, least, pool, talk, save, resume}
use Rattle.nomos_words.specs.mirror.GivenOptions.{AreGiven, OptionValues, given_by}
use Rattle.nomos_words.specs.declared.workers.Workers.{Workers}
use Rattle.nomos_words.proofs.FindsOneLaws.{FindsOne-none, FindsOne-some}

-- what the words say that ask for a task, which is a run
record RunSays (file script : List ℕ) (behind : List (List ℕ)) (task : Task) : Type 0 where
  pub given : OptionValues
  pub are_given : AreGiven behind given
  pub is_file : IsFileWord file
  pub is_script : IsFileWord script
  pub is_journal : IfSome given.journal IsFileWord
  pub workers : Workers
  pub are_workers : AreWorkers given.workers given.policy workers
  pub steps : ℕ
  pub are_steps : AreSteps given.steps steps
  pub task_is : task ≡ run file script workers steps given.journal

run_says : (file script : List ℕ) (behind : List (List ℕ)) (task : Task)
    → Asks (codes "run" ∷ file ∷ script ∷ behind) task → RunSays file script behind task
run_says file script behind (run f s workers steps journal) (is, asks) =
    let none : List ℕ = [] in
    let same_file : file ≡ f = ap (λ ws. get_or ws 0 none) asks.are in
    let same_script : script ≡ s = ap (λ ws. get_or ws 1 none) asks.are in
    let same_behind : behind ≡ asks.behind = ap (λ ws. drop 2 ws) asks.are in
    record {
      given = given_by asks.options;
      are_given =
          subst (λ ws. AreGiven ws (given_by asks.options)) (sym same_behind) (asks.options, asks.are_options, refl);
      is_file = subst IsFileWord (sym same_file) asks.is_file;
      is_script = subst IsFileWord (sym same_script) asks.is_script;
      is_journal = subst (λ j. IfSome j IsFileWord) asks.journal_is asks.journal_is_file;
      workers = workers;
      are_workers = asks.workers_are;
      steps = steps;
      are_steps = asks.steps_are;
      task_is =
          ap (λ x. run x s workers steps journal) (sym same_file)
          ∙ ap (λ x. run file x workers steps journal) (sym same_script)
          ∙ ap (λ x. run file script workers steps x) asks.journal_is;
    }
run_says file script behind (check f) (is, asks) = absurd (omega (arith, ap (λ w. get_or w 0 0) is))
run_says file script behind (replay f s j) (is, asks) = absurd (omega (arith, ap (λ w. get_or w 1 0) is))
run_says file script behind (bench s b) (is, asks) = absurd (omega (arith, ap (λ w. get_or w 0 0) is))
run_says file script behind (least f) (is, asks) = absurd (omega (arith, ap (λ w. get_or w 0 0) is))
run_says file script behind (pool f s n) (is, asks) = absurd (omega (arith, ap (λ w. get_or w 0 0) is))
run_says file script behind (talk f s n p t) (is, asks) = absurd (omega (arith, ap (λ w. get_or w 0 0) is))
run_says file script behind (save f s n) (is, asks) = absurd (omega (arith, ap (λ w. get_or w 0 0) is))
run_says file script behind (resume f n s) (is, asks) = absurd (omega (arith, ap (λ w. get_or w 1 0) is))

-- the words behind are no options
pub run_without_options : (file script : List ℕ) (behind : List (List ℕ)) → FindsOne (AreGiven behind) None
    → FindsOne (Asks (codes "run" ∷ file ∷ script ∷ behind)) None
run_without_options file script behind none =
    FindsOne-none (λ task asks.
    let s = run_says file script behind task asks in
    let some = none.each s.given s.are_given in cc)

-- they are options that name no workers
pub run_without_workers : (file script : List ℕ) (behind : List (List ℕ)) (given : OptionValues)
    → FindsOne (AreGiven behind) (Some given) → FindsOne (AreWorkers given.workers given.policy) None
    → FindsOne (Asks (codes "run" ∷ file ∷ script ∷ behind)) None
run_without_workers file script behind given gives none =
    FindsOne-none (λ task asks.
    let s = run_says file script behind task asks in
    let same : s.given ≡ given = sym (same_Some given s.given (gives.each s.given s.are_given)) in
    let some = none.each s.workers (subst (λ g. AreWorkers g.workers g.policy s.workers) same s.are_workers) in cc)

-- or no number of firings
pub run_without_steps : (file script : List ℕ) (behind : List (List ℕ)) (given : OptionValues)
    → FindsOne (AreGiven behind) (Some given) → FindsOne (AreSteps given.steps) None
    → FindsOne (Asks (codes "run" ∷ file ∷ script ∷ behind)) None
run_without_steps file script behind given gives none =
    FindsOne-none (λ task asks.
    let s = run_says file script behind task asks in
    let same : s.given ≡ given = sym (same_Some given s.given (gives.each s.given s.are_given)) in
    let some = none.each s.steps (subst (λ g. AreSteps g.steps s.steps) same s.are_steps) in cc)

-- or some word is no file
pub run_without_files : (file script : List ℕ) (behind : List (List ℕ)) (given : OptionValues)
    → FindsOne (AreGiven behind) (Some given)
    → (IsFileWord file → IsFileWord script → IfSome given.journal IsFileWord → ⊥)
    → FindsOne (Asks (codes "run" ∷ file ∷ script ∷ behind)) None
run_without_files file script behind given gives none =
    FindsOne-none (λ task asks.
    let s = run_says file script behind task asks in
    let same : s.given ≡ given = sym (same_Some given s.given (gives.each s.given s.are_given)) in
    none s.is_file s.is_script (subst (λ g. IfSome g.journal IsFileWord) same s.is_journal))

-- otherwise they ask for a run
pub run_found : (file script : List ℕ) (behind : List (List ℕ)) (given : OptionValues) (workers : Workers) (steps : ℕ)
    → FindsOne (AreGiven behind) (Some given) → FindsOne (AreWorkers given.workers given.policy) (Some workers)
    → FindsOne (AreSteps given.steps) (Some steps)
    → IsFileWord file → IsFileWord script → IfSome given.journal IsFileWord
    → FindsOne (Asks (codes "run" ∷ file ∷ script ∷ behind)) (Some (run file script workers steps given.journal))
run_found file script behind given workers steps gives crew most is_file is_script is_journal =
    let options = gives.found in
    let is : given ≡ given_by options.0 = options.2 in
    FindsOne-some (run file script workers steps given.journal) (
      refl,
      record {
        behind = behind;
        options = options.0;
        are = refl;
        is_file = is_file;
        is_script = is_script;
        are_options = options.1;
        workers_are = subst (λ g. AreWorkers g.workers g.policy workers) is crew.found;
        steps_are = subst (λ g. AreSteps g.steps steps) is most.found;
        journal_is = ap (λ g. g.journal) is;
        journal_is_file = is_journal;
      },
    )
    (λ task asks.
    let s = run_says file script behind task asks in
    let same : s.given ≡ given = sym (same_Some given s.given (gives.each s.given s.are_given)) in
    let same_workers = crew.each s.workers (subst (λ g. AreWorkers g.workers g.policy s.workers) same s.are_workers) in
    let same_steps = most.each s.steps (subst (λ g. AreSteps g.steps s.steps) same s.are_steps) in
    ap (λ t. Some t)
    (ap (λ w. run file script w steps given.journal) (same_Some workers s.workers same_workers)
    ∙ ap (λ n. run file script s.workers n given.journal) (same_Some steps s.steps same_steps)
    ∙ ap (λ g. run file script s.workers s.steps g.journal) (sym same) ∙ sym s.task_is))

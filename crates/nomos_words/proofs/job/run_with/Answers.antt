-- The options are gathered, and each of them is looked at.
use Rattle.std.proofs.Common.{map, string_bytes, refl}
use Rattle.std.proofs.lemmas.Bool.{false≢true}
use Rattle.nomos_words.specs.mirror.GivenOptions.{option_values}
use Rattle.nomos_words.proofs.RunLemmas.{run_without_options, run_without_workers, run_without_steps, run_without_files, run_found}
use Rattle.nomos_words.proofs.job.run_with.Goals as goal
use Rattle.nomos_words.proofs.job.run_with.Goals.{else-is_file_word-via-then-is_file_word+then-is_file_word-2+else-is_journal as by_journal, else-is_file_word-via-then-is_file_word+else-is_file_word-2 as by_script, else-is_file_word-via-else-is_file_word as by_file}

pub returns-in_err-given : goal.returns-in_err-given
returns-in_err-given c =
    let behind = map string_bytes c.args.options.now in
    rw c.from_residual.ensures
    (run_without_options c.args.file.now c.args.script.now behind c.in_err-given.ensures)

pub returns-in_err-workers : goal.returns-in_err-workers
returns-in_err-workers c =
    let behind = map string_bytes c.args.options.now in
    rw c.from_residual-in_err-workers.ensures
    (run_without_workers c.args.file.now c.args.script.now behind (option_values c.in_ok-given.given)
    c.in_ok-given.ensures c.in_err-workers.ensures)

pub returns-in_err-steps : goal.returns-in_err-steps
returns-in_err-steps c =
    let behind = map string_bytes c.args.options.now in
    rw c.from_residual-in_err-steps.ensures
    (run_without_steps c.args.file.now c.args.script.now behind (option_values c.in_ok-given.given)
    c.in_ok-given.ensures c.in_err-steps.ensures)

pub returns-then-is_journal : goal.returns-then-is_journal
returns-then-is_journal c =
    let behind = map string_bytes c.args.options.now in
    run_found c.args.file.now c.args.script.now behind (option_values c.in_ok-given.given) c.in_ok-workers.workers
    c.in_ok-steps.steps c.in_ok-given.ensures c.in_ok-workers.ensures c.in_ok-steps.ensures
    (c.if-is_file_word.ensures.0 refl) (c.if-is_file_word-2.ensures.0 refl) (c.if-is_journal.ensures.0 refl)

pub returns-else-is_file_word : goal.returns-else-is_file_word
returns-else-is_file_word c =
    let behind = map string_bytes c.args.options.now in
    run_without_files c.args.file.now c.args.script.now behind (option_values c.in_ok-given.given) c.in_ok-given.ensures
    (λ is_file is_script is_journal. elim c.else-is_file_word.branch [
      | by_journal w ↦ absurd (false≢true (w.if-is_journal.ensures.1 is_journal))
      | by_script w ↦ absurd (false≢true (w.if-is_file_word-2.ensures.1 is_script))
      | by_file w ↦ absurd (false≢true (w.if-is_file_word.ensures.1 is_file))
    ])

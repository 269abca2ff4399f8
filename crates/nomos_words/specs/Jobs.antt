-- The task of a job.
use Rattle.std.specs.Option.{option_map}
use Rattle.nomos_words.specs.declared.job.Job.{Job}
use Rattle.nomos_words.specs.declared.job.Job.TheVariants as job
use Rattle.nomos_words.specs.Words.{Task, check, run, replay, bench, least, pool, talk, save, resume}

abbrev pub task : Job → Task
task (job.Check file) = check file.now
task (job.Run file script workers steps journal) =
    run file.now script.now workers steps (option_map (λ word. word.now) journal)
task (job.Replay file script journal) = replay file.now script.now journal.now
task (job.Bench seed bidders) = bench seed bidders
task (job.Least file) = least file.now
task (job.Pool file script threads) = pool file.now script.now threads
task (job.Talk file script name proc text) = talk file.now script.now name.now proc.now text.now
task (job.Save file script snapshot) = save file.now script.now snapshot.now
task (job.Resume file snapshot script) = resume file.now snapshot.now script.now

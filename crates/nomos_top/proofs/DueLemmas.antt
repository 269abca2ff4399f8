-- What is due, from what the parts of the code found.
use Rattle.std.proofs.Common.{◌≡◌, ℕ, ◌<◌, List, length, Option, Some, None, Result, Ok, Err, inl, inr, refl, sym, ◌∙◌, subst, arith}
use Rattle.std.specs.Prelude.{IfOk, IfErr}
use Rattle.nomos_accept.specs.AcceptedText.{IsAcceptedAs, IsRefused}
use Rattle.nomos_accept.specs.declared.why.Why.TheVariants as why
use Rattle.nomos_answers.proofs.SourceLemmas.{some_text}
use Rattle.nomos_answers.specs.Benches.{IsBenchDue, IsBenchPart, load_contract}
use Rattle.nomos_answers.specs.Outside.{HasText, HaveRisen, SourceState}
use Rattle.nomos_answers.specs.Replays.{no_journal}
use Rattle.nomos_answers.specs.RunsDue.{IsRunDue, IsRunPart, usual_orders}
use Rattle.nomos_answers.specs.Sources.{IsPoolDueFor, IsPoolPartFor, IsReplayDueFor, IsResumeDueFor, IsResumePartFor, IsRunDueFor, IsRunPartFor, IsSaveDueFor, IsTalkDueFor, kept_text}
use Rattle.nomos_answers.specs.declared.due.Due.{Due}
use Rattle.nomos_answers.specs.declared.pools.PoolDue.{PoolDue}
use Rattle.nomos_answers.specs.declared.pools.PoolPart.{PoolPart}
use Rattle.nomos_least.specs.LeastBounds.{IsLeastAs}
use Rattle.nomos_least.specs.declared.least.LeastBounds.{LeastBounds}
use Rattle.nomos_legal.specs.declared.journal.Journal.{Journal}
use Rattle.nomos_report.specs.Block.{accepted_block}
use Rattle.nomos_run.specs.declared.orders.Orders.{Orders}
use Rattle.nomos_simplex.specs.declared.solved.Stop.{Stop}
use Rattle.nomos_ir.specs.Limits.{text_limit}
use Rattle.nomos_top.specs.Call.{HasEnded}
use Rattle.nomos_top.specs.Seen.{Call, Texts}
use Rattle.nomos_top.specs.LeastBlock.{least_block}
use Rattle.nomos_top.specs.Outcome as outcome
use Rattle.nomos_top.specs.Outcome.{Outcome, IsTaskDue, bare, given}
use Rattle.nomos_top.specs.Refusal.{refusal, unsolved_line}
use Rattle.nomos_top.specs.TaskRuns.{HasStopped, HasStoppedFor, bench_orders, limit_of, run_orders}
use Rattle.nomos_top.specs.Tasks.{AskNothing, ReadsContract, contract_of}
use Rattle.nomos_top.specs.declared.call_due.CallDue.{CallDue}
use Rattle.nomos_top.specs.declared.call_due.DoneSoFar.{DoneSoFar}
use Rattle.nomos_top.specs.declared.judging.Unaccepted.{Unaccepted}
use Rattle.nomos_top.specs.declared.judging.Unaccepted.TheVariants as unaccepted
use Rattle.nomos_top.specs.mirror.Judging.{IsAgainst, Judges, JudgesText, IsDueOn, IsDueOut, IsNothing, IsPartOn, IsTaskDueOn, IsTaskPartOn, EndsDue, EndsPart, IsPooledBehind, IsPooledBehindPart, Sources, behind_of, given_of, inputs_on, outcome_of, pooled_behind_of, taken_of}
use Rattle.nomos_types.specs.Acceptance.{Acceptance, IsAccepted}
use Rattle.nomos_words.specs.FindsOne.{FindsOne}
use Rattle.nomos_words.specs.Usage.{usage_line}
use Rattle.nomos_words.specs.Words.{Task, check, run, replay, bench, least, pool, talk, save, resume, Asks}
use Rattle.nomos_words.specs.declared.workers.Workers.{Workers}

-- ---- texts

-- A contract that is too long is refused for that: no text that reads is so long.
pub too_long-refused : (text : List ℕ) → text_limit < length text → IsRefused text why.TooLong
too_long-refused text long = record {
  cause = long;
  never = λ lists x typed.
      absurd (let short = typed.read.reads.plain.length_limit in omega (arith, long, short));
}

-- ---- contracts

-- what stands against a text does so where reading may have failed
against-more : (Stops : Stop → Type 0) (Fails : Type 0) (text : List ℕ) (u : Unaccepted) → IsAgainst Stops ⊥ text u
    → IsAgainst Stops Fails text u
against-more Stops Fails text (unaccepted.Refused why) is = is
against-more Stops Fails text (unaccepted.Unsolved stop) is = is
against-more Stops Fails text unaccepted.ReadFault is = absurd is
against-more Stops Fails text unaccepted.NoMemory is = is

-- what is found of a text is found of its source
pub judged : (source : SourceState) (text : List ℕ) (r : Result Acceptance Unaccepted) → HasText source.left text
    → JudgesText text r → Judges source r
judged source text (Ok a) told is = (text, told, is)
judged source text (Err u) told is =
    (text, told, against-more (HasStopped text) (HaveRisen source.counts) text u is)

-- ---- results

-- what is due behind acceptance, with the program
pub behind-ok : (a : Acceptance) (due : Result Due Journal) (P : Due → Type 0) → IfOk due P
    → IfOk (behind_of a due) (λ d. P d.due)
behind-ok a (Ok d) P h = h
behind-ok a (Err j) P h = tt

pub behind-err : (a : Acceptance) (due : Result Due Journal) (P : Journal → Type 0) → IfErr due P
    → IfErr (behind_of a due) (λ part. P part.journal)
behind-err a (Ok d) P h = tt
behind-err a (Err j) P h = h

pub behind-given : (a : Acceptance) (due : Result Due Journal) → given_of (behind_of a due) ≡ Some a
behind-given a (Ok d) = refl
behind-given a (Err j) = refl

pub behind-untaken : (a : Acceptance) (due : Result Due Journal) → taken_of (behind_of a due) ≡ None
behind-untaken a (Ok d) = refl
behind-untaken a (Err j) = refl

-- the same where threads submit
pub pooled-ok : (a : Acceptance) (threads : ℕ) (script : SourceState) (due : Result PoolDue PoolPart)
    → IfOk due (IsPoolDueFor a threads script) → IfOk (pooled_behind_of a due) (IsPooledBehind a threads script)
pooled-ok a threads script (Ok p) h = record { pool = p; is = h; due = refl; taken = refl }
pooled-ok a threads script (Err p) h = tt

pub pooled-err : (a : Acceptance) (threads : ℕ) (script : SourceState) (due : Result PoolDue PoolPart)
    → IfErr due (IsPoolPartFor a threads script) → IfErr (pooled_behind_of a due) (IsPooledBehindPart a threads script)
pooled-err a threads script (Ok p) h = tt
pooled-err a threads script (Err p) h = record { pool = p; is = h; journal = refl; taken = refl }

pub pooled-given : (a : Acceptance) (due : Result PoolDue PoolPart) → given_of (pooled_behind_of a due) ≡ Some a
pooled-given a (Ok p) = refl
pooled-given a (Err p) = refl

-- two facts of a value
pub if_ok-both : {X E : Type 0} (r : Result X E) (P Q : X → Type 0) → IfOk r P → IfOk r Q → IfOk r (λ x. P x × Q x)
if_ok-both (Ok x) P Q h k = (h, k)
if_ok-both (Err e) P Q h k = tt

-- with the program that is given
pub ok-given : (r : Result CallDue DoneSoFar) (a : Acceptance) (P Q : CallDue → Type 0) → given_of r ≡ Some a
    → taken_of r ≡ None → ((d : CallDue) → d.accepted ≡ Some a → d.taken ≡ None → P d → Q d) → IfOk r P → IfOk r Q
ok-given (Ok d) a P Q gives untaken f h = f d gives untaken h
ok-given (Err e) a P Q gives untaken f h = tt

pub err-given : (r : Result CallDue DoneSoFar) (a : Acceptance) (P Q : DoneSoFar → Type 0) → given_of r ≡ Some a
    → taken_of r ≡ None
    → ((part : DoneSoFar) → part.accepted ≡ Some a → part.taken ≡ None → P part → Q part) → IfErr r P → IfErr r Q
err-given (Ok d) a P Q gives untaken f h = tt
err-given (Err e) a P Q gives untaken f h = f e gives untaken h

-- the same where something may be taken
pub ok-pooled : (r : Result CallDue DoneSoFar) (a : Acceptance) (P Q : CallDue → Type 0) → given_of r ≡ Some a
    → ((d : CallDue) → d.accepted ≡ Some a → P d → Q d) → IfOk r P → IfOk r Q
ok-pooled (Ok d) a P Q gives f h = f d gives h
ok-pooled (Err e) a P Q gives f h = tt

pub err-pooled : (r : Result CallDue DoneSoFar) (a : Acceptance) (P Q : DoneSoFar → Type 0) → given_of r ≡ Some a
    → ((part : DoneSoFar) → part.accepted ≡ Some a → P part → Q part) → IfErr r P → IfErr r Q
err-pooled (Ok d) a P Q gives f h = tt
err-pooled (Err e) a P Q gives f h = f e gives h

-- where nothing was done nothing is given
pub given-some : (r : Result CallDue DoneSoFar) (a : Acceptance) {A : Type 0} → given_of r ≡ Some a → given_of r ≡ None
    → A
given-some r a gives none = absurd (let both : Some a ≡ None = sym gives ∙ none in cc)

-- ---- contracts that are not accepted

module _ (s : Sources) where
  -- the contract has this text, the others some
  abbrev pub texts_with : List ℕ → Texts
  texts_with text = record {
    contract = text;
    script = (some_text s.script.left).0;
    third = (some_text s.third.left).0;
  }

  -- what is due for this text of the contract
  pub due-with : (task : Task) (text : List ℕ) (d : CallDue) (o : Outcome) → HasText s.contract.left text
      → outcome_of d ≡ o → IsTaskDue (inputs_on s (texts_with text)) task o → IsTaskDueOn s task d
  due-with task text d o told same due = record {
    texts = texts_with text;
    contract_told = told;
    script_told = (some_text s.script.left).1;
    third_told = (some_text s.third.left).1;
    holds = subst (λ (x : Outcome). IsTaskDue (inputs_on s (texts_with text)) task x) (sym same) due;
  }

  pub due-out : (task : Task) (text : List ℕ) (Fails : Type 0) (u : Unaccepted) (d : CallDue)
      → HasText s.contract.left text → (Fails → ReadsContract task × HaveRisen s.contract.counts)
      → IsAgainst (HasStoppedFor task (contract_of task text)) Fails (contract_of task text) u
      → IsDueOut (limit_of task) u d → IsTaskDueOn s task d
  due-out task text Fails (unaccepted.Refused why) d told fails is out =
      due-with task text d (bare 1 (refusal why) (limit_of task)) told out
      (outcome.unaccepted task 1 (refusal why) (outcome.refused why is))
  due-out task text Fails (unaccepted.Unsolved stop) d told fails is out =
      due-with task text d (bare 8 (unsolved_line stop) (limit_of task)) told out
      (outcome.unaccepted task 8 (unsolved_line stop) (outcome.unsolved stop is))
  due-out task text Fails unaccepted.ReadFault d told fails is out =
      due-with task text d (bare 5 _ (limit_of task)) told out
      (outcome.unaccepted task 5 _ (outcome.fault (fails is).0 (fails is).1))
  due-out task text Fails unaccepted.NoMemory d told fails is out = absurd out

  -- nothing was done
  pub part-nothing : (task : Task) (part : DoneSoFar) → IsNothing (limit_of task) part → IsTaskPartOn s task part
  part-nothing task part none =
      let t = some_text s.contract.left in
      record {
        texts = texts_with t.0;
        contract_told = t.1;
        script_told = (some_text s.script.left).1;
        third_told = (some_text s.third.left).1;
        holds = rw (none.accepted, none.journal, none.taken) (outcome.nothing task);
      }

  -- ---- contracts alone

  pub due-checked : (file text : List ℕ) (a : Acceptance) (d : CallDue) → HasText s.contract.left text
      → IsAcceptedAs text a → outcome_of d ≡ given 0 (accepted_block a) None a no_journal
      → IsTaskDueOn s (check file) d
  due-checked file text a d told is same =
      due-with (check file) text d (given 0 (accepted_block a) None a no_journal) told same (outcome.checked file a is)

  pub due-bounded : (file text : List ℕ) (b : LeastBounds) (d : CallDue) → HasText s.contract.left text
      → IsLeastAs text b → outcome_of d ≡ given 0 (least_block b) None b.accepted no_journal
      → IsTaskDueOn s (least file) d
  due-bounded file text b d told is same =
      due-with (least file) text d (given 0 (least_block b) None b.accepted no_journal) told same
      (outcome.bounded file b is)

  -- ---- scripts

  pub due-run : (file words : List ℕ) (by : Workers) (steps : ℕ) (kept : Option (List ℕ)) (orders : Orders)
      (text : List ℕ)
      (a : Acceptance) (d : CallDue) → HasText s.contract.left text → IsAcceptedAs text a → d.accepted ≡ Some a
      → d.taken ≡ None → orders ≡ run_orders by steps kept → IsRunDueFor a orders s.script d.due
      → IsTaskDueOn s (run file words by steps kept) d
  due-run file words by steps kept orders text a d told is gives untaken same due =
      let own = subst
      (λ (o : Orders). IsRunDue a o (record { text = due.text; counts = s.script.counts }) d.due.status d.due.out.items
      (kept_text d.due) d.due.journal) same due.is in
      record {
        texts = record { contract = text; script = due.text; third = (some_text s.third.left).0 };
        contract_told = told;
        script_told = due.told;
        third_told = (some_text s.third.left).1;
        holds =
            rw (gives, untaken) (outcome.ran file words by steps kept a d.due.status d.due.out.items (kept_text d.due)
            d.due.journal is own);
      }

  pub part-run : (file words : List ℕ) (by : Workers) (steps : ℕ) (kept : Option (List ℕ)) (orders : Orders)
      (text : List ℕ)
      (a : Acceptance) (part : DoneSoFar) → HasText s.contract.left text → IsAcceptedAs text a
      → part.accepted ≡ Some a → part.taken ≡ None
      → orders ≡ run_orders by steps kept → IsRunPartFor a orders s.script part.journal
      → IsTaskPartOn s (run file words by steps kept) part
  part-run file words by steps kept orders text a part told is gives untaken same done =
      let own = subst
      (λ (o : Orders). IsRunPart a o (record { text = done.text; counts = s.script.counts }) part.journal) same
      done.is in
      record {
        texts = record { contract = text; script = done.text; third = (some_text s.third.left).0 };
        contract_told = told;
        script_told = done.told;
        third_told = (some_text s.third.left).1;
        holds = rw (gives, untaken) (outcome.run_part file words by steps kept a part.journal is own);
      }

  pub due-replay : (file script journal text : List ℕ) (a : Acceptance) (d : CallDue) → HasText s.contract.left text
      → IsAcceptedAs text a → d.accepted ≡ Some a → d.taken ≡ None → IsReplayDueFor a s.script s.third d.due
      → IsTaskDueOn s (replay file script journal) d
  due-replay file script journal text a d told is gives untaken due = record {
    texts = record { contract = text; script = due.script_text; third = due.text };
    contract_told = told;
    script_told = due.script_told;
    third_told = due.told;
    holds =
        rw (gives, untaken, due.nothing_kept)
        (outcome.replayed file script journal a d.due.status d.due.out.items d.due.journal is due.is);
  }

  pub part-replay : (file script journal text : List ℕ) (a : Acceptance) (part : DoneSoFar)
      → HasText s.contract.left text → IsAcceptedAs text a → part.accepted ≡ Some a → part.taken ≡ None
      → part.journal ≡ no_journal
      → IsTaskPartOn s (replay file script journal) part
  part-replay file script journal text a part told is gives untaken none = record {
    texts = texts_with text;
    contract_told = told;
    script_told = (some_text s.script.left).1;
    third_told = (some_text s.third.left).1;
    holds = rw (gives, untaken, none) (outcome.replay_part file script journal a is);
  }

  pub due-bench : (seed bidders : ℕ) (a : Acceptance) (d : CallDue) → IsAcceptedAs load_contract a
      → d.accepted ≡ Some a → d.taken ≡ None → kept_text d.due ≡ None
      → IsBenchDue a bench_orders (record { seed = seed; bidders = bidders }) d.due.status d.due.out.items d.due.journal
      → IsTaskDueOn s (bench seed bidders) d
  due-bench seed bidders a d is gives untaken none due =
      let t = some_text s.contract.left in
      record {
        texts = texts_with t.0;
        contract_told = t.1;
        script_told = (some_text s.script.left).1;
        third_told = (some_text s.third.left).1;
        holds =
            rw (gives, untaken, none) (outcome.benched seed bidders a d.due.status d.due.out.items d.due.journal is
            due);
      }

  pub part-bench : (seed bidders : ℕ) (a : Acceptance) (part : DoneSoFar) → IsAcceptedAs load_contract a
      → part.accepted ≡ Some a → part.taken ≡ None
      → IsBenchPart a bench_orders (record { seed = seed; bidders = bidders }) part.journal
      → IsTaskPartOn s (bench seed bidders) part
  part-bench seed bidders a part is gives untaken done =
      let t = some_text s.contract.left in
      record {
        texts = texts_with t.0;
        contract_told = t.1;
        script_told = (some_text s.script.left).1;
        third_told = (some_text s.third.left).1;
        holds = rw (gives, untaken) (outcome.bench_part seed bidders a part.journal is done);
      }

  -- ---- scripts whose single lines threads submit

  pub due-pool : (file words : List ℕ) (threads : ℕ) (text : List ℕ) (a : Acceptance) (d : CallDue)
      → HasText s.contract.left text → IsAcceptedAs text a → d.accepted ≡ Some a → IsPooledBehind a threads s.script d
      → IsTaskDueOn s (pool file words threads) d
  due-pool file words threads text a d told is gives made =
      let due = made.is in
      record {
        texts = record { contract = text; script = due.text; third = (some_text s.third.left).0 };
        contract_told = told;
        script_told = due.told;
        third_told = (some_text s.third.left).1;
        holds =
            rw (gives, made.taken, made.due, due.nothing_kept)
            (outcome.pooled file words threads a made.pool.due.status made.pool.due.out.items made.pool.due.journal
            made.pool.taken is due.is);
      }

  pub part-pool : (file words : List ℕ) (threads : ℕ) (text : List ℕ) (a : Acceptance) (part : DoneSoFar)
      → HasText s.contract.left text → IsAcceptedAs text a → part.accepted ≡ Some a
      → IsPooledBehindPart a threads s.script part → IsTaskPartOn s (pool file words threads) part
  part-pool file words threads text a part told is gives made =
      let done = made.is in
      record {
        texts = record { contract = text; script = done.text; third = (some_text s.third.left).0 };
        contract_told = told;
        script_told = done.told;
        third_told = (some_text s.third.left).1;
        holds =
            rw (gives, made.journal, made.taken)
            (outcome.pool_part file words threads a made.pool.journal made.pool.taken is done.is);
      }

  -- ---- talks

  pub due-talk : (file words name proc talk_file text : List ℕ) (a : Acceptance) (d : CallDue)
      → HasText s.contract.left text → IsAcceptedAs text a → d.accepted ≡ Some a → d.taken ≡ None
      → IsTalkDueFor a name proc s.script s.third d.due → IsTaskDueOn s (talk file words name proc talk_file) d
  due-talk file words name proc talk_file text a d told is gives untaken due = record {
    texts = record { contract = text; script = due.script_text; third = due.text };
    contract_told = told;
    script_told = due.script_told;
    third_told = due.told;
    holds =
        rw (gives, untaken, due.nothing_kept)
        (outcome.talked file words name proc talk_file a d.due.status d.due.out.items d.due.journal is due.is);
  }

  pub part-talk : (file words name proc talk_file text : List ℕ) (a : Acceptance) (part : DoneSoFar)
      → HasText s.contract.left text → IsAcceptedAs text a → part.accepted ≡ Some a → part.taken ≡ None
      → IsRunPartFor a usual_orders s.script part.journal
      → IsTaskPartOn s (talk file words name proc talk_file) part
  part-talk file words name proc talk_file text a part told is gives untaken done = record {
    texts = record { contract = text; script = done.text; third = (some_text s.third.left).0 };
    contract_told = told;
    script_told = done.told;
    third_told = (some_text s.third.left).1;
    holds = rw (gives, untaken) (outcome.talk_part file words name proc talk_file a part.journal is done.is);
  }

  -- ---- snapshots

  pub due-save : (file words kept text : List ℕ) (a : Acceptance) (d : CallDue) → HasText s.contract.left text
      → IsAcceptedAs text a → d.accepted ≡ Some a → d.taken ≡ None → IsSaveDueFor a s.script d.due
      → IsTaskDueOn s (save file words kept) d
  due-save file words kept text a d told is gives untaken due = record {
    texts = record { contract = text; script = due.text; third = (some_text s.third.left).0 };
    contract_told = told;
    script_told = due.told;
    third_told = (some_text s.third.left).1;
    holds =
        rw (gives, untaken)
        (outcome.saved file words kept a d.due.status d.due.out.items (kept_text d.due) d.due.journal is due.is);
  }

  pub part-save : (file words kept text : List ℕ) (a : Acceptance) (part : DoneSoFar) → HasText s.contract.left text
      → IsAcceptedAs text a → part.accepted ≡ Some a → part.taken ≡ None
      → IsRunPartFor a usual_orders s.script part.journal → IsTaskPartOn s (save file words kept) part
  part-save file words kept text a part told is gives untaken done = record {
    texts = record { contract = text; script = done.text; third = (some_text s.third.left).0 };
    contract_told = told;
    script_told = done.told;
    third_told = (some_text s.third.left).1;
    holds = rw (gives, untaken) (outcome.save_part file words kept a part.journal is done.is);
  }

  pub due-resume : (file kept words text : List ℕ) (a : Acceptance) (d : CallDue) → HasText s.contract.left text
      → IsAcceptedAs text a → d.accepted ≡ Some a → d.taken ≡ None → IsResumeDueFor a s.third s.script d.due
      → IsTaskDueOn s (resume file kept words) d
  due-resume file kept words text a d told is gives untaken due = record {
    texts = record { contract = text; script = due.script_text; third = due.text };
    contract_told = told;
    script_told = due.script_told;
    third_told = due.told;
    holds =
        rw (gives, untaken, due.nothing_kept)
        (outcome.resumed file kept words a d.due.status d.due.out.items d.due.journal is due.is);
  }

  pub part-resume : (file kept words text : List ℕ) (a : Acceptance) (part : DoneSoFar) → HasText s.contract.left text
      → IsAcceptedAs text a → part.accepted ≡ Some a → part.taken ≡ None
      → IsResumePartFor a s.third s.script part.journal → IsTaskPartOn s (resume file kept words) part
  part-resume file kept words text a part told is gives untaken done = record {
    texts = record { contract = text; script = done.script_text; third = done.text };
    contract_told = told;
    script_told = done.script_told;
    third_told = done.told;
    holds = rw (gives, untaken) (outcome.resume_part file kept words a part.journal is done.is);
  }

  -- ---- words

  pub due-usage : (words : List (List ℕ)) (d : CallDue) → AskNothing words
      → outcome_of d ≡ bare 4 usage_line no_journal.limit → IsDueOn s words d
  due-usage words d none same =
      let t = some_text s.contract.left in
      record {
        texts = texts_with t.0;
        contract_told = t.1;
        script_told = (some_text s.script.left).1;
        third_told = (some_text s.third.left).1;
        holds =
            subst (λ (x : Outcome). outcome.IsDue words (inputs_on s (texts_with t.0)) x) (sym same)
            (outcome.usage none);
      }

  pub part-usage : (words : List (List ℕ)) (part : DoneSoFar) → AskNothing words → IsNothing no_journal.limit part
      → IsPartOn s words part
  part-usage words part none nothing =
      let t = some_text s.contract.left in
      record {
        texts = texts_with t.0;
        contract_told = t.1;
        script_told = (some_text s.script.left).1;
        third_told = (some_text s.third.left).1;
        holds = rw (nothing.accepted, nothing.journal, nothing.taken) (outcome.no_task none);
      }

  pub due-asked : (words : List (List ℕ)) (task : Task) (d : CallDue) → Asks words task → IsTaskDueOn s task d
      → IsDueOn s words d
  due-asked words task d asks due = record {
    texts = due.texts;
    contract_told = due.contract_told;
    script_told = due.script_told;
    third_told = due.third_told;
    holds = outcome.asked task (outcome_of d) asks due.holds;
  }

  pub part-asked : (words : List (List ℕ)) (task : Task) (part : DoneSoFar) → Asks words task
      → IsTaskPartOn s task part → IsPartOn s words part
  part-asked words task part asks done = record {
    texts = done.texts;
    contract_told = done.contract_told;
    script_told = done.script_told;
    third_told = done.third_told;
    holds = outcome.asked_part task part.accepted part.journal part.taken asks done.holds;
  }

-- ---- calls

-- what was found of words
pub found-none : (words : List (List ℕ)) (found : Option Task) → FindsOne (Asks words) found → found ≡ None
    → AskNothing words
found-none words found finds none =
    λ task asks. absurd (let both : None ≡ Some task = sym none ∙ finds.each task asks in cc)

-- how a call ends of which this is due
pub call-ends : (c : Call) (r : Result CallDue DoneSoFar) (s : Sources) → s.contract ≡ c.contract → s.script ≡ c.script
    → s.third ≡ c.journal_in → ((a : Acceptance) → c.accepted ≡ Some a → IsAccepted a)
    → IfOk r (IsDueOn s c.words) → IfErr r (IsPartOn s c.words) → IfOk r (EndsDue c) → IfErr r (EndsPart c)
    → HasEnded c
call-ends c (Ok d) s e f g fits due part ends other = (
  due.texts,
  record {
    told =
        record {
          contract = subst (λ (x : SourceState). HasText x.left due.texts.contract) e due.contract_told;
          script = subst (λ (x : SourceState). HasText x.left due.texts.script) f due.script_told;
          third = subst (λ (x : SourceState). HasText x.left due.texts.third) g due.third_told;
        };
    fits = fits;
    ends =
        inl (record {
          status = d.due.status;
          out = d.due.out.items;
          kept = kept_text d.due;
          due = rw (sym e, sym f, sym g, ends.accepted, ends.journal, ends.taken) due.holds;
          written = ends.written;
        });
  },
)
call-ends c (Err p) s e f g fits due part other ends = (
  part.texts,
  record {
    told =
        record {
          contract = subst (λ (x : SourceState). HasText x.left part.texts.contract) e part.contract_told;
          script = subst (λ (x : SourceState). HasText x.left part.texts.script) f part.script_told;
          third = subst (λ (x : SourceState). HasText x.left part.texts.third) g part.third_told;
        };
    fits = fits;
    ends =
        inr (record {
          status = ends.status;
          out = ends.out;
          journal_out = ends.journal_out;
          part = rw (sym e, sym f, sym g, ends.accepted, ends.journal, ends.taken) part.holds;
        });
  },
)

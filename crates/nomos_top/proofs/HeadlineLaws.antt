-- What is accepted is typed, and what is typed is accepted; and what is kept is a run in which nothing goes wrong.
use Rattle.std.proofs.Common.{◌≡◌, ◌≢◌, ◌⊎◌, inl, inr, ℕ, List, Some, length, take, refl, sym, subst, arith}
use Rattle.std.proofs.Math.Seq.{take-length}
use Rattle.nomos_accept.proofs.AcceptLaws.{one-program}
use Rattle.nomos_accept.specs.TypedText.{IsTypedAs}
use Rattle.nomos_ir.specs.declared.lists.ProgramLists.{ProgramLists}
use Rattle.nomos_script.specs.declared.item.ScriptItem.{ScriptItem}
use Rattle.nomos_legal.specs.Legal.{TellsFrom}
use Rattle.nomos_top.proofs.AcceptedLaws.{end-sound, task-view}
use Rattle.nomos_top.proofs.EndLaws.{further-not_one}
use Rattle.nomos_top.proofs.StatusLaws.{done-not}
use Rattle.nomos_top.proofs.KeptLaws.{FollowsSome, end-part, kept-goes_right, kept-is_legal, words-told}
use Rattle.nomos_top.proofs.Views.{DueView, EndView, end-view}
use Rattle.nomos_top.proofs.Views as view
use Rattle.nomos_top.specs.Call.{EndsOn, inputs_of, outcome_with}
use Rattle.nomos_top.specs.Headline.{AcceptsTyped, AsksAlone, Course, GivesProgram, HasNoEntry, KeepsRuns}
use Rattle.nomos_top.specs.Kept.{CarriesOut, CarriesOutSome}
use Rattle.nomos_top.specs.Outcome.{Inputs, Outcome}
use Rattle.nomos_top.specs.Seen.{Call, Texts, Fails, Gives, IsDone}
use Rattle.nomos_top.specs.TaskRuns.{IsGivenFor}
use Rattle.nomos_top.specs.Tasks.{IsAlone, contract_of}
use Rattle.nomos_types.specs.Acceptance.{Acceptance}
use Rattle.nomos_types.specs.Amount.{Annotations}
use Rattle.nomos_words.proofs.WordLaws.{one_task}
use Rattle.nomos_words.specs.Words.{Task, check, run, replay, bench, least, pool, talk, save, resume, Asks}

-- ---- what is accepted

-- what is given for a task is typed
given-typed : (task : Task) (text : List ℕ) (a : Acceptance) → IsGivenFor task text a
    → IsTypedAs text a.program a.annotations
given-typed (check file) text a h = h.typed
given-typed (run file script by steps journal) text a h = h.typed
given-typed (replay file script journal) text a h = h.typed
given-typed (bench seed bidders) text a h = h.typed
given-typed (pool file script threads) text a h = h.typed
given-typed (talk file script name proc words) text a h = h.typed
given-typed (save file script snapshot) text a h = h.typed
given-typed (resume file snapshot script) text a h = h.typed
given-typed (least file) text a (b, same, h) =
    subst (λ (x : Acceptance). IsTypedAs text x.program x.annotations) same h.typed

is-sound : (c : Call) (t : Texts) → EndView c t → (task : Task) (a : Acceptance) → Asks c.words task → Gives c a
    → IsTypedAs (contract_of task t.contract) a.program a.annotations
is-sound c t ends task a asks gives =
    let (own, owns, is) = end-sound c t ends a gives in
    subst (λ (x : Task). IsTypedAs (contract_of x t.contract) a.program a.annotations)
    (one_task c.words own task owns asks) (given-typed own (contract_of own t.contract) a is)

-- what is answered where the text is typed: no refusal, and its program, or a stop, or a fault
abbrev Answered : ProgramLists → Outcome → Type 0
Answered lists o =
    (o.status ≢ 1)
    × (((a : Acceptance) × (o.accepted ≡ Some a) × (a.program ≡ lists)) ⊎ ((o.status ≡ 8) ⊎ (o.status ≡ 5)))

-- the program that is given is the one as which the text reads
program-given : (i : Inputs) (task : Task) (o : Outcome) (a : Acceptance) → o.accepted ≡ Some a
    → IsGivenFor task (contract_of task i.contract.text) a → (lists : ProgramLists) (x : Annotations)
    → IsTypedAs (contract_of task i.contract.text) lists x
    → (b : Acceptance) × (o.accepted ≡ Some b) × (b.program ≡ lists)
program-given i task o a gives is lists x typed =
    let text = contract_of task i.contract.text in
    (a, gives, one-program text a.program lists (given-typed task text a is).read typed.read)

due-complete : {i : Inputs} {task : Task} {o : Outcome} → DueView i task o → (lists : ProgramLists) (x : Annotations)
    → IsTypedAs (contract_of task i.contract.text) lists x → Answered lists o
due-complete (view.against (view.fault reads rose n is) idle none) lists x typed =
    (λ e. omega (arith, e, n), inr (inr n))
due-complete (view.against (view.refused why w n is) idle none) lists x typed = absurd (w.never lists x typed)
due-complete (view.against (view.unsolved stop w n is) idle none) lists x typed =
    (λ e. omega (arith, e, n), inr (inl n))
due-complete {i} {task} {o} (view.alone a what alone gives is idle n) lists x typed =
    (λ e. omega (arith, e, n), inl (program-given i task o a gives is lists x typed))
due-complete {i} {task} {o} (view.behind a what further gives is) lists x typed =
    (further-not_one what, inl (program-given i task o a gives is lists x typed))

is-complete : (c : Call) (t : Texts) → EndView c t → (task : Task) (lists : ProgramLists) (x : Annotations)
    → Asks c.words task → IsTypedAs (contract_of task t.contract) lists x
    → (c.status ≢ 1) × (GivesProgram c lists ⊎ ((c.status ≡ 8) ⊎ Fails c))
is-complete c t (view.all w) task lists x asks typed =
    either (due-complete (task-view w.view task asks) lists x typed)
  where
    either : Answered lists (outcome_with c c.status w.out w.kept)
        → (c.status ≢ 1) × (GivesProgram c lists ⊎ ((c.status ≡ 8) ⊎ Fails c))
    either (one, inl given) = (one, inl given)
    either (one, inr (inl eight)) = (one, inr (inl eight))
    either (one, inr (inr five)) = (one, inr (inr (inl five)))
is-complete c t (view.failed f) task lists x asks typed =
    let six : c.status ≡ 6 = f.is in ((λ e. omega (arith, e, six)), inr (inr (inr (inl six))))
is-complete c t (view.wanting m) task lists x asks typed =
    let seven : c.status ≡ 7 = m.is in ((λ e. omega (arith, e, seven)), inr (inr (inr (inr seven))))

pub accepts-typed : (c : Call) (t : Texts) → EndsOn c t → AcceptsTyped c t
accepts-typed c t e =
    let ends = end-view c t e in
    record {
      sound = λ task a asks gives. is-sound c t ends task a asks gives;
      complete = λ task lists x asks typed. is-complete c t ends task lists x asks typed;
    }

-- ---- what is kept

-- a script that was carried out is a course
whole-course : (c : Call) (t : Texts) → CarriesOut c t → Course c t
whole-course c t r = record {
  task = r.task;
  asks = r.asks;
  a = r.a;
  gives = r.gives;
  first = r.first;
  begins = r.begins;
  items = r.items;
  script = r.script;
  count = length r.items;
  whole = λ done. refl;
  passages = r.passages;
  last = r.last;
  tells =
      subst (λ (xs : List ScriptItem). TellsFrom r.a r.first xs c.journal r.passages r.last)
      (sym (take-length r.items)) r.tells;
}

-- so are some first items of one, where memory was wanting
part-course : (c : Call) (t : Texts) → c.status ≡ 7 → CarriesOutSome c t → Course c t
part-course c t seven r = record {
  task = r.task;
  asks = r.asks;
  a = r.a;
  gives = r.gives;
  first = r.first;
  begins = r.begins;
  items = r.items;
  script = r.script;
  count = r.count;
  whole = λ done. absurd (done-not c.status 7 done (λ z. omega (arith, z)) (λ z. omega (arith, z)) seven);
  passages = r.passages;
  last = r.last;
  tells = r.tells;
}

words-kept : (c : Call) (t : Texts) → HasNoEntry c ⊎ CarriesOut c t → HasNoEntry c ⊎ Course c t
words-kept c t (inl none) = inl none
words-kept c t (inr r) = inr (whole-course c t r)

part-kept : (c : Call) (t : Texts) → c.status ≡ 7 → HasNoEntry c ⊎ FollowsSome c t → HasNoEntry c ⊎ Course c t
part-kept c t seven (inl none) = inl none
part-kept c t seven (inr (r, follows)) = inr (part-course c t seven r)

is-kept : (c : Call) (t : Texts) → EndView c t → HasNoEntry c ⊎ Course c t
is-kept c t (view.all w) = words-kept c t (words-told c t c.status w.out w.kept w.view)
is-kept c t (view.failed f) = words-kept c t (words-told c t f.status f.out f.kept f.view)
is-kept c t (view.wanting m) = part-kept c t m.is (end-part c t (view.wanting m) m.is)

-- a call that was done asks for a task
done-asks : (c : Call) (t : Texts) → EndView c t → IsDone c.status → (task : Task) × Asks c.words task
done-asks c t (view.all w) done = asked w.view
  where
    asked : view.WordsView c.words (inputs_of c t) (outcome_with c c.status w.out w.kept)
        → (task : Task) × Asks c.words task
    asked (view.nothing_asked none idle never four is) =
        absurd (done-not c.status 4 done (λ z. omega (arith, z)) (λ z. omega (arith, z)) four)
    asked (view.task_asked task asks due) = (task, asks)
done-asks c t (view.failed f) done =
    absurd (done-not c.status 6 done (λ z. omega (arith, z)) (λ z. omega (arith, z)) f.is)
done-asks c t (view.wanting m) done =
    absurd (done-not c.status 7 done (λ z. omega (arith, z)) (λ z. omega (arith, z)) m.is)

done-course : (c : Call) (t : Texts) → EndsOn c t → IsDone c.status → AsksAlone c ⊎ Course c t
done-course c t e done =
    let (task, asks) = done-asks c t (end-view c t e) done in
    either task asks ((kept-is_legal c t e).done task asks done)
  where
    either : (task : Task) → Asks c.words task → IsAlone task ⊎ CarriesOut c t → AsksAlone c ⊎ Course c t
    either task asks (inl alone) = inl (task, asks, alone)
    either task asks (inr r) = inr (whole-course c t r)

pub keeps-runs : (c : Call) (t : Texts) → EndsOn c t → KeepsRuns c t
keeps-runs c t e = record {
  done = λ done. done-course c t e done;
  kept = is-kept c t (end-view c t e);
  right = λ k.
      (kept-goes_right c t e).right k.task k.a k.first (take k.count k.items) k.passages k.last k.asks k.gives k.begins
      k.tells;
}

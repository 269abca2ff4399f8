-- Every journal that is kept is legal, goes right, and with one worker follows the policy.
use Rattle.std.proofs.Common.{◌≡◌, ◌≢◌, ◌∙◌, ◌⊎◌, inl, inr, ℕ, List, [], ◌∷◌, ◌++◌, Option, Some, None, refl, sym, subst, arith}
use Rattle.std.proofs.lemmas.List.Elements.{All-nil, All-cons}
use Rattle.std.specs.Option.{option_to_list}
use Rattle.nomos_answers.specs.Outside.{HaveRisen}
use Rattle.nomos_legal.proofs.DepositLaws.{front-deposits-from, tells-deposits-from}
use Rattle.nomos_legal.proofs.RightLaws.{legal-right-from}
use Rattle.nomos_legal.proofs.UniqueLaws.{tells-one}
use Rattle.nomos_legal.specs.Ledger.{LedgerState}
use Rattle.nomos_legal.specs.Legal.{FollowPolicy, PassesBy, TellsFrom, entries_of}
use Rattle.nomos_legal.specs.Passage.{Passage}
use Rattle.nomos_legal.specs.declared.journal.Entry.{Entry}
use Rattle.nomos_machine.specs.declared.policy.Policy.{Policy}
use Rattle.nomos_script.specs.declared.item.ScriptItem.{ScriptItem}
use Rattle.nomos_top.specs.Call.{EndsOn, inputs_of, outcome_with}
use Rattle.nomos_top.specs.Seen.{Call, Texts, Gives, IsDone}
use Rattle.nomos_top.specs.Complete.{HasReport}
use Rattle.nomos_top.specs.Headline.{BeginsAt, HasNoEntry, IsScriptOf}
use Rattle.nomos_top.specs.Kept.{CarriesOut, CarriesOutSome, KeptGoesRight, KeptIsLegal, OneWorkerFollows, SourceFailed}
use Rattle.nomos_top.specs.TaskRuns.{IsByOne, IsGivenFor}
use Rattle.nomos_top.specs.Tasks.{AskNothing, IsAlone, contract_of, script_of}
use Rattle.nomos_top.proofs.AcceptedLaws.{due-reported, task-view}
use Rattle.nomos_top.proofs.EndLaws.{further-not_seven, missed-status, whole-done, whole-of}
use Rattle.nomos_top.proofs.LoadedLaws.{begins-standing}
use Rattle.nomos_top.proofs.OneDueLaws.{begins-one, script-one}
use Rattle.nomos_top.proofs.StatusLaws.{done-not, missed-undone}
use Rattle.nomos_top.proofs.Views.{Carried, CarriedSome, Further, DueView, PartView, WordsView, Whole, EndView, end-view}
use Rattle.nomos_top.proofs.Views as view
use Rattle.nomos_types.specs.Acceptance.{Acceptance, IsAccepted}
use Rattle.nomos_words.proofs.WordLaws.{one_task}
use Rattle.nomos_words.specs.Commands.{row}
use Rattle.nomos_words.specs.Words.{Task, Asks}

-- ---- what was carried out

-- what is seen of a run that was carried out
carries : (c : Call) (t : Texts) (task : Task) (status : ℕ) (out : List ℕ) (kept : Option (List ℕ)) (a : Acceptance)
    → Asks c.words task → Gives c a → Carried (inputs_of c t) task (outcome_with c status out kept) a → CarriesOut c t
carries c t task status out kept a asks gives r = record {
  task = task;
  asks = asks;
  scripted = r.scripted;
  a = a;
  gives = gives;
  first = r.first;
  begins = r.begins;
  items = r.items;
  script = r.script;
  passages = r.passages;
  last = r.last;
  tells = r.tells;
  own = r.own;
}

-- a case of what was due, for its journal: it has no entry, or all was carried out
abbrev Told : Call → Texts → ℕ → List ℕ → Option (List ℕ) → Task → Type 0
Told c t status out kept task =
    HasNoEntry c
    ⊎ ((a : Acceptance) × Gives c a × Carried (inputs_of c t) task (outcome_with c status out kept) a)

further-told : (c : Call) (t : Texts) (status : ℕ) (out : List ℕ) (kept : Option (List ℕ)) (task : Task)
    (a : Acceptance) → Gives c a → Further (inputs_of c t) task (outcome_with c status out kept) a
    → Told c t status out kept task
further-told c t status out kept task a gives (view.missed s line is idle same o) = inl idle.entries
further-told c t status out kept task a gives (view.carried r) = inr (a, gives, r)

due-told : (c : Call) (t : Texts) (status : ℕ) (out : List ℕ) (kept : Option (List ℕ)) (task : Task)
    → DueView (inputs_of c t) task (outcome_with c status out kept) → Told c t status out kept task
due-told c t status out kept task (view.against why idle none) = inl idle.entries
due-told c t status out kept task (view.alone a what alone gives is idle zero) = inl idle.entries
due-told c t status out kept task (view.behind a what further gives is) =
    further-told c t status out kept task a gives what

pub words-told : (c : Call) (t : Texts) (status : ℕ) (out : List ℕ) (kept : Option (List ℕ))
    → WordsView c.words (inputs_of c t) (outcome_with c status out kept) → HasNoEntry c ⊎ CarriesOut c t
words-told c t status out kept (view.nothing_asked silent idle void four is) = inl idle.entries
words-told c t status out kept (view.task_asked task asks due) = either (due-told c t status out kept task due)
  where
    either : Told c t status out kept task → HasNoEntry c ⊎ CarriesOut c t
    either (inl none) = inl none
    either (inr (a, gives, r)) = inr (carries c t task status out kept a asks gives r)

-- ---- with 0 and 3

further-done : (c : Call) (t : Texts) (out : List ℕ) (kept : Option (List ℕ)) (task : Task) (a : Acceptance)
    → IsDone c.status → Further (inputs_of c t) task (outcome_with c c.status out kept) a
    → Carried (inputs_of c t) task (outcome_with c c.status out kept) a
further-done c t out kept task a done (view.missed s line is idle same o) =
    absurd (missed-undone (missed-status is) same done)
further-done c t out kept task a done (view.carried r) = r

-- what was done where all was written: the contract alone was asked about, or the script was carried out
pub done-carried : (c : Call) (t : Texts) (out : List ℕ) (kept : Option (List ℕ)) (task : Task) → IsDone c.status
    → DueView (inputs_of c t) task (outcome_with c c.status out kept)
    → IsAlone task
    ⊎ ((a : Acceptance) × Gives c a × Carried (inputs_of c t) task (outcome_with c c.status out kept) a)
done-carried c t out kept task done (view.against (view.fault reads rose n is) idle none) =
    absurd (done-not c.status 5 done (λ z. omega (arith, z)) (λ z. omega (arith, z)) n)
done-carried c t out kept task done (view.against (view.refused why h n is) idle none) =
    absurd (done-not c.status 1 done (λ z. omega (arith, z)) (λ z. omega (arith, z)) n)
done-carried c t out kept task done (view.against (view.unsolved stop h n is) idle none) =
    absurd (done-not c.status 8 done (λ z. omega (arith, z)) (λ z. omega (arith, z)) n)
done-carried c t out kept task done (view.alone a what alone gives is idle zero) = inl alone
done-carried c t out kept task done (view.behind a what further gives is) =
    inr (a, gives, further-done c t out kept task a done what)

legal-done : (c : Call) (t : Texts) → EndView c t → (task : Task) → Asks c.words task → IsDone c.status
    → IsAlone task ⊎ CarriesOut c t
legal-done c t ends task asks done =
    let w = whole-done c t ends done in
    either w.out w.kept (done-carried c t w.out w.kept task done (task-view w.view task asks))
  where
    either : (out : List ℕ) (kept : Option (List ℕ)) → IsAlone task
        ⊎ ((a : Acceptance) × Gives c a × Carried (inputs_of c t) task (outcome_with c c.status out kept) a)
        → IsAlone task ⊎ CarriesOut c t
    either out kept (inl alone) = inl alone
    either out kept (inr (a, gives, r)) = inr (carries c t task c.status out kept a asks gives r)

-- ---- with 6

legal-unwritten : (c : Call) (t : Texts) → EndsOn c t → EndView c t → (task : Task) (a : Acceptance)
    → Asks c.words task → c.status ≡ 6 → IsGivenFor task (contract_of task t.contract) a → HasReport task t a
    → CarriesOut c t ⊎ SourceFailed c
legal-unwritten c t e (view.all w) task a asks six h has =
    either (due-reported c t task (outcome_with c c.status w.out w.kept) a e.fits h has (task-view w.view task asks))
  where
    either : (Carried (inputs_of c t) task (outcome_with c c.status w.out w.kept) a × (c.accepted ≡ Some a))
        ⊎ ((c.status ≡ 5)
        × (HaveRisen c.contract.counts ⊎ (HaveRisen c.script.counts ⊎ HaveRisen c.journal_in.counts)))
        → CarriesOut c t ⊎ SourceFailed c
    either (inl (r, gives)) = inl (carries c t task c.status w.out w.kept a asks gives r)
    either (inr (five, rose)) = inr rose
legal-unwritten c t e (view.failed f) task a asks six h has =
    either (due-reported c t task (outcome_with c f.status f.out f.kept) a e.fits h has (task-view f.view task asks))
  where
    either : (Carried (inputs_of c t) task (outcome_with c f.status f.out f.kept) a × (c.accepted ≡ Some a))
        ⊎ ((f.status ≡ 5)
        × (HaveRisen c.contract.counts ⊎ (HaveRisen c.script.counts ⊎ HaveRisen c.journal_in.counts)))
        → CarriesOut c t ⊎ SourceFailed c
    either (inl (r, gives)) = inl (carries c t task f.status f.out f.kept a asks gives r)
    either (inr (five, rose)) = inr rose
legal-unwritten c t e (view.wanting m) task a asks six h has =
    absurd (let seven : c.status ≡ 7 = m.is in omega (arith, six, seven))

legal-with_unwritten : (c : Call) (t : Texts) → EndView c t → c.status ≡ 6 → HasNoEntry c ⊎ CarriesOut c t
legal-with_unwritten c t (view.all w) six = words-told c t c.status w.out w.kept w.view
legal-with_unwritten c t (view.failed f) six = words-told c t f.status f.out f.kept f.view
legal-with_unwritten c t (view.wanting m) six =
    absurd (let seven : c.status ≡ 7 = m.is in omega (arith, six, seven))

-- ---- with 7

carries-some : (c : Call) (t : Texts) (task : Task) (a : Acceptance) → Asks c.words task → Gives c a
    → CarriedSome (inputs_of c t) task c.journal c.taken a → CarriesOutSome c t
carries-some c t task a asks gives r = record {
  task = task;
  asks = asks;
  runs = r.runs;
  a = a;
  gives = gives;
  first = r.first;
  begins = r.begins;
  items = r.items;
  script = r.script;
  count = r.count;
  passages = r.passages;
  last = r.last;
  tells = r.tells;
  limit = r.limit;
}

abbrev pub FollowsSome : Call → Texts → Type 0
FollowsSome c t = (run : CarriesOutSome c t) × ((policy : Policy) → IsByOne run.task policy
    → FollowPolicy policy run.a run.passages)

part-told : (c : Call) (t : Texts) → PartView c.words (inputs_of c t) c.accepted c.journal c.taken
    → HasNoEntry c ⊎ FollowsSome c t
unfolding carries-some
part-told c t (view.nothing none unbegun) = inl unbegun.entries
part-told c t (view.some task a asks further gives is (inl unbegun)) = inl unbegun.entries
part-told c t (view.some task a asks further gives is (inr r)) =
    inr (carries-some c t task a asks gives r, r.follows)

pub end-part : (c : Call) (t : Texts) → EndView c t → c.status ≡ 7 → HasNoEntry c ⊎ FollowsSome c t
end-part c t (view.all w) seven = absurd (never w.view)
  where
    never : WordsView c.words (inputs_of c t) (outcome_with c c.status w.out w.kept) → ⊥
    never (view.nothing_asked silent idle void four is) = omega (arith, four, seven)
    never (view.task_asked task asks (view.against (view.fault reads rose n is) idle none)) = omega (arith, n, seven)
    never (view.task_asked task asks (view.against (view.refused why h n is) idle none)) = omega (arith, n, seven)
    never (view.task_asked task asks (view.against (view.unsolved stop h n is) idle none)) = omega (arith, n, seven)
    never (view.task_asked task asks (view.alone a what alone gives is idle n)) = omega (arith, n, seven)
    never (view.task_asked task asks (view.behind a what further gives is)) = further-not_seven what seven
end-part c t (view.failed f) seven = absurd (let six : c.status ≡ 6 = f.is in omega (arith, six, seven))
end-part c t (view.wanting m) seven = part-told c t m.view

-- ---- otherwise

legal-nothing : (c : Call) (t : Texts) → EndView c t → ¬ (IsDone c.status) → c.status ≢ 6 → c.status ≢ 7 → HasNoEntry c
legal-nothing c t ends undone six seven =
    let w = whole-of c t ends six seven in none w w.view
  where
    none : (w : Whole c t) → WordsView c.words (inputs_of c t) (outcome_with c c.status w.out w.kept) → HasNoEntry c
    none w (view.nothing_asked silent idle void four is) = idle.entries
    none w (view.task_asked task asks (view.against why idle void)) = idle.entries
    none w (view.task_asked task asks (view.alone a what alone gives is idle n)) = idle.entries
    none w (view.task_asked task asks (view.behind a (view.missed status line is idle same o) further gives h)) =
        idle.entries
    none w (view.task_asked task asks (view.behind a (view.carried r) further gives h)) = absurd (undone r.done)

-- where the contract alone is asked about
alone-words : (c : Call) (t : Texts) (status : ℕ) (out : List ℕ) (kept : Option (List ℕ))
    → WordsView c.words (inputs_of c t) (outcome_with c status out kept) → (task : Task) → Asks c.words task
    → IsAlone task → HasNoEntry c
alone-words c t status out kept v task asks alone = none (task-view v task asks)
  where
    none : DueView (inputs_of c t) task (outcome_with c status out kept) → HasNoEntry c
    none (view.against why idle void) = idle.entries
    none (view.alone a what is_alone gives is idle n) = idle.entries
    none (view.behind a what further gives is) = absurd (further alone)

legal-alone : (c : Call) (t : Texts) → EndView c t → (task : Task) → Asks c.words task → IsAlone task → HasNoEntry c
legal-alone c t (view.all w) task asks alone = alone-words c t c.status w.out w.kept w.view task asks alone
legal-alone c t (view.failed f) task asks alone = alone-words c t f.status f.out f.kept f.view task asks alone
legal-alone c t (view.wanting m) task asks alone = none m.view
  where
    none : PartView c.words (inputs_of c t) c.accepted c.journal c.taken → HasNoEntry c
    none (view.nothing void unbegun) = unbegun.entries
    none (view.some own a owns further gives is some) =
        absurd (further (subst IsAlone (one_task c.words task own asks owns) alone))

-- where nothing is asked for
idle-words : (c : Call) (t : Texts) (status : ℕ) (out : List ℕ) (kept : Option (List ℕ))
    → WordsView c.words (inputs_of c t) (outcome_with c status out kept) → AskNothing c.words → HasNoEntry c
idle-words c t status out kept (view.nothing_asked silent idle void four is) none = idle.entries
idle-words c t status out kept (view.task_asked task asks due) none = absurd (none task asks)

legal-no_task : (c : Call) (t : Texts) → EndView c t → AskNothing c.words → HasNoEntry c
legal-no_task c t (view.all w) none = idle-words c t c.status w.out w.kept w.view none
legal-no_task c t (view.failed f) none = idle-words c t f.status f.out f.kept f.view none
legal-no_task c t (view.wanting m) none = idle m.view
  where
    idle : PartView c.words (inputs_of c t) c.accepted c.journal c.taken → HasNoEntry c
    idle (view.nothing void unbegun) = unbegun.entries
    idle (view.some own a owns further gives is some) = absurd (none own owns)

some-told : (c : Call) (t : Texts) → HasNoEntry c ⊎ FollowsSome c t → HasNoEntry c ⊎ CarriesOutSome c t
some-told c t (inl none) = inl none
some-told c t (inr (run, follows)) = inr run

pub kept-is_legal : (c : Call) (t : Texts) → EndsOn c t → KeptIsLegal c t
kept-is_legal c t e =
    let ends = end-view c t e in
    record {
      done = λ task asks done. legal-done c t ends task asks done;
      unwritten = λ task a asks six h has. legal-unwritten c t e ends task a asks six h has;
      with_unwritten = λ six. legal-with_unwritten c t ends six;
      in_part = λ seven. some-told c t (end-part c t ends seven);
      nothing = λ undone six seven. legal-nothing c t ends undone six seven;
      alone = λ task asks alone. legal-alone c t ends task asks alone;
      no_task = λ none. legal-no_task c t ends none;
    }

-- ---- it goes right

pub kept-goes_right : (c : Call) (t : Texts) → EndsOn c t → KeptGoesRight c t
kept-goes_right c t e = record {
  right = λ task a first items passages last asks gives begins tells.
      let accepted = e.fits a gives in
      let standing = begins-standing (row task).third t.third first accepted begins in
      let (right, behind) = legal-right-from accepted standing tells in
      record {
        right = right;
        stands = behind.stands;
        deposits = tells-deposits-from tells;
        so_far = front-deposits-from tells;
      };
}

-- ---- one worker follows the policy

-- What was carried out is the run that is seen.
pub record SeenAs (c : Call) (t : Texts) (task : Task) (status : ℕ) (out : List ℕ) (kept : Option (List ℕ))
    (a : Acceptance) (r : Carried (inputs_of c t) task (outcome_with c status out kept) a) (run : CarriesOut c t)
    : Type 0 where
  pub tasks : run.task ≡ task
  pub programs : a ≡ run.a
  pub firsts : r.first ≡ run.first
  pub passages : r.passages ≡ run.passages
  pub last : r.last ≡ run.last

pub seen-as : (c : Call) (t : Texts) (task : Task) (status : ℕ) (out : List ℕ) (kept : Option (List ℕ))
    (a : Acceptance) → IsAccepted a → Gives c a → Asks c.words task
    → (r : Carried (inputs_of c t) task (outcome_with c status out kept) a) (run : CarriesOut c t)
    → SeenAs c t task status out kept a r run
seen-as c t task status out kept a accepted gives asks r run =
    let tasks : run.task ≡ task = one_task c.words run.task task run.asks asks in
    let both : Some a ≡ Some run.a = sym gives ∙ run.gives in
    let programs : run.a ≡ a = cc in
    let begins : BeginsAt task a t run.first =
    subst (λ (x : Acceptance). BeginsAt task x t run.first) programs
    (subst (λ (x : Task). BeginsAt x run.a t run.first) tasks run.begins) in
    let firsts : r.first ≡ run.first =
    begins-one (row task).third a t.third r.first run.first accepted r.begins begins in
    let script : IsScriptOf c t task run.items =
    subst (λ (x : Task). IsScriptOf c t x run.items) tasks run.script in
    let items : r.items ≡ run.items =
    script-one (row task).threads c.taken (script_of task t.script) r.items run.items r.script script in
    let tells : TellsFrom run.a run.first run.items c.journal r.passages r.last =
    subst (λ (x : Acceptance). TellsFrom x run.first run.items c.journal r.passages r.last) (sym programs)
    (subst (λ (l : LedgerState). TellsFrom a l run.items c.journal r.passages r.last) firsts
    (subst (λ (xs : List ScriptItem). TellsFrom a r.first xs c.journal r.passages r.last) items r.tells)) in
    let same = tells-one tells run.tells in
    record { tasks = tasks; programs = sym programs; firsts = firsts; passages = same.0; last = same.1 }

follows-same : (c : Call) (t : Texts) (status : ℕ) (out : List ℕ) (kept : Option (List ℕ)) (task : Task)
    (a : Acceptance) → IsAccepted a → Gives c a → Asks c.words task
    → Carried (inputs_of c t) task (outcome_with c status out kept) a
    → (policy : Policy) (run : CarriesOut c t) → IsByOne run.task policy → FollowPolicy policy run.a run.passages
follows-same c t status out kept task a accepted gives asks r policy run one =
    let seen = seen-as c t task status out kept a accepted gives asks r run in
    let follows : FollowPolicy policy a r.passages =
    r.follows policy (subst (λ (x : Task). IsByOne x policy) seen.tasks one) in
    subst (λ (ps : List Passage). FollowPolicy policy run.a ps) seen.passages
    (subst (λ (x : Acceptance). FollowPolicy policy x r.passages) seen.programs follows)

-- a run without an entry follows every policy
follows-none : (policy : Policy) (a : Acceptance) (ps : List Passage) → entries_of ps ≡ [] → FollowPolicy policy a ps
follows-none policy a [] none = All-nil (λ p. PassesBy policy a p p.entry)
follows-none policy a (p ∷ ps) none =
    let front = entries-front p.entry (entries_of ps) none in
    All-cons (λ q. PassesBy policy a q q.entry) p ps
    (subst (λ (e : Option Entry). PassesBy policy a p e) (sym front.0) tt) (follows-none policy a ps front.1)
  where
    entries-front : (e : Option Entry) (es : List Entry) → option_to_list e ++ es ≡ [] → (e ≡ None) × (es ≡ [])
    entries-front None es is = (refl, is)
    entries-front (Some entry) es is = absurd (let never : entry ∷ es ≡ [] = is in cc)

words-follow : (c : Call) (t : Texts) → EndsOn c t → (status : ℕ) (out : List ℕ) (kept : Option (List ℕ))
    → WordsView c.words (inputs_of c t) (outcome_with c status out kept) → (policy : Policy) (run : CarriesOut c t)
    → IsByOne run.task policy → FollowPolicy policy run.a run.passages
words-follow c t e status out kept (view.nothing_asked silent idle void four is) policy run one =
    absurd (silent run.task run.asks)
words-follow c t e status out kept (view.task_asked task asks due) policy run one =
    either (due-told c t status out kept task due)
  where
    either : Told c t status out kept task → FollowPolicy policy run.a run.passages
    either (inl none) = follows-none policy run.a run.passages (run.tells.entries_are ∙ none)
    either (inr (a, gives, r)) = follows-same c t status out kept task a (e.fits a gives) gives asks r policy run one

end-follows : (c : Call) (t : Texts) → EndsOn c t → EndView c t → c.status ≢ 7
    → (policy : Policy) (run : CarriesOut c t)
    → IsByOne run.task policy → FollowPolicy policy run.a run.passages
end-follows c t e (view.all w) seven policy run one = words-follow c t e c.status w.out w.kept w.view policy run one
end-follows c t e (view.failed f) seven policy run one =
    words-follow c t e f.status f.out f.kept f.view policy run one
end-follows c t e (view.wanting m) seven policy run one = absurd (seven m.is)

pub one-worker_follows : (c : Call) (t : Texts) → EndsOn c t → OneWorkerFollows c t
one-worker_follows c t e =
    let ends = end-view c t e in
    record {
      all = λ seven policy run one. end-follows c t e ends seven policy run one;
      in_part = λ seven. end-part c t ends seven;
    }

-- What threads submit is gathered fairly.
use Rattle.std.proofs.Common.{◌≡◌, ◌≢◌, ◌∙◌, ◌⊎◌, inl, inr, ℕ, ◌≤◌, List, [], ◌∷◌, ◌++◌, filter, map, Option, Some, None, Ok, refl, sym, ap, subst, arith}
use Rattle.std.proofs.lemmas.Grind.{flat_map-append}
use Rattle.std.proofs.lemmas.List.Elements.{filter-append}
use Rattle.std.specs.List.{flat_map}
use Rattle.std.specs.Prelude.{IsSome}
use Rattle.std.specs.Str.{bytes_eq}
use Rattle.nomos_pool.proofs.DealingLemmas.{gathered-of_account}
use Rattle.nomos_pool.specs.Dealing.{account_name, sent_by_account}
use Rattle.nomos_pool.specs.Pooled as pooling
use Rattle.nomos_pool.specs.Pooled.{PoolsTo}
use Rattle.nomos_pool.specs.declared.pool.Submission.{Submission}
use Rattle.nomos_script.specs.declared.item.Batch.{Batch}
use Rattle.nomos_script.specs.declared.item.ScriptItem.{ScriptItem}
use Rattle.nomos_script.specs.declared.item.ScriptItem.TheVariants as item
use Rattle.nomos_top.proofs.AcceptedLaws.{task-view}
use Rattle.nomos_top.proofs.EndLaws.{whole-done, whole-of}
use Rattle.nomos_top.proofs.KeptLaws.{done-carried}
use Rattle.nomos_top.proofs.Views as view
use Rattle.nomos_top.proofs.Views.{Carried, CarriedSome, DueView, EndView, IsGathered, PartView, Whole, WordsView, end-view}
use Rattle.nomos_top.specs.Call.{EndsOn, inputs_of, outcome_with}
use Rattle.nomos_top.specs.Outcome.{Inputs, Outcome}
use Rattle.nomos_top.specs.Pooling.{GathersFairly, IsTaken, batches_in, sent_in}
use Rattle.nomos_top.specs.Seen.{Call, Texts, Gives, IsDone}
use Rattle.nomos_top.specs.Tasks.{IsAlone, IsPooled}
use Rattle.nomos_types.specs.Acceptance.{Acceptance}
use Rattle.nomos_words.proofs.WordLaws.{one_task, some_threads}
use Rattle.nomos_words.specs.Words.{Task, pool, Asks}

-- ---- what an account sends

sent-append : (name : List ℕ) (xs ys : List ScriptItem) → sent_in name (xs ++ ys) ≡ sent_in name xs ++ sent_in name ys
sent-append name xs ys =
    let test = λ (batch : Batch). bytes_eq (account_name batch) name in
    ap (filter test) (flat_map-append batches_in xs ys)
    ∙ filter-append test (flat_map batches_in xs) (flat_map batches_in ys)

read-batches : (batches : List Batch) → flat_map batches_in (map item.Batch batches) ≡ batches
read-batches [] = refl
read-batches (b ∷ bs) = ap (λ (rest : List Batch). b ∷ rest) (read-batches bs)

taken-batches : (gathered : List (Submission Batch))
    → flat_map batches_in (map (λ s. item.Batch s.item) gathered) ≡ map (λ s. s.item) gathered
taken-batches [] = refl
taken-batches (s ∷ ss) = ap (λ (rest : List Batch). s.item ∷ rest) (taken-batches ss)

-- what an account sends stands in what was taken as in what was read
account-kept : (threads : ℕ) (items taken : List ScriptItem) → 1 ≤ threads → PoolsTo threads items (Ok taken)
    → (name : List ℕ) → sent_in name taken ≡ sent_in name items
account-kept threads items taken some fair name =
    let p : pooling.IsPooled threads items taken = fair in
    let batches : List ScriptItem = map item.Batch p.batches in
    let gathered : List ScriptItem = map (λ s. item.Batch s.item) p.gathered in
    let same : sent_in name gathered ≡ sent_in name batches =
    ap (sent_by_account name) (taken-batches p.gathered)
    ∙ gathered-of_account threads p.batches p.gathered name (omega (arith, some)) p.fair
    ∙ ap (sent_by_account name) (sym (read-batches p.batches)) in
    ap (sent_in name) p.taken
    ∙ sent-append name p.first gathered
    ∙ ap (λ (rest : List Batch). sent_in name p.first ++ rest) same
    ∙ sym (sent-append name p.first batches)
    ∙ ap (sent_in name) (sym p.read)

-- ---- what is taken

gathered-taken : (c : Call) (t : Texts) (file script : List ℕ) (threads : ℕ) (taken items : List ScriptItem)
    → Asks c.words (pool file script threads) → c.taken ≡ Some taken → c.taken ≡ Some items
    → IsGathered (Some threads) t.script items → IsTaken t threads taken
gathered-taken c t file script threads taken items asks is was (read, reads, fair) =
    let both : Some items ≡ Some taken = sym was ∙ is in
    let same : items ≡ taken = cc in
    let here : PoolsTo threads read (Ok taken) = subst (λ (xs : List ScriptItem). PoolsTo threads read (Ok xs)) same
    fair in
    record {
      items = read;
      reads = reads;
      fair = here;
      accounts = account-kept threads read taken (some_threads c.words file script threads asks).0 here;
    }

-- nothing was taken
none-taken : {A : Type 0} (c : Call) (taken : List ScriptItem) → c.taken ≡ None → c.taken ≡ Some taken → A
none-taken c taken none is = absurd (let both : None ≡ Some taken = sym none ∙ is in cc)

due-taken : (c : Call) (t : Texts) (file script : List ℕ) (threads : ℕ) (taken : List ScriptItem)
    → Asks c.words (pool file script threads) → c.taken ≡ Some taken → (status : ℕ) (out : List ℕ)
    (kept : Option (List ℕ)) → DueView (inputs_of c t) (pool file script threads) (outcome_with c status out kept)
    → IsTaken t threads taken
due-taken c t file script threads taken asks is status out kept (view.against why idle none) =
    none-taken c taken idle.taken is
due-taken c t file script threads taken asks is status out kept (view.alone a what alone gives h idle n) =
    absurd alone
due-taken c t file script threads taken asks is status out kept
    (view.behind a (view.missed s line missed idle same o) further gives h) =
    none-taken c taken idle.taken is
due-taken c t file script threads taken asks is status out kept (view.behind a (view.carried r) further gives h) =
    gathered-taken c t file script threads taken r.items asks is r.script r.gathered

part-taken : (c : Call) (t : Texts) (file script : List ℕ) (threads : ℕ) (taken : List ScriptItem)
    → Asks c.words (pool file script threads) → c.taken ≡ Some taken
    → PartView c.words (inputs_of c t) c.accepted c.journal c.taken → IsTaken t threads taken
part-taken c t file script threads taken asks is (view.nothing none unbegun) = none-taken c taken unbegun.taken is
part-taken c t file script threads taken asks is (view.some task a own further gives h (inl unbegun)) =
    none-taken c taken unbegun.taken is
part-taken c t file script threads taken asks is (view.some task a own further gives h (inr r)) =
    let same : task ≡ pool file script threads = one_task c.words task (pool file script threads) own asks in
    let here : CarriedSome (inputs_of c t) (pool file script threads) c.journal c.taken a =
    subst (λ (x : Task). CarriedSome (inputs_of c t) x c.journal c.taken a) same r in
    gathered-taken c t file script threads taken here.items asks is here.script here.gathered

end-taken : (c : Call) (t : Texts) → EndView c t → (file script : List ℕ) (threads : ℕ) (taken : List ScriptItem)
    → Asks c.words (pool file script threads) → c.taken ≡ Some taken → IsTaken t threads taken
end-taken c t (view.all w) file script threads taken asks is =
    due-taken c t file script threads taken asks is c.status w.out w.kept
    (task-view w.view (pool file script threads) asks)
end-taken c t (view.failed f) file script threads taken asks is =
    due-taken c t file script threads taken asks is f.status f.out f.kept
    (task-view f.view (pool file script threads) asks)
end-taken c t (view.wanting m) file script threads taken asks is =
    part-taken c t file script threads taken asks is m.view

-- ---- when something is

done-taken : (c : Call) (t : Texts) → EndView c t → (file script : List ℕ) (threads : ℕ)
    → Asks c.words (pool file script threads) → IsDone c.status → IsSome c.taken
done-taken c t ends file script threads asks done =
    let w = whole-done c t ends done in
    let task = pool file script threads in
    either w.out w.kept (done-carried c t w.out w.kept task done (task-view w.view task asks))
  where
    either : (out : List ℕ) (kept : Option (List ℕ)) → IsAlone (pool file script threads)
        ⊎ ((a : Acceptance) × Gives c a
        × Carried (inputs_of c t) (pool file script threads) (outcome_with c c.status out kept) a)
        → IsSome c.taken
    either out kept (inl alone) = absurd alone
    either out kept (inr (a, gives, r)) = subst IsSome (sym r.script) refl

undone-taken : (c : Call) (t : Texts) → EndView c t → ¬ (IsDone c.status) → c.status ≢ 6 → c.status ≢ 7
    → c.taken ≡ None
undone-taken c t ends undone six seven = let w = whole-of c t ends six seven in none w.out w.kept w.view
  where
    none : (out : List ℕ) (kept : Option (List ℕ))
        → WordsView c.words (inputs_of c t) (outcome_with c c.status out kept) → c.taken ≡ None
    none out kept (view.nothing_asked silent idle void four is) = idle.taken
    none out kept (view.task_asked task asks (view.against why idle void)) = idle.taken
    none out kept (view.task_asked task asks (view.alone a what alone gives is idle n)) = idle.taken
    none out kept (view.task_asked task asks (view.behind a (view.missed s line is idle same o) further gives h)) =
        idle.taken
    none out kept (view.task_asked task asks (view.behind a (view.carried r) further gives h)) =
        absurd (undone r.done)

due-untaken : {i : Inputs} {task : Task} {o : Outcome} → DueView i task o → ¬ (IsPooled task) → o.taken ≡ None
due-untaken (view.against why idle none) alone = idle.taken
due-untaken (view.alone a what is_alone gives is idle n) alone = idle.taken
due-untaken (view.behind a (view.missed s line is idle same o) further gives h) alone = idle.taken
due-untaken (view.behind a (view.carried r) further gives h) alone = r.untaken alone

part-untaken : (c : Call) (t : Texts) → PartView c.words (inputs_of c t) c.accepted c.journal c.taken → (task : Task)
    → Asks c.words task → ¬ (IsPooled task) → c.taken ≡ None
part-untaken c t (view.nothing none unbegun) task asks alone = unbegun.taken
part-untaken c t (view.some own a owns further gives h (inl unbegun)) task asks alone = unbegun.taken
part-untaken c t (view.some own a owns further gives h (inr r)) task asks alone =
    r.untaken (λ pooled. alone (subst IsPooled (one_task c.words own task owns asks) pooled))

end-untaken : (c : Call) (t : Texts) → EndView c t → (task : Task) → Asks c.words task → ¬ (IsPooled task)
    → c.taken ≡ None
end-untaken c t (view.all w) task asks alone = due-untaken (task-view w.view task asks) alone
end-untaken c t (view.failed f) task asks alone = due-untaken (task-view f.view task asks) alone
end-untaken c t (view.wanting m) task asks alone = part-untaken c t m.view task asks alone

pub gathers-fairly : (c : Call) (t : Texts) → EndsOn c t → GathersFairly c t
gathers-fairly c t e =
    let ends = end-view c t e in
    record {
      fair = λ file script threads taken asks is. end-taken c t ends file script threads taken asks is;
      given = λ file script threads asks done. done-taken c t ends file script threads asks done;
      nothing = λ undone six seven. undone-taken c t ends undone six seven;
      others = λ task asks alone. end-untaken c t ends task asks alone;
    }

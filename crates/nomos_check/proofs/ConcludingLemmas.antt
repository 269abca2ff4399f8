-- What follows from all that was gathered.
use Rattle.std.proofs.Common.{◌≡◌, ◌≤◌, ◌<◌, inl, inr, ⊎_elim, ℕ, zero, suc, List, [], ◌∷◌, ◌++◌, length, All, Contains, Option, Some, None, Result, Ok, Err, MatchOption, slice_get, refl, sym, ap, subst, ◌∙◌, arith}
use Rattle.std.proofs.lemmas.List.{append-nil}
use Rattle.std.proofs.lemmas.List.Elements.{All-weaker, All-contains_itself, Contains-append_left, Contains-append_right, Contains-append_cases}
use Rattle.nomos_ir.specs.declared.amount.Amount.{Amount}
use Rattle.nomos_ir.specs.declared.declaration.ProcDecl.{ProcDecl}
use Rattle.nomos_ir.specs.declared.ids.CodeId.{CodeId}
use Rattle.nomos_ir.specs.declared.lists.ProgramLists.{ProgramLists}
use Rattle.nomos_ir.specs.Amounts.{IsAmount, star_count}
use Rattle.nomos_equality.specs.Comparing.{Compared, nothing_compared}
use Rattle.nomos_forms.specs.Bounds.{IsForm}
use Rattle.nomos_forms.specs.declared.form.Form.{Form}
use Rattle.nomos_types.specs.Judgement.{Judgement}
use Rattle.nomos_types.specs.Typed.{IsWellFormed}
use Rattle.nomos_check.proofs.AmountLaws.{program-amount, start-amounts}
use Rattle.nomos_check.proofs.MemberLemmas.{contains-none}
use Rattle.nomos_check.proofs.ReachingLaws.{HasItsAccount, start-has, follows-reaches, reaches-follows}
use Rattle.nomos_check.proofs.RowsLaws.{needs-rows-law, derives-skeleton}
use Rattle.nomos_check.proofs.SizeLaws.{start-count, point-is_form}
use Rattle.nomos_check.proofs.StuckLaws.{rows-skeleton, rowless-stuck, stuck-rowless, stuck-no_skeleton}
use Rattle.nomos_check.specs.Asking.{IsAsked}
use Rattle.nomos_check.specs.Checking.{IsFirstStuck, NeedsRows, NeedsChecked, NeedsBeside, AnswersProcess, AnswersProcessBeside}
use Rattle.nomos_ir.specs.Instruction.{code_offset}
use Rattle.nomos_check.specs.Reaching.{Outset, outset_of, GetsTo, IsFormOf}
use Rattle.nomos_check.specs.declared.checking.Checked.{Checked}
use Rattle.nomos_check.specs.declared.checking.ProcError.{ProcError}
use Rattle.nomos_check.specs.declared.checking.ProcError.TheVariants as error
use Rattle.nomos_check.specs.declared.standing.Standing.{Standing}
use Rattle.nomos_check.specs.declared.code_walk.Stuck.{Stuck}
use Rattle.nomos_check.specs.declared.code_walk.CodeWalk.{CodeWalk}
use Rattle.nomos_check.specs.mirror.ProcessAnswers.{IsGathered, JoinsPairs}
use Rattle.nomos_check.specs.mirror.Fresh.{IsFresh}
use Rattle.nomos_check.specs.mirror.StartingWalk.{IsStartOf}
use Rattle.nomos_check.specs.mirror.Walking.{IsReached, LeadsFrom, StaysWithin, IsStuckBy, AtStanding, IsPending, IsOpen, IsOnWay, IsWalk, Walking, Goes}

-- a process gets to where it begins
pub start-reached : {lists : ProgramLists} {n : ℕ} (o : Outset) (s : Standing) → IsStartOf n o s
    → IsReached lists n o s
start-reached {lists} o s is = record {
  account = o.account;
  has = is.has;
  reached = subst (λ (j : Judgement). GetsTo lists o j o.account) (sym is.shape) GetsTo.start;
}

module _ {lists : ProgramLists} {n : ℕ} (o : Outset) (within : StaysWithin lists n o) (s : Standing)
    (is : IsStartOf n o s) (old : CodeWalk) (fresh : IsFresh old) where
  pub start-on_way : IsOnWay lists n s
  start-on_way = record { outset = o; within = within; reached = start-reached o s is }

  -- what is done from there on is a walk
  pub start-walking : (new : CodeWalk) → Goes lists n s old new → Walking lists n o old new.todo new
  start-walking new goes =
      let reached = start-reached o s is in
      let all : new.todo ≡ goes.added = goes.todo ∙ ap (λ l. goes.added ++ l) fresh.todo ∙ append-nil goes.added in
      record {
        complete =
            λ j a leads.
            let from : AtStanding lists n s j a = record {
              account = o.account;
              has = is.has;
              leads = subst (λ (k : Judgement). LeadsFrom lists k o.account j a) (sym is.shape) leads;
            } in
            ⊎_elim (λ done. inl done)
            (λ (left : IsPending lists n goes.added j a). inr (subst (λ l. IsPending lists n l j a) (sym all) left))
            (goes.complete j a from);
        gathers = goes.gathers o reached;
        grows = goes.grows;
        is_open = subst (All (IsOpen lists n o)) (sym all) (goes.is_open o reached);
      }

  pub start-walk : (new : CodeWalk) → Goes lists n s old new → IsWalk lists n new.todo new
  start-walk new goes = record { outset = o; within = within; first = old; walking = start-walking new goes }

  -- at the end all is gathered
  pub all-gathered : (new : CodeWalk) → Walking lists n o old [] new → IsGathered lists n o old.asked.equalities new
  all-gathered new walking = record {
    done =
        λ j a reached.
        ⊎_elim (λ done. done) (λ (left : IsPending lists n [] j a). absurd (contains-none left.forks left.among))
        (walking.complete j a reached);
    forms =
        λ f among.
        ⊎_elim (λ early. absurd (contains-none f (subst (λ (l : List Form). Contains l f) fresh.forms early)))
        (λ of. of)
        (walking.gathers.forms f among);
    pairs =
        λ free pair has.
        ⊎_elim
        (λ early.
        ⊎_elim (λ known. inl known)
        (λ given. absurd (contains-none pair (subst (λ (l : List (Amount
        × Amount)). Contains l pair) fresh.pairs given))) early)
        (λ asked. inr asked) (walking.gathers.pairs free pair has);
    keeps = λ free pair known. walking.grows.pairs free pair (inl known);
    stuck =
        λ t at.
        ⊎_elim (λ early. let none = fresh.stuck in absurd cc) (λ of. of) (walking.gathers.stuck t at);
    places =
        λ t among.
        ⊎_elim (λ early. absurd (contains-none t (subst (λ (l : List Standing). Contains l t) fresh.places early)))
        (λ reached. reached) (walking.gathers.places t among);
    potentials =
        λ e among.
        ⊎_elim
        (λ early. absurd (contains-none e (subst (λ (l : List (CodeId
        × Form)). Contains l e) fresh.potentials early)))
        (λ reached. reached) (walking.gathers.potentials e among);
  }

module _ {lists : ProgramLists} (p : ℕ) (d : ProcDecl) (formed : IsWellFormed lists)
    (found : slice_get lists.procs p ≡ Some d) where
  begins : HasItsAccount lists (outset_of lists d).judgement (outset_of lists d).account
  begins = start-has p formed found

  module _ (known : Compared) (w : CodeWalk) (gathered : IsGathered lists (star_count lists)
      (outset_of lists d) known w) where
    form-there : (f : Form) → IsFormOf lists (star_count lists) (outset_of lists d) f → Contains w.forms.items f
    form-there f of =
        let point = of.point in
        (gathered.done point.judgement point.account point.reached).forms f (of.account, point.needs, of.same)

    -- nothing is stuck
    pub needs-beside : w.stuck ≡ None → NeedsBeside lists (star_count lists) d known w.asked.equalities w.forms.items
        w.asked.pairs.items
    needs-beside free = record {
      skeleton =
          rows-skeleton p formed found
          (λ j follows. let (a, reached) = follows-reaches formed begins j follows in
          (gathered.done j a reached).row free);
      points = λ f. (gathered.forms f, form-there f);
      asked =
          λ pair. (
            λ either.
                gathered.pairs free pair (⊎_elim (λ given. inr given) (λ compared. inl compared) either),
            λ either.
                ⊎_elim (λ compared. inr compared) (λ given. inl given)
                (⊎_elim (λ early. gathered.keeps free pair early)
                (λ (asked : IsAsked lists (outset_of lists d) pair).
                (gathered.done asked.judgement asked.account asked.reached).pairs free pair asked.asks)
                either),
          );
      small =
          let numbers = start-amounts lists IsAmount (program-amount formed.program) p d found in
          All-weaker (Contains w.forms.items) (IsForm (star_count lists))
          (λ f among.
          let of = gathered.forms f among in
          subst (λ (g : Form). IsForm (star_count lists) g) (sym of.same)
          (point-is_form (star_count lists) of.account formed numbers (start-count p formed found) of.point))
          w.forms.items (All-contains_itself w.forms.items);
    }

    -- something is stuck
    pub first-stuck : (t : Stuck) → w.stuck ≡ Some t → IsFirstStuck lists d t.at t.form
    first-stuck t is =
        let of = gathered.stuck t is in
        let stuck = rowless-stuck p formed found (reaches-follows formed begins of.judgement of.account of.reached)
        (λ row. of.no_row row.0 row.1) in
        let none = stuck-no_skeleton p formed found stuck in
        record {
          stuck = record {
            judgement = of.judgement;
            node = of.node;
            stuck = stuck;
            stands = of.stands;
            offset = of.offset;
            is_form = of.is_form;
          };
          first =
              λ at (form, other).
              let (a, reached) = follows-reaches formed begins other.judgement other.stuck.follows in
              let done = gathered.done other.judgement a reached in
              let by : IsStuckBy w.stuck (code_offset other.node) =
              done.stuck (λ after row. stuck-rowless p formed found other.stuck (after, row)) other.node other.stands
              in
              let mine : t.at ≤ code_offset other.node =
              subst (λ (o : Option Stuck). IsStuckBy o (code_offset other.node)) is by
              in
              subst (λ (m : ℕ). t.at ≤ m) other.offset mine;
          no_skeleton = none;
          no_derivation = λ x derivation. none (derives-skeleton p x formed found derivation);
        }

    -- what is answered
    pub answers-by : (stuck : Option Stuck) → w.stuck ≡ stuck → (r : Result Checked ProcError)
        → MatchOption stuck (r ≡ Ok (record { forms = w.forms.items; pairs = w.asked.pairs.items }))
        (λ t. r ≡ Err (error.ProcType t.at t.form))
        → AnswersProcessBeside lists (star_count lists) d known w.asked.equalities r
    answers-by None free r is =
        subst (AnswersProcessBeside lists (star_count lists) d known w.asked.equalities) (sym is) (needs-beside free)
    answers-by (Some t) at r is =
        subst (AnswersProcessBeside lists (star_count lists) d known w.asked.equalities) (sym is) (first-stuck t at)

  -- with all pairs
  needs-checked : (new : Compared) (forms : List Form) (pairs all : List (Amount × Amount)) → all ≡ new.amounts ++ pairs
      → NeedsBeside lists (star_count lists) d nothing_compared new forms pairs
      → NeedsChecked lists (star_count lists) d forms all
  needs-checked new forms pairs all is needs =
      let Among : (Amount × Amount) → List (Amount × Amount) → Type 0 = λ q l. Contains l q in
      let rows : NeedsRows lists (star_count lists) d forms all = record {
        skeleton = needs.skeleton;
        points = needs.points;
        asked =
            λ q. (
              λ among.
                  ⊎_elim (λ early. absurd (contains-none q early)) (λ asked. asked)
                  ((needs.asked q).0
                  (⊎_elim (λ compared. inr compared) (λ given. inl given)
                  (Contains-append_cases new.amounts pairs q (subst (Among q) is among)))),
              λ asked.
                  subst (Among q) (sym is)
                  (⊎_elim (λ given. Contains-append_right new.amounts pairs q given)
                  (λ compared. Contains-append_left new.amounts pairs q compared)
                  ((needs.asked q).1 (inr asked))),
            );
      } in
      record { needs = rows; small = needs.small; law = needs-rows-law p formed found rows }

  pub joined-answers : (new : Compared) (checked : Checked) (r : Result Checked ProcError) → JoinsPairs new checked r
      → NeedsBeside lists (star_count lists) d nothing_compared new checked.forms checked.pairs
      → AnswersProcess lists (star_count lists) d r
  joined-answers new checked (Ok all) joins needs =
      let Needs : List Form → Type 0 = λ f. NeedsChecked lists (star_count lists) d f all.pairs in
      subst Needs (sym joins.0) (needs-checked new checked.forms checked.pairs all.pairs joins.1 needs)
  joined-answers new checked (Err (error.ProcType at form)) joins needs = absurd joins
  joined-answers new checked (Err error.NoMemory) joins needs = tt

-- below the length some declaration stands
pub declared-there : (procs : List ProcDecl) (p : ℕ) → p < length procs → (d : ProcDecl) × (slice_get procs p ≡ Some d)
declared-there [] p inside = absurd (omega arith)
declared-there (d ∷ procs) zero inside = (d, refl)
declared-there (d ∷ procs) (suc p) inside = declared-there procs p (omega arith)

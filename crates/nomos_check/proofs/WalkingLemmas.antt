-- One way after another.
use Rattle.std.proofs.Common.{◌≡◌, ◌<◌, ◌⊎◌, inl, inr, ⊎_elim, ℕ, List, [], ◌∷◌, ◌++◌, All, Contains, Some, sum_by, refl, sym, ap, subst, ◌∙◌, arith}
use Rattle.std.proofs.lemmas.List.Elements.{All-head, All-tail, All-cons, All-append, All-contains, All-pop, Contains-append_left, Contains-append_right, Contains-push, Contains-push_cases}
use Rattle.std.proofs.lemmas.List.Sums.{sum_by-cons, sum_by-append}
use Rattle.nomos_ir.specs.declared.lists.ProgramLists.{ProgramLists}
use Rattle.nomos_ir.specs.Amounts.{star_count}
use Rattle.nomos_types.proofs.FollowingLaws.{place}
use Rattle.nomos_types.proofs.OccurrenceLaws.{contains-cases, contains-tail, contains-head}
use Rattle.nomos_types.specs.Judgement.{Judgement}
use Rattle.nomos_types.specs.Typed.{IsWellFormed}
use Rattle.nomos_check.proofs.GatherLemmas.{grows-through, done-grows, gathers-through}
use Rattle.nomos_check.proofs.LimitLemmas.{room-at, list-amount}
use Rattle.nomos_check.proofs.MemberLemmas.{contains-none}
use Rattle.nomos_check.proofs.WeightLemmas.{work-append, way-place}
use Rattle.nomos_check.proofs.WithinLemmas.{within-on_way}
use Rattle.nomos_check.specs.Account.{Account}
use Rattle.nomos_check.specs.Reaching.{Outset, GetsTo}
use Rattle.nomos_check.specs.declared.standing.Forks.{Forks}
use Rattle.nomos_check.specs.declared.standing.Standing.{Standing}
use Rattle.nomos_check.specs.declared.standing.WayOn.{WayOn}
use Rattle.nomos_check.specs.declared.standing.WayOn.TheVariants as way
use Rattle.nomos_check.specs.declared.code_walk.CodeWalk.{CodeWalk}
use Rattle.nomos_check.specs.mirror.StandingData.{shape_of, HasAccount, IsWithin, IsWayOf, way_shape, way_account}
use Rattle.nomos_check.specs.mirror.Walking.{IsReached, LeadsFrom, IsDone, Grows, Gathers, AtStanding, AlongWay, IsPending, IsOpen, IsOnWay, IsWalk, WalksOn, Walking, Goes, way_next, weight, width, forks_work, work}
use Rattle.nomos_check.specs.mirror.Ways.{HasWayRoom, GoesWay}

-- what is left to do beside does not matter
grows-beside : (w : CodeWalk) (todo : List Forks) → Grows w (record w { todo = todo })
grows-beside w todo = record {
  forms = λ f among. among;
  pairs = λ free pair has. has;
  stuck = λ at by. by;
  none = λ free. free;
  places = record { wanted = refl; kept = λ t among. among; noted = λ e among. among };
}

gathers-beside : {lists : ProgramLists} {n : ℕ} {o : Outset} (w : CodeWalk) (todo : List Forks)
    → Gathers lists n o w (record w { todo = todo })
gathers-beside w todo = record {
  forms = λ f among. inl among;
  pairs = λ free pair has. inl has;
  stuck = λ s is. inl is;
  places = λ t among. inl among;
  potentials = λ e among. inl among;
}

pub walks-beside : (lists : ProgramLists) (n : ℕ) (todo : List Forks) (w : CodeWalk) (beside : List Forks)
    → WalksOn lists n todo w todo (record w { todo = beside })
walks-beside lists n todo w beside = λ o first walking. record {
  complete = λ j a leads. ⊎_elim (λ done. inl (done-grows (grows-beside w beside) done)) (λ left. inr left)
      (walking.complete j a leads);
  gathers = gathers-through walking.gathers (grows-beside w beside) (gathers-beside w beside);
  grows = grows-through walking.grows (grows-beside w beside);
  is_open = walking.is_open;
}

module _ (lists : ProgramLists) (n : ℕ) (f : Forks) (todo : List Forks) (w : CodeWalk) where
  -- no way is left
  pub walks-none : f.ways.items ≡ [] → WalksOn lists n (f ∷ todo) w todo w
  walks-none none = λ o first walking. record {
    complete =
        λ j a leads.
        ⊎_elim (λ done. inl done)
        (λ (left : IsPending lists n (f ∷ todo) j a).
        ⊎_elim
        (λ here.
        let ways = ap (λ (g : Forks). g.ways.items) here in
        absurd (contains-none left.way (subst (λ (l : List WayOn). Contains l left.way) (sym ways ∙ none) left.inside)))
        (λ later. inr (record {
          forks = left.forks;
          among = later;
          way = left.way;
          inside = left.inside;
          along =
              left.along;
        }))
        (contains-cases f left.forks todo left.among))
        (walking.complete j a leads);
    gathers = walking.gathers;
    grows = walking.grows;
    is_open = All-tail (IsOpen lists n _) f todo walking.is_open;
  }

  -- one way is gone
  module _ (rest : Forks) (before : rest.before ≡ f.before) (taken : WayOn)
      (all : f.ways.items ≡ rest.ways.items ++ taken ∷ [])
      (s : Standing) (goes_way : GoesWay f.before taken s) where
    inside-all : Contains f.ways.items taken
    inside-all = subst (λ (l : List WayOn). Contains l taken) (sym all) (Contains-push rest.ways.items taken)

    pub way-reached : (o : Outset) → IsOpen lists n o f → IsReached lists n o s
    way-reached o is_open = record {
      account = way_account is_open.account taken;
      has = goes_way.account n is_open.account is_open.has;
      reached =
          subst (λ (j : Judgement). GetsTo lists o j (way_account is_open.account taken)) (sym goes_way.shape)
          (is_open.reached taken inside-all);
    }

    along-standing : (j : Judgement) (a : Account) → AlongWay lists n f taken j a → AtStanding lists n s j a
    along-standing j a along = record {
      account = way_account along.account taken;
      has = goes_way.account n along.account along.has;
      leads =
          subst (λ (k : Judgement). LeadsFrom lists k (way_account along.account taken) j a)
          (sym goes_way.shape) along.leads;
    }

    along-rest : (v : WayOn) (j : Judgement) (a : Account) → AlongWay lists n f v j a → AlongWay lists n rest v j a
    along-rest v j a along = record {
      account = along.account;
      has = subst (λ (k : Standing). HasAccount n k along.account) (sym before) along.has;
      leads = subst (λ (k : Standing). LeadsFrom lists (way_shape (shape_of k) v) (way_account along.account v) j a)
          (sym before) along.leads;
    }

    open-rest : (o : Outset) → IsOpen lists n o f → IsOpen lists n o rest
    open-rest o is_open =
        let Open : Standing → Type 0 = λ k. HasAccount n k is_open.account in
        let parts = All-pop (IsWayOf f.before) f.ways.items rest.ways.items (Some taken) all is_open.there in
        record {
          account = is_open.account;
          has = subst Open (sym before) is_open.has;
          base = subst (λ (k : Standing). GetsTo lists o (shape_of k) is_open.account) (sym before) is_open.base;
          there = subst (λ (k : Standing). All (IsWayOf k) rest.ways.items) (sym before) parts.0;
          reached =
              λ v inside.
              subst (λ (k : Standing). GetsTo lists o (way_shape (shape_of k) v) (way_account is_open.account v))
              (sym before)
              (is_open.reached v (subst (λ (l : List WayOn). Contains l v) (sym all)
              (Contains-append_left rest.ways.items (taken ∷ []) v inside)));
        }

    -- the others are left to do, with what is added
    pub walks-way : (new : CodeWalk) → Goes lists n s (record w { todo = rest ∷ todo }) new
        → WalksOn lists n (f ∷ todo) w new.todo new
    walks-way new goes = λ o first walking.
        let is_open = All-head (IsOpen lists n o) f todo walking.is_open in
        let reached = way-reached o is_open in
        let grows = grows-through (grows-beside w (rest ∷ todo)) goes.grows in
        let Left : Judgement → Account → Type 0 = λ j a. IsDone lists n new j a ⊎ IsPending lists n new.todo j a in
        let put : (j : Judgement) (a : Account) (g : Forks) (v : WayOn) → Contains (goes.added ++ rest ∷ todo) g
        → Contains g.ways.items v → AlongWay lists n g v j a → Left j a =
        λ j a g v among inside along.
        inr (record {
          forks = g;
          among = subst (λ (l : List Forks). Contains l g)
              (sym goes.todo) among;
          way = v;
          inside = inside;
          along = along;
        })
        in
        record {
          complete =
              λ j a leads.
              ⊎_elim (λ done. inl (done-grows grows done))
              (λ (left : IsPending lists n (f ∷ todo) j a).
              ⊎_elim
              (λ here.
              let v = left.way in
              let along : AlongWay lists n f v j a = subst (λ (g : Forks). AlongWay lists n g v j a)
              (sym here) left.along in
              let ways = ap (λ (g : Forks). g.ways.items) here in
              let inside : Contains (rest.ways.items ++ taken ∷ []) v = subst (λ (l : List WayOn). Contains l v)
              (sym ways ∙ all) left.inside in
              ⊎_elim
              (λ early.
              put j a rest v (Contains-append_right goes.added (rest ∷ todo) rest
              (contains-head rest rest todo refl)) early
              (along-rest v j a along))
              (λ same.
              let mine : AlongWay lists n f taken j a = subst (λ (u : WayOn). AlongWay lists n f u j a)
              (sym same) along in
              ⊎_elim (λ done. inl done)
              (λ (added : IsPending lists n goes.added j a).
              put j a added.forks added.way (Contains-append_left goes.added
              (rest ∷ todo) added.forks added.among) added.inside added.along)
              (goes.complete j a (along-standing j a mine)))
              (Contains-push_cases rest.ways.items taken v inside))
              (λ later.
              put j a left.forks left.way
              (Contains-append_right goes.added (rest ∷ todo) left.forks
              (contains-tail rest left.forks todo later)) left.inside left.along)
              (contains-cases f left.forks todo left.among))
              (walking.complete j a leads);
          gathers =
              gathers-through walking.gathers grows
              (gathers-through (gathers-beside w (rest ∷ todo)) goes.grows (goes.gathers o reached));
          grows = grows-through walking.grows grows;
          is_open =
              subst (All (IsOpen lists n o)) (sym goes.todo)
              (All-append (IsOpen lists n o) goes.added (rest ∷ todo) (goes.is_open o reached)
              (All-cons (IsOpen lists n o) rest todo (open-rest o is_open) (All-tail
              (IsOpen lists n o) f todo walking.is_open)));
        }

    -- and less is left to do
    pub way-light : (new : CodeWalk) → Goes lists n s (record w { todo = rest ∷ todo }) new
        → work (width lists) new.todo < work (width lists) (f ∷ todo)
    way-light new goes =
        let b = width lists in
        let of_way : WayOn → ℕ = λ v. weight b (way_next v) in
        let code : s.code.0 ≡ way_next taken = ap place goes_way.shape ∙ way-place (shape_of f.before) taken in
        let lighter = goes.light in
        let same : weight b s.code.0 ≡ weight b (way_next taken) = ap (weight b) code in
        let sums = ap (work b) goes.todo ∙ work-append b goes.added (rest ∷ todo) in
        let ways = ap (sum_by of_way) all ∙ sum_by-append of_way rest.ways.items (taken ∷ []) in
        omega (
          arith,
          sum_by-cons (forks_work b) rest todo,
          sum_by-cons
              (forks_work b) f todo,
          sum_by-cons of_way taken [],
          sums,
          ways,
          same,
          lighter,
        )

-- there is room for what a way frees
room-by : {lists : ProgramLists} (s : Standing) (v : WayOn) → IsWellFormed lists → IsWithin lists s → IsWayOf s v
    → HasWayRoom s v
room-by s (way.Label c t next) formed within there = tt
room-by s (way.Truth next) formed within there = tt
room-by s (way.Empty u next) formed within there = tt
room-by s (way.Full p) formed within there =
    room-at formed.program s p.carried.amount within (list-amount s p.list.0 p.carried within there)

module _ {lists : ProgramLists} (f : Forks) (todo : List Forks) (w : CodeWalk) (formed : IsWellFormed lists)
    (walk : IsWalk lists (star_count lists) (f ∷ todo) w) where
  first-open : IsOpen lists (star_count lists) walk.outset f
  first-open = All-head (IsOpen lists (star_count lists) walk.outset) f todo walk.walking.is_open

  pub way-room : (v : WayOn) → Contains f.ways.items v → HasWayRoom f.before v
  way-room v inside =
      let on_way : IsOnWay lists (star_count lists) f.before = record {
        outset = walk.outset;
        within = walk.within;
        reached = record { account = first-open.account; has = first-open.has; reached = first-open.base };
      } in
      room-by f.before v formed (within-on_way f.before on_way)
      (All-contains (IsWayOf f.before) f.ways.items v first-open.there inside)

  pub way-on_way : (rest : Forks) → rest.before ≡ f.before → (taken : WayOn)
      → f.ways.items ≡ rest.ways.items ++ taken ∷ []
      → (s : Standing) → GoesWay f.before taken s → IsOnWay lists (star_count lists) s
  way-on_way rest before taken all s goes_way = record {
    outset = walk.outset;
    within = walk.within;
    reached = way-reached lists (star_count lists) f todo w rest before taken all s goes_way walk.outset first-open;
  }

-- ---- walks as such

module _ (lists : ProgramLists) (n : ℕ) where
  -- a walk goes on
  pub walk-on : (todo : List Forks) (old : CodeWalk) (rest : List Forks) (new : CodeWalk)
      → WalksOn lists n todo old rest new
      → IsWalk lists n todo old → IsWalk lists n rest new
  walk-on todo old rest new on walk = record {
    outset = walk.outset;
    within = walk.within;
    first = walk.first;
    walking = on walk.outset walk.first walk.walking;
  }

  pub walk-beside : (todo : List Forks) (w : CodeWalk) (beside : List Forks) → IsWalk lists n todo w
      → IsWalk lists n todo (record w { todo = beside })
  walk-beside todo w beside walk =
      walk-on todo w todo (record w { todo = beside }) (walks-beside lists n todo w beside) walk

  pub walks-through : {todo between rest : List Forks} {old mid new : CodeWalk} → WalksOn lists n between mid rest new
      → WalksOn lists n todo old between mid → WalksOn lists n todo old rest new
  walks-through second first = λ o w walking. second o w (first o w walking)

  -- a way was taken from what was left to do
  pub popped-walks : (todo : List Forks) (w : CodeWalk) (f : Forks) (rest : List Forks) (new : CodeWalk)
      → todo ≡ f ∷ rest
      → WalksOn lists n (f ∷ rest) (record w { todo = rest }) new.todo new → WalksOn lists n todo w new.todo new
  popped-walks todo w f rest new is on = λ o first walking.
      on o first
      (walks-beside lists n (f ∷ rest) w rest o first
      (subst (λ (l : List Forks). Walking lists n o first l w) is walking))

-- The steps of a turn keep the invariant: draw, look, count and serve.
use Rattle.std.proofs.Common.{◌≡◌, ◌≢◌, ◌⊎◌, ℕ, ◌+◌, ◌%◌, ◌^◌, ◌<◌, Option, Some, None, List, [], ◌∷◌, ◌++◌, length, get_or, set, slice_index, refl, ap, sym, ◌∙◌, subst, inl, inr, ⊎_elim, arith, length-set, get_or-set_same, get_or-set_other, append-nil}
use Rattle.std.proofs.Math.Nat.{mod-add-mod}
use Rattle.std.proofs.lemmas.List.{set-get_or, length_push}
use mathlib.Core.Option as home
use mathlib.Core.List.{IsPrefix}
use mathlib.Core.Logic.{dite}
use native.Mathlib.Decide.{ℕ_discrete}
use lib.ListN.{get_elem?}
use Rattle.atomic_table.specs.Table.{State, step, keeps, takes, gives, stepped, Allows, rest}
use Rattle.atomic_table.proofs.Lists.{set_again, one_turn}
use Rattle.nomos_floor.specs.OwnEntries.{mine}
use Rattle.nomos_floor.specs.FloorView.{ticket_of, IsLive}
use Rattle.nomos_floor.specs.FloorInvariant.{Sits, Slot, Invariant}
use Rattle.nomos_floor.specs.FloorSteps.{Holder, draw, look, count, serve, at_stage, at_turn, adding}
use Rattle.nomos_floor.specs.mirror.TurnSeats.{HasCounted}
use Rattle.nomos_floor.specs.declared.view.PassView.{PassView}
use Rattle.nomos_floor.specs.declared.view.Stage.TheVariants.{Idle, Waiting, Serving}
use Rattle.nomos_floor.proofs.HistoryLaws.{mine_push_own}
use Rattle.nomos_floor.proofs.TicketParts.{keeps_ticket, draws_ticket, serves_ticket, keeps_slot, takes_slot, counts_slot, serves_slot}
use Rattle.nomos_floor.proofs.NumberParts.{few_tickets, keeps_numbers, grows_numbers, keeps_fits, grows_fits}

-- a word after it was written, and after another was
pub written : (ws : List ℕ) (i x : ℕ) → length ws ≡ 3 → i < 3 → get_or (set ws i x) i 0 ≡ x
written ws i x wide inside = get_or-set_same ws i x 0 (omega arith)

pub unwritten : (ws : List ℕ) (i j x : ℕ) → j ≢ i → get_or (set ws i x) j 0 ≡ get_or ws j 0
unwritten ws i j x apart = get_or-set_other ws i j x 0 apart

-- a word that counts n is one that counts n + 1, after 1 was added
pub counts_on : (word n : ℕ) → word ≡ n % 2 ^ 64 → (word + 1) % 2 ^ 64 ≡ (n + 1) % 2 ^ 64
counts_on word n is = ap (λ (w : ℕ). (w + 1) % 2 ^ 64) is ∙ mod-add-mod n (2 ^ 64) 1

pub home_cases : {A : Type 0} (homes : List (home.Option A)) → length homes ≡ 1
    → (homes ≡ home.none ∷ []) ⊎ ((slot : A) × (homes ≡ home.some slot ∷ []))
home_cases [] long = absurd (omega arith)
home_cases (home.none ∷ []) long = inl refl
home_cases (home.some slot ∷ []) long = inr (slot, refl)
home_cases (h ∷ h' ∷ homes) long = absurd (omega arith)

-- what a seat holds
pub one_held : {W : Type 0} (a b : W) → (let held : List (ℕ × Option W) = (0, Some a) ∷ [] in held) ≡ (0, Some b) ∷ []
    → a ≡ b
one_held {W} a b same =
    let pair : Some a ≡ Some b = ap (λ (l : List (ℕ × Option W)). (get_or l 0 (0, Some a)).1) same in cc (pair)

pub live_idle : {W E : Type 0} (v : PassView W E) → v.stage ≡ Idle → IsLive v.stage
live_idle v idle = subst IsLive (sym idle) tt

pub live_waiting : {W E : Type 0} (v : PassView W E) (t : ℕ) → v.stage ≡ Waiting t → IsLive v.stage
live_waiting v t waiting = subst IsLive (sym waiting) tt

pub live_serving : {W E : Type 0} (v : PassView W E) (t : ℕ) → v.stage ≡ Serving t → IsLive v.stage
live_serving v t serving = subst IsLive (sym serving) tt

module _ {W S E : Type 0} (start : W → S) (history : W → List (ℕ × E)) (opened : W) where
  abbrev pub Holds : State (Option W) (PassView W E) → Type 0
  Holds = Invariant start history opened

  pub draws : (slots id : ℕ) (m : Holder W E) → m.0.stage ≡ Idle
      → Allows Holds slots id m 0 (λ n. (n + 1) % 2 ^ 64) (draw (step slots 0 1 0 home.none) m)
  draws slots id m idle s o long me small =
      let v : PassView W E = m.0 in
      let w : PassView W E = at_stage (Waiting o.drawn) v in
      let x : ℕ = (slice_index s.words 0 + 1) % 2 ^ 64 in
      let ws : List ℕ = set s.words 0 x in
      let live = live_idle v idle in
      let f = o.fits id v me live in (
        w,
        keeps,
        tt,
        record {
          served = o.served;
          drawn = o.drawn + 1;
          log = o.log;
          next = o.next;
          out = o.out;
          gone = o.gone;
          wide = length-set s.words 0 x ∙ o.wide;
          tickets =
              draws_ticket o.tickets id v ws me idle
              (written s.words 0 x o.wide (omega arith) ∙ counts_on (slice_index s.words 0) o.drawn o.tickets.ticket)
              (unwritten s.words 0 1 x (λ e. omega arith));
          slot = keeps_slot o.slot id v w me (λ t e. cc (idle, e)) (λ t e. cc (e));
          one_history =
              record {
                count = unwritten s.words 0 2 x (λ e. omega arith)
                    ∙ o.one_history.count;
                work = o.one_history.work;
              };
          fits =
              keeps_fits opened o.log s.views id w
              (record { floor = f.floor; seen = f.seen; told = f.told; own = f.own }) o.fits;
          numbers = keeps_numbers o.numbers id v w me live tt refl refl refl refl;
        },
        (o.drawn, sym o.tickets.ticket, refl),
      )

  -- a step that changes nothing
  unmoved : (s : State (Option W) (PassView W E)) (i id : ℕ) (m : Holder W E) → get_elem? s.views id ≡ home.some m.0
      → Holds s → Holds (stepped s i (slice_index s.words i) id m.1 m.0 keeps)
  unmoved s i id m me o =
      subst Holds (λ k. record {
        words = sym (set-get_or s.words i 0) k;
        homes = s.homes;
        views = sym (set_again s.views id m.0 me) k;
      }) o

  -- its ticket is the one that is served where they agree modulo 2 ^ 64
  agrees : (s : State (Option W) (PassView W E)) (o : Holds s) (id t : ℕ) (v : PassView W E) → Sits s.views id v
      → ticket_of v.stage ≡ Some t → slice_index s.words 1 ≡ t % 2 ^ 64 → o.served ≡ t
  agrees s o id t v me has found =
      let b = o.tickets.between id t v me has in
      one_turn o.served t (2 ^ 64) b.0 (omega (arith, o.tickets.run, few_tickets o.numbers))
      (sym o.tickets.serving ∙ found)

  -- while a pass waits for the ticket that is served, the slot is full
  full : (s : State (Option W) (PassView W E)) (o : Holds s) (id : ℕ) (v : PassView W E) → length s.homes ≡ 1
      → Sits s.views id v → v.stage ≡ Waiting o.served → (slot : Option W) × (s.homes ≡ home.some slot ∷ [])
  full s o id v one me waiting = ⊎_elim
      (λ (none : s.homes ≡ home.none ∷ []). let e = o.slot.empty none in
      let same : e.0 ≡ id = o.tickets.distinct e.0 id o.served e.1 v e.2 me (ap ticket_of e.3) (ap ticket_of waiting) in
      let both : e.1 ≡ v = home.some-injective e.1 v (sym e.2 ∙ (ap (λ (k : ℕ). get_elem? s.views k) same ∙ me)) in
      let no : Serving o.served ≡ Waiting o.served = sym e.3 ∙ (ap (λ (x : PassView W E). x.stage) both ∙ waiting) in
      cc (no))
      (λ (some_slot : (slot : Option W) × (s.homes ≡ home.some slot ∷ [])). some_slot) (home_cases s.homes one)

  pub looks : (id t : ℕ) (m : Holder W E) → m.0.stage ≡ Waiting t
      → Allows Holds 1 id m 1 (λ n. n) (look start history (step 1 1 0 0 home.none) m)
  looks id t m waiting s o long me small =
      let v : PassView W E = m.0 in
      let live = live_waiting v t waiting in
      let f = o.fits id v me live in
      let ticket_is : (t' : ℕ) → v.stage ≡ Waiting t' → t ≡ t' = λ t' e. cc (waiting, e) in
      dite (ℕ_discrete (slice_index s.words 1) (t % 2 ^ 64))
      (λ hit.
      let now : o.served ≡ t = agrees s o id t v me (ap ticket_of waiting) hit in
      let waits : v.stage ≡ Waiting o.served = waiting ∙ ap (λ (n : ℕ). Waiting n) (sym now) in
      let there = full s o id v long me waits in
      let slot : Option W = there.0 in
      let held = o.one_history.work slot there.1 in
      let work : W = held.0 in
      let w : PassView W E = at_turn o.served o.log v in
      let x : ℕ = slice_index s.words 1 in
      let ws : List ℕ = set s.words 1 x in
      let same : (j : ℕ) → get_or ws j 0
      ≡ get_or s.words j 0 = λ j. ap (λ (l : List ℕ). get_or l j 0) (set-get_or s.words 1 0) in
      let empty : set s.homes 0 home.none
      ≡ home.none ∷ [] = ap (λ (l : List (home.Option (Option W))). set l 0 home.none) there.1 in (
        w,
        takes 0 (Some work),
        ap (λ (l : List (home.Option (Option W))). get_elem? l 0) there.1
            ∙ ap (λ (y : Option W). home.some (home.some y)) held.1,
        record {
          served = o.served;
          drawn = o.drawn;
          log = o.log;
          next = o.next;
          out = o.out;
          gone = o.gone;
          wide = length-set s.words 1 x ∙ o.wide;
          tickets = keeps_ticket o.tickets id v w ws me (sym (ap ticket_of waits)) (same 0) (same 1);
          slot =
              subst (λ hs. Slot o.served o.log hs (set s.views id w)) (sym empty)
              (takes_slot o.slot id v slot there.1 me);
          one_history = record {
            count = same 2 ∙ o.one_history.count;
            work = λ other filled. absurd (home.some-ne-none other (cc (filled, empty)));
          };
          fits =
              keeps_fits opened o.log s.views id w
              (record { floor = f.floor; seen = ([], append-nil o.log); told = f.told; own = f.own }) o.fits;
          numbers = keeps_numbers o.numbers id v w me live tt refl refl refl refl;
        },
        λ t' e. (
          (λ _. (
            work,
            (λ k. (at_turn ((now ∙ ticket_is t' e) k) (sym held.3 k) v, (0, Some work) ∷ m.1)),
            (
              (λ opened' is. let one : opened ≡ opened' = cc (f.floor, is) in held.2 ∙ ap start one),
              subst (λ l. IsPrefix v.seen l) (sym held.3) f.seen,
              f.own ∙ ap (mine v.number) (sym held.3),
            ),
          )),
          (λ miss. absurd (miss (hit ∙ ap (λ (n : ℕ). n % 2 ^ 64) (ticket_is t' e)))),
        ),
      ))
      (λ miss. (
        v,
        keeps,
        tt,
        unmoved s 1 id m me o,
        λ t' e. ((λ hit. absurd (miss (hit ∙ ap (λ (n : ℕ). n % 2 ^ 64) (sym (ticket_is t' e))))), (λ _. refl)),
      ))

  pub counts : (slots id t : ℕ) (m : Holder W E) (work : W) (e : E) → m.0.stage ≡ Serving t → m.1 ≡ (0, Some work) ∷ []
      → history work ≡ m.0.seen ++ (m.0.number, e) ∷ []
      → Allows Holds slots id m 2 (λ n. (n + 1) % 2 ^ 64) (count history (step slots 2 1 0 home.none) m)
  counts slots id t m work e turn holds longer s o long me small =
      let v : PassView W E = m.0 in
      let w : PassView W E = adding e v in
      let live = live_serving v t turn in
      let k = o.slot.turn id t v me turn in
      let serving : v.stage ≡ Serving o.served = turn ∙ ap (λ (n : ℕ). Serving n) k.1 in
      let x : ℕ = (slice_index s.words 2 + 1) % 2 ^ 64 in
      let ws : List ℕ = set s.words 2 x in
      let log : List (ℕ × E) = o.log ++ (v.number, e) ∷ [] in (
        w,
        keeps,
        tt,
        record {
          served = o.served;
          drawn = o.drawn;
          log = log;
          next = o.next;
          out = o.out;
          gone = o.gone;
          wide = length-set s.words 2 x ∙ o.wide;
          tickets =
              keeps_ticket o.tickets id v w ws me refl (unwritten s.words 2 0 x (λ z. omega arith))
              (unwritten s.words 2 1 x (λ z. omega arith));
          slot = counts_slot o.tickets o.slot id v e me serving;
          one_history = record {
            count =
                written s.words 2 x o.wide (omega arith)
                ∙ (counts_on (slice_index s.words 2) (length o.log) o.one_history.count
                ∙ ap (λ (n : ℕ). n % 2 ^ 64) (sym (length_push o.log (v.number, e))));
            work = λ slot filled. absurd (home.some-ne-none slot (cc (filled, k.0)));
          };
          fits = grows_fits o.numbers opened id v e me live k.2 o.fits;
          numbers = keeps_numbers (grows_numbers o.numbers id v e me live) id v w me live live refl refl refl refl;
        },
        (e, refl, λ other is. ap history (one_held other work (sym is ∙ holds)) ∙ longer),
      )

  serves_here : (slots id t : ℕ) (v : PassView W E) (work : W) → v.stage ≡ Serving t → history work ≡ v.seen
      → start work ≡ start opened
      → Allows Holds slots id (v, (0, Some work) ∷ []) 1 (λ n. (n + 1) % 2 ^ 64)
      (serve (step slots 1 1 0 home.none) (v, (0, Some work) ∷ []))
  serves_here slots id t v work turn whole begun s o long me small =
      let w : PassView W E = at_stage Idle v in
      let live = live_serving v t turn in
      let k = o.slot.turn id t v me turn in
      let f = o.fits id v me live in
      let serving : v.stage ≡ Serving o.served = turn ∙ ap (λ (n : ℕ). Serving n) k.1 in
      let x : ℕ = (slice_index s.words 1 + 1) % 2 ^ 64 in
      let ws : List ℕ = set s.words 1 x in
      let back : set s.homes 0 (home.some (Some work))
      ≡ home.some (Some work) ∷ [] = ap (λ (l : List (home.Option (Option W))). set l 0 (home.some (Some work)))
      k.0 in (
        w,
        gives,
        tt,
        record {
          served = o.served + 1;
          drawn = o.drawn;
          log = o.log;
          next = o.next;
          out = o.out;
          gone = o.gone;
          wide = length-set s.words 1 x ∙ o.wide;
          tickets =
              serves_ticket o.tickets id v ws me serving (unwritten s.words 1 0 x (λ z. omega arith))
              (written s.words 1 x o.wide (omega arith) ∙ counts_on (slice_index s.words 1) o.served o.tickets.serving);
          slot =
              subst (λ hs. Slot (o.served + 1) o.log hs (set s.views id w)) (sym back)
              (serves_slot o.tickets o.slot id v (Some work) me serving);
          one_history = record {
            count = unwritten s.words 1 2 x (λ z. omega arith) ∙ o.one_history.count;
            work = λ slot filled. (work, (let same : slot ≡ Some work = cc (filled, back) in same), begun, whole ∙ k.2);
          };
          fits =
              keeps_fits opened o.log s.views id w
              (record { floor = f.floor; seen = f.seen; told = f.told; own = f.own }) o.fits;
          numbers = keeps_numbers o.numbers id v w me live tt refl refl refl refl;
        },
        refl,
      )

  pub serves : (slots id t : ℕ) (m : Holder W E) (work : W) → m.0.stage ≡ Serving t → m.1 ≡ (0, Some work) ∷ []
      → history work ≡ m.0.seen → start work ≡ start opened
      → Allows Holds slots id m 1 (λ n. (n + 1) % 2 ^ 64) (serve (step slots 1 1 0 home.none) m)
  serves slots id t m work turn holds whole begun =
      let is : m ≡ (m.0, (0, Some work) ∷ []) = λ k. (m.0, holds k) in
      subst (λ (m' : Holder W E). Allows Holds slots id m' 1 (λ n. (n + 1) % 2 ^ 64)
      (serve (step slots 1 1 0 home.none) m')) (sym is) (serves_here slots id t m.0 work turn whole begun)

  pub looks_at : (slots id t : ℕ) (m : Holder W E) → slots ≡ 1 → m.0.stage ≡ Waiting t
      → Allows Holds slots id m 1 (λ n. n) (look start history (step slots 1 0 0 home.none) m)
  looks_at slots id t m one waiting =
      subst (λ (n : ℕ). Allows Holds n id m 1 (λ k. k) (look start history (step n 1 0 0 home.none) m)) (sym one)
      (looks id t m waiting)

-- once its entry is counted, if there is one, the pass has seen the history of the work that it holds, and has just its
-- own entries
pub is_ready : {W E : Type 0} (history : W → List (ℕ × E)) (t : ℕ) (m n : Holder W E) (work : W) → m.0.stage ≡ Serving t
    → m.1 ≡ (0, Some work) ∷ [] → m.0.own ≡ mine m.0.number m.0.seen
    → HasCounted history m n → (n.0.stage ≡ Serving t) × (n.1 ≡ (0, Some work) ∷ []) × (history work ≡ n.0.seen)
    × (n.0.own ≡ mine m.0.number (history work))
is_ready {W} {E} history t m n work turn holds own counted = ⊎_elim
    (λ (added : (entry : E) × (n ≡ (adding entry m.0, m.1))).
    let v : PassView W E = m.0 in
    let e : E = added.0 in
    let after : n ≡ (adding e v, m.1) = added.1 in
    let longer : history work ≡ v.seen ++ (v.number, e) ∷ [] = counted.1 work holds
    ∙ ap (λ (k : Holder W E). k.0.seen) after in (
      ap (λ (k : Holder W E). k.0.stage) after ∙ turn,
      ap (λ (k : Holder W E). k.1) after ∙ holds,
      counted.1 work holds,
      ap (λ (k : Holder W E). k.0.own) after
          ∙ (ap (λ (l : List E). l ++ e ∷ []) own
          ∙ (sym (mine_push_own v.number v.seen e) ∙ ap (mine v.number) (sym longer))),
    ))
    (λ (same : n ≡ m).
    let seen : history work ≡ m.0.seen = counted.1 work holds ∙ ap (λ (k : Holder W E). k.0.seen) same in (
      ap (λ (k : Holder W E). k.0.stage) same ∙ turn,
      ap (λ (k : Holder W E). k.1) same ∙ holds,
      counted.1 work holds,
      ap (λ (k : Holder W E). k.0.own) same ∙ (own ∙ ap (mine m.0.number) (sym seen)),
    )) counted.0

module _ {W E : Type 0} (v : PassView W E) (held : List (ℕ × Option W)) (m : Holder W E) (work : W) where
  -- the seat after the work was put into the slot
  abbrev pub Puts : Type 0
  Puts = (m ≡ (v, (0, Some work) ∷ rest held)) × (held ≡ (0, None) ∷ [])

  pub puts_work : (t : ℕ) → Puts → v.stage ≡ Serving t → (m.0.stage ≡ Serving t) × (m.1 ≡ (0, Some work) ∷ [])
  puts_work t put turn = (
    ap (λ (k : Holder W E). k.0.stage) put.0 ∙ turn,
    ap (λ (k : Holder W E). k.1) put.0
        ∙ ap (λ (l : List (ℕ × Option W)). (0, Some work) ∷ rest l) put.1,
  )

  -- and after its entry was counted, if there is one
  pub counts_work : (history : W → List (ℕ × E)) (t number : ℕ) (n : Holder W E) → Puts → v.stage ≡ Serving t
      → v.number ≡ number → v.own ≡ mine number v.seen → HasCounted history m n
      → (n.0.stage ≡ Serving t) × (n.1 ≡ (0, Some work) ∷ []) × (history work ≡ n.0.seen)
      × (n.0.own ≡ mine number (history work))
  counts_work history t number n put turn number_is own counted =
      let p = puts_work t put turn in
      let view : v ≡ m.0 = ap (λ (k : Holder W E). k.0) (sym put.0) in
      let number_here : number ≡ m.0.number = sym number_is ∙ ap (λ (u : PassView W E). u.number) view in
      let own_here : m.0.own ≡ mine m.0.number m.0.seen =
      subst (λ (k : ℕ). m.0.own ≡ mine k m.0.seen) number_here
      (subst (λ (u : PassView W E). u.own ≡ mine number u.seen) view own) in
      let ready = is_ready history t m n work p.0 p.1 own_here counted in
      (ready.0, ready.1, ready.2, ready.3 ∙ ap (λ (k : ℕ). mine k (history work)) (sym number_here))

  -- and what the pass knows of the floor and of its numbers it still knows
  pub counts_kept : (history : W → List (ℕ × E)) (n : Holder W E) → Puts → HasCounted history m n
      → (n.0.opened ≡ v.opened) × (n.0.number ≡ v.number) × (n.0.next ≡ v.next) × (n.0.out ≡ v.out)
      × (n.0.ended ≡ v.ended)
  counts_kept history n put counted = ⊎_elim
      (λ (added : (entry : E) × (n ≡ (adding entry m.0, m.1))). (
        ap (λ (k : Holder W E). k.0.opened) added.1 ∙ ap (λ (k : Holder W E). k.0.opened) put.0,
        ap (λ (k : Holder W E). k.0.number) added.1 ∙ ap (λ (k : Holder W E). k.0.number) put.0,
        ap (λ (k : Holder W E). k.0.next) added.1 ∙ ap (λ (k : Holder W E). k.0.next) put.0,
        ap (λ (k : Holder W E). k.0.out) added.1 ∙ ap (λ (k : Holder W E). k.0.out) put.0,
        ap (λ (k : Holder W E). k.0.ended) added.1 ∙ ap (λ (k : Holder W E). k.0.ended) put.0,
      ))
      (λ (same : n ≡ m). (
        ap (λ (k : Holder W E). k.0.opened) same ∙ ap (λ (k : Holder W E). k.0.opened) put.0,
        ap (λ (k : Holder W E). k.0.number) same ∙ ap (λ (k : Holder W E). k.0.number) put.0,
        ap (λ (k : Holder W E). k.0.next) same ∙ ap (λ (k : Holder W E). k.0.next) put.0,
        ap (λ (k : Holder W E). k.0.out) same ∙ ap (λ (k : Holder W E). k.0.out) put.0,
        ap (λ (k : Holder W E). k.0.ended) same ∙ ap (λ (k : Holder W E). k.0.ended) put.0,
      )) counted.0

-- the work that is taken out is the one that was put in
pub same_work : {W : Type 0} (held : List (ℕ × Option W)) (work other : W) (found : Option W)
    → held ≡ (0, Some work) ∷ [] → held ≡ (0, found) ∷ rest held → found ≡ Some other → work ≡ other
same_work {W} held work other found put taken is =
    let here : Some (Some work) ≡ Some found = ap first_value (sym put ∙ taken) in cc (here, is)
  where
    first_value : {W : Type 0} → List (ℕ × Option W) → Option (Option W)
    first_value [] = None
    first_value (e ∷ es) = Some e.1

-- A set that covers a state covers the state after a firing, once all whom that may have woken were told to it.
use Rattle.std.proofs.Common.{◌≡◌, ◌≢◌, ◌∙◌, ◌⊎◌, ◌<◌, ◌≤◌, ◌+◌, inl, inr, ℕ, IfSome, IsTrue, arith, ⊎_elim, Bool, true, false, Option, Some, None, IsSome, slice_get, is_some, refl, sym, subst, ap}
use Rattle.std.proofs.lemmas.Bool.{cases_eq, cases_lt}
use Rattle.std.proofs.lemmas.List.Elements.{All-contains}
use Rattle.std.specs.BTreeSet.{BTreeSet, contains}
use Rattle.std.specs.Ordering.{nat_cmp}
use Rattle.nomos_ir.specs.declared.code_node.CodeNode.{CodeNode}
use Rattle.nomos_ir.specs.declared.code_node.CodeNode.TheVariants as code
use Rattle.nomos_types.specs.Acceptance.{Acceptance, IsAccepted}
use Rattle.nomos_machine.specs.Objects.{object_number}
use Rattle.nomos_machine.specs.Optional.{◌>>=◌}
use Rattle.nomos_machine.specs.Readiness.{is_met_at, looks_ready, met_or_not}
use Rattle.nomos_machine.specs.Sight.{offering, owner, accept_next}
use Rattle.nomos_machine.specs.State.{State, process_at}
use Rattle.nomos_machine.specs.Step.{IsReady, deed, step}
use Rattle.nomos_machine.specs.TypedState.{IsTyped}
use Rattle.nomos_machine.specs.declared.object.Object.{Object}
use Rattle.nomos_machine.specs.declared.object.Object.TheVariants as object
use Rattle.nomos_machine.specs.declared.object.Process.{Process}
use Rattle.nomos_machine.proofs.PreservationLaws.{process_at-there, ready-told, ready-none}
use Rattle.nomos_deeds.specs.Readers.{acquires, acquires_at, waits}
use Rattle.nomos_ready.specs.Covering.{by_both, Covers, HasProxy, IsFollowed, IsNoted, MayBeReady}
use Rattle.nomos_ready.specs.Foreseeing.{IsForeseen}
use Rattle.nomos_ready.specs.Touching.{IsChanged, IsHeard, touch_of}
use Rattle.nomos_ready.specs.Woken.{NoneChanged, IsSpoken, IsSpokenTo, IsSameBut, Woken, itself, client, provider, releasing, acquiring}
use Rattle.nomos_ready.specs.declared.awake.Awake.{Awake}
use Rattle.nomos_ready.specs.declared.touch.Incoming.{Incoming}
use Rattle.nomos_ready.specs.declared.touch.Touch.{Touch}
use Rattle.nomos_ready.specs.declared.waking.Foreseen.{Foreseen}
use Rattle.nomos_ready.specs.mirror.ToldSets.{Tells}
use Rattle.nomos_ready.specs.mirror.Waking.{Leaves, MayWakeBy, WakesBy, WakesHeard}
use Rattle.nomos_ready.proofs.AwakeLemmas.{noted-back, noted-on, proxy-on, tells-same, tells-twice}
use Rattle.nomos_ready.proofs.TouchLaws.{step-same_but}
use Rattle.nomos_ready.proofs.WakeLaws.{process_at-own, ready-or_woken}

-- ---- who waits

-- a process that waits for a name is there
pub waiting-process : (a : Acceptance) (s : State) (q name : ℕ) → waits a s.objects q ≡ Some name
    → (p : Process) × (process_at s q ≡ Some p) × (acquires a p ≡ Some name)
waiting-process a s q name is = at (process_at s q) refl is
  where
    at : (o : Option Process) → process_at s q ≡ o → (o >>= acquires a) ≡ Some name
        → (p : Process) × (process_at s q ≡ Some p) × (acquires a p ≡ Some name)
    at (Some p) found is = (p, found, is)
    at None found is = absurd cc

-- a process that is ready is there
ready-process : (a : Acceptance) (s : State) (q : ℕ) → IsReady a s q → (p : Process) × (process_at s q ≡ Some p)
ready-process a s q is = at (process_at s q) refl is
  where
    at : (o : Option Process) → process_at s q ≡ o → IsSome (o >>= deed a s)
        → (p : Process) × (process_at s q ≡ Some p)
    at (Some p) found is = (p, found)
    at None found is = absurd cc

-- whether a contract stands at `accept`
abbrev opens : Acceptance → State → ℕ → Bool
opens a s name = is_some (offering s.objects name >>= λ other.
    slice_get a.program.code other.code.0 >>= accept_next)

-- who waits for it is ready exactly where it does
waiting-looks : (a : Acceptance) (s : State) (p : Process) (name : ℕ) → acquires a p ≡ Some name
    → looks_ready a s p ≡ opens a s name
waiting-looks a s p name is = at (slice_get a.program.code p.code.0) is
  where
    by_node : (n : CodeNode) → acquires_at p n ≡ Some name → is_met_at a s p n ≡ opens a s name
    by_node (code.Acquire at r v next) is =
        ap (λ (o : Option ℕ). is_some (o >>= λ shared. offering s.objects shared >>= λ other.
        slice_get a.program.code other.code.0 >>= accept_next)) is
    by_node n is = absurd cc

    at : (o : Option CodeNode) → (o >>= acquires_at p) ≡ Some name → met_or_not a s p o ≡ opens a s name
    at (Some n) is = by_node n is
    at None is = absurd cc

-- so where one is ready that waits for a name, all are
pub all-ready : {a : Acceptance} → IsAccepted a → {s : State} → IsTyped a s → (pid q name : ℕ) → IsReady a s pid
    → waits a s.objects pid ≡ Some name → waits a s.objects q ≡ Some name → IsReady a s q
all-ready {a} accepted {s} typed pid q name ready first second =
    let (p, found, is) = waiting-process a s pid name first in
    let (r, found_r, is_r) = waiting-process a s q name second in
    let looks = (ready-told accepted typed pid p found).0 ready in
    (ready-told accepted typed q r found_r).1
    (waiting-looks a s r name is_r ∙ sym (waiting-looks a s p name is) ∙ looks)

-- no process has the number 0
pub over-zero : {a : Acceptance} {s : State} → IsTyped a s → (q : ℕ) (p : Process) → process_at s q ≡ Some p → 0 < q
over-zero {a} {s} typed q p found =
    let (there, number) = process_at-there s q p found in
    let over =
    All-contains (λ (o : Object). 0 < object_number o) s.objects (object.Process p) typed.numbered.over there
    in
    omega (arith, over, number)

-- who has a number has one below the next
below-next : {a : Acceptance} {s : State} → IsTyped a s → (q : ℕ) (p : Process) → process_at s q ≡ Some p
    → q < s.next_object
below-next {a} {s} typed q p found =
    let (there, number) = process_at-there s q p found in
    let below =
    All-contains (λ (o : Object). object_number o < s.next_object) s.objects (object.Process p) typed.numbered.below
    there
    in
    omega (arith, below, number)

-- so where no object came under a number nobody is to be woken
pub nobody-born : {a : Acceptance} {s : State} → IsTyped a s → (number : ℕ) (w : Awake) → s.next_object ≤ number
    → WakesBy a s number w w
nobody-born {a} {s} typed number w le = record {
  itself = λ r is. absurd (none r is);
  tells = tells-same w;
  releasing = λ r n q stands ready is. absurd (none r stands.there);
  acquiring = λ r n q stands opens over noted. absurd (none r stands.there);
  unknown = λ r n q stands opens follows. absurd (none r stands.there);
}
  where
    none : (r : Process) → process_at s number ≡ Some r → ⊥
    none r is = let less = below-next typed number r is in omega (arith, less, le)

pub waiter-over : {a : Acceptance} {s : State} → IsTyped a s → (q name : ℕ) → waits a s.objects q ≡ Some name → 0 < q
waiter-over {a} {s} typed q name is =
    let (p, found, acquiring_it) = waiting-process a s q name is in over-zero typed q p found

-- who is ready has a number over 0
pub ready-over : {a : Acceptance} → IsAccepted a → {s : State} → IsTyped a s → (q : ℕ) → IsReady a s q → 0 < q
ready-over accepted {s} typed q ready = at (process_at s q) refl
  where
    at : (o : Option Process) → process_at s q ≡ o → 0 < q
    at (Some p) found = over-zero typed q p found
    at None found = absurd (ready-none accepted typed q found ready)

-- whether a name is followed
pub followed-or_not : (w : Awake) (name : ℕ) → IsFollowed w name ⊎ ¬ (IsFollowed w name)
followed-or_not w name =
    ⊎_elim
    (λ (under : name < w.first_name). at under (contains nat_cmp w.acquired name) refl)
    (λ (new : w.first_name ≤ name). inl (inl new))
    (cases_lt name w.first_name)
  where
    at : name < w.first_name → (b : Bool) → contains nat_cmp w.acquired name ≡ b
        → IsFollowed w name ⊎ ¬ (IsFollowed w name)
    at under true is = inl (inr is)
    at under false is = inr (λ followed. never followed)
      where
        never : IsFollowed w name → ⊥
        never (inl new) = omega (arith, under, new)
        never (inr there) = let both = sym is ∙ there in absurd cc

-- ---- waking, seen from the whole

module _ (a : Acceptance) (t : State) where
  -- what wakes between two sets wakes between any around them
  wakes-within : (u v w x : Awake) (number : ℕ) → Tells u v → WakesBy a t number v w → Tells w x
      → WakesBy a t number u x
  wakes-within u v w x number before wakes after = record {
    itself = λ r found. after.ready number (wakes.itself r found);
    tells = tells-twice u v x before (tells-twice v w x wakes.tells after);
    releasing = λ r n q stands detaches owns. after.ready q (wakes.releasing r n q stands detaches owns);
    acquiring = λ r n q stands accepts over noted.
        later r.offers q (wakes.acquiring r n q stands accepts over (noted-on u v before r.offers q noted));
    unknown = λ r n q stands accepts unfollowed.
        after.ready q (wakes.unknown r n q stands accepts (λ followed. unfollowed (before.followed r.offers followed)));
  }
    where
      later : (name q : ℕ) → MayBeReady w q ⊎ HasProxy w name q → MayBeReady x q ⊎ HasProxy x name q
      later name q (inl may) = inl (after.ready q may)
      later name q (inr has) = inr (proxy-on w x after name q has)

  partner-tells : (number : Option ℕ) (v w : Awake) → MayWakeBy a t number v w → Tells v w
  partner-tells (Some n) v w wakes = wakes.tells
  partner-tells None v w tells = tells

  partner-wakes : (number : Option ℕ) (n : ℕ) (v w : Awake) → number ≡ Some n → MayWakeBy a t number v w
      → WakesBy a t n v w
  partner-wakes (Some m) n v w is wakes =
      let same : m ≡ n = cc in
      subst (λ (k : ℕ). WakesBy a t k v w) same wakes
  partner-wakes None n v w is wakes = absurd cc

  heard-client : (heard : Option Incoming) (name q : ℕ) (w : Awake)
      → heard ≡ Some (record { to_client = true; name = name })
      → WakesHeard t heard w → owner t name ≡ Some q → MayBeReady w q
  heard-client (Some h) name q w is wakes owns =
      let way : h.to_client ≡ true = cc in
      let same : h.name ≡ name = cc in
      wakes.0 way q (ap (owner t) same ∙ owns)
  heard-client None name q w is wakes owns = absurd cc

  heard-provider : (heard : Option Incoming) (name : ℕ) (r : Process) (w : Awake)
      → heard ≡ Some (record { to_client = false; name = name }) → WakesHeard t heard w
      → offering t.objects name ≡ Some r → MayBeReady w r.pid
  heard-provider (Some h) name r w is wakes offers =
      let way : h.to_client ≡ false = cc in
      let same : h.name ≡ name = cc in
      wakes.1 way r (ap (offering t.objects) same ∙ offers)
  heard-provider None name r w is wakes offers = absurd cc

-- ---- the law

-- From a set on those that changed are noted no more, and all else is told as it was; but what is sought may have gone
-- on to one that changed.
pub record LeavesChanged (changed : ℕ → Type 0) (v u : Awake) : Type 0 where
  pub ready : (q : ℕ) → MayBeReady v q → MayBeReady u q
  pub noted : (n q : ℕ) → IsNoted v n q → IsNoted u n q ⊎ changed q
  pub back : (n q : ℕ) → IsNoted u n q → IsNoted v n q × ¬ (changed q)
  pub followed : (n : ℕ) → IsFollowed u n → IsFollowed v n
  pub sought : (q r : ℕ) → u.sought < q → (v.sought < q) × (v.sought < r → (u.sought < r) ⊎ changed r)

module _ {a : Acceptance} (accepted : IsAccepted a) {s t : State} (typed_s : IsTyped a s) (typed_t : IsTyped a t)
    (changed : ℕ → Type 0) (heard : Bool → ℕ → Type 0) (same : IsSameBut changed heard s t) (v u w : Awake)
    (covers : Covers a s v) (leaves : LeavesChanged changed v u) (tells : Tells u w)
    (wakes : (n : ℕ) → changed n → WakesBy a t n u w)
    (clients : (name q : ℕ) → heard true name → owner t name ≡ Some q → MayBeReady w q)
    (providers : (name : ℕ) (r : Process) → heard false name → offering t.objects name ≡ Some r → MayBeReady w r.pid)
    (offers : (r q name : ℕ) → changed r → waits a s.objects r ≡ Some name → 0 < q → IsNoted w name q
    → HasProxy w name q) where
  -- ---- who waits

  -- who waits in the second state changed, or waited in the first
  waited : (q name : ℕ) → waits a t.objects q ≡ Some name → changed q ⊎ (waits a s.objects q ≡ Some name)
  waited q name is =
      let (p, found, acquiring_it) = waiting-process a t q name is in
      let (there, number) = process_at-there t q p found in
      elim (same.processes p there) [
        | inl before ↦
            let at_s : process_at s q ≡ Some p =
            subst (λ (n : ℕ). process_at s n ≡ Some p) number (process_at-own typed_s p before)
            in
            inr (ap (λ (o : Option Process). o >>= acquires a) at_s ∙ acquiring_it)
        | inr changes ↦ inl (subst changed number changes)
      ]

  -- and who waited changed, or waits still
  waits-on : (q name : ℕ) → waits a s.objects q ≡ Some name → changed q ⊎ (waits a t.objects q ≡ Some name)
  waits-on q name is =
      let (p, found, acquiring_it) = waiting-process a s q name is in
      let (there, number) = process_at-there s q p found in
      elim (same.stays p there) [
        | inl after ↦
            let at_t : process_at t q ≡ Some p =
            subst (λ (n : ℕ). process_at t n ≡ Some p) number (process_at-own typed_t p after)
            in
            inr (ap (λ (o : Option Process). o >>= acquires a) at_t ∙ acquiring_it)
        | inr changes ↦ inl (subst changed number changes)
      ]

  -- who is noted waits
  noted-waits : (q name : ℕ) → IsNoted w name q → waits a t.objects q ≡ Some name
  noted-waits q name noted =
      let (before, unchanged) = leaves.back name q (noted-back u w tells name q noted) in
      elim (waits-on q name (covers.noted q name before)) [
        | inl changes ↦ absurd (unchanged changes)
        | inr still ↦ still
      ]

  may-on : (q : ℕ) → MayBeReady v q → MayBeReady w q
  may-on q may = tells.ready q (leaves.ready q may)

  -- ---- who is ready

  abbrev Told : ℕ → Type 0
  Told q = MayBeReady w q ⊎ ((name : ℕ) × HasProxy w name q)

  its-own : (q : ℕ) → (p : Process) × (process_at t q ≡ Some p) → changed q → Told q
  its-own q (p, there) changes = inl ((wakes q changes).itself p there)

  its-waiting : (q name : ℕ) → waits a t.objects q ≡ Some name → changed q → MayBeReady w q
  its-waiting q name is changes =
      let (p, there, acquiring_it) = waiting-process a t q name is in
      (wakes q changes).itself p there

  -- one in whose place another was told
  proxy-told : (q name : ℕ) → (p : Process) × (process_at t q ≡ Some p) → HasProxy v name q → Told q
  proxy-told q name there has =
      elim (leaves.noted name q has.noted) [
        | inr changes ↦ its-own q there changes
        | inl noted ↦ by_proxy (noted-on u w tells name q noted) (waits-on has.proxy name its_waits)
      ]
    where
      its_waits : waits a s.objects has.proxy ≡ Some name
      its_waits = covers.noted has.proxy name has.noted_too

      over : 0 < q
      over = waiter-over typed_s q name (covers.noted q name has.noted)

      by_offer : changed has.proxy → IsNoted w name q → Told q
      by_offer changes noted = inr (name, offers has.proxy q name changes its_waits over noted)

      still : IsNoted w name q → IsNoted u name has.proxy
          → (w.sought < q → (w.sought < has.proxy) ⊎ changed has.proxy) → Told q
      still noted proxy_noted behind =
          ⊎_elim
          (λ (less : w.sought < q).
          elim (behind less) [
            | inl further ↦ inr (name, stands noted proxy_noted (λ _. further))
            | inr changes ↦ by_offer changes noted
          ])
          (λ (up_to : q ≤ w.sought). inr (name, stands noted proxy_noted (λ less. absurd (omega (arith, less, up_to)))))
          (cases_lt w.sought q)
        where
          stands : IsNoted w name q → IsNoted u name has.proxy → (w.sought < q → w.sought < has.proxy)
              → HasProxy w name q
          stands noted proxy_noted over = record {
            noted = noted;
            proxy = has.proxy;
            noted_too = noted-on u w tells name has.proxy proxy_noted;
            told = may-on has.proxy has.told;
            low = has.low;
            over = over;
          }

      behind : w.sought < q → (w.sought < has.proxy) ⊎ changed has.proxy
      behind less =
          let here : u.sought < q = omega (arith, less, tells.sought) in
          let (before, on) = leaves.sought q has.proxy here in
          elim (on (has.over before)) [
            | inl further ↦ inl (omega (arith, further, tells.sought))
            | inr changes ↦ inr changes
          ]

      by_proxy : IsNoted w name q → changed has.proxy ⊎ (waits a t.objects has.proxy ≡ Some name) → Told q
      by_proxy noted (inl changes) = by_offer changes noted
      by_proxy noted (inr waiting) =
          elim (leaves.noted name has.proxy has.noted_too) [
            | inl proxy_noted ↦ still noted proxy_noted behind
            | inr changes ↦ by_offer changes noted
          ]

  -- one that waits for a contract that opened
  opened-told : (r : Process) (q : ℕ) → changed r.pid → waits a t.objects q ≡ Some r.offers
      → ((q : ℕ) → 0 < q → IsNoted u r.offers q → MayBeReady w q ⊎ HasProxy w r.offers q)
      → ((q : ℕ) → ¬ (IsFollowed u r.offers) → MayBeReady w q) → Told q
  opened-told r q changes waiting crowd unknown =
      elim (waited q r.offers waiting) [
        | inl own ↦ inl (its-waiting q r.offers waiting own)
        | inr before ↦
            elim (followed-or_not u r.offers) [
              | inr unfollowed ↦ inl (unknown q unfollowed)
              | inl followed ↦
                  elim (covers.waiting q r.offers before (leaves.followed r.offers followed)) [
                    | inl may ↦ inl (may-on q may)
                    | inr noted ↦ by_note noted
                  ]
            ]
      ]
    where
      by_note : IsNoted v r.offers q → Told q
      by_note noted =
          elim (leaves.noted r.offers q noted) [
            | inr own ↦ inl (its-waiting q r.offers waiting own)
            | inl still ↦
                elim (crowd q (waiter-over typed_t q r.offers waiting) still) [
                  | inl may ↦ inl may
                  | inr has ↦ inr (r.offers, has)
                ]
          ]

  woken-told : (q : ℕ) → (p : Process) × (process_at t q ≡ Some p) → Woken a changed heard t q → Told q
  woken-told q found (itself _ changes) = its-own q found changes
  woken-told q found (client name _ hears owns) = inl (clients name q hears owns)
  woken-told _ found (provider name r hears offering_it) = inl (providers name r hears offering_it)
  woken-told q found (releasing r n _ changes there stands detaches owns) =
      inl ((wakes r.pid changes).releasing r n q
      (record { there = process_at-own typed_t r there; stands = stands }) detaches owns)
  woken-told q found (acquiring r n _ changes there stands accepts waiting) =
      opened-told r q changes waiting
      (λ k over noted. (wakes r.pid changes).acquiring r n k
      (record { there = process_at-own typed_t r there; stands = stands }) accepts over noted)
      (λ k unfollowed. (wakes r.pid changes).unknown r n k
      (record { there = process_at-own typed_t r there; stands = stands }) accepts unfollowed)

  ready-told_again : (q : ℕ) → IsReady a t q → Told q
  ready-told_again q ready =
      elim (ready-or_woken accepted typed_s typed_t changed heard same q ready) [
        | inr woken ↦ woken-told q (ready-process a t q ready) woken
        | inl before ↦
            elim (covers.ready q before) [
              | inl may ↦ inl (may-on q may)
              | inr has ↦ proxy-told q has.0 (ready-process a t q ready) has.1
            ]
      ]

  pub covers-again : Covers a t w
  covers-again = record {
    ready = ready-told_again;
    waiting = λ q name is followed.
        elim (waited q name is) [
          | inl own ↦ inl (its-waiting q name is own)
          | inr before ↦
              elim (covers.waiting q name before (leaves.followed name (tells.followed name followed))) [
                | inl may ↦ inl (may-on q may)
                | inr noted ↦
                    elim (leaves.noted name q noted) [
                      | inl still ↦ inr (noted-on u w tells name q still)
                      | inr own ↦ inl (its-waiting q name is own)
                    ]
              ]
        ];
    noted = noted-waits;
  }

-- ---- a firing that was foreseen

-- what is left of a set once the process that fires and its partner are told to wait no more
leaves-changed : {a : Acceptance} {s : State} → IsTyped a s → (pid : ℕ) (f : Foreseen) (v u : Awake)
    → IsForeseen a s pid f → Covers a s v → Leaves f v u → LeavesChanged (IsChanged s pid (touch_of a s pid)) v u
leaves-changed {a} {s} typed pid f v u foreseen covers leaves = record {
  ready = leaves.ready;
  noted = λ n q noted.
      elim (leaves.noted n q noted) [
        | inl still ↦ inl still
        | inr own ↦
            elim own [
              | inl is ↦ inr (inl (is ∙ foreseen.fires))
              | inr is ↦ inr (inr (inr (sym touches ∙ is)))
            ]
      ];
  back = λ n q noted. (leaves.back n q noted, unchanged n q noted);
  followed = leaves.followed;
  sought = sought;
}
  where
    touches : f.touch.partner ≡ (touch_of a s pid).partner
    touches = ap (λ (o : Touch). o.partner) foreseen.touch

    unchanged : (n q : ℕ) → IsNoted u n q → IsChanged s pid (touch_of a s pid) q → ⊥
    unchanged n q noted (inl is) =
        let before = covers.noted q n (leaves.back n q noted) in
        let its : f.waits ≡ Some n = foreseen.own ∙ ap (waits a s.objects) (sym is) ∙ before in
        leaves.own n its (subst (IsNoted u n) (is ∙ sym foreseen.fires) noted)
    unchanged n q noted (inr (inl is)) =
        let (p, found, acquiring_it) = waiting-process a s q n (covers.noted q n (leaves.back n q noted)) in
        let (there, number) = process_at-there s q p found in
        let below =
        All-contains (λ (o : Object). object_number o < s.next_object) s.objects (object.Process p) typed.numbered.below
        there
        in
        omega (arith, below, number, is)
    unchanged n q noted (inr (inr is)) =
        let partner : f.touch.partner ≡ Some q = touches ∙ is in
        let before = covers.noted q n (leaves.back n q noted) in
        let its : f.partner_waits ≡ Some n =
        foreseen.partner ∙ ap (λ (o : Option ℕ). o >>= waits a s.objects) partner ∙ before
        in
        leaves.partner n q partner its noted

    sought : (q r : ℕ) → u.sought < q
        → (v.sought < q) × (v.sought < r → (u.sought < r) ⊎ IsChanged s pid (touch_of a s pid) r)
    sought q r less =
        elim leaves.sought [
          | inl same ↦ (omega (arith, same, less), λ over. inl (omega (arith, same, over)))
          | inr moved ↦ (omega (arith, moved.0, moved.1, less), λ over. behind moved.0 moved.1 over)
        ]
      where
        behind : u.sought ≡ f.pid → v.sought + 1 ≡ f.pid → v.sought < r
            → (u.sought < r) ⊎ IsChanged s pid (touch_of a s pid) r
        behind first second over =
            elim (cases_eq r f.pid) [
              | inl is ↦ inr (inl (is ∙ foreseen.fires))
              | inr other ↦ inl (omega (arith, first, second, over, other))
            ]

-- A set that covers the state before a firing covers the state after it, once the process, the object that came, the
-- partner and who reads what is heard were told to it, and the names are offered for which the first and the third
-- waited.
pub fired-covers : {a : Acceptance} → IsAccepted a → {s t : State} → IsTyped a s → IsTyped a t → (pid : ℕ)
    (f : Foreseen) → step a s pid ≡ Some t → IsForeseen a s pid f → (before u v w x y z last : Awake)
    → Covers a s before → Leaves f before u → WakesBy a t f.pid u v → WakesBy a t f.next v w
    → MayWakeBy a t f.touch.partner w x → WakesHeard t f.touch.heard y → Tells x y
    → IfSome f.waits (λ n. (q : ℕ) → 0 < q → IsNoted y n q → HasProxy z n q) → Tells y z
    → IfSome f.partner_waits (λ n. (q : ℕ) → 0 < q → IsNoted z n q → HasProxy last n q) → Tells z last
    → Covers a t last
fired-covers {a} accepted {s} {t} typed_s typed_t pid f steps foreseen before u v w x y z last covers leaves own comes
    partner hears told offers_own tells_own offers_partner tells_last =
    covers-again accepted typed_s typed_t (IsChanged s pid touch) (IsHeard touch)
    (step-same_but accepted typed_s pid steps)
    before u last covers (leaves-changed typed_s pid f before u foreseen covers leaves) tells_all wakes
    (λ name q is owns. after_y.ready q (heard-client a t f.touch.heard name q y (heard_is ∙ is) hears owns))
    (λ name r is offering_it. after_y.ready r.pid
    (heard-provider a t f.touch.heard name r y (heard_is ∙ is) hears offering_it))
    offers
  where
    touch : Touch
    touch = touch_of a s pid

    heard_is : f.touch.heard ≡ touch.heard
    heard_is = ap (λ (o : Touch). o.heard) foreseen.touch

    partner_is : f.touch.partner ≡ touch.partner
    partner_is = ap (λ (o : Touch). o.partner) foreseen.touch

    after_y : Tells y last
    after_y = tells-twice y z last tells_own tells_last

    after_x : Tells x last
    after_x = tells-twice x y last told after_y

    after_w : Tells w last
    after_w = tells-twice w x last (partner-tells a t f.touch.partner w x partner) after_x

    to_w : Tells u w
    to_w = tells-twice u v w own.tells comes.tells

    tells_all : Tells u last
    tells_all = tells-twice u w last to_w after_w

    wakes : (n : ℕ) → IsChanged s pid touch n → WakesBy a t n u last
    wakes n (inl is) =
        let here : WakesBy a t n u v =
        subst (λ (k : ℕ). WakesBy a t k u v) (foreseen.fires ∙ sym is) own
        in
        wakes-within a t u u v last n (tells-same u) here (tells-twice v w last comes.tells after_w)
    wakes n (inr (inl is)) =
        let here : WakesBy a t n v w =
        subst (λ (k : ℕ). WakesBy a t k v w) (foreseen.comes ∙ sym is) comes
        in
        wakes-within a t u v w last n own.tells here after_w
    wakes n (inr (inr is)) =
        let here : WakesBy a t n w x = partner-wakes a t f.touch.partner n w x (partner_is ∙ is) partner in
        wakes-within a t u w x last n to_w here after_x

    if-some : (P : ℕ → Type 0) (o : Option ℕ) (n : ℕ) → o ≡ Some n → IfSome o P → P n
    if-some P (Some m) n is holds = subst P (same is) holds
      where
        same : Some m ≡ Some n → m ≡ n
        same e = cc
    if-some P None n is holds = absurd cc

    offers : (r q name : ℕ) → IsChanged s pid touch r → waits a s.objects r ≡ Some name → 0 < q → IsNoted last name q
        → HasProxy last name q
    offers r q name (inl is) waiting over noted =
        let its : f.waits ≡ Some name = foreseen.own ∙ ap (waits a s.objects) (sym is) ∙ waiting in
        proxy-on z last tells_last name q
        (if-some (λ n. (k : ℕ) → 0 < k → IsNoted y n k → HasProxy z n k) f.waits name its offers_own q over
        (noted-back y last after_y name q noted))
    offers r q name (inr (inl is)) waiting over noted =
        let (p, found, acquiring_it) = waiting-process a s r name waiting in
        let (there, number) = process_at-there s r p found in
        let below =
        All-contains (λ (o : Object). object_number o < s.next_object) s.objects (object.Process p)
        typed_s.numbered.below there
        in
        absurd (omega (arith, below, number, is))
    offers r q name (inr (inr is)) waiting over noted =
        let its : f.partner_waits ≡ Some name =
        foreseen.partner ∙ ap (λ (o : Option ℕ). o >>= waits a s.objects) (partner_is ∙ is) ∙ waiting
        in
        if-some (λ n. (k : ℕ) → 0 < k → IsNoted z n k → HasProxy last n k) f.partner_waits name its offers_partner q
        over
        (noted-back z last tells_last name q noted)

-- A set that covers a state does so where a name is followed for which a ready process waits.
pub followed-covers : {a : Acceptance} → IsAccepted a → {s : State} → IsTyped a s → (pid name : ℕ) (v w : Awake)
    → IsReady a s pid → waits a s.objects pid ≡ Some name → Covers a s v
    → ((q : ℕ) → MayBeReady v q → MayBeReady w q) → w.waiting ≡ v.waiting
    → ((n : ℕ) → n ≢ name → IsFollowed w n → IsFollowed v n) → w.sought ≡ v.sought → Covers a s w
followed-covers {a} accepted {s} typed pid name v w ready own covers may same followed sought = record {
  ready = λ q is. told q (covers.ready q is);
  waiting = λ q n is follows.
      elim (cases_eq n name) [
        | inl equal ↦
            let there : waits a s.objects q ≡ Some name = is ∙ ap (λ (k : ℕ). Some k) equal in
            waiting q n is (covers.ready q (all-ready accepted typed pid q name ready own there))
        | inr other ↦
            elim (covers.waiting q n is (followed n other follows)) [
              | inl before ↦ inl (may q before)
              | inr noted ↦ inr (on n q noted)
            ]
      ];
  noted = λ q n noted. covers.noted q n (back n q noted);
}
  where
    on : (n q : ℕ) → IsNoted v n q → IsNoted w n q
    on n q noted = subst (λ (u : BTreeSet (ℕ × ℕ)). IsTrue (contains by_both u (n, q))) (sym same) noted

    back : (n q : ℕ) → IsNoted w n q → IsNoted v n q
    back n q noted = subst (λ (u : BTreeSet (ℕ × ℕ)). IsTrue (contains by_both u (n, q))) same noted

    further : (n q : ℕ) → HasProxy v n q → HasProxy w n q
    further n q has = record {
      noted = on n q has.noted;
      proxy = has.proxy;
      noted_too = on n has.proxy has.noted_too;
      told = may has.proxy has.told;
      low = has.low;
      over = λ less. subst (λ (k : ℕ). k < has.proxy) (sym sought) (has.over (subst (λ (k : ℕ). k < q) sought less));
    }

    told : (q : ℕ) → MayBeReady v q ⊎ ((n : ℕ) × HasProxy v n q) → MayBeReady w q ⊎ ((n : ℕ) × HasProxy w n q)
    told q (inl before) = inl (may q before)
    told q (inr has) = inr (has.0, further has.0 q has.1)

    -- one in whose place another is told waits for that name alone
    waiting : (q n : ℕ) → waits a s.objects q ≡ Some n → MayBeReady v q ⊎ ((m : ℕ) × HasProxy v m q)
        → MayBeReady w q ⊎ IsNoted w n q
    waiting q n is (inl before) = inl (may q before)
    waiting q n is (inr has) =
        let one : Some has.0 ≡ Some n = sym (covers.noted q has.0 has.1.noted) ∙ is in
        let equal : has.0 ≡ n = cc in
        inr (on n q (subst (λ (k : ℕ). IsNoted v k q) equal has.1.noted))

-- where an outside party spoke on a name, whose provider is told then, the set covers the state that came of it
pub spoken-covers : {a : Acceptance} → IsAccepted a → {s t : State} → IsTyped a s → IsTyped a t → (name : ℕ)
    → IsSpokenTo name s t → (v w : Awake) → Covers a s v → Tells v w
    → ((r : Process) → offering t.objects name ≡ Some r → MayBeReady w r.pid) → Covers a t w
spoken-covers {a} accepted {s} {t} typed_s typed_t name same v w covers tells told =
    covers-again accepted typed_s typed_t NoneChanged (IsSpoken name) same v v w covers
    (record {
      ready = λ q may. may;
      noted = λ n q is. inl is;
      back = λ n q is. (is, λ none. none);
      followed = λ n is. is;
      sought = λ q r over. (over, λ more. inl more);
    })
    tells
    (λ n none. absurd none)
    (λ on q is. absurd (differ is.0))
    (λ on r is offers. told r (subst (λ (n : ℕ). offering t.objects n ≡ Some r) is.1 offers))
    (λ r q on none waits_so over noted. absurd none)
  where
    differ : true ≡ false → ⊥
    differ is = cc

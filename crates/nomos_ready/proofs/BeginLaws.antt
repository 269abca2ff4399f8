-- A set of all processes that came since a quiet state covers the state to which starts have led from there.
use Rattle.std.proofs.Common.{◌≡◌, ◌≤◌, ◌<◌, inl, inr, ℕ, Bool, List, [], ◌∷◌, ◌++◌, Contains, Option, Some, None, IsSome, slice_get, refl, subst, arith}
use Rattle.std.proofs.lemmas.List.Elements.{All-contains, Contains-append_cases, Contains-append_left, Contains-append_right}
use Rattle.std.specs.Option.{option_map}
use Rattle.nomos_ir.specs.Value.{Value}
use Rattle.nomos_ir.specs.declared.code_node.CodeNode.{CodeNode}
use Rattle.nomos_ir.specs.declared.code_node.CodeNode.TheVariants as code
use Rattle.nomos_ir.specs.declared.declaration.ProcDecl.{ProcDecl}
use Rattle.nomos_ir.specs.declared.ids.TypeId.{TypeId}
use Rattle.nomos_ir.specs.declared.ids.VarId.{VarId}
use Rattle.nomos_types.specs.Acceptance.{Acceptance, IsAccepted}
use Rattle.nomos_types.specs.Amount.{dths}
use Rattle.nomos_machine.specs.Given.{Given, begins}
use Rattle.nomos_machine.specs.Objects.{based, mentioned, object_number, provided, used}
use Rattle.nomos_machine.specs.Optional.{◌>>=◌}
use Rattle.nomos_machine.specs.Run.{IsQuiet}
use Rattle.nomos_machine.specs.Sight.{owner, user_of}
use Rattle.nomos_machine.specs.Starting.{channel_bindings, started, started_with, value_bindings}
use Rattle.nomos_machine.specs.State.{State, process_at, type_of}
use Rattle.nomos_machine.specs.Step.{IsReady}
use Rattle.nomos_machine.specs.TypedState.{IsTyped}
use Rattle.nomos_machine.specs.declared.object.Object.{Object}
use Rattle.nomos_machine.specs.declared.object.Object.TheVariants as object
use Rattle.nomos_machine.specs.declared.object.Process.{Process}
use Rattle.nomos_machine.proofs.NameLaws.{times-contains, type_of-below}
use Rattle.nomos_machine.proofs.ObjectLaws.{bound-among}
use Rattle.nomos_machine.proofs.PreservationLaws.{process_at-there, ready-none}
use Rattle.nomos_machine.proofs.PutLaws.{contains-one}
use Rattle.nomos_machine.proofs.UserLaws.{user_of-found}
use Rattle.nomos_types.proofs.OccurrenceLaws.{contained}
use Rattle.nomos_deeds.specs.Readers.{acquires, acquires_at, waits}
use Rattle.nomos_ready.specs.ProcessesCome.{HasGrown, IsNewIn}
use Rattle.nomos_ready.specs.Covering.{Covers, IsFollowed, IsNoted, MayBeReady}
use Rattle.nomos_ready.specs.Woken.{IsSameBut, Woken, itself, client, provider, releasing, acquiring}
use Rattle.nomos_ready.specs.declared.awake.Awake.{Awake}
use Rattle.nomos_ready.proofs.CoverLaws.{waiting-process}
use Rattle.nomos_ready.proofs.WakeLaws.{ready-or_woken}

-- ---- states that grow

pub grown-same : (s : State) → HasGrown s s
grown-same s = record {
  stays = λ o there. there;
  each = λ o there. inl there;
  objects = omega arith;
  names = omega arith;
}

new-later : (s t : State) → s.next_object ≤ t.next_object → s.next_name ≤ t.next_name → (o : Object) → IsNewIn t o
    → IsNewIn s o
new-later s t objects names (object.Process r) is = (omega (arith, objects, is.0), omega (arith, names, is.1))
new-later s t objects names (object.Message m) is = is

pub grown-twice : {s t u : State} → HasGrown s t → HasGrown t u → HasGrown s u
grown-twice {s} {t} {u} one two = record {
  stays = λ o there. two.stays o (one.stays o there);
  each = λ o there.
      elim (two.each o there) [
        | inl before ↦ one.each o before
        | inr came ↦ inr (new-later s t one.objects one.names o came)
      ];
  objects = omega (arith, one.objects, two.objects);
  names = omega (arith, one.names, two.names);
}

started-grown : (a : Acceptance) (s : State) (d : ProcDecl) (values : List (VarId × Value))
    (channels : List (VarId × ℕ))
    (payer : ℕ) → HasGrown s (started a s d values channels payer)
started-grown a s d values channels payer = record {
  stays = λ o there. Contains-append_left s.objects (object.Process child ∷ []) o there;
  each = λ o there.
      elim (Contains-append_cases s.objects (object.Process child ∷ []) o there) [
        | inl before ↦ inl before
        | inr came ↦ inr (subst (IsNewIn s) (contains-one (object.Process child) o came) (omega arith, omega arith))
      ];
  objects = omega arith;
  names = omega arith;
}
  where
    child : Process
    child =
        let g : Given = record { values = values; lists = []; channels = channels } in
        begins d g s.next_object s.next_name (dths a.annotations d.amount) payer

-- a start lets a state grow
pub start-grown : (a : Acceptance) (s t : State) (number : ℕ) (values : List Value) (names : List ℕ) (payer : ℕ)
    → started_with a s number values names payer ≡ Some t → HasGrown s t
start-grown a s t number values names payer is = at (slice_get a.program.procs number) is
  where
    starts : ProcDecl → State
    starts d = started a s d (value_bindings d values) (channel_bindings d names) payer

    at : (o : Option ProcDecl) → (o >>= λ d. Some (starts d)) ≡ Some t → HasGrown s t
    at (Some d) is =
        subst (HasGrown s) (same is) (started-grown a s d (value_bindings d values) (channel_bindings d names) payer)
      where
        same : Some (starts d) ≡ Some t → starts d ≡ t
        same e = cc
    at None is = absurd cc

-- ---- who is ready then

module _ {a : Acceptance} (accepted : IsAccepted a) {s t : State} (typed_s : IsTyped a s) (typed_t : IsTyped a t)
    (grown : HasGrown s t) (quiet : IsQuiet a s) (w : Awake)
    (woken : (q : ℕ) → s.next_object ≤ q → q < t.next_object → MayBeReady w q)
    (followed : (name : ℕ) → IsFollowed w name → s.next_name ≤ name)
    (noted : (name q : ℕ) → IsNoted w name q → ⊥) where
  -- a name that an object of the first state mentions is below the next one
  old-name : (o : Object) (name : ℕ) → Contains s.objects o → Contains (mentioned o) name → name < s.next_name
  old-name o name there among =
      at (type_of s.types name) refl
      ((typed_s.numbered.typed name).1 (times-contains mentioned name s.objects o there among))
    where
      at : (found : Option TypeId) → type_of s.types name ≡ found → IsSome found → name < s.next_name
      at (Some t) is some = type_of-below s.types name s.next_name t typed_s.numbered.names is
      at None is some = absurd cc

  old-used : (o : Object) (name : ℕ) → Contains s.objects o → Contains (used o) name → name < s.next_name
  old-used o name there among =
      old-name o name there
      (Contains-append_left (provided o ++ used o) (based o) name
      (Contains-append_right (provided o) (used o) name among))

  below : (p : Process) → Contains t.objects (object.Process p) → p.pid < t.next_object
  below p there =
      All-contains (λ (o : Object). object_number o < t.next_object) t.objects (object.Process p)
      typed_t.numbered.below there

  -- who acquires a name uses it
  acquires-used : (p : Process) (name : ℕ) → acquires a p ≡ Some name → Contains (used (object.Process p)) name
  acquires-used p name is = at (slice_get a.program.code p.code.0) is
    where
      by_node : (n : CodeNode) → acquires_at p n ≡ Some name → Contains (used (object.Process p)) name
      by_node (code.Acquire at r v next) is = bound-among p.channels r.0 name is
      by_node n is = absurd cc

      at : (o : Option CodeNode) → (o >>= acquires_at p) ≡ Some name → Contains (used (object.Process p)) name
      at (Some n) is = by_node n is
      at None is = absurd cc

  -- who waits for a new name came
  waiter-came : (q name : ℕ) → waits a t.objects q ≡ Some name → s.next_name ≤ name → MayBeReady w q
  waiter-came q name is new =
      let (p, found, acquiring_it) = waiting-process a t q name is in
      let (there, number) = process_at-there t q p found in
      elim (grown.each (object.Process p) there) [
        | inl before ↦
            let old = old-used (object.Process p) name before (acquires-used p name acquiring_it) in
            absurd (omega (arith, old, new))
        | inr came ↦ subst (MayBeReady w) number (woken p.pid came.0 (below p there))
      ]

  abbrev Came : ℕ → Type 0
  Came n = s.next_object ≤ n

  abbrev Silent : Bool → ℕ → Type 0
  Silent way name = ⊥

  same-but_new : IsSameBut Came Silent s t
  same-but_new = record {
    stays = λ r there. inl (grown.stays (object.Process r) there);
    processes = λ r there.
        elim (grown.each (object.Process r) there) [
          | inl before ↦ inl before
          | inr came ↦ inr came.0
        ];
    messages = λ m there.
        elim (grown.each (object.Message m) there) [
          | inl before ↦ inl (record { other = m; there = before; way = refl; name = refl })
          | inr came ↦ absurd came
        ];
  }

  -- a process that came offers a new name
  offers-new : (r : Process) → Came r.pid → Contains t.objects (object.Process r) → s.next_name ≤ r.offers
  offers-new r came there =
      elim (grown.each (object.Process r) there) [
        | inl before ↦
            let old =
            All-contains (λ (o : Object). object_number o < s.next_object) s.objects (object.Process r)
            typed_s.numbered.below before
            in
            absurd (omega (arith, old, came))
        | inr new ↦ new.1
      ]

  ready-below : (q : ℕ) → IsReady a t q → q < t.next_object
  ready-below q ready = at (process_at t q) refl
    where
      at : (o : Option Process) → process_at t q ≡ o → q < t.next_object
      at (Some p) found =
          let (there, number) = process_at-there t q p found in
          subst (λ (n : ℕ). n < t.next_object) number (below p there)
      at None found = absurd (ready-none accepted typed_t q found ready)

  -- who uses a new name came
  user-came : (name q : ℕ) → s.next_name ≤ name → owner t name ≡ Some q → s.next_object ≤ q
  user-came name q new is = at (user_of t.objects name) refl is
    where
      by_object : (u : Object) → IsNewIn s u → object_number u ≡ q → s.next_object ≤ q
      by_object (object.Process r) came number = subst (λ (n : ℕ). s.next_object ≤ n) number came.0
      by_object (object.Message m) came number = absurd came

      at : (o : Option Object) → user_of t.objects name ≡ o → option_map object_number o ≡ Some q
          → s.next_object ≤ q
      at (Some u) found is =
          let (there, uses) = user_of-found name u t.objects found in
          let number : object_number u ≡ q = cc in
          elim (grown.each u there) [
            | inl before ↦
                let old = old-used u name before (contained name (used u) uses) in
                absurd (omega (arith, old, new))
            | inr came ↦ by_object u came number
          ]
      at None found is = absurd cc

  woken-came : (q : ℕ) → IsReady a t q → Woken a Came Silent t q → MayBeReady w q
  woken-came q ready (itself _ came) = woken q came (ready-below q ready)
  woken-came q ready (client name _ hears owns) = absurd hears
  woken-came _ ready (provider name r hears offers) = absurd hears
  woken-came q ready (releasing r n _ came there stands detaches owns) =
      woken q (user-came r.offers q (offers-new r came there) owns) (ready-below q ready)
  woken-came q ready (acquiring r n _ came there stands accepts waiting) =
      waiter-came q r.offers waiting (offers-new r came there)

  pub begun-covers : Covers a t w
  begun-covers = record {
    ready = λ q ready.
        elim (ready-or_woken accepted typed_s typed_t Came Silent same-but_new q ready) [
          | inl before ↦ absurd (quiet q before)
          | inr is ↦ inl (woken-came q ready is)
        ];
    waiting = λ q name is follows. inl (waiter-came q name is (followed name follows));
    noted = λ q name is. absurd (noted name q is);
  }

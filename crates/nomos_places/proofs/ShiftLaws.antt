-- A row with another potential: what the instruction takes has to be there, and what is left shifts by as much.
use Rattle.std.proofs.Common.{◌≡◌, ◌≤◌, ◌+◌, ◌-◌, ℕ, List, [], ◌∷◌, Some, slice_get, refl, subst, sym, ap, ◌∙◌, arith}
use Rattle.nomos_ir.specs.declared.code_node.Arm.{Arm}
use Rattle.nomos_ir.specs.declared.code_node.Chan.{Chan}
use Rattle.nomos_ir.specs.declared.code_node.Chan.TheVariants as chan
use Rattle.nomos_ir.specs.declared.code_node.CodeNode.{CodeNode}
use Rattle.nomos_ir.specs.declared.code_node.CodeNode.TheVariants as code
use Rattle.nomos_ir.specs.declared.code_node.ValueArg.{ValueArg}
use Rattle.nomos_ir.specs.declared.declaration.Par.{Par}
use Rattle.nomos_ir.specs.declared.declaration.ProcDecl.{ProcDecl}
use Rattle.nomos_ir.specs.declared.code_node.Args.{Args}
use Rattle.nomos_ir.specs.declared.ids.CodeId.{CodeId}
use Rattle.nomos_ir.specs.declared.ids.TypeId.{TypeId}
use Rattle.nomos_ir.specs.declared.ids.VarId.{VarId}
use Rattle.nomos_ir.specs.declared.lists.ProgramLists.{ProgramLists}
use Rattle.nomos_ir.specs.declared.mode.Mode.{Mode}
use Rattle.nomos_ir.specs.declared.mode.Mode.TheVariants as mode
use Rattle.nomos_ir.specs.declared.type_node.Branch.{Branch}
use Rattle.nomos_ir.specs.declared.type_node.TypeNode.{TypeNode}
use Rattle.nomos_ir.specs.Bindings.{bound_to}
use Rattle.nomos_types.proofs.RowLaws.{RowAt}
use Rattle.nomos_types.specs.Amount.{Annotations, dths}
use Rattle.nomos_types.specs.Arguments.{ArgumentsFit, PassesChannel, PassesChannels, PassesValue, PassesValues}
use Rattle.nomos_types.specs.Arguments as passing
use Rattle.nomos_types.specs.Judgement.{Judgement, ListType, at_code, goes_on, with_potential, binds_value, binds_channel}
use Rattle.nomos_types.specs.Premises.{ArmsGoOn, HasType}
use Rattle.nomos_types.specs.Premises as premises

-- The second judgements are the first ones with another potential, which is shifted from the one to the other.
pub data Shifted (from to : ℕ) : List Judgement → List Judgement → Type 0 where
  none : Shifted from to [] []
  more : {k l : Judgement} {ks ls : List Judgement} → (n : ℕ) → n + from ≡ k.q + to → l ≡ with_potential k n
      → Shifted from to ks ls → Shifted from to (k ∷ ks) (l ∷ ls)

-- What the instruction takes is there.
abbrev pub Affords : ProgramLists → Annotations → Judgement → CodeNode → ℕ → Type 0
Affords lists x j (code.Pay at c r next) m = dths x r ≤ m
Affords lists x j (code.Work at r next) m = dths x r ≤ m
Affords lists x j (code.Spawn at v f args next) m =
    (d : ProcDecl) → slice_get lists.procs f.0 ≡ Some d → dths x d.amount ≤ m
Affords lists x j (code.Call at f args) m =
    (d : ProcDecl) → slice_get lists.procs f.0 ≡ Some d → dths x d.amount ≤ m
Affords lists x j (code.Add at v e w next) m = (l : ListType) → bound_to w.0 j.lists ≡ Some l → l.amount ≤ m
Affords lists x j _ m = Unit {0}

module _ {from to : ℕ} where
  -- one judgement that goes on
  one-shifted : {after : List Judgement} (k l : Judgement) (n : ℕ) → after ≡ k ∷ [] → n + from ≡ k.q + to
      → l ≡ with_potential k n → Shifted from to after (l ∷ [])
  one-shifted k l n is shifts same =
      subst (λ (ks : List Judgement). Shifted from to ks (l ∷ [])) (sym is) (more n shifts same none)

  -- two judgements that go on
  two-shifted : {after : List Judgement} (i k j l : Judgement) (p q : ℕ) → after ≡ i ∷ k ∷ [] → p + from ≡ i.q + to
      → j ≡ with_potential i p → q + from ≡ k.q + to → l ≡ with_potential k q → Shifted from to after (j ∷ l ∷ [])
  two-shifted i k j l p q is first same second too =
      subst (λ (ks : List Judgement). Shifted from to ks (j ∷ l ∷ [])) (sym is)
      (more p first same (more q second too none))

-- the potential does not matter where a channel goes on
pub goes_on-q : (j : Judgement) (c : Chan) (t : TypeId) (next : CodeId) → (goes_on j c t next).q ≡ j.q
goes_on-q j chan.Own t next = refl
goes_on-q j (chan.Var v) t next = refl

goes_on-with : (j : Judgement) (c : Chan) (t : TypeId) (next : CodeId) (m : ℕ)
    → goes_on (with_potential j m) c t next ≡ with_potential (goes_on j c t next) m
goes_on-with j chan.Own t next m = refl
goes_on-with j (chan.Var v) t next m = refl

pub binds_channel-q : (j : Judgement) (v : VarId) (m : Mode) (t : TypeId) → (binds_channel j v m t).q ≡ j.q
binds_channel-q j v mode.S t = refl
binds_channel-q j v mode.R t = refl
binds_channel-q j v mode.L t = refl
binds_channel-q j v mode.T t = refl

binds_channel-with : (j : Judgement) (v : VarId) (m : Mode) (t : TypeId) (q : ℕ)
    → binds_channel (with_potential j q) v m t ≡ with_potential (binds_channel j v m t) q
binds_channel-with j v mode.S t q = refl
binds_channel-with j v mode.R t q = refl
binds_channel-with j v mode.L t q = refl
binds_channel-with j v mode.T t q = refl

module _ (lists : ProgramLists) (x : Annotations) (m : ℕ) where
  -- the type of a channel stays
  type-with : (j : Judgement) (c : Chan) (n : TypeNode) → HasType lists j c n → HasType lists (with_potential j m) c n
  type-with j chan.Own n (t, found, unfolds) = (t, found, unfolds)
  type-with j (chan.Var v) n (t, found, unfolds) = (t, found, unfolds)

  -- arms go on
  arms-with : {j : Judgement} {c : Chan} {branches : List Branch} {arms : List Arm} {after : List Judgement}
      → ArmsGoOn j c branches arms after
      → (later : List Judgement) × ArmsGoOn (with_potential j m) c branches arms later × Shifted j.q m after later
  arms-with premises.none = ([], premises.none, none)
  arms-with {j} {c} (premises.arm {a = a} t goes others) =
      let (later, arms, shifted) = arms-with others in
      let q = goes_on-q j c t a.goes in (
        _,
        premises.arm t goes arms,
        more m (omega (arith, q)) (goes_on-with j c t a.goes m) shifted,
      )

  -- what passes
  channel-with : {j : Judgement} {v : VarId} {t : TypeId} {k : Judgement} → PassesChannel lists x j v t k
      → PassesChannel lists x (with_potential j m) v t (with_potential k m)
  channel-with (passing.shared own found alike) = passing.shared own found alike
  channel-with (passing.linear own unshared found alike) = passing.linear own unshared found alike

  channels-with : {j : Judgement} {vs : List VarId} {pars : List (VarId × TypeId)} {k : Judgement}
      → PassesChannels lists x j vs pars k
      → PassesChannels lists x (with_potential j m) vs pars (with_potential k m)
  channels-with passing.none = passing.none
  channels-with (passing.channel first others) = passing.channel (channel-with first) (channels-with others)

  value-with : {j : Judgement} {a : ValueArg} {par : Par} {k : Judgement} → PassesValue lists x j a par k
      → PassesValue lists x (with_potential j m) a par (with_potential k m)
  value-with (passing.term without kind) = passing.term without kind
  value-with (passing.list amount is found) = passing.list amount is found

  values-with : {j : Judgement} {args : List ValueArg} {pars : List Par} {k : Judgement}
      → PassesValues lists x j args pars k
      → PassesValues lists x (with_potential j m) args pars (with_potential k m)
  values-with passing.none = passing.none
  values-with (passing.value first others) = passing.value (value-with first) (values-with others)

  arguments-with : {j left : Judgement} {d : ProcDecl} {args : Args} → ArgumentsFit lists x j d args left
      → ArgumentsFit lists x (with_potential j m) d args (with_potential left m)
  arguments-with fit = record {
    between = with_potential fit.between m;
    values = values-with fit.values;
    channels = channels-with fit.channels;
  }

  -- the row of a node with the other potential
  abbrev ShiftsTo : Judgement → CodeNode → List Judgement → Type 0
  ShiftsTo j n after =
      (later : List Judgement) × RowAt lists x (with_potential j m) n later × Shifted j.q m after later

  pub row-shift : (j : Judgement) (after : List Judgement) (n : CodeNode) → RowAt lists x j n after
      → Affords lists x j n m → ShiftsTo j n after
  row-shift j after (code.Label at c l next) (t, h, e) afford =
      let q = goes_on-q j c t next in (
        goes_on (with_potential j m) c t next ∷ [],
        (
          t,
          record { branches = h.branches; channel = type-with j c _ h.channel; goes = h.goes },
          refl,
        ),
        one-shifted _ _ m e (omega (arith, q)) (goes_on-with j c t next m),
      )
  row-shift j after (code.Case at c arms) h afford =
      let (later, each, shifted) = arms-with h.each_arm in (
        later,
        record {
          branches = h.branches;
          channel = type-with j c _ h.channel;
          each_label = h.each_label;
          each_arm = each;
        },
        shifted,
      )
  row-shift j after (code.Send at c y next) (left, t, h, e) afford =
      let q = goes_on-q left c t next in
      let same : left.q ≡ j.q = passed-q h.passes in (
        goes_on (with_potential left m) c t next ∷ [],
        (
          with_potential left m,
          t,
          record {
            carried = h.carried;
            channel = type-with j c _ h.channel;
            other = h.other;
            passes = channel-with h.passes;
          },
          refl,
        ),
        one-shifted _ _ m e (omega (arith, q, same)) (goes_on-with left c t next m),
      )
    where
      passed-q : {i : Judgement} {v : VarId} {u : TypeId} {k : Judgement} → PassesChannel lists x i v u k → k.q ≡ i.q
      passed-q (passing.shared own found alike) = refl
      passed-q (passing.linear own unshared found alike) = refl
  row-shift j after (code.Recv at c y next) (k, carried, t, h, e) afford =
      let q = goes_on-q j c t next in
      let bound = binds_channel-q (goes_on j c t next) y k carried in (
        binds_channel (goes_on (with_potential j m) c t next) y k carried ∷ [],
        (
          k,
          carried,
          t,
          record { channel = type-with j c _ h.channel; mode = h.mode; free = h.free },
          refl,
        ),
        one-shifted _ _ m e (omega (arith, q, bound))
            (ap (λ (i : Judgement). binds_channel i y k carried) (goes_on-with j c t next m)
            ∙ binds_channel-with (goes_on j c t next) y k carried m),
      )
  row-shift j after (code.Put at c e next) (t, h, eq) afford =
      let q = goes_on-q j c t next in (
        goes_on (with_potential j m) c t next ∷ [],
        (t, record { kind = h.kind; channel = type-with j c _ h.channel; value = h.value }, refl),
        one-shifted _ _ m eq (omega (arith, q)) (goes_on-with j c t next m),
      )
  row-shift j after (code.Take at c v next) (kind, t, h, e) afford =
      let q = goes_on-q j c t next in
      let Bound : Judgement → Judgement = λ i. binds_value i v kind in (
        Bound (goes_on (with_potential j m) c t next) ∷ [],
        (kind, t, record { channel = type-with j c _ h.channel; free = h.free }, refl),
        one-shifted _ _ m e (omega (arith, q)) (ap Bound (goes_on-with j c t next m)),
      )
  row-shift j after (code.Pay at c r next) (t, h, e) afford = (
    with_potential (goes_on (with_potential j m) c t next) (m - dths x r) ∷ [],
    (
      t,
      record { amount = h.amount; channel = type-with j c _ h.channel; same = h.same; enough = afford },
      refl,
    ),
    one-shifted _ _ (m - dths x r) e (omega (arith, h.enough, afford))
        (ap (λ (i : Judgement). with_potential i (m - dths x r)) (goes_on-with j c t next m)),
  )
  row-shift j after (code.Get at c r next) (t, h, e) afford = (
    with_potential (goes_on (with_potential j m) c t next) (m + dths x r) ∷ [],
    (t, record { amount = h.amount; channel = type-with j c _ h.channel; same = h.same }, refl),
    one-shifted _ _ (m + dths x r) e (omega arith)
        (ap (λ (i : Judgement). with_potential i (m + dths x r)) (goes_on-with j c t next m)),
  )
  row-shift j after (code.Work at r next) (h, e) afford = (
    _,
    (afford, refl),
    one-shifted _ _ (m - dths x r) e (omega (arith, h, afford)) refl,
  )
  row-shift j after (code.Wait at v next) (h, e) afford = (
    _,
    (type-with j (chan.Var v) _ h, refl),
    one-shifted _ _ m e (omega arith) refl,
  )
  row-shift j after (code.Accept at next) (t, h, e) afford = (
    _,
    (t, record { mode = h.mode; channel = type-with j chan.Own _ h.channel }, refl),
    one-shifted _ _ m e (omega arith) refl,
  )
  row-shift j after (code.Detach at next) (t, h, e) afford = (
    _,
    (
      t,
      record { mode = h.mode; channel = type-with j chan.Own _ h.channel; nothing_held = h.nothing_held },
      refl,
    ),
    one-shifted _ _ m e (omega arith) refl,
  )
  row-shift j after (code.Acquire at a v next) (t, h, e) afford = (
    _,
    (
      t,
      record { mode = h.mode; own = h.own; reference = h.reference; unfolds = h.unfolds; free = h.free },
      refl,
    ),
    one-shifted _ _ m e (omega arith) refl,
  )
  row-shift j after (code.Release at v a next) (t, h, e) afford = (
    _,
    (t, record { channel = type-with j (chan.Var v) _ h.channel; free = h.free }, refl),
    one-shifted _ _ m e (omega arith) refl,
  )
  row-shift j after (code.Spawn at v f args next) (d, left, h, e) afford =
      let enough : dths x d.amount ≤ m = afford d h.declared in
      let old : Judgement = with_potential (at_code left next) (j.q - dths x d.amount) in
      let new : Judgement = with_potential (at_code left next) (m - dths x d.amount) in
      let q = binds_channel-q old v d.mode d.offers in (
        binds_channel new v d.mode d.offers ∷ [],
        (
          d,
          with_potential left m,
          record {
            declared = h.declared;
            mode = mode-left h.arguments h.mode;
            arguments = arguments-with h.arguments;
            enough = enough;
            free = h.free;
          },
          refl,
        ),
        one-shifted _ _ (m - dths x d.amount) e (omega (arith, q, h.enough, enough))
            (binds_channel-with old v d.mode d.offers (m - dths x d.amount)),
      )
    where
      mode-left : {A B : Type 0} → A → B → B
      mode-left a b = b
  row-shift j after (code.Let at v e next) (kind, h, free, eq) afford = (
    _,
    (kind, h, free, refl),
    one-shifted _ _ m eq (omega arith) refl,
  )
  row-shift j after (code.Emit at e next) (kind, h, eq) afford = (
    _,
    (kind, h, refl),
    one-shifted _ _ m eq (omega arith) refl,
  )
  row-shift j after (code.If at e then_next else_next) (h, eq) afford = (
    _,
    (h, refl),
    two-shifted _ _ _ _ m m eq (omega arith) refl (omega arith) refl,
  )
  row-shift j after (code.Close at) (h, e) afford = (
    [],
    (
      record { channel = type-with j chan.Own _ h.channel; mode = h.mode; nothing_held = h.nothing_held },
      refl,
    ),
    subst (λ (ks : List Judgement). Shifted j.q m ks []) (sym e) none,
  )
  row-shift j after (code.Fwd at v) (h, e) afford = (
    [],
    (record { mode = h.mode; own = h.own; only = h.only; alike = h.alike }, refl),
    subst (λ (ks : List Judgement). Shifted j.q m ks []) (sym e) none,
  )
  row-shift j after (code.Call at f args) (h, e) afford = (
    [],
    (
      record {
        d = h.d;
        declared = h.declared;
        offers = h.offers;
        mode = h.mode;
        left = with_potential h.left m;
        arguments = arguments-with h.arguments;
        nothing_held = h.nothing_held;
        enough = afford h.d h.declared;
      },
      refl,
    ),
    subst (λ (ks : List Judgement). Shifted j.q m ks []) (sym e) none,
  )
  row-shift j after (code.Empty at v r kind next) (h, e) afford = (
    _,
    (h, refl),
    one-shifted _ _ m e (omega arith) refl,
  )
  row-shift j after (code.Add at v e w next) (l, h, eq) afford =
      let enough : l.amount ≤ m = afford l h.there in (
        _,
        (l, record { there = h.there; element = h.element; enough = enough; free = h.free }, refl),
        one-shifted _ _ (m - l.amount) eq (omega (arith, h.enough, enough)) refl,
      )
  row-shift j after (code.Match at w empty_next head tail full_next) (l, h, eq) afford = (
    _,
    (
      l,
      record { there = h.there; differ = h.differ; head_free = h.head_free; tail_free = h.tail_free },
      refl,
    ),
    two-shifted _ _ _ _ m (m + l.amount) eq (omega arith) refl (omega arith) refl,
  )

  -- a row with the other potential can afford what the instruction takes
  pub row-affords : (j : Judgement) (later : List Judgement) (n : CodeNode)
      → RowAt lists x (with_potential j m) n later → Affords lists x j n m
  row-affords j later (code.Pay at c r next) (t, h, e) = h.enough
  row-affords j later (code.Work at r next) (h, e) = h
  row-affords j later (code.Spawn at v f args next) (d, left, h, e) =
      λ other found.
      let declared = h.declared in
      let same : d ≡ other = cc in
      subst (λ (p : ProcDecl). dths x p.amount ≤ m) same h.enough
  row-affords j later (code.Call at f args) (h, e) =
      λ other found.
      let declared = h.declared in
      let same : h.d ≡ other = cc in
      subst (λ (p : ProcDecl). dths x p.amount ≤ m) same h.enough
  row-affords j later (code.Add at v e w next) (l, h, eq) =
      λ other found.
      let there = h.there in
      let same : l ≡ other = cc in
      subst (λ (p : ListType). p.amount ≤ m) same h.enough
  row-affords j later (code.Label at c l next) says = tt
  row-affords j later (code.Case at c arms) says = tt
  row-affords j later (code.Send at c y next) says = tt
  row-affords j later (code.Recv at c y next) says = tt
  row-affords j later (code.Put at c e next) says = tt
  row-affords j later (code.Take at c v next) says = tt
  row-affords j later (code.Get at c r next) says = tt
  row-affords j later (code.Wait at v next) says = tt
  row-affords j later (code.Accept at next) says = tt
  row-affords j later (code.Detach at next) says = tt
  row-affords j later (code.Acquire at a v next) says = tt
  row-affords j later (code.Release at v a next) says = tt
  row-affords j later (code.Let at v e next) says = tt
  row-affords j later (code.Emit at e next) says = tt
  row-affords j later (code.If at e then_next else_next) says = tt
  row-affords j later (code.Close at) says = tt
  row-affords j later (code.Fwd at v) says = tt
  row-affords j later (code.Empty at v r kind next) says = tt
  row-affords j later (code.Match at w empty_next head tail full_next) says = tt

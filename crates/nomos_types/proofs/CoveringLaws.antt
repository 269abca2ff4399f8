-- A judgement covers another one where they are alike, but that the first may have more potential. Each row keeps this.
use Rattle.std.proofs.Common.{◌≡◌, ◌≤◌, ℕ, List, [], ◌∷◌, Some, refl, subst, sym, ap}
use Rattle.nomos_ir.specs.declared.code_node.Args.{Args}
use Rattle.nomos_ir.specs.declared.code_node.Arm.{Arm}
use Rattle.nomos_ir.specs.declared.code_node.Chan.{Chan}
use Rattle.nomos_ir.specs.declared.code_node.Chan.TheVariants as chan
use Rattle.nomos_ir.specs.declared.code_node.ValueArg.{ValueArg}
use Rattle.nomos_ir.specs.declared.declaration.Par.{Par}
use Rattle.nomos_ir.specs.declared.declaration.ProcDecl.{ProcDecl}
use Rattle.nomos_ir.specs.declared.ids.CodeId.{CodeId}
use Rattle.nomos_ir.specs.declared.ids.TypeId.{TypeId}
use Rattle.nomos_ir.specs.declared.ids.VarId.{VarId}
use Rattle.nomos_ir.specs.declared.kind.Kind.{Kind}
use Rattle.nomos_ir.specs.declared.lists.ProgramLists.{ProgramLists}
use Rattle.nomos_ir.specs.declared.mode.Mode.{Mode}
use Rattle.nomos_ir.specs.declared.mode.Mode.TheVariants as mode
use Rattle.nomos_ir.specs.declared.type_node.Branch.{Branch}
use Rattle.nomos_ir.specs.declared.type_node.TypeNode.{TypeNode}
use Rattle.nomos_ir.specs.Bindings.{bind, unbind}
use Rattle.nomos_types.proofs.AlikeLaws.{alike_types-unfolded, alike_channels-bound, alike_channels-free, alike_channels-bind, alike_channels-unbind}
use Rattle.nomos_types.proofs.HeadLaws.{both-there}
use Rattle.nomos_types.specs.Alike.{AlikeChannels, AlikeTypes}
use Rattle.nomos_types.specs.Amount.{Annotations}
use Rattle.nomos_types.specs.Arguments.{PassesChannel, shared, linear, PassesChannels, PassesValue, term, list, PassesValues, ArgumentsFit}
use Rattle.nomos_types.specs.Equality.{SameBranches, SameHead}
use Rattle.nomos_types.specs.Judgement.{Judgement, ListType, channel_type, at_code, goes_on, with_potential, binds_value, binds_list, binds_channel}
use Rattle.nomos_types.specs.Premises.{HasType, ArmsGoOn}
use Rattle.nomos_types.specs.Typed.{IsWellFormed}

-- the first judgement is like the second one, and has at least its potential
pub record Covers (lists : ProgramLists) (x : Annotations) (j k : Judgement) : Type 0 where
  pub mode : j.mode ≡ k.mode
  pub kinds : j.kinds ≡ k.kinds
  pub same_lists : j.lists ≡ k.lists
  pub shared : AlikeChannels lists x j.shared k.shared
  pub linear : AlikeChannels lists x j.linear k.linear
  pub q : k.q ≤ j.q
  pub code : j.code ≡ k.code
  pub offers : AlikeTypes lists x j.offers k.offers

-- each judgement covers the one at its place
pub data CoversEach (lists : ProgramLists) (x : Annotations) : List Judgement → List Judgement → Type 0 where
  none : CoversEach lists x [] []
  more : {j k : Judgement} {js ks : List Judgement} → Covers lists x j k → CoversEach lists x js ks
      → CoversEach lists x (j ∷ js) (k ∷ ks)

module _ {lists : ProgramLists} {x : Annotations} where
  -- single judgements
  pub single : {after other : List Judgement} (j k : Judgement) → after ≡ j ∷ [] → other ≡ k ∷ [] → Covers lists x j k
      → CoversEach lists x after other
  single {after} {other} j k left right covers =
      subst (λ (l : List Judgement). CoversEach lists x l other) (sym left)
      (subst (λ (r : List Judgement). CoversEach lists x (j ∷ []) r) (sym right) (more covers none))

  -- two of them
  pub pair : {after other : List Judgement} (i j k l : Judgement) → after ≡ i ∷ j ∷ [] → other ≡ k ∷ l ∷ []
      → Covers lists x i k → Covers lists x j l → CoversEach lists x after other
  pair {after} {other} i j k l left right first second =
      subst (λ (a : List Judgement). CoversEach lists x a other) (sym left)
      (subst (λ (b : List Judgement). CoversEach lists x (i ∷ j ∷ []) b) (sym right) (more first (more second none)))

  -- no judgements
  pub nothing : {after other : List Judgement} → after ≡ [] → other ≡ [] → CoversEach lists x after other
  nothing {after} {other} left right =
      subst (λ (l : List Judgement). CoversEach lists x l other) (sym left)
      (subst (λ (r : List Judgement). CoversEach lists x [] r) (sym right) none)

  -- the types of a channel are alike
  pub channel-types : {j k : Judgement} (c : Chan) (t u : TypeId) → Covers lists x j k → channel_type j c ≡ Some t
      → channel_type k c ≡ Some u → AlikeTypes lists x t u
  channel-types {j} {k} chan.Own t u covers left right =
      let first : j.offers ≡ t = cc in
      let second : k.offers ≡ u = cc in
      subst (λ (a : TypeId). AlikeTypes lists x a u) first
      (subst (λ (b : TypeId). AlikeTypes lists x j.offers b) second covers.offers)
  channel-types (chan.Var v) t u covers left right =
      let (b, there, alike) = alike_channels-bound v.0 t covers.linear left in
      let second : b ≡ u = cc in
      subst (λ (e : TypeId). AlikeTypes lists x t e) second alike

  -- and so are the heads to which they unfold
  pub heads : {j k : Judgement} (c : Chan) (p q : TypeNode) → IsWellFormed lists → Covers lists x j k
      → HasType lists j c p → HasType lists k c q → SameHead x (AlikeTypes lists x) p q
  heads c p q formed covers (t, left, left_unfolds) (u, right, right_unfolds) =
      alike_types-unfolded formed.program formed.contractive formed.modes (channel-types c t u covers left right)
      left_unfolds right_unfolds

  -- a channel goes on at types that are alike
  pub goes_on-covers : {j k : Judgement} (c : Chan) (t u : TypeId) (next : CodeId) → Covers lists x j k
      → AlikeTypes lists x t u → Covers lists x (goes_on j c t next) (goes_on k c u next)
  goes_on-covers chan.Own t u next covers alike =
      record {
        mode = covers.mode;
        kinds = covers.kinds;
        same_lists = covers.same_lists;
        shared = covers.shared;
        linear = covers.linear;
        q = covers.q;
        code = refl;
        offers = alike;
      }
  goes_on-covers (chan.Var v) t u next covers alike =
      record {
        mode = covers.mode;
        kinds = covers.kinds;
        same_lists = covers.same_lists;
        shared = covers.shared;
        linear = alike_channels-bind v covers.linear alike;
        q = covers.q;
        code = refl;
        offers = covers.offers;
      }

  -- the process goes on
  pub at_code-covers : {j k : Judgement} (next : CodeId) → Covers lists x j k
      → Covers lists x (at_code j next) (at_code k next)
  at_code-covers next covers =
      record {
        mode = covers.mode;
        kinds = covers.kinds;
        same_lists = covers.same_lists;
        shared = covers.shared;
        linear = covers.linear;
        q = covers.q;
        code = refl;
        offers = covers.offers;
      }

  -- the potentials change
  pub potential-covers : {j k : Judgement} (p q : ℕ) → q ≤ p → Covers lists x j k
      → Covers lists x (with_potential j p) (with_potential k q)
  potential-covers p q enough covers =
      record {
        mode = covers.mode;
        kinds = covers.kinds;
        same_lists = covers.same_lists;
        shared = covers.shared;
        linear = covers.linear;
        q = enough;
        code = covers.code;
        offers = covers.offers;
      }

  -- a channel is used up
  pub unbound-covers : {j k : Judgement} (v : ℕ) → Covers lists x j k
      → Covers lists x (record j { linear = unbind v j.linear }) (record k { linear = unbind v k.linear })
  unbound-covers v covers =
      record {
        mode = covers.mode;
        kinds = covers.kinds;
        same_lists = covers.same_lists;
        shared = covers.shared;
        linear = alike_channels-unbind v covers.linear;
        q = covers.q;
        code = covers.code;
        offers = covers.offers;
      }

  -- a list is used up
  pub list-unbound-covers : {j k : Judgement} (v : ℕ) → Covers lists x j k
      → Covers lists x (record j { lists = unbind v j.lists }) (record k { lists = unbind v k.lists })
  list-unbound-covers v covers =
      record {
        mode = covers.mode;
        kinds = covers.kinds;
        same_lists =
            ap (λ (l : List (VarId × ListType)). unbind v l) covers.same_lists;
        shared =
            covers.shared;
        linear = covers.linear;
        q = covers.q;
        code = covers.code;
        offers = covers.offers;
      }

  -- a value is bound
  pub value-covers : {j k : Judgement} (v : VarId) (kind : Kind) → Covers lists x j k
      → Covers lists x (binds_value j v kind) (binds_value k v kind)
  value-covers v kind covers =
      record {
        mode = covers.mode;
        kinds = ap (λ (l : List (VarId × Kind)). bind v kind l) covers.kinds;
        same_lists =
            covers.same_lists;
        shared =
            covers.shared;
        linear = covers.linear;
        q = covers.q;
        code = covers.code;
        offers = covers.offers;
      }

  -- a list is bound
  pub list-covers : {j k : Judgement} (v : VarId) (l : ListType) → Covers lists x j k
      → Covers lists x (binds_list j v l) (binds_list k v l)
  list-covers v l covers =
      record {
        mode = covers.mode;
        kinds = covers.kinds;
        same_lists =
            ap (λ (b : List (VarId × ListType)). bind v l b) covers.same_lists;
        shared =
            covers.shared;
        linear = covers.linear;
        q = covers.q;
        code = covers.code;
        offers = covers.offers;
      }

  -- a linear channel is bound
  pub linear-covers : {j k : Judgement} (v : VarId) (t u : TypeId) → Covers lists x j k → AlikeTypes lists x t u
      → Covers lists x (record j { linear = bind v t j.linear }) (record k { linear = bind v u k.linear })
  linear-covers v t u covers alike =
      record {
        mode = covers.mode;
        kinds = covers.kinds;
        same_lists = covers.same_lists;
        shared = covers.shared;
        linear = alike_channels-bind v covers.linear alike;
        q = covers.q;
        code = covers.code;
        offers = covers.offers;
      }

  -- a channel is bound
  pub channel-covers : {j k : Judgement} (v : VarId) (m : Mode) (t u : TypeId) → Covers lists x j k
      → AlikeTypes lists x t u → Covers lists x (binds_channel j v m t) (binds_channel k v m u)
  channel-covers v mode.S t u covers alike =
      record {
        mode = covers.mode;
        kinds = covers.kinds;
        same_lists = covers.same_lists;
        shared =
            alike_channels-bind v covers.shared alike;
        linear =
            covers.linear;
        q = covers.q;
        code = covers.code;
        offers = covers.offers;
      }
  channel-covers v mode.R t u covers alike = linear-covers v t u covers alike
  channel-covers v mode.L t u covers alike = linear-covers v t u covers alike
  channel-covers v mode.T t u covers alike = linear-covers v t u covers alike

  -- a channel passes on both sides in the same way
  pub passing-covers : (v : VarId) (t u : TypeId) {j k l r : Judgement} → Covers lists x j k
      → PassesChannel lists x j v t l → PassesChannel lists x k v u r → Covers lists x l r
  passing-covers v t u covers (shared _ _ _) (shared _ _ _) = covers
  passing-covers v t u covers (shared own there _) (linear _ unshared _ _) =
      let (b, found, alike) = alike_channels-bound v.0 own covers.shared there in absurd cc
  passing-covers v t u covers (linear _ unshared _ _) (shared own there _) =
      let free = alike_channels-free v.0 covers.shared unshared in absurd cc
  passing-covers v t u covers (linear _ _ _ _) (linear _ _ _ _) = unbound-covers v.0 covers

  -- so do channels for the same parameters
  pub passings-cover : {j k l r : Judgement} (vs : List VarId) (pars : List (VarId × TypeId)) → Covers lists x j k
      → PassesChannels lists x j vs pars l → PassesChannels lists x k vs pars r → Covers lists x l r
  passings-cover [] [] covers PassesChannels.none PassesChannels.none = covers
  passings-cover [] (par ∷ pars) covers left right = elim left [ ]
  passings-cover (v ∷ vs) [] covers left right = elim left [ ]
  passings-cover (v ∷ vs) (par ∷ pars) covers (PassesChannels.channel first others)
      (PassesChannels.channel other_first other_others) =
      passings-cover vs pars (passing-covers v par.1 par.1 covers first other_first) others other_others

  -- a value or a list passes on both sides in the same way
  pub value-passing-covers : (a : ValueArg) (par : Par) {j k l r : Judgement} → Covers lists x j k
      → PassesValue lists x j a par l → PassesValue lists x k a par r → Covers lists x l r
  value-passing-covers _ par covers (term _ _) (term _ _) = covers
  value-passing-covers _ par covers (list {w = w} _ _ _) (list _ _ _) = list-unbound-covers w.0 covers

  pub values-passing-cover : {j k l r : Judgement} (args : List ValueArg) (pars : List Par) → Covers lists x j k
      → PassesValues lists x j args pars l → PassesValues lists x k args pars r → Covers lists x l r
  values-passing-cover [] [] covers PassesValues.none PassesValues.none = covers
  values-passing-cover [] (par ∷ pars) covers left right = elim left [ ]
  values-passing-cover (a ∷ args) [] covers left right = elim left [ ]
  values-passing-cover (a ∷ args) (par ∷ pars) covers (PassesValues.value first others)
      (PassesValues.value other_first other_others) =
      values-passing-cover args pars (value-passing-covers a par covers first other_first) others other_others

  -- what arguments leave
  pub arguments-cover : {j k l r : Judgement} (d : ProcDecl) (args : Args) → Covers lists x j k
      → ArgumentsFit lists x j d args l → ArgumentsFit lists x k d args r → Covers lists x l r
  arguments-cover d args covers left right =
      passings-cover args.channels d.channels
      (values-passing-cover args.values d.values covers left.values right.values) left.channels right.channels

  -- the arms go on in ways that are alike
  pub arms-cover : {j k : Judgement} (c : Chan) (bs cs : List Branch) (arms : List Arm) (after other : List Judgement)
      → Covers lists x j k → SameBranches (AlikeTypes lists x) bs cs → ArmsGoOn j c bs arms after
      → ArmsGoOn k c cs arms other → CoversEach lists x after other
  arms-cover c bs cs [] [] [] covers same ArmsGoOn.none ArmsGoOn.none = none
  arms-cover c bs cs [] [] (k ∷ ks) covers same left right = elim right [ ]
  arms-cover c bs cs [] (j ∷ js) other covers same left right = elim left [ ]
  arms-cover c bs cs (a ∷ arms) _ _ covers same (ArmsGoOn.arm t goes others) (ArmsGoOn.arm u goes_too others_too) =
      more (goes_on-covers c t u a.goes covers (both-there t u (same a.label) goes goes_too))
      (arms-cover c bs cs arms _ _ covers same others others_too)

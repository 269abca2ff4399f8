-- A channel of a process that goes on under another name: what the process has, provides and uses.
use Rattle.std.proofs.Common.{◌≡◌, ◌∙◌, ℕ, ◌+◌, not, Bool, cond, List, [], ◌∷◌, ◌++◌, Option, Some, None, refl, sym, subst, ap, arith}
use Rattle.std.specs.Option.{option_to_list}
use Rattle.nomos_ir.specs.Bindings.{bound_to, IsAscending}
use Rattle.nomos_ir.specs.Order.{count_of}
use Rattle.nomos_ir.specs.declared.code_node.Chan.{Chan}
use Rattle.nomos_ir.specs.declared.code_node.Chan.TheVariants as chan
use Rattle.nomos_ir.specs.declared.ids.CodeId.{CodeId}
use Rattle.nomos_ir.specs.declared.ids.TypeId.{TypeId}
use Rattle.nomos_ir.specs.declared.ids.VarId.{VarId}
use Rattle.nomos_ir.specs.declared.lists.ProgramLists.{ProgramLists}
use Rattle.nomos_ir.specs.declared.mode.Mode.{Mode}
use Rattle.nomos_ir.specs.declared.mode.Mode.TheVariants as mode
use Rattle.nomos_ir.proofs.BindingLaws.{bind-ascending, bound-after_bind_other}
use Rattle.nomos_ir.proofs.PairedLaws.{paired-left}
use Rattle.nomos_ir.proofs.SumLaws.{count-after_bind}
use Rattle.std.specs.Option.{option_or}
use Rattle.nomos_types.specs.Amount.{Annotations}
use Rattle.nomos_types.specs.Judgement.{Judgement, IsJudgement, channel_type, goes_on, count_one, with_potential, binds_channel}
use Rattle.nomos_types.proofs.OccurrenceLaws.{count-append}
use Rattle.nomos_machine.specs.Matching.{NameHasType, Matches}
use Rattle.nomos_machine.specs.Objects.{provided, used, carried}
use Rattle.nomos_machine.specs.Revised.{standing_at, under_name, with_channel}
use Rattle.nomos_machine.specs.Sight.{is_own, present_name}
use Rattle.nomos_machine.specs.State.{NameTypes}
use Rattle.nomos_machine.specs.declared.object.Message.{Message}
use Rattle.nomos_machine.specs.declared.object.Object.TheVariants as object
use Rattle.nomos_machine.specs.declared.object.Payload.{Payload}
use Rattle.nomos_machine.specs.declared.object.Process.{Process}
use Rattle.nomos_machine.proofs.MatchLaws.{holds-linear, holds-shared}

-- ---- what a process keeps

-- all but the names of its channels and where it stands
pub record SameRest (p q : Process) : Type 0 where
  pub pid : q.pid ≡ p.pid
  pub same_mode : q.mode ≡ p.mode
  pub base : q.base ≡ p.base
  pub values : q.values ≡ p.values
  pub held_lists : q.lists ≡ p.lists
  pub purse : q.purse ≡ p.purse
  pub payer : q.payer ≡ p.payer

pub under-keeps : (c : Chan) (name : ℕ) (p : Process) → SameRest p (under_name c name p)
under-keeps chan.Own name p = record {
  pid = refl;
  same_mode = refl;
  base = refl;
  values = refl;
  held_lists = refl;
  purse = refl;
  payer = refl;
}
under-keeps (chan.Var v) name p = record {
  pid = refl;
  same_mode = refl;
  base = refl;
  values = refl;
  held_lists = refl;
  purse = refl;
  payer = refl;
}

-- ---- what it has

-- the channel is no reference
abbrev pub IsUnshared : List (VarId × TypeId) → Chan → Type 0
IsUnshared shared chan.Own = Unit {0}
IsUnshared shared (chan.Var v) = bound_to v.0 shared ≡ None

-- what is counted no time is not there
pub uncounted : {X : Type 0} (o : Option X) → count_one o ≡ 0 → o ≡ None
uncounted (Some x) none = absurd (omega arith)
uncounted None none = refl

pub channel-unshared : {lists : ProgramLists} {j : Judgement} → IsJudgement lists j → (c : Chan) (t : TypeId)
    → channel_type j c ≡ Some t → IsUnshared j.shared c
channel-unshared h chan.Own t found = tt
channel-unshared {lists} {j} h (chan.Var v) t found =
    let there : count_one (bound_to v.0 j.linear) ≡ 1 = ap (λ (o : Option TypeId). count_one o) found in
    uncounted (bound_to v.0 j.shared) (omega (arith, h.apart v.0, there))

module _ {lists : ProgramLists} {x : Annotations} {types : NameTypes} where
  -- the present name of a channel has the type that the judgement has for the channel
  pub present-has_type : {p : Process} {j : Judgement} → Matches lists x types p j → (c : Chan) (t : TypeId)
      → IsUnshared j.shared c → channel_type j c ≡ Some t
      → (name : ℕ) × (present_name p c ≡ Some name) × NameHasType lists x types name t
  present-has_type {p} {j} m chan.Own t none found =
      let same : j.offers ≡ t = cc in
      (p.offers, refl, subst (NameHasType lists x types p.offers) same m.offers)
  present-has_type {p} {j} m (chan.Var v) t none found =
      paired-left t (m.channels v.0) (ap (λ (o : Option TypeId). option_or o (bound_to v.0 j.linear)) none ∙ found)

  -- the channel goes on under another name, and at a type of that name
  pub matches-goes_on : {p : Process} {j : Judgement} → Matches lists x types p j → (c : Chan) (name : ℕ) (t : TypeId)
      (next : CodeId) → IsUnshared j.shared c → NameHasType lists x types name t
      → Matches lists x types (standing_at next (under_name c name p)) (goes_on j c t next)
  matches-goes_on m chan.Own name t next none is = record {
    mode = m.mode;
    code = refl;
    offers = is;
    values = m.values;
    held_lists = m.held_lists;
    channels = m.channels;
  }
  matches-goes_on {p} {j} m (chan.Var v) name t next none is = record {
    mode = m.mode;
    code = refl;
    offers = m.offers;
    values = m.values;
    held_lists = m.held_lists;
    channels = holds-linear p.channels j.shared j.linear v name t none is m.channels;
  }

-- the channel goes on, and the potential is what it was
pub goes_on-potential : (j : Judgement) (c : Chan) (t : TypeId) (next : CodeId) → (goes_on j c t next).q ≡ j.q
goes_on-potential j chan.Own t next = refl
goes_on-potential j (chan.Var v) t next = refl

-- another potential may be said before and after that
pub goes_on-with_potential : (j : Judgement) (c : Chan) (t : TypeId) (next : CodeId) (q : ℕ)
    → goes_on (with_potential j q) c t next ≡ with_potential (goes_on j c t next) q
goes_on-with_potential j chan.Own t next q = refl
goes_on-with_potential j (chan.Var v) t next q = refl

-- it goes on with the references that it had
pub goes_on-shared : (j : Judgement) (c : Chan) (t : TypeId) (next : CodeId) → (goes_on j c t next).shared ≡ j.shared
goes_on-shared j chan.Own t next = refl
goes_on-shared j (chan.Var v) t next = refl

-- a channel is bound beside those that it has, a reference or one that is used exactly once
pub matches-binds : {lists : ProgramLists} {x : Annotations} {types : NameTypes} {p : Process} {j : Judgement}
    → Matches lists x types p j → (y : VarId) (name : ℕ) (m : Mode) (t : TypeId) → bound_to y.0 j.shared ≡ None
    → NameHasType lists x types name t → Matches lists x types (with_channel y name p) (binds_channel j y m t)
matches-binds {p = p} {j = j} on y name mode.S t none is = record {
  mode = on.mode;
  code = on.code;
  offers = on.offers;
  values = on.values;
  held_lists = on.held_lists;
  channels = holds-shared p.channels j.shared j.linear y name t is on.channels;
}
matches-binds {p = p} {j = j} on y name m t none is = record {
  mode = on.mode;
  code = on.code;
  offers = on.offers;
  values = on.values;
  held_lists = on.held_lists;
  channels = holds-linear p.channels j.shared j.linear y name t none is on.channels;
}

pub binds_channel-potential : (j : Judgement) (y : VarId) (m : Mode) (t : TypeId) → (binds_channel j y m t).q ≡ j.q
binds_channel-potential j y mode.S t = refl
binds_channel-potential j y m t = refl

-- a free variable stays free
pub under-free : (c : Chan) (name from : ℕ) (p : Process) (y : ℕ) → present_name p c ≡ Some from
    → bound_to y p.channels ≡ None → bound_to y (under_name c name p).channels ≡ None
under-free chan.Own name from p y here free = free
under-free (chan.Var v) name from p y here free =
    bound-after_bind_other y v name p.channels (λ same.
    differ (sym (subst (λ (w : ℕ). bound_to w p.channels ≡ None) same free) ∙ here)) ∙ free
  where
    differ : None ≡ Some from → ⊥
    differ is = cc

pub under-ascending : (c : Chan) (name : ℕ) (p : Process) → IsAscending p.channels
    → IsAscending (under_name c name p).channels
under-ascending chan.Own name p ascending = ascending
under-ascending (chan.Var v) name p ascending = bind-ascending v name p.channels ascending

-- ---- what it provides and uses

-- the name, where the process provides the channel, and where it uses it
abbrev pub provider_end : Chan → ℕ → List ℕ
provider_end chan.Own name = name ∷ []
provider_end (chan.Var v) name = []

abbrev pub client_end : Chan → ℕ → List ℕ
client_end chan.Own name = []
client_end (chan.Var v) name = name ∷ []

module _ (n : ℕ) where
  -- it is one or the other
  pub both-ends : (c : Chan) (name : ℕ)
      → count_of n (provider_end c name) + count_of n (client_end c name) ≡ count_of n (name ∷ [])
  both-ends chan.Own name = omega arith
  both-ends (chan.Var v) name = omega arith

  pub under-provides : (c : Chan) (name from : ℕ) (p : Process) → present_name p c ≡ Some from
      → count_of n (provided (object.Process (under_name c name p))) + count_of n (provider_end c from)
      ≡ count_of n (provided (object.Process p)) + count_of n (provider_end c name)
  under-provides chan.Own name from p found =
      let same : p.offers ≡ from = cc in
      let here = ap (λ (k : ℕ). count_of n (k ∷ [])) same in
      omega (arith, here)
  under-provides (chan.Var v) name from p found = refl

  pub under-uses : (c : Chan) (name from : ℕ) (p : Process) → IsAscending p.channels → present_name p c ≡ Some from
      → count_of n (used (object.Process (under_name c name p))) + count_of n (client_end c from)
      ≡ count_of n (used (object.Process p)) + count_of n (client_end c name)
  under-uses chan.Own name from p ascending found = refl
  under-uses (chan.Var v) name from p ascending found =
      ap (λ (o : Option ℕ). count_of n (used (object.Process (under_name (chan.Var v) name p))) + count_of n
      (option_to_list o))
      (sym found)
      ∙ count-after_bind n v name p.channels ascending

  -- a message that the process sends on the channel
  pub sent-provides : (c : Chan) (from name : ℕ)
      → count_of n (cond (is_own c) (from ∷ []) (name ∷ []))
      ≡ count_of n (provider_end c from) + count_of n (client_end c name)
  sent-provides chan.Own from name = omega arith
  sent-provides (chan.Var v) from name = omega arith

  pub sent-uses : (c : Chan) (from name : ℕ) (brought : Payload)
      → count_of n (cond (is_own c) (name ∷ []) (from ∷ []) ++ carried brought)
      ≡ count_of n (client_end c from) + count_of n (provider_end c name) + count_of n (carried brought)
  sent-uses chan.Own from name brought = omega (arith, count-append n (name ∷ []) (carried brought))
  sent-uses (chan.Var v) from name brought = omega (arith, count-append n (from ∷ []) (carried brought))

  got-uses : (c : Chan) (from name : ℕ) (brought : Payload)
      → count_of n (cond (not (is_own c)) (name ∷ []) (from ∷ []) ++ carried brought)
      ≡ count_of n (provider_end c from) + count_of n (client_end c name) + count_of n (carried brought)
  got-uses chan.Own from name brought = omega (arith, count-append n (from ∷ []) (carried brought))
  got-uses (chan.Var v) from name brought = omega (arith, count-append n (name ∷ []) (carried brought))

  pub received-uses : (c : Chan) (m : Message) (name : ℕ) → m.to_client ≡ not (is_own c) → m.next ≡ Some name
      → count_of n (used (object.Message m))
      ≡ count_of n (provider_end c m.from) + count_of n (client_end c name) + count_of n (carried m.payload)
  received-uses c m name way next =
      ap (λ (b : Bool). count_of n (cond b (option_to_list m.next) (m.from ∷ []) ++ carried m.payload)) way
      ∙ ap (λ (o : Option ℕ). count_of n (cond (not (is_own c)) (option_to_list o) (m.from ∷ []) ++ carried m.payload))
      next
      ∙ got-uses c m.from name m.payload

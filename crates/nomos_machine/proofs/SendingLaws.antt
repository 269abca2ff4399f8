-- What the rule gives at a send, at the type that the judgement has and at that of the channel's present name.
use Rattle.std.proofs.Common.{◌≡◌, ◌∙◌, ◌≤◌, ℕ, ◌+◌, List, length, Contains, Option, Some, refl, sym, subst}
use Rattle.nomos_ir.specs.Bindings.{IsAscending}
use Rattle.nomos_ir.specs.Order.{count_of}
use Rattle.nomos_ir.specs.Unfold.{Unfolds}
use Rattle.nomos_ir.specs.declared.code_node.Chan.{Chan}
use Rattle.nomos_ir.specs.declared.ids.CodeId.{CodeId}
use Rattle.nomos_ir.specs.declared.ids.TypeId.{TypeId}
use Rattle.nomos_ir.specs.declared.mode.Mode.{Mode}
use Rattle.nomos_ir.specs.declared.mode.Mode.TheVariants as mode
use Rattle.nomos_ir.specs.declared.type_node.TypeNode.{TypeNode}
use Rattle.nomos_ir.proofs.PairedLaws.{paired-right}
use Rattle.nomos_types.specs.Acceptance.{Acceptance, IsAccepted}
use Rattle.nomos_types.specs.Alike.{AlikeTypes}
use Rattle.nomos_types.specs.Judgement.{Judgement, channel_type, goes_on}
use Rattle.nomos_types.specs.Modes.{HasMode}
use Rattle.nomos_types.specs.TypingRule.{TypingRule}
use Rattle.nomos_types.proofs.AlikeLaws.{alike_types-back}
use Rattle.nomos_types.proofs.EqualityLaws.{equal-unfolded, equal-back}
use Rattle.nomos_machine.specs.Matching.{Matches, ProcessTyped}
use Rattle.nomos_machine.specs.Objects.{used, carried, potential_of, free_purse}
use Rattle.nomos_machine.specs.Sight.{is_own, present_name}
use Rattle.nomos_machine.specs.State.{State, type_of}
use Rattle.nomos_machine.specs.TypedMessage.{Brings}
use Rattle.nomos_machine.specs.declared.object.Object.TheVariants as object
use Rattle.nomos_machine.specs.declared.object.Payload.{Payload}
use Rattle.nomos_machine.specs.declared.object.Process.{Process}
use Rattle.nomos_machine.proofs.ChannelLaws.{IsUnshared, present-has_type}
use Rattle.nomos_machine.proofs.ProcessLaws.{own_judgement}
use Rattle.nomos_machine.proofs.TalkLaws.{goes-alike}

-- What the rule gives at a send: the channel's type unfolds to a node at which this is brought, and after which it goes
-- on; and the process as which it goes on has what is left, and has handed over what the message carries.
pub record Sending (a : Acceptance) (s : State) (p : Process) (t : ProcessTyped a s.types (length s.balances) p)
    (c : Chan) (brought : Payload) (gas : ℕ) (q : Process) (next : CodeId) : Type 0 where
  pub left : Judgement
  pub held : TypeId
  pub head : TypeNode
  pub goes : TypeId
  pub after : List Judgement
  pub row : TypingRule a.program a.annotations (own_judgement p t) after
  pub among : Contains after (goes_on left c goes next)
  pub unshared : IsUnshared left.shared c
  pub holds : channel_type left c ≡ Some held
  pub unfolds : Unfolds a.program held.0 head
  pub brings : Brings a.program a.annotations s.types (is_own c) head brought gas (Some goes)
  pub matches : Matches a.program a.annotations s.types q left
  pub here : present_name q c ≡ present_name p c
  pub pid : q.pid ≡ p.pid
  pub same_mode : q.mode ≡ p.mode
  pub offers : q.offers ≡ p.offers
  pub base : q.base ≡ p.base
  pub payer : q.payer ≡ p.payer
  pub values : IsAscending q.values
  pub held_lists : IsAscending q.lists
  pub channels : IsAscending q.channels
  pub covered : potential_of q ≤ q.purse
  pub exact : free_purse q ≡ left.q
  pub pays : gas + q.purse ≡ p.purse
  -- a reference may be carried, and stays as well
  pub uses : (name : ℕ) → ((t : TypeId) → type_of s.types name ≡ Some t → ¬ (HasMode a.program t mode.S))
      → count_of name (used (object.Process q)) + count_of name (carried brought)
      ≡ count_of name (used (object.Process p))

-- the same at the type of the channel's present name
pub record SendsOn (a : Acceptance) (s : State) (p : Process) (c : Chan) (brought : Payload) (gas : ℕ) (t : TypeId)
    : Type 0 where
  pub from : ℕ
  pub here : present_name p c ≡ Some from
  pub own : TypeId
  pub found : type_of s.types from ≡ Some own
  pub mode : Mode
  pub has_mode : HasMode a.program own mode
  pub head : TypeNode
  pub unfolds : Unfolds a.program own.0 head
  pub goes : TypeId
  pub brings : Brings a.program a.annotations s.types (is_own c) head brought gas (Some goes)
  pub alike : AlikeTypes a.program a.annotations goes t

pub sends-on : {a : Acceptance} → IsAccepted a
    → {s : State} {p : Process} {t : ProcessTyped a s.types (length s.balances) p}
    {c : Chan} {brought : Payload} {gas : ℕ} {q : Process} {next : CodeId} → (h : Sending a s p t c brought gas q next)
    → SendsOn a s p c brought gas h.goes
sends-on {a} accepted {s} {c = c} {brought = brought} {gas = gas} h =
    let formed = accepted.typed.formed in
    let (from, here, is) = present-has_type h.matches c h.held h.unshared h.holds in
    let (head, unfolds, same) = equal-unfolded a.program a.annotations h.held is.own h.head
    (equal-back a.program a.annotations is.own h.held is.alike.equal) h.unfolds
    in
    let (goes, brings, paired) = goes-alike formed (alike_types-back is.alike) h.unfolds unfolds h.brings in
    let (u, is_u, alike) = paired-right h.goes paired refl in
    record {
      from = from;
      here = sym h.here ∙ here;
      own = is.own;
      found = is.found;
      mode = is.alike.mode;
      has_mode = is.alike.left_mode;
      head = head;
      unfolds = unfolds;
      goes = u;
      brings = subst (λ (o : Option TypeId). Brings a.program a.annotations s.types (is_own c) head brought gas o) is_u
          brings;
      alike = alike_types-back alike;
    }

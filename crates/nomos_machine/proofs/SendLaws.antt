-- A process that sends, and goes on with the channel under the next name, leaves a typed state typed.
use Rattle.std.proofs.Common.{cond, ◌≡◌, ◌≢◌, ◌∙◌, ◌≤◌, inl, inr, ℕ, ◌+◌, ◌*◌, List, [], ◌∷◌, length, Contains, Option, Some, sum_by, refl, sym, subst, ap, arith}
use Rattle.std.specs.Prelude.{option_and_then}
use Rattle.std.proofs.lemmas.Bool.{cases_eq}
use Rattle.std.proofs.lemmas.List.Elements.{All-nil, All-cons, Contains-append_left}
use Rattle.nomos_ir.specs.Bindings.{IsAscending}
use Rattle.nomos_ir.specs.Order.{count_of}
use Rattle.nomos_ir.specs.declared.code_node.Chan.{Chan}
use Rattle.nomos_ir.specs.declared.code_node.Chan.TheVariants as chan
use Rattle.nomos_ir.specs.declared.ids.CodeId.{CodeId}
use Rattle.nomos_ir.specs.declared.ids.TypeId.{TypeId}
use Rattle.nomos_ir.specs.declared.ids.VarId.{VarId}
use Rattle.nomos_ir.specs.declared.mode.Mode.{Mode}
use Rattle.nomos_ir.specs.declared.mode.Mode.TheVariants as mode
use Rattle.nomos_ir.proofs.SumLaws.{count-first}
use Rattle.nomos_types.specs.Acceptance.{Acceptance, IsAccepted}
use Rattle.nomos_types.specs.Alike.{AlikeTypes}
use Rattle.nomos_types.specs.Judgement.{goes_on}
use Rattle.nomos_types.specs.Modes.{HasMode, IsLinearMode}
use Rattle.nomos_types.proofs.AlikeLaws.{alike_types-same}
use Rattle.nomos_types.proofs.ModeLaws.{mode-unique}
use Rattle.nomos_types.proofs.SynchronizingLaws.{synchronizing-continues}
use Rattle.nomos_machine.specs.Change.{Change, put_at, made}
use Rattle.nomos_machine.specs.Deeds.{alone, sends}
use Rattle.nomos_machine.specs.Matching.{NameHasType, Matches, ProcessTyped}
use Rattle.nomos_machine.specs.Objects.{object_number, provided, used, shared_names, shared_of, mentioned, times, object_at, potential_of, free_purse}
use Rattle.nomos_machine.specs.Revised.{standing_at, under_name}
use Rattle.nomos_machine.specs.Sight.{is_own, present_name}
use Rattle.nomos_machine.specs.State.{State, type_of}
use Rattle.nomos_machine.specs.TypedMessage.{MessageTyped}
use Rattle.nomos_machine.specs.TypedState.{VariablesDiffer, HasVariables, IsOwned, ObjectTyped, LeadsToBase, at_base, further, InSection, IsTyped}
use Rattle.nomos_machine.specs.declared.object.Message.{Message}
use Rattle.nomos_machine.specs.declared.object.Object.{Object}
use Rattle.nomos_machine.specs.declared.object.Object.TheVariants as object
use Rattle.nomos_machine.specs.declared.object.Payload.{Payload}
use Rattle.nomos_machine.specs.declared.object.PotentialList.{PotentialList}
use Rattle.nomos_machine.specs.declared.object.Process.{Process}
use Rattle.nomos_machine.proofs.ApartLaws.{one-process, numbers-differ, leads-own}
use Rattle.nomos_machine.proofs.ChangeLaws.{Replaces, done, further as then, made-kept, made-comes}
use Rattle.nomos_machine.proofs.ChannelLaws.{SameRest, under-keeps, matches-goes_on, goes_on-potential, under-ascending, both-ends, under-provides, under-uses, sent-provides, sent-uses}
use Rattle.nomos_machine.proofs.FitLaws.{Fits}
use Rattle.nomos_machine.proofs.GasLaws.{KeepsGas}
use Rattle.nomos_machine.proofs.GoesLaws.{process-typed, next-is_judgement}
use Rattle.nomos_machine.proofs.LinearLaws.{count-other, owned-once, IsLinearAt, under-shared, linear-at, base-again}
use Rattle.nomos_machine.proofs.MatchLaws.{matches-differ}
use Rattle.nomos_machine.proofs.NameLaws.{mentioned-sum, type_of-below, type_of-kept, type_of-added, type_of-other}
use Rattle.nomos_machine.proofs.ObjectLaws.{brings-kept, matches-kept}
use Rattle.nomos_machine.proofs.OwnedLaws.{made-times, owned-as_before, unmentioned, next-unmentioned, next-not_outside, leads-map}
use Rattle.nomos_machine.proofs.ProcessLaws.{process-next}
use Rattle.nomos_machine.proofs.PutLaws.{object_at-own, put-new}
use Rattle.nomos_machine.proofs.SendingLaws.{Sending, SendsOn}
use Rattle.nomos_machine.proofs.TalkLaws.{brings-continues, brings-keeps_mode, brings-linear}

-- ---- the change

module _ {a : Acceptance} (accepted : IsAccepted a) {s : State} (typed : IsTyped a s) {p : Process}
    (there : Contains s.objects (object.Process p)) (c : Chan) (brought : Payload) (gas : ℕ) (q : Process)
    (next : CodeId)
    (h : Sending a s p (process-typed typed there) c brought gas q next) (g : SendsOn a s p c brought gas h.goes) where
  -- the process afterwards, and the message
  abbrev onward : Process
  onward = standing_at next (under_name c s.next_name q)

  abbrev message : Message
  message = record {
    number = s.next_object;
    to_client = is_own c;
    from = g.from;
    next = Some s.next_name;
    payload = brought;
    purse = gas;
  }

  abbrev pub sent : Change
  sent = record (alone a s p onward) { comes = Some (object.Message message); next_type = Some g.goes }

  -- what is looked up is there, and so the deed is that change
  pub sends-made : (goes : Option TypeId) → goes ≡ Some g.goes → sends a s p c brought gas q goes next ≡ Some sent
  sends-made goes is =
      ap (λ (o : Option TypeId). sends a s p c brought gas q o next) is
      ∙ ap (λ (o : Option ℕ). option_and_then (λ from. Some (record (alone a s p onward) {
        comes = Some (object.Message (record message { from = from }));
        next_type = Some g.goes;
      })) o) g.here

  found-there : object_at s.objects p.pid ≡ Some (object.Process p)
  found-there = object_at-own (object.Process p) s.objects typed.numbered.ascending there

  kept : SameRest q (under_name c s.next_name q)
  kept = under-keeps c s.next_name q

  pub sends-replaces : Replaces sent.places s.objects (object.Process p ∷ [])
  sends-replaces =
      let HasIt : Object → Type 0 = λ o. object_number o ≡ p.pid in
      then (object.Process p) (Some (object.Process onward)) [] s.objects [] found-there
      (All-cons HasIt (object.Process onward) [] (kept.pid ∙ h.pid) (All-nil HasIt))
      (done (put_at p.pid (Some (object.Process onward)) s.objects))

  -- ---- types

  goes-mode : HasMode a.program g.goes g.mode
  goes-mode = brings-keeps_mode accepted.typed.formed g.has_mode g.unfolds g.brings

  goes-linear : IsLinearMode g.mode
  goes-linear = brings-linear accepted.typed.formed g.has_mode g.unfolds g.brings

  fresh-type : type_of (made s sent).types s.next_name ≡ Some g.goes
  fresh-type = type_of-added s.types s.next_name g.goes typed.numbered.names

  old-type : (name : ℕ) → name ≢ s.next_name → type_of (made s sent).types name ≡ type_of s.types name
  old-type name other = type_of-other s.types s.next_name name g.goes (λ same. other (sym same))

  type-kept : (name : ℕ) (t : TypeId) → type_of s.types name ≡ Some t → type_of (made s sent).types name ≡ Some t
  type-kept name t found = type_of-kept s.types ((s.next_name, g.goes) ∷ []) name t found

  -- the next name has no type yet
  next-untyped : (t : TypeId) → type_of s.types s.next_name ≢ Some t
  next-untyped t found = omega (arith, type_of-below s.types s.next_name s.next_name t typed.numbered.names found)

  -- ---- counts

  provides-more : (name : ℕ) → times provided (made s sent).objects name
      ≡ times provided s.objects name + count_of name (s.next_name ∷ [])
  provides-more name =
      let sum = made-times provided name s sent (object.Process p ∷ []) sends-replaces in
      let process = under-provides name c s.next_name g.from q (h.here ∙ g.here) in
      let sending = sent-provides name c g.from s.next_name in
      let same = ap (λ (n : ℕ). count_of name (n ∷ [])) h.offers in
      omega (arith, sum, process, sending, same, both-ends name c s.next_name)

  uses-more : (name : ℕ) → ((t : TypeId) → type_of s.types name ≡ Some t → ¬ (HasMode a.program t mode.S))
      → times used (made s sent).objects name ≡ times used s.objects name + count_of name (s.next_name ∷ [])
  uses-more name unshared =
      let sum = made-times used name s sent (object.Process p ∷ []) sends-replaces in
      let process = under-uses name c s.next_name g.from q h.channels (h.here ∙ g.here) in
      let sending = sent-uses name c g.from s.next_name brought in
      omega (arith, sum, process, sending, h.uses name unshared, both-ends name c s.next_name)

  shared-same : (name : ℕ) → times shared_names (made s sent).objects name ≡ times shared_names s.objects name
  shared-same name =
      let sum = made-times shared_names name s sent (object.Process p ∷ []) sends-replaces in
      let at_p =
      linear-at accepted (process-typed typed there) c g.from g.own g.mode g.here g.found g.has_mode goes-linear
      in
      let linear : IsLinearAt c q.mode = subst (IsLinearAt c) (sym h.same_mode) at_p in
      let under = ap (λ (ns : List ℕ). count_of name ns) (under-shared c s.next_name q linear) in
      let same : count_of name (shared_names (object.Process q)) ≡ count_of name (shared_names (object.Process p)) =
      ap (λ (m : Mode). count_of name (shared_of m q.offers q.base)) h.same_mode
      ∙ ap (λ (n : ℕ). count_of name (shared_of p.mode n q.base)) h.offers
      ∙ ap (λ (b : Option ℕ). count_of name (shared_of p.mode p.offers b)) h.base
      in
      omega (arith, sum, under, same)

  owned-after : (name : ℕ) (t : TypeId) (m : Mode) → type_of (made s sent).types name ≡ Some t → HasMode a.program t m
      → IsOwned m (made s sent) name
  owned-after name t m found has =
      elim (cases_eq name s.next_name) [
        | inl same ↦
            let here = subst (λ (n : ℕ). type_of (made s sent).types n ≡ Some t) same found in
            let fresh = fresh-type in
            let is : g.goes ≡ t = cc in
            let at : g.mode ≡ m = mode-unique accepted.typed.formed.program goes-mode
            (subst (λ (u : TypeId). HasMode a.program u m) (sym is) has)
            in
            let none = unmentioned typed s.next_name (next-unmentioned typed) in
            let one = count-first s.next_name [] in
            subst (IsOwned m (made s sent)) (sym same)
            (owned-once m (made s sent) s.next_name (subst IsLinearMode at goes-linear)
            (omega (arith, provides-more s.next_name, none.0, one))
            (omega (arith, uses-more s.next_name (λ u is_u. absurd (next-untyped u is_u)), none.1, one))
            (next-not_outside typed))
        | inr other ↦
            let before = sym (old-type name other) ∙ found in
            let none = count-other name s.next_name other in
            owned-as_before m s (made s sent) name
            (record {
              provided = λ is. omega (arith, provides-more name, none);
              used = λ is. omega (arith, uses-more name (unshared before is), none);
              shared = λ is. shared-same name;
              outside = refl;
            })
            (typed.owned name t m before has)
      ]
    where
      unshared : type_of s.types name ≡ Some t → m ≢ mode.S → (u : TypeId) → type_of s.types name ≡ Some u
          → ¬ (HasMode a.program u mode.S)
      unshared before is u u_found at_s =
          let same : u ≡ t = cc in
          is (mode-unique accepted.typed.formed.program has
          (subst (λ (v : TypeId). HasMode a.program v mode.S) same at_s))

  -- ---- what comes is typed

  abbrev Typed : Object → Type 0
  Typed o = ObjectTyped a (made s sent).types (length s.balances) o

  -- the next name has the type with which the talk goes on, and what is alike to it
  goes-type : (t : TypeId) → AlikeTypes a.program a.annotations g.goes t
      → NameHasType a.program a.annotations (made s sent).types s.next_name t
  goes-type t alike = record { own = g.goes; found = fresh-type; alike = alike }

  onward-matches : Matches a.program a.annotations (made s sent).types onward (goes_on h.left c h.goes next)
  onward-matches =
      matches-goes_on (matches-kept a s.types (made s sent).types q h.left
      (λ name t among found. type-kept name t found) h.matches)
      c s.next_name h.goes next h.unshared (goes-type h.goes g.alike)

  onward-typed : ProcessTyped a (made s sent).types (length s.balances) onward
  onward-typed =
      let t = process-typed typed there in
      let same_lists =
      ap (λ (ls : List (VarId × PotentialList)). sum_by (λ e. e.1.amount * length e.1.items) ls) kept.held_lists
      in
      let potential : potential_of onward ≡ potential_of q = same_lists in
      let purse : onward.purse ≡ q.purse = kept.purse in
      let covered : potential_of q ≤ q.purse = h.covered in
      let free : free_purse onward ≡ free_purse q = omega (arith, potential, purse) in
      process-next accepted t h.after (goes_on h.left c h.goes next) h.row h.among onward-matches
      (omega (arith, potential, purse, covered)) (free ∙ h.exact ∙ sym (goes_on-potential h.left c h.goes next))
      (kept.payer ∙ h.payer)
      (base-again ((s.next_name, g.goes) ∷ []) t.has_base (kept.same_mode ∙ h.same_mode) (kept.base ∙ h.base))

  onward-differ : VariablesDiffer onward
  onward-differ =
      matches-differ (next-is_judgement typed there accepted (goes_on h.left c h.goes next) h.row h.among)
      onward-matches
      (subst IsAscending (sym kept.values) h.values) (subst IsAscending (sym kept.held_lists) h.held_lists)
      (under-ascending c s.next_name q h.channels)

  message-typed : MessageTyped a (made s sent).types message
  message-typed =
      let formed = accepted.typed.formed in record {
        own = g.own;
        found = type-kept g.from g.own g.found;
        head = g.head;
        unfolds = g.unfolds;
        goes = Some g.goes;
        brings = brings-kept a.program a.annotations s.types (made s sent).types (is_own c) g.head brought gas
            (Some g.goes)
            (λ name t among found. type-kept name t found) g.brings;
        next = goes-type g.goes (alike_types-same a.annotations formed.program formed.contractive goes-mode);
      }

  -- ---- sections

  -- objects of other numbers stay, and the two that come are there
  stays-there : (o : Object) → Contains s.objects o → object_number o ≢ p.pid → Contains (made s sent).objects o
  stays-there o inside other =
      let Other : ℕ × Option Object → Type 0 = λ e. e.0 ≢ object_number o in
      let apart : Other (p.pid, Some (object.Process onward)) = λ is. other (sym is) in
      made-kept s sent o inside (All-cons Other (p.pid, Some (object.Process onward)) [] apart (All-nil Other))

  onward-there : Contains (made s sent).objects (object.Process onward)
  onward-there =
      Contains-append_left (put_at p.pid (Some (object.Process onward)) s.objects) (object.Message message ∷ [])
      (object.Process onward)
      (put-new p.pid (Some (object.Process onward)) (object.Process p) (object.Process onward) s.objects found-there
      (0, omega arith, refl))

  message-there : Contains (made s sent).objects (object.Message message)
  message-there = made-comes s sent (object.Message message) refl

  at-end : (base : ℕ) → p.mode ≡ mode.L → p.base ≡ Some base → LeadsToBase (made s sent).objects base onward.offers
  at-end base at_l is =
      at_base onward onward-there (kept.same_mode ∙ h.same_mode ∙ at_l) (kept.base ∙ h.base ∙ is)

  -- the process still leads where it led: through the message, where it provides the channel
  process-leads : (base : ℕ) → p.mode ≡ mode.L → p.base ≡ Some base → LeadsToBase (made s sent).objects base p.offers
  process-leads base at_l is = by_side_of c refl (at-end base at_l is)
    where
      by_side_of : (d : Chan) → c ≡ d → LeadsToBase (made s sent).objects base (under_name c s.next_name q).offers
          → LeadsToBase (made s sent).objects base p.offers
      by_side_of chan.Own own leads =
          let offers : (under_name c s.next_name q).offers ≡ s.next_name =
          ap (λ (d : Chan). (under_name d s.next_name q).offers) own
          in
          let is_from : Some p.offers ≡ Some g.from = sym (ap (present_name p) own) ∙ g.here in
          let from : g.from ≡ p.offers = some-same (sym is_from) in
          let provides = ap (λ (d : Chan). cond (is_own d) (g.from ∷ []) (s.next_name ∷ [])) own in
          let ends = ap (λ (d : Chan). cond (is_own d) (s.next_name ∷ []) (g.from ∷ [])) own in
          further message p.offers s.next_name message-there
          (subst (λ (ns : List ℕ). Contains ns p.offers) (sym provides) (0, omega arith, from))
          (subst (λ (ns : List ℕ). Contains ns s.next_name) (sym ends) (0, omega arith, refl))
          (subst (LeadsToBase (made s sent).objects base) offers leads)
        where
          some-same : {m n : ℕ} → Some m ≡ Some n → m ≡ n
          some-same same = cc
      by_side_of (chan.Var v) var leads =
          let offers : (under_name c s.next_name q).offers ≡ q.offers =
          ap (λ (d : Chan). (under_name d s.next_name q).offers) var
          in
          subst (LeadsToBase (made s sent).objects base) (offers ∙ h.offers) leads

  -- all names lead where they led
  sent-leads : (base name : ℕ) → LeadsToBase s.objects base name → LeadsToBase (made s sent).objects base name
  sent-leads base name leads =
      leads-map (λ n. Unit {0}) s.objects (made s sent).objects base ends
      (λ m n onward inside provides end stay. (
        tt,
        λ leads_on. further m n onward
            (stays-there (object.Message m) inside
            (λ number. numbers-differ s.objects typed.numbered.ascending p m there inside (sym number))) provides end
            leads_on,
      ))
      name tt leads
    where
      ends : (r : Process) → Contains s.objects (object.Process r) → r.mode ≡ mode.L → r.base ≡ Some base → Unit {0}
          → LeadsToBase (made s sent).objects base r.offers
      ends r inside at_l is stay =
          elim (cases_eq r.pid p.pid) [
            | inl number ↦
                let is_p = one-process s.objects typed.numbered.ascending p r there inside number in
                let at_l_too : p.mode ≡ mode.L = ap (λ (o : Process). o.mode) (sym is_p) ∙ at_l in
                let based : p.base ≡ Some base = ap (λ (o : Process). o.base) (sym is_p) ∙ is in
                subst (λ (o : Process). LeadsToBase (made s sent).objects base o.offers) (sym is_p)
                (process-leads base at_l_too based)
            | inr other ↦ at_base r (stays-there (object.Process r) inside other) at_l is
          ]

  -- the next name leads where the channel's present name led
  next-leads : (base : ℕ) → g.mode ≡ mode.L → LeadsToBase s.objects base g.from
      → LeadsToBase (made s sent).objects base s.next_name
  next-leads base at_l leads = by_side_of c refl
    where
      by_side_of : (d : Chan) → c ≡ d → LeadsToBase (made s sent).objects base s.next_name
      by_side_of chan.Own own =
          let is_from : Some p.offers ≡ Some g.from = sym (ap (present_name p) own) ∙ g.here in
          let from : p.offers ≡ g.from = some-same is_from in
          let found = subst (λ (n : ℕ). type_of s.types n ≡ Some g.own) (sym from) g.found in
          let own_mode = (process-typed typed there).offered g.own found in
          let same : p.mode ≡ mode.L = mode-unique accepted.typed.formed.program own_mode g.has_mode ∙ at_l in
          let owned = typed.owned p.offers g.own mode.L found (subst (HasMode a.program g.own) same own_mode) in
          let based = leads-own s.objects typed.numbered.ascending p base there (omega (arith, owned.0))
          (subst (LeadsToBase s.objects base) (sym from) leads)
          in
          let offers : (under_name c s.next_name q).offers ≡ s.next_name =
          ap (λ (d : Chan). (under_name d s.next_name q).offers) own
          in
          subst (LeadsToBase (made s sent).objects base) offers (at-end base same based)
        where
          some-same : {m n : ℕ} → Some m ≡ Some n → m ≡ n
          some-same same = cc
      by_side_of (chan.Var v) var =
          let provides = ap (λ (d : Chan). cond (is_own d) (g.from ∷ []) (s.next_name ∷ [])) var in
          let ends = ap (λ (d : Chan). cond (is_own d) (s.next_name ∷ []) (g.from ∷ [])) var in
          further message s.next_name g.from message-there
          (subst (λ (ns : List ℕ). Contains ns s.next_name) (sym provides) (0, omega arith, refl))
          (subst (λ (ns : List ℕ). Contains ns g.from) (sym ends) (0, omega arith, refl)) (sent-leads base g.from leads)

  -- so both are in their sections
  section-after : (name : ℕ) (t : TypeId) → type_of (made s sent).types name ≡ Some t → HasMode a.program t mode.L
      → InSection a (made s sent) name t
  section-after name t found at_l =
      elim (cases_eq name s.next_name) [
        | inl same ↦
            let here = subst (λ (n : ℕ). type_of (made s sent).types n ≡ Some t) same found in
            let fresh = fresh-type in
            let is : g.goes ≡ t = cc in
            let goes_at_l = subst (λ (u : TypeId). HasMode a.program u mode.L) (sym is) at_l in
            let at : g.mode ≡ mode.L = mode-unique accepted.typed.formed.program goes-mode goes_at_l in
            let section = typed.sections g.from g.own g.found (subst (HasMode a.program g.own) at g.has_mode) in
            let goes_on = synchronizing-continues a.annotations g.head section.synchronizing g.unfolds
            (brings-continues g.brings)
            in
            let next_section : InSection a (made s sent) s.next_name g.goes = record {
              base = section.base;
              leads = next-leads section.base at section.leads;
              shared = section.shared;
              found = type-kept section.base section.shared section.found;
              synchronizing = goes_on;
            } in
            subst (λ (n : ℕ). InSection a (made s sent) n t) (sym same)
            (subst (InSection a (made s sent) s.next_name) is next_section)
        | inr other ↦
            let section = typed.sections name t (sym (old-type name other) ∙ found) at_l in
            record {
              base = section.base;
              leads = sent-leads section.base name section.leads;
              shared = section.shared;
              found = type-kept section.base section.shared section.found;
              synchronizing = section.synchronizing;
            }
      ]

  -- ---- the whole

  pub sends-fits : Fits a s sent
  sends-fits = record {
    olds = object.Process p ∷ [];
    replaces = sends-replaces;
    numbered = All-cons HasNext (object.Message message) [] refl (All-nil HasNext);
    variables = All-cons HasVariables (object.Process onward) (object.Message message ∷ []) onward-differ
        (All-cons HasVariables (object.Message message) [] tt (All-nil HasVariables));
    typed = All-cons Typed (object.Process onward) (object.Message message ∷ []) onward-typed
        (All-cons Typed (object.Message message) [] message-typed (All-nil Typed));
    owned = λ name t m found has some. owned-after name t m found has;
    keeps_shared = λ name t found at_s. shared-same name;
    outside = λ name some.
        let (t, found, at_r) = typed.outside name some in
        (t, type-kept name t found, at_r, still-mentioned name t found at_r);
    sections = λ name t found at_l some. section-after name t found at_l;
  }
    where
      HasNext : Object → Type 0
      HasNext o = object_number o ≡ s.next_object

      still-mentioned : (name : ℕ) (t : TypeId) → type_of s.types name ≡ Some t → HasMode a.program t mode.R
          → 1 ≤ times mentioned (made s sent).objects name
      still-mentioned name t found at_r =
          let owned = typed.owned name t mode.R found at_r in
          omega (arith, mentioned-sum (made s sent).objects name, provides-more name, owned.0)

  -- the message has what the process pays
  pub sends-keeps_gas : KeepsGas s sent (object.Process p ∷ [])
  sends-keeps_gas =
      let purse : onward.purse ≡ q.purse = kept.purse in
      record { gives = tt; gets = tt; even = omega (arith, purse, h.pays) }

-- A process that goes on by a rule of typing stays typed.
use Rattle.std.proofs.Common.{◌≡◌, ◌∙◌, ◌≤◌, ◌<◌, ℕ, List, Contains, Option, Some, None, refl, sym, subst}
use Rattle.std.specs.Option.{option_or}
use Rattle.nomos_ir.specs.Bindings.{bound_to}
use Rattle.nomos_ir.specs.Paired.{Paired, both, neither}
use Rattle.nomos_ir.specs.ValueKind.{ValueHasKind}
use Rattle.nomos_ir.specs.declared.ids.TypeId.{TypeId}
use Rattle.nomos_ir.specs.declared.ids.VarId.{VarId}
use Rattle.nomos_ir.specs.declared.kind.Kind.{Kind}
use Rattle.nomos_ir.specs.declared.lists.ProgramLists.{ProgramLists}
use Rattle.nomos_ir.proofs.NodeLaws.{All-at}
use Rattle.nomos_types.specs.Acceptance.{Acceptance, IsAccepted}
use Rattle.nomos_types.specs.Alike.{Alike, AlikeTypes}
use Rattle.nomos_types.specs.Amount.{Annotations}
use Rattle.nomos_types.specs.Derivation.{Derives}
use Rattle.nomos_types.specs.Judgement.{Judgement, ListType, IsJudgement, SuitsMode, start_of, with_potential}
use Rattle.nomos_types.specs.Modes.{HasMode}
use Rattle.nomos_types.specs.Places.{IsPlace}
use Rattle.nomos_types.specs.TypingRule.{TypingRule}
use Rattle.nomos_types.specs.Typed.{IsWellFormed}
use Rattle.nomos_types.proofs.AlikeLaws.{alike_channels-bound, alike_channels-free, alike_channels-back, alike_types-back, alike_types-through}
use Rattle.nomos_types.proofs.AsideLaws.{AlikeAside, aside-itself, follow-beside}
use Rattle.nomos_types.proofs.DerivationLaws.{derives-alike, derives-next}
use Rattle.nomos_types.proofs.JudgementLaws.{follows-is_judgement}
use Rattle.nomos_types.proofs.ModeLaws.{mode-unique}
use Rattle.nomos_types.proofs.SuitsModeLaws.{follows-suits_mode}
use Rattle.nomos_machine.specs.Matching.{NameHasType, IsListOf, Matches, HasBase, ProcessTyped}
use Rattle.nomos_machine.specs.Objects.{potential_of, free_purse}
use Rattle.nomos_machine.specs.State.{NameTypes, type_of}
use Rattle.nomos_machine.specs.declared.object.Process.{Process}

-- ---- what a process has is what any judgement says that is like the one of its place

module _ {lists : ProgramLists} {x : Annotations} where
  bound-at : (o r : Option TypeId)
      → ((t : TypeId) → o ≡ Some t → (u : TypeId) × (r ≡ Some u) × AlikeTypes lists x t u)
      → (o ≡ None → r ≡ None) → Paired (AlikeTypes lists x) o r
  bound-at (Some t) r found free =
      let (u, is, alike) = found t refl in
      subst (λ (q : Option TypeId). Paired (AlikeTypes lists x) (Some t) q) (sym is) (both alike)
  bound-at None r found free =
      subst (λ (q : Option TypeId). Paired (AlikeTypes lists x) None q) (sym (free refl)) neither

  first-alike : {a b c d : Option TypeId} → Paired (AlikeTypes lists x) a b → Paired (AlikeTypes lists x) c d
      → Paired (AlikeTypes lists x) (option_or a c) (option_or b d)
  first-alike (both alike) other = both alike
  first-alike neither other = other

  paired-through : {types : NameTypes} {o : Option ℕ} {q r : Option TypeId} → (formed : IsWellFormed lists)
      → Paired (NameHasType lists x types) o q → Paired (AlikeTypes lists x) q r
      → Paired (NameHasType lists x types) o r
  paired-through formed (both has) (both alike) =
      both (record { own = has.own; found = has.found; alike = alike_types-through formed.program has.alike alike })
  paired-through formed neither neither = neither

  pub matches-alike : {types : NameTypes} {p : Process} {j k : Judgement} → IsWellFormed lists
      → Matches lists x types p j → AlikeAside lists x j k → Matches lists x types p k
  matches-alike {types} {p} {j} {k} formed m alike = record {
    mode = m.mode ∙ alike.mode;
    code = m.code ∙ alike.code;
    offers = record {
      own = m.offers.own;
      found = m.offers.found;
      alike = alike_types-through formed.program m.offers.alike alike.offers;
    };
    values = λ v. subst (λ (ks : List (VarId × Kind)). Paired ValueHasKind (bound_to v p.values) (bound_to v ks))
        alike.kinds (m.values v);
    held_lists = λ v. subst (λ (ls : List (VarId × ListType)). Paired IsListOf (bound_to v p.lists) (bound_to v ls))
        alike.same_lists (m.held_lists v);
    channels = λ v. paired-through formed (m.channels v)
        (first-alike
        (bound-at (bound_to v j.shared) (bound_to v k.shared) (λ t. alike_channels-bound v t alike.shared)
        (alike_channels-free v alike.shared))
        (bound-at (bound_to v j.linear) (bound_to v k.linear) (λ t. alike_channels-bound v t alike.linear)
        (alike_channels-free v alike.linear)));
  }

-- ---- the judgement of a process: that of its place, with the potential of its free purse

abbrev pub own_judgement : {a : Acceptance} {types : NameTypes} {accounts : ℕ} → (p : Process)
    → ProcessTyped a types accounts p → Judgement
own_judgement p t = with_potential t.place (free_purse p)

module _ {a : Acceptance} (accepted : IsAccepted a) where
  pub place-is_judgement : {j : Judgement} → IsPlace a.program a.annotations j → IsJudgement a.program j
  place-is_judgement h =
      follows-is_judgement a.annotations h.number accepted.typed.formed h.declared h.follows

  pub place-suits_mode : {j : Judgement} → IsPlace a.program a.annotations j → SuitsMode a.program j
  place-suits_mode h = follows-suits_mode a.annotations h.number accepted.typed.formed h.declared h.follows

  -- with another potential it is a judgement as well
  pub potential-is_judgement : {j : Judgement} (q : ℕ) → IsJudgement a.program j
      → IsJudgement a.program (with_potential j q)
  potential-is_judgement q h = record {
    kinds = h.kinds;
    lists_ascend = h.lists_ascend;
    shared = h.shared;
    linear = h.linear;
    apart = h.apart;
    shared_modes = h.shared_modes;
    linear_modes = h.linear_modes;
  }

  -- the type that a process offers has its mode
  pub offers-own_mode : {types : NameTypes} {p : Process} {j : Judgement} → SuitsMode a.program j
      → Matches a.program a.annotations types p j → (t : TypeId) → type_of types p.offers ≡ Some t
      → HasMode a.program t p.mode
  offers-own_mode {types} {p} {j} h m t found =
      let has = m.offers in
      let same : has.own ≡ t = cc in
      let at_own = mode-unique accepted.typed.formed.program has.alike.right_mode h.offers in
      let here : HasMode a.program has.own p.mode =
      subst (HasMode a.program has.own) (at_own ∙ sym m.mode) has.alike.left_mode
      in
      subst (λ (u : TypeId). HasMode a.program u p.mode) same here

  -- ---- going on

  -- A process that goes on by a rule of its judgement stays typed, where it has what that rule goes on with.
  pub process-next : {types later : NameTypes} {accounts : ℕ} {p q : Process}
      → (t : ProcessTyped a types accounts p) (after : List Judgement) (k : Judgement)
      → TypingRule a.program a.annotations (own_judgement p t) after → Contains after k
      → Matches a.program a.annotations later q k → potential_of q ≤ q.purse → free_purse q ≡ k.q → q.payer ≡ p.payer
      → HasBase a.program later q → ProcessTyped a later accounts q
  process-next {types} {later} {accounts} {p} {q} t after k row among matches covered exact payer base =
      let first = start_of a.program a.annotations t.is_place.declaration in
      let begins : Derives a.program a.annotations first =
      All-at (λ d. Derives a.program a.annotations (start_of a.program a.annotations d)) a.program.procs
      t.is_place.number t.is_place.declaration accepted.typed.procs t.is_place.declared
      in
      let h = place-is_judgement t.is_place in
      let own = potential-is_judgement (free_purse p) h in
      let (next, follows, alike) = follow-beside accepted.typed.formed begins t.is_place.follows own
      (aside-itself accepted.typed.formed (free_purse p) h (place-suits_mode t.is_place).offers) row among
      in
      let onward : Derives a.program a.annotations k = derives-next accepted.typed.formed t.derives row among in
      let back : Alike a.program a.annotations (with_potential next k.q) k = record {
        mode = sym alike.mode;
        kinds = sym alike.kinds;
        same_lists = sym alike.same_lists;
        shared = alike_channels-back alike.shared;
        linear = alike_channels-back alike.linear;
        q = refl;
        code = sym alike.code;
        offers = alike_types-back alike.offers;
      } in
      let derived : Derives a.program a.annotations (with_potential next k.q) =
      derives-alike accepted.typed.formed back onward
      in
      let place : IsPlace a.program a.annotations next = record {
        number = t.is_place.number;
        declaration = t.is_place.declaration;
        declared = t.is_place.declared;
        follows = follows;
      } in
      let fits = matches-alike accepted.typed.formed matches alike in
      record {
        place = next;
        is_place = place;
        matches = fits;
        covered = covered;
        derives = subst (λ (n : ℕ). Derives a.program a.annotations (with_potential next n)) (sym exact) derived;
        payer = subst (λ (n : ℕ). n < accounts) (sym payer) t.payer;
        offered = offers-own_mode (place-suits_mode place) fits;
        has_base = base;
      }

  -- ---- where it goes on

  -- Each judgement with which the rule of a process's judgement goes on is that of a place, but for potential and types
  -- that are alike.
  pub next-place : {types : NameTypes} {accounts : ℕ} {p : Process} → (t : ProcessTyped a types accounts p)
      → (after : List Judgement) (k : Judgement) → TypingRule a.program a.annotations (own_judgement p t) after
      → Contains after k
      → (place : Judgement) × IsPlace a.program a.annotations place × AlikeAside a.program a.annotations k place
  next-place {types} {accounts} {p} t after k row among =
      let first = start_of a.program a.annotations t.is_place.declaration in
      let begins : Derives a.program a.annotations first =
      All-at (λ d. Derives a.program a.annotations (start_of a.program a.annotations d)) a.program.procs
      t.is_place.number t.is_place.declaration accepted.typed.procs t.is_place.declared
      in
      let h = place-is_judgement t.is_place in
      let (next, follows, alike) = follow-beside accepted.typed.formed begins t.is_place.follows
      (potential-is_judgement (free_purse p) h)
      (aside-itself accepted.typed.formed (free_purse p) h (place-suits_mode t.is_place).offers) row among
      in
      let place : IsPlace a.program a.annotations next = record {
        number = t.is_place.number;
        declaration = t.is_place.declaration;
        declared = t.is_place.declared;
        follows = follows;
      } in
      (next, place, alike)

-- The judgement at the place of a process with the types of the state: it derives, and through it the process is typed.
use Rattle.std.proofs.Common.{◌+◌, inr, inl, cond, ◌≡◌, ◌∙◌, ◌≤◌, ◌<◌, ◌==◌, ℕ, Bool, true, false, List, [], ◌∷◌, map, Option, Some, None, refl, sym, subst, ap, eq-eqb, eqb-true, arith}
use Rattle.std.specs.Option.{option_map, option_or}
use Rattle.std.specs.Map.{keys_of}
use Rattle.std.proofs.lemmas.Map.Keys.{sorted_tail}
use Rattle.nomos_ir.specs.Bindings.{bound_to, unbind, by_number, IsAscending}
use Rattle.nomos_ir.specs.Paired.{Paired, both, neither}
use Rattle.nomos_ir.specs.ValueKind.{ValueHasKind}
use Rattle.nomos_ir.specs.declared.code_node.Chan.TheVariants as chan
use Rattle.nomos_ir.specs.declared.ids.TypeId.{TypeId}
use Rattle.nomos_ir.specs.declared.ids.VarId.{VarId}
use Rattle.nomos_ir.specs.declared.lists.ProgramLists.{ProgramLists}
use Rattle.nomos_ir.specs.declared.mode.Mode.{Mode}
use Rattle.nomos_ir.specs.declared.mode.Mode.TheVariants as mode
use Rattle.nomos_ir.proofs.BindingLaws.{bound-after_unbind, all-bound, ascending-same}
use Rattle.nomos_ir.proofs.PairedLaws.{paired-left, paired-as}
use Rattle.nomos_types.specs.Acceptance.{Acceptance, IsAccepted}
use Rattle.nomos_types.specs.Alike.{Alike, AlikeTypes, AlikeChannels}
use Rattle.nomos_types.specs.Alike as alikes
use Rattle.nomos_types.specs.Amount.{Annotations}
use Rattle.nomos_types.specs.Derivation.{Derives}
use Rattle.nomos_types.specs.Judgement.{Judgement, IsJudgement, count_one, type_held, with_potential}
use Rattle.nomos_types.specs.Modes.{HasMode, IsLinearMode}
use Rattle.nomos_types.specs.Places.{IsPlace}
use Rattle.nomos_types.specs.Typed.{IsWellFormed}
use Rattle.nomos_types.proofs.AlikeLaws.{alike-back, alike_types-same}
use Rattle.nomos_types.proofs.AsideLaws.{AlikeAside, alike-is_judgement}
use Rattle.nomos_types.proofs.DerivationLaws.{derives-alike}
use Rattle.nomos_types.proofs.ModeLaws.{mode-unique}
use Rattle.nomos_machine.specs.Matching.{NameHasType, IsListOf, Matches, HasBase, ProcessTyped}
use Rattle.nomos_machine.specs.Objects.{potential_of, free_purse}
use Rattle.nomos_machine.specs.Optional.{◌>>=◌}
use Rattle.nomos_machine.specs.State.{NameTypes, type_of}
use Rattle.nomos_machine.specs.declared.object.Process.{Process}
use Rattle.nomos_machine.proofs.ChannelLaws.{channel-unshared}
use Rattle.nomos_machine.proofs.ProcessLaws.{own_judgement, matches-alike, place-is_judgement, place-suits_mode, potential-is_judgement, offers-own_mode}

-- the type that is found, where one is
abbrev pub found_or : Option TypeId → TypeId → TypeId
found_or (Some t) other = t
found_or None other = other

-- the type that the present name of a variable's channel has
abbrev pub present_type : NameTypes → Process → ℕ → Option TypeId
present_type types p v = bound_to v p.channels >>= type_of types

-- channels of a judgement, each with the type of its present name
abbrev pub at_present : NameTypes → Process → List (VarId × TypeId) → List (VarId × TypeId)
at_present types p channels = map (λ e. (e.0, found_or (present_type types p e.0.0) e.1)) channels

-- The judgement at the place of the process with the types of the state: its channels, references apart from those that
-- are used exactly once as at the place, and its offered name have the types of their names, and the potential is what
-- is free in its purse.
abbrev pub own_typed : NameTypes → Process → Judgement → Judgement
own_typed types p place = record {
  mode = p.mode;
  kinds = place.kinds;
  lists = place.lists;
  shared = at_present types p place.shared;
  linear = at_present types p place.linear;
  q = free_purse p;
  code = p.code;
  offers = found_or (type_of types p.offers) place.offers;
}

-- The channels of the process are those of the judgement, which has for each of them, and for the offered name, the
-- very type that the name has.
pub record HasOwnTypes (types : NameTypes) (p : Process) (j : Judgement) : Type 0 where
  pub offers : type_of types p.offers ≡ Some j.offers
  pub channels : (v : ℕ) → Paired (λ name t. type_of types name ≡ Some t) (bound_to v p.channels) (type_held j v)

-- ---- maps

-- what is bound further on is bound, where the test of the first variable is known
bound-behind : (b : Bool) (v : ℕ) (e : VarId × TypeId) (cs : List (VarId × TypeId)) (t : TypeId)
    → bound_to v (cond b cs (e ∷ unbind v cs)) ≡ None → bound_to v cs ≡ Some t
    → cond b (Some e.1) (bound_to v cs) ≡ Some t
bound-behind true v e cs t none found = absurd cc
bound-behind false v e cs t none found = found

module _ (types : NameTypes) (p : Process) where
  -- what a variable is bound to at the types of present names
  present-first : (b : Bool) (v : ℕ) (e : VarId × TypeId) (o r : Option TypeId) → (e.0.0 == v) ≡ b
      → r ≡ option_map (found_or (present_type types p v)) o
      → cond b (Some (found_or (present_type types p e.0.0) e.1)) r
      ≡ option_map (found_or (present_type types p v)) (cond b (Some e.1) o)
  present-first true v e o r is rest =
      ap (λ (w : ℕ). Some (found_or (present_type types p w) e.1)) (eqb-true e.0.0 v is)
  present-first false v e o r is rest = rest

  present-bound : (v : ℕ) (cs : List (VarId × TypeId))
      → bound_to v (at_present types p cs) ≡ option_map (found_or (present_type types p v)) (bound_to v cs)
  present-bound v [] = refl
  present-bound v (e ∷ cs) =
      present-first (e.0.0 == v) v e (bound_to v cs) (bound_to v (at_present types p cs)) refl (present-bound v cs)

  present-held : (v : ℕ) (j : Judgement) → option_or (bound_to v (at_present types p j.shared))
      (bound_to v (at_present types p j.linear)) ≡ option_map (found_or (present_type types p v)) (type_held j v)
  present-held v j = one-of (bound_to v j.shared) (present-bound v j.shared)
    where
      one-of : (o : Option TypeId)
          → bound_to v (at_present types p j.shared) ≡ option_map (found_or (present_type types p v)) o
          → option_or (bound_to v (at_present types p j.shared)) (bound_to v (at_present types p j.linear))
          ≡ option_map (found_or (present_type types p v)) (option_or o (bound_to v j.linear))
      one-of (Some t) is =
          ap (λ (o : Option TypeId). option_or o (bound_to v (at_present types p j.linear))) is
      one-of None is =
          ap (λ (o : Option TypeId). option_or o (bound_to v (at_present types p j.linear))) is
          ∙ present-bound v j.linear

  module _ (lists : ProgramLists) (x : Annotations) where
    -- the type of the variable's present name is alike to this one
    abbrev IsAlikeNow : ℕ → TypeId → Type 0
    IsAlikeNow v t = (u : TypeId) × (present_type types p v ≡ Some u) × AlikeTypes lists x u t

    -- so channels are alike to those with the types of present names
    present-alike : (cs : List (VarId × TypeId)) → IsAscending cs
        → ((v : ℕ) (t : TypeId) → bound_to v cs ≡ Some t → IsAlikeNow v t)
        → AlikeChannels lists x (at_present types p cs) cs
    present-alike [] ascending each = alikes.none
    present-alike (e ∷ cs) ascending each =
        let here : bound_to e.0.0 (e ∷ cs) ≡ Some e.1 =
        ap (λ (b : Bool). cond b (Some e.1) (bound_to e.0.0 cs)) (eq-eqb e.0.0 e.0.0 refl)
        in
        let (u, found, alike) = each e.0.0 e.1 here in
        let first = subst (λ (o : Option TypeId). AlikeTypes lists x (found_or o e.1) e.1) (sym found) alike in
        alikes.channel e.0 (found_or (present_type types p e.0.0) e.1) e.1 (at_present types p cs) cs first
        (present-alike cs (sorted_tail by_number e.0 (keys_of cs) ascending) (λ v t is.
        each v t (bound-behind (e.0.0 == v) v e cs t (bound-after_unbind v (e ∷ cs) ascending) is)))

-- ---- what is a reference, and what is used exactly once

-- what a variable is bound to in the two parts of a judgement that have channels
record PartsOf (lists : ProgramLists) (shared linear : Option TypeId) : Type 0 where
  at_s : (u : TypeId) → shared ≡ Some u → HasMode lists u mode.S
  is_linear : (u : TypeId) → linear ≡ Some u → (m : Mode) × HasMode lists u m × IsLinearMode m
  apart : count_one shared + count_one linear ≤ 1

parts-of : {lists : ProgramLists} {j : Judgement} → IsJudgement lists j → (v : ℕ)
    → PartsOf lists (bound_to v j.shared) (bound_to v j.linear)
parts-of {lists} {j} h v = record {
  at_s = λ u found. all-bound (λ k. HasMode lists k mode.S) v u j.shared h.shared_modes found;
  is_linear = λ u found.
      all-bound (λ k. (m : Mode) × HasMode lists k m × IsLinearMode m) v u j.linear h.linear_modes found;
  apart = omega (arith, h.apart v);
}

-- no type is that of a reference and of a channel that is used exactly once
not-both : {lists : ProgramLists} {u : TypeId} {m : Mode} → IsWellFormed lists → HasMode lists u mode.S
    → HasMode lists u m → IsLinearMode m → ⊥
not-both formed at_s its_mode (inl at_r) =
    let same = mode-unique formed.program at_s its_mode in
    cc
not-both formed at_s its_mode (inr at_l) =
    let same = mode-unique formed.program at_s its_mode in
    cc

-- so the two parts are told by what they have together
parts-same : {lists : ProgramLists} {r o q i : Option TypeId} → IsWellFormed lists → PartsOf lists r o
    → PartsOf lists q i → option_or r o ≡ option_or q i → (r ≡ q) × (o ≡ i)
parts-same {r = Some u} {o = None} {q = Some w} {i = None} formed first second same = (same, refl)
parts-same {r = Some u} {o = Some k} formed first second same = absurd (omega (arith, first.apart))
parts-same {q = Some w} {i = Some k} formed first second same = absurd (omega (arith, second.apart))
parts-same {r = Some u} {q = None} formed first second same =
    let (m, its_mode, linear) = second.is_linear u (sym same) in
    absurd (not-both formed (first.at_s u refl) its_mode linear)
parts-same {r = None} {q = Some w} formed first second same =
    let (m, its_mode, linear) = first.is_linear w same in
    absurd (not-both formed (second.at_s w refl) its_mode linear)
parts-same {r = None} {q = None} formed first second same = (refl, same)

module _ {a : Acceptance} (accepted : IsAccepted a) {types : NameTypes} {accounts : ℕ} {p : Process} where
  -- ---- a typed process has its own judgement

  module _ (t : ProcessTyped a types accounts p) where
    abbrev own : Judgement
    own = own_typed types p t.place

    is_judgement : IsJudgement a.program t.place
    is_judgement = place-is_judgement accepted t.is_place

    held-alike : (v : ℕ) (u : TypeId) → type_held t.place v ≡ Some u
        → IsAlikeNow types p a.program a.annotations v u
    held-alike v u held =
        let (name, bound, is) = paired-left u (t.matches.channels v) held in
        (is.own, ap (λ (o : Option ℕ). o >>= type_of types) bound ∙ is.found, is.alike)

    own-alike : Alike a.program a.annotations own (own_judgement p t)
    own-alike =
        let h = is_judgement in
        let is = t.matches.offers in
        record {
          mode = t.matches.mode;
          kinds = refl;
          same_lists = refl;
          shared = present-alike types p a.program a.annotations t.place.shared h.shared (λ v u found.
              held-alike v u (ap (λ (o : Option TypeId). option_or o (bound_to v t.place.linear)) found));
          linear = present-alike types p a.program a.annotations t.place.linear h.linear (λ v u found.
              let none = channel-unshared h (chan.Var (record { 0 = v })) u found in
              held-alike v u (ap (λ (o : Option TypeId). option_or o (bound_to v t.place.linear)) none ∙ found));
          q = refl;
          code = t.matches.code;
          offers = subst
              (λ (o : Option TypeId). AlikeTypes a.program a.annotations (found_or o t.place.offers) t.place.offers)
              (sym is.found) is.alike;
        }

    own-types : HasOwnTypes types p own
    own-types =
        let is = t.matches.offers in
        record {
          offers = is.found ∙ ap (λ (o : Option TypeId). Some (found_or o t.place.offers)) (sym is.found);
          channels = λ v. paired-as refl (present-held types p v t.place)
              (by_channel (bound_to v p.channels) (type_held t.place v) (t.matches.channels v));
        }
      where
        by_channel : (o : Option ℕ) (r : Option TypeId) → Paired (NameHasType a.program a.annotations types) o r
            → Paired (λ name u. type_of types name ≡ Some u) o (option_map (found_or (o >>= type_of types)) r)
        by_channel _ _ (both {x = name} {y = u} is) =
            both (is.found ∙ ap (λ (o : Option TypeId). Some (found_or o u)) (sym is.found))
        by_channel _ _ neither = neither

    -- The judgement at its place with the types of the state, which has the very types of its names, is alike to that
    -- which the rules give there, with what is free in its purse, and it has a derivation.
    pub typed-own : HasOwnTypes types p own × Alike a.program a.annotations own (own_judgement p t)
        × Derives a.program a.annotations own
    typed-own = (own-types, own-alike, derives-alike accepted.typed.formed own-alike t.derives)

    -- ---- and no other one

    -- each judgement with these types has the same channels
    same-channels : (j : Judgement) → IsJudgement a.program j → HasOwnTypes types p j
        → (j.shared ≡ own.shared) × (j.linear ≡ own.linear) × (j.offers ≡ own.offers)
    same-channels j h has =
        let k : IsJudgement a.program own =
        alike-is_judgement accepted.typed.formed own-alike (potential-is_judgement accepted (free_purse p) is_judgement)
        in
        let same = λ (v : ℕ). one-type (has.channels v) (own-types.channels v) in
        let parts = λ (v : ℕ). parts-same accepted.typed.formed (parts-of h v) (parts-of k v) (same v) in (
          ascending-same j.shared own.shared h.shared k.shared (λ v. (parts v).0),
          ascending-same j.linear own.linear h.linear k.linear (λ v. (parts v).1),
          some-one (sym has.offers ∙ own-types.offers),
        )
      where
        some-one : {u w : TypeId} → Some u ≡ Some w → u ≡ w
        some-one is = cc

        one-type : {o : Option ℕ} {r q : Option TypeId} → Paired (λ name u. type_of types name ≡ Some u) o r
            → Paired (λ name u. type_of types name ≡ Some u) o q → r ≡ q
        one-type (both found) (both other) = sym found ∙ other
        one-type neither neither = refl

    -- So each judgement with these types, and otherwise as at the place, is alike to the one of the place, and derives.
    pub judgement-own : (j : Judgement) → IsJudgement a.program j → HasOwnTypes types p j → j.mode ≡ p.mode
        → j.kinds ≡ t.place.kinds → j.lists ≡ t.place.lists → j.code ≡ p.code → j.q ≡ free_purse p
        → Alike a.program a.annotations j (own_judgement p t) × Derives a.program a.annotations j
    judgement-own j h has same_mode kinds same_lists same_code exact =
        let (shared, linear, offers) = same-channels j h has in
        let of_own = own-alike in
        let lists = a.program in
        let x = a.annotations in
        let alike : Alike a.program a.annotations j (own_judgement p t) = record {
          mode = same_mode ∙ of_own.mode;
          kinds = kinds;
          same_lists = same_lists;
          shared = subst (λ (cs : List (VarId × TypeId)). AlikeChannels lists x cs t.place.shared) (sym shared)
              of_own.shared;
          linear = subst (λ (cs : List (VarId × TypeId)). AlikeChannels lists x cs t.place.linear) (sym linear)
              of_own.linear;
          q = exact;
          code = same_code ∙ of_own.code;
          offers = subst (λ (u : TypeId). AlikeTypes lists x u t.place.offers) (sym offers) of_own.offers;
        } in
        (alike, derives-alike accepted.typed.formed alike t.derives)

  -- ---- and what has its own judgement is typed

  -- A process is typed where a judgement with the types of its names is alike, but for potential, to the one that the
  -- rules give at a place, and has a derivation with what is free in the purse.
  pub own-typed : (place : Judgement) → IsPlace a.program a.annotations place → (j : Judgement) → HasOwnTypes types p j
      → AlikeAside a.program a.annotations j place → Derives a.program a.annotations (with_potential j (free_purse p))
      → p.mode ≡ j.mode → p.code ≡ j.code
      → ((v : ℕ) → Paired ValueHasKind (bound_to v p.values) (bound_to v j.kinds))
      → ((v : ℕ) → Paired IsListOf (bound_to v p.lists) (bound_to v j.lists))
      → potential_of p ≤ p.purse → p.payer < accounts → HasBase a.program types p → ProcessTyped a types accounts p
  own-typed place is_place j has alike derives same_mode same_code values held_lists covered payer base =
      let formed = accepted.typed.formed in
      let h : IsJudgement a.program (with_potential j 0) =
      alike-is_judgement formed alike (potential-is_judgement accepted 0 (place-is_judgement accepted is_place))
      in
      let own_matches : Matches a.program a.annotations types p j = record {
        mode = same_mode;
        code = same_code;
        offers = record {
          own = j.offers;
          found = has.offers;
          alike = alike_types-same a.annotations formed.program formed.contractive alike.offers.left_mode;
        };
        values = values;
        held_lists = held_lists;
        channels = λ v. by_channel (bound_to v p.channels) (type_held j v) (held-mode h v) (has.channels v);
      } in
      let matches = matches-alike formed own_matches alike in
      let back : Alike a.program a.annotations (with_potential place (free_purse p)) (with_potential j (free_purse p)) =
      let other = alike-back alike in
      record {
        mode = other.mode;
        kinds = other.kinds;
        same_lists = other.same_lists;
        shared = other.shared;
        linear = other.linear;
        q = refl;
        code = other.code;
        offers = other.offers;
      }
      in
      record {
        place = place;
        is_place = is_place;
        matches = matches;
        covered = covered;
        derives = derives-alike formed back derives;
        payer = payer;
        offered = offers-own_mode accepted (place-suits_mode accepted is_place) matches;
        has_base = base;
      }
    where
      HasSome : TypeId → Type 0
      HasSome u = (m : Mode) × HasMode a.program u m

      -- each channel of a judgement has a mode
      held-mode : IsJudgement a.program (with_potential j 0) → (v : ℕ) (u : TypeId) → type_held j v ≡ Some u → HasSome u
      held-mode h v u held = one-of (bound_to v j.shared) (bound_to v j.linear) refl refl held
        where
          one-of : (o r : Option TypeId) → bound_to v j.shared ≡ o → bound_to v j.linear ≡ r → option_or o r ≡ Some u
              → HasSome u
          one-of (Some w) r is_shared is_linear found =
              let same : w ≡ u = cc in
              subst HasSome same
              (mode.S, all-bound (λ k. HasMode a.program k mode.S) v w j.shared h.shared_modes is_shared)
          one-of None r is_shared is_linear found =
              let (m, its_mode, linear) =
              all-bound (λ k. (m : Mode) × HasMode a.program k m × IsLinearMode m) v u j.linear h.linear_modes
              (is_linear ∙ found)
              in
              (m, its_mode)

      by_channel : (o : Option ℕ) (r : Option TypeId) → ((u : TypeId) → r ≡ Some u → HasSome u)
          → Paired (λ name u. type_of types name ≡ Some u) o r → Paired (NameHasType a.program a.annotations types) o r
      by_channel _ _ modes (both {x = name} {y = u} found) =
          let (m, its_mode) = modes u refl in
          both (record {
            own = u;
            found = found;
            alike =
                alike_types-same a.annotations accepted.typed.formed.program accepted.typed.formed.contractive its_mode;
          })
      by_channel _ _ modes neither = neither

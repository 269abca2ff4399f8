-- What a process has is what its place says exactly where the answers of the code's questions say so.
use Rattle.std.proofs.Common.{◌≡◌, ◌≤◌, ◌<◌, ◌+◌, ◌↔◌, ◌==◌, ◌∙◌, ℕ, zero, suc, Bool, true, false, cond, not, List, [], ◌∷◌, All, Option, Some, None, length, filter, slice_get, IsSome, IsTrue, refl, sym, ap, subst, arith, eqb-true}
use Rattle.std.specs.Prelude.{slice_set}
use Rattle.std.proofs.lemmas.List.{length-set}
use Rattle.std.proofs.lemmas.List.Elements.{All-cons, All-head, All-nil, All-tail, All-weaker}
use Rattle.std.proofs.lemmas.List.Kept.{IsStrictlySortedBy-filter}
use Rattle.std.proofs.lemmas.Map.Made.{keys_of-map_values}
use Rattle.std.specs.List.Sorted.{IsStrictlySortedBy}
use Rattle.std.specs.Map.{keys_of}
use Rattle.std.specs.Option.{option_map, option_or}
use Rattle.nomos_check.specs.InHand.{IsWanted}
use Rattle.nomos_contents.specs.Data.{state_of}
use Rattle.nomos_contents.specs.declared.data.StateData.{StateData}
use Rattle.nomos_ir.proofs.MappedLaws.{each-bound}
use Rattle.nomos_ir.proofs.PairedLaws.{none-left, paired-left}
use Rattle.nomos_ir.specs.Bindings.{IsAscending, bound_to, by_number, each_bound}
use Rattle.nomos_ir.specs.Paired.{ArePaired, Paired, both, neither}
use Rattle.nomos_ir.specs.Value.{Value, value_list}
use Rattle.nomos_ir.specs.ValueKind.{AllHaveKind, ValueHasKind}
use Rattle.nomos_ir.specs.declared.ids.CodeId.{CodeId}
use Rattle.nomos_ir.specs.declared.ids.TypeId.{TypeId}
use Rattle.nomos_ir.specs.declared.ids.VarId.{VarId}
use Rattle.nomos_ir.specs.declared.kind.Kind.{Kind}
use Rattle.nomos_ir.specs.declared.mode.Mode.{Mode}
use Rattle.nomos_ir.specs.declared.mode.Mode.TheVariants as mode
use Rattle.nomos_machine.specs.Matching.{IsListOf, Matches, NameHasType}
use Rattle.nomos_machine.specs.Objects.{free_purse, potential_of}
use Rattle.nomos_machine.specs.State.{NameTypes}
use Rattle.nomos_machine.specs.TypedState.{IsTyped, ObjectTyped}
use Rattle.nomos_machine.specs.declared.object.Message.{Message}
use Rattle.nomos_machine.specs.declared.object.Object.{Object}
use Rattle.nomos_machine.specs.declared.object.Object.TheVariants as object
use Rattle.nomos_machine.specs.declared.object.Process.{Process}
use Rattle.nomos_places.proofs.InsideLaws.{place-derives, place-inside}
use Rattle.nomos_places.specs.WantedPlaces.{ArePlacesAt, IsPlaceAt, SaysTyping, list_type}
use Rattle.nomos_places.specs.declared.place.Place.{Place}
use Rattle.nomos_types.proofs.FollowingLaws.{one-judgement}
use Rattle.nomos_types.proofs.InversionLaws.{derives-offers_mode}
use Rattle.nomos_types.proofs.JudgementLaws.{follows-is_judgement}
use Rattle.nomos_types.proofs.ModeLaws.{mode-in_range}
use Rattle.nomos_types.specs.Acceptance.{Acceptance, IsAccepted}
use Rattle.nomos_types.specs.Derivation.{Derives}
use Rattle.nomos_types.specs.Judgement.{IsJudgement, Judgement, ListType, count_one, with_potential}
use Rattle.nomos_types.specs.Modes.{HasMode, IsLinearMode}
use Rattle.nomos_typed.specs.StateTyped.{AreProcessesPlaced, IsPlaced, ObjectPlaced}
use Rattle.nomos_typed.specs.declared.told.Told.{Told}
use Rattle.nomos_typed.specs.mirror.AtPlaces.{AreTypesIn, HasChannels, HasPlainly, IsMarkedAt, MarksObject, is_reference, ObjectIsKnown, ObjectMarked, PlaceIsKnown, is_some}
use Rattle.nomos_typed.specs.mirror.ComparedWith.{NameFits}

-- ---- marks

set-there : (xs : List Bool) (i : ℕ) (v : Bool) → i < length xs → slice_get (slice_set xs i v) i ≡ Some v
set-there [] i v inside = absurd (omega arith)
set-there (x ∷ xs) zero v inside = refl
set-there (x ∷ xs) (suc i) v inside = set-there xs i v (omega arith)

set-stays : (xs : List Bool) (i at : ℕ) (v : Bool) → slice_get xs at ≡ Some v → slice_get (slice_set xs i v) at ≡ Some v
set-stays [] i at v here = absurd cc
set-stays (x ∷ xs) zero zero v here = refl
set-stays (x ∷ xs) zero (suc at) v here = here
set-stays (x ∷ xs) (suc i) zero v here = here
set-stays (x ∷ xs) (suc i) (suc at) v here = set-stays xs i at v here

-- what was marked stays so
pub marked-kept : (at : ℕ) (old new : List Bool) → IsMarkedAt at old new → (o : Object) → ObjectMarked old o
    → ObjectMarked new o
marked-kept at old new m (object.Process p) marked = λ low.
    let width = m.width in
    m.kept p.code.0 (marked (omega (arith, low, width)))
marked-kept at old new m (object.Message n) marked = tt

-- and the instruction of the process is
pub process-marked : (p : Process) (old new : List Bool) → IsMarkedAt p.code.0 old new
    → ObjectMarked new (object.Process p)
process-marked p old new m = λ low.
    let width = m.width in
    m.marked (omega (arith, low, width))

pub process-marks : (p : Process) (old new : List Bool) → IsMarkedAt p.code.0 old new
    → MarksObject (object.Process p) old new
process-marks p old new m =
    record { width = m.width; marked = process-marked p old new m; kept = marked-kept p.code.0 old new m }

pub message-marks : (m : Message) (old new : List Bool) → new ≡ old → MarksObject (object.Message m) old new
message-marks m old new is = record {
  width = ap length is;
  marked = tt;
  kept = λ o marked. subst (λ (l : List Bool). ObjectMarked l o) (sym is) marked;
}

-- ---- elements of lists

pub kinds-each : (vs : List Value) (kind : Kind) → AllHaveKind (value_list vs) kind
    → All (λ v. ValueHasKind v kind) vs
kinds-each [] kind all = All-nil (λ (v : Value). ValueHasKind v kind)
kinds-each (v ∷ vs) kind all =
    All-cons (λ (w : Value). ValueHasKind w kind) v vs all.0 (kinds-each vs kind all.1)

pub each-kinds : (vs : List Value) (kind : Kind) → All (λ v. ValueHasKind v kind) vs
    → AllHaveKind (value_list vs) kind
each-kinds [] kind all = tt
each-kinds (v ∷ vs) kind all =
    let P : Value → Type 0 = λ w. ValueHasKind w kind in
    (All-head P v vs all, each-kinds vs kind (All-tail P v vs all))

-- ---- what is bound to what is changed

module _ {X Y Z : Type 0} (R : X → Z → Type 0) (f : Y → Z) where
  abbrev Changed : X → Y → Type 0
  Changed x y = R x (f y)

  paired-change : (o : Option X) (q : Option Y) → Paired R o (option_map f q) → Paired Changed o q
  paired-change (Some x) (Some y) (both related) = both related
  paired-change None None pair = neither
  paired-change (Some x) None pair =
      let nothing = none-left pair refl in
      absurd cc
  paired-change None (Some y) pair =
      let (x, is, related) = paired-left (f y) pair refl in
      absurd cc

  paired-unchange : (o : Option X) (q : Option Y) → Paired Changed o q → Paired R o (option_map f q)
  paired-unchange _ _ (both related) = both related
  paired-unchange _ _ neither = neither

  changed-pairs : (b : List (VarId × X)) (c : List (VarId × Y)) → ArePaired R b (each_bound f c)
      → ArePaired Changed b c
  changed-pairs b c pairs v =
      paired-change (bound_to v b) (bound_to v c)
      (subst (λ (q : Option Z). Paired R (bound_to v b) q) (each-bound f v c) (pairs v))

  pairs-changed : (b : List (VarId × X)) (c : List (VarId × Y)) → ArePaired Changed b c
      → ArePaired R b (each_bound f c)
  pairs-changed b c pairs v =
      subst (λ (q : Option Z). Paired R (bound_to v b) q) (sym (each-bound f v c))
      (paired-unchange (bound_to v b) (bound_to v c) (pairs v))

-- ---- channels by their variables

module _ {X : Type 0} (q : ℕ → Bool) where
  abbrev chosen : List (VarId × X) → List (VarId × X)
  chosen es = filter (λ e. q e.0.0) es

  none-either : (t : Bool) (o : Option X) → o ≡ None → cond t o None ≡ None
  none-either true o is = is
  none-either false o is = refl

  -- an entry in front, by whether it is chosen and whether it has the variable
  chosen-step : (t b : Bool) (v : ℕ) (e : VarId × X) (es : List (VarId × X)) → q e.0.0 ≡ t → (e.0.0 == v) ≡ b
      → bound_to v (chosen es) ≡ cond (q v) (bound_to v es) None
      → bound_to v (cond t (e ∷ chosen es) (chosen es)) ≡ cond (q v) (cond b (Some e.1) (bound_to v es)) None
  chosen-step true true v e es chooses here rest =
      let at : q v ≡ true = subst (λ (w : ℕ). q w ≡ true) (eqb-true e.0.0 v here) chooses in
      ap (λ (c : Bool). cond c (Some e.1) (bound_to v (chosen es))) here
      ∙ sym (ap (λ (c : Bool). cond c (Some e.1) None) at)
  chosen-step true false v e es chooses here rest =
      ap (λ (c : Bool). cond c (Some e.1) (bound_to v (chosen es))) here ∙ rest
  chosen-step false true v e es chooses here rest =
      let at : q v ≡ false = subst (λ (w : ℕ). q w ≡ false) (eqb-true e.0.0 v here) chooses in
      rest
      ∙ ap (λ (c : Bool). cond c (bound_to v es) None) at
      ∙ sym (ap (λ (c : Bool). cond c (Some e.1) None) at)
  chosen-step false false v e es chooses here rest = rest

  -- what is bound to a variable that is chosen stays so, and to another one nothing is
  chosen-bound : (v : ℕ) (es : List (VarId × X)) → bound_to v (chosen es) ≡ cond (q v) (bound_to v es) None
  chosen-bound v [] = sym (none-either (q v) None refl)
  chosen-bound v (e ∷ es) =
      chosen-step (q e.0.0) (e.0.0 == v) v e es refl refl (chosen-bound v es)
      ∙ ap (λ (o : Option X). cond (q v) o None) refl

  keys-step : (t : Bool) (e : VarId × X) (es : List (VarId × X))
      → keys_of (chosen es) ≡ filter (λ (w : VarId). q w.0) (keys_of es)
      → keys_of (cond t (e ∷ chosen es) (chosen es))
      ≡ cond t (e.0 ∷ filter (λ (w : VarId). q w.0) (keys_of es)) (filter (λ (w : VarId). q w.0) (keys_of es))
  keys-step true e es rest = ap (λ (ks : List VarId). e.0 ∷ ks) rest
  keys-step false e es rest = rest

  chosen-keys : (es : List (VarId × X)) → keys_of (chosen es) ≡ filter (λ (w : VarId). q w.0) (keys_of es)
  chosen-keys [] = refl
  chosen-keys (e ∷ es) = keys-step (q e.0.0) e es (chosen-keys es)

  chosen-ascending : (es : List (VarId × X)) → IsAscending es → IsAscending (chosen es)
  chosen-ascending es ascending =
      subst (λ (ks : List VarId). IsStrictlySortedBy by_number ks) (sym (chosen-keys es))
      (IsStrictlySortedBy-filter by_number (λ (w : VarId). q w.0) (keys_of es) ascending)

-- a test that says whether there is something
pub some-told : {X : Type 0} (o : Option X) (told : Bool) → (IsTrue told ↔ IsSome o) → told ≡ is_some o
some-told (Some x) told exact = exact.1 refl
some-told None true exact =
    let there = exact.0 refl in
    absurd cc
some-told None false exact = refl

-- whether the variable is among references, or is not
abbrev asked : List (VarId × TypeId) → Bool → ℕ → Bool
asked shared true v = is_some (bound_to v shared)
asked shared false v = not (is_some (bound_to v shared))

pub references-ascending : (shared : List (VarId × TypeId)) (channels : List (VarId × ℕ)) → IsAscending channels
    → IsAscending (filter (is_reference shared true) channels)
references-ascending shared channels ascending = chosen-ascending (asked shared true) channels ascending

pub others-ascending : (shared : List (VarId × TypeId)) (channels : List (VarId × ℕ)) → IsAscending channels
    → IsAscending (filter (is_reference shared false) channels)
others-ascending shared channels ascending = chosen-ascending (asked shared false) channels ascending

module _ {X Y : Type 0} (R : X → Y → Type 0) where
  split-pair : (c : Option X) (o p : Option Y) → count_one o + count_one p ≤ 1
      → Paired R c (option_or o p)
      ↔ (Paired R (cond (is_some o) c None) o × Paired R (cond (not (is_some o)) c None) p)
  split-pair c (Some s) (Some l) once = absurd (omega (arith, once))
  split-pair c (Some s) None once = (λ pair. (pair, neither), λ pairs. pairs.0)
  split-pair c None p once = (λ pair. (neither, pair), λ pairs. pairs.1)

-- channels are those of the place exactly where the references are, and the others are
pub channels-split : (told : Told) (place : Place) (channels : List (VarId × ℕ))
    → ((v : ℕ) → count_one (bound_to v place.shared) + count_one (bound_to v place.linear) ≤ 1)
    → (ArePaired (NameFits told) (filter (is_reference place.shared true) channels) place.shared
    × ArePaired (NameFits told) (filter (is_reference place.shared false) channels) place.linear)
    ↔ HasChannels told channels place
channels-split told place channels apart =
    let R : ℕ → TypeId → Type 0 = NameFits told in
    let shared = place.shared in
    let linear = place.linear in
    let first : (v : ℕ) → bound_to v (filter (is_reference shared true) channels)
    ≡ cond (is_some (bound_to v shared)) (bound_to v channels) None =
    λ v. chosen-bound (asked shared true) v channels in
    let second : (v : ℕ) → bound_to v (filter (is_reference shared false) channels)
    ≡ cond (not (is_some (bound_to v shared))) (bound_to v channels) None =
    λ v. chosen-bound (asked shared false) v channels in
    let split = λ (v : ℕ). split-pair R (bound_to v channels) (bound_to v shared) (bound_to v linear) (apart v) in (
      λ pairs v.
          (split v).1 (
            subst (λ (o : Option ℕ). Paired R o (bound_to v shared)) (first v) (pairs.0 v),
            subst (λ (o : Option ℕ). Paired R o (bound_to v linear)) (second v) (pairs.1 v),
          ),
      λ has. (
        λ v. subst (λ (o : Option ℕ). Paired R o (bound_to v shared)) (sym (first v)) ((split v).0 (has v)).0,
        λ v. subst (λ (o : Option ℕ). Paired R o (bound_to v linear)) (sym (second v)) ((split v).0 (has v)).1,
      ),
    )

-- ---- a place of the program

module _ {a : Acceptance} (accepted : IsAccepted a) (place : Place) (at : IsPlaceAt a place) where
  abbrev j : Judgement
  j = at.judgement

  is-judgement : IsJudgement a.program j
  is-judgement =
      follows-is_judgement a.annotations at.stands.number accepted.typed.formed at.stands.declared at.stands.follows

  pub place-kinds : IsAscending place.kinds
  place-kinds = subst (λ (ks : List (VarId × Kind)). IsAscending ks) at.describes.kinds is-judgement.kinds

  pub place-lists : IsAscending place.lists
  place-lists =
      let there : IsAscending (each_bound list_type place.lists) =
      subst (λ (ls : List (VarId × ListType)). IsAscending ls) at.describes.lists is-judgement.lists_ascend in
      subst (λ (ks : List VarId). IsStrictlySortedBy by_number ks) (keys_of-map_values list_type place.lists) there

  -- the type that is offered is one of the program's
  pub place-offers : place.offers.0 < length a.program.types
  place-offers =
      let (m, has) = derives-offers_mode (place-derives accepted j at.stands) in
      subst (λ (t : TypeId). t.0 < length a.program.types) at.describes.offers
      (mode-in_range accepted.is_program has)

  pub place-types : AreTypesIn a.program place
  place-types =
      let h = is-judgement in
      let program = accepted.is_program in
      let S : VarId × TypeId → Type 0 = λ b. HasMode a.program b.1 mode.S in
      let L : VarId × TypeId → Type 0 = λ b. (m : Mode) × HasMode a.program b.1 m × IsLinearMode m in
      let In : VarId × TypeId → Type 0 = λ b. b.1.0 < length a.program.types in
      let apart : (v : ℕ) → count_one (bound_to v j.shared) + count_one (bound_to v j.linear) ≤ 1 =
      λ v. let once = h.apart v in omega (arith, once) in
      let Once : List (VarId × TypeId) → List (VarId × TypeId) → Type 0 =
      λ shared linear. (v : ℕ) → count_one (bound_to v shared) + count_one (bound_to v linear) ≤ 1 in
      record {
        shared = subst (λ (cs : List (VarId × TypeId)). IsAscending cs) at.describes.shared h.shared;
        linear = subst (λ (cs : List (VarId × TypeId)). IsAscending cs) at.describes.linear h.linear;
        apart =
            subst (Once place.shared) at.describes.linear
            (subst (λ (cs : List (VarId × TypeId)). Once cs j.linear) at.describes.shared apart);
        shared_in =
            subst (All In) at.describes.shared
            (All-weaker S In (λ b m. mode-in_range program m) j.shared h.shared_modes);
        linear_in =
            subst (All In) at.describes.linear
            (All-weaker L In (λ b m. mode-in_range program m.1) j.linear h.linear_modes);
      }

  module _ (types : NameTypes) (p : Process) (here : place.code ≡ p.code) where
    abbrev Fits : ℕ → TypeId → Type 0
    Fits = NameHasType a.program a.annotations types

    -- what is asked of a process, one after the other
    abbrev pub IsAnswered : Type 0
    IsAnswered = HasPlainly p place
        × (Fits p.offers place.offers
        × ((v : ℕ) → Paired Fits (bound_to v p.channels) (option_or (bound_to v place.shared)
        (bound_to v place.linear))))

    matches-answered : Matches a.program a.annotations types p j → potential_of p ≤ p.purse
        → place.least ≤ free_purse p → IsAnswered
    matches-answered m covered enough =
        let d = at.describes in
        let held : ArePaired IsListOf p.lists (each_bound list_type place.lists) =
        subst (λ (ls : List (VarId × ListType)). ArePaired IsListOf p.lists ls) d.lists m.held_lists in
        let Channels : List (VarId × TypeId) → List (VarId × TypeId) → Type 0 =
        λ shared linear. (v : ℕ) → Paired Fits (bound_to v p.channels) (option_or (bound_to v shared)
        (bound_to v linear)) in (
          record {
            mode = m.mode ∙ d.mode;
            values = subst (λ (ks : List (VarId × Kind)). ArePaired ValueHasKind p.values ks) d.kinds m.values;
            held = changed-pairs IsListOf list_type p.lists place.lists held;
            covered = covered;
            enough = enough;
          },
          (
            subst (Fits p.offers) d.offers m.offers,
            subst (Channels place.shared) d.linear
                (subst (λ (cs : List (VarId × TypeId)). Channels cs j.linear) d.shared m.channels),
          ),
        )

    answered-matches : IsAnswered → Matches a.program a.annotations types p j
    answered-matches answered =
        let d = at.describes in
        let plain = answered.0 in
        let held = pairs-changed IsListOf list_type p.lists place.lists plain.held in
        let Channels : List (VarId × TypeId) → List (VarId × TypeId) → Type 0 =
        λ shared linear. (v : ℕ) → Paired Fits (bound_to v p.channels) (option_or (bound_to v shared)
        (bound_to v linear)) in
        record {
          mode = plain.mode ∙ sym d.mode;
          code = sym here ∙ sym d.code;
          offers = subst (Fits p.offers) (sym d.offers) answered.1.0;
          values =
              subst (λ (ks : List (VarId × Kind)). ArePaired ValueHasKind p.values ks) (sym d.kinds) plain.values;
          held_lists = subst (λ (ls : List (VarId × ListType)). ArePaired IsListOf p.lists ls) (sym d.lists) held;
          channels =
              subst (λ (cs : List (VarId × TypeId)). Channels cs j.linear) (sym d.shared)
              (subst (Channels place.shared) (sym d.linear) answered.1.1);
        }

    placed-answered : IsPlaced a types p → IsAnswered
    placed-answered placed =
        let code : placed.place.code ≡ j.code = sym placed.matches.code ∙ sym here ∙ sym at.describes.code in
        let one : placed.place ≡ j = one-judgement accepted.is_program placed.is_place at.stands code in
        let derives : Derives a.program a.annotations (with_potential j (free_purse p)) =
        subst (λ (k : Judgement). Derives a.program a.annotations (with_potential k (free_purse p))) one
        placed.derives in
        matches-answered (subst (Matches a.program a.annotations types p) one placed.matches) placed.covered
        ((at.least (free_purse p)).0 derives)

    answered-placed : IsAnswered → IsPlaced a types p
    answered-placed answered = record {
      place = j;
      is_place = at.stands;
      matches = answered-matches answered;
      covered = answered.0.covered;
      derives = (at.least (free_purse p)).1 answered.0.enough;
    }

    -- a process stands at its place exactly where it has what is asked for
    pub placed-exact : IsAnswered ↔ IsPlaced a types p
    placed-exact = (answered-placed, placed-answered)

-- where nothing stands at an instruction, no process stands at its place there
pub nowhere-placed : {a : Acceptance} → IsAccepted a → (types : NameTypes) (p : Process) (found : List Place)
    → (known : PlaceIsKnown a found p.code) → SaysTyping a known.wanted p.code None → IsPlaced a types p → ⊥
nowhere-placed accepted types p found known nothing placed =
    let inside = place-inside accepted placed.place placed.is_place in
    let code : p.code ≡ placed.place.code = placed.matches.code in
    let number : p.code.0 ≡ placed.place.code.0 = ap (λ (c : CodeId). c.0) code in
    nothing (known.marked (omega (arith, inside, number))) placed.place placed.is_place (sym code)

-- ---- a typed state

object-placed : (a : Acceptance) (types : NameTypes) (accounts : ℕ) (o : Object) → ObjectTyped a types accounts o
    → ObjectPlaced a types o
object-placed a types accounts (object.Process p) typed = record {
  place = typed.place;
  is_place = typed.is_place;
  matches = typed.matches;
  covered = typed.covered;
  derives = typed.derives;
}
object-placed a types accounts (object.Message m) typed = tt

-- the processes of a typed state stand at their places
pub typed-placed : (a : Acceptance) (d : StateData) → IsTyped a (state_of d) → AreProcessesPlaced a d
typed-placed a d typed =
    All-weaker (ObjectTyped a d.types (length d.balances)) (ObjectPlaced a d.types)
    (object-placed a d.types (length d.balances)) d.objects typed.each

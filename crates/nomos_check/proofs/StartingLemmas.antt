-- Where a declaration begins.
use Rattle.std.proofs.Common.{◌≡◌, ℕ, true, false, List, [], ◌∷◌, ◌++◌, map, filter, length, get_or, All, Contains, Some, None, Option, slice_get, pos, refl, sym, ap, subst, ◌∙◌, arith, lit<}
use Rattle.std.proofs.lemmas.List.{map-append}
use Rattle.std.proofs.lemmas.List.Elements.{Contains-get_or, All-map, All-weaker, All-contains_itself}
use Rattle.std.proofs.lemmas.List.FromFn.{length-map-range_with_len}
use Rattle.std.specs.List.{flat_map, range_with_len}
use Rattle.nomos_ir.specs.declared.amount.Amount.{Amount}
use Rattle.nomos_ir.specs.declared.declaration.Par.{Par}
use Rattle.nomos_ir.specs.declared.declaration.ProcDecl.{ProcDecl}
use Rattle.nomos_ir.specs.declared.ids.TypeId.{TypeId}
use Rattle.nomos_ir.specs.declared.ids.VarId.{VarId}
use Rattle.nomos_ir.specs.declared.kind.Kind.{Kind}
use Rattle.nomos_ir.specs.declared.lists.ProgramLists.{ProgramLists}
use Rattle.nomos_ir.specs.Amounts.{star_count}
use Rattle.nomos_ir.specs.Bindings.{bindings_of, each_bound}
use Rattle.nomos_ir.proofs.MappedLaws.{each-bindings}
use Rattle.nomos_forms.specs.declared.form.Form.{Form}
use Rattle.nomos_forms.specs.Bounds.{IsSmall}
use Rattle.nomos_types.proofs.EqualityLaws.{no_dths}
use Rattle.nomos_types.proofs.ModeLaws.{parameter-has_mode}
use Rattle.nomos_types.specs.Equality.{no_amounts}
use Rattle.nomos_types.specs.Judgement.{Judgement, ListType, list_par, is_shared}
use Rattle.nomos_types.specs.Modes.{HasMode, parameter_mode}
use Rattle.nomos_check.proofs.FormLemmas.{coef_of}
use Rattle.nomos_check.specs.Account.{Account, gains, form_of, carried_by, no_account}
use Rattle.nomos_check.specs.declared.standing.Carried.{Carried}
use Rattle.nomos_check.specs.Room.{HasRoom}
use Rattle.nomos_check.specs.mirror.FormLimits.{IsAmountOf}
use Rattle.nomos_check.specs.mirror.StandingData.{shape_of_list, amount_of}
use Rattle.nomos_check.specs.Reaching.{outset_of}
use Rattle.nomos_check.specs.mirror.StartingWalk.{carried_par, kinds_of, lists_of, picks, IsStartOf}

-- channel parameters have the modes as which they are taken
pub channels-have : (lists : ProgramLists) (p : ℕ) (d : ProcDecl) (cs : List (VarId × TypeId))
    → slice_get lists.procs p ≡ Some d
    → cs ≡ d.channels → All (λ par. HasMode lists par.1 (parameter_mode lists par.1)) cs
channels-have lists p d cs found same =
    let Has : VarId × TypeId → Type 0 = λ par. HasMode lists par.1 (parameter_mode lists par.1) in
    subst (All Has) (sym same)
    (λ k e inside.
    let par = get_or d.channels k e in
    parameter-has_mode lists p d par.0 par.1 found (Contains-get_or d.channels k e inside))

-- where nothing was gained there is room for any amount of the program
pub none-room : (n : ℕ) (f : Form) (r : Amount) (lists : ProgramLists) → f ≡ form_of n no_account → IsAmountOf lists r
    → n ≡ star_count lists → HasRoom f r
none-room n f r lists is amount count =
    let Room : Form → Type 0 = λ g. HasRoom g r in
    let stars = range_with_len 1 n in
    let coefs = map (coef_of no_account) stars in
    let width : length coefs ≡ n = length-map-range_with_len (coef_of no_account) 1 n in
    let zero : IsSmall (pos 0) = lit< tt in
    subst Room (sym is) (record {
      form = record {
        width = refl;
        coefs =
            All-map IsSmall (coef_of no_account) stars
            (All-weaker (Contains stars) (λ (k : ℕ). IsSmall (coef_of no_account k)) (λ k among. zero) stars
            (All-contains_itself stars));
        plus = zero;
      };
      small = amount.small;
      star = omega (arith, amount.star);
    })

par-shape : (v : VarId) (kind : Kind) (amount : Option Amount)
    → each_bound shape_of_list (carried_par v kind amount) ≡ list_par no_amounts v kind amount
par-shape v kind None = refl
par-shape v kind (Some r) =
    let Made : ℕ → List (VarId × ListType) = λ q. (v, record { kind = kind; amount = q }) ∷ [] in
    ap Made (sym (no_dths r))

par-amount : (v : VarId) (kind : Kind) (amount : Option Amount)
    → each_bound amount_of (carried_par v kind amount) ≡ carried_by v amount
par-amount v kind None = refl
par-amount v kind (Some r) = refl

module _ {Y : Type 0} (f : Carried → Y) (to : Par → List (VarId × Y))
    (each : (par : Par) → each_bound f (carried_par par.var par.kind par.amount) ≡ to par) where
  pars-mapped : (pars : List Par) → each_bound f (flat_map (λ par. carried_par par.var par.kind par.amount) pars) ≡
      flat_map to pars
  pars-mapped [] = refl
  pars-mapped (par ∷ pars) =
      let here = carried_par par.var par.kind par.amount in
      let rest = flat_map (λ (q : Par). carried_par q.var q.kind q.amount) pars in
      map-append (λ (e : VarId × Carried). (e.0, f e.1)) here rest
      ∙ ap (λ (l : List (VarId × Y)). l ++ each_bound f rest) (each par)
      ∙ ap (λ (l : List (VarId × Y)). to par ++ l) (pars-mapped pars)

  lists-mapped : (d : ProcDecl) → each_bound f (lists_of d) ≡ bindings_of (flat_map to d.values)
  lists-mapped d =
      each-bindings f (flat_map (λ (q : Par). carried_par q.var q.kind q.amount) d.values) ∙ ap bindings_of
      (pars-mapped d.values)

-- the standing that is made so is that where the declaration begins
pub start-is : (lists : ProgramLists) (n : ℕ) (d : ProcDecl) (kinds : List (VarId × Kind)) (carried : List (VarId
    × Carried))
    (shared linear : List (VarId × TypeId)) (zero potential : Form) → kinds ≡ kinds_of d → carried ≡ lists_of d
    → shared ≡ bindings_of (filter (λ par. picks true (is_shared lists par)) d.channels)
    → linear ≡ bindings_of (filter (λ par. picks false (is_shared lists par)) d.channels) → zero ≡ form_of n no_account
    → ((m : ℕ) (a : Account) → zero ≡ form_of m a → potential ≡ form_of m (gains d.amount a))
    → IsStartOf n (outset_of lists d) (record {
      mode = d.mode;
      kinds = kinds;
      lists = carried;
      shared = shared;
      linear = linear;
      potential = potential;
      code = d.first;
      offers = d.offers;
    })
start-is lists n d kinds carried shared linear zero potential of_kinds of_lists of_shared of_linear of_zero
    of_potential =
    let shapes = lists-mapped shape_of_list (λ (par : Par). list_par no_amounts par.var par.kind par.amount)
    (λ par. par-shape par.var par.kind par.amount) d in
    let amounts = lists-mapped amount_of (λ (par : Par). carried_by par.var par.amount)
    (λ par. par-amount par.var par.kind par.amount) d in
    let J : List (VarId × Kind) → List (VarId × ListType) → List (VarId × TypeId) → List (VarId × TypeId) → ℕ
    → Judgement =
    λ ks ls sh li q. record {
      mode = d.mode;
      kinds = ks;
      lists = ls;
      shared = sh;
      linear = li;
      q = q;
      code = d.first;
      offers = d.offers;
    }
    in
    let ls = each_bound shape_of_list carried in
    let to_lists = bindings_of (flat_map (λ (par : Par). list_par no_amounts par.var par.kind par.amount) d.values) in
    let to_shared = bindings_of (filter (λ par. picks true (is_shared lists par)) d.channels) in
    let to_linear = bindings_of (filter (λ par. picks false (is_shared lists par)) d.channels) in
    record {
      shape =
          ap (λ (ks : List (VarId × Kind)). J ks ls shared linear 0) of_kinds
          ∙ ap (λ (l : List (VarId × ListType)). J (kinds_of d) l shared linear 0) (ap
          (each_bound shape_of_list) of_lists ∙ shapes)
          ∙ ap (λ (s : List (VarId × TypeId)). J (kinds_of d) to_lists s linear 0) of_shared
          ∙ ap (λ (l : List (VarId × TypeId)). J (kinds_of d) to_lists to_shared l 0) of_linear
          ∙ ap (λ (q : ℕ). J (kinds_of d) to_lists to_shared to_linear q) (sym (no_dths d.amount));
      has = record {
        lists = ap (each_bound amount_of) of_lists ∙ amounts;
        potential = of_potential n no_account
            of_zero;
      };
    }

-- A process that forwards: it leaves its place to the one channel that it has to use.
use Rattle.std.proofs.Common.{if◌then◌else◌, ◌≡◌, ◌≢◌, ◌∙◌, ◌≤◌, ◌⊎◌, inl, inr, ℕ, ◌+◌, cond, Bool, true, List, [], ◌∷◌, ◌++◌, map, length, All, Contains, Option, Some, None, IsSome, slice_get, refl, sym, subst, ap, arith, append-nil, ne_eqb, eq-eqb, sum_by}
use Rattle.std.proofs.lemmas.Bool.{cases_eq}
use Rattle.std.proofs.lemmas.List.Elements.{All-nil, All-cons, All-contains, All-weaker, Contains-append_left}
use Rattle.std.specs.Option.{option_map, option_or, option_to_list}
use Rattle.nomos_ir.specs.Bindings.{bound_to}
use Rattle.nomos_ir.specs.Order.{count_of}
use Rattle.nomos_ir.specs.declared.code_node.CodeNode.TheVariants as code
use Rattle.nomos_ir.specs.declared.ids.TypeId.{TypeId}
use Rattle.nomos_ir.specs.declared.ids.VarId.{VarId}
use Rattle.nomos_ir.specs.declared.mode.Mode.{Mode}
use Rattle.nomos_ir.specs.declared.mode.Mode.TheVariants as mode
use Rattle.nomos_ir.proofs.PairedLaws.{paired-left}
use Rattle.nomos_types.specs.Acceptance.{Acceptance, IsAccepted}
use Rattle.nomos_types.specs.Alike.{AlikeTypes}
use Rattle.nomos_types.specs.Judgement.{type_held}
use Rattle.nomos_types.specs.Modes.{HasMode}
use Rattle.nomos_types.specs.Premises.{Forwards}
use Rattle.nomos_types.proofs.AlikeLaws.{alike_types-back, alike_types-through}
use Rattle.nomos_types.proofs.ModeLaws.{mode-unique}
use Rattle.nomos_types.proofs.OccurrenceLaws.{count-here, count-elsewhere, counted, contained, contains-map}
use Rattle.nomos_types.proofs.RowLaws.{row-inverted}
use Rattle.nomos_machine.specs.Change.{Change, put_at, made}
use Rattle.nomos_machine.specs.Deeds.{changes, leaves, forwards, does}
use Rattle.nomos_machine.specs.Matching.{NameHasType, ProcessTyped}
use Rattle.nomos_machine.specs.Objects.{object_number, purse_of, provided, used, based, shared_names, shared_of, mentioned, times, talk_end, object_at}
use Rattle.nomos_machine.specs.Optional.{◌>>=◌}
use Rattle.nomos_machine.specs.Revised.{renamed, renamed_payload, uses_instead}
use Rattle.nomos_machine.specs.Sight.{user_of}
use Rattle.nomos_machine.specs.State.{State, NameTypes, type_of}
use Rattle.nomos_machine.specs.TypedState.{HasVariables, IsOwned, ObjectTyped, LeadsToBase, at_base, further, IsTyped}
use Rattle.nomos_machine.specs.declared.object.Message.{Message}
use Rattle.nomos_machine.specs.declared.object.Object.{Object}
use Rattle.nomos_machine.specs.declared.object.Object.TheVariants as object
use Rattle.nomos_machine.specs.declared.object.Process.{Process}
use Rattle.nomos_machine.proofs.ApartLaws.{one-object, leads-own, leads-further}
use Rattle.nomos_machine.proofs.ChangeLaws.{Replaces, done, further as replaced, made-kept, news}
use Rattle.nomos_machine.proofs.FitLaws.{Fits}
use Rattle.nomos_machine.proofs.GoesLaws.{Goes, acts, process-typed, process-variables, own-row, own-stands}
use Rattle.nomos_machine.proofs.HeldLaws.{linear-name, based-shared}
use Rattle.nomos_machine.proofs.MeetingLaws.{linear-alone}
use Rattle.nomos_machine.proofs.NameLaws.{mentioned-sum, times-one}
use Rattle.nomos_machine.proofs.ObjectLaws.{bound-somewhere, bound-among, object-kept}
use Rattle.nomos_machine.proofs.OwnedLaws.{made-times}
use Rattle.nomos_machine.proofs.ProcessLaws.{own_judgement, place-is_judgement}
use Rattle.nomos_machine.proofs.PutLaws.{object_at-own, object_at-other, object_at-put, put-new, put-kept}
use Rattle.nomos_machine.proofs.RenameLaws.{renamed-other, renamed-third, renamed-gone, renamed-new, renamed-itself, instead-number, instead-uses, instead-provides, instead-based, instead-stands, instead-end, renamed-typed, renamed-differ}
use Rattle.nomos_machine.proofs.UserLaws.{user_of-found, user_of-none}

module _ {a : Acceptance} (accepted : IsAccepted a) {s : State} (typed : IsTyped a s) {p : Process}
    (there : Contains s.objects (object.Process p)) (v : VarId)
    (goes : Forwards a.program a.annotations (own_judgement p (process-typed typed there)) v) where
  abbrev its : ProcessTyped a s.types (length s.balances) p
  its = process-typed typed there

  -- ---- the two names

  at-r : p.mode ≡ mode.R
  at-r = its.matches.mode ∙ goes.mode

  linear-bound : bound_to v.0 its.place.linear ≡ Some goes.own
  linear-bound =
      ap (bound_to v.0) goes.only ∙ ap (λ (t : Bool). cond t (Some goes.own) None) (eq-eqb v.0 v.0 refl)

  -- the channel has a name, and its type is that of the judgement
  held : (n : ℕ) × (bound_to v.0 p.channels ≡ Some n) × NameHasType a.program a.annotations s.types n goes.own
  held =
      let none = linear-alone (place-is_judgement accepted its.is_place) v goes.own linear-bound in
      let is : type_held its.place v.0 ≡ Some goes.own =
      ap (λ (o : Option TypeId). option_or o (bound_to v.0 its.place.linear)) none ∙ linear-bound
      in
      paired-left goes.own (its.matches.channels v.0) is

  module _ (n : ℕ) (bound : bound_to v.0 p.channels ≡ Some n)
      (has : NameHasType a.program a.annotations s.types n goes.own) where
    abbrev own-type : TypeId
    own-type = its.matches.offers.own

    found-own : type_of s.types p.offers ≡ Some own-type
    found-own = its.matches.offers.found

    own-mode : HasMode a.program own-type mode.R
    own-mode = subst (HasMode a.program own-type) at-r (its.offered own-type found-own)

    alike-names : AlikeTypes a.program a.annotations has.own own-type
    alike-names =
        let formed = accepted.typed.formed.program in
        alike_types-through formed has.alike
        (alike_types-through formed (alike_types-back goes.alike) (alike_types-back its.matches.offers.alike))

    new-mode : HasMode a.program has.own mode.R
    new-mode =
        let one = mode-unique accepted.typed.formed.program alike-names.right_mode own-mode in
        subst (HasMode a.program has.own) one alike-names.left_mode

    abbrev uses-own : ℕ → ℕ
    uses-own k = count_of k (used (object.Process p))

    -- of the names that it has to use it uses this one alone
    only-one : (k : ℕ) (u : TypeId) (m : Mode) → type_of s.types k ≡ Some u → HasMode a.program u m → m ≢ mode.S
        → 1 ≤ uses-own k → k ≡ n
    only-one k u m found at_m other some =
        let variables = process-variables typed there in
        let (w, bound_w) = bound-somewhere p.channels k variables.channels
        (contained k (used (object.Process p)) some) in
        let (t, linear, is) = linear-name accepted typed there w k u m bound_w found at_m other in
        let here : bound_to w ((v, goes.own) ∷ []) ≡ Some t = sym (ap (bound_to w) goes.only) ∙ linear in
        elim (cases_eq v.0 w) [
          | inl same ↦
              let again : bound_to v.0 p.channels ≡ Some k =
              subst (λ (i : ℕ). bound_to i p.channels ≡ Some k) (sym same) bound_w
              in
              one-name (sym again ∙ bound)
          | inr apart ↦ absurd (nothing t (sym (ap (λ (b : Bool). cond b (Some goes.own) None) (ne_eqb v.0 w apart))
              ∙ here))
        ]
      where
        nothing : (t : TypeId) → None ≡ Some t → ⊥
        nothing t is = cc

        one-name : Some k ≡ Some n → k ≡ n
        one-name is = cc

    new-owned : IsOwned mode.R s n
    new-owned = typed.owned n has.own mode.R has.found new-mode

    own-owned : IsOwned mode.R s p.offers
    own-owned = typed.owned p.offers own-type mode.R found-own own-mode

    new-used : uses-own n ≡ 1
    new-used =
        let some = counted n (used (object.Process p)) (bound-among p.channels v.0 n bound) in
        let most = times-one used n s.objects (object.Process p) there in
        omega (arith, new-owned.1)

    -- ---- what every change has in common that is made here

    -- What is to be known of one: how often names are provided and used afterwards, and what has come.
    record Moved (c : Change) : Type 0 where
      olds : List Object
      replaces : Replaces c.places s.objects olds
      provides : (k : ℕ) → times provided (made s c).objects k + count_of k (p.offers ∷ []) ≡ times provided s.objects k
      stands : (k : ℕ) → times shared_names (made s c).objects k ≡ times shared_names s.objects k
      bases : (k : ℕ) → times based (made s c).objects k ≡ times based s.objects k
      third : (k : ℕ) → k ≢ p.offers → k ≢ n → times used (made s c).objects k + uses-own k ≡ times used s.objects k
      gone : n ≢ p.offers → times used (made s c).objects p.offers ≡ 0
      taken : n ≢ p.offers → times used (made s c).objects n ≡ times used s.objects p.offers
      kept_uses : n ≡ p.offers → (k : ℕ) → times used (made s c).objects k + uses-own k ≡ times used s.objects k
      variables : All HasVariables (news c.places ++ [])
      typed_news : All (ObjectTyped a s.types (length s.balances)) (news c.places ++ [])
      stays : (o : Object) → Contains s.objects o → object_number o ≢ p.pid
          → Contains (made s c).objects o ⊎ Contains (made s c).objects (uses_instead p.offers n o)
      even : sum_by purse_of (news c.places) + p.purse ≡ sum_by purse_of olds

    abbrev moves : Option Object → Change
    moves user = record (leaves a s p) {
      places =
          map (λ o. (object_number o, Some (uses_instead p.offers n o))) (option_to_list user) ++ (p.pid, None) ∷ [];
      outside = map (renamed p.offers n) s.outside;
    }

    found-p : object_at s.objects p.pid ≡ Some (object.Process p)
    found-p = object_at-own (object.Process p) s.objects typed.numbered.ascending there

    no-base : based (object.Process p) ≡ []
    no-base = none p.base refl
      where
        none : (b : Option ℕ) → p.base ≡ b → option_to_list p.base ≡ []
        none None is = ap (λ (o : Option ℕ). option_to_list o) is
        none (Some k) is =
            let at_l = its.has_base.base.0 (subst IsSome (sym is) refl) in
            absurd (differ (sym at-r ∙ at_l))
          where
            differ : mode.R ≡ mode.L → ⊥
            differ same = cc

    no-stand : shared_names (object.Process p) ≡ []
    no-stand = ap (λ (m : Mode). shared_of m p.offers p.base) at-r

    abbrev instead : Object → Object
    instead o = uses_instead p.offers n o

    count-instead : (does : Object → List ℕ) (k : ℕ) (u : Object) → does (instead u) ≡ does u
        → count_of k (does (instead u)) ≡ count_of k (does u)
    count-instead does k u same = ap (count_of k) same

    -- nobody uses the name: an outside party does
    moved-alone : user_of s.objects p.offers ≡ None → Moved (moves None)
    moved-alone nobody =
        let c : Change = moves None in
        let replaces : Replaces c.places s.objects (object.Process p ∷ []) =
        replaced (object.Process p) None [] s.objects [] found-p (All-nil (λ o. object_number o ≡ p.pid))
        (done (put_at p.pid None s.objects))
        in
        let sum = λ (does : Object → List ℕ) (k : ℕ). made-times does k s c (object.Process p ∷ []) replaces in
        let unused = user_of-none p.offers s.objects nobody in
        record {
          olds = object.Process p ∷ [];
          replaces = replaces;
          provides = λ k. omega (arith, sum provided k);
          stands = λ k. omega (arith, sum shared_names k, ap (count_of k) no-stand);
          bases = λ k. omega (arith, sum based k, ap (count_of k) no-base);
          third = λ k not_own not_new. omega (arith, sum used k);
          gone = λ apart. omega (arith, sum used p.offers);
          taken = λ apart. omega (arith, sum used n, new-used, new-owned.1, unused);
          kept_uses = λ same k. omega (arith, sum used k);
          variables = All-nil HasVariables;
          typed_news = All-nil (ObjectTyped a s.types (length s.balances));
          stays = λ o inside other.
              let Other : ℕ × Option Object → Type 0 = λ e. e.0 ≢ object_number o in
              let apart : Other (p.pid, None) = λ is. other (sym is) in
              inl (made-kept s c o inside (All-cons Other (p.pid, None) [] apart (All-nil Other)));
          even = omega arith;
        }

    -- another object uses the name
    moved-other : (u : Object) → Contains s.objects u → 1 ≤ count_of p.offers (used u) → object_number u ≢ p.pid
        → Moved (moves (Some u))
    moved-other u inside uses other =
        let c : Change = moves (Some u) in
        let order = typed.numbered.ascending in
        let found_u = object_at-own u s.objects order inside in
        let numbered : object_number (instead u) ≡ object_number u = instead-number p.offers n u in
        let HasIt : Object → Type 0 = λ o. object_number o ≡ object_number u in
        let has_it = All-cons HasIt (instead u) [] numbered (All-nil HasIt) in
        let placed : List Object = put_at (object_number u) (Some (instead u)) s.objects in
        let found_then : object_at placed p.pid ≡ Some (object.Process p) =
        object_at-other (object_number u) p.pid (Some (instead u)) s.objects other has_it ∙ found-p
        in
        let replaces : Replaces c.places s.objects (u ∷ object.Process p ∷ []) =
        replaced u (Some (instead u)) ((p.pid, None) ∷ []) s.objects (object.Process p ∷ []) found_u has_it
        (replaced (object.Process p) None [] placed [] found_then (All-nil (λ o. object_number o ≡ p.pid))
        (done (put_at p.pid None placed)))
        in
        let sum = λ (does : Object → List ℕ) (k : ℕ). made-times does k s c (u ∷ object.Process p ∷ []) replaces in
        let after = λ (k : ℕ). ap (count_of k) (instead-uses p.offers n u) in
        let most = times-one used p.offers s.objects u inside in
        let mine = times-one used n s.objects (object.Process p) there in
        let Typed : Object → Type 0 = ObjectTyped a s.types (length s.balances) in
        record {
          olds = u ∷ object.Process p ∷ [];
          replaces = replaces;
          provides = λ k. omega (arith, sum provided k, count-instead provided k u (instead-provides p.offers n u));
          stands = λ k. omega (
            arith,
            sum shared_names k,
            ap (count_of k) no-stand,
            count-instead shared_names k u (instead-stands p.offers n u),
          );
          bases = λ k. omega (
            arith,
            sum based k,
            ap (count_of k) no-base,
            count-instead based k u (instead-based p.offers n u),
          );
          third = λ k not_own not_new.
              omega (arith, sum used k, after k, renamed-third p.offers n k (used u) not_own not_new);
          gone = λ apart.
              omega (arith, sum used p.offers, after p.offers, renamed-gone p.offers n (used u) apart, own-owned.1);
          taken = λ apart.
              omega (
                arith,
                sum used n,
                after n,
                renamed-new p.offers n (used u) apart,
                new-used,
                new-owned.1,
                own-owned.1,
              );
          kept_uses = λ same k.
              omega (arith, sum used k, after k, ap (count_of k) (renamed-itself p.offers n same (used u)));
          variables = All-cons HasVariables (instead u) []
              (renamed-differ accepted s.types p.offers n own-type has.own found-own has.found alike-names u
              (All-contains HasVariables s.objects u typed.numbered.variables inside)) (All-nil HasVariables);
          typed_news = All-cons Typed (instead u) []
              (renamed-typed accepted s.types p.offers n own-type has.own found-own has.found alike-names
              (length s.balances) u
              (All-contains Typed s.objects u typed.each inside)) (All-nil Typed);
          stays = λ o inside_o other_o. stay o inside_o other_o;
          even = omega (arith, instead-purse u);
        }
      where
        instead-purse : (o : Object) → purse_of (instead o) ≡ purse_of o
        instead-purse (object.Process q) = refl
        instead-purse (object.Message m) = refl

        stay : (o : Object) → Contains s.objects o → object_number o ≢ p.pid
            → Contains (made s (moves (Some u))).objects o ⊎ Contains (made s (moves (Some u))).objects (instead o)
        stay o inside_o other_o =
            elim (cases_eq (object_number o) (object_number u)) [
              | inl same ↦
                  let is : o ≡ u = one-object s.objects typed.numbered.ascending u o inside inside_o same in
                  let found_u = object_at-own u s.objects typed.numbered.ascending inside in
                  let placed : List Object = put_at (object_number u) (Some (instead u)) s.objects in
                  let first = put-new (object_number u) (Some (instead u)) u (instead u) s.objects found_u
                  (0, omega arith, refl) in
                  let apart : object_number (instead u) ≢ p.pid = λ e. other (sym (instead-number p.offers n u) ∙ e) in
                  let second = put-kept p.pid None (instead u) placed apart first in
                  let whole : Contains (made s (moves (Some u))).objects (instead u) =
                  Contains-append_left (put_at p.pid None placed) [] (instead u) second
                  in
                  inr (subst (λ (e : Object). Contains (made s (moves (Some u))).objects (instead e)) (sym is) whole)
              | inr differ ↦
                  let Other : ℕ × Option Object → Type 0 = λ e. e.0 ≢ object_number o in
                  let one : Other (object_number u, Some (instead u)) = λ e. differ (sym e) in
                  let two : Other (p.pid, None) = λ e. other_o (sym e) in
                  inl (made-kept s (moves (Some u)) o inside_o
                  (All-cons Other (object_number u, Some (instead u)) ((p.pid, None) ∷ []) one
                  (All-cons Other (p.pid, None) [] two (All-nil Other))))
            ]

    -- the process uses its own name: then that is the one to which it leaves its place
    moved-itself : n ≡ p.offers → Moved (moves (Some (object.Process p)))
    moved-itself same =
        let c : Change = moves (Some (object.Process p)) in
        let HasIt : Object → Type 0 = λ o. object_number o ≡ p.pid in
        let has_it = All-cons HasIt (instead (object.Process p)) [] refl (All-nil HasIt) in
        let placed : List Object = put_at p.pid (Some (instead (object.Process p))) s.objects in
        let found_then : object_at placed p.pid ≡ Some (instead (object.Process p)) =
        object_at-put p.pid (instead (object.Process p)) (object.Process p) s.objects found-p refl
        in
        let olds : List Object = object.Process p ∷ instead (object.Process p) ∷ [] in
        let replaces : Replaces c.places s.objects olds =
        replaced (object.Process p) (Some (instead (object.Process p))) ((p.pid, None) ∷ []) s.objects
        (instead (object.Process p) ∷ []) found-p has_it
        (replaced (instead (object.Process p)) None [] placed [] found_then (All-nil (λ o. object_number o ≡ p.pid))
        (done (put_at p.pid None placed)))
        in
        let sum = λ (does : Object → List ℕ) (k : ℕ). made-times does k s c olds replaces in
        let Typed : Object → Type 0 = ObjectTyped a s.types (length s.balances) in
        record {
          olds = olds;
          replaces = replaces;
          provides = λ k. omega (arith, sum provided k);
          stands = λ k. omega (arith, sum shared_names k, ap (count_of k) no-stand);
          bases = λ k. omega (arith, sum based k, ap (count_of k) no-base);
          third = λ k not_own not_new. omega (arith, sum used k);
          gone = λ apart. absurd (apart same);
          taken = λ apart. absurd (apart same);
          kept_uses = λ is k. omega (arith, sum used k);
          variables = All-cons HasVariables (instead (object.Process p)) []
              (renamed-differ accepted s.types p.offers n own-type has.own found-own has.found alike-names
              (object.Process p)
              (process-variables typed there)) (All-nil HasVariables);
          typed_news = All-cons Typed (instead (object.Process p)) []
              (renamed-typed accepted s.types p.offers n own-type has.own found-own has.found alike-names
              (length s.balances)
              (object.Process p) its) (All-nil Typed);
          stays = λ o inside other.
              let Other : ℕ × Option Object → Type 0 = λ e. e.0 ≢ object_number o in
              let one : Other (p.pid, Some (instead (object.Process p))) = λ e. other (sym e) in
              let two : Other (p.pid, None) = λ e. other (sym e) in
              inl (made-kept s c o inside
              (All-cons Other (p.pid, Some (instead (object.Process p))) ((p.pid, None) ∷ []) one
              (All-cons Other (p.pid, None) [] two (All-nil Other))));
          even = omega arith;
        }

    -- whoever uses the name
    moved : (user : Option Object) → user_of s.objects p.offers ≡ user → Moved (moves user)
    moved None found = moved-alone found
    moved (Some u) found =
        let (inside, uses) = user_of-found p.offers u s.objects found in
        elim (cases_eq (object_number u) p.pid) [
          | inl same ↦
              let is : u ≡ object.Process p =
              one-object s.objects typed.numbered.ascending (object.Process p) u there inside same
              in
              let mine : 1 ≤ uses-own p.offers =
              subst (λ (o : Object). 1 ≤ count_of p.offers (used o)) is uses
              in
              let own_is_new = only-one p.offers own-type mode.R found-own own-mode (λ e. absurd cc) mine in
              subst (λ (o : Object). Moved (moves (Some o))) (sym is) (moved-itself (sym own_is_new))
          | inr other ↦ moved-other u inside uses other
        ]

    -- ---- the state stays typed

    module _ (user : Option Object) (is : Moved (moves user)) where
      abbrev after : State
      after = made s (moves user)

      same-type : (k : ℕ) → type_of after.types k ≡ type_of s.types k
      same-type k = ap (λ (types : NameTypes). type_of types k) (append-nil s.types)

      -- a name of another mode than R is none of the two
      not-own : (k : ℕ) (t : TypeId) (m : Mode) → type_of s.types k ≡ Some t → HasMode a.program t m → m ≢ mode.R
          → (k ≢ p.offers) × (k ≢ n)
      not-own k t m found at_m other = (
        λ same. other (one-mode own-type found-own own-mode same),
        λ same. other (one-mode has.own has.found new-mode same),
      )
        where
          one-mode : {j : ℕ} → (u : TypeId) → type_of s.types j ≡ Some u → HasMode a.program u mode.R → k ≡ j
              → m ≡ mode.R
          one-mode {j} u found_j at_r same =
              let here : type_of s.types j ≡ Some t = subst (λ (i : ℕ). type_of s.types i ≡ Some t) same found in
              let one : t ≡ u = cc in
              let at_m_too : HasMode a.program u m = subst (λ (w : TypeId). HasMode a.program w m) one at_m in
              mode-unique accepted.typed.formed.program at_m_too at_r

      -- such a name of another mode than S is not one that the process has to use
      not-used : (k : ℕ) (t : TypeId) (m : Mode) → type_of s.types k ≡ Some t → HasMode a.program t m → m ≢ mode.S
          → k ≢ n
          → uses-own k ≡ 0
      not-used k t m found at_m other apart =
          elim (cases_eq (uses-own k) 0) [
            | inl none ↦ none
            | inr some ↦ absurd (apart (only-one k t m found at_m other (omega arith)))
          ]

      provided-once : (k : ℕ) → k ≢ p.offers → times provided after.objects k ≡ times provided s.objects k
      provided-once k other =
          omega (arith, is.provides k, count-elsewhere k p.offers [] (ne_eqb p.offers k (λ same. other (sym same))))

      outside-third : (k : ℕ) → k ≢ p.offers → k ≢ n → count_of k after.outside ≡ count_of k s.outside
      outside-third k not_own not_new = renamed-third p.offers n k s.outside not_own not_new

      used-third : (k : ℕ) (t : TypeId) (m : Mode) → type_of s.types k ≡ Some t → HasMode a.program t m → m ≢ mode.S
          → k ≢ p.offers → k ≢ n → times used after.objects k ≡ times used s.objects k
      used-third k t m found at_m other not_own not_new =
          omega (arith, is.third k not_own not_new, not-used k t m found at_m other not_new)

      -- the name that the process offered is mentioned no more
      own-gone : times mentioned after.objects p.offers ≡ 0
      own-gone =
          let no_base = based-shared accepted typed p.offers own-type mode.R found-own own-mode (λ e. absurd cc) in
          let one = count-here p.offers p.offers [] refl in
          let provides = is.provides p.offers in
          let bases = is.bases p.offers in
          elim (cases_eq n p.offers) [
            | inl same ↦
                let uses = is.kept_uses same p.offers in
                let mine : uses-own p.offers ≡ 1 = subst (λ (k : ℕ). uses-own k ≡ 1) same new-used in
                omega (arith, mentioned-sum after.objects p.offers, own-owned.0, own-owned.1)
            | inr apart ↦
                let uses = is.gone apart in
                omega (arith, mentioned-sum after.objects p.offers, own-owned.0)
          ]

      owned-after : (k : ℕ) (t : TypeId) (m : Mode) → type_of s.types k ≡ Some t → HasMode a.program t m
          → 1 ≤ times mentioned after.objects k → IsOwned m after k
      owned-after k t mode.S found at_m some =
          let (not_own, not_new) = not-own k t mode.S found at_m (λ e. absurd cc) in
          let owned = typed.owned k t mode.S found at_m in
          (is.stands k ∙ owned.0, outside-third k not_own not_new ∙ owned.1)
      owned-after k t mode.L found at_m some =
          let (not_own, not_new) = not-own k t mode.L found at_m (λ e. absurd cc) in
          let owned = typed.owned k t mode.L found at_m in (
            provided-once k not_own ∙ owned.0,
            used-third k t mode.L found at_m (λ e. absurd cc) not_own not_new ∙ owned.1,
            outside-third k not_own not_new ∙ owned.2,
          )
      owned-after k t mode.T found at_m some =
          let (not_own, not_new) = not-own k t mode.T found at_m (λ e. absurd cc) in
          let owned = typed.owned k t mode.T found at_m in (
            provided-once k not_own ∙ owned.0,
            used-third k t mode.T found at_m (λ e. absurd cc) not_own not_new ∙ owned.1,
            outside-third k not_own not_new ∙ owned.2,
          )
      owned-after k t mode.R found at_m some =
          let owned = typed.owned k t mode.R found at_m in
          elim (cases_eq k p.offers) [
            | inl same ↦
                let none : times mentioned after.objects k ≡ 0 =
                subst (λ (i : ℕ). times mentioned after.objects i ≡ 0) (sym same) own-gone
                in
                absurd (omega arith)
            | inr not_own ↦
                elim (cases_eq k n) [
                  | inl at_new ↦
                      let apart : n ≢ p.offers = λ e. not_own (at_new ∙ e) in
                      let provides = provided-once n apart in
                      let uses = is.taken apart in
                      let out = renamed-new p.offers n s.outside apart in
                      let some_used = times-one used n s.objects (object.Process p) there in
                      let here : IsOwned mode.R after n =
                      (provides ∙ new-owned.0, omega (arith, new-owned.1, own-owned.1, new-used))
                      in
                      subst (λ (i : ℕ). IsOwned mode.R after i) (sym at_new) here
                  | inr not_new ↦
                      let uses = used-third k t mode.R found at_m (λ e. absurd cc) not_own not_new in
                      let out = outside-third k not_own not_new in
                      (provided-once k not_own ∙ owned.0, omega (arith, owned.1))
                ]
          ]

      -- an outside name has mode R, and is not the one that the process offered
      outside-after : (k : ℕ) → 1 ≤ count_of k after.outside
          → (t : TypeId) × (type_of after.types k ≡ Some t) × HasMode a.program t mode.R
          × (1 ≤ times mentioned after.objects k)
      outside-after k some =
          elim (cases_eq n p.offers) [
            | inl same ↦
                let as_before = ap (count_of k) (renamed-itself p.offers n same s.outside) in
                let (t, found, at_outside) = typed.outside k (omega arith) in
                let other : k ≢ p.offers = λ e.
                let at_own : 1 ≤ count_of p.offers s.outside =
                subst (λ (i : ℕ). 1 ≤ count_of i s.outside) e (omega arith)
                in
                let mine : uses-own p.offers ≡ 1 = subst (λ (i : ℕ). uses-own i ≡ 1) same new-used in
                let most = times-one used p.offers s.objects (object.Process p) there in
                omega (arith, own-owned.1)
                in
                (t, same-type k ∙ found, at_outside, there-still k t found at_outside other)
            | inr apart ↦
                elim (cases_eq k n) [
                  | inl at_new ↦
                      let here = there-still n has.own has.found new-mode apart in (
                        has.own,
                        same-type k ∙ ap (type_of s.types) at_new ∙ has.found,
                        new-mode,
                        subst (λ (i : ℕ). 1 ≤ times mentioned after.objects i) (sym at_new) here,
                      )
                  | inr not_new ↦
                      let not_own : k ≢ p.offers = λ e.
                      let gone : count_of k after.outside ≡ 0 =
                      ap (λ (i : ℕ). count_of i after.outside) e ∙ renamed-gone p.offers n s.outside apart
                      in
                      omega arith
                      in
                      let as_before = outside-third k not_own not_new in
                      let (t, found, at_outside) = typed.outside k (omega arith) in
                      (t, same-type k ∙ found, at_outside, there-still k t found at_outside not_own)
                ]
          ]
        where
          there-still : (j : ℕ) (t : TypeId) → type_of s.types j ≡ Some t → HasMode a.program t mode.R → j ≢ p.offers
              → 1 ≤ times mentioned after.objects j
          there-still j t found at_outside other =
              let owned = typed.owned j t mode.R found at_outside in
              omega (arith, mentioned-sum after.objects j, provided-once j other, owned.0)

      -- ---- sections: none leads over the name that the process offered

      own-leads_nowhere : (base : ℕ) → LeadsToBase s.objects base p.offers → ⊥
      own-leads_nowhere base leads =
          let based_p = leads-own s.objects typed.numbered.ascending p base there (omega (arith, own-owned.0)) leads in
          let at_l = its.has_base.base.0 (subst IsSome (sym based_p) refl) in
          differ (sym at-r ∙ at_l)
        where
          differ : mode.R ≡ mode.L → ⊥
          differ same = cc

      leads-after : (base name : ℕ) → LeadsToBase s.objects base name → LeadsToBase after.objects base name
      leads-after base name leads =
          leads-further (λ k. Unit {0}) s.objects after.objects base last step name tt leads
        where
          last : (r : Process) → Contains s.objects (object.Process r) → r.mode ≡ mode.L → r.base ≡ Some base → Unit {0}
              → LeadsToBase after.objects base r.offers
          last r inside at_l based_r stay =
              let other : r.pid ≢ p.pid = λ same.
              let is_p = one-object s.objects typed.numbered.ascending (object.Process p) (object.Process r) there
              inside same in
              differ (sym at-r ∙ sym (mode-of is_p) ∙ at_l)
              in
              elim (is.stays (object.Process r) inside other) [
                | inl kept ↦ at_base r kept at_l based_r
                | inr changed ↦
                    at_base (record r { channels = map (λ e. (e.0, renamed p.offers n e.1)) r.channels }) changed at_l
                    based_r
              ]
            where
              differ : mode.R ≡ mode.L → ⊥
              differ same = cc

              mode-of : object.Process r ≡ object.Process p → r.mode ≡ p.mode
              mode-of same = ap (λ (o : Process). o.mode) (process-same same)
                where
                  process-same : object.Process r ≡ object.Process p → r ≡ p
                  process-same e = cc

          step : (m : Message) (k onward : ℕ) → Contains s.objects (object.Message m)
              → Contains (provided (object.Message m)) k → Contains (talk_end m) onward → Unit {0}
              → LeadsToBase s.objects base onward
              → (LeadsToBase after.objects base k)
              ⊎ (Unit {0} × (LeadsToBase after.objects base onward → LeadsToBase after.objects base k))
          step m k onward inside provides ends stay leads_on =
              let other : m.number ≢ p.pid = λ same.
              apart (one-object s.objects typed.numbered.ascending (object.Process p) (object.Message m) there inside
              same)
              in
              elim (is.stays (object.Message m) inside other) [
                | inl kept ↦ inr (tt, λ leads_after. further m k onward kept provides ends leads_after)
                | inr changed ↦
                    let not_own : onward ≢ p.offers = λ same.
                    own-leads_nowhere base (subst (LeadsToBase s.objects base) same leads_on)
                    in
                    let m_after : Message = record m {
                      from = if m.to_client then m.from else renamed p.offers n m.from;
                      next = if m.to_client then option_map (renamed p.offers n) m.next else m.next;
                      payload = renamed_payload p.offers n m.payload;
                    } in
                    let provides_too : Contains (provided (object.Message m_after)) k =
                    subst (λ (ks : List ℕ). Contains ks k) (sym (instead-provides p.offers n (object.Message m)))
                    provides
                    in
                    let ends_too : Contains (talk_end m_after) onward =
                    subst (λ (ks : List ℕ). Contains ks onward) (sym (instead-end p.offers n m m.to_client))
                    (contains-map (renamed p.offers n) (talk_end m) onward onward ends
                    (renamed-other p.offers n onward not_own))
                    in
                    inr (tt, λ leads_after. further m_after k onward changed provides_too ends_too leads_after)
              ]
            where
              apart : object.Message m ≡ object.Process p → ⊥
              apart same = cc

      moved-fits : Fits a s (moves user)
      moved-fits = record {
        olds = is.olds;
        replaces = is.replaces;
        numbered = All-nil (λ o. object_number o ≡ s.next_object);
        variables = is.variables;
        typed = All-weaker Before Here stays_typed (news (moves user).places ++ []) is.typed_news;
        owned = λ k t m found at_m some. owned-after k t m (sym (same-type k) ∙ found) at_m some;
        keeps_shared = λ k t found at_s. is.stands k;
        outside = outside-after;
        sections = λ k t found at_l some.
            let section = typed.sections k t (sym (same-type k) ∙ found) at_l in
            record {
              base = section.base;
              leads = leads-after section.base k section.leads;
              shared = section.shared;
              found = same-type section.base ∙ section.found;
              synchronizing = section.synchronizing;
            };
      }
        where
          Before : Object → Type 0
          Before o = ObjectTyped a s.types (length s.balances) o

          Here : Object → Type 0
          Here o = ObjectTyped a after.types (length s.balances) o

          stays_typed : (o : Object) → Before o → Here o
          stays_typed o before =
              object-kept a s.types after.types (length s.balances) o (λ k t among found. same-type k ∙ found) before

    -- ---- the instruction

    moves-goes : (user : Option Object) → user_of s.objects p.offers ≡ user
        → Goes a s true (Some (changes (moves user)))
    moves-goes user found =
        let is = moved user found in
        acts (moves user) is.olds is.replaces (moved-fits user is)
        (record { gives = tt; gets = its.payer; even = omega (arith, is.even) })

  -- a process at `fwd` leaves its place to the channel
  pub forwards-goes : Goes a s true (does a s p (bound_to v.0 p.channels >>= λ name. Some (forwards a s p name)))
  forwards-goes =
      let (n, bound, has) = held in
      subst (λ (o : Option ℕ). Goes a s true (does a s p (o >>= λ name. Some (forwards a s p name)))) (sym bound)
      (moves-goes n bound has (user_of s.objects p.offers) refl)

pub fwd-goes : {a : Acceptance} (accepted : IsAccepted a) {s : State} (typed : IsTyped a s) {p : Process}
    (there : Contains s.objects (object.Process p)) (at : ℕ) (v : VarId)
    → slice_get a.program.code p.code.0 ≡ Some (code.Fwd at v)
    → Goes a s true (does a s p (bound_to v.0 p.channels >>= λ name. Some (forwards a s p name)))
fwd-goes accepted typed there at v stands =
    let (after, row) = own-row typed there accepted in
    let (goes, goes_on) = row-inverted (code.Fwd at v) (own-stands typed there (code.Fwd at v) stands) row in
    forwards-goes accepted typed there v goes

-- A process that ends: it leaves, its purse goes to its payer, and at mode R its client is told.
use Rattle.std.proofs.Common.{◌≡◌, ◌≢◌, ◌∙◌, ◌≤◌, inl, inr, ℕ, true, [], ◌∷◌, length, Contains, Option, Some, None, slice_get, refl, sym, subst, ap, arith, append-nil, ne_eqb}
use Rattle.std.proofs.lemmas.Bool.{cases_eq}
use Rattle.std.proofs.lemmas.List.Elements.{All-nil, All-cons}
use Rattle.nomos_ir.specs.Order.{count_of}
use Rattle.nomos_ir.specs.Unfold.{Unfolds}
use Rattle.nomos_ir.specs.declared.code_node.CodeNode.TheVariants as code
use Rattle.nomos_ir.specs.declared.ids.TypeId.{TypeId}
use Rattle.nomos_ir.specs.declared.mode.Mode.{Mode}
use Rattle.nomos_ir.specs.declared.mode.Mode.TheVariants as mode
use Rattle.nomos_ir.specs.declared.type_node.TypeNode.{TypeNode}
use Rattle.nomos_ir.specs.declared.type_node.TypeNode.TheVariants as node
use Rattle.nomos_types.specs.Acceptance.{Acceptance, IsAccepted}
use Rattle.nomos_types.specs.Equality.{EqualTypes, SameHead, one}
use Rattle.nomos_types.specs.Modes.{HasMode}
use Rattle.nomos_types.specs.Premises.{Closes}
use Rattle.nomos_types.proofs.AlikeLaws.{alike_types-back}
use Rattle.nomos_types.proofs.EqualityLaws.{equal-unfolded}
use Rattle.nomos_types.proofs.ModeLaws.{mode-unique}
use Rattle.nomos_types.proofs.OccurrenceLaws.{count-here, count-elsewhere}
use Rattle.nomos_types.proofs.RowLaws.{row-inverted}
use Rattle.nomos_machine.specs.Change.{Change, put_at, made}
use Rattle.nomos_machine.specs.Deeds.{changes, leaves, closes}
use Rattle.nomos_machine.specs.Objects.{object_number, provided, used, based, shared_names, shared_of, mentioned, times, object_at}
use Rattle.nomos_machine.specs.State.{State, NameTypes, type_of}
use Rattle.nomos_machine.specs.TypedMessage.{end}
use Rattle.nomos_machine.specs.TypedState.{HasVariables, ObjectTyped, LeadsToBase, at_base, further, IsTyped}
use Rattle.nomos_machine.specs.declared.object.Message.{Message}
use Rattle.nomos_machine.specs.declared.object.Object.{Object}
use Rattle.nomos_machine.specs.declared.object.Object.TheVariants as object
use Rattle.nomos_machine.specs.declared.object.Payload.TheVariants as payload
use Rattle.nomos_machine.specs.declared.object.Process.{Process}
use Rattle.nomos_machine.proofs.ChangeLaws.{Replaces, done, further as then, made-kept}
use Rattle.nomos_machine.proofs.FitLaws.{Fits}
use Rattle.nomos_machine.proofs.GoesLaws.{Goes, acts, process-typed, own-row, own-stands}
use Rattle.nomos_machine.proofs.ProcessLaws.{own_judgement}
use Rattle.nomos_machine.proofs.HeldLaws.{uses-none, based-shared}
use Rattle.nomos_machine.proofs.NameLaws.{mentioned-sum}
use Rattle.nomos_machine.proofs.OwnedLaws.{made-times, CountsAsBefore, owned-as_before, leads-map}
use Rattle.nomos_machine.proofs.PutLaws.{object_at-own}

module _ {a : Acceptance} (accepted : IsAccepted a) {s : State} (typed : IsTyped a s) {p : Process}
    (there : Contains s.objects (object.Process p)) where
  found-there : object_at s.objects p.pid ≡ Some (object.Process p)
  found-there = object_at-own (object.Process p) s.objects typed.numbered.ascending there

  -- ---- what every change has in common by which the process leaves, and perhaps an object comes

  abbrev leaves-with : Option Object → Change
  leaves-with comes = record (leaves a s p) { comes = comes }

  pub leaves-replaces : (comes : Option Object) → Replaces (leaves-with comes).places s.objects (object.Process p ∷ [])
  leaves-replaces comes =
      then (object.Process p) None [] s.objects [] found-there (All-nil (λ o. object_number o ≡ p.pid))
      (done (put_at p.pid None s.objects))

  -- the table of types is as it was
  same-type : (comes : Option Object) (name : ℕ) → type_of (made s (leaves-with comes)).types name ≡ type_of s.types
      name
  same-type comes name = ap (λ (types : NameTypes). type_of types name) (append-nil s.types)

  -- a section whose last process is another one is as it was
  leaves-leads : (comes : Option Object) → p.mode ≢ mode.L → (base name : ℕ) → LeadsToBase s.objects base name
      → LeadsToBase (made s (leaves-with comes)).objects base name
  leaves-leads comes other_mode base name leads =
      leads-map (λ n. Unit {0}) s.objects (made s (leaves-with comes)).objects base last
      (λ m n onward inside provides end stay. (
        tt,
        λ leads_on. further m n onward (kept-message m inside) provides end
            leads_on,
      ))
      name tt leads
    where
      kept : (o : Object) → Contains s.objects o → object_number o ≢ p.pid
          → Contains (made s (leaves-with comes)).objects o
      kept o inside other =
          let Other : ℕ × Option Object → Type 0 = λ e. e.0 ≢ object_number o in
          let apart : Other (p.pid, None) = λ is. other (sym is) in
          made-kept s (leaves-with comes) o inside (All-cons Other (p.pid, None) [] apart (All-nil Other))

      only : (o : Object) → Contains s.objects o → object_number o ≡ p.pid → Some o ≡ Some (object.Process p)
      only o inside number =
          sym (object_at-own o s.objects typed.numbered.ascending inside) ∙ ap (object_at s.objects) number
          ∙ found-there

      kept-message : (m : Message) → Contains s.objects (object.Message m)
          → Contains (made s (leaves-with comes)).objects (object.Message m)
      kept-message m inside = kept (object.Message m) inside (λ number. differ (only (object.Message m) inside number))
        where
          differ : Some (object.Message m) ≡ Some (object.Process p) → ⊥
          differ is = cc

      last : (r : Process) → Contains s.objects (object.Process r) → r.mode ≡ mode.L → r.base ≡ Some base → Unit {0}
          → LeadsToBase (made s (leaves-with comes)).objects base r.offers
      last r inside at_l is stay =
          elim (cases_eq r.pid p.pid) [
            | inl number ↦
                let is_p : r ≡ p = process-only (only (object.Process r) inside number) in
                absurd (other_mode (sym (ap (λ (o : Process). o.mode) is_p) ∙ at_l))
            | inr other ↦ at_base r (kept (object.Process r) inside other) at_l is
          ]
        where
          process-only : Some (object.Process r) ≡ Some (object.Process p) → r ≡ p
          process-only is = cc

  -- the process stands for no shared name
  stands-for_none : p.mode ≢ mode.L → p.mode ≢ mode.S → shared_names (object.Process p) ≡ []
  stands-for_none not_l not_s = by-mode p.mode refl
    where
      by-mode : (m : Mode) → p.mode ≡ m → shared_of p.mode p.offers p.base ≡ []
      by-mode mode.R is = ap (λ (m : Mode). shared_of m p.offers p.base) is
      by-mode mode.T is = ap (λ (m : Mode). shared_of m p.offers p.base) is
      by-mode mode.S is = absurd (not_s is)
      by-mode mode.L is = absurd (not_l is)

  -- ---- at mode R

  abbrev close-message : Message
  close-message = record {
    number = s.next_object;
    to_client = true;
    from = p.offers;
    next = None;
    payload = payload.Close;
    purse = 0;
  }

  abbrev told : Change
  told = closes a s p mode.R

  -- the type of the offered name unfolds to the end
  offers-end : Closes a.program (own_judgement p (process-typed typed there)) → (own : TypeId)
      → type_of s.types p.offers ≡ Some own
      → Unfolds a.program own.0 node.One
  offers-end ends own found =
      let has = (process-typed typed there).matches.offers in
      let same : has.own ≡ own = cc in
      let (t, is, unfolds) = ends.channel in
      let one_type : t ≡ (process-typed typed there).place.offers = cc in
      let at_one : Unfolds a.program (process-typed typed there).place.offers.0 node.One =
      subst (λ (r : TypeId). Unfolds a.program r.0 node.One) one_type unfolds
      in
      let back = alike_types-back has.alike in
      let (q, own_unfolds, heads) = equal-unfolded a.program a.annotations (process-typed typed there).place.offers
      has.own
      node.One back.equal at_one
      in
      subst (λ (r : TypeId). Unfolds a.program r.0 node.One) same (end-alone q own_unfolds heads)
    where
      end-alone : (q : TypeNode) → Unfolds a.program (process-typed typed there).matches.offers.own.0 q
          → SameHead a.annotations (EqualTypes a.program a.annotations) node.One q
          → Unfolds a.program (process-typed typed there).matches.offers.own.0 node.One
      end-alone _ unfolds one = unfolds

  told-counts : Closes a.program (own_judgement p (process-typed typed there)) → p.mode ≡ mode.R
      → (name : ℕ) (t : TypeId) (m : Mode)
      → type_of s.types name ≡ Some t → HasMode a.program t m → CountsAsBefore m s (made s told) name
  told-counts ends at_r name t m found at_m =
      let replaces = leaves-replaces (Some (object.Message close-message)) in
      let none : shared_names (object.Process p) ≡ [] =
      stands-for_none (λ is. differ-l (sym at_r ∙ is)) (λ is. differ-s (sym at_r ∙ is))
      in
      record {
        provided = λ other. omega (arith, made-times provided name s told (object.Process p ∷ []) replaces);
        used = λ other. omega (
          arith,
          made-times used name s told (object.Process p ∷ []) replaces,
          uses-none accepted typed there ends.nothing_held name t m found at_m other,
        );
        shared = λ at_s. omega (
          arith,
          made-times shared_names name s told (object.Process p ∷ []) replaces,
          ap (count_of name) none,
        );
        outside = refl;
      }
    where
      differ-l : mode.R ≡ mode.L → ⊥
      differ-l is = cc

      differ-s : mode.R ≡ mode.S → ⊥
      differ-s is = cc

  pub told-fits : Closes a.program (own_judgement p (process-typed typed there)) → p.mode ≡ mode.R → Fits a s told
  told-fits ends at_r = record {
    olds = object.Process p ∷ [];
    replaces = leaves-replaces (Some (object.Message close-message));
    numbered = All-cons Next (object.Message close-message) [] refl (All-nil Next);
    variables = All-cons HasVariables (object.Message close-message) [] tt (All-nil HasVariables);
    typed = All-cons Here (object.Message close-message) [] here (All-nil Here);
    owned = λ name t m found at_m some.
        let before = sym (same-type (Some (object.Message close-message)) name) ∙ found in
        owned-as_before m s (made s told) name (told-counts ends at_r name t m before at_m)
        (typed.owned name t m before at_m);
    keeps_shared = λ name t found at_s. (told-counts ends at_r name t mode.S found at_s).shared refl;
    outside = λ name some.
        let (t, found, at_outside) = typed.outside name some in
        let counts = told-counts ends at_r name t mode.R found at_outside in
        let owned = typed.owned name t mode.R found at_outside in
        let provides = counts.provided (λ is. absurd cc) in (
          t,
          same-type (Some (object.Message close-message)) name ∙ found,
          at_outside,
          omega (arith, mentioned-sum (made s told).objects name, owned.0),
        );
    sections = λ name t found at_l some.
        let section = typed.sections name t (sym (same-type (Some (object.Message close-message)) name) ∙ found) at_l in
        record {
          base = section.base;
          leads = leaves-leads (Some (object.Message close-message)) (λ is. differ (sym at_r ∙ is)) section.base name
              section.leads;
          shared = section.shared;
          found = same-type (Some (object.Message close-message)) section.base ∙ section.found;
          synchronizing = section.synchronizing;
        };
  }
    where
      Next : Object → Type 0
      Next o = object_number o ≡ s.next_object

      Here : Object → Type 0
      Here o = ObjectTyped a (made s told).types (length s.balances) o

      differ : mode.R ≡ mode.L → ⊥
      differ is = cc

      here : Here (object.Message close-message)
      here =
          let has = (process-typed typed there).matches.offers in
          record {
            own = has.own;
            found = same-type (Some (object.Message close-message)) p.offers ∙ has.found;
            head = node.One;
            unfolds = offers-end ends has.own has.found;
            goes = None;
            brings = end;
            next = tt;
          }

  -- ---- at mode T

  abbrev silent : Change
  silent = leaves a s p

  -- A name of another mode than S that is mentioned afterwards is not the one that the process offered, since that was
  -- used by nobody.
  still-mentioned : p.mode ≡ mode.T → (name : ℕ) (t : TypeId) (m : Mode) → type_of s.types name ≡ Some t
      → HasMode a.program t m
      → m ≢ mode.S → 1 ≤ times mentioned (made s silent).objects name → p.offers ≢ name
  still-mentioned at_t name t m found at_m other some same =
      let t_p = process-typed typed there in
      let found_p : type_of s.types p.offers ≡ Some t = subst (λ (n : ℕ). type_of s.types n ≡ Some t) (sym same)
      found in
      let at_p = t_p.offered t found_p in
      let at_t_too : HasMode a.program t mode.T = subst (HasMode a.program t) at_t at_p in
      let owned = typed.owned name t mode.T found at_t_too in
      let replaces = leaves-replaces None in
      let provides = made-times provided name s silent (object.Process p ∷ []) replaces in
      let uses = made-times used name s silent (object.Process p ∷ []) replaces in
      let bases = made-times based name s silent (object.Process p ∷ []) replaces in
      let no_base = based-shared accepted typed name t m found at_m other in
      let mine : count_of name (p.offers ∷ []) ≡ 1 = counted-once name p.offers same in
      omega (arith, mentioned-sum (made s silent).objects name, owned.0, owned.1)
    where
      counted-once : (n k : ℕ) → k ≡ n → count_of n (k ∷ []) ≡ 1
      counted-once n k is = count-here n k [] is ∙ (omega arith)

  -- as many objects stand for each name as before
  silent-stands : p.mode ≡ mode.T → (name : ℕ)
      → times shared_names (made s silent).objects name ≡ times shared_names s.objects name
  silent-stands at_t name =
      let none : shared_names (object.Process p) ≡ [] =
      stands-for_none (λ is. differ-l (sym at_t ∙ is)) (λ is. differ-s (sym at_t ∙ is))
      in
      omega (
        arith,
        made-times shared_names name s silent (object.Process p ∷ []) (leaves-replaces None),
        ap (count_of name) none,
      )
    where
      differ-l : mode.T ≡ mode.L → ⊥
      differ-l is = cc

      differ-s : mode.T ≡ mode.S → ⊥
      differ-s is = cc

  silent-counts : Closes a.program (own_judgement p (process-typed typed there)) → p.mode ≡ mode.T
      → (name : ℕ) (t : TypeId) (m : Mode)
      → type_of s.types name ≡ Some t → HasMode a.program t m → 1 ≤ times mentioned (made s silent).objects name
      → CountsAsBefore m s (made s silent) name
  silent-counts ends at_t name t m found at_m some =
      let replaces = leaves-replaces None in
      record {
        provided = λ other. omega (
          arith,
          made-times provided name s silent (object.Process p ∷ []) replaces,
          count-elsewhere name p.offers [] (ne_eqb p.offers name (still-mentioned at_t name t m found at_m other some)),
        );
        used = λ other. omega (
          arith,
          made-times used name s silent (object.Process p ∷ []) replaces,
          uses-none accepted typed there ends.nothing_held name t m found at_m other,
        );
        shared = λ at_s. silent-stands at_t name;
        outside = refl;
      }

  pub silent-fits : Closes a.program (own_judgement p (process-typed typed there)) → p.mode ≡ mode.T → Fits a s silent
  silent-fits ends at_t = record {
    olds = object.Process p ∷ [];
    replaces = leaves-replaces None;
    numbered = All-nil (λ o. object_number o ≡ s.next_object);
    variables = All-nil HasVariables;
    typed = All-nil (λ o. ObjectTyped a (made s silent).types (length s.balances) o);
    owned = λ name t m found at_m some.
        let before = sym (same-type None name) ∙ found in
        owned-as_before m s (made s silent) name (silent-counts ends at_t name t m before at_m some)
        (typed.owned name t m before at_m);
    keeps_shared = λ name t found at_s. silent-stands at_t name;
    outside = λ name some.
        let (t, found, at_r) = typed.outside name some in
        (t, same-type None name ∙ found, at_r, still-there name t found at_r);
    sections = λ name t found at_l some.
        let section = typed.sections name t (sym (same-type None name) ∙ found) at_l in
        record {
          base = section.base;
          leads = leaves-leads None (λ is. differ (sym at_t ∙ is)) section.base name section.leads;
          shared = section.shared;
          found = same-type None section.base ∙ section.found;
          synchronizing = section.synchronizing;
        };
  }
    where
      differ : mode.T ≡ mode.L → ⊥
      differ is = cc

      still-there : (name : ℕ) (t : TypeId) → type_of s.types name ≡ Some t → HasMode a.program t mode.R
          → 1 ≤ times mentioned (made s silent).objects name
      still-there name t found at_r =
          let owned = typed.owned name t mode.R found at_r in
          let provides = made-times provided name s silent (object.Process p ∷ []) (leaves-replaces None) in
          let other : p.offers ≢ name = λ same.
          let found_p : type_of s.types p.offers ≡ Some t = subst (λ (n : ℕ). type_of s.types n ≡ Some t) (sym same)
          found in
          let at_t_too : HasMode a.program t mode.T =
          subst (HasMode a.program t) at_t ((process-typed typed there).offered t found_p)
          in
          apart (mode-unique accepted.typed.formed.program at_t_too at_r)
          in
          omega (
            arith,
            mentioned-sum (made s silent).objects name,
            owned.0,
            count-elsewhere name p.offers [] (ne_eqb p.offers name other),
          )
        where
          apart : mode.T ≡ mode.R → ⊥
          apart is = cc

-- ---- the instruction

module _ {a : Acceptance} (accepted : IsAccepted a) {s : State} (typed : IsTyped a s) {p : Process}
    (there : Contains s.objects (object.Process p)) where
  -- a process at `close` ends, by its mode
  pub close-goes : (at : ℕ) → slice_get a.program.code p.code.0 ≡ Some (code.Close at)
      → Goes a s true (Some (changes (closes a s p p.mode)))
  close-goes at stands =
      let (after, row) = own-row typed there accepted in
      let (ends, goes_on) = row-inverted (code.Close at) (own-stands typed there (code.Close at) stands) row in
      let at_own : p.mode ≡ (own_judgement p (process-typed typed there)).mode =
      (process-typed typed there).matches.mode in
      elim ends.mode [
        | inl at_r ↦
            subst (λ (m : Mode). Goes a s true (Some (changes (closes a s p m)))) (sym (at_own ∙ at_r))
            (acts (closes a s p mode.R) (object.Process p ∷ [])
            (leaves-replaces accepted typed there (Some (object.Message (close-message accepted typed there))))
            (told-fits accepted typed there ends (at_own ∙ at_r))
            (record { gives = tt; gets = (process-typed typed there).payer; even = omega arith }))
        | inr at_t ↦
            subst (λ (m : Mode). Goes a s true (Some (changes (closes a s p m)))) (sym (at_own ∙ at_t))
            (acts (leaves a s p) (object.Process p ∷ []) (leaves-replaces accepted typed there None)
            (silent-fits accepted typed there ends (at_own ∙ at_t))
            (record { gives = tt; gets = (process-typed typed there).payer; even = omega arith }))
      ]

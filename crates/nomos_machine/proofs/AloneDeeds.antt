-- The instructions at which a process goes on alone: `let`, `emit`, `if`, `work`, `empty`, `add` and `match`.
use Rattle.std.proofs.Common.{if◌then◌else◌, map, IsSome, ◌≡◌, ◌∙◌, ◌≤◌, ℕ, ◌+◌, ◌*◌, ◌-◌, Bool, true, false, List, [], ◌∷◌, length, Contains, Option, Some, None, slice_get, Ok, refl, sym, subst, ap, arith, option_and_then, sum_by, inl, inr, All}
use Rattle.std.proofs.lemmas.List.Sums.{sum_by-cons}
use Rattle.std.proofs.lemmas.Bool.{cases_eq}
use Rattle.std.specs.Option.{option_map, option_to_list}
use Rattle.nomos_types.specs.Premises.{Adds, TakesApart}
use Rattle.std.proofs.Math.Nat.{mul-suc}
use Rattle.nomos_ir.specs.declared.fault.Fault.TheVariants as fault
use Rattle.nomos_ir.specs.Bindings.{bound_to, IsAscending, unbind}
use Rattle.nomos_ir.specs.CodeParts.{code_terms}
use Rattle.nomos_ir.specs.Evaluation.{Evaluation, ends, faults, term_evaluation}
use Rattle.nomos_ir.specs.Order.{count_of}
use Rattle.nomos_ir.specs.Value.{Value, truth_in}
use Rattle.nomos_ir.specs.ValueKind.{ValueHasKind}
use Rattle.nomos_ir.specs.declared.kind.Kind.{Kind}
use Rattle.std.proofs.lemmas.List.Elements.{All-nil, All-cons, All-head, All-tail}
use Rattle.nomos_ir.specs.declared.amount.Amount.{Amount}
use Rattle.nomos_ir.specs.declared.code_node.CodeNode.{CodeNode}
use Rattle.nomos_ir.specs.declared.code_node.CodeNode.TheVariants as code
use Rattle.nomos_ir.specs.declared.ids.CodeId.{CodeId}
use Rattle.nomos_ir.specs.declared.ids.TermId.{TermId}
use Rattle.nomos_ir.specs.declared.ids.VarId.{VarId}
use Rattle.nomos_ir.proofs.BindingLaws.{bind-ascending, unbind-ascending, bound-after_unbind, bound-after_unbind_other}
use Rattle.nomos_ir.proofs.PairedLaws.{paired-bind, none-left, paired-left, paired-unbind}
use Rattle.nomos_ir.proofs.SumLaws.{sum-after_new, sum-after_unbind}
use Rattle.nomos_machine.specs.declared.object.PotentialList.{PotentialList}
use Rattle.nomos_types.specs.Acceptance.{Acceptance, IsAccepted}
use Rattle.nomos_types.specs.Amount.{dths}
use Rattle.nomos_types.specs.Judgement.{Judgement, ListType, IsFree, count_one, at_code, binds_value, binds_list, with_potential}
use Rattle.nomos_types.specs.TypingRule.{TypingRule}
use Rattle.nomos_types.proofs.RowLaws.{row-inverted}
use Rattle.nomos_machine.specs.Deeds.{changes, alone, does, where_it_has, empty_list, has_fault, lengthened, is_light, takes_apart}
use Rattle.nomos_machine.specs.Change.{Change}
use Rattle.nomos_ir.specs.TermsEvaluation.{terms_evaluation, before_others}
use Rattle.nomos_machine.specs.Matching.{Matches, IsListOf, HasBase, ProcessTyped}
use Rattle.nomos_machine.specs.Objects.{potential_of, free_purse}
use Rattle.nomos_machine.specs.Readiness.{is_met_at}
use Rattle.nomos_machine.specs.Revised.{standing_at, with_value, with_list, poorer, list_used_up}
use Rattle.nomos_machine.specs.State.{State}
use Rattle.nomos_machine.specs.Step.{deed_by}
use Rattle.nomos_machine.specs.TypedState.{VariablesDiffer, IsTyped}
use Rattle.nomos_machine.specs.declared.object.Object.TheVariants as object
use Rattle.nomos_machine.specs.declared.object.Process.{Process}
use Rattle.nomos_machine.proofs.AloneLaws.{SameNames, alone-replaces, alone-fits}
use Rattle.nomos_machine.proofs.GoesLaws.{Goes, acts, faulty, process-typed, process-variables, own-row, own-stands, next-is_judgement, value-has_kind, affords, own-is_judgement}
use Rattle.nomos_machine.proofs.MatchLaws.{matches-differ}
use Rattle.nomos_machine.proofs.ProcessLaws.{own_judgement, process-next}

module _ {a : Acceptance} (accepted : IsAccepted a) {s : State} (typed : IsTyped a s) {p : Process}
    (there : Contains s.objects (object.Process p)) where
  abbrev own : Judgement
  own = own_judgement p (process-typed typed there)

  -- the instruction of the process
  abbrev pub At : CodeNode → Type 0
  At n = slice_get a.program.code p.code.0 ≡ Some n

  -- What the process does at an instruction.
  abbrev pub GoesAt : CodeNode → Type 0
  GoesAt n = Goes a s (is_met_at a s p n) (deed_by a s p n (terms_evaluation a.program p.values (code_terms n)))

  -- it goes on alone, and pays what it burns
  alone-goes : (q : Process) (burnt : ℕ) (emitted : List (ℕ × Value)) → SameNames a s p q
      → ProcessTyped a s.types (length s.balances) q → VariablesDiffer q → burnt + q.purse ≡ p.purse
      → Goes a s true (Some (changes (record (alone a s p q) { burnt = burnt; emitted = emitted })))
  alone-goes q burnt emitted same goes_on differ pays =
      acts (record (alone a s p q) { burnt = burnt; emitted = emitted }) (object.Process p ∷ [])
      (alone-replaces typed there q burnt emitted same) (alone-fits typed there q burnt emitted same goes_on differ)
      (record { gives = tt; gets = tt; even = omega arith })

  -- its channels stay as they are, and what else it has is what the rule goes on with
  goes-by_row : (q : Process) (burnt : ℕ) (emitted : List (ℕ × Value)) (after : List Judgement) (k : Judgement)
      → TypingRule a.program a.annotations own after → Contains after k → Matches a.program a.annotations s.types q k
      → q.pid ≡ p.pid → q.offers ≡ p.offers → q.channels ≡ p.channels → q.base ≡ p.base → q.payer ≡ p.payer
      → q.mode ≡ p.mode → IsAscending q.values → IsAscending q.lists → potential_of q ≤ q.purse → free_purse q ≡ k.q
      → burnt + q.purse ≡ p.purse
      → Goes a s true (Some (changes (record (alone a s p q) { burnt = burnt; emitted = emitted })))
  goes-by_row q burnt emitted after k row among matches pid offers channels base payer same_mode values lists covered
      exact
      pays =
      let t = process-typed typed there in
      let variables = process-variables typed there in
      let ascending : IsAscending q.channels = subst IsAscending (sym channels) variables.channels in
      let has_base : HasBase a.program s.types q = record {
        base = (
          λ some. same_mode ∙ t.has_base.base.0 (subst IsSome base some),
          λ at_l. subst IsSome (sym base) (t.has_base.base.1 (sym same_mode ∙ at_l)),
        );
        shared = λ b is. t.has_base.shared b (sym base ∙ is);
      } in
      alone-goes q burnt emitted
      (record {
        pid = pid;
        same_mode = same_mode;
        offers = offers;
        base = base;
        uses = λ name u m found mode other. ap (λ (b : List (VarId × ℕ)). count_of name (map (λ e. e.1) b)) channels;
      })
      (process-next accepted t after k row among matches covered exact payer has_base)
      (matches-differ (next-is_judgement typed there accepted k row among) matches values lists ascending)
      pays

  -- a free variable is no list
  free-list : (v : VarId) → IsFree own v → bound_to v.0 own.lists ≡ None
  free-list v free = uncounted (bound_to v.0 own.lists) (omega (arith, free))
    where
      uncounted : {X : Type 0} (o : Option X) → count_one o ≡ 0 → o ≡ None
      uncounted (Some x) none = absurd (omega arith)
      uncounted None none = refl

  -- what it has still is what its judgement says, at another instruction
  matches-on : (next : CodeId) → Matches a.program a.annotations s.types (standing_at next p) (at_code own next)
  matches-on next =
      let t = process-typed typed there in
      record {
        mode = t.matches.mode;
        code = refl;
        offers = t.matches.offers;
        values = t.matches.values;
        held_lists = t.matches.held_lists;
        channels = t.matches.channels;
      }

  pub let-goes : (at : ℕ) (v : VarId) (e : TermId) (next : CodeId) → At (code.Let at v e next)
      → GoesAt (code.Let at v e next)
  let-goes at v e next stands = come (term_evaluation a.program p.values e) refl
    where
      n : CodeNode
      n = code.Let at v e next

      come : (r : Evaluation) → term_evaluation a.program p.values e ≡ r
          → Goes a s true (deed_by a s p n (before_others r (Ok [])))
      come (faults f) is = faulty f
      come (ends x m) is =
          let (after, row) = own-row typed there accepted in
          let (kind, of_kind, free, goes_on) = row-inverted n (own-stands typed there n stands) row in
          let k : Judgement = binds_value (at_code own next) v kind in
          let among : Contains after k = subst (λ (js : List Judgement). Contains js k) (sym goes_on)
          (0, omega arith, refl) in
          let t = process-typed typed there in
          let variables = process-variables typed there in
          let has = value-has_kind typed there accepted e kind x m of_kind is in
          let q : Process = standing_at next (with_value v x p) in
          let on = matches-on next in
          let matches : Matches a.program a.annotations s.types q k = record {
            mode = on.mode;
            code = refl;
            offers = on.offers;
            values = paired-bind v x kind p.values t.place.kinds has on.values;
            held_lists = on.held_lists;
            channels = on.channels;
          } in
          goes-by_row q 0 [] after k row among matches refl refl refl refl refl refl
          (bind-ascending v x p.values variables.values) variables.lists t.covered refl (omega arith)

  pub emit-goes : (at : ℕ) (e : TermId) (next : CodeId) → At (code.Emit at e next) → GoesAt (code.Emit at e next)
  emit-goes at e next stands = come (term_evaluation a.program p.values e) refl
    where
      n : CodeNode
      n = code.Emit at e next

      come : (r : Evaluation) → term_evaluation a.program p.values e ≡ r
          → Goes a s true (deed_by a s p n (before_others r (Ok [])))
      come (faults f) is = faulty f
      come (ends x m) is =
          let (after, row) = own-row typed there accepted in
          let (kind, of_kind, goes_on) = row-inverted n (own-stands typed there n stands) row in
          let k : Judgement = at_code own next in
          let among : Contains after k = subst (λ (js : List Judgement). Contains js k) (sym goes_on)
          (0, omega arith, refl) in
          let t = process-typed typed there in
          let variables = process-variables typed there in
          goes-by_row (standing_at next p) 0 ((p.pid, x) ∷ []) after k row among (matches-on next) refl refl refl refl
          refl refl
          variables.values variables.lists t.covered refl (omega arith)

  pub if-goes : (at : ℕ) (e : TermId) (then_next else_next : CodeId) → At (code.If at e then_next else_next)
      → GoesAt (code.If at e then_next else_next)
  if-goes at e then_next else_next stands = come (term_evaluation a.program p.values e) refl
    where
      n : CodeNode
      n = code.If at e then_next else_next

      chosen : (b : Bool) (after : List Judgement) → after ≡ at_code own then_next ∷ at_code own else_next ∷ []
          → Contains after (at_code own (if b then then_next else else_next))
      chosen true after goes_on =
          subst (λ (js : List Judgement). Contains js (at_code own then_next)) (sym goes_on) (0, omega arith, refl)
      chosen false after goes_on =
          subst (λ (js : List Judgement). Contains js (at_code own else_next)) (sym goes_on) (1, omega arith, refl)

      come : (r : Evaluation) → term_evaluation a.program p.values e ≡ r
          → Goes a s true (deed_by a s p n (before_others r (Ok [])))
      come (faults f) is = faulty f
      come (ends x m) is =
          let (after, row) = own-row typed there accepted in
          let (of_kind, goes_on) = row-inverted n (own-stands typed there n stands) row in
          let next : CodeId = if truth_in x then then_next else else_next in
          let t = process-typed typed there in
          let variables = process-variables typed there in
          goes-by_row (standing_at next p) 0 [] after (at_code own next) row (chosen (truth_in x) after goes_on)
          (matches-on next) refl refl refl refl refl refl variables.values variables.lists t.covered refl (omega arith)

  pub work-goes : (at : ℕ) (r : Amount) (next : CodeId) → At (code.Work at r next) → GoesAt (code.Work at r next)
  work-goes at r next stands =
      let n : CodeNode = code.Work at r next in
      let (after, row) = own-row typed there accepted in
      let (enough, goes_on) = row-inverted n (own-stands typed there n stands) row in
      let gas : ℕ = dths a.annotations r in
      let k : Judgement = with_potential (at_code own next) (own.q - gas) in
      let among : Contains after k = subst (λ (js : List Judgement). Contains js k) (sym goes_on)
      (0, omega arith, refl) in
      let t = process-typed typed there in
      let variables = process-variables typed there in
      let q : Process = standing_at next (poorer gas p) in
      let covered : potential_of p ≤ p.purse = t.covered in
      let has : gas ≤ free_purse p = enough in
      let on = matches-on next in
      let matches : Matches a.program a.annotations s.types q k = record {
        mode = on.mode;
        code = refl;
        offers = on.offers;
        values = on.values;
        held_lists = on.held_lists;
        channels = on.channels;
      } in
      let change : Option Change = Some (record (alone a s p q) { burnt = gas }) in
      let paid : where_it_has gas p change ≡ change = affords gas p change covered has in
      subst (λ (o : Option Change). Goes a s true (does a s p o)) (sym paid)
      (goes-by_row q gas [] after k row among matches refl refl refl refl refl refl variables.values variables.lists
      (omega arith) (omega arith) (omega arith))

  pub empty-goes : (at : ℕ) (v : VarId) (r : Amount) (kind : Kind) (next : CodeId) → At (code.Empty at v r kind next)
      → GoesAt (code.Empty at v r kind next)
  empty-goes at v r kind next stands =
      let n : CodeNode = code.Empty at v r kind next in
      let (after, row) = own-row typed there accepted in
      let (free, goes_on) = row-inverted n (own-stands typed there n stands) row in
      let amount : ℕ = dths a.annotations r in
      let list : ListType = record { kind = kind; amount = amount } in
      let k : Judgement = binds_list (at_code own next) v list in
      let among : Contains after k = subst (λ (js : List Judgement). Contains js k) (sym goes_on)
      (0, omega arith, refl) in
      let t = process-typed typed there in
      let variables = process-variables typed there in
      let q : Process = standing_at next (with_list v (empty_list amount) p) in
      let on = matches-on next in
      let fits : IsListOf (empty_list amount) list =
      record { amount = refl; items = All-nil (λ x. ValueHasKind x kind) } in
      let matches : Matches a.program a.annotations s.types q k = record {
        mode = on.mode;
        code = refl;
        offers = on.offers;
        values = on.values;
        held_lists = paired-bind v (empty_list amount) list p.lists t.place.lists fits on.held_lists;
        channels = on.channels;
      } in
      let none : bound_to v.0 p.lists ≡ None =
      none-left (t.matches.held_lists v.0) (free-list v free)
      in
      let more : potential_of q ≡ potential_of p + amount * 0 =
      sum-after_new (λ (l : PotentialList). l.amount * length l.items) v (empty_list amount) p.lists variables.lists
      none
      in
      let same : potential_of q ≡ potential_of p = omega (arith, more) in
      let covered : potential_of p ≤ p.purse = t.covered in
      goes-by_row q 0 [] after k row among matches refl refl refl refl refl refl variables.values
      (bind-ascending v (empty_list amount) p.lists variables.lists) (omega arith) (omega arith) (omega arith)

  -- what a list carries
  abbrev list_potential : PotentialList → ℕ
  list_potential l = l.amount * length l.items

  -- a list goes out of the map
  list-gone : (w : VarId) (l : PotentialList) → bound_to w.0 p.lists ≡ Some l
      → potential_of (list_used_up w p) + list_potential l ≡ potential_of p
  list-gone w l there_l =
      let out = sum-after_unbind list_potential w.0 p.lists in
      let was : sum_by list_potential (option_to_list (bound_to w.0 p.lists)) ≡ list_potential l =
      ap (λ (o : Option PotentialList). sum_by list_potential (option_to_list o)) there_l
      ∙ sum_by-cons list_potential l [] ∙ (omega arith)
      in
      omega arith

  -- and another one comes in under a free variable, or under the same
  list-exchanged : (v w : VarId) (l m : PotentialList) → bound_to w.0 p.lists ≡ Some l
      → bound_to v.0 (unbind w.0 p.lists) ≡ None
      → potential_of (with_list v m (list_used_up w p)) + list_potential l ≡ potential_of p + list_potential m
  list-exchanged v w l m there_l none =
      let variables = process-variables typed there in
      let out : potential_of (list_used_up w p) + list_potential l ≡ potential_of p = list-gone w l there_l in
      let into = sum-after_new list_potential v m (unbind w.0 p.lists) (unbind-ascending w.0 p.lists variables.lists)
      none in
      omega arith

  -- a variable that is free is no list of the process, and still none where another one has gone
  unbound-list : (v w : VarId) → bound_to v.0 p.lists ≡ None → bound_to v.0 (unbind w.0 p.lists) ≡ None
  unbound-list v w none =
      elim (cases_eq v.0 w.0) [
        | inl same ↦
            subst (λ (n : ℕ). bound_to n (unbind w.0 p.lists) ≡ None) (sym same)
            (bound-after_unbind w.0 p.lists (process-variables typed there).lists)
        | inr other ↦ bound-after_unbind_other v.0 w.0 p.lists other ∙ none
      ]

  -- the list that the judgement has for a variable
  own-list : (w : VarId) (list : ListType) → bound_to w.0 own.lists ≡ Some list
      → (l : PotentialList) × (bound_to w.0 p.lists ≡ Some l) × IsListOf l list
  own-list w list has = paired-left list ((process-typed typed there).matches.held_lists w.0) has

  pub add-goes : (at : ℕ) (v : VarId) (e : TermId) (w : VarId) (next : CodeId) → At (code.Add at v e w next)
      → GoesAt (code.Add at v e w next)
  add-goes at v e w next stands = come (term_evaluation a.program p.values e) refl
    where
      n : CodeNode
      n = code.Add at v e w next

      weighed : (x : Value) (l : PotentialList) (list : ListType) (after : List Judgement)
          → (row : TypingRule a.program a.annotations own after) → Adds a.program own v e w list
          → after ≡ with_potential (binds_list (record (at_code own next) { lists = unbind w.0 own.lists }) v list)
          (own.q - list.amount) ∷ []
          → bound_to w.0 p.lists ≡ Some l → IsListOf l list → ValueHasKind x list.kind → (b : Bool)
          → Goes a s true
          (if b then
          option_map changes (where_it_has l.amount p (Some (alone a s p
          (standing_at next (with_list v (lengthened x l) (list_used_up w p)))))) else
          Some (has_fault fault.ListLength))
      weighed x l list after row adds goes_on there_l fits has false = faulty fault.ListLength
      weighed x l list after row adds goes_on there_l fits has true =
          let t = process-typed typed there in
          let variables = process-variables typed there in
          let q : Process = standing_at next (with_list v (lengthened x l) (list_used_up w p)) in
          let k : Judgement =
          with_potential (binds_list (record (at_code own next) { lists = unbind w.0 own.lists }) v list)
          (own.q - list.amount)
          in
          let among : Contains after k = subst (λ (js : List Judgement). Contains js k) (sym goes_on)
          (0, omega arith, refl) in
          let h = own-is_judgement typed there accepted in
          let longer_fits : IsListOf (lengthened x l) list = record {
            amount = fits.amount;
            items = All-cons (λ y. ValueHasKind y list.kind) x l.items has fits.items;
          } in
          let on = matches-on next in
          let matches : Matches a.program a.annotations s.types q k = record {
            mode = on.mode;
            code = refl;
            offers = on.offers;
            values = on.values;
            held_lists = paired-bind v (lengthened x l) list (unbind w.0 p.lists) (unbind w.0 own.lists) longer_fits
                (paired-unbind w.0 p.lists own.lists variables.lists h.lists_ascend on.held_lists);
            channels = on.channels;
          } in
          let none = unbound-list v w (none-left (t.matches.held_lists v.0) (free-list v adds.free)) in
          let exchanged : potential_of q + list_potential l ≡ potential_of p + list_potential (lengthened x l) =
          list-exchanged v w l (lengthened x l) there_l none
          in
          let longer_has : list_potential (lengthened x l) ≡ list_potential l + l.amount =
          mul-suc l.amount (length l.items)
          in
          let covered : potential_of p ≤ p.purse = t.covered in
          let amount : l.amount ≡ list.amount = fits.amount in
          let can : list.amount ≤ free_purse p = adds.enough in
          let enough : l.amount ≤ free_purse p = omega arith in
          let change : Option Change = Some (alone a s p q) in
          let paid : where_it_has l.amount p change ≡ change = affords l.amount p change covered enough in
          subst (λ (o : Option Change). Goes a s true (option_map changes o)) (sym paid)
          (goes-by_row q 0 [] after k row among matches refl refl refl refl refl refl variables.values
          (bind-ascending v (lengthened x l) (unbind w.0 p.lists) (unbind-ascending w.0 p.lists variables.lists))
          (omega arith) (omega arith) (omega arith))

      come : (r : Evaluation) → term_evaluation a.program p.values e ≡ r
          → Goes a s true (deed_by a s p n (before_others r (Ok [])))
      come (faults f) is = faulty f
      come (ends x m) is =
          let (after, row) = own-row typed there accepted in
          let (list, adds, goes_on) = row-inverted n (own-stands typed there n stands) row in
          let (l, there_l, fits) = own-list w list adds.there in
          let has = value-has_kind typed there accepted e list.kind x m adds.element is in
          subst (λ (o : Option PotentialList). Goes a s true (option_and_then (λ (l : PotentialList).
          if is_light (lengthened x l) then
          option_map changes (where_it_has l.amount p (Some (alone a s p
          (standing_at next (with_list v (lengthened x l) (list_used_up w p)))))) else
          Some (has_fault fault.ListLength)) o)) (sym there_l)
          (weighed x l list after row adds goes_on there_l fits has (is_light (lengthened x l)))

  pub match-goes : (at : ℕ) (w : VarId) (empty_next : CodeId) (head tail : VarId) (full_next : CodeId)
      → At (code.Match at w empty_next head tail full_next) → GoesAt (code.Match at w empty_next head tail full_next)
  match-goes at w empty_next head tail full_next stands =
      let (after, row) = own-row typed there accepted in
      let (list, apart, goes_on) = row-inverted n (own-stands typed there n stands) row in
      let (l, there_l, fits) = own-list w list apart.there in
      subst (λ (o : Option PotentialList). Goes a s true (does a s p (option_and_then (λ (l : PotentialList).
      Some (takes_apart a s p w empty_next head tail full_next l l.items)) o))) (sym there_l)
      (parts l list after row apart goes_on there_l fits l.items refl)
    where
      n : CodeNode
      n = code.Match at w empty_next head tail full_next

      parts : (l : PotentialList) (list : ListType) (after : List Judgement)
          → TypingRule a.program a.annotations own after
          → TakesApart own w head tail list
          → after ≡ record (at_code own empty_next) { lists = unbind w.0 own.lists } ∷
          with_potential (binds_value (binds_list (record (at_code own full_next) { lists = unbind w.0 own.lists }) tail
          list)
          head list.kind) (own.q + list.amount) ∷ []
          → bound_to w.0 p.lists ≡ Some l → IsListOf l list → (items : List Value) → l.items ≡ items
          → Goes a s true (Some (changes (takes_apart a s p w empty_next head tail full_next l items)))
      parts l list after row apart goes_on there_l fits [] is =
          let t = process-typed typed there in
          let variables = process-variables typed there in
          let q : Process = standing_at empty_next (list_used_up w p) in
          let k : Judgement = record (at_code own empty_next) { lists = unbind w.0 own.lists } in
          let among : Contains after k = subst (λ (js : List Judgement). Contains js k) (sym goes_on)
          (0, omega arith, refl) in
          let h = own-is_judgement typed there accepted in
          let on = matches-on empty_next in
          let matches : Matches a.program a.annotations s.types q k = record {
            mode = on.mode;
            code = refl;
            offers = on.offers;
            values = on.values;
            held_lists = paired-unbind w.0 p.lists own.lists variables.lists h.lists_ascend on.held_lists;
            channels = on.channels;
          } in
          let out : potential_of q + list_potential l ≡ potential_of p = list-gone w l there_l in
          let nothing_in : list_potential l ≡ 0 = ap (λ (xs : List Value). l.amount * length xs) is ∙ (omega arith) in
          let covered : potential_of p ≤ p.purse = t.covered in
          goes-by_row q 0 [] after k row among matches refl refl refl refl refl refl variables.values
          (unbind-ascending w.0 p.lists variables.lists) (omega arith) (omega arith) (omega arith)
      parts l list after row apart goes_on there_l fits (x ∷ xs) is =
          let t = process-typed typed there in
          let variables = process-variables typed there in
          let rest : PotentialList = record l { items = xs } in
          let q : Process = standing_at full_next (with_value head x (with_list tail rest (list_used_up w p))) in
          let k : Judgement =
          with_potential (binds_value (binds_list (record (at_code own full_next) { lists = unbind w.0 own.lists }) tail
          list)
          head list.kind) (own.q + list.amount)
          in
          let among : Contains after k = subst (λ (js : List Judgement). Contains js k) (sym goes_on)
          (1, omega arith, refl) in
          let h = own-is_judgement typed there accepted in
          let Of : Value → Type 0 = λ y. ValueHasKind y list.kind in
          let all : All Of (x ∷ xs) = subst (All Of) is fits.items in
          let rest_fits : IsListOf rest list = record { amount = fits.amount; items = All-tail Of x xs all } in
          let on = matches-on full_next in
          let matches : Matches a.program a.annotations s.types q k = record {
            mode = on.mode;
            code = refl;
            offers = on.offers;
            values = paired-bind head x list.kind p.values t.place.kinds (All-head Of x xs all) on.values;
            held_lists = paired-bind tail rest list (unbind w.0 p.lists) (unbind w.0 own.lists) rest_fits
                (paired-unbind w.0 p.lists own.lists variables.lists h.lists_ascend on.held_lists);
            channels = on.channels;
          } in
          let none = unbound-list tail w (none-left (t.matches.held_lists tail.0) (free-list tail apart.tail_free)) in
          let exchanged : potential_of q + list_potential l ≡ potential_of p + list_potential rest =
          list-exchanged tail w l rest there_l none
          in
          let was : list_potential l ≡ list_potential rest + l.amount =
          ap (λ (ys : List Value). l.amount * length ys) is ∙ mul-suc l.amount (length xs)
          in
          let amount : l.amount ≡ list.amount = fits.amount in
          let covered : potential_of p ≤ p.purse = t.covered in
          goes-by_row q 0 [] after k row among matches refl refl refl refl refl refl
          (bind-ascending head x p.values variables.values)
          (bind-ascending tail rest (unbind w.0 p.lists) (unbind-ascending w.0 p.lists variables.lists))
          (omega arith) (omega arith) (omega arith)

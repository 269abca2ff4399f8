-- Acts of a process by itself, as revisions.
use Rattle.std.proofs.Common.{◌≡◌, ◌∙◌, ℕ, List, [], ◌∷◌, Option, Some, None, sym, ap, refl}
use Rattle.nomos_ir.specs.Bindings.{bound_to}
use Rattle.nomos_ir.specs.Value.{Value}
use Rattle.nomos_ir.specs.ValueNode.{value_of}
use Rattle.nomos_ir.specs.declared.ids.CodeId.{CodeId}
use Rattle.nomos_ir.specs.declared.ids.VarId.{VarId}
use Rattle.nomos_ir.specs.declared.value_node.ValueNode.{ValueNode}
use Rattle.nomos_types.specs.Acceptance.{Acceptance}
use Rattle.nomos_deeds.specs.Acts.{act_change, parted}
use Rattle.nomos_deeds.specs.declared.act.Act.TheVariants as act
use Rattle.nomos_machine.specs.Change.{Change}
use Rattle.nomos_machine.specs.Deeds.{alone, empty_list, lengthened, one_of}
use Rattle.nomos_machine.specs.Optional.{◌>>=◌}
use Rattle.nomos_machine.specs.Revised.{standing_at, with_value, with_list, list_used_up}
use Rattle.nomos_machine.specs.State.{State}
use Rattle.nomos_machine.specs.declared.object.PotentialList.{PotentialList}
use Rattle.nomos_machine.specs.declared.object.Process.{Process}
use Rattle.nomos_changes.specs.Revisions.{Revises, revised, with_parts}
use Rattle.nomos_changes.specs.declared.revision.Revision.TheVariants as revision
use Rattle.nomos_changes.proofs.MadeLemmas.{one-some}

module _ (a : Acceptance) (s : State) (p : Process) (vs : List Value) (c : Change) where
  pub let-revises : (x : Value) (v : VarId) (next : CodeId) → Some x ≡ one_of vs
      → act_change a s p vs (act.Let v next) ≡ Some c → Revises a s p (revision.Binds v x) next c
  let-revises x v next one is = record {
    becomes = with_value v x p;
    revises = refl;
    alone_is = one-some c (alone a s p (standing_at next (with_value v x p)))
        (sym is ∙ ap (λ (o : Option Value). o >>= λ x. Some (alone a s p (standing_at next (with_value v x p))))
        (sym one));
  }

  pub empty-revises : (v : VarId) (amount : ℕ) (next : CodeId) → act_change a s p vs (act.Empty v amount next) ≡ Some c
      → Revises a s p (revision.Empty v amount) next c
  empty-revises v amount next is = record {
    becomes = with_list v (empty_list amount) p;
    revises = refl;
    alone_is = one-some c (alone a s p (standing_at next (with_list v (empty_list amount) p))) (sym is);
  }

  pub end-revises : (w : VarId) (next : CodeId) → act_change a s p vs (act.End w next) ≡ Some c
      → Revises a s p (revision.UsedUp w) next c
  end-revises w next is = record {
    becomes = list_used_up w p;
    revises = refl;
    alone_is = one-some c (alone a s p (standing_at next (list_used_up w p))) (sym is);
  }

  pub add-revises : (first : ValueNode) (v w : VarId) (next : CodeId) → Some (value_of first) ≡ one_of vs
      → act_change a s p vs (act.Add v w next) ≡ Some c → Revises a s p (revision.Longer v w first) next c
  add-revises first v w next one is = at (bound_to w.0 p.lists) refl
      (ap (λ (o : Option Value). o >>= λ x. bound_to w.0 p.lists >>= λ l.
      Some (alone a s p (standing_at next (with_list v (lengthened x l) (list_used_up w p))))) one ∙ is)
    where
      longer : PotentialList → Process
      longer l = with_list v (lengthened (value_of first) l) (list_used_up w p)

      at : (o : Option PotentialList) → bound_to w.0 p.lists ≡ o
          → (o >>= λ l. Some (alone a s p (standing_at next (longer l)))) ≡ Some c
          → Revises a s p (revision.Longer v w first) next c
      at (Some l) found made = record {
        becomes = longer l;
        revises = ap (λ (o : Option PotentialList). o >>= λ l. Some (longer l)) found;
        alone_is = one-some c (alone a s p (standing_at next (longer l))) (sym made);
      }
      at None found made = absurd cc

  pub parted-revises : (w head tail : VarId) (next : CodeId)
      → act_change a s p vs (act.TakeApart w head tail next) ≡ Some c
      → Revises a s p (revision.Parted w head tail) next c
  parted-revises w head tail next is = at (bound_to w.0 p.lists) refl is
    where
      with-items : (l : PotentialList) → bound_to w.0 p.lists ≡ Some l → (items : List Value) → l.items ≡ items
          → parted a s p vs w head tail next l items ≡ Some c → Revises a s p (revision.Parted w head tail) next c
      with-items l found [] items made = absurd cc
      with-items l found (x ∷ xs) items made = record {
        becomes = with_value head x (with_list tail (record l { items = xs }) (list_used_up w p));
        revises =
            ap (λ (o : Option PotentialList). o >>= λ l. with_parts head tail l l.items (list_used_up w p)) found
            ∙ ap (λ (vs : List Value). with_parts head tail l vs (list_used_up w p)) items;
        alone_is = one-some c (alone a s p (standing_at next
            (with_value head x (with_list tail (record l { items = xs }) (list_used_up w p))))) (sym made);
      }

      at : (o : Option PotentialList) → bound_to w.0 p.lists ≡ o
          → (o >>= λ l. parted a s p vs w head tail next l l.items) ≡ Some c
          → Revises a s p (revision.Parted w head tail) next c
      at (Some l) found made = with-items l found l.items refl made
      at None found made = absurd cc

-- ---- a list that is taken apart

pub record PartedInto (w head tail : VarId) (p q : Process) : Type 0 where
  pub list : PotentialList
  pub found : bound_to w.0 p.lists ≡ Some list
  pub first : Value
  pub rest : List Value
  pub items : list.items ≡ first ∷ rest
  pub becomes : with_value head first (with_list tail (record list { items = rest }) (list_used_up w p)) ≡ q

pub parted-into : (w head tail : VarId) (p q : Process) → revised (revision.Parted w head tail) p ≡ Some q
    → PartedInto w head tail p q
parted-into w head tail p q made = at (bound_to w.0 p.lists) refl made
  where
    with-items : (l : PotentialList) → bound_to w.0 p.lists ≡ Some l → (items : List Value) → l.items ≡ items
        → with_parts head tail l items (list_used_up w p) ≡ Some q → PartedInto w head tail p q
    with-items l found [] items made = absurd cc
    with-items l found (x ∷ xs) items made = record {
      list = l;
      found = found;
      first = x;
      rest = xs;
      items = items;
      becomes = one-some (with_value head x (with_list tail (record l { items = xs }) (list_used_up w p))) q made;
    }

    at : (o : Option PotentialList) → bound_to w.0 p.lists ≡ o
        → (o >>= λ l. with_parts head tail l l.items (list_used_up w p)) ≡ Some q → PartedInto w head tail p q
    at (Some l) found made = with-items l found l.items refl made
    at None found made = absurd cc

-- ---- a list that gets one more element

pub record LongerInto (v w : VarId) (first : ValueNode) (p q : Process) : Type 0 where
  pub list : PotentialList
  pub found : bound_to w.0 p.lists ≡ Some list
  pub becomes : with_list v (lengthened (value_of first) list) (list_used_up w p) ≡ q

pub longer-into : (v w : VarId) (first : ValueNode) (p q : Process) → revised (revision.Longer v w first) p ≡ Some q
    → LongerInto v w first p q
longer-into v w first p q made = at (bound_to w.0 p.lists) refl made
  where
    longer : PotentialList → Process
    longer l = with_list v (lengthened (value_of first) l) (list_used_up w p)

    at : (o : Option PotentialList) → bound_to w.0 p.lists ≡ o → (o >>= λ l. Some (longer l)) ≡ Some q
        → LongerInto v w first p q
    at (Some l) found made = record {
      list = l;
      found = found;
      becomes = one-some (longer l) q made;
    }
    at None found made = absurd cc

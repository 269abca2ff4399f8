-- What is known where two types of equal shapes are added from which no amount is reached.
use Rattle.std.proofs.Common.{◌≡◌, ℕ, zero, suc, Bool, true, false, inl, inr, List, [], ◌∷◌, All, Contains, sym, subst}
use Rattle.std.proofs.lemmas.List.Elements.{All-push, Contains-push_cases}
use Rattle.nomos_ir.specs.declared.amount.Amount.{Amount}
use Rattle.nomos_ir.specs.declared.ids.TypeId.{TypeId}
use Rattle.nomos_ir.specs.declared.lists.ProgramLists.{ProgramLists}
use Rattle.nomos_ir.specs.declared.type_node.TypeNode.{TypeNode}
use Rattle.nomos_ir.specs.Unfold.{Unfolds}
use Rattle.nomos_types.specs.Amount.{Annotations}
use Rattle.nomos_types.specs.Equality.{Agree, EqualShapes, no_amounts}
use Rattle.nomos_types.specs.Unfolding.{IsUnfolding}
use Rattle.nomos_equality.specs.declared.hop.Hop.{Hop}
use Rattle.nomos_equality.specs.Answer.{StandOnce}
use Rattle.nomos_equality.specs.Comparing.{AreFree, Compared, HasCompared, IsFront, StaysCompared, FindsEqual}
use Rattle.nomos_equality.specs.Paths.{PathLeads, ends, hops, StandAtEqualPaths, PaysNowhere}
use Rattle.nomos_equality.specs.mirror.PairTables.{Puts}
use Rattle.nomos_equality.proofs.ComparedLaws.{front-same}
use Rattle.nomos_equality.proofs.PathLaws.{before-name, behind-name}
use Rattle.nomos_equality.proofs.VisitLemmas.{front-contains}

-- agreement of types is agreement of what stands behind their names
pub agree-before : (lists : ProgramLists) (x : Annotations) (n : ℕ) (a b u v : TypeId) → IsUnfolding lists a.0 u.0
    → IsUnfolding lists b.0 v.0 → Agree lists x n a b → Agree lists x n u v
agree-before lists x zero a b u v left right agree = tt
agree-before lists x (suc n) a b u v left right agree =
    record {
      left = agree.left;
      right = agree.right;
      left_unfolds = before-name lists a.0 u.0 agree.left left agree.left_unfolds;
      right_unfolds = before-name lists b.0 v.0 agree.right right agree.right_unfolds;
      same = agree.same;
    }

-- a path from the type behind a name, as one from the type
leads-before : (lists : ProgramLists) (path : List Hop) (a u c : TypeId) (n : TypeNode) → IsUnfolding lists a.0 u.0
    → PathLeads lists path u c → Unfolds lists c.0 n → (d : TypeId) × PathLeads lists path a d × Unfolds lists d.0 n
leads-before lists [] a u c n behind (ends _) unfolds = (a, ends a, behind-name lists a.0 u.0 n behind unfolds)
leads-before lists (h ∷ path) a u c n behind (hops _ _ _ s _ m first part rest) unfolds =
    (c, hops h path a s c m (behind-name lists a.0 u.0 m behind first) part rest, unfolds)

-- no amounts stand at equal paths from a type that pays nowhere
pub stands-nowhere : (lists : ProgramLists) (a b : TypeId) (q : Amount × Amount) {P : Type 0} → PaysNowhere lists a
    → StandAtEqualPaths lists a b q → P
stands-nowhere lists a b q nowhere stand =
    let place = stand.place in
    let none = nowhere place.path place.left_type place.left place.left_leads place.left_unfolds in
    let some = stand.left_pays in
    absurd cc

-- and what stands behind its name pays nowhere
pub nowhere-behind : (lists : ProgramLists) (a u : TypeId) → IsUnfolding lists a.0 u.0 → PaysNowhere lists a
    → PaysNowhere lists u
nowhere-behind lists a u behind nowhere =
    λ path c n leads unfolds.
    let d = leads-before lists path a u c n behind leads unfolds in
    nowhere path d.0 n d.1 d.2

module _ (lists : ProgramLists) (a b u v : TypeId) (left_is : IsUnfolding lists a.0 u.0)
    (right_is : IsUnfolding lists b.0 v.0) (shapes : EqualShapes lists a b) (nowhere : PaysNowhere lists a)
    (old new : Compared) (before : HasCompared lists old) (amounts : new.amounts ≡ old.amounts) where
  put-front : (added : Bool) → Puts old.types (u, v) new.types added → IsFront old.types new.types
  put-front true puts = record { more = (u, v) ∷ []; is = puts }
  put-front false puts = front-same old.types new.types puts.1

  put-equal : (added : Bool) → Puts old.types (u, v) new.types added
      → All (λ p. EqualShapes lists p.0 p.1) new.types
  put-equal true puts =
      subst (λ (l : List (TypeId × TypeId)). All (λ p. EqualShapes lists p.0 p.1) l) (sym puts)
      (All-push (λ (p : TypeId × TypeId). EqualShapes lists p.0 p.1) old.types (u, v) before.equal
      (λ n. agree-before lists no_amounts n a b u v left_is right_is (shapes n)))
  put-equal false puts =
      subst (λ (l : List (TypeId × TypeId)). All (λ p. EqualShapes lists p.0 p.1) l) (sym puts.1) before.equal

  -- the amounts at equal paths of a pair were noted before
  stand-noted : (added : Bool) → Puts old.types (u, v) new.types added → (p : TypeId × TypeId) (q : Amount × Amount)
      → Contains new.types p → StandAtEqualPaths lists p.0 p.1 q → Contains old.amounts q
  stand-noted true puts p q among stand =
      elim (Contains-push_cases old.types (u, v) p
      (subst (λ (l : List (TypeId × TypeId)). Contains l p) puts among)) [
        | inl h ↦ (before.amounts q).1 (p, h, stand)
        | inr h ↦
            stands-nowhere lists u v q (nowhere-behind lists a u left_is nowhere)
            (subst (λ (r : TypeId × TypeId). StandAtEqualPaths lists r.0 r.1 q) (sym h) stand)
      ]
  stand-noted false puts p q among stand =
      (before.amounts q).1 (p, subst (λ (l : List (TypeId × TypeId)). Contains l p) puts.1 among, stand)

  kept-note : (q : Amount × Amount) → Contains old.amounts q → Contains new.amounts q
  kept-note q among = subst (λ (l : List (Amount × Amount)). Contains l q) (sym amounts) among

  noted-before : (q : Amount × Amount) → Contains new.amounts q → Contains old.amounts q
  noted-before q among = subst (λ (l : List (Amount × Amount)). Contains l q) amounts among

  -- what is compared then
  pub joined-compared : new.free ≡ old.free → (added : Bool) → Puts old.types (u, v) new.types added
      → HasCompared lists new
  joined-compared free added puts =
      record {
        equal = put-equal added puts;
        amounts = λ q. (
          λ among.
              let k = (before.amounts q).0 (noted-before q among) in
              (k.0, front-contains old.types new.types k.0 (put-front added puts) k.1, k.2),
          λ there. kept-note q (stand-noted added puts there.0 q there.1 there.2),
        );
        once = subst StandOnce (sym amounts) before.once;
        free = subst (λ (l : List (TypeId × TypeId)). All (AreFree lists) l) (sym free) before.free;
      }

  -- what was compared stays
  pub joined-stays : (added : Bool) → Puts old.types (u, v) new.types added → StaysCompared old new
  joined-stays added puts =
      record { types = put-front added puts; amounts = front-same old.amounts new.amounts amounts }

  -- what is found
  pub joined-finds : FindsEqual lists a b old new
  joined-finds =
      record {
        shapes = shapes;
        amounts = λ q. (
          λ among. inl (noted-before q among),
          λ there. elim there [ inl h ↦ kept-note q h | inr h ↦ stands-nowhere lists a b q nowhere h ],
        );
      }

-- Types of equal shapes from which no amount is reached: they go in classes.
use Rattle.std.proofs.Common.{◌≡◌, ◌⊎◌, inl, inr, refl, ℕ, List, [], ◌∷◌, All, Bool, true, false, Option, Some, None, sym, subst, arith}
use Rattle.std.proofs.lemmas.List.Elements.{All-contains, All-push}
use Rattle.nomos_ir.specs.declared.ids.TypeId.{TypeId}
use Rattle.nomos_ir.specs.declared.lists.ProgramLists.{ProgramLists}
use Rattle.nomos_ir.specs.declared.type_node.TypeNode.{TypeNode}
use Rattle.nomos_ir.specs.Unfold.{Unfolds}
use Rattle.nomos_types.specs.Amount.{Annotations}
use Rattle.nomos_types.specs.Branches.{goes_by}
use Rattle.nomos_types.specs.Equality.{EqualShapes, SameHead, BothOrNeither, both, neither, one, plus, with, tensor, lolli, value_out, value_in, pot_out, pot_in, up, down, no_amounts}
use Rattle.nomos_types.specs.Unfolding.{IsUnfolding}
use Rattle.nomos_types.proofs.EqualityLaws.{equal-back, equal-through, equal-unfolded}
use Rattle.nomos_equality.specs.declared.hop.Hop.{Hop}
use Rattle.nomos_equality.specs.declared.hop.Hop.TheVariants as hop
use Rattle.nomos_equality.specs.declared.known.Known.{Known}
use Rattle.nomos_equality.specs.Comparing.{Compared, HasCompared, FindsEqual, AreFree}
use Rattle.nomos_equality.specs.Paths.{PathLeads, ends, hops, part_by, paid_by, PaysNowhere}
use Rattle.nomos_equality.specs.mirror.Known.{compared_by, compared_beside}
use Rattle.nomos_equality.specs.mirror.Linking.{Linked, same, along, back, through, Joins, AreTwoLinked}
use Rattle.nomos_equality.specs.mirror.Search.{IsMet}
use Rattle.nomos_equality.proofs.JoinLemmas.{agree-before, stands-nowhere, nowhere-behind}
use Rattle.nomos_equality.proofs.PathLaws.{agree-behind, stand-from_behind}

-- ---- no amount is reached from a type of the same shape

-- of two that are both there, the other is there
beside-some : {R : TypeId → TypeId → Type 0} (o p : Option TypeId) (c : TypeId) → BothOrNeither R o p → o ≡ Some c
    → (d : TypeId) × (p ≡ Some d) × R c d
beside-some {R = R} _ _ c (both a b related) found =
    let is : a ≡ c = cc in (b, refl, subst (λ (t : TypeId). R t b) is related)
beside-some _ _ c neither found = absurd cc

-- the part of one node, and that of another, where they are known
beside-part : (R : TypeId → TypeId → Type 0) (a b c : TypeId) (o : Option TypeId) → R a b → Some a ≡ Some c
    → o ≡ Some b → (d : TypeId) × (o ≡ Some d) × R c d
beside-part R a b c o related found other =
    let is : a ≡ c = cc in (b, other, subst (λ (t : TypeId). R t b) is related)

-- a part of a node stands beside a part of a node of the same head
part-beside : {x : Annotations} {R : TypeId → TypeId → Type 0} (p q : TypeNode) (h : Hop) (c : TypeId)
    → SameHead x R p q → part_by p h ≡ Some c → (d : TypeId) × (part_by q h ≡ Some d) × R c d
part-beside p q (hop.Label l) c (plus bs cs alike) found = beside-some (goes_by bs l) (goes_by cs l) c (alike l) found
part-beside p q (hop.Label l) c (with bs cs alike) found = beside-some (goes_by bs l) (goes_by cs l) c (alike l) found
part-beside {R = R} p q hop.Carried c (tensor a _ b _ h _) found = beside-part R a b c (Some b) h found refl
part-beside {R = R} p q hop.Carried c (lolli a _ b _ h _) found = beside-part R a b c (Some b) h found refl
part-beside {R = R} p q hop.Next c (tensor _ a _ b _ h) found = beside-part R a b c (Some b) h found refl
part-beside {R = R} p q hop.Next c (lolli _ a _ b _ h) found = beside-part R a b c (Some b) h found refl
part-beside {R = R} p q hop.Next c (value_out _ a b h) found = beside-part R a b c (Some b) h found refl
part-beside {R = R} p q hop.Next c (value_in _ a b h) found = beside-part R a b c (Some b) h found refl
part-beside {R = R} p q hop.Next c (pot_out _ _ a b _ h) found = beside-part R a b c (Some b) h found refl
part-beside {R = R} p q hop.Next c (pot_in _ _ a b _ h) found = beside-part R a b c (Some b) h found refl
part-beside {R = R} p q hop.Next c (up a b h) found = beside-part R a b c (Some b) h found refl
part-beside {R = R} p q hop.Next c (down a b h) found = beside-part R a b c (Some b) h found refl
part-beside p q h c alike found = absurd cc

-- beside a node that pays nothing stands one that pays nothing
none-beside : {x : Annotations} {R : TypeId → TypeId → Type 0} (p q : TypeNode) → SameHead x R p q
    → paid_by q ≡ None → paid_by p ≡ None
none-beside p q (pot_out _ _ _ _ _ _) none = absurd cc
none-beside p q (pot_in _ _ _ _ _ _) none = absurd cc
none-beside p q one none = refl
none-beside p q (plus _ _ _) none = refl
none-beside p q (with _ _ _) none = refl
none-beside p q (tensor _ _ _ _ _ _) none = refl
none-beside p q (lolli _ _ _ _ _ _) none = refl
none-beside p q (value_out _ _ _ _) none = refl
none-beside p q (value_in _ _ _ _) none = refl
none-beside p q (up _ _ _) none = refl
none-beside p q (down _ _ _) none = refl

-- at the end of each path stands one that pays nothing, since it does so at the end of the same path of the other type
none-along : (lists : ProgramLists) (path : List Hop) (a b d : TypeId) (m : TypeNode) → EqualShapes lists b a
    → PaysNowhere lists a → PathLeads lists path b d → Unfolds lists d.0 m → paid_by m ≡ None
none-along lists [] a b _ m shapes nowhere (ends _) unfolds =
    let u = equal-unfolded lists no_amounts b a m shapes unfolds in
    none-beside m u.0 u.2 (nowhere [] a u.0 (ends a) u.1)
none-along lists (h ∷ path) a b d m shapes nowhere (hops _ _ _ t _ n first part rest) unfolds =
    let u = equal-unfolded lists no_amounts b a n shapes first in
    let other = part-beside n u.0 h t u.2 part in
    none-along lists path other.0 t d m other.2
    (λ more s k leads last. nowhere (h ∷ more) s k (hops h more a other.0 s u.0 u.1 other.1 leads) last) rest unfolds

-- where no amount is reached from a type, none is from one of the same shape
nowhere-beside : (lists : ProgramLists) (a b : TypeId) → EqualShapes lists a b → PaysNowhere lists a
    → PaysNowhere lists b
nowhere-beside lists a b shapes nowhere =
    λ path d m leads unfolds.
    none-along lists path a b d m (equal-back lists no_amounts a b shapes) nowhere leads unfolds

-- ---- classes

-- linked types are the same, or have equal shapes and reach no amount
linked-free : (lists : ProgramLists) (pairs : List (TypeId × TypeId)) → All (AreFree lists) pairs → (s t : ℕ)
    → Linked pairs s t → (s ≡ t) ⊎ AreFree lists (record { 0 = s }, record { 0 = t })
linked-free lists pairs free s t (same _) = inl refl
linked-free lists pairs free s t (along p among) = inr (All-contains (AreFree lists) pairs p free among)
linked-free lists pairs free s t (back u v linked) =
    elim (linked-free lists pairs free u v linked) [
      | inl h ↦ inl (sym h)
      | inr h ↦
          inr (
            equal-back lists no_amounts (record { 0 = u }) (record { 0 = v }) h.0,
            nowhere-beside lists (record { 0 = u }) (record { 0 = v }) h.0 h.1,
          )
    ]
linked-free lists pairs free s t (through u v w first second) =
    elim (linked-free lists pairs free u v first) [
      | inl h ↦
          subst (λ (k : ℕ). (k ≡ w) ⊎ AreFree lists (record { 0 = k }, record { 0 = w })) (sym h)
          (linked-free lists pairs free v w second)
      | inr h ↦
          elim (linked-free lists pairs free v w second) [
            | inl k ↦ inr (subst (λ (j : ℕ). AreFree lists (record { 0 = u }, record { 0 = j })) k h)
            | inr k ↦
                inr (
                  equal-through lists no_amounts (record { 0 = u }) (record { 0 = v }) (record { 0 = w }) h.0 k.0,
                  h.1,
                )
          ]
    ]

-- two types of one class, behind their names, were known to be equal
pub two-find : (lists : ProgramLists) (a b : TypeId) (k new : Compared) → HasCompared lists k → new ≡ k
    → IsMet lists (AreTwoLinked k.free) a b → FindsEqual lists a b k new
two-find lists a b k new before stays met =
    let free : AreFree lists (met.left, met.right) =
    elim (linked-free lists k.free before.free met.left.0 met.right.0 met.among.0) [
      | inl h ↦ absurd (met.among.1 h)
      | inr h ↦ h
    ]
    in
    subst (λ (w : Compared). FindsEqual lists a b k w) (sym stays) (record {
      shapes = λ n. agree-behind lists no_amounts n a b met.left met.right met.left_is met.right_is (free.0 n);
      amounts = λ q. (
        λ there. inl there,
        λ there.
            elim there [
              | inl h ↦ h
              | inr h ↦
                  stands-nowhere lists met.left met.right q free.1
                  (stand-from_behind lists a b met.left met.right q met.left_is met.right_is h)
            ],
      );
    })

-- what is free stays so where two types are joined
pub free-joined : (lists : ProgramLists) (a b u v : TypeId) (old new : List (TypeId × TypeId)) (joined : Bool)
    → IsUnfolding lists a.0 u.0 → IsUnfolding lists b.0 v.0 → EqualShapes lists a b → PaysNowhere lists a
    → All (AreFree lists) old → Joins old (u, v) new joined → All (AreFree lists) new
free-joined lists a b u v old new true left_is right_is shapes nowhere free joins =
    subst (λ (l : List (TypeId × TypeId)). All (AreFree lists) l) (sym joins)
    (All-push (AreFree lists) old (u, v) free (
      λ n. agree-before lists no_amounts n a b u v left_is right_is (shapes n),
      nowhere-behind lists a u left_is nowhere,
    ))
free-joined lists a b u v old new false left_is right_is shapes nowhere free joins =
    subst (λ (l : List (TypeId × TypeId)). All (AreFree lists) l) (sym joins.1) free

-- ---- what is known, beside what is free

-- what is known by itself
pub compared-alone : (lists : ProgramLists) (k : Known) (free : List (TypeId × TypeId))
    → HasCompared lists (compared_beside k free) → HasCompared lists (compared_by k)
compared-alone lists k free before =
    record {
      equal = before.equal;
      amounts = before.amounts;
      once = before.once;
      free = λ i d inside. absurd (omega (arith, inside));
    }

-- what is known beside pairs that are free
pub compared-both : (lists : ProgramLists) (k : Known) (free : List (TypeId × TypeId))
    → HasCompared lists (compared_by k) → All (AreFree lists) free → HasCompared lists (compared_beside k free)
compared-both lists k free alone all =
    record { equal = alone.equal; amounts = alone.amounts; once = alone.once; free = all }

pub finds-both : (lists : ProgramLists) (a b : TypeId) (old new : Known) (first second : List (TypeId × TypeId))
    → FindsEqual lists a b (compared_by old) (compared_by new)
    → FindsEqual lists a b (compared_beside old first) (compared_beside new second)
finds-both lists a b old new first second finds = record { shapes = finds.shapes; amounts = finds.amounts }

-- What is known of two types where all that follows from them is gathered.
use Rattle.std.proofs.Common.{◌≡◌, inl, inr, ℕ, zero, suc, List, [], ◌∷◌, Contains, Some, sym, subst, ◌∙◌, arith}
use Rattle.std.proofs.lemmas.List.Elements.{All-contains, All-weaker, All-contains_itself, Contains-append_left}
use Rattle.nomos_ir.specs.declared.amount.Amount.{Amount}
use Rattle.nomos_ir.specs.declared.ids.TypeId.{TypeId}
use Rattle.nomos_ir.specs.declared.lists.ProgramLists.{ProgramLists}
use Rattle.nomos_ir.specs.declared.type_node.TypeNode.{TypeNode}
use Rattle.nomos_ir.specs.Unfold.{Unfolds, constructor}
use Rattle.nomos_ir.proofs.UnfoldLaws.{constructor-node}
use Rattle.nomos_types.proofs.EqualityLaws.{no_dths}
use Rattle.nomos_types.specs.Equality.{Agree, EqualShapes, no_amounts}
use Rattle.nomos_equality.specs.declared.hop.Hop.{Hop}
use Rattle.nomos_equality.specs.declared.known.Known.{Known}
use Rattle.nomos_equality.specs.Answer.{EqualWith}
use Rattle.nomos_equality.specs.Comparing.{Compared, nothing_compared, HasCompared, FindsEqual}
use Rattle.nomos_equality.specs.Paths.{PathLeads, ends, hops, paid_by, StandAtEqualPaths}
use Rattle.nomos_equality.specs.mirror.Search.{IsMet, IsAt, HasNodes, HasForm}
use Rattle.nomos_equality.specs.mirror.Known.{compared_by, Among, visit_at, IsSpread, HasGathered}
use Rattle.nomos_equality.proofs.HeadLaws.{form-head}
use Rattle.nomos_equality.proofs.PathLaws.{agree-behind, leads-behind, stand-here, stand-from_behind}

module _ (lists : ProgramLists) (a b : TypeId) (old s : Known) (before : HasCompared lists (compared_by old))
    (gathered : HasGathered lists a b old s) where
  -- a pair whose parts agree to a depth agrees to one more
  spread-agrees : (n : ℕ) (u v : TypeId) → HasNodes lists (visit_at u v) → HasForm lists (visit_at u v)
      → IsSpread lists u v s.pairs s.amounts → ((c d : TypeId) → Contains s.pairs (c, d) → Agree lists no_amounts n c d)
      → Agree lists no_amounts (suc n) u v
  spread-agrees n u v nodes form spread agrees =
      record {
        left = nodes.left;
        right = nodes.right;
        left_unfolds = constructor u.0 nodes.left nodes.at.left_there nodes.left_constructs;
        right_unfolds = constructor v.0 nodes.right nodes.at.right_there nodes.right_constructs;
        same = form-head nodes.left nodes.right (form nodes.left nodes.right nodes.at)
            (λ h c d left_part right_part.
            let met = spread.parts h nodes.left nodes.right c d nodes.at left_part right_part in
            agree-behind lists no_amounts n c d met.left met.right met.left_is met.right_is
            (agrees met.left met.right met.among))
            (λ q r left_pays right_pays. no_dths q ∙ sym (no_dths r));
      }

  -- a pair agrees to each depth
  pair-agrees : (n : ℕ) (u v : TypeId) → Contains s.pairs (u, v) → Agree lists no_amounts n u v
  pair-agrees zero u v among = tt
  pair-agrees (suc n) u v among =
      elim (gathered.pairs u v among) [
        | inl h ↦ All-contains (λ (p : TypeId × TypeId). EqualShapes lists p.0 p.1) old.pairs (u, v) before.equal h
            (suc n)
        | inr h ↦ spread-agrees n u v h.0 h.1 h.2 (λ c d there. pair-agrees n c d there)
      ]

  -- types that are met have equal shapes
  met-equal : (c d : TypeId) → IsMet lists (Among s.pairs) c d → EqualShapes lists c d
  met-equal c d met =
      λ n. agree-behind lists no_amounts n c d met.left met.right met.left_is met.right_is
      (pair-agrees n met.left met.right met.among)

  old-noted : (p : Amount × Amount) → Contains old.amounts p → Contains s.amounts p
  old-noted p among =
      subst (λ (l : List (Amount × Amount)). Contains l p) (sym gathered.amounts_front.is)
      (Contains-append_left old.amounts gathered.amounts_front.more p among)

  old-pair : (p : TypeId × TypeId) → Contains old.pairs p → Contains s.pairs p
  old-pair p among =
      subst (λ (l : List (TypeId × TypeId)). Contains l p) (sym gathered.pairs_front.is)
      (Contains-append_left old.pairs gathered.pairs_front.more p among)

  -- the amounts at the end of a path from an old pair are noted
  old-stands : (u v : TypeId) (p : Amount × Amount) → Contains old.pairs (u, v) → StandAtEqualPaths lists u v p
      → Contains s.amounts p
  old-stands u v p among stand = old-noted p ((before.amounts p).1 ((u, v), among, stand))

  -- the nodes of a pair, by what its types unfold to
  nodes-at : (u v : TypeId) (left right : TypeNode) → HasNodes lists (visit_at u v) → Unfolds lists u.0 left
      → Unfolds lists v.0 right → IsAt lists (visit_at u v) left right
  nodes-at u v left right nodes left_unfolds right_unfolds =
      record {
        left_there = constructor-node lists u.0 nodes.left left nodes.at.left_there nodes.left_constructs left_unfolds;
        right_there = constructor-node lists v.0 nodes.right right nodes.at.right_there nodes.right_constructs
            right_unfolds;
      }

  -- the amounts at the end of a path from a pair are noted
  pair-stands : (path : List Hop) (u v c d : TypeId) (left right : TypeNode) (p : Amount × Amount)
      → Contains s.pairs (u, v) → PathLeads lists path u c → PathLeads lists path v d → Unfolds lists c.0 left
      → Unfolds lists d.0 right → paid_by left ≡ Some p.0 → paid_by right ≡ Some p.1 → Contains s.amounts p
  pair-stands [] u v _ _ left right p among (ends _) (ends _) left_unfolds right_unfolds left_pays right_pays =
      elim (gathered.pairs u v among) [
        | inl h ↦ old-stands u v p h (stand-here lists u v left right p left_unfolds right_unfolds left_pays right_pays)
        | inr h ↦
            h.2.paid left right p.0 p.1 (nodes-at u v left right h.0 left_unfolds right_unfolds) left_pays right_pays
      ]
  pair-stands (h ∷ path) u v c d left right p among (hops _ _ _ e _ n first part rest)
      (hops _ _ _ f _ m first2 part2 rest2) left_unfolds right_unfolds left_pays right_pays =
      elim (gathered.pairs u v among) [
        | inl k ↦ old-stands u v p k (record {
          place = record {
            path = h ∷ path;
            left_type = c;
            right_type = d;
            left_leads = hops h path u e c n first part rest;
            right_leads = hops h path v f d m first2 part2 rest2;
            left = left;
            right = right;
            left_unfolds = left_unfolds;
            right_unfolds = right_unfolds;
          };
          left_pays = left_pays;
          right_pays = right_pays;
        })
        | inr k ↦
            let at = nodes-at u v n m k.0 first first2 in
            let met = k.2.parts h n m e f at part part2 in
            let l = leads-behind lists path e met.left c left met.left_is rest left_unfolds in
            let r = leads-behind lists path f met.right d right met.right_is rest2 right_unfolds in
            pair-stands path met.left met.right l.0 r.0 left right p met.among l.1 r.1 l.2 r.2 left_pays right_pays
      ]

  -- the amounts at equal paths of a pair are noted
  stands-noted : (u v : TypeId) (p : Amount × Amount) → Contains s.pairs (u, v) → StandAtEqualPaths lists u v p
      → Contains s.amounts p
  stands-noted u v p among stand =
      let place = stand.place in
      pair-stands place.path u v place.left_type place.right_type place.left place.right p among place.left_leads
      place.right_leads place.left_unfolds place.right_unfolds stand.left_pays stand.right_pays

  -- the amounts at equal paths of the two types are noted
  asked-noted : (p : Amount × Amount) → StandAtEqualPaths lists a b p → Contains s.amounts p
  asked-noted p stand =
      let met = gathered.met in
      stands-noted met.left met.right p met.among
      (stand-from_behind lists a b met.left met.right p met.left_is met.right_is stand)

  -- what is found
  pub gathered-finds : FindsEqual lists a b (compared_by old) (compared_by s)
  gathered-finds =
      record {
        shapes = met-equal a b gathered.met;
        amounts = λ p. (gathered.amounts p, λ there. elim there [ inl h ↦ old-noted p h | inr h ↦ asked-noted p h ]);
      }

  -- where the amounts stand
  noted-somewhere : (p : Amount × Amount) → Contains s.amounts p
      → (q : TypeId × TypeId) × Contains s.pairs q × StandAtEqualPaths lists q.0 q.1 p
  noted-somewhere p among =
      let met = gathered.met in
      elim (gathered.amounts p among) [
        | inl h ↦ let k = (before.amounts p).0 h in (k.0, old-pair k.0 k.1, k.2)
        | inr h ↦ (
          (met.left, met.right),
          met.among,
          stand-from_behind lists a b met.left met.right p met.left_is met.right_is h,
        )
      ]

  -- what is compared then
  pub gathered-compared : HasCompared lists (compared_by s)
  gathered-compared =
      record {
        equal = All-weaker (Contains s.pairs) (λ (p : TypeId × TypeId). EqualShapes lists p.0 p.1)
            (λ p among. λ n. pair-agrees n p.0 p.1 among) s.pairs (All-contains_itself s.pairs);
        amounts = λ p. (noted-somewhere p, λ there. stands-noted there.0.0 there.0.1 p there.1 there.2);
        once = gathered.once before.once;
        free = before.free;
      }

-- types that are known to be equal already
pub met-finds : (lists : ProgramLists) (a b : TypeId) (k : Compared) → HasCompared lists k
    → IsMet lists (Among k.types) a b → FindsEqual lists a b k k
met-finds lists a b k before met =
    let shapes : EqualShapes lists met.left met.right =
    All-contains (λ (p : TypeId × TypeId). EqualShapes lists p.0 p.1) k.types (met.left, met.right) before.equal
    met.among
    in
    record {
      shapes = λ n. agree-behind lists no_amounts n a b met.left met.right met.left_is met.right_is (shapes n);
      amounts = λ q. (
        λ there. inl there,
        λ there.
            elim there [
              | inl h ↦ h
              | inr h ↦
                  (before.amounts q).1 (
                    (met.left, met.right),
                    met.among,
                    stand-from_behind lists a b met.left met.right q met.left_is met.right_is h,
                  )
            ],
      );
    }

-- from nothing on, what is found is the answer
pub equal-answered : (lists : ProgramLists) (a b : TypeId) (new : Compared) → HasCompared lists new
    → FindsEqual lists a b nothing_compared new → EqualWith lists a b new.amounts
equal-answered lists a b new compared finds =
    record {
      shapes = finds.shapes;
      pairs = λ p. (
        λ among. elim ((finds.amounts p).0 among) [ inl h ↦ absurd (omega (arith, h.1)) | inr h ↦ h ],
        λ stand. (finds.amounts p).1 (inr stand),
      );
      once = compared.once;
    }

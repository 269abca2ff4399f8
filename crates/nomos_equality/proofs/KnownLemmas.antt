-- Lemmas of what is gathered of equal types.
use Rattle.std.proofs.Common.{◌≡◌, ◌≢◌, ◌⊎◌, inl, inr, List, [], ◌∷◌, ◌++◌, length, Contains, Bool, true, false, Some, refl, sym, ap, subst, ◌∙◌, arith, append_assoc}
use Rattle.std.proofs.lemmas.List.{append-nil}
use Rattle.std.proofs.lemmas.List.Elements.{Contains-append_left, Contains-append_right, Contains-append_cases, Contains-push, Contains-push_cases, Contains-get_or}
use Rattle.std.proofs.lemmas.List.Quantifiers.{all_pairs_push}
use Rattle.nomos_ir.specs.declared.amount.Amount.{Amount}
use Rattle.nomos_ir.specs.declared.ids.TypeId.{TypeId}
use Rattle.nomos_ir.specs.declared.lists.ProgramLists.{ProgramLists}
use Rattle.nomos_ir.specs.declared.type_node.TypeNode.{TypeNode}
use Rattle.nomos_types.specs.Equality.{EqualShapes}
use Rattle.nomos_types.specs.Unfolding.{IsUnfolding}
use Rattle.nomos_ir.specs.declared.ids.Label.{Label}
use Rattle.nomos_equality.specs.declared.hop.Hop.{Hop}
use Rattle.nomos_equality.specs.declared.hop.Hop.TheVariants as hop
use Rattle.nomos_equality.specs.declared.known.Known.{Known}
use Rattle.nomos_equality.specs.Answer.{StandOnce}
use Rattle.nomos_equality.specs.Comparing.{IsFront}
use Rattle.nomos_equality.specs.Paths.{AtEqualPaths, ends, part_by, paid_by, StandAtEqualPaths}
use Rattle.nomos_equality.specs.mirror.PairTables.{PutsOnce}
use Rattle.nomos_equality.specs.mirror.Search.{IsMet, IsAt, HasNodes, Follows, HasForm}
use Rattle.nomos_equality.specs.mirror.Known.{Among, visit_at, MeetsPair, IsPartOf, PaysAt, Spreads, NotesPaid, IsSpread, HasGathered}
use Rattle.nomos_equality.proofs.ComparedLaws.{front-same, front-through}
use Rattle.nomos_equality.proofs.PathLaws.{node-behind, place-form}
use Rattle.nomos_equality.proofs.VisitLemmas.{front-contains, met-wider, follows-wider, follows-known, Reached, leads-push}

-- no element is one of the empty list
pub none-there : {X : Type 0} {P : Type 0} (x : X) → Contains [] x → P
none-there x among = absurd (omega (arith, among.1))

pub no-length : {X : Type 0} (xs : List X) → length xs ≡ 0 → xs ≡ []
no-length [] none = refl
no-length (x ∷ xs) none = absurd (omega (arith, none))

-- ---- pairs stay

among-front : (xs ys : List (TypeId × TypeId)) → IsFront xs ys → (a b : TypeId) → Among xs a b → Among ys a b
among-front xs ys front a b among = front-contains xs ys (a, b) front among

-- ---- what a call adds

pub spreads-nothing : (lists : ProgramLists) (u v : TypeId) (s : Known) → Spreads lists u v s s
spreads-nothing lists u v s =
    record {
      more = [];
      pairs = sym (append-nil s.pairs);
      todo = sym (append-nil s.todo.items);
      parts = λ p among. none-there p among;
      noted = [];
      amounts = sym (append-nil s.amounts);
      paid = λ q among. none-there q among;
      once = λ h. h;
    }

append-twice : {X : Type 0} (xs ys zs made new : List X) → made ≡ xs ++ ys → new ≡ made ++ zs → new ≡ xs ++ (ys ++ zs)
append-twice xs ys zs made new first second =
    second ∙ ap (λ (l : List _). l ++ zs) first ∙ append_assoc xs ys zs

either-more : {X : Type 0} {P : X → Type 0} (xs ys : List X) → ((x : X) → Contains xs x → P x)
    → ((x : X) → Contains ys x → P x) → (x : X) → Contains (xs ++ ys) x → P x
either-more xs ys first second x among =
    elim (Contains-append_cases xs ys x among) [ inl h ↦ first x h | inr h ↦ second x h ]

pub spreads-through : (lists : ProgramLists) (u v : TypeId) (s t w : Known) → Spreads lists u v s t
    → Spreads lists u v t w → Spreads lists u v s w
spreads-through lists u v s t w first second =
    record {
      more = first.more ++ second.more;
      pairs = append-twice s.pairs first.more second.more t.pairs w.pairs first.pairs second.pairs;
      todo = append-twice s.todo.items first.more second.more t.todo.items w.todo.items first.todo second.todo;
      parts = either-more first.more second.more first.parts second.parts;
      noted = first.noted ++ second.noted;
      amounts = append-twice s.amounts first.noted second.noted t.amounts w.amounts first.amounts second.amounts;
      paid = either-more first.noted second.noted first.paid second.paid;
      once = λ h. second.once (first.once h);
    }

pub spreads-pairs : (lists : ProgramLists) (u v : TypeId) (s t : Known) → Spreads lists u v s t
    → IsFront s.pairs t.pairs
spreads-pairs lists u v s t spreads = record { more = spreads.more; is = spreads.pairs }

pub spreads-amounts : (lists : ProgramLists) (u v : TypeId) (s t : Known) → Spreads lists u v s t
    → IsFront s.amounts t.amounts
spreads-amounts lists u v s t spreads = record { more = spreads.noted; is = spreads.amounts }

-- what follows from parts stays met
pub follows-spread : (lists : ProgramLists) (u v : TypeId) (s t : Known) (a b : TypeId) (h : Hop)
    → Spreads lists u v s t → Follows lists (visit_at a b) h (Among s.pairs)
    → Follows lists (visit_at a b) h (Among t.pairs)
follows-spread lists u v s t a b h spreads follows =
    follows-wider lists (visit_at a b) h (Among s.pairs) (Among t.pairs)
    (among-front s.pairs t.pairs (spreads-pairs lists u v s t spreads)) follows

-- types that were met before
pub meets-known : (lists : ProgramLists) (s t : Known) (a b left right : TypeId) → IsUnfolding lists a.0 left.0
    → IsUnfolding lists b.0 right.0 → Contains s.pairs (left, right) → t.pairs ≡ s.pairs → t.todo.items ≡ s.todo.items
    → t.amounts ≡ s.amounts → MeetsPair lists s a b t
meets-known lists s t a b left right left_is right_is among pairs todo amounts =
    record {
      more = [];
      pairs = pairs ∙ sym (append-nil s.pairs);
      todo = todo ∙ sym (append-nil s.todo.items);
      amounts = amounts;
      each = λ p none. none-there p none;
      met =
          record {
            left = left;
            right = right;
            left_is = left_is;
            right_is = right_is;
            among = subst (λ (l : List (TypeId × TypeId)). Contains l (left, right)) (sym pairs) among;
          };
    }

-- types that are met for the first time
pub meets-fresh : (lists : ProgramLists) (s t : Known) (a b left right : TypeId) → IsUnfolding lists a.0 left.0
    → IsUnfolding lists b.0 right.0 → t.pairs ≡ s.pairs ++ (left, right) ∷ []
    → t.todo.items ≡ s.todo.items ++ (left, right) ∷ [] → t.amounts ≡ s.amounts → MeetsPair lists s a b t
meets-fresh lists s t a b left right left_is right_is pairs todo amounts =
    record {
      more = (left, right) ∷ [];
      pairs = pairs;
      todo = todo;
      amounts = amounts;
      each = λ p among.
          let same : (left, right) ≡ p =
          elim (Contains-push_cases [] (left, right) p among) [ inl h ↦ none-there p h | inr h ↦ h ]
          in
          subst (λ (q : TypeId × TypeId). IsUnfolding lists a.0 q.0.0 × IsUnfolding lists b.0 q.1.0) same
          (left_is, right_is);
      met =
          record {
            left = left;
            right = right;
            left_is = left_is;
            right_is = right_is;
            among = subst (λ (l : List (TypeId × TypeId)). Contains l (left, right)) (sym pairs)
                (Contains-push s.pairs (left, right));
          };
    }

-- the parts by one hop are met
pub meets-spread : (lists : ProgramLists) (u v : TypeId) (s t : Known) (h : Hop) (p q : TypeNode) (a b : TypeId)
    → IsAt lists (visit_at u v) p q → part_by p h ≡ Some a → part_by q h ≡ Some b → MeetsPair lists s a b t
    → Spreads lists u v s t × Follows lists (visit_at u v) h (Among t.pairs)
meets-spread lists u v s t h p q a b at left_part right_part meets = (
  record {
    more = meets.more;
    pairs = meets.pairs;
    todo = meets.todo;
    parts = λ r among.
        record {
          hop = h;
          left = p;
          right = q;
          at = at;
          a = a;
          b = b;
          left_part = left_part;
          right_part = right_part;
          left_is = (meets.each r among).0;
          right_is = (meets.each r among).1;
        };
    noted = [];
    amounts = meets.amounts ∙ sym (append-nil s.amounts);
    paid = λ r among. none-there r among;
    once = λ once. subst StandOnce (sym meets.amounts) once;
  },
  follows-known lists (visit_at u v) h (Among t.pairs) p q a b at left_part right_part meets.met,
)

-- ---- amounts are noted

once-push : (xs : List (Amount × Amount)) (p : Amount × Amount) → ¬ (Contains xs p) → StandOnce xs
    → StandOnce (xs ++ p ∷ [])
once-push xs p new once =
    all_pairs_push (λ q r. q ≢ r) xs p once
    (λ k d inside same. new (subst (λ (q : Amount × Amount). Contains xs q) same (Contains-get_or xs k d inside)))

paid-known : (lists : ProgramLists) (u v : TypeId) (amounts : List (Amount × Amount)) (p q : TypeNode) (m n : Amount)
    → IsAt lists (visit_at u v) p q → paid_by p ≡ Some m → paid_by q ≡ Some n → Contains amounts (m, n)
    → NotesPaid lists u v amounts
paid-known lists u v amounts p q m n at left_pays right_pays among =
    λ left right k l here left_is right_is.
    let l1 = at.left_there in
    let l2 = here.left_there in
    let r1 = at.right_there in
    let r2 = here.right_there in
    let left_same : p ≡ left = cc in
    let right_same : q ≡ right = cc in
    let first : paid_by left ≡ Some m = subst (λ (e : TypeNode). paid_by e ≡ Some m) left_same left_pays in
    let second : paid_by right ≡ Some n = subst (λ (e : TypeNode). paid_by e ≡ Some n) right_same right_pays in
    let k_same : m ≡ k = cc in
    let l_same : n ≡ l = cc in
    subst (λ (e : Amount). Contains amounts (k, e)) l_same
    (subst (λ (e : Amount). Contains amounts (e, n)) k_same among)

pub note-spread : (lists : ProgramLists) (u v : TypeId) (s t : Known) (p q : TypeNode) (m n : Amount) (added : Bool)
    → IsAt lists (visit_at u v) p q → paid_by p ≡ Some m → paid_by q ≡ Some n
    → PutsOnce s.amounts (m, n) t.amounts added → t.pairs ≡ s.pairs → t.todo.items ≡ s.todo.items
    → Spreads lists u v s t × NotesPaid lists u v t.amounts
note-spread lists u v s t p q m n true at left_pays right_pays puts pairs todo =
    let one : List (Amount × Amount) = (m, n) ∷ [] in (
      record {
        more = [];
        pairs = pairs ∙ sym (append-nil s.pairs);
        todo = todo ∙ sym (append-nil s.todo.items);
        parts = λ r among. none-there r among;
        noted = one;
        amounts = puts.1;
        paid = λ r among.
            let same : (m, n) ≡ r =
            elim (Contains-push_cases [] (m, n) r among) [ inl h ↦ none-there r h | inr h ↦ h ]
            in
            subst (λ (x : Amount × Amount). PaysAt lists u v x) same
            (record { left = p; right = q; at = at; left_pays = left_pays; right_pays = right_pays });
        once = λ once. subst StandOnce (sym puts.1) (once-push s.amounts (m, n) puts.0 once);
      },
      paid-known lists u v t.amounts p q m n at left_pays right_pays
          (subst (λ (l : List (Amount × Amount)). Contains l (m, n)) (sym puts.1) (Contains-push s.amounts (m, n))),
    )
note-spread lists u v s t p q m n false at left_pays right_pays puts pairs todo = (
  record {
    more = [];
    pairs = pairs ∙ sym (append-nil s.pairs);
    todo = todo ∙ sym (append-nil s.todo.items);
    parts = λ r among. none-there r among;
    noted = [];
    amounts = puts.1 ∙ sym (append-nil s.amounts);
    paid = λ r among. none-there r among;
    once = λ once. subst StandOnce (sym puts.1) once;
  },
  paid-known lists u v t.amounts p q m n at left_pays right_pays
      (subst (λ (l : List (Amount × Amount)). Contains l (m, n)) (sym puts.1) puts.0),
)

pub paid-front : (lists : ProgramLists) (u v : TypeId) (amounts more : List (Amount × Amount)) → IsFront amounts more
    → NotesPaid lists u v amounts → NotesPaid lists u v more
paid-front lists u v amounts more front paid =
    λ left right q r at left_pays right_pays.
    front-contains amounts more (q, r) front (paid left right q r at left_pays right_pays)

-- what is spread stays so
spread-front : (lists : ProgramLists) (u v : TypeId) (s t : Known) → IsFront s.pairs t.pairs
    → IsFront s.amounts t.amounts → IsSpread lists u v s.pairs s.amounts → IsSpread lists u v t.pairs t.amounts
spread-front lists u v s t pairs amounts spread =
    record {
      parts = λ h. follows-wider lists (visit_at u v) h (Among s.pairs) (Among t.pairs)
          (among-front s.pairs t.pairs pairs) (spread.parts h);
      paid = paid-front lists u v s.amounts t.amounts amounts spread.paid;
    }

-- ---- at each moment

-- the pair stands at equal paths of two types, behind names
abbrev pub IsReached : ProgramLists → TypeId → TypeId → TypeId × TypeId → Type 0
IsReached lists a b p = (path : List Hop) × Reached lists a b path (visit_at p.0 p.1)

-- what holds while pairs are gathered
pub record IsGathering (lists : ProgramLists) (a b : TypeId) (old s : Known) : Type 0 where
  pub met : IsMet lists (Among s.pairs) a b
  pub pairs : (p : TypeId × TypeId) → Contains s.pairs p → Contains old.pairs p ⊎
      (IsReached lists a b p × (Contains s.todo.items p ⊎ IsSpread lists p.0 p.1 s.pairs s.amounts))
  pub todo : (p : TypeId × TypeId) → Contains s.todo.items p → IsReached lists a b p
  pub amounts : (q : Amount × Amount) → Contains s.amounts q → Contains old.amounts q ⊎ StandAtEqualPaths lists a b q
  pub once : StandOnce old.amounts → StandOnce s.amounts
  pub pairs_front : IsFront old.pairs s.pairs
  pub amounts_front : IsFront old.amounts s.amounts

-- the two types themselves
reached-first : (lists : ProgramLists) (a b : TypeId) (p : TypeId × TypeId) → IsUnfolding lists a.0 p.0.0
    → IsUnfolding lists b.0 p.1.0 → IsReached lists a b p
reached-first lists a b p left right = (
  [],
  record {
    left_type = a;
    right_type = b;
    left_leads = ends a;
    right_leads = ends b;
    left_is = left;
    right_is =
        right;
  },
)

-- parts of what is reached are reached
reached-part : (lists : ProgramLists) (a b u v : TypeId) (p : TypeId × TypeId) → IsReached lists a b (u, v)
    → IsPartOf lists u v p → IsReached lists a b p
reached-part lists a b u v p reached part =
    let path = reached.0 in
    let r = reached.1 in (
      path ++ part.hop ∷ [],
      record {
        left_type = part.a;
        right_type = part.b;
        left_leads =
            leads-push lists path a r.left_type part.a part.left part.hop r.left_leads
            (node-behind lists r.left_type.0 u.0 part.left r.left_is part.at.left_there) part.left_part;
        right_leads =
            leads-push lists path b r.right_type part.b part.right part.hop r.right_leads
            (node-behind lists r.right_type.0 v.0 part.right r.right_is part.at.right_there) part.right_part;
        left_is = part.left_is;
        right_is = part.right_is;
      },
    )

-- the nodes of a pair that is reached stand at equal paths
abbrev reached-place : (lists : ProgramLists) (a b u v : TypeId) (left right : TypeNode) → IsReached lists a b (u, v)
    → IsAt lists (visit_at u v) left right → AtEqualPaths lists a b
reached-place lists a b u v left right reached at =
    let r = reached.1 in
    record {
      path = reached.0;
      left_type = r.left_type;
      right_type = r.right_type;
      left_leads = r.left_leads;
      right_leads = r.right_leads;
      left = left;
      right = right;
      left_unfolds = node-behind lists r.left_type.0 u.0 left r.left_is at.left_there;
      right_unfolds = node-behind lists r.right_type.0 v.0 right r.right_is at.right_there;
    }

-- amounts of a pair that is reached stand at equal paths
pays-stand : (lists : ProgramLists) (a b u v : TypeId) (q : Amount × Amount) → IsReached lists a b (u, v)
    → PaysAt lists u v q → StandAtEqualPaths lists a b q
pays-stand lists a b u v q reached pays =
    record {
      place = reached-place lists a b u v pays.left pays.right reached pays.at;
      left_pays = pays.left_pays;
      right_pays = pays.right_pays;
    }

-- the nodes of a pair that is reached
pub reached-nodes : (lists : ProgramLists) (a b : TypeId) (p : TypeId × TypeId) → IsReached lists a b p
    → HasNodes lists (visit_at p.0 p.1)
reached-nodes lists a b p reached =
    let r = reached.1 in
    record {
      left = r.left_is.node;
      right = r.right_is.node;
      at = record { left_there = r.left_is.there; right_there = r.right_is.there };
      left_constructs = r.left_is.no_name;
      right_constructs = r.right_is.no_name;
    }

-- where the first two types are met
pub gathering-begins : (lists : ProgramLists) (a b : TypeId) (old s : Known) → old.todo.items ≡ []
    → MeetsPair lists old a b s → IsGathering lists a b old s
gathering-begins lists a b old s empty meets =
    let first : (p : TypeId × TypeId) → Contains meets.more p → IsReached lists a b p =
    λ p among. reached-first lists a b p (meets.each p among).0 (meets.each p among).1
    in
    let left : s.todo.items ≡ meets.more = meets.todo ∙ ap (λ (l : List (TypeId × TypeId)). l ++ meets.more) empty in
    record {
      met = meets.met;
      pairs = λ p among.
          elim (Contains-append_cases old.pairs meets.more p
          (subst (λ (l : List (TypeId × TypeId)). Contains l p) meets.pairs among)) [
            | inl h ↦ inl h
            | inr h ↦
                inr (first p h, inl (subst (λ (l : List (TypeId × TypeId)). Contains l p) (sym left) h))
          ];
      todo = λ p among. first p (subst (λ (l : List (TypeId × TypeId)). Contains l p) left among);
      amounts = λ q among. inl (subst (λ (l : List (Amount × Amount)). Contains l q) meets.amounts among);
      once = λ once. subst StandOnce (sym meets.amounts) once;
      pairs_front = record { more = meets.more; is = meets.pairs };
      amounts_front = front-same old.amounts s.amounts meets.amounts;
    }

-- one pair is taken from those that are left, and spread
module _ (lists : ProgramLists) (a b : TypeId) (old s mid : Known) (u v : TypeId)
    (before : IsGathering lists a b old s) (taken : s.todo.items ≡ mid.todo.items ++ (u, v) ∷ []) where
  taken-reached : IsReached lists a b (u, v)
  taken-reached =
      before.todo (u, v)
      (subst (λ (l : List (TypeId × TypeId)). Contains l (u, v)) (sym taken) (Contains-push mid.todo.items (u, v)))

  pub taken-nodes : HasNodes lists (visit_at u v)
  taken-nodes = reached-nodes lists a b (u, v) taken-reached

  module _ (t : Known) (same_pairs : mid.pairs ≡ s.pairs) (same_amounts : mid.amounts ≡ s.amounts)
      (spreads : Spreads lists u v mid t) (spread : IsSpread lists u v t.pairs t.amounts) where
    abbrev pairs_on : IsFront s.pairs t.pairs
    pairs_on =
        record {
          more = spreads.more;
          is = spreads.pairs ∙ ap (λ (l : List (TypeId × TypeId)). l ++ spreads.more) same_pairs;
        }

    abbrev amounts_on : IsFront s.amounts t.amounts
    amounts_on =
        record {
          more = spreads.noted;
          is = spreads.amounts ∙ ap (λ (l : List (Amount × Amount)). l ++ spreads.noted) same_amounts;
        }

    -- what is left to do
    later : (p : TypeId × TypeId) → Contains mid.todo.items p → Contains t.todo.items p
    later p among =
        subst (λ (l : List (TypeId × TypeId)). Contains l p) (sym spreads.todo)
        (Contains-append_left mid.todo.items spreads.more p among)

    newer : (p : TypeId × TypeId) → Contains spreads.more p → Contains t.todo.items p
    newer p among =
        subst (λ (l : List (TypeId × TypeId)). Contains l p) (sym spreads.todo)
        (Contains-append_right mid.todo.items spreads.more p among)

    more-reached : (p : TypeId × TypeId) → Contains spreads.more p → IsReached lists a b p
    more-reached p among = reached-part lists a b u v p taken-reached (spreads.parts p among)

    -- a pair that was left is left still, or is the one that was taken
    left-on : (p : TypeId × TypeId) → Contains s.todo.items p
        → Contains t.todo.items p ⊎ IsSpread lists p.0 p.1 t.pairs t.amounts
    left-on p among =
        elim (Contains-push_cases mid.todo.items (u, v) p
        (subst (λ (l : List (TypeId × TypeId)). Contains l p) taken among)) [
          | inl h ↦ inl (later p h)
          | inr h ↦
              inr (subst (λ (q : TypeId × TypeId). IsSpread lists q.0 q.1 t.pairs t.amounts) h spread)
        ]

    -- a pair that was there
    pair-on : (p : TypeId × TypeId) → Contains s.pairs p → Contains old.pairs p ⊎
        (IsReached lists a b p × (Contains t.todo.items p ⊎ IsSpread lists p.0 p.1 t.pairs t.amounts))
    pair-on p among =
        elim (before.pairs p among) [
          | inl h ↦ inl h
          | inr h ↦
              inr (
                h.0,
                elim h.1 [
                  | inl k ↦ left-on p k
                  | inr k ↦ inr (spread-front lists p.0 p.1 s t pairs_on amounts_on k)
                ],
              )
        ]

    pub gathering-goes : IsGathering lists a b old t
    gathering-goes =
        record {
          met = met-wider lists (Among s.pairs) (Among t.pairs) a b (among-front s.pairs t.pairs pairs_on) before.met;
          pairs = λ p among.
              elim (Contains-append_cases s.pairs spreads.more p
              (subst (λ (l : List (TypeId × TypeId)). Contains l p) pairs_on.is among)) [
                | inl h ↦ pair-on p h
                | inr h ↦ inr (more-reached p h, inl (newer p h))
              ];
          todo = λ p among.
              elim (Contains-append_cases mid.todo.items spreads.more p
              (subst (λ (l : List (TypeId × TypeId)). Contains l p) spreads.todo among)) [
                | inl h ↦
                    before.todo p
                    (subst (λ (l : List (TypeId × TypeId)). Contains l p) (sym taken)
                    (Contains-append_left mid.todo.items ((u, v) ∷ []) p h))
                | inr h ↦ more-reached p h
              ];
          amounts = λ q among.
              elim (Contains-append_cases s.amounts spreads.noted q
              (subst (λ (l : List (Amount × Amount)). Contains l q) amounts_on.is among)) [
                | inl h ↦ before.amounts q h
                | inr h ↦ inr (pays-stand lists a b u v q taken-reached (spreads.paid q h))
              ];
          once = λ once. spreads.once (subst StandOnce (sym same_amounts) (before.once once));
          pairs_front = front-through before.pairs_front pairs_on;
          amounts_front = front-through before.amounts_front amounts_on;
        }

-- the forms of a pair that is reached from types of equal shapes
reached-form : (lists : ProgramLists) (a b u v : TypeId) → EqualShapes lists a b → IsReached lists a b (u, v)
    → HasForm lists (visit_at u v)
reached-form lists a b u v shapes reached left right at =
    place-form lists a b (reached-place lists a b u v left right reached at) shapes

-- where no pair is left
pub gathering-ends : (lists : ProgramLists) (a b : TypeId) (old s : Known) → EqualShapes lists a b
    → IsGathering lists a b old s → s.todo.items ≡ [] → HasGathered lists a b old s
gathering-ends lists a b old s shapes at empty =
    record {
      met = at.met;
      pairs = λ u v among.
          elim (at.pairs (u, v) among) [
            | inl h ↦ inl h
            | inr h ↦
                inr (
                  reached-nodes lists a b (u, v) h.0,
                  reached-form lists a b u v shapes h.0,
                  elim h.1 [
                    | inl k ↦ none-there (u, v) (subst (λ (l : List (TypeId × TypeId)). Contains l (u, v)) empty k)
                    | inr k ↦ k
                  ],
                )
          ];
      amounts = at.amounts;
      once = at.once;
      pairs_front = at.pairs_front;
      amounts_front = at.amounts_front;
    }

-- all that is done with two types
pub spread-all : (lists : ProgramLists) (u v : TypeId) (s t w x y : Known) → Spreads lists u v s t
    → NotesPaid lists u v t.amounts → Spreads lists u v t w → Follows lists (visit_at u v) hop.Carried (Among w.pairs)
    → Spreads lists u v w x → Follows lists (visit_at u v) hop.Next (Among x.pairs) → Spreads lists u v x y
    → ((l : Label) → Follows lists (visit_at u v) (hop.Label l) (Among y.pairs))
    → Spreads lists u v s y × IsSpread lists u v y.pairs y.amounts
spread-all lists u v s t w x y first paid second carried third next last labels =
    let tail : Spreads lists u v w y = spreads-through lists u v w x y third last in
    let rest : Spreads lists u v t y = spreads-through lists u v t w y second tail in (
      spreads-through lists u v s t y first rest,
      record {
        parts = λ h. by h;
        paid = paid-front lists u v t.amounts y.amounts (spreads-amounts lists u v t y rest) paid;
      },
    )
  where
    by : (h : Hop) → Follows lists (visit_at u v) h (Among y.pairs)
    by (hop.Label l) = labels l
    by hop.Next = follows-spread lists u v x y u v hop.Next last next
    by hop.Carried =
        follows-spread lists u v w y u v hop.Carried (spreads-through lists u v w x y third last) carried

-- A mirror of the code: what is gathered of types that are equal.
use Rattle.std.specs.Prelude.{◌≡◌, ◌⊎◌, List, [], ◌++◌, Contains, Some, None}
use Rattle.nomos_ir.specs.declared.amount.Amount.{Amount}
use Rattle.nomos_ir.specs.declared.ids.TypeId.{TypeId}
use Rattle.nomos_ir.specs.declared.lists.ProgramLists.{ProgramLists}
use Rattle.nomos_ir.specs.declared.type_node.TypeNode.{TypeNode}
use Rattle.nomos_types.specs.Unfolding.{IsUnfolding}
use Rattle.nomos_equality.specs.declared.hop.Hop.{Hop}
use Rattle.nomos_equality.specs.declared.known.Known.{Known}
use Rattle.nomos_equality.specs.declared.difference.TypeVisit.{TypeVisit}
use Rattle.nomos_equality.specs.Answer.{StandOnce}
use Rattle.nomos_equality.specs.Comparing.{Compared, IsFront}
use Rattle.nomos_equality.specs.Paths.{part_by, paid_by, StandAtEqualPaths}
use Rattle.nomos_equality.specs.mirror.Search.{IsMet, IsAt, HasNodes, Follows, HasForm}

-- what is known to be compared, beside pairs from which no amount is reached
abbrev pub compared_beside : Known → List (TypeId × TypeId) → Compared
compared_beside k free = record { types = k.pairs; amounts = k.amounts; free = free }

-- what is known to be compared, by itself
abbrev pub compared_by : Known → Compared
compared_by k = compared_beside k []

-- the types are one of the pairs
abbrev pub Among : List (TypeId × TypeId) → TypeId → TypeId → Type 0
Among pairs a b = Contains pairs (a, b)

-- the two types, as a visit
abbrev pub visit_at : TypeId → TypeId → TypeVisit
visit_at a b = record { left = a; right = b; from = None }

-- the two types are met: their pair was there, or is put at the end and is to be looked at
pub record MeetsPair (lists : ProgramLists) (old : Known) (a b : TypeId) (new : Known) : Type 0 where
  pub more : List (TypeId × TypeId)
  pub pairs : new.pairs ≡ old.pairs ++ more
  pub todo : new.todo.items ≡ old.todo.items ++ more
  pub amounts : new.amounts ≡ old.amounts
  pub each : (p : TypeId × TypeId) → Contains more p → IsUnfolding lists a.0 p.0.0 × IsUnfolding lists b.0 p.1.0
  pub met : IsMet lists (Among new.pairs) a b

-- the pair is that of parts of two types by a hop
pub record IsPartOf (lists : ProgramLists) (u v : TypeId) (p : TypeId × TypeId) : Type 0 where
  pub hop : Hop
  pub left : TypeNode
  pub right : TypeNode
  pub at : IsAt lists (visit_at u v) left right
  pub a : TypeId
  pub b : TypeId
  pub left_part : part_by left hop ≡ Some a
  pub right_part : part_by right hop ≡ Some b
  pub left_is : IsUnfolding lists a.0 p.0.0
  pub right_is : IsUnfolding lists b.0 p.1.0

-- the nodes there pay these amounts
pub record PaysAt (lists : ProgramLists) (u v : TypeId) (amounts : Amount × Amount) : Type 0 where
  pub left : TypeNode
  pub right : TypeNode
  pub at : IsAt lists (visit_at u v) left right
  pub left_pays : paid_by left ≡ Some amounts.0
  pub right_pays : paid_by right ≡ Some amounts.1

-- parts of two types are put, and their amounts
pub record Spreads (lists : ProgramLists) (u v : TypeId) (old new : Known) : Type 0 where
  pub more : List (TypeId × TypeId)
  pub pairs : new.pairs ≡ old.pairs ++ more
  pub todo : new.todo.items ≡ old.todo.items ++ more
  pub parts : (p : TypeId × TypeId) → Contains more p → IsPartOf lists u v p
  pub noted : List (Amount × Amount)
  pub amounts : new.amounts ≡ old.amounts ++ noted
  pub paid : (q : Amount × Amount) → Contains noted q → PaysAt lists u v q
  pub once : StandOnce old.amounts → StandOnce new.amounts

-- the amounts of the nodes there are noted
abbrev pub NotesPaid : ProgramLists → TypeId → TypeId → List (Amount × Amount) → Type 0
NotesPaid lists u v amounts =
    (left right : TypeNode) (q r : Amount) → IsAt lists (visit_at u v) left right → paid_by left ≡ Some q →
    paid_by right ≡ Some r → Contains amounts (q, r)

-- the parts of the nodes there are among the pairs, and their amounts are noted
pub record IsSpread (lists : ProgramLists) (u v : TypeId) (pairs : List (TypeId × TypeId))
    (amounts : List (Amount × Amount)) : Type 0 where
  pub parts : (h : Hop) → Follows lists (visit_at u v) h (Among pairs)
  pub paid : NotesPaid lists u v amounts

-- all that follows from two types is gathered: each pair was there or is spread, each amount was there or stands at
-- equal paths
pub record HasGathered (lists : ProgramLists) (a b : TypeId) (old new : Known) : Type 0 where
  pub met : IsMet lists (Among new.pairs) a b
  pub pairs : (u v : TypeId) → Contains new.pairs (u, v) →
      Contains old.pairs (u, v) ⊎
      (HasNodes lists (visit_at u v) × HasForm lists (visit_at u v) × IsSpread lists u v new.pairs new.amounts)
  pub amounts : (p : Amount × Amount) → Contains new.amounts p → Contains old.amounts p ⊎ StandAtEqualPaths lists a b p
  pub once : StandOnce old.amounts → StandOnce new.amounts
  pub pairs_front : IsFront old.pairs new.pairs
  pub amounts_front : IsFront old.amounts new.amounts

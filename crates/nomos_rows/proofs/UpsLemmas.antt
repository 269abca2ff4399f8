-- What is found of one type node more.
use Rattle.std.proofs.Common.{◌≡◌, inl, inr, ℕ, ◌+◌, List, Option, Some, None, Bool, true, false, cond, nat_le, subst, arith}
use Rattle.nomos_ir.specs.declared.amount.Amount.{Amount}
use Rattle.nomos_ir.specs.declared.ids.TypeId.{TypeId}
use Rattle.nomos_ir.specs.declared.lists.ProgramLists.{ProgramLists}
use Rattle.nomos_ir.specs.declared.type_node.TypeNode.TheVariants as node
use Rattle.nomos_ir.specs.Nodes.{type_node}
use Rattle.nomos_equality.specs.Comparing.{Compared}
use Rattle.nomos_equality.specs.declared.hop.Hop.{Hop}
use Rattle.nomos_equality.proofs.SyncLaws.{offends-not_synchronizing}
use Rattle.nomos_equality.specs.Continuing.{StandAtDown}
use Rattle.nomos_types.specs.Equality.{no_amounts}
use Rattle.nomos_types.specs.Synchronizing.{IsSynchronizingAt}
use Rattle.nomos_rows.proofs.TellingLemmas.{below-next, below-more}
use Rattle.nomos_rows.specs.mirror.FirstFault.{earliest}
use Rattle.nomos_rows.specs.mirror.Ups.{StandsBehind, GoesAstray, GoesBack, PairsJoin, IfNone, PairsOfOne, PairsBelow}

module _ (lists : ProgramLists) where
  -- what goes back does not go astray
  pub back-not_astray : (t at : ℕ) (path : List Hop) → GoesBack lists t → GoesAstray lists t at path → ⊥
  back-not_astray t at path back astray =
      offends-not_synchronizing lists no_amounts astray.body (record { 0 = t }) path astray.offends
      (back astray.body astray.is_up)

  -- the pairs of one node more join
  pairs-next : (t : ℕ) (old mid new : Compared) → PairsBelow lists t old mid → PairsOfOne lists t mid new
      → PairsBelow lists (t + 1) old new
  pairs-next t old mid new before here pair =
      let P : ℕ → Type 0 = λ s. StandsBehind lists s pair in (
        λ inside.
            elim ((here pair).0 inside) [
              | inl kept ↦
                  elim ((before pair).0 kept) [
                    | inl first ↦ inl first
                    | inr below ↦ inr (below-more P t below)
                  ]
              | inr stands ↦ inr (t, omega arith, stands)
            ],
        λ given.
            elim given [
              | inl first ↦ (here pair).1 (inl ((before pair).1 (inl first)))
              | inr some ↦
                  elim (below-next P t some) [
                    | inl below ↦ (here pair).1 (inl ((before pair).1 (inr below)))
                    | inr stands ↦ (here pair).1 (inr stands)
                  ]
            ],
      )

  pub pairs-more : (t : ℕ) (old mid new : Compared) (first found : Option (ℕ × List Hop))
      → IfNone (PairsBelow lists t old mid) first → IfNone (PairsOfOne lists t mid new) found
      → IfNone (PairsBelow lists (t + 1) old new) (earliest first found)
  pairs-more t old mid new None None before here = pairs-next t old mid new before here
  pairs-more t old mid new None (Some a) before here = tt
  pairs-more t old mid new (Some a) None before here = tt
  pairs-more t old mid new (Some a) (Some b) before here = if-some (nat_le a.0 b.0) a b
    where
      if-some : (d : Bool) (a b : ℕ × List Hop) → IfNone (PairsBelow lists (t + 1) old new) (cond d (Some a) (Some b))
      if-some true a b = tt
      if-some false a b = tt

  -- where a node is an `up`, what its body tells
  module _ (t : ℕ) (body : TypeId) (is_up : type_node lists t ≡ Some (node.Up body)) where
    pub up-back : IsSynchronizingAt lists no_amounts body (record { 0 = t }) → GoesBack lists t
    up-back back other there =
        let same : body ≡ other = cc in
        subst (λ (b : TypeId). IsSynchronizingAt lists no_amounts b (record { 0 = t })) same back

    same-body : (pair : Amount × Amount) (other : TypeId) → type_node lists t ≡ Some (node.Up other)
        → StandAtDown lists other (record { 0 = t }) pair → StandAtDown lists body (record { 0 = t }) pair
    same-body pair other there stand =
        let same : other ≡ body = cc in
        subst (λ (b : TypeId). StandAtDown lists b (record { 0 = t }) pair) same stand

    pub up-pairs : (old new : Compared) → PairsJoin old new (StandAtDown lists body (record { 0 = t }))
        → PairsOfOne lists t old new
    up-pairs old new pairs pair = (
      λ inside.
          elim ((pairs pair).0 inside) [
            | inl kept ↦ inl kept
            | inr stand ↦ inr (record { body = body; is_up = is_up; stand = stand })
          ],
      λ given.
          elim given [
            | inl kept ↦ (pairs pair).1 (inl kept)
            | inr behind ↦ (pairs pair).1 (inr (same-body pair behind.body behind.is_up behind.stand))
          ],
    )

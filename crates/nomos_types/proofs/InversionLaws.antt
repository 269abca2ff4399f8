-- Derivations turned round: a judgement derives exactly where a row of its own applies and all that it goes on with
-- derives, so the replacement by judgements that are alike is never seen again.
use Rattle.std.proofs.Common.{◌<◌, ℕ, List, map, Contains, refl, subst, arith}
use Rattle.std.proofs.lemmas.List.Elements.{All-contains}
use Rattle.nomos_ir.specs.CodeParts.{code_next}
use Rattle.nomos_ir.specs.declared.lists.ProgramLists.{ProgramLists}
use Rattle.nomos_ir.specs.declared.mode.Mode.{Mode}
use Rattle.nomos_types.proofs.CoveringLaws.{Covers}
use Rattle.nomos_types.proofs.FollowingLaws.{place, row-places}
use Rattle.nomos_types.proofs.OccurrenceLaws.{contains-map}
use Rattle.nomos_types.proofs.RowLaws.{row-at}
use Rattle.nomos_types.proofs.RowsOverLaws.{HasRow, row-covers}
use Rattle.nomos_types.specs.Alike.{Alike}
use Rattle.nomos_types.specs.Amount.{Annotations}
use Rattle.nomos_types.specs.Derivation.{Derives, by_row}
use Rattle.nomos_types.specs.Judgement.{Judgement, with_potential}
use Rattle.nomos_types.specs.Modes.{HasMode}
use Rattle.nomos_types.specs.TypingRule.{TypingRule}
use Rattle.nomos_types.specs.Typed.{IsWellFormed}

-- judgements that are alike cover one another
pub alike-covers : {lists : ProgramLists} {x : Annotations} {j k : Judgement} → Alike lists x j k → Covers lists x j k
alike-covers alike =
    record {
      mode = alike.mode;
      kinds = alike.kinds;
      same_lists = alike.same_lists;
      shared = alike.shared;
      linear = alike.linear;
      q = omega (arith, alike.q);
      code = alike.code;
      offers = alike.offers;
    }

-- a row leads to instructions with lower numbers
pub row-descends : {lists : ProgramLists} {x : Annotations} {j k : Judgement} {after : List Judgement}
    → IsWellFormed lists → TypingRule lists x j after → Contains after k → place k < place j
row-descends {lists} {x} {j} {k} {after} formed row among =
    let (n, there, says) = row-at row in
    let to : Contains (map place after) (place k) = contains-map place after k (place k) among refl in
    let next : Contains (code_next n) (place k) = subst (λ (ns : List ℕ). Contains ns (place k))
    (row-places lists x j after n says) to in
    All-contains (λ (m : ℕ). m < place j) (code_next n) (place k) (formed.program.parts.code (place j) n there) next

-- what a judgement offers that has a derivation has a mode
pub derives-offers_mode : {lists : ProgramLists} {x : Annotations} {j : Judgement} → Derives lists x j
    → (m : Mode) × HasMode lists j.offers m
derives-offers_mode (by_row k q after alike enough row each) = (alike.offers.mode, alike.offers.left_mode)

module _ {lists : ProgramLists} {x : Annotations} {j : Judgement} (formed : IsWellFormed lists) where
  -- a row applies to a judgement that has a derivation
  pub derives-row : Derives lists x j → HasRow lists x j
  derives-row (by_row k q after alike enough row each) =
      let covers : Covers lists x j (with_potential k q) = record {
        mode = alike.mode;
        kinds = alike.kinds;
        same_lists = alike.same_lists;
        shared = alike.shared;
        linear = alike.linear;
        q = omega (arith, alike.q);
        code = alike.code;
        offers = alike.offers;
      } in
      row-covers formed covers row

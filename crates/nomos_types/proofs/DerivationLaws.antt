-- Laws of derivations: they are kept by judgements that are alike and by more potential, and lead to each place that
-- follows.
use Rattle.std.proofs.Common.{◌≤◌, ℕ, zero, suc, List, Contains, slice_get, refl, subst, ap, ◌∙◌, arith}
use Rattle.nomos_ir.specs.declared.code_node.CodeNode.{CodeNode}
use Rattle.nomos_ir.specs.declared.lists.ProgramLists.{ProgramLists}
use Rattle.nomos_types.proofs.AlikeLaws.{alike-through}
use Rattle.nomos_types.proofs.CoveringLaws.{Covers, CoversEach, none, more}
use Rattle.nomos_types.proofs.CoveringRowLaws.{rows-cover}
use Rattle.nomos_types.proofs.RowLaws.{row-at, row-inverted}
use Rattle.nomos_types.specs.Alike.{Alike}
use Rattle.nomos_types.specs.Amount.{Annotations}
use Rattle.nomos_types.specs.Derivation.{Derives, by_row, Follows}
use Rattle.nomos_types.specs.Judgement.{Judgement, with_potential}
use Rattle.nomos_types.specs.TypingRule.{TypingRule, StandsAtCode}
use Rattle.nomos_types.specs.Typed.{IsWellFormed}

module _ {lists : ProgramLists} {x : Annotations} where
  -- what is like a judgement that has a derivation has one
  pub derives-alike : {j k : Judgement} → IsWellFormed lists → Alike lists x j k → Derives lists x k → Derives lists x j
  derives-alike formed alike (by_row other q after next_alike enough row each) =
      by_row other q after (alike-through formed.program alike next_alike) enough row each

  -- more potential does no harm
  pub derives-more : {j : Judgement} (p : ℕ) → j.q ≤ p → Derives lists x j → Derives lists x (with_potential j p)
  derives-more {j} p enough (by_row k q after alike within row each) =
      let still : Alike lists x (with_potential j p) (with_potential k p) =
      record {
        mode = alike.mode;
        kinds = alike.kinds;
        same_lists = alike.same_lists;
        shared = alike.shared;
        linear = alike.linear;
        q = refl;
        code = alike.code;
        offers = alike.offers;
      } in
      by_row (with_potential k p) q after still (omega (arith, alike.q)) row each

  -- so what covers a judgement that has a derivation has one
  pub derives-covers : {j k : Judgement} → IsWellFormed lists → Covers lists x j k → Derives lists x k
      → Derives lists x j
  derives-covers {j} {k} formed covers derivation =
      let alike : Alike lists x j (with_potential k j.q) =
      record {
        mode = covers.mode;
        kinds = covers.kinds;
        same_lists = covers.same_lists;
        shared = covers.shared;
        linear = covers.linear;
        q = refl;
        code = covers.code;
        offers = covers.offers;
      } in
      derives-alike formed alike (derives-more j.q covers.q derivation)

  -- judgements that are alike stand at the same instruction
  stands-alike : {j k : Judgement} (n : CodeNode) → Covers lists x j k → StandsAtCode lists k n → StandsAtCode lists j n
  stands-alike n covers there = ap (λ c. slice_get lists.code c.0) covers.code ∙ there

  -- each of those that cover others has a derivation where those have
  each-derives : {js ks : List Judgement} (l : Judgement) → IsWellFormed lists → CoversEach lists x js ks
      → ((k : Judgement) → Contains ks k → Derives lists x k) → Contains js l → Derives lists x l
  each-derives l formed none each (i, inside, is) = absurd (omega arith)
  each-derives l formed (more {j} {k} {js} {ks} covers others) each (zero, inside, is) =
      subst (Derives lists x) is (derives-covers formed covers (each k (0, omega arith, refl)))
  each-derives l formed (more {j} {k} {js} {ks} covers others) each (suc i, inside, is) =
      each-derives l formed others (λ m (at, within, there). each m (suc at, omega arith, there)) (i, omega arith, is)

  -- a judgement that has a derivation goes on by each row to judgements that have one
  pub derives-next : {j k : Judgement} {after : List Judgement} → IsWellFormed lists → Derives lists x j
      → TypingRule lists x j after → Contains after k → Derives lists x k
  derives-next {j} {k} {after} formed (by_row other q later alike enough row each) own among =
      let covers : Covers lists x j (with_potential other q) =
      record {
        mode = alike.mode;
        kinds = alike.kinds;
        same_lists = alike.same_lists;
        shared = alike.shared;
        linear = alike.linear;
        q = omega (arith, alike.q);
        code = alike.code;
        offers = alike.offers;
      } in
      let (n, there, says) = row-at row in
      let own_says = row-inverted n (stands-alike n covers there) own in
      each-derives k formed (rows-cover formed n covers own_says says) each among

  -- a derivation of a first judgement gives one of each judgement that follows
  pub derives-following : {first j : Judgement} → IsWellFormed lists → Derives lists x first → Follows lists x first j
      → Derives lists x j
  derives-following formed derivation Follows.first = derivation
  derives-following formed derivation (Follows.next after follows row among) =
      derives-next formed (derives-following formed derivation follows) row among

-- What one step tells on the way along the code.
use Rattle.std.proofs.Common.{◌≡◌, ◌<◌, inl, inr, List, [], ◌∷◌, Option, refl, sym, ap, subst, ◌∙◌}
use Rattle.nomos_ir.specs.declared.code_node.CodeNode.{CodeNode}
use Rattle.nomos_ir.specs.declared.lists.ProgramLists.{ProgramLists}
use Rattle.nomos_ir.specs.Amounts.{star_count}
use Rattle.nomos_types.proofs.InversionLaws.{row-descends}
use Rattle.nomos_types.proofs.OccurrenceLaws.{contains-head}
use Rattle.nomos_types.proofs.UniqueRowLaws.{row-unique}
use Rattle.nomos_types.specs.Equality.{no_amounts}
use Rattle.nomos_types.specs.TypingRule.{TypingRule, StandsAtCode}
use Rattle.nomos_types.specs.Typed.{IsWellFormed}
use Rattle.nomos_check.proofs.GatherLemmas.{first-some}
use Rattle.nomos_check.proofs.GoingLemmas.{going-next, goes-end, goes-along}
use Rattle.nomos_check.proofs.LeavingLemmas.{reached-next}
use Rattle.nomos_ir.specs.Instruction.{code_offset, code_form}
use Rattle.nomos_check.specs.declared.asked.Asked.{Asked}
use Rattle.nomos_check.specs.declared.standing.Forks.{Forks}
use Rattle.nomos_check.specs.declared.standing.Standing.{Standing}
use Rattle.nomos_check.specs.declared.standing.Step.{Step}
use Rattle.nomos_check.specs.declared.standing.Step.TheVariants as step
use Rattle.nomos_check.specs.declared.code_walk.Stuck.{Stuck}
use Rattle.nomos_check.specs.declared.code_walk.CodeWalk.{CodeWalk}
use Rattle.nomos_check.specs.mirror.StandingData.{shape_of, HasAccount, NoRow, LeadsTo, LeadsAlong, StepTells, StepAsks, JoinsAsked}
use Rattle.nomos_check.specs.mirror.Stops.{first_stuck}
use Rattle.nomos_check.specs.mirror.Walking.{HasRow, Notes, Visits, Going, Goes, IsOnWay, Takes}

module _ (lists : ProgramLists) (s : Standing) (old noted : CodeWalk) (notes : Notes lists s old noted)
    (asked : Asked) where
  -- what is asked for and what is left to do do not matter to what is kept
  takes-beside : {todo : List Forks} {stuck : Option Stuck}
      → Takes s old (record noted { asked = asked; todo = todo; stuck = stuck })
  takes-beside = record {
    wanted = notes.takes.wanted;
    place = record {
      kept = notes.takes.place.kept;
      one = notes.takes.place.one;
      here = notes.takes.place.here;
    };
    potential = record {
      kept = notes.takes.potential.kept;
      one = notes.takes.potential.one;
      here = notes.takes.potential.here;
    };
  }

  -- a standing at which a rule applies was visited
  visits-row : (todo : List Forks) → JoinsAsked lists s noted.asked asked → HasRow lists (shape_of s)
      → Visits lists s old (record noted { asked = asked; todo = todo })
  visits-row todo joins row = record {
    forms = notes.forms;
    pairs = λ free. subst (λ (k : Asked). JoinsAsked lists s k asked) notes.asked joins;
    takes = takes-beside;
    stuck = inl (notes.stuck, row);
  }

  -- one that is stuck was visited
  visits-stop : (n : CodeNode) → StandsAtCode lists (shape_of s) n → NoRow lists (shape_of s)
      → Visits lists s old (record noted {
        asked = asked;
        stuck = first_stuck noted.stuck
            (record { at = code_offset n; form = code_form n });
      })
  visits-stop n stands none =
      let here : Stuck = record { at = code_offset n; form = code_form n } in
      record {
        forms = notes.forms;
        pairs = λ free. absurd (first-some noted.stuck here free);
        takes = takes-beside;
        stuck = inr (record {
          no_row = none;
          node = n;
          stands = stands;
          counts = ap (λ
              (o : Option Stuck). first_stuck o here) notes.stuck;
        });
      }

module _ (lists : ProgramLists) (formed : IsWellFormed lists) (first s next : Standing) (old between noted : CodeWalk)
    (asked : Asked) (going : Going lists (star_count lists) first s old between) (notes : Notes lists s between noted)
    (on_way : IsOnWay lists (star_count lists) s) (found : Step) (tells : StepTells lists s next found)
    (asks : StepAsks lists s noted.asked asked found) where
  -- the code ends
  pub stride-ends : found ≡ step.Done → Goes lists (star_count lists) first old (record noted { asked = asked })
  stride-ends is =
      let row : TypingRule lists no_amounts (shape_of s) [] = subst (StepTells lists s next) is tells in
      let joins : JoinsAsked lists s noted.asked asked = subst (StepAsks lists s noted.asked asked) is asks in
      let visits = visits-row lists s between noted notes asked noted.todo joins ([], row) in
      goes-end lists formed first s old between (record noted { asked = asked }) going visits notes.todo
      on_way.reached.account on_way.reached.has
      (λ after other. row-unique no_amounts formed.program other row)

  -- the code is stuck
  pub stride-stops : found ≡ step.Stuck → (n : CodeNode) → StandsAtCode lists (shape_of s) n
      → Goes lists (star_count lists) first old (record noted {
        asked = asked;
        stuck = first_stuck noted.stuck
            (record { at = code_offset n; form = code_form n });
      })
  stride-stops is n stands =
      let none : NoRow lists (shape_of s) = subst (StepTells lists s next) is tells in
      let new : CodeWalk = record noted {
        asked = asked;
        stuck = first_stuck noted.stuck
            (record { at = code_offset n; form = code_form n });
      } in
      let visits = visits-stop lists s between noted notes asked n stands none in
      goes-end lists formed first s old between new going visits notes.todo on_way.reached.account on_way.reached.has
      (λ after other. absurd (none after other))

  -- the code goes on
  module _ (is : found ≡ step.Next) where
    leads : LeadsTo lists s next
    leads = subst (StepTells lists s next) is tells

    pub stride-next : Going lists (star_count lists) first next old (record noted { asked = asked })
    stride-next =
        let joins : JoinsAsked lists s noted.asked asked = subst (StepAsks lists s noted.asked asked) is asks in
        let visits = visits-row lists s between noted notes asked noted.todo joins (shape_of next ∷ [], leads.row) in
        going-next lists formed first s old between (record noted { asked = asked }) going visits notes.todo
        on_way.reached.account on_way.reached.has
        next leads

    pub stride-on_way : IsOnWay lists (star_count lists) next
    stride-on_way = record {
      outset = on_way.outset;
      within = on_way.within;
      reached = reached-next leads on_way.reached;
    }

    pub stride-lower : next.code.0 < s.code.0
    stride-lower = row-descends formed leads.row (contains-head (shape_of next) (shape_of next) [] refl)

  -- the code parts
  pub stride-parts : (f : Forks) → f.before ≡ next → found ≡ step.Branches f.ways → (todo : List Forks)
      → todo ≡ f ∷ noted.todo → Goes lists (star_count lists) first old (record noted { asked = asked; todo = todo })
  stride-parts f before is todo put =
      let n = star_count lists in
      let new : CodeWalk = record noted { asked = asked; todo = todo } in
      let parts : LeadsAlong lists s f.ways.items × (next ≡ s) = subst (StepTells lists s next) is tells in
      let joins : JoinsAsked lists s noted.asked asked = subst (StepAsks lists s noted.asked asked) is asks in
      let same : s ≡ f.before = sym (before ∙ parts.1) in
      let visits = visits-row lists s between noted notes asked todo joins (_, parts.0.row) in
      let a = on_way.reached.account in
      goes-along lists formed first f old between new (subst (λ
      (k : Standing). Going lists n first k old between) same going)
      (subst (λ (k : Standing). Visits lists k between new) same visits) (put ∙ ap (λ
      (l : List Forks). f ∷ l) notes.todo) a
      (subst (λ (k : Standing). HasAccount n k a) same on_way.reached.has)
      (subst (λ (k : Standing). LeadsAlong lists k f.ways.items) same parts.0)

-- A standing that is visited.
use Rattle.std.proofs.Common.{◌≡◌, ◌<◌, inl, inr, ⊎_elim, List, Bool, Contains, Option, length, refl, sym, ap, subst, ◌∙◌}
use Rattle.nomos_ir.specs.declared.code_node.CodeNode.{CodeNode}
use Rattle.nomos_ir.specs.declared.ids.CodeId.{CodeId}
use Rattle.nomos_ir.specs.declared.lists.ProgramLists.{ProgramLists}
use Rattle.nomos_ir.specs.Amounts.{star_count}
use Rattle.nomos_forms.specs.declared.form.Form.{Form}
use Rattle.nomos_types.specs.TypingRule.{StandsAtCode}
use Rattle.nomos_check.proofs.GatherLemmas.{first-keeps, first-here, first-some, first-one}
use Rattle.nomos_check.specs.Account.{Account}
use Rattle.nomos_ir.specs.Instruction.{code_offset, code_form}
use Rattle.nomos_check.specs.Reaching.{Outset, IsFormOf}
use Rattle.nomos_check.specs.declared.standing.Standing.{Standing}
use Rattle.nomos_check.specs.declared.code_walk.Stuck.{Stuck}
use Rattle.nomos_check.specs.declared.code_walk.CodeWalk.{CodeWalk}
use Rattle.nomos_check.specs.mirror.Walking.{IsReached, IsFormAt, IsStuckBy, IsDone, Grows, Gathers, StuckOf, IsFirstStop, Visits}
use Rattle.nomos_check.specs.mirror.StandingData.{shape_of, HasAccount}
use Rattle.nomos_check.specs.InHand.{IsWanted, IsPotentialAt}

-- what is stuck there
abbrev stop_of : CodeNode → Stuck
stop_of n = record { at = code_offset n; form = code_form n }

module _ {lists : ProgramLists} {s : Standing} {old new : CodeWalk} (visits : Visits lists s old new) where
  -- what is gathered grows
  pub visits-grows : (a : Account) → HasAccount (star_count lists) s a → Grows old new
  visits-grows a has = record {
    forms = λ f among. (visits.forms a has f).1 (inl among);
    pairs = λ free pair asked. (visits.pairs free a has pair).1 (inl asked);
    stuck =
        λ at by.
        ⊎_elim (λ kept. subst (λ (o : Option Stuck). IsStuckBy o at) (sym kept.0) by)
        (λ (stop : IsFirstStop lists s old.stuck new.stuck).
        subst (λ (o : Option Stuck). IsStuckBy o at) (sym stop.counts) (first-keeps old.stuck
        (stop_of stop.node) at by))
        visits.stuck;
    none =
        λ free.
        ⊎_elim (λ kept. sym kept.0 ∙ free)
        (λ (stop : IsFirstStop lists s old.stuck new.stuck).
        absurd (first-some old.stuck (stop_of stop.node) (sym stop.counts ∙ free)))
        visits.stuck;
    places = record {
      wanted = visits.takes.wanted;
      kept = visits.takes.place.kept;
      noted = visits.takes.potential.kept;
    };
  }

  stop-here : (stop : IsFirstStop lists s old.stuck new.stuck) (n : CodeNode) → StandsAtCode lists (shape_of s) n
      → IsStuckBy new.stuck (code_offset n)
  stop-here stop n stands =
      let there = stop.stands in
      let same : stop.node ≡ n = cc in
      let by : IsStuckBy new.stuck (code_offset stop.node) =
      subst (λ (o : Option Stuck). IsStuckBy o (code_offset stop.node)) (sym stop.counts) (first-here old.stuck
      (stop_of stop.node))
      in
      subst (λ (m : CodeNode). IsStuckBy new.stuck (code_offset m)) same by

  -- all that it asks for is done
  pub visits-done : (a : Account) → HasAccount (star_count lists) s a
      → IsDone lists (star_count lists) new (shape_of s) a
  visits-done a has = record {
    forms = λ f is. (visits.forms a has f).1 (inr is);
    pairs = λ free pair asks. (visits.pairs free a has pair).1 (inr asks);
    row =
        λ free.
        ⊎_elim (λ kept. kept.1)
        (λ (stop : IsFirstStop lists s old.stuck new.stuck).
        absurd (first-some old.stuck (stop_of stop.node) (sym stop.counts ∙ free)))
        visits.stuck;
    stuck =
        λ none n stands.
        ⊎_elim (λ kept. absurd (none kept.1.0 kept.1.1)) (λ stop. stop-here stop n stands) visits.stuck;
    placed =
        λ wanted.
        let before = subst (λ (w : List Bool). IsWanted w s.code.0) visits.takes.wanted wanted in
        record { standing = s; among = visits.takes.place.here before; shape = refl; has = has };
    noted =
        λ below.
        let before = subst (λ (w : List Bool). s.code.0 < length w) visits.takes.wanted below in
        subst (λ (f : Form). Contains new.potentials.items (s.code, f)) has.potential
        (visits.takes.potential.here before);
  }

  -- and all that is gathered comes from there
  module _ {o : Outset} (r : IsReached lists (star_count lists) o s) where
    point-form : (f : Form) → IsFormAt lists (star_count lists) (shape_of s) r.account f
        → IsFormOf lists (star_count lists) o f
    point-form f (point, needs, same) =
        record {
          account = point;
          point = record { judgement = shape_of s; account = r.account; reached = r.reached; needs = needs };
          same = same;
        }

    stop-of : (stop : IsFirstStop lists s old.stuck new.stuck) (t : Stuck) → stop_of stop.node ≡ t → StuckOf lists o t
    stop-of stop t same = record {
      judgement = shape_of s;
      account = r.account;
      reached = r.reached;
      no_row = stop.no_row;
      node = stop.node;
      stands = stop.stands;
      offset = ap (λ (u : Stuck). u.at) same;
      is_form = ap (λ (u : Stuck). u.form) same;
    }

    potential-there : (e : CodeId × Form) → e ≡ (s.code, s.potential)
        → IsPotentialAt lists (star_count lists) o e.0 e.1
    potential-there e same =
        let here : IsPotentialAt lists (star_count lists) o s.code s.potential = record {
          judgement = shape_of s;
          account = r.account;
          reached = r.reached;
          at = refl;
          is = r.has.potential;
        } in
        subst (λ (p : CodeId × Form). IsPotentialAt lists (star_count lists) o p.0 p.1) (sym same) here

    pub visits-gathers : Gathers lists (star_count lists) o old new
    visits-gathers = record {
      forms = λ f among. ⊎_elim (λ early. inl early) (λ is. inr (point-form f is))
          ((visits.forms r.account r.has f).0 among);
      pairs =
          λ free pair asked.
          ⊎_elim (λ early. inl early)
          (λ asks. inr (record { judgement = shape_of s; account = r.account; reached = r.reached; asks = asks }))
          ((visits.pairs free r.account r.has pair).0 asked);
      stuck =
          λ t is.
          ⊎_elim (λ kept. inl (sym kept.0 ∙ is))
          (λ (stop : IsFirstStop lists s old.stuck new.stuck).
          ⊎_elim (λ early. inl early) (λ same. inr (stop-of stop t same)) (first-one old.stuck (stop_of stop.node) t
          (sym stop.counts ∙ is)))
          visits.stuck;
      places =
          λ t among.
          ⊎_elim (λ early. inl early)
          (λ same. inr (subst (IsReached lists (star_count lists) o) (sym same) r)) (visits.takes.place.one t among);
      potentials =
          λ e among.
          ⊎_elim (λ early. inl early) (λ same. inr (potential-there e same)) (visits.takes.potential.one e among);
    }

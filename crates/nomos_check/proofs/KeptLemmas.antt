-- What is in hand at the instructions that are wanted, after all was gathered.
use Rattle.std.proofs.Common.{◌≡◌, ◌<◌, ℕ, List, Bool, length, refl, sym, subst}
use Rattle.nomos_ir.specs.declared.lists.ProgramLists.{ProgramLists}
use Rattle.nomos_equality.specs.Comparing.{Compared}
use Rattle.nomos_types.specs.Judgement.{Judgement}
use Rattle.nomos_check.specs.Account.{Account}
use Rattle.nomos_check.specs.InHand.{HasInHand, AreWanted, ArePotentials, IsWanted}
use Rattle.nomos_check.specs.Reaching.{Outset}
use Rattle.nomos_check.specs.declared.standing.Standing.{Standing}
use Rattle.nomos_check.specs.declared.code_walk.CodeWalk.{CodeWalk}
use Rattle.nomos_check.specs.mirror.ProcessAnswers.{IsGathered}
use Rattle.nomos_check.specs.mirror.StandingData.{shape_of, HasAccount}

-- what the code's data stands for is in hand
in-hand : {n : ℕ} {s : Standing} {j : Judgement} {a : Account} → shape_of s ≡ j → HasAccount n s a → HasInHand n s j a
in-hand shape has = record { judgement = sym shape; potential = has.potential; amounts = sym has.lists }

module _ {lists : ProgramLists} {n : ℕ} {o : Outset} {known : Compared} (w : CodeWalk) (wanted : List Bool)
    (same : w.wanted.now ≡ wanted) (gathered : IsGathered lists n o known w) where
  pub kept-wanted : AreWanted lists n o wanted w.places.items
  kept-wanted = record {
    each =
        λ j a gets here.
        let place = (gathered.done j a gets).placed (subst (λ (l : List Bool). IsWanted l j.code.0) (sym same) here) in
        record { standing = place.standing; among = place.among; has = in-hand place.shape place.has };
    only =
        λ s among.
        let r = gathered.places s among in
        record { judgement = shape_of s; account = r.account; reached = r.reached; has = in-hand refl r.has };
  }

  pub kept-potentials : ArePotentials lists n o (length wanted) w.potentials.items
  kept-potentials = record {
    each =
        λ j a gets below.
        (gathered.done j a gets).noted (subst (λ (l : List Bool). j.code.0 < length l) (sym same) below);
    only = gathered.potentials;
  }

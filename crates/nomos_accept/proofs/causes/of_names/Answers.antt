use Rattle.std.proofs.Common.{Err, subst}
use Rattle.nomos_accept.proofs.RefusalLemmas.{name-never, cost-never}
use Rattle.nomos_accept.proofs.causes.of_names.Goals as goal
use Rattle.nomos_elaborate.specs.Elaborated.{Answers}
use Rattle.nomos_elaborate.specs.declared.elab_error.ElabError.{ElabError}

pub returns-in-Name : goal.returns-in-Name
returns-in-Name c = λ text tree reads answer.
    let broken = subst (λ (e : ElabError). Answers tree (Err e)) c.in-Name.is answer in
    (record { cause = (tree, reads, broken); never = name-never text tree c.in-Name.at reads broken }, tt)

pub returns-in-Cost : goal.returns-in-Cost
returns-in-Cost c = λ text tree reads answer.
    let breaks = subst (λ (e : ElabError). Answers tree (Err e)) c.in-Cost.is answer in
    (record { cause = (tree, reads, breaks); never = cost-never text tree c.in-Cost.at reads breaks }, tt)

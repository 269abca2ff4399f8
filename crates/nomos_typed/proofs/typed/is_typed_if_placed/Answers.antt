use Rattle.nomos_typed.proofs.LeadingLemmas.{not-true}
use Rattle.nomos_typed.proofs.PartLemmas.{parts-exact}
use Rattle.nomos_typed.proofs.typed.is_typed_if_placed.Goals as goal

pub returns-then-not-both-clause-parts : goal.returns-then-not-both-clause-parts
returns-then-not-both-clause-parts c = (
  λ yes. absurd cc,
  λ are. absurd (not-true c.both.result c.if-not-both.true c.both.ensures (
    c.all_three-names.ensures.1 (
      c.in_ok-mentioned.ensures.1 are.mentioned,
      c.in_ok-owned.ensures.1 are.owned,
      c.in_ok-founded.ensures.1 are.founded,
    ),
    c.in_ok-messages.ensures.1 are.messages,
  )),
)

pub returns-then-not-both-clause-typed : goal.returns-then-not-both-clause-typed
returns-then-not-both-clause-typed c = λ placed.
    let exact = parts-exact c.args.accepted.now c.know.ensures.accepted c.args.state.now c.requires.ordered
    placed in (
      λ yes. absurd cc,
      λ typed.
          let are = exact.1 typed in
          absurd (not-true c.both.result c.if-not-both.true c.both.ensures (
            c.all_three-names.ensures.1 (
              c.in_ok-mentioned.ensures.1 are.mentioned,
              c.in_ok-owned.ensures.1 are.owned,
              c.in_ok-founded.ensures.1 are.founded,
            ),
            c.in_ok-messages.ensures.1 are.messages,
          )),
    )

pub returns-clause-parts : goal.returns-clause-parts
returns-clause-parts c =
    let four = c.both.ensures.0 c.if-not-both.false in
    let names = c.all_three-names.ensures.0 four.0 in (
      λ yes. record {
        mentioned = c.in_ok-mentioned.ensures.0 names.0;
        owned = c.in_ok-owned.ensures.0 names.1;
        founded = c.in_ok-founded.ensures.0 names.2;
        messages = c.in_ok-messages.ensures.0 four.1;
        sections = c.in_ok-sections.ensures.0 yes;
      },
      λ are. c.in_ok-sections.ensures.1 are.sections,
    )

pub returns-clause-typed : goal.returns-clause-typed
returns-clause-typed c = λ placed.
    let exact = parts-exact c.args.accepted.now c.know.ensures.accepted c.args.state.now c.requires.ordered
    placed in
    let four = c.both.ensures.0 c.if-not-both.false in
    let names = c.all_three-names.ensures.0 four.0 in (
      λ yes.
          exact.0 (record {
            mentioned = c.in_ok-mentioned.ensures.0 names.0;
            owned = c.in_ok-owned.ensures.0 names.1;
            founded = c.in_ok-founded.ensures.0 names.2;
            messages = c.in_ok-messages.ensures.0 four.1;
            sections = c.in_ok-sections.ensures.0 yes;
          }),
      λ typed. c.in_ok-sections.ensures.1 (exact.1 typed).sections,
    )

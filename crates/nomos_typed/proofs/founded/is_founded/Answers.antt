use Rattle.nomos_typed.proofs.founded.is_founded.Goals as goal

pub returns : goal.returns
returns c = (
  λ yes.
      let parts = c.all_three.ensures.0 yes in
      record {
        offered = c.name_has_mode-offered.ensures.0 parts.0;
        has_base = c.has_base-based.ensures.0 parts.1;
        payer = c.is_below.ensures.0 parts.2;
      },
  λ is. c.all_three.ensures.1 (
    c.name_has_mode-offered.ensures.1 is.offered,
    c.has_base-based.ensures.1 is.has_base,
    c.is_below.ensures.1 is.payer,
  ),
)

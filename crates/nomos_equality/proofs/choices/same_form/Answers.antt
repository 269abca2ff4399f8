use Rattle.std.proofs.Common.{sym, ◌∙◌, true≢false}
use Rattle.nomos_equality.proofs.HeadLaws.{form-from, form-begins, form-kinds, form-labels}
use Rattle.nomos_equality.proofs.choices.same_form.Goals as goal

pub returns-then-not-same_constructor : goal.returns-then-not-same_constructor
returns-then-not-same_constructor c = (
  λ h. absurd (true≢false (sym h)),
  λ form. sym c.if-not-same_constructor.true ∙ c.same_constructor.ensures.1 (form-begins _ _ form),
)

pub returns-then-not-same_kind : goal.returns-then-not-same_kind
returns-then-not-same_kind c = (
  λ h. absurd (true≢false (sym h)),
  λ form. sym c.if-not-same_kind.true
      ∙ c.same_kind.ensures.1 (form-kinds _ _ form),
)

pub returns-then-not-covers : goal.returns-then-not-covers
returns-then-not-covers c =
    (λ h. absurd (true≢false (sym h)), λ form. sym c.if-not-covers.true ∙ c.covers.ensures.1 ((form-labels _ _ form).0))

pub returns : goal.returns
returns c = (
  λ h.
      form-from _ _ c.requires (c.same_constructor.ensures.0 c.if-not-same_constructor.false)
      (c.same_kind.ensures.0 c.if-not-same_kind.false)
      (c.covers.ensures.0 c.if-not-covers.false) (c.covers-2.ensures.0 h),
  λ form. c.covers-2.ensures.1 ((form-labels _ _ form).1),
)

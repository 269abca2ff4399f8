-- When two causes of a refusal are the same.
use Rattle.std.specs.Prelude.{◌≡◌, ℕ, Option, Some, None}
use Rattle.nomos_accept.specs.declared.why.Why.{Why}
use Rattle.nomos_accept.specs.declared.why.Why.TheVariants as why
use Rattle.nomos_grammar.specs.declared.offence.Which.{Which}
use Rattle.nomos_ir.specs.declared.code_form.CodeForm.{CodeForm}

-- The step of the checker that finds the cause. Steps are taken in this order; the bodies of functions and those of
-- processes are one step, in order of text.
abbrev pub step_of : Why → ℕ
step_of why.TooLong = 0
step_of (why.NotAscii at) = 1
step_of (why.Syntax at) = 2
step_of (why.Limit which at) = 2
step_of (why.Name at) = 3
step_of (why.Cost at) = 4
step_of (why.Contractive at) = 5
step_of (why.Mode at) = 6
step_of (why.NotSync at path) = 7
step_of (why.TermType at) = 8
step_of (why.ProcType at form) = 8
step_of (why.NoPotential verdict) = 9

-- the offset that the cause names
abbrev pub offset_of : Why → Option ℕ
offset_of why.TooLong = None
offset_of (why.NotAscii at) = Some at
offset_of (why.Syntax at) = Some at
offset_of (why.Limit which at) = Some at
offset_of (why.Name at) = Some at
offset_of (why.Cost at) = Some at
offset_of (why.Contractive at) = Some at
offset_of (why.Mode at) = Some at
offset_of (why.NotSync at path) = Some at
offset_of (why.TermType at) = Some at
offset_of (why.ProcType at form) = Some at
offset_of (why.NoPotential verdict) = None

-- the limit that it names
abbrev pub limit_of : Why → Option Which
limit_of why.TooLong = None
limit_of (why.NotAscii at) = None
limit_of (why.Syntax at) = None
limit_of (why.Limit which at) = Some which
limit_of (why.Name at) = None
limit_of (why.Cost at) = None
limit_of (why.Contractive at) = None
limit_of (why.Mode at) = None
limit_of (why.NotSync at path) = None
limit_of (why.TermType at) = None
limit_of (why.ProcType at form) = None
limit_of (why.NoPotential verdict) = None

-- the form of the stuck instruction that it names
abbrev pub form_of : Why → Option CodeForm
form_of why.TooLong = None
form_of (why.NotAscii at) = None
form_of (why.Syntax at) = None
form_of (why.Limit which at) = None
form_of (why.Name at) = None
form_of (why.Cost at) = None
form_of (why.Contractive at) = None
form_of (why.Mode at) = None
form_of (why.NotSync at path) = None
form_of (why.TermType at) = None
form_of (why.ProcType at form) = Some form
form_of (why.NoPotential verdict) = None

-- One step finds both, at one offset. Where a limit is passed it is one limit, and where an instruction is stuck it has
-- one form.
pub record SameCause (v w : Why) : Type 0 where
  pub step : step_of v ≡ step_of w
  pub offset : offset_of v ≡ offset_of w
  pub limit : limit_of v ≡ limit_of w
  pub form : form_of v ≡ form_of w

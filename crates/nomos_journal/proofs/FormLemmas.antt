-- The table of forms has each of them.
use Rattle.std.proofs.Common.{◌≡◌, ◌≢◌, ℕ, ◌≤◌, List, length, get_or, Option, Some, None, refl, sym, ◌∙◌, subst, arith}
use Rattle.std.specs.Prelude.{find}
use Rattle.std.specs.Str.{bytes_eq}
use Rattle.nomos_ir.specs.CodeForm.{form_name}
use Rattle.nomos_ir.specs.declared.code_form.CodeForm.{CodeForm}
use Rattle.nomos_ir.specs.declared.code_form.CodeForm.TheVariants as form
use Rattle.nomos_printing.specs.ReadAs.{ReadsAs}
use Rattle.nomos_printing.specs.Splitting.{Lacks}
use Rattle.nomos_printing.proofs.NamingLaws.{ReadsAs-named}
use Rattle.nomos_printing.proofs.OneTextLaws.{ReadsItself}
use Rattle.nomos_printing.proofs.ReadingLaws.{ReadsAs-none}
use Rattle.nomos_printing.proofs.SplittingLaws.{Lacks-tested}
use Rattle.nomos_journal.specs.Line.{IsGasless}
use Rattle.nomos_journal.specs.mirror.Forms.{all_forms, form_named}

-- a form is found by its name
whole : (f : CodeForm) → find (λ g. bytes_eq (form_name g) (form_name f)) all_forms ≡ Some f
whole form.Label = refl
whole form.Case = refl
whole form.Send = refl
whole form.Recv = refl
whole form.Put = refl
whole form.Take = refl
whole form.Pay = refl
whole form.Get = refl
whole form.Work = refl
whole form.Wait = refl
whole form.Accept = refl
whole form.Detach = refl
whole form.Acquire = refl
whole form.Release = refl
whole form.Spawn = refl
whole form.Let = refl
whole form.Emit = refl
whole form.If = refl
whole form.Close = refl
whole form.Fwd = refl
whole form.Call = refl
whole form.Empty = refl
whole form.Add = refl
whole form.Match = refl

-- forms are read by their names
form_named_reads : (text : List ℕ) → ReadsAs (λ f. Unit {0}) form_name text (form_named text)
unfolding form_named
form_named_reads text = ReadsAs-named form_name all_forms whole text

-- what was found is read
abbrev found_as : List ℕ → Option CodeForm → Type 0
found_as text answer = ReadsAs (λ f. Unit {0}) form_name text answer

-- nothing but the name of `work` was found
pub work_alone : (text : List ℕ) → form_named text ≡ Some form.Work → ReadsAs IsGasless form_name text None
work_alone text found =
    ReadsAs-none text (λ f is same.
    let told : form_named text ≡ Some f = (form_named_reads text).each f tt same in
    let work : f ≡ form.Work = cc in
    is work)

-- no form was found
pub no_form : (text : List ℕ) → form_named text ≡ None → ReadsAs IsGasless form_name text None
no_form text none =
    ReadsAs-none text (λ f is same.
    let told : form_named text ≡ Some f = (form_named_reads text).each f tt same in
    cc)

-- another form was found
pub other_form : (text : List ℕ) (f : CodeForm) → form_named text ≡ Some f → IsGasless f
    → ReadsAs IsGasless form_name text (Some f)
other_form text f found is =
    let reads : ReadsAs (λ f. Unit {0}) form_name text (Some f) =
    subst (found_as text) found (form_named_reads text) in
    record { found = (is, reads.found.1); each = λ g g_is same. reads.each g tt same }

-- the fifth byte of a form's name is no blank
pub no_fifth_blank : (f : CodeForm) → get_or (form_name f) 4 0 ≢ 32
no_fifth_blank form.Label e = absurd (omega (arith, e))
no_fifth_blank form.Case e = absurd (omega (arith, e))
no_fifth_blank form.Send e = absurd (omega (arith, e))
no_fifth_blank form.Recv e = absurd (omega (arith, e))
no_fifth_blank form.Put e = absurd (omega (arith, e))
no_fifth_blank form.Take e = absurd (omega (arith, e))
no_fifth_blank form.Pay e = absurd (omega (arith, e))
no_fifth_blank form.Get e = absurd (omega (arith, e))
no_fifth_blank form.Work e = absurd (omega (arith, e))
no_fifth_blank form.Wait e = absurd (omega (arith, e))
no_fifth_blank form.Accept e = absurd (omega (arith, e))
no_fifth_blank form.Detach e = absurd (omega (arith, e))
no_fifth_blank form.Acquire e = absurd (omega (arith, e))
no_fifth_blank form.Release e = absurd (omega (arith, e))
no_fifth_blank form.Spawn e = absurd (omega (arith, e))
no_fifth_blank form.Let e = absurd (omega (arith, e))
no_fifth_blank form.Emit e = absurd (omega (arith, e))
no_fifth_blank form.If e = absurd (omega (arith, e))
no_fifth_blank form.Close e = absurd (omega (arith, e))
no_fifth_blank form.Fwd e = absurd (omega (arith, e))
no_fifth_blank form.Call e = absurd (omega (arith, e))
no_fifth_blank form.Empty e = absurd (omega (arith, e))
no_fifth_blank form.Add e = absurd (omega (arith, e))
no_fifth_blank form.Match e = absurd (omega (arith, e))

-- a form's name is short
pub length-form_name : (f : CodeForm) → length (form_name f) ≤ 7
length-form_name form.Label = omega arith
length-form_name form.Case = omega arith
length-form_name form.Send = omega arith
length-form_name form.Recv = omega arith
length-form_name form.Put = omega arith
length-form_name form.Take = omega arith
length-form_name form.Pay = omega arith
length-form_name form.Get = omega arith
length-form_name form.Work = omega arith
length-form_name form.Wait = omega arith
length-form_name form.Accept = omega arith
length-form_name form.Detach = omega arith
length-form_name form.Acquire = omega arith
length-form_name form.Release = omega arith
length-form_name form.Spawn = omega arith
length-form_name form.Let = omega arith
length-form_name form.Emit = omega arith
length-form_name form.If = omega arith
length-form_name form.Close = omega arith
length-form_name form.Fwd = omega arith
length-form_name form.Call = omega arith
length-form_name form.Empty = omega arith
length-form_name form.Add = omega arith
length-form_name form.Match = omega arith

-- and has no line feed
pub feedless_form : (f : CodeForm) → Lacks 10 (form_name f)
feedless_form form.Label = Lacks-tested 10 (form_name form.Label) refl
feedless_form form.Case = Lacks-tested 10 (form_name form.Case) refl
feedless_form form.Send = Lacks-tested 10 (form_name form.Send) refl
feedless_form form.Recv = Lacks-tested 10 (form_name form.Recv) refl
feedless_form form.Put = Lacks-tested 10 (form_name form.Put) refl
feedless_form form.Take = Lacks-tested 10 (form_name form.Take) refl
feedless_form form.Pay = Lacks-tested 10 (form_name form.Pay) refl
feedless_form form.Get = Lacks-tested 10 (form_name form.Get) refl
feedless_form form.Work = Lacks-tested 10 (form_name form.Work) refl
feedless_form form.Wait = Lacks-tested 10 (form_name form.Wait) refl
feedless_form form.Accept = Lacks-tested 10 (form_name form.Accept) refl
feedless_form form.Detach = Lacks-tested 10 (form_name form.Detach) refl
feedless_form form.Acquire = Lacks-tested 10 (form_name form.Acquire) refl
feedless_form form.Release = Lacks-tested 10 (form_name form.Release) refl
feedless_form form.Spawn = Lacks-tested 10 (form_name form.Spawn) refl
feedless_form form.Let = Lacks-tested 10 (form_name form.Let) refl
feedless_form form.Emit = Lacks-tested 10 (form_name form.Emit) refl
feedless_form form.If = Lacks-tested 10 (form_name form.If) refl
feedless_form form.Close = Lacks-tested 10 (form_name form.Close) refl
feedless_form form.Fwd = Lacks-tested 10 (form_name form.Fwd) refl
feedless_form form.Call = Lacks-tested 10 (form_name form.Call) refl
feedless_form form.Empty = Lacks-tested 10 (form_name form.Empty) refl
feedless_form form.Add = Lacks-tested 10 (form_name form.Add) refl
feedless_form form.Match = Lacks-tested 10 (form_name form.Match) refl

-- a form that no gas follows is read as itself
pub form_itself : ReadsItself IsGasless form_name
form_itself f is =
    record {
      found = (is, refl);
      each = λ g g_is same.
          let here : form_named (form_name f) ≡ Some f = (form_named_reads (form_name f)).each f tt refl in
          let there : form_named (form_name f) ≡ Some g = (form_named_reads (form_name f)).each g tt same in
          sym here ∙ there;
    }

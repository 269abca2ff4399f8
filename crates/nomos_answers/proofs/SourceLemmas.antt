-- What sources have left, and what was read of it.
use Rattle.std.proofs.Common.{◌≡◌, ℕ, ◌<◌, ◌+◌, List, [], length, replicate, Option, Some, None, Result, Ok, Err, refl, arith}
use Rattle.std.specs.Prelude.{IfOk, IfErr}
use Rattle.std.proofs.Math.ListN.{length-replicate}
use Rattle.nomos_base.proofs.ToldLaws.{TakesExactly-told}
use Rattle.nomos_base.specs.Source.{TakesAll, TakesExactly}
use Rattle.nomos_answers.specs.Outside.{HasText}

-- some text that a source may have
pub some_text : (left : Option (List ℕ)) → (text : List ℕ) × HasText left text
some_text None = ([], tt)
some_text (Some text) = (text, refl)

-- some text is longer than that
pub some_longer : (n : ℕ) → (text : List ℕ) × (n < length text)
some_longer n = (replicate (n + 1) 0, rw length-replicate (omega arith))

-- a text past a limit, which the source has
pub long_text : (limit : ℕ) (left now : Option (List ℕ)) → TakesExactly (limit + 1) left now
    → (text : List ℕ) × HasText left text × (limit < length text)
long_text limit None now h = let longer = some_longer limit in (longer.0, tt, longer.1)
long_text limit (Some text) now h = (text, refl, omega (arith, TakesExactly-told (limit + 1) text now h))

-- all that was taken is what the source had
pub taken_text : (bytes : List ℕ) (left now : Option (List ℕ)) → TakesAll bytes left now → HasText left bytes
taken_text bytes None now h = tt
taken_text bytes (Some all) now h = h.0

pub taken-same : (bytes text : List ℕ) (left now : Option (List ℕ)) → TakesAll bytes left now → left ≡ Some text
    → bytes ≡ text
taken-same bytes text None now h e = cc e
taken-same bytes text (Some all) now h e = let same : all ≡ text = cc e in rw same at h.0

-- what a source tells is one text
pub told-same : (left : Option (List ℕ)) (text told : List ℕ) → HasText left told → left ≡ Some text → told ≡ text
told-same None text told h e = cc e
told-same (Some all) text told h e = let same : all ≡ text = cc e in rw same at h

-- more bytes than a text has are not taken of it
pub taken-within : (limit : ℕ) (text : List ℕ) (left now : Option (List ℕ)) → TakesExactly (limit + 1) left now
    → left ≡ Some text → limit < length text
taken-within limit text None now h e = cc e
taken-within limit text (Some all) now h e =
    let same : all ≡ text = cc e in
    let less : limit < length all = omega (arith, TakesExactly-told (limit + 1) all now h) in
    rw same at less

-- what holds of a result's value, from what holds of it
pub if_ok-map : {X E : Type 0} (r : Result X E) (P Q : X → Type 0) → ((x : X) → P x → Q x) → IfOk r P → IfOk r Q
if_ok-map (Ok x) P Q f h = f x h
if_ok-map (Err e) P Q f h = tt

-- the same of an error
pub if_err-map : {X E : Type 0} (r : Result X E) (P Q : E → Type 0) → ((e : E) → P e → Q e) → IfErr r P → IfErr r Q
if_err-map (Ok x) P Q f h = tt
if_err-map (Err e) P Q f h = f e h

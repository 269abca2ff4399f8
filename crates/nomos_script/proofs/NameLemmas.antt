-- The bytes of a name are text.
use Rattle.std.proofs.Common.{◌≡◌, ℕ, ◌<◌, true, List, IsTrue, Result, Ok, Err, refl, arith}
use Rattle.std.specs.Result.{MatchResult, IsOk}
use Rattle.std.specs.Str.{IsUtf8}
use Rattle.std.proofs.lemmas.Bool.Decides.{nat_tests}
use Rattle.std.proofs.lemmas.List.Elements.{All-weaker}
use Rattle.std.proofs.lemmas.Str.{IsUtf8-from_ascii}
use Rattle.std.proofs.lemmas.Str.Ascii.{IsAscii-from_all}
use Rattle.nomos_ir.specs.Name.{is_word_byte}
use Rattle.nomos_script.specs.ScriptNames.{IsScriptName}

-- a byte of a word is ASCII
word_byte_below : (b : ℕ) → is_word_byte b ≡ true → b < 128
word_byte_below b h = grind (arith, nat_tests)

pub name_is_text : (bytes : List ℕ) → IsScriptName bytes → IsUtf8 bytes
name_is_text bytes name =
    IsUtf8-from_ascii bytes (IsAscii-from_all bytes
    (All-weaker (λ b. IsTrue (is_word_byte b)) (λ b. b < 128) word_byte_below bytes name.word.each))

-- what fails only where the bytes are no text succeeds where they are
pub text_is_read : {T E : Type 0} (U : Type 0) (P : T → Type 0) (Q : E → Type 0) (r : Result T E)
    → MatchResult r P (λ e. ¬ U × Q e) → U → IsOk r
text_is_read U P Q (Ok x) h text = refl
text_is_read U P Q (Err e) h text = absurd (h.0 text)

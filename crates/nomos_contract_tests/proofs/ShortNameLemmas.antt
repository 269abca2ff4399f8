-- Which texts are names of at most 64 bytes.
use Rattle.std.proofs.Common.{◌≡◌, ℕ, List, None}
use Rattle.nomos_ir.specs.Name.{IsShortName}
use Rattle.nomos_ir.specs.Word.{reserved_word}
use Rattle.nomos_syntax.proofs.WordLemmas.{not_reserved}
use Rattle.nomos_contract_tests.specs.Fitting.{IsShortWord}

-- a short word that is not reserved is a name
pub short_name : (text : List ℕ) → IsShortWord text → reserved_word text ≡ None → IsShortName text
short_name text is none = record { name = record { word = is.word; free = not_reserved text none }; short = is.short }

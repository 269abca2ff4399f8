-- One token of the values.
use Rattle.std.proofs.Common.{◌≡◌, true, false, List, ◌∷◌, Some, refl}
use Rattle.nomos_script.specs.ScriptScan.{Token}
use Rattle.nomos_script.specs.mirror.ValueReading.{ReadValues, take_token, ends_values, read_values}

-- a token that ends the values
pub read-ends : (r : ReadValues) (token : Token) (tokens : List Token) → ends_values token r ≡ true
    → read_values r (token ∷ tokens) ≡ Some (r.values, tokens)
read-ends r token tokens ends = rw ends refl

-- one that may come
pub read-takes : (r next : ReadValues) (token : Token) (tokens : List Token) → ends_values token r ≡ false
    → take_token token r ≡ Some next → read_values r (token ∷ tokens) ≡ read_values next tokens
read-takes r next token tokens goes taken = rw (goes, taken) refl

-- Arguments: values and names in parentheses.
use Rattle.std.proofs.Common.{◌≡◌, ℕ, List, [], ◌∷◌, Some, None, codes, sym, ◌∙◌, ap}
use Rattle.nomos_ir.specs.Value.{Value}
use Rattle.nomos_script.specs.Form.{print_names}
use Rattle.nomos_script.specs.ScriptScan.{Token, mark}
use Rattle.nomos_script.specs.mirror.ReaderSeen.{AreNames, AreArguments}
use Rattle.nomos_script.specs.ValueTree.{print_values}
use Rattle.nomos_script.specs.mirror.ValueReading.{nothing_read, read_values}
use Rattle.nomos_script.proofs.NamesLemmas.{names_once}
use Rattle.nomos_script.proofs.SoundLemmas.{read_are_written, read_once, not_read}

-- the tokens behind `(`
inside : (tokens behind : List Token) (values : List Value) (names : List (List ℕ))
    → tokens ≡ mark (codes "(") ∷ behind → (h : AreArguments tokens values names)
    → behind ≡ print_values h.trees (mark (codes ";") ∷ print_names names (mark (codes ")") ∷ []))
inside tokens behind values names begins h = let printed = h.printed in cc

-- values and names make arguments
pub arguments_together : (tokens behind after rest : List Token) (values : List Value) (names : List (List ℕ))
    → tokens ≡ mark (codes "(") ∷ behind → read_values nothing_read behind ≡ Some (values, after)
    → AreNames after names rest → rest ≡ [] → AreArguments tokens values names
arguments_together tokens behind after rest values names begins read named last =
    let w = read_are_written values after behind read in
    record {
      trees = w.trees;
      printed = begins ∙ ap (λ t. mark (codes "(") ∷ t)
          (w.printed ∙ ap (λ t. print_values w.trees (mark (codes ";") ∷ t))
          (named.printed ∙ ap (λ t. print_names names (mark (codes ")") ∷ t)) last));
      valid = w.valid;
      each = named.each;
      are = w.are;
    }

-- without values there are none
pub arguments_valueless : (tokens behind : List Token) → tokens ≡ mark (codes "(") ∷ behind
    → read_values nothing_read behind ≡ None → (values : List Value) (names : List (List ℕ))
    → ¬ AreArguments tokens values names
arguments_valueless tokens behind begins none values names = λ h.
    not_read h.trees (print_names names (mark (codes ")") ∷ [])) behind h.valid
    (inside tokens behind values names begins h) none

-- what stands behind the values of arguments
pub arguments_names : (tokens behind after : List Token) (found values : List Value) (names : List (List ℕ))
    → tokens ≡ mark (codes "(") ∷ behind → read_values nothing_read behind ≡ Some (found, after)
    → AreArguments tokens values names → AreNames after names []
arguments_names tokens behind after found values names begins read h = record {
  printed = sym (read_once h.trees (print_names names (mark (codes ")") ∷ [])) behind after found h.valid
      (inside tokens behind values names begins h) read);
  each = h.each;
}

-- and behind their names
pub arguments_end : (after rest : List Token) (names others : List (List ℕ)) → AreNames after names []
    → AreNames after others rest → rest ≡ []
arguments_end after rest names others h k = (names_once others names rest [] (sym k.printed ∙ h.printed)).1

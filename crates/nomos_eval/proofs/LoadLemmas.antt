-- Values on their way out.
use Rattle.std.proofs.Common.{◌≡◌, ◌<◌, ◌≤◌, ℕ, List, [], ◌∷◌, ◌++◌, length, map, get_or, refl, sym, ap, ◌∙◌, arith}
use Rattle.std.proofs.lemmas.List.{map-append}
use Rattle.nomos_ir.specs.declared.value_node.ValueNode.{ValueNode}
use Rattle.nomos_ir.specs.Value.{Value, list, ValueList, no_values, value, value_list}
use Rattle.nomos_ir.specs.ValueNode.{value_of}
use Rattle.nomos_eval.specs.declared.datum.Datum.{Datum}
use Rattle.nomos_eval.specs.mirror.Load.{before_list}
use Rattle.nomos_eval.specs.mirror.EvalTable.{datum_value, reach}

before-push : (vs : List Value) (v : Value) (ws : ValueList)
    → before_list (vs ++ v ∷ []) ws ≡ before_list vs (value v ws)
before-push [] v ws = refl
before-push (u ∷ vs) v ws = ap (value u) (before-push vs v ws)

-- one more value is given out
pub unload-step : (lists : List ValueList) (items more : List ValueNode) (node : ValueNode) (at place tail : ℕ)
    (head : Datum) (whole : ValueList) → more ≡ items ++ node ∷ [] → value_of node ≡ datum_value lists head
    → (reach head ≤ at) × (tail < at) × (get_or lists at no_values
    ≡ value (datum_value lists head) (get_or lists tail no_values))
    → (at ≤ place) × (at < length lists) × (before_list (map value_of items) (get_or lists at no_values) ≡ whole)
    → (tail ≤ place) × (tail < length lists) × (before_list (map value_of more) (get_or lists tail no_values) ≡ whole)
unload-step lists items more node at place tail head whole pushed node_is parts so_far = (
  omega (arith, parts.1, so_far.0),
  omega (arith, parts.1, so_far.1),
  ap (λ l. before_list (map value_of l) (get_or lists tail no_values)) pushed
      ∙ ap (λ l. before_list l (get_or lists tail no_values)) (map-append value_of items (node ∷ []))
      ∙ before-push (map value_of items) (value_of node) (get_or lists tail no_values)
      ∙ ap (λ v. before_list (map value_of items) (value v (get_or lists tail no_values))) node_is
      ∙ ap (before_list (map value_of items)) (sym parts.2)
      ∙ so_far.2,
)

-- values before others are one list
pub before-all : (vs ws : List Value) → before_list vs (value_list ws) ≡ value_list (vs ++ ws)
before-all [] ws = refl
before-all (v ∷ vs) ws = ap (value v) (before-all vs ws)

-- what was gathered stands before what was given
pub unload-given : (lists : List ValueList) (items : List ValueNode) (at : ℕ) (whole : ValueList)
    (rest copy : List Value) (node : ValueNode) → value_of node ≡ list (value_list (map value_of items ++ copy))
    → copy ≡ rest → get_or lists at no_values ≡ value_list rest
    → before_list (map value_of items) (get_or lists at no_values) ≡ whole → value_of node ≡ list whole
unload-given lists items at whole rest copy node node_is copied there so_far =
    node_is
    ∙ ap (λ r. list (value_list (map value_of items ++ r))) copied
    ∙ ap list (sym (before-all (map value_of items) rest) ∙ ap (before_list (map value_of items)) (sym there) ∙ so_far)

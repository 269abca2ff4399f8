-- What is done with the topmost values.
use Rattle.std.proofs.Common.{◌≡◌, ◌+◌, ◌<◌, ◌≤◌, ℕ, true, cond, nat_le, List, [], ◌∷◌, ◌++◌, length, map, get_or, Err, refl, sym, ap, ◌∙◌, subst, arith, length-append, tests, rules}
use Rattle.std.specs.List.{AllByRecursion}
use Rattle.nomos_ir.specs.declared.fault.Fault.TheVariants as fault
use Rattle.nomos_ir.specs.declared.lists.ProgramLists.{ProgramLists}
use Rattle.nomos_ir.specs.Evaluation.{ends, faults, go_on, on_numbers, put_before}
use Rattle.nomos_ir.specs.Value.{Value, list, ValueList, no_values, value}
use Rattle.nomos_ir.specs.Weight.{weight, list_weight, max_weight}
use Rattle.nomos_ir.proofs.EvaluationLaws.{evaluation_from}
use Rattle.nomos_eval.specs.declared.pending.Pending.{Pending}
use Rattle.nomos_eval.specs.declared.pending.Pending.TheVariants as act
use Rattle.nomos_eval.specs.declared.datum.Datum.{Datum}
use Rattle.nomos_eval.specs.declared.datum.Datum.TheVariants as datum
use Rattle.nomos_eval.specs.declared.evaluator.Evaluator.{Evaluator}
use Rattle.nomos_eval.specs.declared.numbers.NumberOperator.{NumberOperator}
use Rattle.nomos_ir.specs.declared.fault.Fault.{Fault}
use Rattle.nomos_ir.specs.declared.or_no_memory.OrNoMemory.{OrNoMemory}
use Rattle.nomos_ir.specs.declared.or_no_memory.OrNoMemory.TheVariants as stop
use Rattle.nomos_eval.specs.mirror.Evaluator.{held, scopes_held, IsSound, IsDone, Stops, Operated, top_datum, below_top}
use Rattle.nomos_eval.specs.mirror.Operation.{operation}
use Rattle.nomos_eval.specs.mirror.Rest.{Variables, rest, top, below}
use Rattle.nomos_eval.specs.mirror.EvalTable.{datum_value, reach, capped}
use Rattle.nomos_eval.proofs.EvaluatorLemmas.{values-more, scopes-more, values-higher, scopes-higher, last-list}

-- the topmost value, and those below it
pub top-found : (lists : List ValueList) (ds : List Datum)
    → top (map (datum_value lists) ds) ≡ datum_value lists (top_datum ds)
top-found lists [] = refl
top-found lists (d ∷ ds) = refl

pub below-found : (lists : List ValueList) (ds : List Datum)
    → below (map (datum_value lists) ds) ≡ map (datum_value lists) (below_top ds)
below-found lists [] = refl
below-found lists (d ∷ ds) = refl

pub top-in : (n : ℕ) (ds : List Datum) → AllByRecursion (λ d. reach d ≤ n) ds → reach (top_datum ds) ≤ n
top-in n [] inside = omega arith
top-in n (d ∷ ds) inside = inside.0

pub below-in : (n : ℕ) (ds : List Datum) → AllByRecursion (λ d. reach d ≤ n) ds
    → AllByRecursion (λ d. reach d ≤ n) (below_top ds)
below-in n [] inside = tt
below-in n (d ∷ ds) inside = inside.1

-- two values were taken
record AreTaken (old : List Datum) (x y : Datum) (others : List Datum) : Type 0 where
  last : y ≡ top_datum old
  first : x ≡ top_datum (below_top old)
  rest_is : others ≡ below_top (below_top old)

taken : (old mid others : List Datum) (x y : Datum) → y ≡ top_datum old → mid ≡ below_top old → x ≡ top_datum mid
    → others ≡ below_top mid → AreTaken old x y others
taken old mid others x y last mid_is first others_is =
    record { last = last; first = first ∙ ap top_datum mid_is; rest_is = others_is ∙ ap below_top mid_is }

-- an operator, by the two topmost values
numbers-step : (program : ProgramLists) (lists : List ValueList) (scopes : Variables) (todo : List Pending)
    (operator : NumberOperator) (old others : List Datum) (x y : Datum) (n : ℕ) → AreTaken old x y others
    → rest (evaluation_from program) program scopes (act.Numbers operator ∷ todo) (map (datum_value lists) old) n
    ≡ go_on (on_numbers (operation operator) (datum_value lists x) (datum_value lists y) n)
    (λ v. rest (evaluation_from program) program scopes todo (v ∷ map (datum_value lists) others))
numbers-step program lists scopes todo operator old others x y n took =
    let V = map (datum_value lists) old in
    let y_is : top V ≡ datum_value lists y = top-found lists old ∙ ap (datum_value lists) (sym took.last) in
    let below_is : below V ≡ map (datum_value lists) (below_top old) = below-found lists old in
    let x_is : top (below V) ≡ datum_value lists x = ap top below_is ∙ top-found lists (below_top old)
    ∙ ap (datum_value lists) (sym took.first) in
    let others_is : below (below V) ≡ map (datum_value lists) others = ap below below_is
    ∙ below-found lists (below_top old) ∙ ap (map (datum_value lists)) (sym took.rest_is) in
    ap (λ a. go_on (on_numbers (operation operator) a (top V) n)
    (λ v. rest (evaluation_from program) program scopes todo (v ∷ below (below V)))) x_is
    ∙ ap (λ b. go_on (on_numbers (operation operator) (datum_value lists x) b n)
    (λ v. rest (evaluation_from program) program scopes todo (v ∷ below (below V)))) y_is
    ∙ ap (λ c. go_on (on_numbers (operation operator) (datum_value lists x) (datum_value lists y) n)
    (λ v. rest (evaluation_from program) program scopes todo (v ∷ c))) others_is

pub numbers-done : (operator : NumberOperator) (old : Evaluator) (mid others values : List Datum) (x y d : Datum)
    → IsSound old
    → y ≡ top_datum old.values → mid ≡ below_top old.values → x ≡ top_datum mid → others ≡ below_top mid
    → ((lists : List ValueList) (n : ℕ)
    → on_numbers (operation operator) (datum_value lists x) (datum_value lists y) n ≡ ends (datum_value lists d) n)
    × (reach d ≡ 0) → values ≡ d ∷ others
    → IsDone (act.Numbers operator) old
    (record { todo = old.todo; values = values; lists = old.lists; scopes = old.scopes; around = old.around })
numbers-done operator old mid others values x y d sound last mid_is first others_is gave pushed =
    let took = taken old.values mid others x y last mid_is first others_is in
    let inside : AllByRecursion (λ e. reach e ≤ length old.lists) others =
    (let P : List Datum → Type 0 = λ l.
    AllByRecursion (λ e. reach e ≤ length old.lists) l in subst P (sym took.rest_is)
    (below-in (length old.lists) (below_top old.values) (below-in (length old.lists) old.values sound.values))) in
    let P : List Datum → Type 0 = λ l. IsDone (act.Numbers operator) old
    (record { todo = old.todo; values = l; lists = old.lists; scopes = old.scopes; around = old.around }) in
    subst
    P
    (sym pushed)
    (record {
      sound = record {
        todo = sound.todo;
        values = (omega (arith, gave.1), inside);
        scopes = sound.scopes;
        rises = sound.rises;
      };
      same =
          λ program n. numbers-step program old.lists (scopes_held old) old.todo operator old.values others x y n took
          ∙ ap (λ e. go_on e (λ v. rest (evaluation_from program) program (scopes_held old) old.todo
          (v ∷ map (datum_value old.lists) others))) (gave.0 old.lists n);
      less = omega arith;
    })

pub numbers-fault : (operator : NumberOperator) (old : Evaluator) (mid others : List Datum) (x y : Datum)
    (why : OrNoMemory Fault) → y ≡ top_datum old.values → mid ≡ below_top old.values → x ≡ top_datum mid
    → others ≡ below_top mid → Operated operator x y (Err why) → Stops (act.Numbers operator) old why
numbers-fault operator old mid others x y (stop.Answer f) last mid_is first others_is gave =
    λ program n. numbers-step program old.lists (scopes_held old) old.todo operator old.values others x y n
    (taken old.values mid others x y last mid_is first others_is)
    ∙ ap (λ e. go_on e (λ v. rest (evaluation_from program) program (scopes_held old) old.todo
    (v ∷ map (datum_value old.lists) others))) (gave old.lists n)
numbers-fault operator old mid others x y stop.NoMemory last mid_is first others_is gave = tt

-- `::`, by the two topmost values
put-step : (program : ProgramLists) (lists : List ValueList) (scopes : Variables) (todo : List Pending)
    (old others : List Datum) (x y : Datum) (n : ℕ) → AreTaken old x y others
    → rest (evaluation_from program) program scopes (act.PutBefore ∷ todo) (map (datum_value lists) old) n
    ≡ go_on (put_before (datum_value lists x) (datum_value lists y) n)
    (λ v. rest (evaluation_from program) program scopes todo (v ∷ map (datum_value lists) others))
put-step program lists scopes todo old others x y n took =
    let V = map (datum_value lists) old in
    let y_is : top V ≡ datum_value lists y = top-found lists old ∙ ap (datum_value lists) (sym took.last) in
    let below_is : below V ≡ map (datum_value lists) (below_top old) = below-found lists old in
    let x_is : top (below V) ≡ datum_value lists x = ap top below_is ∙ top-found lists (below_top old)
    ∙ ap (datum_value lists) (sym took.first) in
    let others_is : below (below V) ≡ map (datum_value lists) others = ap below below_is
    ∙ below-found lists (below_top old) ∙ ap (map (datum_value lists)) (sym took.rest_is) in
    ap (λ a. go_on (put_before a (top V) n)
    (λ v. rest (evaluation_from program) program scopes todo (v ∷ below (below V)))) x_is
    ∙ ap (λ b. go_on (put_before (datum_value lists x) b n)
    (λ v. rest (evaluation_from program) program scopes todo (v ∷ below (below V)))) y_is
    ∙ ap (λ c. go_on (put_before (datum_value lists x) (datum_value lists y) n)
    (λ v. rest (evaluation_from program) program scopes todo (v ∷ c))) others_is

-- a list that was added is found
added-step : (program : ProgramLists) (old : Evaluator) (vs : ValueList) (others : List Datum) (n : ℕ) → IsSound old
    → AllByRecursion (λ e. reach e ≤ length old.lists) others
    → rest (evaluation_from program) program (scopes_held old) old.todo (list vs ∷ map (datum_value old.lists) others) n
    ≡ rest (evaluation_from program) program
    (record { bound = map (held (old.lists ++ vs ∷ [])) old.scopes; around = old.around.env.now }) old.todo
    (map (datum_value (old.lists ++ vs ∷ [])) (datum.List (length old.lists) ∷ others)) n
added-step program old vs others n sound inside =
    let more = old.lists ++ vs ∷ [] in
    ap (λ ss. rest (evaluation_from program) program (record { bound = ss; around = old.around.env.now }) old.todo
    (list vs ∷ map (datum_value old.lists) others) n)
    (sym (scopes-more old.lists (vs ∷ []) old.scopes sound.scopes))
    ∙ ap (λ ws. rest (evaluation_from program) program
    (record { bound = map (held more) old.scopes; around = old.around.env.now }) old.todo (list vs ∷ ws) n)
    (sym (values-more old.lists (vs ∷ []) others inside))
    ∙ ap (λ v. rest (evaluation_from program) program
    (record { bound = map (held more) old.scopes; around = old.around.env.now }) old.todo
    (list v ∷ map (datum_value more) others) n) (sym (last-list old.lists vs))

light : (v : Value) (vs : ValueList) (a b : ℕ) (n : ℕ) → a ≡ capped v → b ≡ capped (list vs) → a + b < max_weight
    → put_before v (list vs) n ≡ ends (list (value v vs)) n
light v vs a b n a_is b_is small =
    let within : nat_le (list_weight (value v vs)) max_weight
    ≡ true = (let le : 1 + weight v + list_weight vs
    ≤ max_weight = omega (arith, a_is, b_is, small) in search (tests, rules)) in
    ap (λ c. cond c (ends (list (value v vs)) n) (faults fault.ListLength)) within

pub put-done : (old : Evaluator) (mid others values : List Datum) (lists : List ValueList) (x y : Datum)
    (place joined a b : ℕ) → IsSound old → y ≡ top_datum old.values → mid ≡ below_top old.values → x ≡ top_datum mid
    → others ≡ below_top mid → y ≡ datum.List place → a ≡ capped (datum_value old.lists x)
    → b ≡ capped (list (get_or old.lists place no_values)) → a + b < max_weight → joined ≡ length old.lists
    → lists ≡ old.lists ++ value (datum_value old.lists x) (get_or old.lists place no_values) ∷ []
    → values ≡ datum.List joined ∷ others
    → IsDone act.PutBefore old (record {
      todo = old.todo;
      values = values;
      lists = lists;
      scopes = old.scopes;
      around
          = old.around;
    })
put-done old mid others values lists x y place joined a b sound last mid_is first others_is y_list a_is b_is small
    joined_is added pushed =
    let took = taken old.values mid others x y last mid_is first others_is in
    let inside : AllByRecursion (λ e. reach e ≤ length old.lists) others =
    (let P : List Datum → Type 0 = λ l.
    AllByRecursion (λ e. reach e ≤ length old.lists) l in subst P (sym took.rest_is)
    (below-in (length old.lists) (below_top old.values) (below-in (length old.lists) old.values sound.values))) in
    let vs = value (datum_value old.lists x) (get_or old.lists place no_values) in
    let more = old.lists ++ vs ∷ [] in
    let longer : length more ≡ length old.lists + 1 = omega (arith, length-append old.lists (vs ∷ [])) in
    let new : Evaluator = record {
      todo = old.todo;
      values = datum.List (length old.lists) ∷
          others;
      lists = more;
      scopes = old.scopes;
      around = old.around;
    } in
    let all : record { todo = old.todo; values = values; lists = lists; scopes = old.scopes; around = old.around } ≡
    new =
    ap (λ ws. record { todo = old.todo; values = ws; lists = lists; scopes = old.scopes; around = old.around })
    (pushed ∙ ap (λ p. datum.List p ∷ others) joined_is)
    ∙ ap (λ l. record {
      todo = old.todo;
      values = datum.List (length old.lists) ∷
          others;
      lists = l;
      scopes = old.scopes;
      around = old.around;
    }) added in
    let y_value : datum_value old.lists y
    ≡ list (get_or old.lists place no_values) = ap (datum_value old.lists) y_list in
    let P : Evaluator → Type 0 = λ m. IsDone act.PutBefore old m in
    subst
    P
    (sym all)
    (record {
      sound =
          record {
            todo = sound.todo;
            values = (
              omega (arith, longer),
              values-higher (length old.lists) (length more) others (omega (arith, longer))
                  inside,
            );
            scopes = scopes-higher (length old.lists) (length more) old.scopes (omega (arith, longer)) sound.scopes;
            rises = sound.rises;
          };
      same = λ program n.
          put-step program old.lists (scopes_held old) old.todo old.values others x y n took
          ∙ ap (λ w. go_on (put_before (datum_value old.lists x) w n)
          (λ v. rest (evaluation_from program) program (scopes_held old) old.todo
          (v ∷ map (datum_value old.lists) others))) y_value
          ∙ ap (λ e. go_on e (λ v. rest (evaluation_from program) program (scopes_held old) old.todo
          (v ∷ map (datum_value old.lists) others)))
          (light (datum_value old.lists x) (get_or old.lists place no_values) a b n a_is b_is small)
          ∙ added-step program old vs others n sound inside;
      less = omega arith;
    })

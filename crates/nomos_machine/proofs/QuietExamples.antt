-- Opposite acquires that block each other, and which process a policy chooses.
use Rattle.std.proofs.Common.{◌≡◌, ◌≢◌, ◌∙◌, ◌<◌, inl, inr, ℕ, zero, suc, true, false, true≢false, List, [], ◌∷◌, Option, Some, None, is_some, option_and_then, pos, refl, sym, subst, arith}
use Rattle.std.specs.List.{AllByRecursion}
use Rattle.nomos_ir.specs.Value.{int}
use Rattle.nomos_ir.specs.declared.ids.VarId.{VarId}
use Rattle.nomos_ir.specs.declared.mode.Mode.TheVariants as mode
use Rattle.nomos_types.specs.Acceptance.{Acceptance}
use Rattle.nomos_machine.specs.Objects.{object_number, object_at, process_of}
use Rattle.nomos_machine.specs.Policies.{IsChosen, FollowsPolicy, done, fires}
use Rattle.nomos_machine.specs.RowPrograms.{type_id, var_id, cells, cell_holder, takes_both, forwarding}
use Rattle.nomos_machine.specs.RowStates.{stands_at}
use Rattle.nomos_machine.specs.Run.{IsNextReady, NoneReady, IsQuiet, run}
use Rattle.nomos_machine.specs.Starting.{opened, started}
use Rattle.nomos_machine.specs.State.{State, NameTypes, empty}
use Rattle.nomos_machine.specs.Step.{deed, IsReady, step}
use Rattle.nomos_machine.specs.declared.object.Object.{Object}
use Rattle.nomos_machine.specs.declared.object.Object.TheVariants as object
use Rattle.nomos_machine.specs.declared.policy.Policy.TheVariants as policy
use Rattle.nomos_machine.proofs.PutLaws.{object_at-further}
use Rattle.nomos_machine.proofs.RunExamples.{run_state, hears_2, hears_3, hears_4, last_said, first_said}

-- ---- no process is ready whose number no object has

abbrev NoneHas : ℕ → List Object → Type 0
NoneHas q objects = AllByRecursion (λ o. object_number o ≢ q) objects

not-there : (q : ℕ) (objects : List Object) → NoneHas q objects → object_at objects q ≡ None
not-there q [] others = refl
not-there q (o ∷ objects) others = object_at-further q o objects others.0 ∙ not-there q objects others.1

not-ready : (a : Acceptance) (s : State) (q : ℕ) → NoneHas q s.objects → ¬ IsReady a s q
not-ready a s q others ready =
    let P : Option Object → Type 0 = λ found.
    is_some (option_and_then (deed a s) (option_and_then process_of found)) ≡ true in
    let gone : false ≡ true = subst P (not-there q s.objects others) ready in
    true≢false (sym gone)

-- ---- opposite acquires

-- a contract at an instruction, which stands for the name of its number; one that is acquired, with what it offers
abbrev holder : ℕ → ℕ → Object
holder pid n = object.Process (record (stands_at n) { pid = pid; mode = mode.S; offers = pid; payer = 0 })

abbrev acquired_holder : ℕ → ℕ → ℕ → Object
acquired_holder pid n offers =
    object.Process (record (stands_at n) { pid = pid; mode = mode.L; offers = offers; base = Some pid; payer = 0 })

-- a transaction at an instruction, with these channels
abbrev chooser : ℕ → ℕ → List (VarId × ℕ) → Object
chooser pid n channels = object.Process (record (stands_at n) {
  pid = pid;
  mode = mode.T;
  values = (var_id 9, int (pos 0)) ∷ [];
  channels = channels;
  offers = pid;
  payer = 0;
})

abbrev to_one_and_two : List (VarId × ℕ)
to_one_and_two = (var_id 1, 1) ∷ (var_id 2, 2) ∷ []

abbrev to_two_and_one : List (VarId × ℕ)
to_two_and_one = (var_id 1, 2) ∷ (var_id 2, 1) ∷ []

abbrev names_of_four : NameTypes
names_of_four = (1, type_id 3) ∷ (2, type_id 3) ∷ (3, type_id 6) ∷ (4, type_id 6) ∷ []

-- two contracts, and two transactions that acquire them in opposite orders
abbrev four : State
four =
    run_state
    5
    5
    names_of_four
    (holder 1 2 ∷ holder 2 2 ∷ chooser 3 7 to_one_and_two ∷ chooser 4 7 to_two_and_one ∷ [])

two_holders : started cells (started cells (opened empty 10) cell_holder [] [] 0) cell_holder [] [] 0
    ≡ run_state 3 3 ((1, type_id 3) ∷ (2, type_id 3) ∷ []) (holder 1 2 ∷ holder 2 2 ∷ [])
two_holders = refl

four_start : started
    cells
    (started
    cells
    (run_state 3 3 ((1, type_id 3) ∷ (2, type_id 3) ∷ []) (holder 1 2 ∷ holder 2 2 ∷ []))
    takes_both
    []
    to_one_and_two
    0)
    takes_both
    []
    to_two_and_one
    0
    ≡ four
four_start = refl

abbrev one_acquired : State
one_acquired =
    run_state
    5
    6
    ((1, type_id 3) ∷ (2, type_id 3) ∷ (3, type_id 6) ∷ (4, type_id 6) ∷ (5, type_id 1) ∷ [])
    (acquired_holder 1 1 5
    ∷ holder 2 2
    ∷ chooser 3 6 ((var_id 1, 1) ∷ (var_id 2, 2) ∷ (var_id 3, 5) ∷ [])
    ∷ chooser 4 7 to_two_and_one
    ∷ [])

first_acquires : step cells four 3 ≡ Some one_acquired
first_acquires = refl

-- each holds what the other one wants
abbrev blocked : State
blocked =
    run_state
    5
    7
    ((1, type_id 3) ∷ (2, type_id 3) ∷ (3, type_id 6) ∷ (4, type_id 6) ∷ (5, type_id 1) ∷ (6, type_id 1) ∷ [])
    (acquired_holder 1 1 5
    ∷ acquired_holder 2 1 6
    ∷ chooser 3 6 ((var_id 1, 1) ∷ (var_id 2, 2) ∷ (var_id 3, 5) ∷ [])
    ∷ chooser 4 6 ((var_id 1, 2) ∷ (var_id 2, 1) ∷ (var_id 3, 6) ∷ [])
    ∷ [])

second_acquires : step cells one_acquired 4 ≡ Some blocked
second_acquires = refl

blocked_is_quiet : IsQuiet cells blocked
blocked_is_quiet zero ready = true≢false (sym ready)
blocked_is_quiet (suc zero) ready = true≢false (sym ready)
blocked_is_quiet (suc (suc zero)) ready = true≢false (sym ready)
blocked_is_quiet (suc (suc (suc zero))) ready = true≢false (sym ready)
blocked_is_quiet (suc (suc (suc (suc zero)))) ready = true≢false (sym ready)
blocked_is_quiet (suc (suc (suc (suc (suc q))))) ready =
    not-ready
    cells
    blocked
    (suc (suc (suc (suc (suc q)))))
    ((λ e. omega arith), ((λ e. omega arith), ((λ e. omega arith), ((λ e. omega arith), tt))))
    ready

-- one after the other they end, and the contracts stand at `accept` again
abbrev two_left : State
two_left = run_state 5 9 ((1, type_id 3) ∷ (2, type_id 3) ∷ []) (holder 1 2 ∷ holder 2 2 ∷ [])

one_after_the_other : run cells four (3 ∷ 3 ∷ 3 ∷ 1 ∷ 3 ∷ 2 ∷ 3 ∷ 4 ∷ 4 ∷ 4 ∷ 2 ∷ 4 ∷ 1 ∷ 4 ∷ []) ≡ Some two_left
one_after_the_other = refl

two_left_are_quiet : IsQuiet cells two_left
two_left_are_quiet zero ready = true≢false (sym ready)
two_left_are_quiet (suc zero) ready = true≢false (sym ready)
two_left_are_quiet (suc (suc zero)) ready = true≢false (sym ready)
two_left_are_quiet (suc (suc (suc q))) ready =
    not-ready cells two_left (suc (suc (suc q))) ((λ e. omega arith), ((λ e. omega arith), tt)) ready

-- ---- policies, where the first process waits and the second and the third are ready

second_is_next : IsNextReady forwarding hears_2 0 2
second_is_next = record { over = omega arith; ready = refl; lowest = lowest }
  where
    lowest : (q : ℕ) → 0 < q → q < 2 → ¬ IsReady forwarding hears_2 q
    lowest zero over below ready = true≢false (sym ready)
    lowest (suc zero) over below ready = true≢false (sym ready)
    lowest (suc (suc q)) over below ready = absurd (omega arith)

third_is_next : IsNextReady forwarding hears_2 2 3
third_is_next = record { over = omega arith; ready = refl; lowest = λ q over below. absurd (omega arith) }

none_over_third : NoneReady forwarding hears_2 3
none_over_third zero over ready = true≢false (sym ready)
none_over_third (suc zero) over ready = true≢false (sym ready)
none_over_third (suc (suc zero)) over ready = absurd (omega arith)
none_over_third (suc (suc (suc zero))) over ready = absurd (omega arith)
none_over_third (suc (suc (suc (suc q)))) over ready =
    not-ready
    forwarding
    hears_2
    (suc (suc (suc (suc q))))
    ((λ e. omega arith), ((λ e. omega arith), ((λ e. omega arith), tt)))
    ready

-- `First` takes the second, whichever fired last
first_chooses : IsChosen policy.First forwarding hears_2 2 2
first_chooses = second_is_next

-- `Round` takes the lowest over the last one, and after the third goes round
round_starts : IsChosen policy.Round forwarding hears_2 0 2
round_starts = inl second_is_next

round_goes_on : IsChosen policy.Round forwarding hears_2 2 3
round_goes_on = inl third_is_next

round_goes_round : IsChosen policy.Round forwarding hears_2 3 2
round_goes_round = inr (none_over_third, second_is_next)

-- the other one that is ready is not chosen
first_leaves_third : ¬ IsChosen policy.First forwarding hears_2 2 3
first_leaves_third chosen = chosen.lowest 2 (omega arith) (omega arith) refl

round_leaves_second : ¬ IsChosen policy.Round forwarding hears_2 2 2
round_leaves_second (inl next) = absurd (omega (arith, next.over))
round_leaves_second (inr gone) = gone.0 3 (omega arith) refl

-- two firings as `Round` has them
third_is_next_then : IsNextReady forwarding hears_3 2 3
third_is_next_then = record { over = omega arith; ready = refl; lowest = λ q over below. absurd (omega arith) }

round_fires_both : FollowsPolicy policy.Round forwarding hears_2 0 (2 ∷ 3 ∷ []) hears_4 3
round_fires_both =
    let second = fires hears_3 hears_4 hears_4 2 3 3 [] (inl third_is_next_then) first_said (done hears_4 3) in
    fires hears_2 hears_3 hears_4 0 2 3 (3 ∷ []) (inl second_is_next) last_said second

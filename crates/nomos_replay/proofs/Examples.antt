-- Small texts, tried on the definitions: journals of no items, and of one deposit of two units.
use Rattle.std.proofs.Common.{◌≡◌, ◌++◌, ℕ, List, [], ◌∷◌, Some, Result, Ok, Err, refl, arith}
use Rattle.std.specs.Prelude.{codes}
use Rattle.std.specs.Fmt.{digits}
use Rattle.std.proofs.lemmas.Option.{none-some}
use Rattle.nomos_ir.specs.declared.code_form.CodeForm.TheVariants as form
use Rattle.nomos_types.specs.Acceptance.{Acceptance}
use Rattle.nomos_machine.specs.State.{empty}
use Rattle.nomos_script.specs.declared.item.ScriptItem.{ScriptItem}
use Rattle.nomos_script.specs.declared.item.ScriptItem.TheVariants as item
use Rattle.nomos_legal.specs.Ledger.{LedgerState, deposited, empty_ledger}
use Rattle.nomos_legal.specs.Legal.{IsLimit}
use Rattle.nomos_legal.specs.Passage.{bare, still}
use Rattle.nomos_legal.specs.StandsFor.{Deposits}
use Rattle.nomos_legal.specs.declared.journal.End.TheVariants as end
use Rattle.nomos_journal.specs.Line.{line_text}
use Rattle.nomos_journal.specs.declared.line.JournalLine.TheVariants as line
use Rattle.nomos_journal.specs.declared.line.Version.TheVariants as version
use Rattle.nomos_replay.specs.Answers.{Answers}
use Rattle.nomos_replay.specs.Answers as answers
use Rattle.nomos_replay.specs.Spoiled as spoiled
use Rattle.nomos_replay.specs.Stand.{UnderWay}
use Rattle.nomos_replay.specs.Stand as stand
use Rattle.nomos_replay.specs.Told.{Told, nothing_told, told_with}
use Rattle.nomos_replay.specs.declared.error.ReplayError.{ReplayError}
use Rattle.nomos_replay.specs.declared.error.ReplayError.TheVariants as error
use Rattle.nomos_replay.proofs.LineLemmas.{some-line}

abbrev head_bytes : List ℕ
head_bytes = codes "nomos-journal 2" ++ 10 ∷ []

abbrev steps_bytes : List ℕ
steps_bytes = codes "steps 9" ++ 10 ∷ []

abbrev line_bytes : List ℕ
line_bytes = codes "line 1" ++ 10 ∷ []

steps-joined : (unit : ℕ) (rest : List ℕ) → steps_bytes ++ rest ≡ line_text unit (line.Steps 9) ++ 10 ∷ rest
unfolding digits
steps-joined unit rest = refl

line-joined : (unit : ℕ) (rest : List ℕ) → line_bytes ++ rest ≡ line_text unit (line.Line 1) ++ 10 ∷ rest
unfolding digits
line-joined unit rest = refl

module _ (a : Acceptance) where
  -- a text with nothing in it lacks its first line
  empty-text : (items : List ScriptItem) → Answers a items [] (Err (error.BadLine 1))
  empty-text items =
      answers.reads (Err (error.BadLine 1)) (omega arith)
      (answers.bad 1 stand.at_head [] tt (λ l left begins form. some-line a.annotations.unit [] l left begins refl))

  -- behind the first line the second one is wanted
  head-alone : (items : List ScriptItem) → Answers a items head_bytes (Err (error.BadLine 2))
  head-alone items =
      answers.reads (Err (error.BadLine 2)) (omega arith)
      (answers.goes 1 stand.at_head (stand.at_steps version.Two) head_bytes [] (line.Head version.Two)
      (Err (error.BadLine 2)) (record { is = tt; joined = refl }) (stand.head version.Two)
      (answers.bad 2 (stand.at_steps version.Two) [] tt
      (λ l left begins form. some-line a.annotations.unit [] l left begins refl)))

  nine : IsLimit 9
  nine = record { some = omega arith; few = omega arith }

  -- two lines are the journal of no items
  no-items : Answers a [] (head_bytes ++ steps_bytes) (Ok (nothing_told empty_ledger 9))
  no-items =
      answers.reads (Ok (nothing_told empty_ledger 9)) (omega arith)
      (answers.goes 1 stand.at_head (stand.at_steps version.Two) (head_bytes ++ steps_bytes) steps_bytes
      (line.Head version.Two) (Ok (nothing_told empty_ledger 9)) (record { is = tt; joined = refl })
      (stand.head version.Two)
      (answers.goes 2 (stand.at_steps version.Two) (stand.before version.Two (nothing_told empty_ledger 9) [])
      steps_bytes []
      (line.Steps 9) (Ok (nothing_told empty_ledger 9))
      (record { is = omega arith; joined = steps-joined a.annotations.unit [] }) (stand.steps version.Two 9 nine)
      (answers.ends 3 version.Two (nothing_told empty_ledger 9))))

  abbrev one_item : ScriptItem
  one_item = item.Deposit 1 (codes "u") 2

  abbrev after_deposit : LedgerState
  after_deposit = deposited a.annotations.unit empty_ledger (codes "u") 2

  deposits : Deposits a empty_ledger 1 (codes "u") 2 end.Deposited after_deposit
  deposits = record { made = λ fits. (refl, refl); refused = λ never. absurd (never (omega arith)) }

  abbrev owes_deposit : stand.Stand
  owes_deposit = stand.owes version.Two (nothing_told empty_ledger 9) one_item 1 end.Deposited after_deposit []

  -- what is answered behind the third line is answered of the text
  third-line : (rest : List ℕ) (answer : Result Told ReplayError)
      → answers.Reads a empty_ledger (one_item ∷ []) 4 owes_deposit rest answer
      → answers.Reads a empty_ledger (one_item ∷ []) 1 stand.at_head (head_bytes ++ steps_bytes ++ line_bytes ++ rest)
      answer
  third-line rest answer reads =
      answers.goes 1 stand.at_head (stand.at_steps version.Two) (head_bytes ++ steps_bytes ++ line_bytes ++ rest)
      (steps_bytes ++ line_bytes ++ rest) (line.Head version.Two) answer (record { is = tt; joined = refl })
      (stand.head version.Two)
      (answers.goes 2 (stand.at_steps version.Two)
      (stand.before version.Two (nothing_told empty_ledger 9) (one_item ∷ []))
      (steps_bytes ++ line_bytes ++ rest) (line_bytes ++ rest) (line.Steps 9) answer
      (record { is = omega arith; joined = steps-joined a.annotations.unit (line_bytes ++ rest) })
      (stand.steps version.Two 9 nine)
      (answers.goes 3 (stand.before version.Two (nothing_told empty_ledger 9) (one_item ∷ [])) owes_deposit
      (line_bytes ++ rest) rest
      (line.Line 1) answer (record { is = omega arith; joined = line-joined a.annotations.unit rest })
      (stand.item_line version.Two (nothing_told empty_ledger 9) one_item [] 1 owes_deposit refl
      (stand.deposit 1 (codes "u") 2 end.Deposited after_deposit deposits))
      reads))

  -- a deposit ends as deposited
  one-deposit : answers.Reads a empty_ledger (one_item ∷ []) 1 stand.at_head
      (head_bytes ++ steps_bytes ++ line_bytes ++ (codes "end deposited" ++ 10 ∷ []))
      (Ok (told_with (nothing_told empty_ledger 9) (still one_item (bare 1 end.Deposited) empty_ledger after_deposit)))
  one-deposit =
      third-line (codes "end deposited" ++ 10 ∷ [])
      (Ok (told_with (nothing_told empty_ledger 9) (still one_item (bare 1 end.Deposited) empty_ledger after_deposit)))
      (answers.goes 4 owes_deposit
      (stand.before version.Two
      (told_with (nothing_told empty_ledger 9) (still one_item (bare 1 end.Deposited) empty_ledger after_deposit)) [])
      (codes "end deposited" ++ 10 ∷ []) [] (line.End end.Deposited) _ (record { is = tt; joined = refl })
      (stand.own_end version.Two (nothing_told empty_ledger 9) one_item 1 end.Deposited after_deposit [] end.Deposited
      refl)
      (answers.ends 5 version.Two
      (told_with (nothing_told empty_ledger 9) (still one_item (bare 1 end.Deposited) empty_ledger after_deposit))))

  -- and not as committed
  wrong-end : answers.Reads a empty_ledger (one_item ∷ []) 1 stand.at_head
      (head_bytes ++ steps_bytes ++ line_bytes ++ (codes "end committed" ++ 10 ∷ []))
      (Err (error.WrongEnd 4 end.Committed (Some end.Deposited)))
  wrong-end =
      third-line (codes "end committed" ++ 10 ∷ []) (Err (error.WrongEnd 4 end.Committed (Some end.Deposited)))
      (answers.spoils 4 owes_deposit (codes "end committed" ++ 10 ∷ []) [] (line.End end.Committed)
      (error.WrongEnd 4 end.Committed (Some end.Deposited)) (record { is = tt; joined = refl })
      (spoiled.not_own_end version.Two (nothing_told empty_ledger 9) one_item 1 end.Deposited after_deposit []
      end.Committed
      (λ same. cc)))

  -- a batch without lines under way, after these firings
  abbrev way_after : List ℕ → UnderWay
  way_after pids = record { batch = record { line = 1; starts = [] }; starts = []; firings = pids; state = empty }

  -- a process that is not there has no step
  nobody-fires : spoiled.Spoils a 4 (stand.fires version.Two (nothing_told empty_ledger 9) (way_after []) [])
      (line.Fired 1 form.Close) (error.NotEnabled 4 1)
  nobody-fires =
      spoiled.not_enabled version.Two (nothing_told empty_ledger 9) (way_after []) [] (line.Fired 1 form.Close) 1
      (record { process = refl; left = omega arith }) refl

  -- under version 2 the number of a process alone is no firing
  number-alone : stand.MayStand (stand.fires version.Two (nothing_told empty_ledger 9) (way_after []) []) (line.Pid 1)
      → ⊥
  number-alone (stand.firing v told run items l pid says) = none-some pid says.process

  -- and nothing fires past the limit
  past-limit : stand.MayStand
      (stand.fires version.Two (nothing_told empty_ledger 2) (way_after (1 ∷ 1 ∷ [])) []) (line.Fired 1 form.Close)
      → ⊥
  past-limit (stand.firing v told run items l pid says) = omega (arith, says.left)

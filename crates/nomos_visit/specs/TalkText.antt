-- What the lines of a talk say to the machine, and what is printed of the replies.
use Rattle.std.specs.Prelude.{ℕ, Bool, true, false, List, [], ◌∷◌, ◌++◌, map, drop, slice_index, slice_index_or, Option, Some, None, codes, decimal, if◌then◌else◌}
use Rattle.std.specs.List.{position_or_len}
use Rattle.std.specs.Str.{bytes_eq}
use Rattle.nomos_base.specs.Gas.{gas_text}
use Rattle.nomos_ir.specs.declared.ids.Label.{Label}
use Rattle.nomos_ir.specs.declared.lists.ProgramLists.{ProgramLists}
use Rattle.nomos_machine.specs.declared.object.Heard.{Heard}
use Rattle.nomos_machine.specs.declared.object.Heard.TheVariants as heard
use Rattle.nomos_machine.specs.declared.object.Said.TheVariants as said
use Rattle.nomos_machine.specs.declared.rest.Rest.{Rest}
use Rattle.nomos_machine.specs.declared.rest.Rest.TheVariants as rest
use Rattle.nomos_monitor.specs.TalkCourse as course
use Rattle.nomos_monitor.specs.TalkCourse.{PartyTurn, TalkReply, speaks, listens}
use Rattle.nomos_monitor.specs.declared.talk_refusal.SayError.{SayError}
use Rattle.nomos_monitor.specs.declared.talk_refusal.SayError.TheVariants as error
use Rattle.nomos_monitor.specs.declared.talk_refusal.TalkRefusal.{TalkRefusal}
use Rattle.nomos_monitor.specs.declared.talk_refusal.TalkRefusal.TheVariants as refusal
use Rattle.nomos_script.specs.declared.talk_line.TalkLine.{TalkLine}
use Rattle.nomos_script.specs.declared.talk_line.TalkLine.TheVariants as talk_line
use Rattle.nomos_printing.specs.Cause.{fault_text}
use Rattle.nomos_printing.specs.ValueTexts.{value_text}

-- ---- what lines say

-- The label of this name, by its place among those of the program. A name that none of them has stands for the number
-- behind the last one, which no type awaits.
abbrev pub label_named : ProgramLists → List ℕ → Label
label_named lists name = record { 0 = position_or_len (λ l. bytes_eq l name) lists.labels }

-- what the party does in a line
abbrev pub turn_of : ProgramLists → TalkLine → PartyTurn
turn_of lists (talk_line.Label name) = speaks (said.Label (label_named lists name))
turn_of lists (talk_line.Value v) = speaks (said.Value v)
turn_of lists talk_line.Pay = speaks said.Pay
turn_of lists talk_line.Hear = listens

abbrev pub turns_of : ProgramLists → List (ℕ × TalkLine) → List PartyTurn
turns_of lists lines = map (λ l. turn_of lists l.1) lines

-- ---- what is printed of replies

-- the text of a label of the program
abbrev pub label_text : ProgramLists → Label → List ℕ
label_text lists l = slice_index_or lists.labels l.0 []

-- what an account has and what is needed, where a unit of gas has so many Dths
abbrev pub shortage_text : ℕ → ℕ → ℕ → List ℕ
shortage_text unit has needs = codes "has " ++ gas_text has unit ++ codes " needs " ++ gas_text needs unit

-- why a talk is not opened
abbrev pub refused_text : ℕ → TalkRefusal → List ℕ
refused_text unit refusal.NoAccount = codes "NoAccount"
refused_text unit refusal.NoProcess = codes "NoProcess"
refused_text unit refusal.Carries = codes "Carries"
refused_text unit (refusal.NoGas has needs) = codes "NoGas " ++ shortage_text unit has needs

-- why something is not said; want of memory has no text
abbrev pub unsaid_text : ℕ → SayError → List ℕ
unsaid_text unit error.Protocol = codes "protocol"
unsaid_text unit (error.NoGas has needs) = codes "gas " ++ shortage_text unit has needs
unsaid_text unit error.NoMemory = []

-- what is heard, if something is
abbrev pub heard_text : ProgramLists → ℕ → Option Heard → List ℕ
heard_text lists unit None = codes "nothing"
heard_text lists unit (Some (heard.Label l)) = codes "label " ++ label_text lists l
heard_text lists unit (Some (heard.Value v)) = codes "value " ++ value_text v
heard_text lists unit (Some (heard.Paid gas)) = codes "paid " ++ gas_text gas unit
heard_text lists unit (Some heard.Closed) = codes "closed"

-- how firings came to rest where a process was ready still
abbrev pub stopped_text : Rest → List ℕ
stopped_text rest.Quiet = []
stopped_text (rest.Faulted pid f) = codes "aborted " ++ decimal pid ++ codes " " ++ fault_text f
stopped_text rest.Steps = codes "steps"

abbrev pub reply_text : ProgramLists → ℕ → TalkReply → List ℕ
reply_text lists unit course.opened = codes "opened"
reply_text lists unit (course.refused why) = codes "refused " ++ refused_text unit why
reply_text lists unit course.said = codes "said"
reply_text lists unit (course.unsaid why) = unsaid_text unit why
reply_text lists unit (course.heard what) = codes "heard " ++ heard_text lists unit what
reply_text lists unit (course.stopped how) = stopped_text how

-- it is the reply to what a line says, and names that line
abbrev pub is_to_line : TalkReply → Bool
is_to_line course.said = true
is_to_line (course.unsaid why) = true
is_to_line (course.heard what) = true
is_to_line _ = false

-- a line of a talk
abbrev pub talk_line_text : List ℕ → List ℕ
talk_line_text text = codes "talk " ++ text ++ codes "\n"

-- a line for each reply; those to what lines say name these, one after the other
abbrev pub replies_text : ProgramLists → ℕ → List ℕ → List TalkReply → List ℕ
replies_text lists unit ks [] = []
replies_text lists unit ks (reply ∷ replies) =
    if is_to_line reply
    then talk_line_text (decimal (slice_index ks 0) ++ codes " " ++ reply_text lists unit reply)
    ++ replies_text lists unit (drop 1 ks) replies
    else talk_line_text (reply_text lists unit reply) ++ replies_text lists unit ks replies

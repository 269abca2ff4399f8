-- Each variable is written by its kind.
use Rattle.nomos_snapshot.proofs.saving.push_variable.Goals as goal

pub returns-in-Value : goal.returns-in-Value
returns-in-Value c = λ lists. rw c.in-Value.is (c.push_value_of.ensures lists)

pub returns-in-List : goal.returns-in-List
returns-in-List c = λ lists. rw c.in-List.is (c.push_list_of.ensures lists)

pub returns-in-Channel : goal.returns-in-Channel
returns-in-Channel c = λ lists. rw c.in-Channel.is (c.push_channel_of.ensures lists)

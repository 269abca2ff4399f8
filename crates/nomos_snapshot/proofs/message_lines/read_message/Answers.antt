-- The words of a message come off one part after another.
use Rattle.std.proofs.Common.{◌++◌, List, ℕ, ap, ◌∙◌}
use Rattle.nomos_snapshot.specs.Line.{payload_words}
use Rattle.nomos_snapshot.specs.mirror.LineKinds.{head_words}
use Rattle.nomos_snapshot.proofs.MessageLemmas.{head-none, payload-none, purse-none}
use Rattle.nomos_snapshot.proofs.message_lines.read_message.Goals as goal

pub returns-in_default : goal.returns-in_default
returns-in_default c = λ lists same. head-none lists c.args.words.now c.in_default.ensures

pub returns-in_default-2 : goal.returns-in_default-2
returns-in_default-2 c = λ lists same.
    let told = rw c.in_ok-payload.was at (c.take_payload.ensures lists same) in
    let none = rw c.in_default-2.is at told in
    payload-none lists c.args.words.now c.take_head.new.words c.in-Some.head c.in-Some.ensures.1 none

pub returns-in_default-last_purse : goal.returns-in_default-last_purse
returns-in_default-last_purse c = λ lists same.
    let told = rw c.in_ok-payload.was at (c.take_payload.ensures lists same) in
    let brings = rw c.in-Some-2.is at told in
    purse-none lists c.args.words.now c.take_head.new.words c.take_payload.new.words c.in-Some.head c.in-Some-2.payload
    c.in-Some.ensures.1 brings.1 c.in_default-last_purse.ensures

pub returns : goal.returns
returns c = λ lists same.
    let told = rw c.in_ok-payload.was at (c.take_payload.ensures lists same) in
    let brings = rw c.in-Some-2.is at told in (
      record {
        number = c.in-Some.ensures.0.number;
        from = c.in-Some.ensures.0.from;
        next = c.in-Some.ensures.0.next;
        payload_is = brings.0;
        purse = c.in-Some-last_purse.ensures.0;
      },
      c.in-Some.ensures.1
          ∙ ap (λ (ws : List (List ℕ)). head_words c.in-Some.head ws)
          (brings.1 ∙ ap (λ (ws : List (List ℕ)). payload_words lists c.in-Some-2.payload ++ ws)
          c.in-Some-last_purse.ensures.1),
    )

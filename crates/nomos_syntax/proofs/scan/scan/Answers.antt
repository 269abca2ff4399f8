-- Each piece takes the tokens so far behind itself.
use Rattle.std.proofs.Common.{◌<◌, length, drop}
use Rattle.std.proofs.lemmas.List.{take_rest}
use Rattle.nomos_syntax.specs.Found.{Finds, first_piece}
use Rattle.nomos_syntax.proofs.ScanLemmas.{Scanned-skip, Scanned-token, Scanned-all}
use Rattle.nomos_syntax.proofs.scan.scan.Goals as goal

pub loop-at-preserved-in_ok-push : goal.loop-at-preserved-in_ok-push
loop-at-preserved-in_ok-push c =
    let text = c.args.text.now in
    let at = c.loop-at.at in
    let found = c.piece_of-piece.result in
    let room : found.more < length (drop at text) = rw (take_rest text at) at c.piece_of-piece.ensures.within in
    let finds : Finds (drop at text) (first_piece (drop at text)) found = rw (take_rest text at)
    at c.piece_of-piece.ensures.found in
    rw c.in_ok-push.ensures.items (Scanned-token text c.loop-at.tokens.items at found c.in-Some.kind c.loop-at.invariant
    c.in-Some.is room finds)

pub loop-at-preserved : goal.loop-at-preserved
loop-at-preserved c =
    let text = c.args.text.now in
    let at = c.loop-at.at in
    let found = c.piece_of-piece.result in
    let room : found.more < length (drop at text) = rw (take_rest text at) at c.piece_of-piece.ensures.within in
    let finds : Finds (drop at text) (first_piece (drop at text)) found = rw (take_rest text at)
    at c.piece_of-piece.ensures.found in
    Scanned-skip text c.loop-at.tokens.items at found c.loop-at.invariant c.in_default.is room finds

pub returns : goal.returns
returns c =
    rw c.of_vec.ensures (Scanned-all c.args.text.now c.loop-at.tokens.items c.loop-at.at c.loop-at.invariant
    c.loop-at-test.false)

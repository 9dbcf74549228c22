use Rattle.std.proofs.Common.{rules}
use mir.Syntax.{w64}
use mir.Val.{SFits}
use Rattle.std.proofs.lemmas.Int.{to_z-of_z}
use Rattle.kms_model.specs.Legacy.Translation.{present_of}
use Rattle.kms_legacy.proofs.translating.translate_other.Goals as goal

pub returns-in-PageFlip : goal.returns-in-PageFlip
returns-in-PageFlip c = λ mode. rw c.in-PageFlip.is (c.page_flip.ensures mode)

pub returns-in-Cursor : goal.returns-in-Cursor
returns-in-Cursor c = λ mode.
    let x : SFits w64 c.in-Cursor.x = search rules in
    let y : SFits w64 c.in-Cursor.y = search rules in
    let is = simp to_z-of_z at (c.cursor.ensures (present_of c.args.states.now) mode) in
    rw c.in-Cursor.is is

pub returns-in-CursorMove : goal.returns-in-CursorMove
returns-in-CursorMove c = λ mode.
    let x : SFits w64 c.in-CursorMove.x = search rules in
    let y : SFits w64 c.in-CursorMove.y = search rules in
    let is = simp to_z-of_z at (c.cursor_move.ensures (present_of c.args.states.now) mode c.args.shown) in
    rw c.in-CursorMove.is is

pub returns-in-CursorOff : goal.returns-in-CursorOff
returns-in-CursorOff c = λ mode. rw c.in-CursorOff.is (c.cursor_off.ensures (present_of c.args.states.now) mode c.args.shown)

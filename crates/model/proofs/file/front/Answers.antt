-- The four fields are read in their order, with the room for the arrows behind the second. Those that were read pass their checks, and the
-- first that has a fault decides.
use native.Mathlib.Omega.{arith}
use Rattle.model.proofs.FieldsRead.{number_most}
use Rattle.model.proofs.FieldsRead.{refused_first, refused_second, no_room, refused_third, refused_fourth, front_read}
use Rattle.model.proofs.file.front.Goals as goal

pub returns-in_default : goal.returns-in_default
returns-in_default c =
    let a = c.args in
    refused_first a.file.now a.room (rw c.unwrap_err.ensures at c.number_at-first.ensures)

pub returns-in_default-second : goal.returns-in_default-second
returns-in_default-second c =
    let a = c.args in
    refused_second a.file.now a.room c.in-Ok.ensures
    (rw c.unwrap_err-in_default-second.ensures at c.number_at-second.ensures)

pub returns-then-room-k : goal.returns-then-room-k
returns-then-room-k c =
    let a = c.args in
    rw c.at.ensures (no_room a.file.now a.room c.in-Ok.ensures c.in-Ok-second.ensures c.if-room-k.true)

pub mask_at-third-requires : goal.mask_at-third-requires
mask_at-third-requires c = (omega arith, number_most c.args.file.now 0 0x01 8 _ c.in-Ok.ensures)

pub returns-in_default-third : goal.returns-in_default-third
returns-in_default-third c =
    let a = c.args in
    refused_third a.file.now a.room c.in-Ok.ensures c.in-Ok-second.ensures
    c.if-room-k.false
    (rw c.unwrap_err-in_default-third.ensures at c.mask_at-third.ensures)

pub mask_at-fourth-requires : goal.mask_at-fourth-requires
mask_at-fourth-requires c = (omega arith, number_most c.args.file.now 0 0x01 8 _ c.in-Ok.ensures)

pub returns-in_default-fourth : goal.returns-in_default-fourth
returns-in_default-fourth c =
    let a = c.args in
    refused_fourth a.file.now a.room c.in-Ok.ensures c.in-Ok-second.ensures
    c.if-room-k.false c.in-Ok-third.ensures
    (rw c.unwrap_err-in_default-fourth.ensures at c.mask_at-fourth.ensures)

pub returns : goal.returns
returns c =
    let a = c.args in
    front_read a.file.now a.room c.in-Ok.ensures c.in-Ok-second.ensures
    c.if-room-k.false c.in-Ok-third.ensures c.in-Ok-fourth.ensures

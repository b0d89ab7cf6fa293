-- The tests are those of the event's checks, in their order: the form and the event's number before its masks. A field that is formed is
-- whole, so that its bytes are there.
use native.Mathlib.Omega.{arith}
use mathlib.Core.Path.{sym}
use Rattle.laws.proofs.FileForm.{whole}
use Rattle.model.proofs.EventsRead.{event_misformed, other_event, event_beyond, event_value_is}
use Rattle.model.proofs.fields.event_at.Goals as goal
use Rattle.model.proofs.fields.event_at.Goals.{then-not-is_formed-via-then-not-is_formed, then-not-is_formed-via-else-not-is_formed+then-file-at}

pub bounds-file-at : goal.bounds-file-at
bounds-file-at c = omega (arith, whole _ _ 0x05 _ (sym c.if-not-is_formed.ensures))

pub returns-then-not-is_formed : goal.returns-then-not-is_formed
returns-then-not-is_formed c =
    let there = c.event_offset-at.ensures.0 in
    rw c.at.ensures (elim c.then-not-is_formed.branch [
      | then-not-is_formed-via-then-not-is_formed w ↦ event_misformed _ _ _ _ there (sym w.if-not-is_formed.ensures)
      | then-not-is_formed-via-else-not-is_formed+then-file-at w ↦
          other_event _ _ _ _ there (sym w.if-not-is_formed.ensures) w.if-file-at.true
    ])

pub slice_bounds-masks-end : goal.slice_bounds-masks-end
slice_bounds-masks-end c = omega (arith, whole _ _ 0x05 _ (sym c.if-not-is_formed.ensures))

pub returns-then-some_mask_beyond : goal.returns-then-some_mask_beyond
returns-then-some_mask_beyond c =
    rw c.at-then-some_mask_beyond.ensures
    (event_beyond _ _ _ _ c.event_offset-at.ensures.0 (sym c.if-not-is_formed.ensures) c.if-file-at.false
    (sym c.if-some_mask_beyond.ensures) (omega arith))

pub returns : goal.returns
returns c =
    event_value_is _ _ _ _ c.event_offset-at.ensures.0 (sym c.if-not-is_formed.ensures) c.if-file-at.false
    (sym c.if-some_mask_beyond.ensures) c.packed.ensures (omega arith) (omega arith)

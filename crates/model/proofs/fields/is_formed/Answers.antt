-- The head is the tag, and the low and the high byte of the length; behind it the field is whole where the file does not end before it.
use mathlib.Core.Path.{◌∙◌}
use Rattle.model.proofs.FieldsRead.{not_formed, formed_whole}
use Rattle.model.proofs.fields.is_formed.Goals as goal

pub returns-then-stand_at : goal.returns-then-stand_at
returns-then-stand_at c = formed_whole _ _ _ _ c.requires.1 c.stand_at.ensures c.if-stand_at.true

pub returns-else-stand_at : goal.returns-else-stand_at
returns-else-stand_at c = c.if-stand_at.false ∙ not_formed _ _ _ _ c.requires.1 c.stand_at.ensures c.if-stand_at.false

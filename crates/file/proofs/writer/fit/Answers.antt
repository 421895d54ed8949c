-- `file::writer::fit` meets its contract: the size is the file's length. Assumes nothing.
use mathlib.Core.Path.{refl, sym, ◌∙◌}
use native.Mathlib.Omega.{arith}
use Rattle.script.proofs.Texts.{text_fits, text_short}
use Rattle.file.proofs.WritingLaws.{put_over}
use Rattle.file.proofs.WriterLaws.{tables_length}
use Rattle.file.proofs.writer.fit.Goals as goal

pub returns-then-out-size : goal.returns-then-out-size
returns-then-out-size c = rw c.at.ensures (text_short (c.file_size-size.ensures ∙ sym (tables_length _ _ _ _)) (omega (arith, c.if-out-size.true)) refl)

pub returns : goal.returns
returns c =
    let size = c.file_size-size.ensures ∙ sym (tables_length _ _ _ _) in
    text_fits size (omega (arith, c.if-out-size.false)) (put_over c.emit.ensures (omega (arith, size, c.if-out-size.false)))

-- `write_marks::unmark`: by whether a frame was found.
-- Assumes nothing.
use mathlib.Core.Path.{refl}
use Rattle.write_marks.proofs.unmark.Goals as goal

pub clear_mark-requires : goal.clear_mark-requires
clear_mark-requires c =
    let a = rw c.in-Some.is at c.requires in
    record { words = record { fine = a.fine; long = a.long; region = a.region; vblock = a.vblock refl }; frame = a.frame refl }

pub returns-in-Some : goal.returns-in-Some
returns-in-Some c = λ m e. rw c.in-Some.is (c.clear_mark.ensures m e)

pub returns-in_default : goal.returns-in_default
returns-in_default c = λ m e. rw c.in_default.is e

-- `demo_serve::answer`: by the line; each call leaves the board that the line's turn says, and prints its text.
-- Assumes nothing.
use mathlib.Core.Path.{refl, ◌≡◌}
use Rattle.demo_session.specs.Session.{turn}
use Rattle.demo_serve.proofs.Turns.{other_turned, read_turned}
use Rattle.demo_serve.proofs.answer.Goals as goal

-- neither lends the slices on
kept : {A B C D E F G H : Type 0} {a : A} {b : B} {c : C} {d : D} {e : E} {f : F} {g : G} {h : H} → (a ≡ a) × (b ≡ b) × (c ≡ c) × (d ≡ d) × (e ≡ e) × (f ≡ f) × (g ≡ g) × (h ≡ h)
kept = (refl, refl, refl, refl, refl, refl, refl, refl)

pub returns-in-Write : goal.returns-in-Write
returns-in-Write g c = rw c.in-Write.is c.write.ensures

pub returns-in-Read : goal.returns-in-Read
returns-in-Read g c = rw c.in-Read.is (record { same = kept; turned = read_turned _ _ _; text = rw c.seen.ensures at c.read.ensures })

pub returns-in-Other : goal.returns-in-Other
unfolding turn
returns-in-Other g c = rw c.in-Other.is (record { same = kept; turned = other_turned _; text = rw (c.as_slice.ensures.value, c.print_unknown.ensures) at c.write_all.ensures.bytes })

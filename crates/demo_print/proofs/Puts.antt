-- Bytes put into a buffer: by one copy, one piece after the other, and a whole line from the start on.
-- Assumes nothing.
use mathlib.Core.Path.{◌≡◌, refl, sym, ap, ◌∙◌}
use Prim.Native.Nat.{ℕ, suc, ◌+◌, ◌≤◌}
use mathlib.Core.List.{List, [], ◌∷◌, ◌++◌, append_assoc}
use native.Mathlib.Nat.{add-zero, zero-add}
use native.Mathlib.Omega.{arith}
use lib.ListN.{length, take, drop, set, length-append}
use borrow.Rule.Slice.PartMut.{put_mid}
use lib.Seq.{sets, sets-eq, length-sets, take_at, drop_at, drop-drop}
use Rattle.demo_print.specs.Output.{Put, Printed}

-- what a copy into a part of the buffer leaves
pub copied : (x l : List ℕ) (at k : ℕ) → k ≡ length x → at + length x ≤ length l → put_mid at k l x ≡ sets l at x
copied x l at k e h = rw (e, drop-drop (length x) at l) (sym (sets-eq x l at h ∙ append_assoc (take at l) x (drop (at + length x) l)))

pub nothing : (l : List ℕ) (at : ℕ) → Put [] at l l at
nothing l at = record { next = sym (add-zero at); stored = refl }

stores : (x y l : List ℕ) (i : ℕ) → sets (sets l i x) (i + length x) y ≡ sets l i (x ++ y)
stores [] y l i = rw add-zero
stores (a ∷ x) y l i =
    let e : i + suc (length x) ≡ suc i + length x = omega arith in
    rw e (stores x y (set l i a) (suc i))

pub then : {x y : List ℕ} {at : ℕ} {l m n : List ℕ} {r q : ℕ} → Put x at l m r → Put y r m n q → Put (x ++ y) at l n q
then {x} {y} {at} {l} p s =
    record {
      next = simp length-append (omega (arith, p.next, s.next));
      stored = s.stored ∙ rw (p.stored, p.next) (stores x y l at);
    }

pub put_length : {x : List ℕ} {at : ℕ} {l m : List ℕ} {r : ℕ} → Put x at l m r → length m ≡ length l
put_length {x} {at} {l} p = ap length p.stored ∙ length-sets l at x

-- the whole line
pub printed : {x l m : List ℕ} {r : ℕ} → Put x 0 l m r → r ≤ length l → Printed x l m r
printed {x} {l} {m} {r} p h =
    let e : length x ≡ r = omega (arith, p.next) in
    let all : m ≡ x ++ drop r l = p.stored ∙ sets-eq x l 0 (omega arith) ∙ rw (zero-add, e) in
    let line : take r m ≡ x = rw all (take_at x (drop r l) r e) in
    record {
      line = line;
      rest = ap (drop r) all ∙ drop_at x (drop r l) r e;
      within = omega (arith, put_length p);
      counted = sym (ap length line ∙ e);
    }

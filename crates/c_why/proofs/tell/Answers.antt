-- `c_why::tell`: the reply is the first number, and the list is filled where it is 0 or 7.
-- Assumes nothing.
use mathlib.Core.Path.{◌≡◌, ap, sym, ◌∙◌}
use mathlib.Core.Bool.{false, true}
use mathlib.Core.List.{List}
use Prim.Native.Nat.{ℕ}
use lib.ListN.{get_or, length}
use Rattle.c_why.specs.Told.{tells}
use Rattle.c_why.proofs.Numbers.{thirteen}
use Rattle.c_why.proofs.tell.Goals as goal

pub why_numbers-ns-requires : goal.why_numbers-ns-requires
why_numbers-ns-requires c = c.requires.small

pub copy_from_slice-requires : goal.copy_from_slice-requires
copy_from_slice-requires c = c.requires.list_len ∙ sym (ap length c.why_numbers-ns.ensures ∙ thirteen c.args.w)

pub returns-then-reply : goal.returns-then-reply
unfolding tells
returns-then-reply c =
    let e = c.why_numbers-ns.ensures in
    let t : tells (get_or c.why_numbers-ns.result 0 0) ≡ true = c.if-reply.true in
    record {
      value = ap (λ (l : List ℕ). get_or l 0 0) e;
      list_after = rw (rw e at t) (c.copy_from_slice.ensures.after ∙ e);
    }

pub returns : goal.returns
unfolding tells
returns c =
    let e = c.why_numbers-ns.ensures in
    let t : tells (get_or c.why_numbers-ns.result 0 0) ≡ false = c.if-reply.false in
    record {
      value = ap (λ (l : List ℕ). get_or l 0 0) e;
      list_after = rw (rw e at t);
    }

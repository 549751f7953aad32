-- `check_pairs::place`: by the head: no place, a place among the full blocks, or one among those that are not full.
-- Assumes nothing.
use native.Mathlib.Omega.{arith}
use Rattle.chip_heads.proofs.Sound.{sound_at}
use Rattle.rules.proofs.Sizes.{sizes}
use Rattle.check_pairs.proofs.Enters.{enters_full, enters_other, enters_part, stays_unused}
use Rattle.check_pairs.proofs.Rows.{place_in}
use Rattle.check_pairs.proofs.place.Goals as goal

pub head_of-requires-clause-n_value : goal.head_of-requires-clause-n_value
head_of-requires-clause-n_value c = sound_at _ _ c.requires.asked.sounds _ c.requires.n_lt_n

pub returns-in_default : goal.returns-in_default
returns-in_default c = stays_unused _ (sizes _ c.requires.asked.fine) _ _ _ _ _ c.requires.row c.requires.row_2 c.in_default.ensures

pub returns-then-h-r : goal.returns-then-h-r
returns-then-h-r c = enters_other _ (sizes _ c.requires.asked.fine) _ _ _ c.requires.n_lt_n _ c.in-Some.ensures _ _ c.requires.row c.requires.row_2 c.if-h-r.true

pub put-requires : goal.put-requires
put-requires c =
    let z = sizes _ c.requires.asked.fine in
    record {
      v_in_bounds = place_in c.args.p z.gamma_high _ _ _ c.requires.row _ c.in-Some.ensures.1.vblock_low;
      n_bound = omega (arith, z.blocks, c.requires.n_lt_n);
    }

pub returns-then-h : goal.returns-then-h
returns-then-h c =
    enters_full _ (sizes _ c.requires.asked.fine) _ _ _ c.requires.n_lt_n _ c.in-Some.ensures _ _ c.requires.row c.requires.row_2 c.if-h-r.false c.if-h.true
    _ _ c.put.ensures.value c.put.ensures.row_after

pub put-requires-2 : goal.put-requires-2
put-requires-2 c =
    let z = sizes _ c.requires.asked.fine in
    record {
      v_in_bounds = place_in c.args.p z.gamma_high _ _ _ c.requires.row_2 _ c.in-Some.ensures.1.vblock_low;
      n_bound = omega (arith, z.blocks, c.requires.n_lt_n);
    }

pub returns : goal.returns
returns c =
    enters_part _ (sizes _ c.requires.asked.fine) _ _ _ c.requires.n_lt_n _ c.in-Some.ensures _ _ c.requires.row c.requires.row_2 c.if-h-r.false c.if-h.false
    _ _ c.put-2.ensures.value c.put-2.ensures.row_after

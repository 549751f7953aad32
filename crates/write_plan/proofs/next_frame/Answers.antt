-- `write_plan::next_frame`: no open block, or the first frame that is not programmed from the start of the segment that FST names.
-- Assumes nothing.
use mathlib.Core.Path.{refl}
use Prim.Native.Nat.{◌*◌}
use native.Mathlib.Omega.{arith}
use Rattle.rules.proofs.Sizes.{sizes}
use Rattle.write_plan.proofs.Plans.{chip_length_lem, from_low, no_open, open_low, open_block, open_next}
use Rattle.write_plan.proofs.next_frame.Goals as goal

pub frames-requires : goal.frames-requires
frames-requires c = c.requires.fine

pub returns-in_default : goal.returns-in_default
returns-in_default c = no_open _ _ _ _ _ c.requires _ refl _ c.in_default.ensures c.frames.ensures

pub vblock_of-v-requires : goal.vblock_of-v-requires
vblock_of-v-requires c =
    record {
      p_value = c.requires.fine;
      sg_bound = omega (arith, c.in-Some.ensures.1);
    }

pub bt_at-n-requires : goal.bt_at-n-requires
bt_at-n-requires c =
    record {
      bt_len = c.requires.bt_length;
      r_lt_mu = c.requires.low;
      v_lt_gamma = open_low _ _ _ _ _ c.requires _ c.in-Some.ensures.0 (λ e. omega (arith, c.in-Some.ensures.1)) _ c.vblock_of-v.ensures;
    }

pub place_of-requires : goal.place_of-requires
place_of-requires c =
    record {
      p_value = c.requires.fine;
      sg_bound = omega (arith, c.in-Some.ensures.1);
    }

pub overflow_mul-from : goal.overflow_mul-from
overflow_mul-from c =
    let z = sizes _ c.requires.fine in
    let from = from_low _ _ _ _ _ c.requires _ c.in-Some.ensures.0 (λ e. omega (arith, c.in-Some.ensures.1)) _ c.vblock_of-v.ensures _ c.bt_at-n.ensures.result_value
    c.place_of.result (c.place_of.result * c.args.p.beta) c.place_of.ensures refl in
    record { fits = omega (arith, from, z.short) }

pub block_of-requires : goal.block_of-requires
block_of-requires c =
    record {
      p_value = c.requires.fine;
      chip_len = chip_length_lem _ _ _ _ _ c.requires;
      n_lt_n = open_block _ _ _ _ _ c.requires _ c.in-Some.ensures.0 (λ e. omega (arith, c.in-Some.ensures.1)) _
          c.vblock_of-v.ensures _ c.bt_at-n.ensures.result_value;
    }

pub next_free-requires : goal.next_free-requires
next_free-requires c =
    record {
      p_value = c.requires.fine;
      blk_len = c.block_of.ensures.result_len;
      from_bound = from_low _ _ _ _ _ c.requires _ c.in-Some.ensures.0 (λ e. omega (arith, c.in-Some.ensures.1)) _ c.vblock_of-v.ensures _
          c.bt_at-n.ensures.result_value _ _ c.place_of.ensures refl;
    }

pub returns : goal.returns
returns c =
    open_next _ _ _ _ _ c.requires _ c.in-Some.ensures.0 (λ e. omega (arith, c.in-Some.ensures.1)) _ c.vblock_of-v.ensures _ c.bt_at-n.ensures.result_value _ _
    c.place_of.ensures refl _ _ c.block_of.ensures.result_value c.next_free.ensures

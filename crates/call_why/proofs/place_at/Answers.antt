-- `call_why::place_at`: number by number.
-- Assumes nothing.
use mathlib.Core.Path.{refl}
use mathlib.Core.Bool.{true}
use native.Mathlib.Nat.{mod-lt}
use Rattle.rules.specs.Tables.{board_of}
use Rattle.rules.proofs.Sizes.{sizes}
use Rattle.call_why.specs.Why.{place_numbers}
use Rattle.call_why.proofs.Answers.{holder_is}
use Rattle.call_why.proofs.place_at.Goals as goal

pub region_of-r-requires : goal.region_of-r-requires
region_of-r-requires c =
    record {
      p_value = c.requires.fine;
      c_lt_c = c.requires.cluster;
    }

pub bt_at-requires : goal.bt_at-requires
bt_at-requires c =
    record {
      bt_len = c.requires.bt_length;
      r_lt_mu = rw c.region_of-r.ensures (mod-lt _ (sizes _ c.requires.fine).regions);
      v_lt_gamma = c.requires.low;
    }

pub returns : goal.returns
unfolding place_numbers
returns c chip fst bst wear marks stamps w =
    rw (c.bt_at.ensures.result_value, c.ct_at.ensures.result_value, c.region_of-r.ensures)
    (holder_is _ (board_of chip c.args.ct.now c.args.bt.now fst bst wear marks stamps) _ true _ _ refl w)

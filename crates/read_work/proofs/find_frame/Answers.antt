-- `read_work::find_frame`: each value on the way is the one that the lookup's laws speak of.
-- Assumes nothing.
use mathlib.Core.Path.{◌≡◌, refl}
use native.Mathlib.Nat.{mod-lt}
use native.Mathlib.Omega.{arith}
use Rattle.rules.proofs.Sizes.{sizes}
use Rattle.read_work.proofs.Frames.{chip_length_lem, no_looks, region_low_lem, block_low_lem, frame_low_lem, kept_at, within, looked}
use Rattle.read_work.proofs.find_frame.Goals as goal

pub returns-in_default-clause-looked : goal.returns-in_default-clause-looked
returns-in_default-clause-looked c = no_looks _ _ _ _ _ c.requires _ refl c.in_default.ensures

pub bt_at-n-requires-clause-r_lt_mu : goal.bt_at-n-requires-clause-r_lt_mu
bt_at-n-requires-clause-r_lt_mu c =
    region_low_lem _ _ _ _ _ c.requires _ c.in-Some.ensures.0 (λ e. omega (arith, c.in-Some.ensures.1)) _ _ c.region_of-r.ensures c.vblock_of-v.ensures

pub block_of-requires : goal.block_of-requires
block_of-requires c =
    record {
      p_value = c.requires.fine;
      chip_len = chip_length_lem _ _ _ _ _ c.requires;
      n_lt_n = block_low_lem _ _ _ _ _ c.requires _ c.in-Some.ensures.0 (λ e. omega (arith, c.in-Some.ensures.1)) _ _
          c.region_of-r.ensures c.vblock_of-v.ensures _ c.bt_at-n.ensures.result_value;
    }

pub last_in-s-requires-clause-k_lt_d : goal.last_in-s-requires-clause-k_lt_d
last_in-s-requires-clause-k_lt_d c = rw c.place_of-k.ensures (mod-lt _ (sizes _ c.requires.fine).segments)

pub frame_at-requires-clause-n_lt_n : goal.frame_at-requires-clause-n_lt_n
frame_at-requires-clause-n_lt_n c =
    block_low_lem _ _ _ _ _ c.requires _ c.in-Some.ensures.0 (λ e. omega (arith, c.in-Some.ensures.1)) _ _
    c.region_of-r.ensures c.vblock_of-v.ensures _ c.bt_at-n.ensures.result_value

pub unreachable-requires : goal.unreachable-requires
unreachable-requires c =
    let none-found = rw c.in_default-frame.is at c.last_in-s.ensures.frame_value in
    let low = frame_low_lem _ _ _ _ _ c.requires _ c.in-Some.ensures.0 (λ e. omega (arith, c.in-Some.ensures.1)) _ _ c.region_of-r.ensures c.vblock_of-v.ensures _
    c.bt_at-n.ensures.result_value _ c.block_of.ensures.result_value _ _ c.place_of-k.ensures refl in
    absurd (omega (arith, none-found, low, (sizes _ c.requires.fine).short))

pub returns : goal.returns
returns c =
    let pre = c.requires in
    let sg = c.in-Some.ensures.0 in
    let ne : c.in-Some.sg.0 ≡ 65535 → ⊥ = λ e. omega (arith, c.in-Some.ensures.1) in
    let er = c.region_of-r.ensures in
    let ev = c.vblock_of-v.ensures in
    let en = c.bt_at-n.ensures.result_value in
    let eb = c.block_of.ensures.result_value in
    let ek = c.place_of-k.ensures in
    let ef = rw c.in-Some-frame.is at c.last_in-s.ensures.frame_value in
    let looks = rw c.in-Some-frame.is at c.last_in-s.ensures.looks_value in
    record {
      stands = kept_at _ _ _ _ _ pre _ sg ne _ _ er ev _ en _ eb _ _ ek ef.0 _ c.frame_at.ensures;
      within = within _ _ _ _ _ pre _ sg ne _ _ er ev _ en _ eb _ _ ek ef.0;
      looked = looked _ _ _ _ _ pre _ sg ne _ _ er ev _ en _ eb _ _ ek ef.0 _ c.last_in-s.ensures.looks_le_beta (λ l. looks);
    }

-- The lookup of a cluster's valid frame, over the values that the code has on its way.
-- Assumes nothing.
use mathlib.Core.Path.{◌≡◌, sym, ◌∙◌}
use mathlib.Core.Bool.{true, false}
use mathlib.Core.List.{List}
use Prim.Native.Nat.{ℕ, ◌+◌, ◌*◌, ◌≤◌, ◌<◌}
use native.Mathlib.Nat.{mod-lt}
use native.Mathlib.Omega.{arith}
use lib.Dec.{eqb}
use borrow.Author.Tests.{ne_eqb}
use lib.ListN.{length}
use Rattle.rules.specs.declared.Params.{Params}
use Rattle.rules.specs.Parameters.{frames, chip_bytes}
use Rattle.rules.specs.Numbers.{region_of, vblock_of, place_of}
use Rattle.rules.specs.Tables.{none, ct_at, bt_at}
use Rattle.rules.specs.Pages.{block, last_in, programmed_down_to}
use Rattle.rules.proofs.Sizes.{Sizes, sizes}
use Rattle.rules.proofs.TableFacts.{chip_size}
use Rattle.read_work.specs.Lookup.{block_for, last_for, frame_for, Leads, Looked, Lookup, Stands, Within}
use Rattle.read_work.proofs.Views.{looks_none, looks_there}

module _ (p : Params) (chip ct bt : List ℕ) (c : ℕ) (l : Lookup p chip ct bt c) where
  pub chip_length_lem : length chip ≡ chip_bytes p
  chip_length_lem = l.chip_length ∙ sym (chip_size p)

  z : Sizes p
  z = sizes p l.fine

  module _ (sg : ℕ) (is : sg ≡ ct_at ct c) where
    -- CT has none
    pub no_looks : sg ≡ 65535 → Looked p chip ct bt c 0
    no_looks e = record { is = λ fst. sym (looks_none p chip ct bt fst c (sym is ∙ e)); few = omega arith }

    module _ (ne : sg ≡ 65535 → ⊥) (r v : ℕ) (er : r ≡ region_of p c) (ev : v ≡ vblock_of p sg) where
      there : Leads p chip ct bt c
      there = l.leads (λ h. ne (is ∙ h))

      pub region_low_lem : r < p.mu
      region_low_lem = rw er (mod-lt c z.regions)

      pub vblock_low_lem : v < p.gamma
      vblock_low_lem = rw (ev, is) there.vblock

      module _ (n : ℕ) (en : n ≡ bt_at p bt r v) where
        block_is : n ≡ block_for p ct bt c
        unfolding block_for
        block_is = en ∙ rw (er, ev, is)

        pub block_low_lem : n < p.N
        block_low_lem = rw block_is there.block

        module _ (blk : List ℕ) (eb : blk ≡ block p chip n) (k f : ℕ) (ek : k ≡ place_of p sg) (ef : f ≡ last_in p blk k c) where
          last_is : f ≡ last_for p chip ct bt c
          unfolding last_for
          last_is = ef ∙ rw (eb, ek, block_is, is)

          pub frame_low_lem : f < frames p
          frame_low_lem = rw last_is there.held

          pub kept_at : (x : ℕ) → x ≡ n * frames p + f → Stands p chip ct bt c true x
          unfolding frame_for
          kept_at x ex =
              let e : eqb (ct_at ct c) none ≡ false = ne_eqb _ _ (λ y. ne (is ∙ y)) in
              record { has = rw e; at = rw e (ex ∙ rw (last_is, block_is)) }

          pub within : Within p chip ct bt c true v f
          within = record { vblock = λ k. rw is at ev; inner = λ k. last_is }

          pub looked : (looks : ℕ) → looks ≤ p.beta → (f < frames p → looks ≡ programmed_down_to p blk k f) → Looked p chip ct bt c looks
          looked looks few count =
              record {
                is = λ fst. count frame_low_lem ∙ rw (eb, ek, last_is, block_is, is) (sym (looks_there p chip ct bt fst c z.blocks (λ y. ne (is ∙ y)) there));
                few = omega (arith, few, z.beta_high);
              }

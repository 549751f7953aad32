-- `reply_rows::stamp_reply`: the region of the LBA's cluster, and its last stamp.
-- Assumes nothing.
use mathlib.Core.Path.{◌≡◌, ap, ◌∙◌}
use Prim.Native.Nat.{ℕ}
use native.Mathlib.Nat.{mod-lt}
use native.Mathlib.Omega.{arith}
use Rattle.rules.specs.Numbers.{cluster_of, region_of}
use Rattle.rules.specs.Tables.{Board, stamp_at}
use Rattle.rules.specs.Requests.{Request, request_region}
use Rattle.rules.proofs.Sizes.{sizes}
use Rattle.reply_rows.proofs.Rows.{cluster_low, stamp_none, stamp_some}
use Rattle.reply_rows.proofs.stamp_reply.Goals as goal
use Rattle.reply_rows.proofs.stamp_reply.Goals.{Start}

stamp_is : (a : Start) (c r t : ℕ) → c ≡ cluster_of a.args.p a.args.lba → r ≡ region_of a.args.p c → t ≡ stamp_at a.args.stamps.now r
    → (b : Board) (q : Request) → b.stamps ≡ a.args.stamps.now → q.lba ≡ a.args.lba → t ≡ stamp_at b.stamps (request_region a.args.p q)
stamp_is a c r t ec er et b q s l = rw (s, l) (et ∙ ap (stamp_at a.args.stamps.now) (er ∙ ap (region_of a.args.p) ec))

pub cluster_of-c-requires : goal.cluster_of-c-requires
cluster_of-c-requires c = (sizes _ c.requires.p_value).sectors

pub region_of-requires : goal.region_of-requires
region_of-requires c =
    record {
      p_value = c.requires.p_value;
      c_lt_c = rw c.cluster_of-c.ensures (cluster_low _ c.requires.p_value _ c.requires.lba_value);
    }

pub stamp_at-requires : goal.stamp_at-requires
stamp_at-requires c = rw (c.region_of.ensures, c.requires.stamps_len) (mod-lt c.cluster_of-c.result.0 (sizes _ c.requires.p_value).regions)

pub returns-then-stamp_at : goal.returns-then-stamp_at
returns-then-stamp_at c =
    λ b q s l. stamp_none _ b q _
    (stamp_is (goal.at.returns-then-stamp_at c).Start _ _ _ c.cluster_of-c.ensures c.region_of.ensures c.stamp_at.ensures b q s l) c.if-stamp_at.true

pub returns : goal.returns
returns c =
    λ b q s l. stamp_some _ b q _
    (stamp_is (goal.at.returns c).Start _ _ _ c.cluster_of-c.ensures c.region_of.ensures c.stamp_at.ensures b q s l)
    (omega (arith, c.stamp_at.ensures)) c.if-stamp_at.false

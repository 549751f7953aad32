-- A board stands after an accepted format, and still stands after an accepted write or release; and which clusters have no whole frame left but for their CT entry.
-- Assumes nothing.
use mathlib.Core.Path.{◌≡◌, refl, sym, ◌∙◌}
use Prim.Native.Nat.{ℕ, ◌<◌}
use native.Mathlib.Omega.{arith}
use mathlib.Core.Bool.{Bool, true, false, ◌||◌, cond}
use Rattle.lists.proofs.Tests.{never}
use Rattle.rules.specs.declared.Params.{Params}
use Rattle.rules.specs.declared.Reply.TheVariants.{Accepted}
use Rattle.rules.specs.Numbers.{region_of}
use Rattle.rules.specs.Tables.{Board, none}
use Rattle.rules.specs.Regions.{view}
use Rattle.rules.specs.Requests.{Request, format, request_cluster, write}
use Rattle.rules.specs.Format.{bad, formatted}
use Rattle.rules.specs.Machine.{without}
use Rattle.rules.specs.Release.{released}
use Rattle.rules.specs.Replies.{reply_of}
use Rattle.rules.specs.Traces.{replay_chip, worn}
use Rattle.rules.specs.Write.{written}
use Rattle.rules.proofs.Admitted.{format_admitted}
use Rattle.rules.proofs.BadBlocks.{format_bad_is, write_bad_reserved}
use Rattle.rules.proofs.FormatPromise.{format_lengths, format_orderly, kind, lacks}
use Rattle.rules.proofs.Releases.{release_lengths, release_orderly, released_view, other}
use Rattle.rules.proofs.Sizes.{Sizes, sizes}
use Rattle.rules.proofs.WritePromise.{write_promise}
use Rattle.starts.specs.Stands.{Clear, Stands}
use Rattle.starts.specs.Timely.{Timely, WholeAt}
use Rattle.starts.proofs.Timely.{none_timely, whole_has, without_timely}
use Rattle.starts.proofs.Written.{written_clear, written_live, written_timely}

-- ---- a format: no region has a block

module _ (p : Params) (b : Board) (e : reply_of p b format ≡ Accepted) where
  nothing_left : (r c u g : ℕ) → WholeAt p (view p (formatted p b) r) c u g → ⊥
  nothing_left r c u g a = never (whole_has p (view p (formatted p b) r) c u g a) (lacks p b e r u)

  pub formatted_timely : (r : ℕ) → Timely p (view p (formatted p b) r)
  formatted_timely r = none_timely p (view p (formatted p b) r) (nothing_left r)

  two : (t w : Bool) → cond {A = ℕ} t 2 (cond w 2 0) ≡ 2 → t || w ≡ true
  two true w x = refl
  two false true x = refl
  two false false x = absurd (omega arith)

  pub formatted_stands : Stands p (formatted p b)
  formatted_stands =
      record {
        fine = (format_admitted p b e).fine;
        lengths = format_lengths p b e;
        order = format_orderly p b e;
        timely = λ r h. formatted_timely r;
        marked = λ n h x. format_bad_is p b e n h ∙ two (bad p b.chip n) (worn p b.wear n) (sym (kind p b n h) ∙ x);
      }

  pub formatted_clear : (d : ℕ) → Clear p (formatted p b) d
  formatted_clear d n u g a = nothing_left (region_of p d) d u g a

-- ---- a write

pub written_stands : (p : Params) (b : Board) → Stands p b → (q : Request) → reply_of p b (write q) ≡ Accepted
    → Stands p (written p b q) × ((d : ℕ) → d < p.C → Clear p b d → Clear p (written p b q) d) × Clear p (written p b q) (request_cluster p q)
written_stands p b st q e =
    let done = write_promise p b q e in (
      record {
        fine = st.fine;
        lengths = done.lengths;
        order = done.orderly_left;
        timely = λ r h. written_timely p b q e r h (st.timely r h);
        marked = λ n h. write_bad_reserved p b q e n h (st.marked n h);
      },
      written_clear p b q e,
      written_live p b q e,
    )

-- ---- a release

module _ (p : Params) (b : Board) (st : Stands p b) (c : ℕ) where
  z : Sizes p
  z = sizes p st.fine

  pub released_stands : Stands p (released p b c)
  released_stands =
      record {
        fine = st.fine;
        lengths = release_lengths p b c st.lengths st.order;
        order = release_orderly p b c z st.lengths st.order;
        timely = λ r h. rw (released_view p b c r) (without_timely p (view p b r) c (st.timely r h));
        marked = λ n h e. unfold released replay_chip in st.marked n h (unfold released in e);
      }

  -- but for the cluster that is released
  pub released_clear : (d : ℕ) → (d ≡ c → ⊥) → Clear p b d → Clear p (released p b c) d
  released_clear d ne clear = rw (released_view p b c (region_of p d)) here
    where
      here : (without (view p b (region_of p d)) c).seg_of d ≡ none → (u g : ℕ) → WholeAt p (without (view p b (region_of p d)) c) d u g → ⊥
      here e u g a = clear (sym (other p (view p b (region_of p d)) c d ne) ∙ e) u g (record { block = a.block; low = a.low; whole = unfold without in a.whole })

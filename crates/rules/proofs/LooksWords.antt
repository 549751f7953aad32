-- T-08's count in its own words. The programmed frames of a block are its first k; so those of a segment from its valid frame on are the frames below k and
-- below the segment's end, and their number is a difference.
-- Assumes nothing.
use mathlib.Core.Path.{◌≡◌, refl, sym, ap, ◌∙◌}
use mathlib.Core.Logic.{◌⊎◌, inl, inr}
use Prim.Native.Nat.{ℕ, ◌+◌, ◌-◌, ◌*◌, ◌/◌, ◌≤◌, ◌<◌, min}
use native.Mathlib.Nat.{div-lt_iff_lt-mul, div-mul-le_self, mod-lt}
use native.Mathlib.Omega.{arith}
use native.Mathlib.Decide.{dec_lt}
use mathlib.Core.Bool.{true, false, ◌&&◌}
use mathlib.Core.List.{List}
use lib.Dec.{eqb, leb}
use borrow.Author.Tests.{eq-eqb, le-leb, lt-leb, ne_eqb}
use Rattle.lists.specs.Parts.{all_are}
use Rattle.lists.proofs.Parts.{in_place, over_place}
use Rattle.lists.proofs.Tests.{and_no, count_between, never}
use Rattle.rules.specs.declared.Params.{Params}
use Rattle.rules.specs.Parameters.{frames}
use Rattle.rules.specs.Numbers.{place_of, region_of}
use Rattle.rules.specs.Tables.{ct_at, none}
use Rattle.rules.specs.Pages.{filled, frame, programmed, programmed_down_to}
use Rattle.rules.specs.Regions.{View, looks_at, looks_in, view, view_of}
use Rattle.rules.specs.Words.{LooksExactly, LooksListed}
use Rattle.rules.proofs.Admitted.{orderly_region}
use Rattle.rules.proofs.Frames.{erased_not}
use Rattle.rules.proofs.RegionFacts.{Entry, Neat, UpTo, filled_le, neat, neat_fronts}
use Rattle.rules.proofs.Sizes.{Sizes, sizes}
use Rattle.rules.proofs.ValidFrames.{block_of, found, frame_of_lem, held_is, is_valid_lem}
use Rattle.rules.proofs.Victims.{valid_out}

module _ (p : Params) (z : Sizes p) (r : ℕ) (vw : View) (nt : Neat p r vw) (c : ℕ) (e : Entry p vw c) where
  abbrev v : ℕ
  v = block_of p z r vw (neat_fronts nt) c e

  abbrev blk : List ℕ
  blk = vw.body v

  abbrev place : ℕ
  place = place_of p (vw.seg_of c)

  -- the valid frame, how many frames are programmed, and the first frame behind those that are looked at
  abbrev g : ℕ
  g = frame_of_lem p z r vw (neat_fronts nt) c e

  abbrev k : ℕ
  k = filled p blk

  abbrev end : ℕ
  end = min k (place * p.beta + p.beta)

  v_low : v < p.gamma
  v_low = (div-lt_iff_lt-mul z.segments).1 e.low

  up : UpTo p r v k blk
  up = (nt.blocks v v_low e.has).1

  written : (f : ℕ) → f < k → programmed p (frame p blk f) ≡ true
  written f h = (up.front f h (omega (arith, filled_le p blk))).on

  bare : (f : ℕ) → k ≤ f → f < frames p → programmed p (frame p blk f) ≡ false
  bare f h l = erased_not p (frame p blk f) (up.rest f h l)

  in_segment : g / p.beta ≡ place
  in_segment = (found p z r vw (neat_fronts nt) c e).0

  -- the valid frame is programmed, and lies in the segment
  low : place * p.beta ≤ g
  low = omega (arith, ap (λ (x : ℕ). x * p.beta) in_segment, div-mul-le_self g p.beta)

  high : g < place * p.beta + p.beta
  high =
      let h : g / p.beta < place + 1 = omega (arith, in_segment) in
      omega (arith, (div-lt_iff_lt-mul z.per_segment).0 h)

  below : g < k
  below = go (dec_lt g k)
    where
      go : Dec (g < k) → g < k
      go (yes h) = h
      go (no h) = absurd (never (is_valid_lem p z r vw (neat_fronts nt) c e).written (bare g (omega arith) e.held))

  inside : (f : ℕ) → g ≤ f → f < end → f / p.beta ≡ place
  inside f a h = in_place p.beta place f z.per_segment (omega (arith, low)) (omega (arith, h))

  -- what is counted are the frames from g on and below the end
  count : programmed_down_to p blk place g + g ≡ end
  unfolding programmed_down_to
  count =
      count_between (frames p) g end _ (omega (arith, below, high)) (omega (arith, filled_le p blk)) (λ f h. and_no (eqb (f / p.beta) place) (rw (lt-leb g f h)))
      (λ f a h. rw (eq-eqb (f / p.beta) place (inside f a h), le-leb g f a) (written f (omega (arith, h))))
      (λ f a h. past f a h (dec_lt f k))
    where
      past : (f : ℕ) → end ≤ f → f < frames p → Dec (f < k) → eqb (f / p.beta) place && (leb g f && programmed p (frame p blk f)) ≡ false
      past f a h (yes l) = rw (ne_eqb (f / p.beta) place (over_place p.beta place f z.per_segment (omega (arith, a))))
      past f a h (no l) = and_no (eqb (f / p.beta) place) (and_no (leb g f) (bare f (omega arith) h))

  looks_is : (vw.seg_of c ≡ none → ⊥) → looks_in p vw c ≡ programmed_down_to p blk place g
  unfolding looks_in
  looks_is ne = rw (ne_eqb (vw.seg_of c) none ne)

  listed : (looks : ℕ) → looks ≡ programmed_down_to p blk place g → LooksListed p vw c looks
  unfolding frames
  listed looks is =
      record {
        v = v;
        first = end - 1;
        last = g;
        low = v_low;
        inside = omega (arith, filled_le p blk, below, high);
        is_valid = valid_out p vw v g (is_valid_lem p z r vw (neat_fronts nt) c e);
        holds = held_is p z r vw (neat_fronts nt) c e;
        names = ap vw.seg_of (sym (held_is p z r vw (neat_fronts nt) c e)) ∙ (is_valid_lem p z r vw (neat_fronts nt) c e).names;
        segment = inside (end - 1) (omega (arith, below, high)) (omega (arith, below, high)) ∙ sym in_segment;
        written = λ f a h. written f (omega (arith, h, below, high));
        after = λ f a h s. behind f a h s (dec_lt f k);
        many = omega (arith, is, count, below, high);
        some = omega (arith, is, count, below, high);
        most = omega (arith, is, count, low);
      }
    where
      behind : (f : ℕ) → end - 1 < f → f < p.beta * p.d → f / p.beta ≡ g / p.beta → Dec (f < k) → all_are 255 (frame p blk f) ≡ true
      behind f a h s (yes l) = absurd (over_place p.beta place f z.per_segment (omega (arith, a, below, high)) (s ∙ in_segment))
      behind f a h s (no l) = up.rest f (omega arith) h

pub looks_exactly : LooksExactly
unfolding looks_at
looks_exactly p b o c c-low = go (nt.entries c c-low)
  where
    z : Sizes p
    z = sizes p o.fine

    r : ℕ
    r = region_of p c

    vw : View
    vw = view p b r

    nt : Neat p r vw
    nt = neat p r vw (orderly_region p b o.tidy r (mod-lt c z.regions))

    seg_is : vw.seg_of c ≡ ct_at b.ct c
    seg_is = unfold view_of in rw (eq-eqb (region_of p c) (region_of p c) refl)

    go : (vw.seg_of c ≡ none) ⊎ Entry p vw c → ((ct_at b.ct c ≡ 65535) × (looks_in p vw c ≡ 0)) ⊎ ((ct_at b.ct c ≡ 65535 → ⊥) × LooksListed p vw c (looks_in p vw c))
    go (inl n) = inl (sym seg_is ∙ n, unfold looks_in in rw (eq-eqb (vw.seg_of c) none n))
    go (inr e) =
        let ne : vw.seg_of c ≡ none → ⊥ = λ n. omega (arith, e.low, n, z.few) in
        inr (λ n. ne (seg_is ∙ n), listed p z r vw nt c e (looks_in p vw c) (looks_is p z r vw nt c e ne))

-- The definitions say what documents 01 and 02 say in plain numbers: of parameters, spare bytes, wear and bad blocks, of the plan of a write and of the free
-- block that it takes.
-- Assumes nothing.
use mathlib.Core.Path.{◌≡◌, refl, sym, ap, ◌∙◌}
use mathlib.Core.Logic.{◌⊎◌, inl, inr}
use Prim.Native.Nat.{ℕ, zero, suc, ◌+◌, ◌-◌, ◌*◌, ◌/◌, ◌%◌, ◌≤◌, ◌<◌, min}
use native.Mathlib.Nat.{div-add-mod', div-div-eq-div-mul, div-lt_iff_lt-mul, mod-lt}
use native.Mathlib.Omega.{arith}
use native.Mathlib.Decide.{ℕ_discrete}
use mathlib.Core.Bool.{Bool, true, false, not, ◌&&◌, cond}
use mathlib.Core.List.{List, [], ◌∷◌}
use lib.Dec.{eqb, leb}
use borrow.Author.Tests.{eqb-true, eqb-false, eq-eqb, ne_eqb, le-leb, leb-true, ltb-true, not-true, not-false}
use lib.ListN.{length, get_or, drop, take, set, get_or-replicate, length-set}
use lib.Seq.{ext_get_or, get_or-drop, get_or-take, get_or-set_other, get_or-set_same}
use Rattle.lists.specs.Parts.{all_are, part}
use Rattle.lists.proofs.Parts.{next}
use Rattle.lists.proofs.Searches.{first_lowest, first_spec, least_lowest, least_spec}
use Rattle.lists.proofs.Tests.{all_true_lem, and_intro, and_left, and_right, never, or_cases, or_right, so, truths}
use Rattle.rules.specs.declared.Params.{Params}
use Rattle.rules.specs.Parameters.{allowed, block_bytes, frame_bytes, frames, page_bytes, pages, per_region, within}
use Rattle.rules.specs.Numbers.{vblock_of}
use Rattle.rules.specs.Tables.{bst_at, none, not_found, wear_at}
use Rattle.rules.specs.Pages.{block, bytes32, filled, frame, page, spare, spare_bytes}
use Rattle.rules.specs.Regions.{View, assigned, valid_frames, view}
use Rattle.rules.specs.Traces.{erase, mark, on_wear, program, replay_wear}
use Rattle.rules.specs.Format.{bad, bad_mark}
use Rattle.rules.specs.Write.{free_block, has_room, lowest_unassigned, plan_of, victim}
use Rattle.rules.specs.Words.{Allowed, AllowedExactly, BadExactly, BadListed, ContinuesListed, FreeExactly, FreeListed, Full, PlanExactly, PlanListed, SpareListed, SparesExactly, WearAfter, erases_of, fifth}
use Rattle.rules.proofs.Admitted.{orderly_region}
use Rattle.rules.proofs.Continues.{open_low, open_of_lem}
use Rattle.rules.proofs.Frames.{erased_not, le_bytes}
use Rattle.rules.proofs.Opens.{all_full}
use Rattle.rules.proofs.RegionFacts.{Neat, Open, neat}
use Rattle.rules.proofs.Sizes.{Sizes, sizes, some_page, within_true}
use Rattle.rules.proofs.Victims.{victim_fewest, victim_lowest}

-- ---- parameters

within_out : (lo hi x : ℕ) → (lo ≤ x) × (x ≤ hi) → within lo hi x ≡ true
unfolding within
within_out lo hi x h = and_intro (le-leb lo x h.0) (le-leb x hi h.1)

-- c/m rounded up is at most k where m times k is c or more
share_in : (c m k : ℕ) → 0 < m → (c + (m - 1)) / m ≤ k → c ≤ m * k
share_in c m k h e =
    let l : c + (m - 1) < suc k * m = (div-lt_iff_lt-mul h).0 (omega (arith, e)) in
    omega (arith, l)

share_out : (c m k : ℕ) → 0 < m → c ≤ m * k → (c + (m - 1)) / m ≤ k
share_out c m k h e =
    let l : (c + (m - 1)) / m < suc k = (div-lt_iff_lt-mul h).1 (omega (arith, e)) in
    omega (arith, l)

allowed_in : (p : Params) → allowed p ≡ true → Allowed p
unfolding allowed per_region pages frames
allowed_in p h =
    let t = truths _ h in
    let m = within_true 1 1024 p.mu t.1.1.1.1.0 in
    record {
      sectors = within_true 16 512 p.s t.0;
      clusters = within_true 1 16 p.alpha t.1.0;
      segments = within_true 1 16 p.beta t.1.1.0;
      blocks = within_true 1 16 p.d t.1.1.1.0;
      regions = m;
      virtual = within_true 1 16 p.gamma t.1.1.1.1.1.0;
      held = within_true 1 1048576 p.C t.1.1.1.1.1.1.0;
      physical = within_true 1 65535 p.N t.1.1.1.1.1.1.1.0;
      erases = within_true 1 1000000 p.E t.1.1.1.1.1.1.1.1.0;
      pages = leb-true _ _ t.1.1.1.1.1.1.1.1.1.0;
      spread = share_in p.C p.mu _ m.0 (leb-true _ _ t.1.1.1.1.1.1.1.1.1.1.0);
    }

allowed_out : (p : Params) → Allowed p → allowed p ≡ true
unfolding allowed per_region pages frames
allowed_out p a =
    all_true_lem _ (
      within_out 16 512 p.s a.sectors,
      (
        within_out 1 16 p.alpha a.clusters,
        (
          within_out 1 16 p.beta a.segments,
          (
            within_out 1 16 p.d a.blocks,
            (
              within_out 1 1024 p.mu a.regions,
              (
                within_out 1 16 p.gamma a.virtual,
                (
                  within_out 1 1048576 p.C a.held,
                  (
                    within_out 1 65535 p.N a.physical,
                    (
                      within_out 1 1000000 p.E a.erases,
                      (le-leb _ _ a.pages, (le-leb _ _ (share_out p.C p.mu _ a.regions.0 a.spread), tt)),
                    ),
                  ),
                ),
              ),
            ),
          ),
        ),
      ),
    )

pub allowed_exactly : AllowedExactly
allowed_exactly p = (allowed_in p, allowed_out p)

-- ---- spare bytes

spare_in : (c j t v : ℕ) → c < 4294967296 → t < 4294967296 → SpareListed c j t v (spare_bytes c j t v)
unfolding spare_bytes bytes32
spare_in c j t v h k =
    record {
      long = refl;
      bytes = low;
      cluster = omega (arith, le_bytes c h);
      place = refl;
      five = refl;
      six = refl;
      stamp_bytes = mid;
      stamp = omega (arith, le_bytes t k);
      vblock = refl;
      rest = high;
    }
  where
    low : (i : ℕ) → i < 4 → get_or (spare_bytes c j t v) i 255 < 256
    low zero k = mod-lt c (omega arith)
    low (suc zero) k = mod-lt (c / 256) (omega arith)
    low (suc (suc zero)) k = mod-lt (c / 65536) (omega arith)
    low (suc (suc (suc zero))) k = mod-lt (c / 16777216) (omega arith)
    low (suc (suc (suc (suc i)))) k = absurd (omega arith)

    stamped : (i : ℕ) → i < 4 → get_or (spare_bytes c j t v) (7 + i) 255 < 256
    stamped zero k = mod-lt t (omega arith)
    stamped (suc zero) k = mod-lt (t / 256) (omega arith)
    stamped (suc (suc zero)) k = mod-lt (t / 65536) (omega arith)
    stamped (suc (suc (suc zero))) k = mod-lt (t / 16777216) (omega arith)
    stamped (suc (suc (suc (suc i)))) k = absurd (omega arith)

    mid : (i : ℕ) → 7 ≤ i → i < 11 → get_or (spare_bytes c j t v) i 255 < 256
    mid i a b =
        let e : 7 + (i - 7) ≡ i = omega arith in
        rw e at (stamped (i - 7) (omega arith))

    twelve : (i : ℕ) → 12 ≤ i → i ≡ suc (suc (suc (suc (suc (suc (suc (suc (suc (suc (suc (suc (i - 12))))))))))))
    twelve i a = omega arith

    high : (i : ℕ) → 12 ≤ i → i < 16 → get_or (spare_bytes c j t v) i 255 ≡ 255
    high i a b = ap (λ (n : ℕ). get_or (spare_bytes c j t v) n 255) (twelve i a) ∙ get_or-replicate 4 (i - 12) 255 255 (omega arith)

-- the lowest digit of a number, and what is left of it
digit : (c a x : ℕ) → a < 256 → a + 256 * x ≡ c → (c % 256 ≡ a) × (c / 256 ≡ x)
digit c a x h e = let m : c % 256 < 256 = mod-lt c (omega arith) in (omega (arith, div-add-mod' c 256), omega (arith, div-add-mod' c 256))

-- four digits are those of the number that they make
digits_back : (c a₀ a₁ a₂ a₃ : ℕ) → a₀ < 256 → a₁ < 256 → a₂ < 256 → a₃ < 256 → a₀ + 256 * (a₁ + 256 * (a₂ + 256 * a₃)) ≡ c
    → (a₀ ≡ c % 256) × (a₁ ≡ c / 256 % 256) × (a₂ ≡ c / 65536 % 256) × (a₃ ≡ c / 16777216 % 256)
digits_back c a₀ a₁ a₂ a₃ h₀ h₁ h₂ h₃ e =
    let d₀ = digit c a₀ (a₁ + 256 * (a₂ + 256 * a₃)) h₀ e in
    let d₁ = digit (c / 256) a₁ (a₂ + 256 * a₃) h₁ (sym d₀.1) in
    let d₂ = digit (c / 256 / 256) a₂ a₃ h₂ (sym d₁.1) in
    let d₃ = digit (c / 256 / 256 / 256) a₃ 0 h₃ (omega (arith, d₂.1)) in
    let e₁ : c / 65536 ≡ c / 256 / 256 = sym (div-div-eq-div-mul c 256 256) in
    let e₂ : c / 16777216 ≡ c / 256 / 256 / 256 = sym (div-div-eq-div-mul c 65536 256) ∙ ap (λ (m : ℕ). m / 256) e₁ in
    (sym d₀.0, sym d₁.0, rw e₁ (sym d₂.0), rw e₂ (sym d₃.0))

spare_out : (c j t v : ℕ) (l : List ℕ) → SpareListed c j t v l → l ≡ spare_bytes c j t v
unfolding spare_bytes bytes32
spare_out c j t v l s = ext_get_or 255 l (spare_bytes c j t v) s.long (λ i h. at i (omega (arith, s.long)))
  where
    ds : (get_or l 0 255 ≡ c % 256) × (get_or l 1 255 ≡ c / 256 % 256) × (get_or l 2 255 ≡ c / 65536 % 256) × (get_or l 3 255 ≡ c / 16777216 % 256)
    ds =
        digits_back c (get_or l 0 255) (get_or l 1 255) (get_or l 2 255) (get_or l 3 255) (s.bytes 0 (omega arith)) (s.bytes 1 (omega arith)) (s.bytes 2 (omega arith))
        (s.bytes 3 (omega arith)) s.cluster

    ts : (get_or l 7 255 ≡ t % 256) × (get_or l 8 255 ≡ t / 256 % 256) × (get_or l 9 255 ≡ t / 65536 % 256) × (get_or l 10 255 ≡ t / 16777216 % 256)
    ts =
        digits_back t (get_or l 7 255) (get_or l 8 255) (get_or l 9 255) (get_or l 10 255) (s.stamp_bytes 7 (omega arith) (omega arith)) (s.stamp_bytes 8 (omega arith) (omega arith))
        (s.stamp_bytes 9 (omega arith) (omega arith)) (s.stamp_bytes 10 (omega arith) (omega arith)) s.stamp

    at : (i : ℕ) → i < 16 → get_or l i 255 ≡ get_or (spare_bytes c j t v) i 255
    at zero h = ds.0
    at (suc zero) h = ds.1
    at (suc (suc zero)) h = ds.2
    at (suc (suc (suc zero))) h = ds.3
    at (suc (suc (suc (suc zero)))) h = s.place
    at (suc (suc (suc (suc (suc zero))))) h = s.five
    at (suc (suc (suc (suc (suc (suc zero)))))) h = s.six
    at (suc (suc (suc (suc (suc (suc (suc zero))))))) h = ts.0
    at (suc (suc (suc (suc (suc (suc (suc (suc zero)))))))) h = ts.1
    at (suc (suc (suc (suc (suc (suc (suc (suc (suc zero))))))))) h = ts.2
    at (suc (suc (suc (suc (suc (suc (suc (suc (suc (suc zero)))))))))) h = ts.3
    at (suc (suc (suc (suc (suc (suc (suc (suc (suc (suc (suc zero))))))))))) h = s.vblock
    at (suc (suc (suc (suc (suc (suc (suc (suc (suc (suc (suc (suc i)))))))))))) h = s.rest _ (omega arith) h ∙ sym (get_or-replicate 4 i 255 255 (omega arith))

pub spares_exactly : SparesExactly
spares_exactly c j t v h k l = (λ e. rw e (spare_in c j t v h k), spare_out c j t v l)

-- ---- wear

pub wear_after : WearAfter
unfolding replay_wear erases_of on_wear
wear_after wear [] n h k = omega arith
wear_after wear (program m q x ∷ os) n h k = wear_after wear os n h k
wear_after wear (mark m ∷ os) n h k = wear_after wear os n h k
wear_after wear (erase m ∷ os) n h k = go (λ w. wear_after w os n) (ℕ_discrete m n)
  where
    go : ((w : List ℕ) → n < length w → wear_at w n ≤ 4294967295 → wear_at (replay_wear w os) n ≡ min (wear_at w n + erases_of n os) 4294967295) → Dec (m ≡ n)
        → wear_at (replay_wear (set wear m (min (wear_at wear m + 1) 4294967295)) os) n ≡ min (wear_at wear n + (cond (eqb m n) 1 0 + erases_of n os)) 4294967295
    go later (yes e) =
        let w : wear_at (set wear m (min (wear_at wear m + 1) 4294967295)) n ≡ min (wear_at wear n + 1) 4294967295 =
        unfold wear_at in rw e (get_or-set_same wear n (min (get_or wear n 0 + 1) 4294967295) 0 h) in
        let i = later (set wear m (min (wear_at wear m + 1) 4294967295)) (rw length-set h) (omega (arith, w)) in
        rw (eq-eqb m n e) (omega (arith, w, i))
    go later (no e) =
        let w : wear_at (set wear m (min (wear_at wear m + 1) 4294967295)) n ≡ wear_at wear n =
        unfold wear_at in get_or-set_other wear m n (min (get_or wear m 0 + 1) 4294967295) 0 (λ x. e (sym x)) in
        let i = later (set wear m (min (wear_at wear m + 1) 4294967295)) (rw length-set h) (omega (arith, w)) in
        rw (ne_eqb m n e) (omega (arith, w, i))

-- ---- bad blocks

-- byte 5 of the spare area of page j of block n, by where it stands on the chip
fifth_at : (p : Params) (chip : List ℕ) (n j q : ℕ) → j < pages p → q ≡ n * pages p + j → get_or (spare p (block p chip n) j) 5 0 ≡ fifth p chip q
unfolding spare page block part fifth pages block_bytes frame_bytes page_bytes
fifth_at p chip n j q h e =
    let l : j * (p.s + 16) + (p.s + 5) < frames p * (p.alpha * (p.s + 16)) = omega (arith, next (p.s + 16) j (p.alpha * frames p) h) in
    get_or-drop p.s (take (p.s + 16) (drop (j * (p.s + 16)) (block p chip n))) 5 0
    ∙ get_or-take (p.s + 16) (drop (j * (p.s + 16)) (block p chip n)) (p.s + 5) 0 (omega arith)
    ∙ get_or-drop (j * (p.s + 16)) (block p chip n) (p.s + 5) 0
    ∙ get_or-take (frames p * (p.alpha * (p.s + 16))) (drop (n * (frames p * (p.alpha * (p.s + 16)))) chip) (j * (p.s + 16) + (p.s + 5)) 0 l
    ∙ get_or-drop (n * (frames p * (p.alpha * (p.s + 16)))) chip (j * (p.s + 16) + (p.s + 5)) 0
    ∙ ap (λ (i : ℕ). get_or chip i 0) (omega (arith, ap (λ (i : ℕ). i * (p.s + 16)) e))

module _ (p : Params) (chip : List ℕ) (n j q : ℕ) (low : j < pages p) (is : q ≡ n * pages p + j) where
  mark_in_lem : bad_mark p chip n j ≡ true → fifth p chip q ≡ 255 → ⊥
  unfolding bad_mark
  mark_in_lem h e = eqb-false _ _ (not-true _ h) (fifth_at p chip n j q low is ∙ e)

  mark_out : (fifth p chip q ≡ 255 → ⊥) → bad_mark p chip n j ≡ true
  unfolding bad_mark
  mark_out h = ap not (ne_eqb _ _ (λ e. h (sym (fifth_at p chip n j q low is) ∙ e)))

module _ (p : Params) (chip : List ℕ) (n : ℕ) (z : Sizes p) where
  bad_in : bad p chip n ≡ true → BadListed p chip n
  unfolding bad pages frames
  bad_in h = go (or_cases (bad_mark p chip n 0) h)
    where
      go : (bad_mark p chip n 0 ≡ true) ⊎ (leb 2 (pages p) && bad_mark p chip n 1 ≡ true) → BadListed p chip n
      go (inl e) = inl (mark_in_lem p chip n 0 _ (some_page p z) (omega arith) e)
      go (inr e) =
          let two = leb-true 2 (pages p) (and_left (leb 2 (pages p)) _ e) in
          inr (two, mark_in_lem p chip n 1 _ two (omega arith) (and_right (leb 2 (pages p)) e))

  bad_out : BadListed p chip n → bad p chip n ≡ true
  unfolding bad pages frames
  bad_out (inl h) = rw (mark_out p chip n 0 _ (some_page p z) (omega arith) h)
  bad_out (inr h) = or_right (bad_mark p chip n 0) (and_intro (le-leb 2 (pages p) h.0) (mark_out p chip n 1 _ h.0 (omega arith) h.1))

pub bad_exactly : BadExactly
bad_exactly p chip n h = (bad_in p chip n (sizes p h), bad_out p chip n (sizes p h))

-- ---- the plan of a write

module _ (p : Params) (z : Sizes p) (r : ℕ) (vw : View) (nt : Neat p r vw) where
  -- a programmed frame is not erased
  not_erased : (v : ℕ) → v < p.gamma → assigned vw v ≡ true → (f : ℕ) → f < filled p (vw.body v) → f < frames p → all_are 255 (frame p (vw.body v) f) ≡ false
  not_erased v h a f k l = go (so (all_are 255 (frame p (vw.body v) f)))
    where
      go : (all_are 255 (frame p (vw.body v) f) ≡ true) ⊎ (all_are 255 (frame p (vw.body v) f) ≡ false) → all_are 255 (frame p (vw.body v) f) ≡ false
      go (inl x) =
          absurd (never ((nt.blocks v h a).1.front f k l).on (erased_not p _ x))
      go (inr x) = x

  continues_listed : has_room p vw ≡ true → ContinuesListed p vw (vblock_of p vw.last_seg) (filled p (vw.body (vblock_of p vw.last_seg)))
  unfolding has_room
  continues_listed h =
      let some = eqb-false _ _ (not-true _ (and_left (not (eqb vw.last_seg none)) _ h)) in
      let o = open_of_lem p r vw nt some in
      let v = vblock_of p vw.last_seg in
      let low = open_low p z vw o in
      let l : filled p (vw.body v) < frames p = ltb-true _ _ (and_right (not (eqb vw.last_seg none)) h) in
      record {
        some = some;
        block = refl;
        inside = unfold frames in l;
        here = (nt.blocks v low o.has).1.rest (filled p (vw.body v)) (omega arith) l;
        lower = λ g k. not_erased v low o.has g k (omega (arith, k, l));
      }

  full_in : has_room p vw ≡ false → Full p vw
  full_in h = go nt.opened
    where
      go : (((v : ℕ) → v < p.gamma → assigned vw v ≡ false) × (vw.last_seg ≡ none)) ⊎ (((v : ℕ) × (v < p.gamma) × (assigned vw v ≡ true)) × Open p vw) → Full p vw
      go (inl w) = inl w.1
      go (inr w) =
          let low = open_low p z vw w.1 in
          let e = all_full p z r vw nt h (vblock_of p vw.last_seg) low w.1.has in
          inr (λ f k. not_erased (vblock_of p vw.last_seg) low w.1.has f (rw e (unfold frames in k)) (unfold frames in k))

  plan_listed : PlanListed p vw (plan_of p vw)
  unfolding plan_of victim lowest_unassigned
  plan_listed = go (so (has_room p vw)) (first_spec not_found p.gamma (λ v. not (assigned vw v)) (omega (arith, z.gamma_high)))
    where
      high : p.gamma ≤ not_found
      high = omega (arith, z.gamma_high)

      go : (has_room p vw ≡ true) ⊎ (has_room p vw ≡ false)
          → ((lowest_unassigned p vw ≡ not_found) × ((i : ℕ) → i < p.gamma → not (assigned vw i) ≡ false))
          ⊎ ((lowest_unassigned p vw < p.gamma) × (not (assigned vw (lowest_unassigned p vw)) ≡ true)) → PlanListed p vw (plan_of p vw)
      go (inl h) s = rw h (continues_listed h)
      go (inr h) (inl w) =
          rw (h, eq-eqb (lowest_unassigned p vw) not_found w.0)
          (record {
            full = full_in h;
            low = chosen (least_spec (λ v. length (valid_frames p vw v)) not_found p.gamma (λ v. true) high);
            every = λ u k. not-false _ (w.1 u k);
            fewest = victim_fewest p z vw;
            lowest = λ u k. victim_lowest p z vw u (omega (arith, k, chosen (least_spec (λ v. length (valid_frames p vw v)) not_found p.gamma (λ v. true) high))) k;
          })
        where
          chosen : ((victim p vw ≡ not_found) × ((i : ℕ) → i < p.gamma → ◌≡◌ {A = Bool} true false))
              ⊎ ((victim p vw < p.gamma) × (◌≡◌ {A = Bool} true true) × ((i : ℕ) → i < p.gamma → ◌≡◌ {A = Bool} true true → length (valid_frames p vw (victim p vw)) ≤ length (valid_frames p vw i)))
              → victim p vw < p.gamma
          chosen (inl x) = absurd (never refl (x.1 0 z.vblocks))
          chosen (inr x) = x.0
      go (inr h) (inr w) =
          rw (h, ne_eqb (lowest_unassigned p vw) not_found (omega (arith, w.0, high)))
          (record {
            full = full_in h;
            low = w.0;
            bare = not-true _ w.1;
            lower = λ u k. not-false _ (first_lowest not_found p.gamma (λ v. not (assigned vw v)) high u (omega (arith, k, w.0)) k);
          })

pub plan_exactly : PlanExactly
plan_exactly p b h r low = plan_listed p (sizes p h.fine) r (view p b r) (neat p r (view p b r) (orderly_region p b h.tidy r low))

-- ---- the free block

pub free_exactly : FreeExactly
unfolding free_block
free_exactly p b h =
    let z = sizes p h.fine in
    go z (least_spec (wear_at b.wear) not_found p.N (λ n. eqb (bst_at b.bst n) 0) z.blocks)
  where
    go : Sizes p
        → ((free_block p b.bst b.wear ≡ not_found) × ((i : ℕ) → i < p.N → eqb (bst_at b.bst i) 0 ≡ false))
        ⊎ ((free_block p b.bst b.wear < p.N) × (eqb (bst_at b.bst (free_block p b.bst b.wear)) 0 ≡ true)
        × ((i : ℕ) → i < p.N → eqb (bst_at b.bst i) 0 ≡ true → wear_at b.wear (free_block p b.bst b.wear) ≤ wear_at b.wear i))
        → ((free_block p b.bst b.wear ≡ 65535) × ((m : ℕ) → m < p.N → bst_at b.bst m ≡ 0 → ⊥)) ⊎ FreeListed p b (free_block p b.bst b.wear)
    go z (inl w) = inl (w.0, λ m k e. never (eq-eqb _ _ e) (w.1 m k))
    go z (inr w) =
        inr (record {
          low = w.0;
          free = eqb-true _ _ w.1;
          least = λ m k e. w.2 m k (eq-eqb _ _ e);
          lowest = λ m k e. least_lowest (wear_at b.wear) not_found p.N (λ n. eqb (bst_at b.bst n) 0) z.blocks m (omega (arith, k, w.0)) k (eq-eqb _ _ e);
        })

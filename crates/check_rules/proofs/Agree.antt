-- The check says exactly what the rules say, for every content of chip and tables of the right lengths.
-- Assumes nothing.
use mathlib.Core.Path.{ap, refl, sym, ◌∙◌, ◌≡◌}
use mathlib.Core.Logic.{inl, inr, ◌⊎◌}
use mathlib.Core.Bool.{◌&&◌, Bool, cond, false, not, true, ◌||◌}
use mathlib.Core.List.{List, []}
use Prim.Native.Nat.{◌%◌, ◌*◌, ◌+◌, ◌/◌, ◌<◌, ℕ, ◌≤◌}
use native.Mathlib.Decide.{dec_lt, ℕ_discrete}
use native.Mathlib.Nat.{div-add-mod', div-lt_iff_lt-mul, mod-lt}
use native.Mathlib.Omega.{arith}
use lib.Dec.{eqb, ltb}
use lib.ListN.{length}
use borrow.Author.Tests.{eq-eqb, eqb-false, eqb-true, leb-true, ltb-true, ne_eqb, not-true}
use Rattle.lists.specs.Below.{all_below, count_below}
use Rattle.lists.proofs.Tests.{all_at, all_below_intro, all_true_lem, and_intro, and_left, and_right, never, or_cases, truths}
use Rattle.lists.proofs.Counts.{each_met}
use Rattle.rules.specs.declared.Params.{Params}
use Rattle.rules.specs.Numbers.{region_of}
use Rattle.rules.specs.Orderly.{block_rule, blocks_rule, bst_rule, bt_rule, cluster_rule, ct_rule, entry_rule, free_rule, fst_rule, region_blocks, region_fst, rules_of}
use Rattle.rules.specs.Pages.{block, erased, filled, frame, held}
use Rattle.rules.specs.Parameters.{allowed}
use Rattle.rules.specs.Regions.{assigned, view}
use Rattle.rules.specs.Replies.{lengths_fit}
use Rattle.rules.specs.Marks.{marks_of}
use Rattle.rules.specs.Tables.{Board, board_of, bst_at, bt_at, bt_entry, marks_length, none}
use Rattle.rules.proofs.Admitted.{eight_all, eight_region}
use Rattle.rules.proofs.Isolation.{index_low}
use Rattle.rules.proofs.MarkFacts.{table_length}
use Rattle.rules.proofs.RegionFacts.{region_orderly, up_to}
use Rattle.rules.proofs.Sizes.{Sizes, sizes}
use Rattle.rules.proofs.TableFacts.{Tables, chip_size, eight_rules, tables_eight}
use Rattle.rules.proofs.Totals.{used_total}
use Rattle.check_tables.specs.Entries.{differs, used_ok}
use Rattle.check_rules.specs.Check.{Lengths, chip_ok, cluster_ok, clusters_ok, fst_ok, region_ok, tables_ok, vblock_ok}
use Rattle.check_rules.proofs.Same.{Names, assigned_no, assigned_yes, body_is, entry_other, entry_same, open_same}

-- the region that the first page of block n tells
home : Params → List ℕ → ℕ → ℕ
home p chip n = region_of p (held p (frame p (block p chip n) 0))

pub same_truth : (x y : Bool) → (x ≡ true → y ≡ true) → (y ≡ true → x ≡ true) → x ≡ y
same_truth true y f g = sym (f refl)
same_truth false true f g = g refl
same_truth false false f g = refl

-- every index of BT is entry v of a region r
index : (m k i : ℕ) → 1 ≤ k → i < m * k → (i / k < m) × (i % k < k) × (i / k * k + i % k ≡ i)
index m k i h l = ((div-lt_iff_lt-mul h).1 l, mod-lt i h, div-add-mod' i k)

module _ (p : Params) (b : Board) (fine : Sizes p) (len : lengths_fit p b ≡ true) where
  abbrev E : ℕ → ℕ → ℕ
  E r v = bt_at p b.bt r v

  -- a block of region r tells it in its first page
  block_home : (r v n : ℕ) → block_rule p r v (block p b.chip n) ≡ true → home p b.chip n ≡ r
  unfolding home block_rule
  block_home r v n h =
      ((up_to p r v (filled p (block p b.chip n)) (block p b.chip n) (and_right (ltb 0 (filled p (block p b.chip n))) h)).front 0
      (ltb-true 0 _ (and_left (ltb 0 (filled p (block p b.chip n))) _ h)) fine.some).mine

  names_of : ((i : ℕ) → i < p.mu * p.gamma → (bt_entry b.bt i ≡ none) ⊎ (bt_entry b.bt i < p.N)) → Names p b
  unfolding bt_at lengths_fit
  names_of h = record { fine = fine; chip_length = eqb-true _ _ (truths _ len).0 ∙ chip_size p; low = λ r v hr hv ne. go r v ne (h (r * p.gamma + v) (index_low p r v hr hv)) }
    where
      go : (r v : ℕ) → (E r v ≡ none → ⊥) → (E r v ≡ none) ⊎ (E r v < p.N) → E r v < p.N
      go r v ne (inl e) = absurd (ne e)
      go r v ne (inr e) = e

  not_none : (n x : ℕ) → n < p.N → x ≡ n → x ≡ none → ⊥
  not_none n x h e k = omega (arith, fine.blocks)

  -- ---- what is orderly passes the check
  module _ (o : eight_rules p b ≡ true) where
    t : Tables p b
    t = tables_eight p b len o

    nm : Names p b
    nm = names_of t.names

    region : (r : ℕ) → r < p.mu → region_orderly p r (view p b r) ≡ true
    region = eight_region p b o

    rule : (r v : ℕ) → r < p.mu → v < p.gamma → (E r v ≡ none → ⊥) → block_rule p r v (block p b.chip (E r v)) ≡ true
    unfolding region_orderly region_blocks
    rule r v hr hv ne =
        rw (assigned_yes p b nm r hr v hv ne, body_is p b nm r hr v hv ne) at
        (all_at p.gamma (λ v. not (assigned (view p b r) v) || block_rule p r v ((view p b r).body v)) (truths _ (region r hr)).0 v hv)

    apart : (r v : ℕ) → r < p.mu → v < p.gamma → (E r v ≡ none → ⊥) → differs p b.bt r v ≡ true
    unfolding differs bt_at
    apart r v hr hv ne = all_below_intro v _ (λ u k. ap not (ne_eqb (E r u) (E r v) (λ e. go u k e)))
      where
        go : (u : ℕ) → u < v → E r u ≡ E r v → ⊥
        go u k e =
            let q : r * p.gamma + v ≡ r * p.gamma + u = t.once (r * p.gamma + v) (r * p.gamma + u) (index_low p r v hr hv) (index_low p r u hr (omega arith)) (sym e) ne in
            omega (arith, q)

    vblock_ok_lem : (r v : ℕ) → r < p.mu → v < p.gamma → vblock_ok p b.chip b.bt b.bst r v ≡ true
    unfolding vblock_ok bt_at
    vblock_ok_lem r v hr hv = go (ℕ_discrete (E r v) none)
      where
        go : Dec (E r v ≡ none) → vblock_ok p b.chip b.bt b.bst r v ≡ true
        go (yes e) = rw (eq-eqb (E r v) none e)
        go (no e) =
            rw (ne_eqb (E r v) none e)
            (and_intro (apart r v hr hv e) (and_intro (eq-eqb _ 1 (t.used_back (r * p.gamma + v) (index_low p r v hr hv) (E r v) (nm.low r v hr hv e) refl)) (rule r v hr hv e)))

    counted : used_ok p b.bt b.bst ≡ true
    unfolding used_ok
    counted = eq-eqb _ _ (used_total p fine b t)

    clusters_ok_lem : (r : ℕ) → r < p.mu → clusters_ok p b.chip b.ct b.bt r ≡ true
    unfolding clusters_ok region_orderly cluster_rule
    clusters_ok_lem r h = all_below_intro p.C _ (λ c l. go c l (ℕ_discrete (region_of p c) r))
      where
        go : (c : ℕ) → c < p.C → Dec (region_of p c ≡ r) → cond (eqb (region_of p c) r) (cluster_ok p b.chip b.ct b.bt r c) true ≡ true
        go c l (yes e) =
            rw (eq-eqb (region_of p c) r e)
            (sym (entry_same p b nm r h c e) ∙ all_at p.C (λ c'. eqb ((view p b r).seg_of c') none || entry_rule p (view p b r) c') (truths _ (region r h)).1.1.0 c l)
        go c l (no e) = rw (ne_eqb (region_of p c) r e)

    region_ok_lem : (r : ℕ) → r < p.mu → region_ok p b.chip b.ct b.bt b.fst b.bst r ≡ true
    unfolding region_ok region_orderly
    region_ok_lem r h =
        and_intro (all_below_intro p.gamma _ (λ v k. vblock_ok_lem r v h k)) (and_intro (sym (open_same p b nm r h (λ v hv ne. rule r v h hv ne)) ∙ (truths _ (region r h)).1.0) (clusters_ok_lem r h))

    passes : tables_ok p b.bt b.bst && chip_ok p b.chip b.ct b.bt b.fst b.bst ≡ true
    unfolding tables_ok chip_ok eight_rules rules_of
    passes =
        let k = truths _ o in
        and_intro (and_intro k.0 (and_intro k.1.0 counted))
        (and_intro k.1.1.1.1.0 (all_below_intro p.mu _ region_ok_lem))

  -- ---- what passes the check is orderly
  module _ (k : tables_ok p b.bt b.bst ≡ true) (l : chip_ok p b.chip b.ct b.bt b.fst b.bst ≡ true) where
    k₀ : bst_rule p b.bst ≡ true
    unfolding tables_ok
    k₀ = and_left (bst_rule p b.bst) _ k

    k₁ : bt_rule p b.bt ≡ true
    unfolding tables_ok
    k₁ = and_left (bt_rule p b.bt) _ (and_right (bst_rule p b.bst) k)

    k₂ : used_ok p b.bt b.bst ≡ true
    unfolding tables_ok
    k₂ = and_right (bt_rule p b.bt) (and_right (bst_rule p b.bst) k)

    l₀ : free_rule p b.chip b.bst ≡ true
    unfolding chip_ok
    l₀ = and_left (free_rule p b.chip b.bst) _ l

    l₁ : (r : ℕ) → r < p.mu → region_ok p b.chip b.ct b.bt b.fst b.bst r ≡ true
    unfolding chip_ok
    l₁ = all_at p.mu (region_ok p b.chip b.ct b.bt b.fst b.bst) (and_right (free_rule p b.chip b.bst) l)

    entries : (i : ℕ) → i < p.mu * p.gamma → (bt_entry b.bt i ≡ none) ⊎ (bt_entry b.bt i < p.N)
    unfolding bt_rule
    entries i h = go (or_cases (eqb (bt_entry b.bt i) none) (all_at (p.mu * p.gamma) (λ i. eqb (bt_entry b.bt i) none || ltb (bt_entry b.bt i) p.N) k₁ i h))
      where
        go : (eqb (bt_entry b.bt i) none ≡ true) ⊎ (ltb (bt_entry b.bt i) p.N ≡ true) → (bt_entry b.bt i ≡ none) ⊎ (bt_entry b.bt i < p.N)
        go (inl e) = inl (eqb-true _ _ e)
        go (inr e) = inr (ltb-true _ _ e)

    ns : Names p b
    ns = names_of entries

    -- a named block: named once in its region, used, of that region
    vblock : (r v : ℕ) → r < p.mu → v < p.gamma → (E r v ≡ none → ⊥) → (differs p b.bt r v ≡ true) × (bst_at b.bst (E r v) ≡ 1) × (block_rule p r v (block p b.chip (E r v)) ≡ true)
    unfolding region_ok vblock_ok
    vblock r v hr hv ne =
        let w = rw (ne_eqb (E r v) none ne) at (all_at p.gamma (vblock_ok p b.chip b.bt b.bst r)
        (and_left (all_below p.gamma (vblock_ok p b.chip b.bt b.bst r)) _ (l₁ r hr)) v hv) in
        let u = and_right (differs p b.bt r v) w in
        (and_left (differs p b.bt r v) _ w, eqb-true _ _ (and_left (eqb (bst_at b.bst (E r v)) 1) _ u), and_right (eqb (bst_at b.bst (E r v)) 1) u)

    -- in one region, two entries that name one block are one
    one : (r u v : ℕ) → r < p.mu → u < v → v < p.gamma → (E r v ≡ none → ⊥) → E r u ≡ E r v → ⊥
    unfolding differs
    one r u v hr h hv ne e = never (eq-eqb (E r u) (E r v) e) (not-true _ (all_at v (λ u. not (eqb (E r u) (E r v))) (vblock r v hr hv ne).0 u h))

    once : (i j : ℕ) → i < p.mu * p.gamma → j < p.mu * p.gamma → bt_entry b.bt i ≡ bt_entry b.bt j → (bt_entry b.bt i ≡ none → ⊥) → i ≡ j
    unfolding bt_at
    once i j hi hj e ne =
        let x = index p.mu p.gamma i fine.vblocks hi in
        let y = index p.mu p.gamma j fine.vblocks hj in
        let ei : E (i / p.gamma) (i % p.gamma) ≡ bt_entry b.bt i = ap (λ (x : ℕ). bt_entry b.bt x) x.2 in
        let ej : E (j / p.gamma) (j % p.gamma) ≡ bt_entry b.bt j = ap (λ (x : ℕ). bt_entry b.bt x) y.2 in
        let ni : E (i / p.gamma) (i % p.gamma) ≡ none → ⊥ = λ q. ne (sym ei ∙ q) in
        let nj : E (j / p.gamma) (j % p.gamma) ≡ none → ⊥ = λ q. ne (e ∙ sym ej ∙ q) in
        let ri = block_home (i / p.gamma) (i % p.gamma) (E (i / p.gamma) (i % p.gamma)) (vblock (i / p.gamma) (i % p.gamma) x.0 x.1 ni).2 in
        let rj = block_home (j / p.gamma) (j % p.gamma) (E (j / p.gamma) (j % p.gamma)) (vblock (j / p.gamma) (j % p.gamma) y.0 y.1 nj).2 in
        let same : E (i / p.gamma) (i % p.gamma) ≡ E (j / p.gamma) (j % p.gamma) = ei ∙ e ∙ sym ej in
        let r : i / p.gamma ≡ j / p.gamma = sym ri ∙ ap (home p b.chip) same ∙ rj in
        go (i / p.gamma) (j / p.gamma) (i % p.gamma) (j % p.gamma) r x.0 x.1 y.1 same ni nj x.2 y.2 (dec_lt (i % p.gamma) (j % p.gamma)) (dec_lt (j % p.gamma) (i % p.gamma))
      where
        go : (r s u v : ℕ) → r ≡ s → r < p.mu → u < p.gamma → v < p.gamma → E r u ≡ E s v → (E r u ≡ none → ⊥) → (E s v ≡ none → ⊥)
            → r * p.gamma + u ≡ i → s * p.gamma + v ≡ j → Dec (u < v) → Dec (v < u) → i ≡ j
        go r s u v q hr hu hv a nu nv ui vj (yes d) w = absurd (one r u v hr d hv (λ z. nv (ap (λ (x : ℕ). E x v) (sym q) ∙ z)) (a ∙ ap (λ (x : ℕ). E x v) (sym q)))
        go r s u v q hr hu hv a nu nv ui vj (no d) (yes w) = absurd (one r v u hr w hu nu (sym (a ∙ ap (λ (x : ℕ). E x v) (sym q))))
        go r s u v q hr hu hv a nu nv ui vj (no d) (no w) = let z : u ≡ v = omega arith in let y : r * p.gamma + u ≡ s * p.gamma + v = rw (q, z) in sym ui ∙ y ∙ vj

    used_back : (i : ℕ) → i < p.mu * p.gamma → (n : ℕ) → n < p.N → bt_entry b.bt i ≡ n → bst_at b.bst n ≡ 1
    unfolding bt_at
    used_back i hi n hn e =
        let x = index p.mu p.gamma i fine.vblocks hi in
        let ei : E (i / p.gamma) (i % p.gamma) ≡ n = ap (λ (x : ℕ). bt_entry b.bt x) x.2 ∙ e in
        rw ei at (vblock (i / p.gamma) (i % p.gamma) x.0 x.1 (not_none n _ hn ei)).1

    -- an entry that is not none is a block that is used, no two the same; there are no more used blocks, so each is an entry
    used : (n : ℕ) → n < p.N → bst_at b.bst n ≡ 1 → (i : ℕ) × (i < p.mu * p.gamma) × (bt_entry b.bt i ≡ n)
    unfolding used_ok
    used n h e =
        let w =
        each_met (p.mu * p.gamma) p.N (λ i. not (eqb (bt_entry b.bt i) none)) (λ n. eqb (bst_at b.bst n) 1) (bt_entry b.bt)
        (λ i k s. let x = low i (entries i k) s in (x, eq-eqb _ _ (used_back i k (bt_entry b.bt i) x refl)))
        (λ i j k m s u q. once i j k m q (eqb-false _ _ (not-true _ s)))
        (omega (arith, eqb-true (count_below p.N (λ n. eqb (bst_at b.bst n) 1)) _ k₂)) n h (eq-eqb _ _ e) in
        (w.0, w.1, w.3)
      where
        low : (i : ℕ) → (bt_entry b.bt i ≡ none) ⊎ (bt_entry b.bt i < p.N) → not (eqb (bt_entry b.bt i) none) ≡ true → bt_entry b.bt i < p.N
        low i (inl q) s = absurd (eqb-false _ _ (not-true _ s) q)
        low i (inr q) s = q

    tables : Tables p b
    unfolding bst_rule free_rule lengths_fit
    tables =
        record {
          chip_length = eqb-true _ _ (truths _ len).0 ∙ chip_size p;
          ct_length = eqb-true _ _ (truths _ len).1.0;
          bt_length = eqb-true _ _ (truths _ len).1.1.0;
          fst_length = eqb-true _ _ (truths _ len).1.1.1.0;
          bst_length = eqb-true _ _ (truths _ len).1.1.1.1.0;
          wear_length = eqb-true _ _ (truths _ len).1.1.1.1.1.0;
          stamps_length = eqb-true _ _ (truths _ len).1.1.1.1.1.1.1.0;
          kinds = λ n h. leb-true _ _ (all_at p.N _ k₀ n h);
          names = entries;
          once = once;
          used = used;
          used_back = used_back;
          free = λ n h e. rw (eq-eqb (bst_at b.bst n) 0 e) at (all_at p.N (λ n. not (eqb (bst_at b.bst n) 0) || erased (block p b.chip n)) l₀ n h);
        }

    blocks : (r : ℕ) → r < p.mu → region_blocks p r (view p b r) ≡ true
    unfolding region_blocks
    blocks r h = all_below_intro p.gamma _ (λ v hv. go v hv (ℕ_discrete (E r v) none))
      where
        go : (v : ℕ) → v < p.gamma → Dec (E r v ≡ none) → not (assigned (view p b r) v) || block_rule p r v ((view p b r).body v) ≡ true
        go v hv (yes e) = rw (assigned_no p b ns r h v hv e)
        go v hv (no e) = rw (assigned_yes p b ns r h v hv e, body_is p b ns r h v hv e) (vblock r v h hv e).2

    clusters : (r : ℕ) → r < p.mu → all_below p.C (cluster_rule p (view p b r)) ≡ true
    unfolding cluster_rule region_ok clusters_ok
    clusters r h = all_below_intro p.C _ (λ c l. go c l (ℕ_discrete (region_of p c) r))
      where
        passed : (c : ℕ) → c < p.C → cond (eqb (region_of p c) r) (cluster_ok p b.chip b.ct b.bt r c) true ≡ true
        passed =
            all_at p.C (λ c. cond (eqb (region_of p c) r) (cluster_ok p b.chip b.ct b.bt r c) true)
            (and_right (fst_ok p b.chip b.bt b.fst r) (and_right (all_below p.gamma (vblock_ok p b.chip b.bt b.bst r)) (l₁ r h)))

        go : (c : ℕ) → c < p.C → Dec (region_of p c ≡ r) → eqb ((view p b r).seg_of c) none || entry_rule p (view p b r) c ≡ true
        go c l (yes e) = entry_same p b ns r h c e ∙ (rw (eq-eqb (region_of p c) r e) at (passed c l))
        go c l (no e) = rw (entry_other p b ns r h c e)

    opens : (r : ℕ) → r < p.mu → region_fst p (view p b r) ≡ true
    unfolding region_ok
    opens r h = open_same p b ns r h (λ v hv ne. (vblock r v h hv ne).2) ∙ and_left (fst_ok p b.chip b.bt b.fst r) _
        (and_right (all_below p.gamma (vblock_ok p b.chip b.bt b.bst r)) (l₁ r h))

    is_nine : eight_rules p b ≡ true
    unfolding region_orderly
    is_nine = eight_all p b fine tables (λ r h. all_true_lem _ (blocks r h, (opens r h, (clusters r h, tt))))

  agree : tables_ok p b.bt b.bst && chip_ok p b.chip b.ct b.bt b.fst b.bst ≡ eight_rules p b
  agree = same_truth (tables_ok p b.bt b.bst && chip_ok p b.chip b.ct b.bt b.fst b.bst) (eight_rules p b)
      (λ h. is_nine (and_left (tables_ok p b.bt b.bst) _ h) (and_right (tables_ok p b.bt b.bst) h)) passes

-- lengths that fit, as the check asks for them, and back
pub lengths_in : (p : Params) (b : Board) → allowed p ≡ true → lengths_fit p b ≡ true → Lengths p b.chip b.ct b.bt b.fst b.bst
unfolding lengths_fit
lengths_in p b a l =
    let t = truths _ l in
    record {
      fine = a;
      chip_length = eqb-true _ _ t.0;
      ct_length = eqb-true _ _ t.1.0;
      bt_length = eqb-true _ _ t.1.1.0;
      fst_length = eqb-true _ _ t.1.1.1.0;
      bst_length = eqb-true _ _ t.1.1.1.1.0;
    }

pub marks_fit : (p : Params) (b : Board) → lengths_fit p b ≡ true → length b.marks ≡ marks_length p
unfolding lengths_fit
marks_fit p b l = eqb-true _ _ (truths _ l).1.1.1.1.1.1.0

lengths_out : (p : Params) (chip ct bt fst bst marks stamps : List ℕ) → Lengths p chip ct bt fst bst → length marks ≡ marks_length p → length stamps ≡ p.mu
    → lengths_fit p (board_of chip ct bt fst bst bst marks stamps) ≡ true
unfolding lengths_fit
lengths_out p chip ct bt fst bst marks stamps z m t =
    all_true_lem _ (
      eq-eqb _ _ z.chip_length,
      (
        eq-eqb _ _ z.ct_length,
        (eq-eqb _ _ z.bt_length, (eq-eqb _ _ z.fst_length, (eq-eqb _ _ z.bst_length, (eq-eqb _ _ z.bst_length, (eq-eqb _ _ m, (eq-eqb _ _ t, tt)))))),
      ),
    )

-- the nine rules look at no wear, at no mark and at no stamp
nine_same : (p : Params) (chip ct bt fst bst w w' m m' s s' : List ℕ) → eight_rules p (board_of chip ct bt fst bst w m s) ≡ eight_rules p (board_of chip ct bt fst bst w' m' s')
unfolding eight_rules rules_of blocks_rule fst_rule ct_rule
nine_same p chip ct bt fst bst w w' m m' s s' = refl

-- the tables' rules, then the chip's, are the nine rules: where the marks are the board's own, those make an orderly state
pub check_agrees : (p : Params) (chip ct bt fst bst : List ℕ) → Lengths p chip ct bt fst bst → (wear marks stamps : List ℕ)
    → tables_ok p bt bst && chip_ok p chip ct bt fst bst ≡ eight_rules p (board_of chip ct bt fst bst wear marks stamps)
check_agrees p chip ct bt fst bst z wear marks stamps =
    let own = marks_of p (board_of chip ct bt fst bst [] [] []) in
    let b = board_of chip ct bt fst bst bst own fst in
    agree p b (sizes p z.fine) (lengths_out p chip ct bt fst bst own fst z (table_length p _) z.fst_length)
    ∙ (nine_same p chip ct bt fst bst bst wear own marks fst stamps)

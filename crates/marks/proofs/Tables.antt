-- The table of marks: each index is one word of one virtual block, so a table is known by its words, a word by its bits, and a store changes one word.
-- Assumes nothing.
use mathlib.Core.Path.{ap, ap₂, refl, sym, ◌∙◌, ◌≡◌}
use mathlib.Core.Bool.{◌&&◌, Bool, cond, false, true}
use mathlib.Core.List.{List}
use Prim.Native.Nat.{◌%◌, ◌*◌, ◌+◌, ◌-◌, ◌/◌, ◌<◌, ◌^◌, min, suc, zero, ℕ}
use native.Mathlib.Nat.{div-add-mod', div-lt_iff_lt-mul, mod-lt, mul-zero}
use native.Mathlib.Decide.{dec_lt, ℕ_discrete}
use native.Mathlib.Omega.{arith}
use lib.Arith.{digits_div, digits_lt, digits_mod}
use lib.Dec.{eqb, ltb}
use lib.ListN.{get_or, get_or-replicate, length, length-replicate, replicate, set}
use borrow.Author.Tests.{eq-eqb, eqb-true, le-ltb, lt-ltb, ne_eqb}
use Rattle.lists.specs.Below.{bits_below, updated}
use Rattle.lists.proofs.Tests.{and_left, and_right}
use Rattle.lists.proofs.Joins.{updated_other, updated_same}
use Rattle.bits.proofs.Words.{bits_at, bits_cong, bits_none, bits_of}
use Rattle.lists.proofs.Lists.{list_cong, list_set}
use Rattle.rules.specs.declared.Params.{Params}
use Rattle.rules.specs.Tables.{Board, mark_index, marks_length, word_at}
use Rattle.rules.specs.Regions.{view}
use Rattle.rules.specs.Marks.{Marks, entry_of, marked, marks_in, marks_of, marks_on, table_of, word_of}
use Rattle.rules.proofs.MarkFacts.{table_is, table_word}
use Rattle.marks.specs.Marks.{mark_in}
use Rattle.marks.specs.Kept.{first_marks, put_mark}

-- ---- where a word stands

pub index_in : (p : Params) (r v w : ℕ) → r < p.mu → v < p.gamma → w < 4 → mark_index p r v w < marks_length p
index_in p r v w h k l = omega (arith, digits_lt {q = r} {m = p.mu} {r = v} {c = p.gamma} h k)

pub index_region : (p : Params) (r v w : ℕ) → v < p.gamma → w < 4 → mark_index p r v w / 4 / p.gamma ≡ r
index_region p r v w k l = let e : mark_index p r v w / 4 ≡ r * p.gamma + v = omega arith in rw e (digits_div r k)

pub index_vblock : (p : Params) (r v w : ℕ) → v < p.gamma → w < 4 → mark_index p r v w / 4 % p.gamma ≡ v
index_vblock p r v w k l = let e : mark_index p r v w / 4 ≡ r * p.gamma + v = omega arith in rw e (digits_mod r k)

pub index_word : (p : Params) (r v w : ℕ) → w < 4 → mark_index p r v w % 4 ≡ w
index_word p r v w l = omega arith

-- what stands at an index of the table
pub record Place (p : Params) (k : ℕ) : Type 0 where
  pub region : k / 4 / p.gamma < p.mu
  pub vblock : k / 4 % p.gamma < p.gamma
  pub word : k % 4 < 4
  pub here : mark_index p (k / 4 / p.gamma) (k / 4 % p.gamma) (k % 4) ≡ k

some : (a b k : ℕ) → k < 4 * (a * b) → 0 < b
some a zero k h = let e : a * 0 ≡ 0 = mul-zero a in absurd (omega arith)
some a (suc b) k h = omega arith

pub place : (p : Params) (k : ℕ) → k < marks_length p → Place p k
place p k h =
    let g : 0 < p.gamma = some p.mu p.gamma k h in
    record {
      region = (div-lt_iff_lt-mul g).1 (omega arith);
      vblock = mod-lt (k / 4) g;
      word = omega arith;
      here = omega (arith, div-add-mod' (k / 4) p.gamma);
    }

-- ---- a table by its words

pub word_cong : (w : ℕ) (m n : ℕ → Bool) → ((i : ℕ) → i < 64 → m (64 * w + i) ≡ n (64 * w + i)) → word_of m w ≡ word_of n w
unfolding word_of
word_cong w m n h = bits_cong 64 (λ i. m (64 * w + i)) (λ i. n (64 * w + i)) h

pub entry_at : (p : Params) (m : Marks) (r v w : ℕ) → v < p.gamma → w < 4 → entry_of p m (mark_index p r v w) ≡ word_of (m r v) w
unfolding entry_of
entry_at p m r v w k l = rw (index_region p r v w k l, index_vblock p r v w k l, index_word p r v w l)

-- word w of virtual block v of region r
pub table_at : (p : Params) (m : Marks) (r v w : ℕ) → r < p.mu → v < p.gamma → w < 4 → get_or (table_of p m) (mark_index p r v w) 0 ≡ word_of (m r v) w
table_at p m r v w h k l = table_word p m (mark_index p r v w) (index_in p r v w h k l) ∙ entry_at p m r v w k l

-- marks that agree give the same table
pub table_cong : (p : Params) (m n : Marks)
    → ((r v f : ℕ) → r < p.mu → v < p.gamma → f < 256 → m r v f ≡ n r v f) → table_of p m ≡ table_of p n
unfolding table_of entry_of
table_cong p m n h =
    list_cong (marks_length p) (entry_of p m) (entry_of p n) (λ k l.
    let a = place p k l in word_cong (k % 4) _ _ (λ i j. h (k / 4 / p.gamma) (k / 4 % p.gamma) (64 * (k % 4) + i) a.region a.vblock (omega (arith, a.word, j))))

-- the table without a mark
pub table_none : (p : Params) → replicate (marks_length p) 0 ≡ table_of p (λ r v f. false)
unfolding entry_of word_of
table_none p =
    table_is p (λ r v f. false) (replicate (marks_length p) 0) (length-replicate (marks_length p) 0) (λ k h.
    get_or-replicate (marks_length p) k 0 0 h ∙ sym (bits_none 64 (λ i. false) (λ i b. refl)))

-- ---- one word stored

same_index : (p : Params) (a b c r v w : ℕ) → a ≡ r → b ≡ v → c ≡ w → mark_index p a b c ≡ mark_index p r v w
same_index p a b c r v w q s t = rw (q, s, t)

put_here : (m : Marks) (r v f : ℕ) (x : Bool) (i : ℕ) → updated (m r v) f x i ≡ put_mark m r v f x r v i
unfolding updated put_mark
put_here m r v f x i = rw (eq-eqb r r refl, eq-eqb v v refl)

put_other : (m : Marks) (r v f : ℕ) (x : Bool) (a b i : ℕ) → (a ≡ r → b ≡ v → i ≡ f → ⊥) → m a b i ≡ put_mark m r v f x a b i
unfolding put_mark
put_other m r v f x a b i no' = go (eqb a r && (eqb b v && eqb i f)) refl
  where
    go : (t : Bool) → eqb a r && (eqb b v && eqb i f) ≡ t → m a b i ≡ cond t x (m a b i)
    go false e = refl
    go true e =
        let u = and_right (eqb a r) e in
        absurd (no' (eqb-true a r (and_left (eqb a r) _ e)) (eqb-true b v (and_left (eqb b v) _ u)) (eqb-true i f (and_right (eqb b v) u)))

-- where m and n agree but in one word, the table of m with that word of n is the table of n
pub table_set : (p : Params) (m n : Marks) (r v w : ℕ) → r < p.mu → v < p.gamma → w < 4
    → ((a b c i : ℕ) → c < 4 → i < 64 → (a ≡ r → b ≡ v → c ≡ w → ⊥) → m a b (64 * c + i) ≡ n a b (64 * c + i))
    → set (table_of p m) (mark_index p r v w) (word_of (n r v) w) ≡ table_of p n
unfolding table_of entry_of
table_set p m n r v w h k l other =
    list_set (marks_length p) (entry_of p m) (mark_index p r v w) (word_of (n r v) w) (index_in p r v w h k l)
    ∙ list_cong (marks_length p) _ (entry_of p n) (λ j a. go j (place p j a) (ℕ_discrete j (mark_index p r v w)))
  where
    go : (j : ℕ) → Place p j → Dec (j ≡ mark_index p r v w) → updated (entry_of p m) (mark_index p r v w) (word_of (n r v) w) j ≡ entry_of p n j
    go j a (yes e) =
        ap (updated (entry_of p m) (mark_index p r v w) (word_of (n r v) w)) e
        ∙ updated_same (entry_of p m) (mark_index p r v w) (word_of (n r v) w)
        ∙ sym (entry_at p n r v w k l)
        ∙ ap (entry_of p n) (sym e)
    go j a (no e) =
        updated_other (entry_of p m) (mark_index p r v w) (word_of (n r v) w) j e
        ∙ word_cong (j % 4) _ _ (λ i b. other (j / 4 / p.gamma) (j / 4 % p.gamma) (j % 4) i a.word b (λ q s t. e (sym a.here ∙ same_index p _ _ _ _ _ _ q s t)))

-- the mark of frame f of virtual block v of region r
pub table_put : (p : Params) (m : Marks) (r v f : ℕ) (x : Bool) → r < p.mu → v < p.gamma → f < 256
    → set (table_of p m) (mark_index p r v (f / 64)) (word_of (updated (m r v) f x) (f / 64)) ≡ table_of p (put_mark m r v f x)
table_put p m r v f x h k l =
    ap (set (table_of p m) (mark_index p r v (f / 64))) (word_cong (f / 64) (updated (m r v) f x) (put_mark m r v f x r v) (λ i b. put_here m r v f x (64 * (f / 64) + i)))
    ∙ table_set p m (put_mark m r v f x) r v (f / 64) h k (omega arith) (λ a b c i u y no'. put_other m r v f x a b (64 * c + i) (λ q s t. no' q s (omega arith)))

-- bit f mod 64 of the word, stored
pub word_put : (g : ℕ → Bool) (f : ℕ) (x : Bool) → bits_below 64 (updated (λ i. g (64 * (f / 64) + i)) (f % 64) x) ≡ word_of (updated g f x) (f / 64)
unfolding word_of updated
word_put g f x = bits_cong 64 _ _ (λ i b. go i b (ℕ_discrete i (f % 64)))
  where
    go : (i : ℕ) → i < 64 → Dec (i ≡ f % 64) → cond (eqb i (f % 64)) x (g (64 * (f / 64) + i)) ≡ cond (eqb (64 * (f / 64) + i) f) x (g (64 * (f / 64) + i))
    go i b (yes e) = rw (eq-eqb i (f % 64) e, eq-eqb (64 * (f / 64) + i) f (omega arith))
    go i b (no e) = rw (ne_eqb i (f % 64) e, ne_eqb (64 * (f / 64) + i) f (λ q. e (omega arith)))

-- ---- the marks of the first frames, word by word

-- the marks of `first_marks` in the first w words of each virtual block
unfoldable pub first_words : Marks → ℕ → ℕ → ℕ → ℕ → Marks
first_words m r v k w r' v' f' = cond (ltb f' (64 * w)) (first_marks m r v k r' v' f') (m r' v' f')

pub first_start : (p : Params) (m : Marks) (r v k : ℕ) → table_of p m ≡ table_of p (first_words m r v k 0)
unfolding first_words
first_start p m r v k = table_cong p m _ (λ a b f x y z. rw (le-ltb f (64 * 0) (omega arith)))

pub first_end : (p : Params) (m : Marks) (r v k : ℕ) → table_of p (first_words m r v k 4) ≡ table_of p (first_marks m r v k)
unfolding first_words
first_end p m r v k = table_cong p _ (first_marks m r v k) (λ a b f x y z. rw (lt-ltb f (64 * 4) (omega arith)))

first_here : (m : Marks) (r v k f : ℕ) → first_marks m r v k r v f ≡ ltb f k
unfolding first_marks
first_here m r v k f = rw (eq-eqb r r refl, eq-eqb v v refl)

first_other : (m : Marks) (r v k a b f : ℕ) → (a ≡ r → b ≡ v → ⊥) → m a b f ≡ first_marks m r v k a b f
unfolding first_marks
first_other m r v k a b f no' = go (eqb a r && eqb b v) refl
  where
    go : (t : Bool) → eqb a r && eqb b v ≡ t → m a b f ≡ cond t (ltb f k) (m a b f)
    go false e = refl
    go true e = absurd (no' (eqb-true a r (and_left (eqb a r) _ e)) (eqb-true b v (and_right (eqb a r) e)))

-- word w of the first k frames
first_word : (m : Marks) (r v k w : ℕ) → bits_below 64 (λ i. ltb i (min (k - 64 * w) 64)) ≡ word_of (first_words m r v k (w + 1) r v) w
unfolding word_of first_words
first_word m r v k w =
    bits_cong 64 _ _ (λ i b. rw (lt-ltb (64 * w + i) (64 * (w + 1)) (omega arith), first_here m r v k (64 * w + i)) (go i b (dec_lt i (k - 64 * w))))
  where
    go : (i : ℕ) → i < 64 → Dec (i < k - 64 * w) → ltb i (min (k - 64 * w) 64) ≡ ltb (64 * w + i) k
    go i b (yes h) = rw (lt-ltb i (min (k - 64 * w) 64) (omega arith), lt-ltb (64 * w + i) k (omega arith))
    go i b (no h) = rw (le-ltb i (min (k - 64 * w) 64) (omega arith), le-ltb (64 * w + i) k (omega arith))

words_other : (m : Marks) (r v k w a b c i : ℕ) → i < 64 → (a ≡ r → b ≡ v → c ≡ w → ⊥)
    → first_words m r v k w a b (64 * c + i) ≡ first_words m r v k (w + 1) a b (64 * c + i)
unfolding first_words
words_other m r v k w a b c i h no' = go (dec_lt c w) (ℕ_discrete c w)
  where
    go : Dec (c < w) → Dec (c ≡ w)
        → cond (ltb (64 * c + i) (64 * w)) (first_marks m r v k a b (64 * c + i)) (m a b (64 * c + i))
        ≡ cond (ltb (64 * c + i) (64 * (w + 1))) (first_marks m r v k a b (64 * c + i)) (m a b (64 * c + i))
    go (yes l) d = rw (lt-ltb (64 * c + i) (64 * w) (omega arith), lt-ltb (64 * c + i) (64 * (w + 1)) (omega arith))
    go (no l) (yes e) =
        rw (le-ltb (64 * c + i) (64 * w) (omega arith), lt-ltb (64 * c + i) (64 * (w + 1)) (omega arith))
        (first_other m r v k a b (64 * c + i) (λ q s. no' q s e))
    go (no l) (no e) = rw (le-ltb (64 * c + i) (64 * w) (omega arith), le-ltb (64 * c + i) (64 * (w + 1)) (omega arith))

pub first_more : (p : Params) (m : Marks) (r v k w : ℕ) → r < p.mu → v < p.gamma → w < 4
    → set (table_of p (first_words m r v k w)) (mark_index p r v w) (bits_below 64 (λ i. ltb i (min (k - 64 * w) 64))) ≡ table_of p (first_words m r v k (w + 1))
first_more p m r v k w h g l =
    ap (set (table_of p (first_words m r v k w)) (mark_index p r v w)) (first_word m r v k w)
    ∙ table_set p (first_words m r v k w) (first_words m r v k (w + 1)) r v w h g l (λ a b c i x y no'. words_other m r v k w a b c i y no')

-- ---- a table by its marks

pub word_mark : (g : ℕ → Bool) (f : ℕ) → eqb (word_of g (f / 64) / 2 ^ (f % 64) % 2) 1 ≡ g f
unfolding word_of
word_mark g f =
    let e : 64 * (f / 64) + f % 64 ≡ f = omega arith in
    bits_at 64 (λ i. g (64 * (f / 64) + i)) (f % 64) (omega arith) ∙ ap g e

pub table_mark : (p : Params) (m : Marks) (r v f : ℕ) → r < p.mu → v < p.gamma → f < 256 → mark_in p (table_of p m) r v f ≡ m r v f
unfolding word_at
table_mark p m r v f h k l = rw (table_at p m r v (f / 64) h k (omega arith)) (word_mark (m r v) f)

-- a table whose words have 64 bits is known by its marks
pub table_marks : (p : Params) (m : Marks) (t : List ℕ) → length t ≡ marks_length p → ((k : ℕ) → k < marks_length p → word_at t k < 2 ^ 64)
    → ((r v f : ℕ) → r < p.mu → v < p.gamma → f < 256 → mark_in p t r v f ≡ m r v f) → t ≡ table_of p m
unfolding word_at entry_of word_of
table_marks p m t e small marks = table_is p m t e (λ k h. bits_of 64 (get_or t k 0) (small k h) ∙ bits_cong 64 _ _ (λ i b. go k i b (place p k h)))
  where
    go : (k i : ℕ) → i < 64 → Place p k → eqb (get_or t k 0 / 2 ^ i % 2) 1 ≡ m (k / 4 / p.gamma) (k / 4 % p.gamma) (64 * (k % 4) + i)
    go k i b a =
        let q : (64 * (k % 4) + i) / 64 ≡ k % 4 = omega arith in
        let s : (64 * (k % 4) + i) % 64 ≡ i = omega arith in
        ap (λ (j : ℕ). eqb (get_or t j 0 / 2 ^ i % 2) 1) (sym a.here)
        ∙ ap₂ (λ (w j : ℕ). eqb (get_or t (mark_index p (k / 4 / p.gamma) (k / 4 % p.gamma) w) 0 / 2 ^ j % 2) 1) (sym q) (sym s)
        ∙ marks (k / 4 / p.gamma) (k / 4 % p.gamma) (64 * (k % 4) + i) a.region a.vblock (omega (arith, a.word))

-- ---- a board's own table

-- a region's words are a function of its view
pub region_word : (p : Params) (b : Board) (r v w : ℕ) → r < p.mu → v < p.gamma → w < 4 → word_at (marks_of p b) (mark_index p r v w) ≡ word_of (marked p (view p b r) v) w
unfolding word_at marks_in
region_word p b r v w h k l = table_at p (marks_on p b) r v w h k l

-- "each mark equals the validity rule"
pub mark_at : (p : Params) (b : Board) (r v f : ℕ) → r < p.mu → v < p.gamma → f < 256 → mark_in p (marks_of p b) r v f ≡ marked p (view p b r) v f
unfolding marks_in
mark_at p b r v f h k l = table_mark p (marks_on p b) r v f h k l

pub marks_are_lem : (p : Params) (b : Board) (t : List ℕ) → length t ≡ marks_length p → ((k : ℕ) → k < marks_length p → word_at t k < 2 ^ 64)
    → ((r v f : ℕ) → r < p.mu → v < p.gamma → f < 256 → mark_in p t r v f ≡ marked p (view p b r) v f) → t ≡ marks_of p b
unfolding marks_in
marks_are_lem p b t e small marks = table_marks p (marks_on p b) t e small marks

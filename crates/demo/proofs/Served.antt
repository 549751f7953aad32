-- What has been taken and printed: nothing yet, a byte of a line, a line's end, and one stretch of bytes after another; and the whole input in the end.
-- Assumes nothing.
use Rattle.std.proofs.Common.{ℕ, ◌+◌, ◌-◌, ◌^◌, ◌≤◌, ◌<◌, ◌≡◌, ◌⊎◌, inl, inr, true, false, List, [], ◌∷◌, ◌++◌, length, eqb, ltb, refl, sym, ap, ◌∙◌, append_assoc, append-nil, length-append, arith, replicate, None, Some, Ok, Err}
use Rattle.std.proofs.lemmas.Bool.{eq-eqb, ltb-false, ltb-true, ne_eqb}
use Rattle.std.specs.declared.option.Option.{Option}
use Rattle.std.specs.Io.KnownBytes.{Appends, Consumes, IsAtEnd}
use Rattle.std.specs.declared.result.Result.{Result}
use Rattle.std.specs.Prelude.{OnOk}
use Rattle.rules.specs.Tables.{Board, board_of}
use Rattle.cases.specs.BoardT.{blank_t}
use Rattle.demo_lines.specs.Grammar.{line_of}
use Rattle.demo_lines.specs.Held.{Held, Holds}
use Rattle.demo_session.specs.Session.{bench, lines_from, turns}
use Rattle.demo_serve.specs.Turned.{Started, started_text, Turned, turned_text}
use Rattle.demo.specs.Served.{Served, Ended}

-- ---- what the writer holds

pub none_appended : (k : Option (List ℕ)) → Appends k k []
none_appended None = tt
none_appended (Some xs) = sym (append-nil xs)

appended : (k k' k'' : Option (List ℕ)) (x y : List ℕ) → Appends k k' x → Appends k' k'' y → Appends k k'' (x ++ y)
appended None k' k'' x y p q = tt
appended (Some a) None k'' x y p q = absurd p
appended (Some a) (Some b) None x y p q = absurd q
appended (Some a) (Some b) (Some c) x y p q = q ∙ rw (p, append_assoc)

-- ---- stretches of bytes

pub none_taken : (k : Option (List ℕ)) (b : Board) (l : List ℕ) (h : Held) → Holds h l → Served k k b b l [] h
none_taken k b l h i = record { begun = l; holds = i; text = []; printed = none_appended k; same = λ more. refl }

pub byte_taken : (k : Option (List ℕ)) (b : Board) (l : List ℕ) (x : ℕ) (h : Held) → Holds h (l ++ (x ∷ [])) → eqb x 10 ≡ false → Served k k b b l (x ∷ []) h
unfolding lines_from
byte_taken k b l x h i e = record { begun = l ++ (x ∷ []); holds = i; text = []; printed = none_appended k; same = λ more. rw e }

pub line_taken : (k k' : Option (List ℕ)) (b b' : Board) (l : List ℕ) (h : Held) → Holds h [] → Appends k k' (turned_text b (line_of l)) → Turned (line_of l) b b'
    → Served k k' b b' l (10 ∷ []) h
unfolding lines_from turns
line_taken k k' b b' l h i p t =
    record { begun = []; holds = i; text = turned_text b (line_of l); printed = p; same = λ more. rw t }

pub then_taken : {k k' k'' : Option (List ℕ)} {b b' b'' : Board} {l s s' : List ℕ} {h h' : Held} (p : Served k k' b b' l s h) → Served k' k'' b' b'' p.begun s' h'
    → Served k k'' b b'' l (s ++ s') h'
then_taken {k} {k'} {k''} {b} {b'} {b''} {l} {s} {s'} p q =
    record {
      begun = q.begun;
      holds = q.holds;
      text = p.text ++ q.text;
      printed = appended k k' k'' p.text q.text p.printed q.printed;
      same =
          λ more.
          rw append_assoc (p.same (s' ++ more) ∙ ap (λ (x : List ℕ). p.text ++ x) (q.same more) ∙ sym (append_assoc p.text q.text _));
    }

-- ---- the whole input

consumed : (k k' k'' : Option (List ℕ)) (x y : List ℕ) → Consumes k k' x → Consumes k' k'' y → Consumes k k'' (x ++ y)
consumed None k' k'' x y p q = tt
consumed (Some a) None k'' x y p q = absurd p
consumed (Some a) (Some b) None x y p q = absurd q
consumed (Some a) (Some b) (Some c) x y p q = p ∙ rw (q, append_assoc)

none_consumed : (k : Option (List ℕ)) → Consumes k k []
none_consumed None = tt
none_consumed (Some xs) = refl

-- n reads have given bytes, and these are taken
pub record Going (left left' known known' : Option (List ℕ)) (b b' : Board) (h : Held) (n : ℕ) : Type 0 where
  pub taken : List ℕ
  pub consumed : Consumes left left' taken
  pub many : n ≤ length taken
  pub served : Served known known' b b' [] taken h

pub going_first : (left known : Option (List ℕ)) (b : Board) (h : Held) → Holds h [] → Going left left known known b b h 0
going_first left known b h i =
    record { taken = []; consumed = none_consumed left; many = omega arith; served = none_taken known b [] h i }

pub going_on : {left left' left'' known known' known'' : Option (List ℕ)} {b b' b'' : Board} {h h' : Held} {n : ℕ} {s : List ℕ} (p : Going left left' known known' b b' h n)
    → Consumes left' left'' s → 0 < length s → Served known' known'' b' b'' p.served.begun s h' → Going left left'' known known'' b b'' h' (n + 1)
going_on {left} {left'} {left''} {s = s} p c m q =
    record {
      taken = p.taken ++ s;
      consumed = consumed left left' left'' p.taken s p.consumed c;
      many = omega (arith, length-append p.taken s, p.many);
      served = then_taken p.served q;
    }

pub at_end : {left left' left'' known known' : Option (List ℕ)} {b b' : Board} {h : Held} {n : ℕ} (p : Going left left' known known' b b' h n) → Consumes left' left'' []
    → IsAtEnd left'' → Ended left left'' known known' b b' h
at_end {left} {left'} {left''} p c e =
    record {
      taken = p.taken;
      consumed = rw append-nil at (consumed left left' left'' p.taken [] p.consumed c);
      all = inl e;
      served = p.served;
    }

pub at_last : {left left' known known' : Option (List ℕ)} {b b' : Board} {h : Held} {n : ℕ} (p : Going left left' known known' b b' h n) → 2 ^ 64 - 1 ≤ n
    → Ended left left' known known' b b' h
at_last p m = record { taken = p.taken; consumed = p.consumed; all = inr (omega (arith, p.many)); served = p.served }

-- an input that is known, and not longer than what any run takes, is taken
all_taken : (left : Option (List ℕ)) (input taken : List ℕ) → Consumes (Some input) left taken → IsAtEnd left ⊎ (2 ^ 64 - 1 ≤ length taken) → length input < 2 ^ 64 - 1 → input ≡ taken
all_taken None input taken c a s = absurd c
all_taken (Some rest) input taken c (inl e) s = c ∙ rw e (append-nil taken)
all_taken (Some rest) input taken c (inr m) s = absurd (omega (arith, m, s, ap length c, length-append taken rest))

-- what is printed of the line that no LF ended
last_text : (b : Board) (l : List ℕ) → 0 < length l → turns b (lines_from l []) ≡ turned_text b (line_of l)
unfolding lines_from turns
last_text b l h = rw (ne_eqb (length l) 0 (λ e. omega arith)) (append-nil _)

no_text : (b : Board) (l : List ℕ) → length l ≡ 0 → turns b (lines_from l []) ≡ []
unfolding lines_from turns
no_text b l e = rw (eq-eqb (length l) 0 e)

whole : {left left' known known' : Option (List ℕ)} {b b' : Board} {h : Held} (e : Ended left left' known known' b b' h) (input : List ℕ) → left ≡ Some input → length input < 2 ^ 64 - 1
    → turns b (lines_from [] input) ≡ e.served.text ++ turns b' (lines_from e.served.begun [])
whole {left' = left'} e input i s =
    rw (all_taken left' input e.taken (rw i at e.consumed) e.all s) (rw append-nil at (e.served.same []))

-- the whole input is answered, with its last line, or without one
pub last_answered : {left left' known known' : Option (List ℕ)} {b b' : Board} {h : Held} (e : Ended left left' known known' b b' h) (known'' : Option (List ℕ))
    → ltb 0 (length e.served.begun) ≡ true → Appends known' known'' (turned_text b' (line_of e.served.begun)) → (input : List ℕ) → left ≡ Some input → length input < 2 ^ 64 - 1
    → Appends known known'' (turns b (lines_from [] input))
last_answered {known = known} {known'} {b' = b'} e known'' t p input i s =
    rw (whole e input i s, last_text b' e.served.begun (ltb-true 0 _ t)) (appended known known' known'' _ _ e.served.printed p)

pub none_left : {left left' known known' : Option (List ℕ)} {b b' : Board} {h : Held} (e : Ended left left' known known' b b' h) → ltb 0 (length e.served.begun) ≡ false
    → (input : List ℕ) → left ≡ Some input → length input < 2 ^ 64 - 1 → Appends known known' (turns b (lines_from [] input))
none_left {b' = b'} e t input i s =
    let n : length e.served.begun ≡ 0 = omega (arith, ltb-false 0 _ t) in
    rw (whole e input i s, no_text b' e.served.begun n, append-nil) e.served.printed

-- ---- the whole program

pub blank_board : (chip : List ℕ) → chip ≡ replicate 640 255
    → board_of chip (replicate 6 0) (replicate 4 0) (replicate 2 0) (replicate 5 0) (replicate 5 0) (replicate 16 0) (replicate 2 0) ≡ blank_t 5 0 255
unfolding blank_t
blank_board chip e = rw e

pub benched : {T E : Type 0} (r : Result T E) (k k' k'' : Option (List ℕ)) {b b' : Board} → b ≡ blank_t 5 0 255 → Started b b' → Appends k k' (started_text b) → (input : List ℕ)
    → OnOk r (Appends k' k'' (turns b' (lines_from [] input))) → OnOk r (Appends k k'' (bench input))
unfolding bench
benched (Ok x) k k' k'' e s t input p = appended k k' k'' _ _ (rw e at t) (rw (s, e) at p)
benched (Err x) k k' k'' e s t input p = tt

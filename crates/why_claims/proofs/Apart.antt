-- The numbers of an answer tell its case and the case's values.
-- Assumes nothing.
use mathlib.Core.Path.{◌≡◌, refl, sym, ap, ap₂, ◌∙◌}
use mathlib.Core.List.{List, [], ◌∷◌, ◌++◌}
use Prim.Native.Nat.{ℕ, ◌<◌}
use native.Mathlib.Omega.{arith}
use lib.ListN.{drop, get_or, take}
use Rattle.rules.specs.declared.Reply.{Reply}
use Rattle.rules.specs.declared.Reply.TheVariants.{Accepted, BadAddress, BadCount, BadParameter, NotOrderly, TooFewAnswers, TooFewBlocks, WrongData, WrongLength, NoStampLeft, NoBlockLeft}
use Rattle.rules.specs.declared.VBlock.{VBlock}
use Rattle.rules.specs.Replies.{number_of}
use Rattle.check_broken.specs.declared.Rule.{Rule}
use Rattle.check_broken.specs.declared.Rule.TheVariants.{BstValues, BtRange, Ct, FreeErased, Fst, Marks, NamedTwice, UsedBlock, UsedIfNamed, Stamps}
use Rattle.check_broken.specs.Broken.{rule_names, rule_number, test_of}
use Rattle.call_why.specs.declared.Forecast.{Forecast}
use Rattle.call_why.specs.declared.Forecast.TheVariants.{Continues, NoBlock, NoStamp, Opens, Reclaims}
use Rattle.call_why.specs.declared.Place.{Place}
use Rattle.call_why.specs.declared.Why.TheVariants.{Disordered, Empty, Held, Refused}
use Rattle.call_why.specs.Why.{forecast_numbers, numbers_of, place_numbers}
use Rattle.why_claims.specs.Apart.{ExplainOnce, WhyApart}

-- one number of two equal lists
at : (xs ys : List ℕ) (i : ℕ) → xs ≡ ys → get_or xs i 0 ≡ get_or ys i 0
at xs ys i e = ap (λ (ns : List ℕ). get_or ns i 0) e

-- ---- replies and rules

-- the replies by their numbers
unfoldable replies : List Reply
replies = Accepted ∷ BadParameter ∷ WrongLength ∷ BadCount ∷ BadAddress ∷ WrongData ∷ TooFewBlocks ∷ NotOrderly ∷ TooFewAnswers ∷ NoStampLeft ∷ NoBlockLeft ∷ []

reply_at : (r : Reply) → get_or replies (number_of r) Accepted ≡ r
unfolding replies
reply_at Accepted = refl
reply_at BadParameter = refl
reply_at WrongLength = refl
reply_at BadCount = refl
reply_at BadAddress = refl
reply_at WrongData = refl
reply_at TooFewBlocks = refl
reply_at NotOrderly = refl
reply_at TooFewAnswers = refl
reply_at NoStampLeft = refl
reply_at NoBlockLeft = refl

reply_apart : (r r' : Reply) → number_of r ≡ number_of r' → r ≡ r'
reply_apart r r' e = sym (reply_at r) ∙ ap (λ (n : ℕ). get_or replies n Accepted) e ∙ reply_at r'

rule_at : (k : Rule) → get_or rule_names (test_of (rule_number k)) Marks ≡ k
unfolding rule_names test_of
rule_at BstValues = refl
rule_at BtRange = refl
rule_at NamedTwice = refl
rule_at UsedIfNamed = refl
rule_at FreeErased = refl
rule_at UsedBlock = refl
rule_at Fst = refl
rule_at Ct = refl
rule_at Marks = refl
rule_at Stamps = refl

rule_apart : (k k' : Rule) → rule_number k ≡ rule_number k' → k ≡ k'
rule_apart k k' e = sym (rule_at k) ∙ ap (λ (n : ℕ). get_or rule_names (test_of n) Marks) e ∙ rule_at k'

rule_some : (k : Rule) → 0 < rule_number k
rule_some BstValues = omega arith
rule_some BtRange = omega arith
rule_some NamedTwice = omega arith
rule_some UsedIfNamed = omega arith
rule_some FreeErased = omega arith
rule_some UsedBlock = omega arith
rule_some Fst = omega arith
rule_some Ct = omega arith
rule_some Marks = omega arith
rule_some Stamps = omega arith

-- ---- forecasts and places

vblock_apart : (v v' : VBlock) → v.0 ≡ v'.0 → v ≡ v'
vblock_apart v v' e = λ i. record { 0 = e i }

forecast_apart : (fc fc' : Forecast) → forecast_numbers fc ≡ forecast_numbers fc' → fc ≡ fc'
unfolding forecast_numbers
forecast_apart NoStamp NoStamp e = refl
forecast_apart NoBlock NoBlock e = refl
forecast_apart NoStamp NoBlock e = absurd (omega (arith, at _ _ 0 e))
forecast_apart NoBlock NoStamp e = absurd (omega (arith, at _ _ 0 e))
forecast_apart NoBlock (Continues v' f') e = absurd (omega (arith, at _ _ 0 e))
forecast_apart NoBlock (Opens v') e = absurd (omega (arith, at _ _ 0 e))
forecast_apart NoBlock (Reclaims v' n') e = absurd (omega (arith, at _ _ 0 e))
forecast_apart (Continues v f) NoBlock e = absurd (omega (arith, at _ _ 0 e))
forecast_apart (Opens v) NoBlock e = absurd (omega (arith, at _ _ 0 e))
forecast_apart (Reclaims v n) NoBlock e = absurd (omega (arith, at _ _ 0 e))
forecast_apart NoStamp (Continues v' f') e = absurd (omega (arith, at _ _ 0 e))
forecast_apart NoStamp (Opens v') e = absurd (omega (arith, at _ _ 0 e))
forecast_apart NoStamp (Reclaims v' n') e = absurd (omega (arith, at _ _ 0 e))
forecast_apart (Continues v f) NoStamp e = absurd (omega (arith, at _ _ 0 e))
forecast_apart (Opens v) NoStamp e = absurd (omega (arith, at _ _ 0 e))
forecast_apart (Reclaims v n) NoStamp e = absurd (omega (arith, at _ _ 0 e))
forecast_apart (Continues v f) (Continues v' f') e = ap₂ Continues (vblock_apart v v' (at _ _ 1 e)) (at _ _ 2 e)
forecast_apart (Continues v f) (Opens v') e = absurd (omega (arith, at _ _ 0 e))
forecast_apart (Continues v f) (Reclaims v' n') e = absurd (omega (arith, at _ _ 0 e))
forecast_apart (Opens v) (Continues v' f') e = absurd (omega (arith, at _ _ 0 e))
forecast_apart (Opens v) (Opens v') e = ap Opens (vblock_apart v v' (at _ _ 1 e))
forecast_apart (Opens v) (Reclaims v' n') e = absurd (omega (arith, at _ _ 0 e))
forecast_apart (Reclaims v n) (Continues v' f') e = absurd (omega (arith, at _ _ 0 e))
forecast_apart (Reclaims v n) (Opens v') e = absurd (omega (arith, at _ _ 0 e))
forecast_apart (Reclaims v n) (Reclaims v' n') e = ap₂ Reclaims (vblock_apart v v' (at _ _ 1 e)) (at _ _ 3 e)

-- its four numbers in front of others; the first is not 0
forecast_some : (fc : Forecast) (xs : List ℕ) → 0 < get_or (forecast_numbers fc ++ xs) 0 0
unfolding forecast_numbers
forecast_some NoStamp xs = omega arith
forecast_some NoBlock xs = omega arith
forecast_some (Continues v f) xs = omega arith
forecast_some (Opens v) xs = omega arith
forecast_some (Reclaims v n) xs = omega arith

forecast_front : (fc : Forecast) (xs : List ℕ) → take 4 (forecast_numbers fc ++ xs) ≡ forecast_numbers fc
unfolding forecast_numbers
forecast_front NoStamp xs = refl
forecast_front NoBlock xs = refl
forecast_front (Continues v f) xs = refl
forecast_front (Opens v) xs = refl
forecast_front (Reclaims v n) xs = refl

forecast_after : (fc : Forecast) (xs : List ℕ) → drop 4 (forecast_numbers fc ++ xs) ≡ xs
unfolding forecast_numbers
forecast_after NoStamp xs = refl
forecast_after NoBlock xs = refl
forecast_after (Continues v f) xs = refl
forecast_after (Opens v) xs = refl
forecast_after (Reclaims v n) xs = refl

fronts_apart : (fc fc' : Forecast) (xs ys : List ℕ) → forecast_numbers fc ++ xs ≡ forecast_numbers fc' ++ ys → fc ≡ fc'
fronts_apart fc fc' xs ys e = forecast_apart fc fc' (sym (forecast_front fc xs) ∙ ap (take 4) e ∙ forecast_front fc' ys)

after_apart : (fc fc' : Forecast) (xs ys : List ℕ) → forecast_numbers fc ++ xs ≡ forecast_numbers fc' ++ ys → xs ≡ ys
after_apart fc fc' xs ys e = sym (forecast_after fc xs) ∙ ap (drop 4) e ∙ forecast_after fc' ys

place_apart : (x y : Place) → place_numbers x ≡ place_numbers y → x ≡ y
unfolding place_numbers
place_apart x y e =
    let r = at _ _ 0 e in
    let s = at _ _ 1 e in
    let v = at _ _ 2 e in
    let n = at _ _ 3 e in
    let f = at _ _ 4 e in
    λ i. record { region = r i; segment = record { 0 = s i }; vblock = record { 0 = v i }; pblock = record { 0 = n i }; frame = f i }

-- ---- answers

pub why_apart : WhyApart
unfolding numbers_of
why_apart (Refused r) (Refused r') e = ap Refused (reply_apart r r' (at _ _ 0 e))
why_apart (Refused r) (Disordered k') e = absurd (omega (arith, rule_some k', at _ _ 1 e))
why_apart (Refused r) (Empty fc') e = absurd (omega (arith, forecast_some fc' (0 ∷ []), at _ _ 8 e))
why_apart (Refused r) (Held y fc' m) e = absurd (omega (arith, at _ _ 2 e))
why_apart (Disordered k) (Refused r') e = absurd (omega (arith, rule_some k, at _ _ 1 e))
why_apart (Disordered k) (Disordered k') e = ap Disordered (rule_apart k k' (at _ _ 1 e))
why_apart (Disordered k) (Empty fc') e = absurd (omega (arith, at _ _ 0 e))
why_apart (Disordered k) (Held y fc' m) e = absurd (omega (arith, at _ _ 0 e))
why_apart (Empty fc) (Refused r') e = absurd (omega (arith, forecast_some fc (0 ∷ []), at _ _ 8 e))
why_apart (Empty fc) (Disordered k') e = absurd (omega (arith, at _ _ 0 e))
why_apart (Empty fc) (Empty fc') e = ap Empty (fronts_apart fc fc' (0 ∷ []) (0 ∷ []) (ap (λ (ns : List ℕ). drop 8 ns) e))
why_apart (Empty fc) (Held y fc' m) e = absurd (omega (arith, at _ _ 2 e))
why_apart (Held x fc n) (Refused r') e = absurd (omega (arith, at _ _ 2 e))
why_apart (Held x fc n) (Disordered k') e = absurd (omega (arith, at _ _ 0 e))
why_apart (Held x fc n) (Empty fc') e = absurd (omega (arith, at _ _ 2 e))
why_apart (Held x fc n) (Held y fc' m) e =
    unfold place_numbers in
    let k = ap (λ (ns : List ℕ). drop 8 ns) e in
    let place = place_apart x y (ap (λ (ns : List ℕ). take 5 (drop 3 ns)) e) in
    let forecast = fronts_apart fc fc' (n ∷ []) (m ∷ []) k in
    let looks = at _ _ 0 (after_apart fc fc' (n ∷ []) (m ∷ []) k) in
    λ i. Held (place i) (forecast i) (looks i)

pub explain_once : ExplainOnce
explain_once p b lba w w' e e' = why_apart w w' (e ∙ sym e')

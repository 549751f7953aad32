-- The numbers of an answer by the reply: its own number first; with 7 the rule's; with 0 the place's, where the cluster is held, the forecast's, and what is
-- looked at.
-- Assumes nothing.
use mathlib.Core.Path.{◌≡◌, refl}
use mathlib.Core.Bool.{Bool, cond, false, true}
use mathlib.Core.List.{List, [], ◌++◌, ◌∷◌}
use Prim.Native.Nat.{ℕ}
use native.Mathlib.Decide.{ℕ_discrete}
use lib.Dec.{eqb}
use lib.ListN.{get_or, replicate}
use borrow.Author.Tests.{eq-eqb, ne_eqb}
use Rattle.rules.specs.declared.Params.{Params}
use Rattle.rules.specs.Numbers.{cluster_of}
use Rattle.rules.specs.Regions.{looks_at}
use Rattle.rules.specs.Replies.{is_accepted, number_of, why_reply}
use Rattle.rules.specs.Tables.{Board, ct_at, none}
use Rattle.check_broken.specs.Broken.{broken_rule, rule_number}
use Rattle.call_why.specs.Why.{forecast_of, found_of, holder_of, why_of}
use Rattle.why_claims.specs.Truths.{told_at}

module _ (p : Params) (b : Board) (lba : ℕ) where
  -- the first number is the reply's
  pub told_reply_lem : told_at p b lba 0 ≡ number_of (why_reply p b lba)
  unfolding told_at why_of is_accepted
  told_reply_lem = go (ℕ_discrete (number_of (why_reply p b lba)) 0) (ℕ_discrete (number_of (why_reply p b lba)) 7)
    where
      found : (t : Bool) (ns : List ℕ) → get_or (cond t (replicate 8 0) (0 ∷ 0 ∷ 1 ∷ holder_of p b (cluster_of p lba)) ++ ns) 0 0 ≡ 0
      found true ns = refl
      found false ns = refl

      go : Dec (number_of (why_reply p b lba) ≡ 0) → Dec (number_of (why_reply p b lba) ≡ 7) → told_at p b lba 0 ≡ number_of (why_reply p b lba)
      go (yes e) s = rw e (unfold found_of in found (eqb (ct_at b.ct (cluster_of p lba)) none) (forecast_of p b (cluster_of p lba) ++ (looks_at p b (cluster_of p lba) ∷ [])))
      go (no e) (yes s) = rw s
      go (no e) (no s) = rw (ne_eqb (number_of (why_reply p b lba)) 0 e, ne_eqb (number_of (why_reply p b lba)) 7 s)

  -- with 7 the second is the rule's
  pub told_rule : number_of (why_reply p b lba) ≡ 7 → told_at p b lba 1 ≡ rule_number (broken_rule p b)
  unfolding told_at why_of is_accepted
  told_rule e = rw e

  -- with 0 they are those of what is found
  module _ (e : number_of (why_reply p b lba) ≡ 0) where
    found : why_of p b lba ≡ found_of p b (cluster_of p lba)
    unfolding why_of is_accepted
    found = rw e

    pub told_none : ct_at b.ct (cluster_of p lba) ≡ none → why_of p b lba ≡ replicate 8 0 ++ (forecast_of p b (cluster_of p lba) ++ (looks_at p b (cluster_of p lba) ∷ []))
    unfolding found_of
    told_none n = rw (found, eq-eqb (ct_at b.ct (cluster_of p lba)) none n)

    pub told_held : (ct_at b.ct (cluster_of p lba) ≡ none → ⊥)
        → why_of p b lba ≡ 0 ∷ 0 ∷ 1 ∷ holder_of p b (cluster_of p lba) ++ (forecast_of p b (cluster_of p lba) ++ (looks_at p b (cluster_of p lba) ∷ []))
    unfolding found_of
    told_held n = rw (found, ne_eqb (ct_at b.ct (cluster_of p lba)) none n)

-- Document 02, T-05: "for one LBA, why it reads so and what a write would do". The answer is an enum; `numbers_of` lists the number of each case and its
-- values, and `why_of` is what they have to be by the rules.
-- Assumes nothing.
use Rattle.std.specs.Prelude.{Bool, cond, List, [], ◌∷◌, ◌++◌, ℕ, ◌<◌, eqb, length, replicate}
use Rattle.rules.specs.declared.Params.{Params}
use Rattle.rules.specs.Numbers.{cluster_of, place_of, region_of, vblock_of}
use Rattle.rules.specs.Pages.{block, last_in}
use Rattle.rules.specs.Regions.{View, looks_at, valid_frames, view}
use Rattle.rules.specs.Replies.{is_accepted, no_block_left, no_stamp_left, number_of, why_reply}
use Rattle.rules.specs.Tables.{Board, bt_at, ct_at, none, stamp_at}
use Rattle.rules.specs.Write.{Plan, continues, opens, plan_of, reclaims}
use Rattle.check_broken.specs.Broken.{broken_rule, rule_number}
use Rattle.call_why.specs.declared.Forecast.{Forecast}
use Rattle.call_why.specs.declared.Forecast.TheVariants.{Continues, NoBlock, NoStamp, Opens, Reclaims}
use Rattle.call_why.specs.declared.Place.{Place}
use Rattle.call_why.specs.declared.Why.{Why}
use Rattle.call_why.specs.declared.Why.TheVariants.{Refused, Disordered, Empty, Held}

-- ---- the answer's numbers: reply, rule, held, region, segment, virtual block, physical block, frame; then the forecast's four; then the spare areas looked at

-- 1, 2 or 3 for a write that continues, opens or reclaims; its virtual block; the frame that it takes; the valid frames that it copies. For one that is refused
-- the number of its reply
unfoldable pub forecast_numbers : Forecast → List ℕ
forecast_numbers NoStamp = 9 ∷ 0 ∷ 0 ∷ 0 ∷ []
forecast_numbers NoBlock = 10 ∷ 0 ∷ 0 ∷ 0 ∷ []
forecast_numbers (Continues v f) = 1 ∷ v.0 ∷ f ∷ 0 ∷ []
forecast_numbers (Opens v) = 2 ∷ v.0 ∷ 0 ∷ 0 ∷ []
forecast_numbers (Reclaims v n) = 3 ∷ v.0 ∷ n ∷ n ∷ []

-- region, segment, virtual block, physical block and frame
unfoldable pub place_numbers : Place → List ℕ
place_numbers at = at.region ∷ at.segment.0 ∷ at.vblock.0 ∷ at.pblock.0 ∷ at.frame ∷ []

unfoldable pub numbers_of : Why → List ℕ
numbers_of (Refused r) = number_of r ∷ replicate 12 0
numbers_of (Disordered k) = 7 ∷ rule_number k ∷ replicate 11 0
numbers_of (Empty fc) = replicate 8 0 ++ (forecast_numbers fc ++ (0 ∷ []))
numbers_of (Held at fc looks) = 0 ∷ 0 ∷ 1 ∷ place_numbers at ++ (forecast_numbers fc ++ (looks ∷ []))

-- each number fits 32 bits
abbrev pub Small : List ℕ → Type 0
Small [] = Unit {0}
Small (x ∷ xs) = (x < 4294967296) × Small xs

-- ---- what they have to be

-- "the region, segment, virtual block, physical block and frame that hold it"
unfoldable pub holder_of : Params → Board → ℕ → List ℕ
holder_of p b c =
    let sg = ct_at b.ct c in
    let n = bt_at p b.bt (region_of p c) (vblock_of p sg) in
    region_of p c ∷ sg ∷ vblock_of p sg ∷ n ∷ last_in p (block p b.chip n) (place_of p sg) c ∷ []

-- "whether the frame lies in the open block, opens a named virtual block, or reclaims a named one with how many valid frames"
unfoldable pub plan_numbers : Params → View → Plan → List ℕ
plan_numbers p vw (continues v f) = 1 ∷ v ∷ f ∷ 0 ∷ []
plan_numbers p vw (opens v) = 2 ∷ v ∷ 0 ∷ 0 ∷ []
plan_numbers p vw (reclaims v) = 3 ∷ v ∷ length (valid_frames p vw v) ∷ length (valid_frames p vw v) ∷ []

-- "T-05's forecast gives 9 and 10 too": by the region's last stamp, whether its plan needs a free block where there is none, and its view
unfoldable pub forecast_in : Params → ℕ → Bool → View → List ℕ
forecast_in p t lacks vw = cond (no_stamp_left t) (9 ∷ 0 ∷ 0 ∷ 0 ∷ []) (cond lacks (10 ∷ 0 ∷ 0 ∷ 0 ∷ []) (plan_numbers p vw (plan_of p vw)))

unfoldable pub forecast_of : Params → Board → ℕ → List ℕ
forecast_of p b c = forecast_in p (stamp_at b.stamps (region_of p c)) (no_block_left p b (region_of p c)) (view p b (region_of p c))

-- of an orderly board: no frame is held, or one is; the forecast; and T-08's count of a read or a write of the cluster
unfoldable pub found_of : Params → Board → ℕ → List ℕ
found_of p b c = cond (eqb (ct_at b.ct c) none) (replicate 8 0) (0 ∷ 0 ∷ 1 ∷ holder_of p b c) ++ (forecast_of p b c ++ (looks_at p b c ∷ []))

-- "which reply, and with 7 the first orderly rule broken, in 01's order"; T-06: "7 also for a wrong mark", and then the rule of the marks is told, the tenth
unfoldable pub why_of : Params → Board → ℕ → List ℕ
why_of p b lba =
    let r = why_reply p b lba in
    cond (is_accepted r) (found_of p b (cluster_of p lba))
    (cond (eqb (number_of r) 7) (7 ∷ rule_number (broken_rule p b) ∷ replicate 11 0) (number_of r ∷ replicate 12 0))

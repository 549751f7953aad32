-- A read: an accepted one has what the code asks, and the sectors read one after the other are the rules' answer.
-- Assumes nothing.
use mathlib.Core.Path.{◌≡◌}
use mathlib.Core.List.{List}
use Prim.Native.Nat.{ℕ, ◌+◌}
use native.Mathlib.Nat.{mod-lt}
use native.Mathlib.Omega.{arith}
use mathlib.Core.Bool.{Bool}
use Rattle.lists.specs.Below.{join_below}
use Rattle.rules.specs.declared.Params.{Params}
use Rattle.rules.specs.Numbers.{cluster_of, sector_of, region_of}
use Rattle.rules.specs.Tables.{Board, board_of}
use Rattle.rules.specs.Regions.{view, sector}
use Rattle.rules.specs.Calls.{read_bytes}
use Rattle.rules.specs.Requests.{Request, request_cluster, request_of}
use Rattle.rules.proofs.RegionFacts.{neat}
use Rattle.rules.proofs.Admitted.{Admitted}
use Rattle.lists.proofs.Joins.{join_cong}
use Rattle.read_work.specs.Lookup.{Lookup, Stands}
use Rattle.read_work.specs.Sectors.{sector_from, RunAsked, ReadAsked}
use Rattle.read_work.proofs.Views.{lookup_of, source, sector_same}

-- ---- an accepted read

-- the request's cluster can be looked up; so can that of an accepted write
pub lookup_admitted : (p : Params) (b : Board) (q : Request) → Admitted p b q → Lookup p b.chip b.ct b.bt (request_cluster p q)
lookup_admitted p b q a =
    let c = request_cluster p q in
    let r = region_of p c in
    let t = a.tables in
    lookup_of p b.chip b.ct b.bt b.fst c a.fine t.chip_length t.ct_length t.bt_length a.asked.cluster t.names
    ((neat p r (view p b r) (a.tidy r (mod-lt c a.sized.regions))).entries c a.asked.cluster)

pub read_asked : (p : Params) (b : Board) (q : Request) → Admitted p b q → ReadAsked p b.chip b.ct b.bt q.lba q.count q.bytes
read_asked p b q a = record { lookup = lookup_admitted p b q a; inside = a.asked.inside; size = a.asked.bytes }

-- ---- its sectors

module _ (p : Params) (chip ct bt : List ℕ) (lba count : ℕ) (bytes : List ℕ) (a : ReadAsked p chip ct bt lba count bytes) (kept : Bool) (frame : ℕ)
    (s : Stands p chip ct bt (cluster_of p lba) kept frame) where
  pub run_asked : (j : ℕ) → j ≡ sector_of p lba → RunAsked p chip kept frame j count bytes
  run_asked j e = record { source = source p chip ct bt ct (cluster_of p lba) a.lookup kept frame s; inside = rw e a.inside; size = a.size }

  pub read_is : (j : ℕ) → j ≡ sector_of p lba → (fst bst wear marks stamps : List ℕ)
      → join_below count (λ i. sector_from p chip kept frame (j + i)) ≡ read_bytes p (board_of chip ct bt fst bst wear marks stamps) (request_of lba count bytes)
  unfolding read_bytes sector
  read_is j e fst bst wear marks stamps =
      join_cong count _ _ (λ i h. rw e (sector_same p chip ct bt fst (cluster_of p lba) a.lookup kept frame s (sector_of p lba + i) (omega (arith, a.inside))))

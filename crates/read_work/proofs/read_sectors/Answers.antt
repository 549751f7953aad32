-- `read_work::read_sectors`: the sectors from the frame that was found are the rules' answer.
-- Assumes nothing.
use mathlib.Core.Path.{◌∙◌}
use Rattle.rules.proofs.Sizes.{sizes}
use Rattle.read_work.proofs.Requests.{run_asked, read_is}
use Rattle.read_work.proofs.read_sectors.Goals as goal

pub cluster_of-c-requires : goal.cluster_of-c-requires
cluster_of-c-requires c = (sizes _ c.requires.lookup.fine).sectors

pub sector_of-j-requires : goal.sector_of-j-requires
sector_of-j-requires c = (sizes _ c.requires.lookup.fine).sectors

pub find_frame-at-requires : goal.find_frame-at-requires
find_frame-at-requires c = rw c.cluster_of-c.ensures c.requires.lookup

pub read_run-requires : goal.read_run-requires
read_run-requires c = run_asked _ _ _ _ _ _ _ c.requires _ _ (rw c.cluster_of-c.ensures at c.find_frame-at.ensures.stands) _ c.sector_of-j.ensures

pub returns : goal.returns
returns c =
    let pre = c.requires in
    let cluster = c.cluster_of-c.ensures in
    record {
      bytes_after = λ fst bst wear marks stamps.
          c.read_run.ensures ∙ read_is _ _ _ _ _ _ _ pre _ _ (rw cluster at c.find_frame-at.ensures.stands) _ c.sector_of-j.ensures fst bst wear marks stamps;
      looked = rw cluster at c.find_frame-at.ensures.looked;
    }

-- `start_clusters::fill_ct`: none throughout, then the newest frames of all regions, then their segments.
-- Assumes nothing.
use mathlib.Core.Path.{◌∙◌}
use Rattle.rules.proofs.Sizes.{sizes}
use Rattle.start_clusters.proofs.Newest.{frames_start}
use Rattle.start_clusters.proofs.Segments.{segments_are}
use Rattle.start_clusters.proofs.fill_ct.Goals as goal

pub take_regions-requires : goal.take_regions-requires
take_regions-requires c =
    record {
      found = c.requires.found;
      ct_value = c.clear.ensures ∙ rw c.requires.ct_len (frames_start _ _ _);
    }

pub returns : goal.returns
returns c = c.to_segments.ensures ∙ segments_are _ _ _ _ (sizes _ c.requires.found.fine).regions c.take_regions.ensures

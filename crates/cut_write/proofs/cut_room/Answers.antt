-- `cut_write::cut_room`: by the plan; where nothing is reclaimed, no operation makes room.
-- Assumes nothing.
use Rattle.cut_write.proofs.Firsts.{copies_first, none_first_continues, none_first_opens}
use Rattle.cut_write.proofs.cut_room.Goals as goal

pub bt_at-o-requires : goal.bt_at-o-requires
bt_at-o-requires c =
    let a = rw c.in-Reclaims.is at c.requires.copies_asked in
    record {
      bt_len = a.bt_length;
      r_lt_mu = a.words.region;
      v_lt_gamma = a.words.vblock;
    }

pub cut_reclaim-requires : goal.cut_reclaim-requires
cut_reclaim-requires c =
    let a = rw c.in-Reclaims.is at c.requires.copies_asked in
    record {
      between = rw c.bt_at-o.ensures.result_value a.between;
      wear_len = a.wear_length;
      words_asked = a.words;
      k_lt_room = c.requires.k_lt_room;
    }

pub returns-in-Continues : goal.returns-in-Continues
returns-in-Continues c = λ ct fst bst stamps e b h. rw c.in-Continues.is (none_first_continues _ _ _ _ _ c.requires.k_lt_room _ _ (rw c.in-Continues.is at h))

pub returns-in-Opens : goal.returns-in-Opens
returns-in-Opens c = λ ct fst bst stamps e b h. rw c.in-Opens.is (none_first_opens _ _ _ _ _ c.requires.k_lt_room _ (rw c.in-Opens.is at h))

pub returns-in-Reclaims : goal.returns-in-Reclaims
returns-in-Reclaims c =
    let a = rw c.in-Reclaims.is at c.requires.copies_asked in
    λ ct fst bst stamps e b h. rw c.in-Reclaims.is (copies_first _ _ ct _ fst bst _ _ stamps _ _ _ a _ c.bt_at-o.ensures.result_value (rw c.in-Reclaims.is at b) _ _ e
    (rw c.in-Reclaims.is at h) _ _ c.cut_reclaim.ensures)

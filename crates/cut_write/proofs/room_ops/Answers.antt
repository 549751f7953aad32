-- `cut_write::room_ops`: by the plan; the marks of the victim are as many as its valid frames.
-- Assumes nothing.
use native.Mathlib.Omega.{arith}
use Rattle.cut_write.proofs.Counts.{counted, few_pages, none_continues, none_opens}
use Rattle.cut_write.proofs.room_ops.Goals as goal

pub bt_at-o-requires : goal.bt_at-o-requires
bt_at-o-requires c =
    let w = rw c.in-Reclaims.is at c.requires.count_asked in
    record {
      bt_len = w.bt_length;
      r_lt_mu = w.words.region;
      v_lt_gamma = w.words.vblock;
    }

pub count_marks-requires : goal.count_marks-requires
count_marks-requires c = (rw c.in-Reclaims.is at c.requires.count_asked).words

pub overflow_mul-result : goal.overflow_mul-result
overflow_mul-result c =
    let w = rw c.in-Reclaims.is at c.requires.count_asked in
    let few = few_pages _ _ _ _ w.words c.shared_slice_known-3-1.given _ c.count_marks.ensures in
    record { fits = omega (arith, few) }

pub erase_ops-requires : goal.erase_ops-requires
erase_ops-requires c =
    let w = rw c.in-Reclaims.is at c.requires.count_asked in
    rw c.bt_at-o.ensures.result_value w.block

pub overflow_add-result : goal.overflow_add-result
overflow_add-result c =
    let w = rw c.in-Reclaims.is at c.requires.count_asked in
    let few = few_pages _ _ _ _ w.words c.shared_slice_known-3-1.given _ c.count_marks.ensures in
    record { fits = omega (arith, few, c.erase_ops.ensures.upper_bound) }

pub returns-in-Continues : goal.returns-in-Continues
returns-in-Continues c =
    record {
      value = λ chip ct fst bst stamps e. rw c.in-Continues.is (none_continues _ _ _ _ _);
      upper_bound = omega arith;
    }

pub returns-in-Opens : goal.returns-in-Opens
returns-in-Opens c =
    record {
      value = λ chip ct fst bst stamps e. rw c.in-Opens.is (none_opens _ _ _ _);
      upper_bound = omega arith;
    }

pub returns-in-Reclaims : goal.returns-in-Reclaims
returns-in-Reclaims c =
    let w = rw c.in-Reclaims.is at c.requires.count_asked in
    let few = few_pages _ _ _ _ w.words c.shared_slice_known-3-1.given _ c.count_marks.ensures in
    record {
      value = λ chip ct fst bst stamps e. rw c.in-Reclaims.is (counted _ _ _ c.requires.p_value _ _ (c.count_marks.ensures _ e) _ c.bt_at-o.ensures.result_value _ c.erase_ops.ensures.value);
      upper_bound = omega (arith, few, c.erase_ops.ensures.upper_bound);
    }

-- Lists of definitions for an `unfolding` line, where a claim about them is computed.
-- Assumes nothing.
use Rattle.lists.specs.Below.{all_below, all_true, count_below, first_below, last_below, least_below, most_below, keep_below, join_below, list_below, bits_below, updated}
use Rattle.lists.specs.Parts.{part, put_part, all_are, same_list}
use Rattle.rules.specs.Parameters.{frames, pages, page_bytes, frame_bytes, block_bytes, chip_bytes, per_region, within, allowed}
use Rattle.rules.specs.Tables.{ct_at, bt_entry, bt_at, fst_at, bst_at, wear_at, word_at, stamp_at}
use Rattle.rules.specs.Pages.{block, frame, page, spare, le32, bytes32, spare_bytes, held, stamp_of, vblock_in, page_used, programmed, whole, holds, filled, is_full, last_in, programmed_down_to}
use Rattle.rules.specs.Regions.{body_at, view_of, assigned, valid, valid_frames, frame_of, sector_in, sector, looks_in, looks_at, region_frames, frame_in, stamp_in, largest_stamp}
use Rattle.rules.specs.Marks.{word_of, entry_of, table_of, marked, marks_in}
use Rattle.rules.specs.Orderly.{
  bst_rule,
  bt_rule,
  once_rule,
  named,
  used_rule,
  free_rule,
  used_pages,
  good_pages,
  good_frame,
  good_up_to,
  block_rule,
  region_blocks,
  blocks_rule,
  full_rule,
  open_rule,
  region_fst,
  fst_rule,
  entry_rule,
  cluster_rule,
  ct_rule,
  marks_rule,
  stamps_to,
  region_stamps,
  stamp_rule,
  rules_of,
  orderly,
}
use Rattle.rules.specs.Traces.{mark_page, on_chip, on_wear, replay_chip, replay_wear, clean, is_program, is_erase, programs_in, erases_in, worn, erase_ops, erased_state, erase_where, frame_ops, frames_ops}
use Rattle.rules.specs.Requests.{lies, item_request, item_requests, lent, lent_answers}
use Rattle.rules.specs.Format.{bad_mark, bad, good_blocks, format_ops, formatted}
use Rattle.rules.specs.Start.{
  in_use,
  region_named,
  vblock_named,
  sound,
  names,
  names_full,
  names_open,
  full_block,
  kept_block,
  left_over,
  start_ops,
  found_bt,
  found_view,
  sound_rule,
  pair_rule,
  is_open,
  open_once,
  same_stamp,
  stamps_apart,
  region_starts,
  startable,
  found_segment,
  found_fst,
  started,
}
use Rattle.rules.specs.Write.{
  has_room,
  lowest_unassigned,
  victim,
  plan_of,
  plan_vblock,
  takes_block,
  copies,
  plan_frame,
  plan_erases,
  new_sector,
  new_page,
  new_frame,
  free_block,
  plan_block,
  victim_ops,
  room_ops,
  plan_ops,
  follow_ct,
  plan_bst,
  next_stamp,
  written_by,
  write_ops,
  written,
}
use Rattle.rules.specs.Release.{released}
use Rattle.rules.specs.Replies.{
  is_accepted,
  lengths_fit,
  bad_parameter,
  wrong_length,
  bad_count,
  bad_address,
  bad_cluster,
  wrong_data,
  too_few_blocks,
  not_orderly,
  not_startable,
  too_few_answers,
  no_stamp_left,
  no_block_left,
  first_row,
  lent_rows,
  access_rows,
  order_row,
  stamp_row,
  block_row,
  early_rows,
  rows_of,
  reply_of,
  why_rows,
  why_reply,
}
use Rattle.rules.specs.Calls.{answer_of, single, refuses, does, read_bytes, write_work, write_all, queue_work, work_of, ops_of, over, answers_in, outcome_of}

-- what the calls are defined by
unfoldable pub all_rules : Unit {0}
unfolding all_below all_true count_below first_below last_below least_below most_below keep_below join_below list_below bits_below updated part put_part all_are same_list frames pages page_bytes
    frame_bytes block_bytes chip_bytes per_region within allowed ct_at bt_entry bt_at fst_at bst_at wear_at word_at stamp_at block frame page spare le32 bytes32 spare_bytes held stamp_of vblock_in page_used programmed whole holds
    filled is_full last_in programmed_down_to body_at view_of assigned valid valid_frames frame_of sector_in sector looks_in looks_at region_frames frame_in stamp_in largest_stamp word_of entry_of table_of marked marks_in bst_rule bt_rule
    once_rule named used_rule free_rule used_pages good_pages good_frame good_up_to block_rule region_blocks blocks_rule full_rule open_rule region_fst fst_rule entry_rule cluster_rule ct_rule marks_rule stamps_to region_stamps stamp_rule
    rules_of orderly mark_page on_chip on_wear replay_chip replay_wear clean is_program is_erase programs_in erases_in worn erase_ops erased_state erase_where frame_ops frames_ops lies item_request item_requests lent lent_answers bad_mark bad
    good_blocks format_ops formatted in_use region_named vblock_named sound names names_full names_open full_block kept_block left_over start_ops found_bt found_view sound_rule pair_rule
    is_open open_once same_stamp stamps_apart region_starts startable found_segment found_fst started has_room lowest_unassigned victim plan_of plan_vblock takes_block copies plan_frame plan_erases new_sector new_page new_frame free_block plan_block victim_ops
    room_ops plan_ops follow_ct plan_bst next_stamp written_by write_ops written released is_accepted lengths_fit bad_parameter wrong_length bad_count bad_address bad_cluster wrong_data too_few_blocks
    not_orderly not_startable too_few_answers no_stamp_left no_block_left first_row lent_rows access_rows order_row stamp_row block_row early_rows rows_of reply_of why_rows why_reply answer_of single refuses does read_bytes write_work write_all queue_work work_of
    ops_of over answers_in outcome_of
all_rules = tt

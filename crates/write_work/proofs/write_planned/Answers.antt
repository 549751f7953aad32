-- `write_work::write_planned`: the search of the state at entry, the plan's room, the old frame found there, the cluster put there, and the marks that follow.
-- In each need `made` is what the call begins with.
-- Assumes nothing.
use mathlib.Core.Path.{◌∙◌}
use Rattle.write_work.proofs.Writes.{sectors, alpha_few, room_asked, lookup_entry, lookup_made, standing, stays, stays_within, copied_few, gives, mark_asked, old_asked}
use Rattle.write_work.proofs.write_planned.Goals as goal

pub cluster_of-c-requires : goal.cluster_of-c-requires
cluster_of-c-requires c =
    let made = c.requires in
    sectors _ _ _ made.accepted

pub find_frame-at-requires : goal.find_frame-at-requires
find_frame-at-requires c =
    let made = c.requires in
    lookup_entry _ _ _ made.accepted _ c.cluster_of-c.ensures

pub make_room-room-requires : goal.make_room-room-requires
make_room-room-requires c =
    let made = c.requires in
    room_asked _ _ _ made.accepted _ made.region _ made.plan _ made.block

pub find_again-old-requires : goal.find_again-old-requires
find_again-old-requires c =
    let made = c.requires in
    let cluster = c.cluster_of-c.ensures in
    let room = c.make_room-room.ensures in
    record {
      lookup = lookup_made _ _ _ made.accepted _ made.region _ made.plan _ _ _ _ _ _ _ _ _ room _ cluster;
      stands = λ still. stays _ _ _ made.accepted _ made.region _ made.plan _ _ _ _ _ _ _ _ _ room _ cluster still _ _ c.find_frame-at.ensures.stands;
      within = λ still. stays_within _ _ _ made.accepted _ made.region _ made.plan _ _ _ _ _ _ _ _ _ room _ cluster still _ _ _ _ c.find_frame-at.ensures.stands c.find_frame-at.ensures.within;
    }

pub put_cluster-requires : goal.put_cluster-requires
put_cluster-requires c =
    let made = c.requires in
    let cluster = c.cluster_of-c.ensures in
    let room = c.make_room-room.ensures in
    record {
      standing = standing _ _ _ made.accepted _ made.region _ made.plan _ _ _ _ _ _ _ _ _ room;
      stands = rw cluster at c.find_again-old.ensures.stands_2;
    }

pub keep_marks-requires : goal.keep_marks-requires
keep_marks-requires c =
    let made = c.requires in
    let cluster = c.cluster_of-c.ensures in
    let room = c.make_room-room.ensures in
    record {
      mark_asked = mark_asked _ _ _ made.accepted _ made.region _ made.plan _ _ _ _ _ _ _ _ _ room;
      unmark_asked = old_asked _ _ _ made.accepted _ made.region _ made.plan _ _ _ _ _ _ _ _ _ room _ _ cluster _ _ _ c.find_again-old.ensures.stands_2 c.find_again-old.ensures.within_2;
    }

pub answered-requires : goal.answered-requires
answered-requires c =
    let made = c.requires in
    let room = c.make_room-room.ensures in
    record {
      alpha_bound = alpha_few _ _ _ made.accepted;
      copied_bound = copied_few _ _ _ made.accepted _ made.region _ made.plan _ _ _ _ _ _ _ _ _ room;
    }

pub shape_of-chip : goal.shape_of-chip
shape_of-chip c = c.chip-2-1.given ∙ c.chip-1.given

pub shape_of-ct : goal.shape_of-ct
shape_of-ct c = c.ct-2-1.given ∙ c.ct-1.given

pub shape_of-bt : goal.shape_of-bt
shape_of-bt c = c.bt-1.given

pub shape_of-fst : goal.shape_of-fst
shape_of-fst c = c.fst-1.given

pub shape_of-bst : goal.shape_of-bst
shape_of-bst c = c.bst-1.given

pub shape_of-wear : goal.shape_of-wear
shape_of-wear c = c.wear-1.given

pub shape_of-marks : goal.shape_of-marks
shape_of-marks c = c.marks-1.given

pub shape_of-stamps : goal.shape_of-stamps
shape_of-stamps c = c.stamps-1.given

pub returns : goal.returns
returns c =
    let made = c.requires in
    let cluster = c.cluster_of-c.ensures in
    let room = c.make_room-room.ensures in
    gives _ _ _ made.accepted _ made.region _ made.plan _ _ _ _ _ _ _ _ _ room _ _ cluster _ _ _ c.find_again-old.ensures.stands_2 c.find_again-old.ensures.within_2 _ c.find_frame-at.ensures.looked _ _ _ _ _ _
    c.put_cluster.ensures c.keep_marks.ensures c.answered.ensures

-- `cut_write::cut`: within the room only copies are made; behind it the room is made whole, and pages of the new frame. The tables are lost in either case, so that
-- only their lengths matter.
-- Assumes nothing.
use mathlib.Core.Path.{refl, sym, ap, ◌∙◌}
use native.Mathlib.Omega.{arith}
use Rattle.rules.specs.Numbers.{region_of}
use Rattle.cut_write.proofs.Leaves.{copies_asked, lookup_asked, lost_pages, lost_room, pages_few, put_asked, room_asked, sectors}
use Rattle.cut_write.proofs.cut.Goals as goal

pub cut_room-requires : goal.cut_room-requires
cut_room-requires c =
    record {
      copies_asked = copies_asked _ _ _ _ _ _ _ _ c.requires;
      k_lt_room = c.if-k-room.true;
    }

pub returns-then-k-room : goal.returns-then-k-room
returns-then-k-room c =
    let left = lost_room _ _ _ _ _ _ _ _ c.requires _ _ _ _ _ _ _ _ _ _ _ _ _ _ c.lose.ensures refl refl refl refl refl refl c.if-k-room.true c.cut_room.ensures in
    record {
      answer_value = c.spent.ensures.answer_value;
      left_value = c.spent.ensures.left_value;
      stamps_value = left;
    }

pub make_room-made-requires : goal.make_room-made-requires
make_room-made-requires c = room_asked _ _ _ _ _ _ _ _ c.requires

pub cluster_of-c-requires : goal.cluster_of-c-requires
cluster_of-c-requires c = sectors _ _ _ _ _ _ _ _ c.requires

pub find_frame-old-requires : goal.find_frame-old-requires
find_frame-old-requires c = lookup_asked _ _ _ _ _ _ _ _ c.requires _ _ _ _ _ _ _ _ _ c.make_room-made.ensures _ c.cluster_of-c.ensures

pub put_pages-requires : goal.put_pages-requires
put_pages-requires c =
    let same = c.cluster_of-c.ensures in
    record {
      c_value = same;
      r_value = c.requires.made.region ∙ sym (ap (region_of c.args.p) same);
      pages_asked = put_asked _ _ _ _ _ _ _ _ c.requires _ _ _ _ _ _ _ _ _ c.make_room-made.ensures _ _ (rw same at c.find_frame-old.ensures.stands);
      m_le_alpha = pages_few _ _ _ _ _ _ _ _ c.requires;
    }

pub shape_of-chip : goal.shape_of-chip
shape_of-chip c = c.chip-3-1.given ∙ c.chip-2-1.given

pub shape_of-ct : goal.shape_of-ct
shape_of-ct c = c.ct-3-1.given ∙ c.ct-2-1.given

pub shape_of-bt : goal.shape_of-bt
shape_of-bt c = c.bt-3-1.given ∙ c.bt-2-1.given

pub shape_of-bst : goal.shape_of-bst
shape_of-bst c = c.bst-3-1.given ∙ c.bst-2-1.given

pub shape_of-wear : goal.shape_of-wear
shape_of-wear c = c.wear-2-1.given

pub returns : goal.returns
returns c =
    record {
      answer_value = c.spent-2.ensures.answer_value;
      left_value = c.spent-2.ensures.left_value;
      stamps_value = lost_pages _ _ _ _ _ _ _ _ c.requires _ _ _ _ _ _ _ _ _ _ _ _ _ _ c.lose-2.ensures c.ct-2-1.given c.bt-2-1.given refl c.bst-2-1.given refl
          c.stamps-2-1.given (omega (arith, c.if-k-room.false)) _ _ _ _ _ _ _ _ _ c.make_room-made.ensures _ _ (rw c.cluster_of-c.ensures at c.find_frame-old.ensures.stands)
          c.put_pages.ensures;
    }

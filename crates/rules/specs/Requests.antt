-- The calls as one type, with the data and the answers that are lent with them.
-- Assumes nothing.
use Rattle.std.specs.Prelude.{ℕ, ◌+◌, ◌*◌, Bool, cond, List, [], map, leb, length, take, drop}
use Rattle.rules.specs.declared.Params.{Params}
use Rattle.rules.specs.declared.Answer.{Answer}
use Rattle.rules.specs.declared.Item.{Item}
use Rattle.rules.specs.Numbers.{cluster_of, region_of}

-- an access: its LBA, its count, and the lent data as it is at entry
pub record Request : Type 0 where
  pub lba : ℕ
  pub count : ℕ
  pub bytes : List ℕ

-- as it is lent
abbrev pub request_of : ℕ → ℕ → List ℕ → Request
request_of lba count bytes = record { lba = lba; count = count; bytes = bytes }

abbrev pub request_cluster : Params → Request → ℕ
request_cluster p q = cluster_of p q.lba

abbrev pub request_region : Params → Request → ℕ
request_region p q = region_of p (request_cluster p q)

-- T-01: "a list of write requests, each with LBA, count and its first byte in one data part", and "a list of answers" as it is lent
pub record Queue : Type 0 where
  pub items : List Item
  pub bytes : List ℕ
  pub answers : List Answer

-- as they are lent, one after the other
abbrev pub queue_of : List Item → List ℕ → List Answer → Queue
queue_of items bytes answers = record { items = items; bytes = bytes; answers = answers }

abbrev pub item_of : ℕ → ℕ → ℕ → Item
item_of lba count first = record { lba = lba; count = count; first = first }

-- the item's "count × s bytes" lie in the data part
unfoldable pub lies : Params → List ℕ → Item → Bool
lies p bytes it = leb (it.first + it.count * p.s) (length bytes)

-- the write that an item asks for, with those bytes. "An item whose count × s bytes do not lie there gets reply 5, in its turn": it is a write without data
unfoldable pub item_request : Params → List ℕ → Item → Request
item_request p bytes it =
    record { lba = it.lba; count = it.count; bytes = cond (lies p bytes it) (take (it.count * p.s) (drop it.first bytes)) [] }

-- "single writes in list order"
unfoldable pub item_requests : Params → List ℕ → List Item → List Request
item_requests p bytes items = map (item_request p bytes) items

-- the calls of documents 01 and 02; a release is of one cluster
pub data Call : Type 0 where
  format : Call
  read : Request → Call
  write : Request → Call
  release : ℕ → Call
  queue : Queue → Call
  start : Call

-- the data that is lent with a call
unfoldable pub lent : Call → List ℕ
lent format = []
lent (read q) = q.bytes
lent (write q) = q.bytes
lent (release c) = []
lent (queue l) = l.bytes
lent start = []

-- and the answer list
unfoldable pub lent_answers : Call → List Answer
lent_answers format = []
lent_answers (read q) = []
lent_answers (write q) = []
lent_answers (release c) = []
lent_answers (queue l) = l.answers
lent_answers start = []

-- The head of a queue: what the call is answered as a whole, and what is then known before the first item.
-- Assumes nothing.
use Rattle.std.specs.Prelude.{ℕ, ◌/◌, ◌%◌, ◌≤◌, ◌≡◌, ◌≢◌, Bool, true, not, cond, eqb, Result, MatchResult}
use Rattle.rules.specs.declared.Params.{Params}
use Rattle.rules.specs.declared.Reply.{Reply}
use Rattle.rules.specs.declared.Reply.TheVariants.{Accepted, BadParameter, WrongLength}
use Rattle.rules.specs.Parameters.{allowed}
use Rattle.rules.specs.Orderly.{orderly}
use Rattle.rules.specs.Replies.{bad_parameter, first_row, lengths_fit, queue_rows}
use Rattle.rules.specs.Tables.{Board}
use Rattle.queue_head.specs.declared.Head.{Head}

-- the parameters are allowed, the lengths fit, and the flag says whether the state is orderly
pub record Ready (p : Params) (ordered : Bool) (b : Board) : Type 0 where
  pub fine : allowed p ≡ true
  pub lengths : lengths_fit p b ≡ true
  pub order : ordered ≡ orderly p b

-- what the head of a call that is let through says of a queue of that many items and places for answers: all items are to be served
pub record Serves (p : Params) (b : Board) (items answers : ℕ) (h : Head) : Type 0 where
  pub counted : h.items ≡ items
  pub room : items ≤ answers
  pub ready : Ready p h.ordered b

-- the head of a call with that reply: it serves all items exactly if that is 0, and else refuses with it
abbrev pub HeadBy : Reply → Params → Board → ℕ → ℕ → Result Head Reply → Type 0
HeadBy r p b items answers h = MatchResult h (λ x. (r ≡ Accepted) × Serves p b items answers x) (λ e. (r ≡ e) × (r ≢ Accepted))

-- the head of a queue
abbrev pub HeadIs : Params → Board → ℕ → ℕ → Result Head Reply → Type 0
HeadIs p b items answers = HeadBy (first_row Accepted (queue_rows p b items answers)) p b items answers

-- ---- from C's flat list

-- "a list whose length is no multiple of three is reply 2", after 1; by the lengths of both lists
unfoldable pub flat_reply : Params → Board → ℕ → ℕ → Reply
flat_reply p b numbers answers =
    cond (bad_parameter p) BadParameter (cond (not (eqb (numbers % 3) 0)) WrongLength (first_row Accepted (queue_rows p b (numbers / 3) answers)))

-- the head of such a queue, three numbers to a request
abbrev pub FlatHead : Params → Board → ℕ → ℕ → Result Head Reply → Type 0
FlatHead p b numbers answers = HeadBy (flat_reply p b numbers answers) p b (numbers / 3) answers

-- What an accepted read asks, and its work done.
-- Assumes nothing.
use mathlib.Core.Path.{◌≡◌, sym, ap, ◌∙◌}
use mathlib.Core.List.{List, []}
use Prim.Native.Nat.{ℕ}
use Rattle.rules.specs.declared.Params.{Params}
use Rattle.rules.specs.declared.Reply.TheVariants.{Accepted}
use Rattle.rules.specs.declared.Answer.{Answer}
use Rattle.rules.specs.Tables.{Board}
use Rattle.rules.specs.Regions.{looks_at}
use Rattle.rules.specs.Requests.{Request, read, request_cluster}
use Rattle.rules.specs.Replies.{reply_of}
use Rattle.rules.specs.Calls.{answer_of, outcome_of, read_bytes}
use Rattle.rules.proofs.Admitted.{admitted, read_checks}
use Rattle.rules.proofs.Outcomes.{read_accepted}
use Rattle.read_work.specs.Lookup.{Looked}
use Rattle.read_work.specs.Sectors.{ReadAsked}
use Rattle.read_work.proofs.Requests.{read_asked}
use Rattle.outcomes.specs.Claims.{outcome}

module _ (p : Params) (b : Board) (q : Request) (e : reply_of p b (read q) ≡ Accepted) where
  pub asked : ReadAsked p b.chip b.ct b.bt q.lba q.count q.bytes
  asked = read_asked p b q (admitted p b q (read_checks p b q e))

  pub read_done : (bytes : List ℕ) → bytes ≡ read_bytes p b q → (looks : ℕ) → Looked p b.chip b.ct b.bt (request_cluster p q) looks
      → (a : Answer) → a ≡ answer_of Accepted [] looks → outcome a bytes [] b ≡ outcome_of p b (read q)
  read_done bytes d looks k a is =
      let n : looks ≡ looks_at p b (request_cluster p q) = unfold looks_at in k.is b.fst in
      (λ i. outcome ((is ∙ ap (answer_of Accepted []) n) i) (d i) [] b) ∙ sym (read_accepted p b q e)

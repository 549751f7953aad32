-- T-10's figure on Board T and a run that reaches it: tests that antt computes, and a law that turns each into an equation.
-- Assumes nothing.
use mathlib.Core.Path.{◌≡◌, refl}
use mathlib.Core.Bool.{true}
use mathlib.Core.List.{[], ◌∷◌, ◌++◌}
use lib.ListN.{replicate}
use Rattle.lists.specs.Parts.{same_list}
use Rattle.lists.proofs.Joins.{same_list→eq}
use Rattle.rules.specs.declared.Reply.TheVariants.{Accepted}
use Rattle.rules.specs.Requests.{format}
use Rattle.rules.specs.Replies.{reply_of}
use Rattle.cases.specs.BoardT.{board_t, params_t}
use Rattle.rules.proofs.Names.{all_rules}
use Rattle.rules.specs.Cuts.{step_outcome}
use Rattle.claims.specs.Runs.{leaves, parts_by, parts_of, parts_to, to_region}
use Rattle.erases.specs.Erases.{accepted_writes, clusters_in, erases_by, is_write, rounded_up, spare_share, total}
use Rattle.erases.specs.Reached.{BoundReached, FiguresT, blank_small, figures, mixed, mixed_erases, puts, small}

pub figures_t : FiguresT
unfolding figures clusters_in spare_share rounded_up all_rules board_t params_t
figures_t = record { first = refl; second = refl }

first_test : same_list (mixed_erases 0) (replicate 6 0 ++ (1 ∷ 0 ∷ 1 ∷ [])) ≡ true
unfolding all_rules mixed_erases mixed puts blank_small small erases_by accepted_writes is_write parts_of parts_by parts_to to_region leaves step_outcome
first_test = refl

second_test : same_list (mixed_erases 1) (replicate 6 0 ++ (1 ∷ 0 ∷ 0 ∷ 1 ∷ [])) ≡ true
unfolding all_rules mixed_erases mixed puts blank_small small erases_by accepted_writes is_write parts_of parts_by parts_to to_region leaves step_outcome
second_test = refl

accepts : reply_of small blank_small format ≡ Accepted
unfolding all_rules blank_small small
accepts = refl

pub bound_reached : BoundReached
unfolding figures clusters_in spare_share rounded_up total all_rules small
bound_reached =
    record {
      formatted = accepts;
      first = record { figure = refl; erases = same_list→eq _ _ first_test; long = refl; two = refl; allowed = refl };
      second = record { figure = refl; erases = same_list→eq _ _ second_test; long = refl; two = refl; allowed = refl };
    }

-- `write_work::write_orderly`: the plan and its block of the state at entry; by the block it is refused, or done.
-- Assumes nothing.
use mathlib.Core.Path.{ap, refl, ◌∙◌}
use mathlib.Core.List.{[]}
use native.Mathlib.Omega.{arith}
use Rattle.rules.specs.Numbers.{region_of}
use Rattle.write_work.proofs.Chosen.{sectors, marks_full, plan_asked, plan_is_lem, lookup_entry, block_asked, block_is, none_left, one_left, checked, accepted, left_alone}
use Rattle.write_work.proofs.write_orderly.Goals as goal

pub cluster_of-requires : goal.cluster_of-requires
cluster_of-requires c = sectors _ _ _ (checked _ _ _ c.requires)

pub region_of-r-requires : goal.region_of-r-requires
region_of-r-requires c =
    let look = lookup_entry _ _ _ (checked _ _ _ c.requires) _ c.cluster_of.ensures in
    record {
      p_value = look.fine;
      c_lt_c = look.low;
    }

pub plan_of-pl-requires : goal.plan_of-pl-requires
plan_of-pl-requires c =
    let region = c.region_of-r.ensures ∙ ap (region_of c.args.p) c.cluster_of.ensures in
    record {
      plan_asked = plan_asked _ _ _ (checked _ _ _ c.requires) _ region;
      marks_len = marks_full _ _ _ (checked _ _ _ c.requires);
    }

pub plan_block-requires : goal.plan_block-requires
plan_block-requires c =
    let region = c.region_of-r.ensures ∙ ap (region_of c.args.p) c.cluster_of.ensures in
    let checks = checked _ _ _ c.requires in
    block_asked _ _ _ checks _ region _ (plan_is_lem _ _ _ checks _ region _ c.plan_of-pl.ensures)

pub returns-in_default : goal.returns-in_default
returns-in_default c =
    let region = c.region_of-r.ensures ∙ ap (region_of c.args.p) c.cluster_of.ensures in
    let checks = checked _ _ _ c.requires in
    let plan = plan_is_lem _ _ _ checks _ region _ c.plan_of-pl.ensures in
    left_alone _ _ _ c.requires (none_left _ _ _ checks _ region _ plan _ refl (c.in_default.ensures _ _ _ _ _)) _ c.no_block_left.ensures

pub write_planned-requires : goal.write_planned-requires
write_planned-requires c =
    let region = c.region_of-r.ensures ∙ ap (region_of c.args.p) c.cluster_of.ensures in
    let checks = checked _ _ _ c.requires in
    let plan = plan_is_lem _ _ _ checks _ region _ c.plan_of-pl.ensures in
    let block = (c.in-Some.ensures _ _ _ _ _).0 in
    record {
      accepted = accepted _ _ _ c.requires (one_left _ _ _ checks _ region _ plan _ block (λ e. omega (arith, (c.in-Some.ensures [] [] [] [] []).1)));
      region = region;
      plan = plan;
      block = block_is _ _ _ checks _ region _ plan _ block;
    }

pub returns : goal.returns
returns c = c.write_planned.ensures

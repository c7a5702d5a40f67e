use Rattle.std.proofs.Common.{◌≡◌, drop}
use Rattle.part_model.specs.Script.{advance_past_numbers}
use Rattle.session_scripts.proofs.progress.pass_over.Given as goal

-- what is left of the items leads to the end that all of them led to
abbrev pub invariant-loop-item : goal.invariant-loop-item
invariant-loop-item l = advance_past_numbers (drop l.item-index l.items) l.progress l.told
    ≡ advance_past_numbers l.initial.items l.initial.progress l.initial.told

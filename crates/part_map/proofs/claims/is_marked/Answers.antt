use Rattle.std.proofs.Common.{◌∙◌, ap, get_or, Bool, false, List}
use Rattle.part_map.proofs.ClaimLemmas.{marked_there, unmarked_past}
use Rattle.part_map.proofs.claims.is_marked.Goals as goal

pub returns-in-Some : goal.returns-in-Some
returns-in-Some c =
    c.is_set.ensures ∙ ap (λ (m : List Bool). get_or m c.args.part false) c.as_slice.ensures
    ∙ marked_there c.args.table.now c.args.place c.args.part c.in-Some.marks.now c.in-Some.ensures.value

pub returns-in-None : goal.returns-in-None
returns-in-None c = unmarked_past c.args.table.now c.args.place c.args.part c.in-None.ensures.value
